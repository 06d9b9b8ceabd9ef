-- What a step may take, by the records of its directory.
use Rattle.std.proofs.Common.{◌≡◌, ℕ, Bool, true, false, ◌||◌, Option, Some, None, IfSome, sym, ◌∙◌}
use Rattle.std.proofs.lemmas.Bool.{false≢true}
use Rattle.std.specs.declared.cmp.Ordering.{Ordering}
use Rattle.p2p_tracker_directory.specs.Stands.{Kept}
use Rattle.p2p_tracker_mailbox.specs.declared.message.Message.{Message}
use Rattle.p2p_tracker_mailbox.specs.declared.message.Message.TheVariants as message
use Rattle.p2p_tracker.specs.Serving.{IsQuietIn, MayTake, is_allowed, is_next_allowed}

module _ {P : Type 0} (cmp : P → P → Ordering) (kept : Kept P) where
  allowed-may : (m : Message P) → is_allowed cmp kept m ≡ true → (now : ℕ) → MayTake cmp kept m now
  allowed-may (message.Connect k conn) is now = λ _. is
  allowed-may (message.Release m) is now = is
  allowed-may (message.Register index peers) is now = tt
  allowed-may (message.Overwrite peers) is now = tt
  allowed-may (message.PeerSet index ticket) is now = tt
  allowed-may (message.Subscribe ticket) is now = tt
  allowed-may (message.Block k) is now = tt
  allowed-may (message.SubscribeBlocked ticket) is now = tt
  allowed-may message.Dialable is now = tt
  allowed-may (message.Dial k) is now = tt
  allowed-may (message.Acceptable k source handshake) is now = tt
  allowed-may (message.Listen k source handshake) is now = tt

  next-may : (o : Option (Message P)) → is_next_allowed cmp kept o ≡ true → (now : ℕ) → IfSome o (λ m. MayTake cmp kept m now)
  next-may None is now = tt
  next-may (Some m) is now = allowed-may m is now

  unless_failed : (failed : Bool) (o : Option (Message P)) → (failed || is_next_allowed cmp kept o) ≡ true → failed ≡ false → is_next_allowed cmp kept o ≡ true
  unless_failed true o is working = absurd (false≢true (sym working))
  unless_failed false o is working = is

  -- where a tracker that hasn't failed allows the message that waits, a step may take it
  pub may_take_by : (failed b : Bool) (o : Option (Message P)) → b ≡ (failed || is_next_allowed cmp kept o) → b ≡ true → (now : ℕ) → failed ≡ false → IsQuietIn cmp kept now
      → IfSome o (λ m. MayTake cmp kept m now)
  may_take_by failed b o told is now working quiet = next-may o (unless_failed failed o (sym told ∙ is) working) now
