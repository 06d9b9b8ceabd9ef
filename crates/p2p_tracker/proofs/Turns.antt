-- The grants of a step are of keys that aren't held.
use Rattle.std.proofs.Common.{◌≡◌, ℕ, true, List, [], ◌∷◌, Option, Some, None, refl}
use Rattle.std.specs.declared.cmp.Ordering.{Ordering}
use Rattle.p2p_address.specs.declared.peer.Address.{Address}
use Rattle.p2p_tracker_calls.specs.declared.call.Call.{Call}
use Rattle.p2p_tracker_calls.specs.declared.call.Call.TheVariants as call
use Rattle.p2p_tracker_calls.specs.Rules.{Rules}
use Rattle.p2p_tracker_calls.specs.Turns.{grants_none_held}
use Rattle.p2p_tracker_calls.proofs.Alternating.{grants_none_held-dial, grants_none_held-listen}
use Rattle.p2p_tracker_mailbox.specs.declared.message.Message.{Message}
use Rattle.p2p_tracker_mailbox.specs.declared.message.Message.TheVariants as message
use Rattle.p2p_tracker.specs.Serving.{calls_after, calls_by}
use Rattle.p2p_tracker_calls.specs.Overwrites.{overwritten}
use Rattle.p2p_tracker.specs.declared.stepped.Stepped.{Stepped}
use Rattle.p2p_tracker.specs.declared.stepped.Stepped.TheVariants as stepped

module _ {P : Type 0} (cmp : P → P → Ordering) where
  grants_none_held-overwritten : (es : List (P × Address)) (calls : List (Call P)) → grants_none_held cmp calls ≡ true → grants_none_held cmp (overwritten es calls) ≡ true
  unfolding overwritten grants_none_held
  grants_none_held-overwritten [] calls h = h
  grants_none_held-overwritten (e ∷ es) calls h = grants_none_held-overwritten es (call.Overwrite e.0 e.1 ∷ calls) h

module _ {P : Type 0} (cmp : P → P → Ordering) (rules : Rules P) where
  grants_none_held-after : (m : Message P) (now jitter : ℕ) (calls : List (Call P)) → grants_none_held cmp calls ≡ true → grants_none_held cmp (calls_after cmp rules m now jitter calls) ≡ true
  unfolding grants_none_held
  grants_none_held-after (message.Register index peers) now jitter calls h = h
  grants_none_held-after (message.Overwrite peers) now jitter calls h = grants_none_held-overwritten cmp peers calls h
  grants_none_held-after (message.PeerSet index ticket) now jitter calls h = h
  grants_none_held-after (message.Subscribe ticket) now jitter calls h = h
  grants_none_held-after (message.Block k) now jitter calls h = h
  grants_none_held-after (message.SubscribeBlocked ticket) now jitter calls h = h
  grants_none_held-after (message.Connect k conn) now jitter calls h = h
  grants_none_held-after message.Dialable now jitter calls h = h
  grants_none_held-after (message.Dial k) now jitter calls h = grants_none_held-dial cmp rules calls k now jitter _ refl h
  grants_none_held-after (message.Acceptable k source handshake) now jitter calls h = h
  grants_none_held-after (message.Listen k source handshake) now jitter calls h = grants_none_held-listen cmp rules calls k source now jitter _ refl h
  grants_none_held-after (message.Release m) now jitter calls h = h

  -- no step grants a key that is held
  pub grants_none_held-by : (s : Stepped P) (o : Option (Message P)) (now jitter : ℕ) (calls : List (Call P)) → grants_none_held cmp calls ≡ true → grants_none_held cmp (calls_by cmp rules s o now jitter calls) ≡ true
  unfolding grants_none_held
  grants_none_held-by stepped.Idle o now jitter calls h = h
  grants_none_held-by (stepped.EndedBlocks put) o now jitter calls h = h
  grants_none_held-by (stepped.Message put) None now jitter calls h = h
  grants_none_held-by (stepped.Message put) (Some m) now jitter calls h = grants_none_held-after m now jitter calls h
