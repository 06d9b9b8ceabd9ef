-- The moments of the connections that a step takes in.
use Rattle.std.proofs.Common.{◌≡◌, ℕ, true, false, ◌&&◌, not, List, [], ◌∷◌, Option, Some, None, ap, ◌∙◌, arith}
use Rattle.std.proofs.lemmas.Bool.Decides.{nat_tests}
use Rattle.std.specs.Prelude.{nat_lt}
use Rattle.std.specs.declared.cmp.Ordering.{Ordering}
use Rattle.p2p_address.specs.declared.peer.Address.{Address}
use Rattle.p2p_tracker_calls.specs.declared.call.Call.{Call}
use Rattle.p2p_tracker_calls.specs.declared.call.Call.TheVariants as call
use Rattle.p2p_tracker_calls.specs.Rules.{Rules}
use Rattle.p2p_tracker_calls.specs.Keeping.{all_connect_by}
use Rattle.p2p_tracker_mailbox.specs.declared.message.Message.{Message}
use Rattle.p2p_tracker_mailbox.specs.declared.message.Message.TheVariants as message
use Rattle.p2p_tracker.specs.Serving.{calls_after, calls_by}
use Rattle.p2p_tracker_calls.specs.Overwrites.{overwritten}
use Rattle.p2p_tracker.specs.declared.stepped.Stepped.{Stepped}
use Rattle.p2p_tracker.specs.declared.stepped.Stepped.TheVariants as stepped

not_before : (t : ℕ) → nat_lt t t ≡ false
not_before t = grind (arith, nat_tests)

module _ {P : Type 0} where
  come-overwritten : (es : List (P × Address)) (calls : List (Call P)) (now : ℕ) → all_connect_by now calls ≡ true → all_connect_by now (overwritten es calls) ≡ true
  unfolding overwritten
  come-overwritten [] calls now h = h
  come-overwritten (e ∷ es) calls now h = come-overwritten es (call.Overwrite e.0 e.1 ∷ calls) now h

module _ {P : Type 0} (cmp : P → P → Ordering) (rules : Rules P) where
  come-after : (m : Message P) (now jitter : ℕ) (calls : List (Call P)) → all_connect_by now calls ≡ true → all_connect_by now (calls_after cmp rules m now jitter calls) ≡ true
  come-after (message.Register index peers) now jitter calls h = h
  come-after (message.Overwrite peers) now jitter calls h = come-overwritten peers calls now h
  come-after (message.PeerSet index ticket) now jitter calls h = h
  come-after (message.Subscribe ticket) now jitter calls h = h
  come-after (message.Block k) now jitter calls h = h
  come-after (message.SubscribeBlocked ticket) now jitter calls h = h
  come-after (message.Connect k conn) now jitter calls h = ap (λ b. not b && all_connect_by now calls) (not_before now) ∙ h
  come-after message.Dialable now jitter calls h = h
  come-after (message.Dial k) now jitter calls h = h
  come-after (message.Acceptable k source handshake) now jitter calls h = h
  come-after (message.Listen k source handshake) now jitter calls h = h
  come-after (message.Release m) now jitter calls h = h

  -- a step's connection has the step's moment
  pub come-by : (s : Stepped P) (o : Option (Message P)) (now jitter : ℕ) (calls : List (Call P)) → all_connect_by now calls ≡ true → all_connect_by now (calls_by cmp rules s o now jitter calls) ≡ true
  come-by stepped.Idle o now jitter calls h = h
  come-by (stepped.EndedBlocks put) o now jitter calls h = h
  come-by (stepped.Message put) None now jitter calls h = h
  come-by (stepped.Message put) (Some m) now jitter calls h = come-after m now jitter calls h
