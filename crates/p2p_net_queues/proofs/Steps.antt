-- One more element of a list that a loop goes through.
use Rattle.std.proofs.Common.{◌≡◌, ℕ, zero, suc, ◌+◌, ◌<◌, List, [], ◌∷◌, length, drop, refl, arith}
use Rattle.p2p_base.specs.declared.key.Key.{Key}
use Rattle.p2p_log.specs.declared.end.Cause.{Cause}
use Rattle.p2p_log.specs.declared.end.End.TheVariants as end
use Rattle.p2p_log.specs.declared.end.Outcome.{Outcome}
use Rattle.p2p_log_rules.specs.Effect.{copies_end}
use Rattle.p2p_net_queues.specs.Rows.{dropped, sent_dropped}

pub copies_end-drop :
    (send p i : ℕ) (to : List Key) (o : Outcome) → i < length to
    → copies_end send p (drop i to) o ≡ end.Copy send p o ∷ copies_end send (p + 1) (drop (suc i) to) o
copies_end-drop send p i [] o h = absurd (omega arith)
copies_end-drop send p zero (k ∷ ks) o h = refl
copies_end-drop send p (suc i) (k ∷ ks) o h = copies_end-drop send p i ks o (omega arith)

pub sent_dropped-drop :
    (c : Cause) (send p i : ℕ) (to : List Key) → i < length to
    → sent_dropped c send p (drop i to) ≡ dropped c (send, p) ∷ sent_dropped c send (p + 1) (drop (suc i) to)
sent_dropped-drop c send p i [] h = absurd (omega arith)
sent_dropped-drop c send p zero (k ∷ ks) h = refl
sent_dropped-drop c send p (suc i) (k ∷ ks) h = sent_dropped-drop c send p i ks (omega arith)
