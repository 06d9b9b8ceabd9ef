-- The shape of a spawner's step: it moves no copy.
use Rattle.std.proofs.Common.{◌≡◌, ℕ, Bool, true, false, cond, List, [], ◌∷◌, refl}
use Rattle.p2p_log.specs.declared.config.Config.{Config}
use Rattle.p2p_log.specs.declared.queue.Queue.TheVariants as queue
use Rattle.p2p_log.specs.declared.item.Envelope.{Envelope}
use Rattle.p2p_log.specs.declared.entry.Entry.{Entry}
use Rattle.p2p_log.specs.declared.entry.Reply.TheVariants as reply
use Rattle.p2p_log.specs.declared.event.Act.TheVariants as act
use Rattle.p2p_log.specs.Lines.{line}
use Rattle.p2p_log.proofs.Queues.{same_queue-refl}
use Rattle.p2p_log_rules.specs.Facts.{is_up}
use Rattle.p2p_log_rules.specs.Rows.{only, takes_oldest}
use Rattle.p2p_log_rules.specs.Spawning.{spawner_row}
use Rattle.p2p_log_laws.proofs.LineShape.{gone_on_shape}
use Rattle.p2p_log_laws.proofs.Shape.{Shape, still}

module _ (configs : List Config) (log : List Entry) (n : ℕ) where
  taken_shape : (xs : List Envelope) → line log (queue.Spawner n) ≡ xs → Shape configs log (act.Spawner n) (takes_oldest xs)
  taken_shape [] none = still configs log (act.Spawner n) reply.Idle refl refl
  taken_shape (x ∷ rest) first = gone_on_shape configs log (act.Spawner n) (queue.Spawner n) (same_queue-refl (queue.Spawner n)) refl (λ r. refl) x rest first

  pub spawner_shape : Shape configs log (act.Spawner n) (spawner_row log n)
  spawner_shape = by_up (is_up log n)
    where
      by_up : (b : Bool) → Shape configs log (act.Spawner n) (cond b (takes_oldest (line log (queue.Spawner n))) (only reply.Gone))
      by_up true = taken_shape (line log (queue.Spawner n)) refl
      by_up false = still configs log (act.Spawner n) reply.Gone refl refl
