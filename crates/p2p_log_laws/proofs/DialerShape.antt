-- The shape of a dialer's step: it moves no copy.
use Rattle.std.proofs.Common.{◌≡◌, ℕ, Bool, true, false, cond, List, [], ◌∷◌, Option, Some, None, refl}
use Rattle.std.specs.Prelude.{◌&&◌, not, nat_le}
use Rattle.std.specs.List.{AllByRecursion as Each}
use Rattle.p2p_base.specs.declared.key.Key.{Key}
use Rattle.p2p_log.specs.declared.config.Config.{Config}
use Rattle.p2p_log.specs.declared.queue.Queue.{Queue}
use Rattle.p2p_log.specs.declared.queue.Queue.TheVariants as queue
use Rattle.p2p_log.specs.declared.item.Item.{Item}
use Rattle.p2p_log.specs.declared.item.Item.TheVariants as item
use Rattle.p2p_log.specs.declared.item.Envelope.{Envelope}
use Rattle.p2p_log.specs.declared.entry.Entry.{Entry}
use Rattle.p2p_log.specs.declared.entry.Reply.TheVariants as reply
use Rattle.p2p_log.specs.declared.event.Act.TheVariants as act
use Rattle.p2p_log.specs.Lines.{name_of, line}
use Rattle.p2p_log_rules.specs.declared.row.Row.{Row}
use Rattle.p2p_log_rules.specs.Facts.{is_up}
use Rattle.p2p_log_rules.specs.Rows.{only}
use Rattle.p2p_log_rules.specs.Dialing.{Dials, dials_of, in_drawn_order, last_key, dial_puts, dials_row, answer_taken_row, due_row, dialer_turn, dialer_row}
use Rattle.p2p_log.proofs.Queues.{same_queue-refl}
use Rattle.p2p_log_laws.proofs.Reaching.{writes}
use Rattle.p2p_log_laws.proofs.LineShape as shapes
use Rattle.p2p_log_laws.proofs.Shape.{Shape, IsQuiet, quiet_laws, still, no_moves}

module _ (configs : List Config) (log : List Entry) (n : ℕ) where
  quiet_dial : (o : Option Key) → Each IsQuiet (dial_puts n o)
  quiet_dial None = tt
  quiet_dial (Some k) = ((refl, refl), tt)

  near_dial : (o : Option Key) → Each (λ x. writes configs log (act.Dialer n) x.0 ≡ true) (dial_puts n o)
  near_dial None = tt
  near_dial (Some k) = (same_queue-refl (queue.Tracker n), tt)

  -- an answer is taken
  taken_shape : (x : Envelope) (rest : List Envelope) (puts : List (Queue × Item)) → line log (queue.Dialer n) ≡ x ∷ rest → Each IsQuiet puts → Each (λ p. writes configs log (act.Dialer n) p.0 ≡ true) puts
      → Shape configs log (act.Dialer n) (record { reply = reply.Ok; takes = name_of x ∷ []; puts = puts; ends = [] })
  taken_shape x rest puts first quiet near =
      shapes.asking_shape configs log (act.Dialer n) (queue.Dialer n) (same_queue-refl (queue.Dialer n)) refl (λ r. refl) x rest first puts quiet near

  -- nothing is taken
  asking_shape : (puts : List (Queue × Item)) → Each IsQuiet puts → Each (λ p. writes configs log (act.Dialer n) p.0 ≡ true) puts
      → Shape configs log (act.Dialer n) (record { reply = reply.Ok; takes = []; puts = puts; ends = [] })
  asking_shape puts quiet near =
      let r : Row = record { reply = reply.Ok; takes = []; puts = puts; ends = [] } in
      record {
        moves = no_moves log r refl refl;
        reach = record { taken = tt; ended = tt; puts = near };
        laws = λ fitting. quiet_laws configs log (act.Dialer n) r (no_moves log r refl refl) refl refl tt tt tt quiet;
      }

  dials_shape : (x : Envelope) (rest : List Envelope) → line log (queue.Dialer n) ≡ x ∷ rest → (peers : List Key) → Shape configs log (act.Dialer n) (dials_row n (name_of x ∷ []) peers)
  dials_shape x rest first peers = taken_shape x rest (dial_puts n (last_key peers)) first (quiet_dial (last_key peers)) (near_dial (last_key peers))

  answered_shape : (seed : ℕ) (d : Dials) (x : Envelope) (rest : List Envelope) → line log (queue.Dialer n) ≡ x ∷ rest → (i : Item) → Shape configs log (act.Dialer n) (answer_taken_row n seed d (name_of x) i)
  answered_shape seed d x rest first (item.Dialable next peers) = dials_shape x rest first (in_drawn_order seed peers)
  answered_shape seed d x rest first (item.Dial None) = dials_shape x rest first d.peers
  answered_shape seed d x rest first (item.Dial (Some grant)) = taken_shape x rest [] first tt tt
  answered_shape seed d x rest first _ = still configs log (act.Dialer n) reply.Idle refl refl

  due_shape : (peers : List Key) → Shape configs log (act.Dialer n) (due_row n peers)
  due_shape [] = asking_shape ((queue.Tracker n, item.AskDialable) ∷ []) ((refl, refl), tt) (same_queue-refl (queue.Tracker n), tt)
  due_shape (k ∷ ks) = asking_shape (dial_puts n (last_key (k ∷ ks))) (quiet_dial (last_key (k ∷ ks))) (near_dial (last_key (k ∷ ks)))

  turn_shape : (at seed : ℕ) (d : Dials) (xs : List Envelope) → line log (queue.Dialer n) ≡ xs → Shape configs log (act.Dialer n) (dialer_turn n at seed d xs)
  turn_shape at seed d [] none = by_due (not d.is_asking && nat_le d.deadline at)
    where
      by_due : (b : Bool) → Shape configs log (act.Dialer n) (cond b (due_row n d.peers) (only reply.Idle))
      by_due true = due_shape d.peers
      by_due false = still configs log (act.Dialer n) reply.Idle refl refl
  turn_shape at seed d (x ∷ rest) first = answered_shape seed d x rest first x.item

  pub dialer_shape : (at seed : ℕ) → Shape configs log (act.Dialer n) (dialer_row configs log n at seed)
  dialer_shape at seed = by_up (is_up log n)
    where
      by_up : (b : Bool) → Shape configs log (act.Dialer n) (cond b (dialer_turn n at seed (dials_of configs log n) (line log (queue.Dialer n))) (only reply.Gone))
      by_up true = turn_shape at seed (dials_of configs log n) (line log (queue.Dialer n)) refl
      by_up false = still configs log (act.Dialer n) reply.Gone refl refl
