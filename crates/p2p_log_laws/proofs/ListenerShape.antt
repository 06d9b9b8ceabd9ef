-- The shape of a listener's step: it neither grants a key nor releases one, and moves no copy, but those end that are in flight towards
-- the end of an arrival that it turns away.
use Rattle.std.proofs.Common.{◌≡◌, ℕ, Bool, true, false, cond, List, [], ◌∷◌, map, inl, inr, refl, subst, sym, ap, ◌∙◌, Option, Some, None}
use Rattle.std.specs.Prelude.{◌||◌, length, slice_get}
use Rattle.std.specs.List.{AllByRecursion as Each}
use Rattle.p2p_base.specs.declared.key.Key.{Key}
use Rattle.p2p_tracker_calls.specs.Gates.{Known, reply_to}
use Rattle.p2p_tracker_calls.specs.declared.gates.Reply.{Reply as GatesReply}
use Rattle.p2p_tracker_calls.specs.declared.gates.Reply.TheVariants as gates
use Rattle.p2p_log.specs.declared.config.Config.{Config}
use Rattle.p2p_log.specs.declared.queue.Queue.{Queue}
use Rattle.p2p_log.specs.declared.queue.Queue.TheVariants as queue
use Rattle.p2p_log.specs.declared.queue.Side.{Side}
use Rattle.p2p_log.specs.declared.queue.Side.TheVariants as side
use Rattle.p2p_log.specs.declared.item.Item.{Item}
use Rattle.p2p_log.specs.declared.item.Item.TheVariants as item
use Rattle.p2p_log.specs.declared.item.Envelope.{Envelope}
use Rattle.p2p_log.specs.declared.entry.Entry.{Entry}
use Rattle.p2p_log.specs.declared.entry.Reply.{Reply}
use Rattle.p2p_log.specs.declared.entry.Reply.TheVariants as reply
use Rattle.p2p_log.specs.declared.event.Event.{Event}
use Rattle.p2p_log.specs.declared.event.Act.TheVariants as act
use Rattle.p2p_log.specs.QueueCode.{same_queue}
use Rattle.p2p_log.specs.Lines.{name_of, line}
use Rattle.p2p_log_rules.specs.declared.row.Row.{Row}
use Rattle.p2p_log_rules.specs.Dropping.{LinkEnd, other_side, arrival_end, oldest_end, arriving_end, dropping, listener_step_row}
use Rattle.p2p_log_rules.specs.Effect.{entry_of}
use Rattle.p2p_log_rules.specs.Moves.{Moves}
use Rattle.p2p_log_rules.specs.Puts.{turns_away}
use Rattle.p2p_log_rules.specs.Facts.{is_up, taken}
use Rattle.p2p_log_rules.specs.Rows.{only}
use Rattle.p2p_log_rules.specs.Listening.{known_of, gate_rules_at, gates_puts, arrived_row, arrival_turn, listener_turn, has_place, listener_row}
use Rattle.p2p_log.proofs.Queues.{same_queue-refl}
use Rattle.p2p_log_rules.proofs.Dropping.{all_of, drops_of-listener}
use Rattle.p2p_log_rules.proofs.Moves.{one_taken, first_has}
use Rattle.p2p_log_laws.proofs.DropShape.{moves, dropping_shape}
use Rattle.p2p_log_laws.proofs.LineShape.{Within, still_within}
use Rattle.p2p_log_laws.proofs.Reaching.{in_flight, reads, writes, ends_in}
use Rattle.p2p_log_laws.proofs.Fitting.{StandsFit, fits, holds_bare, bare_there}
use Rattle.p2p_log_laws.proofs.Plain.{IsAside, Plain, IsPlain, plain_item, plain_aside}
use Rattle.p2p_log_laws.proofs.Shape.{Shape, IsQuiet, quiet_laws, no_moves, one_move, first_in}
use Rattle.p2p_log_laws.proofs.Weighing.{taken_items}
use Rattle.p2p_log_rules.specs.Reading.{is_read}

-- the end that a listener's step with this reply drops, which took these
abbrev pub lost_of : Reply → Option LinkEnd → Option LinkEnd
lost_of r o = cond (turns_away r) o None

none_lost : (r : Reply) (o p : Option LinkEnd) → turns_away r ≡ false → lost_of r o ≡ lost_of r p
none_lost r o p kept = ap (λ b. cond b o None) kept ∙ sym (ap (λ b. cond b p None) kept)

-- a row that takes the oldest of one line, or nothing, and moves no copy, no grant and no release, whatever the key, at any node
pub record Aside (configs : List Config) (log : List Entry) (m : ℕ) (r : Row) : Type 0 where
  pub from : Queue
  pub off : (over : ℕ) (s : Side) → same_queue (queue.Link over s) from ≡ false
  pub within : Within configs log (act.Listener m) from r
  -- what it took is the oldest arrival, where it turned that away
  pub lost : lost_of r.reply (arrival_end (map (λ x. x.item) within.shape.moves.taken)) ≡ lost_of r.reply (arriving_end log m)
  pub plain : (n : ℕ) (key : Key) → (moves : Moves log r) × IsPlain n key log r moves

module _ (configs : List Config) (log : List Entry) (m : ℕ) where
  off_arrivals : (over : ℕ) (s : Side) → same_queue (queue.Link over s) (queue.Arrivals m) ≡ false
  off_arrivals over side.Out = refl
  off_arrivals over side.In = refl

  off_update : (over : ℕ) (s : Side) → same_queue (queue.Link over s) (queue.Addresses m) ≡ false
  off_update over side.Out = refl
  off_update over side.In = refl

  idle_aside : (rep : Reply) → is_read rep ≡ false → turns_away rep ≡ false → Aside configs log m (only rep)
  idle_aside rep silent kept =
      let w : Within configs log (act.Listener m) (queue.Arrivals m) (only rep) = still_within configs log (act.Listener m) (queue.Arrivals m) rep refl silent in
      record {
        from = queue.Arrivals m;
        off = off_arrivals;
        within = w;
        lost = none_lost rep (arrival_end (map (λ x. x.item) w.shape.moves.taken)) (arriving_end log m) kept;
        plain = λ n key. (no_moves log (only rep) refl refl, record { taken = tt; ended = tt; puts = tt });
      }

  module _ (q : Queue) (off : (over : ℕ) (s : Side) → same_queue (queue.Link over s) q ≡ false) (x : Envelope) (rest : List Envelope) (first : line log q ≡ x ∷ rest)
      (read : reads configs log (act.Listener m) q ≡ true) (bare : holds_bare q ≡ true) (aside : (n : ℕ) → IsAside n q) where
    -- the oldest of a queue is taken
    taken_aside : (rep : Reply) → is_read rep ≡ false → lost_of rep (arrival_end (x.item ∷ [])) ≡ lost_of rep (arriving_end log m)
        → (puts : List (Queue × Item)) → Each IsQuiet puts → Each (λ p. writes configs log (act.Listener m) p.0 ≡ true) puts
        → ((n : ℕ) (key : Key) → Each (Plain n key) puts) → Aside configs log m (record { reply = rep; takes = name_of x ∷ []; puts = puts; ends = [] })
    taken_aside rep silent lost puts quiet near plain =
        let r : Row = record { reply = rep; takes = name_of x ∷ []; puts = puts; ends = [] } in
        let moves : Moves log r = one_move log q x rest first r refl refl in
        let there : x.queue ≡ q = one_taken log q x rest first in
        record {
          from = q;
          off = off;
          within = record {
            shape = record {
              moves = moves;
              reach = record { taken = (first_in (reads configs log (act.Listener m)) log q x rest first read, tt); ended = tt; puts = near };
              laws = λ fitting.
                  let whole : fits x.queue x.item ≡ true = first_has StandsFit log q x rest fitting first in
                  let fit : fits q x.item ≡ true = subst (λ p. fits p x.item ≡ true) there whole in
                  quiet_laws configs log (act.Listener m) r moves refl silent (bare_there q x.item bare fit, tt) tt tt quiet;
            };
            taken = (there, tt);
            ended = tt;
            items = tt;
            silent = silent;
          };
          lost = lost;
          plain = λ n key. (moves, record { taken = (plain_aside n key x.queue x.item (subst (IsAside n) (sym there) (aside n)), tt); ended = tt; puts = plain n key });
        }

  -- what is asked for a handshake that begins
  quiet_gates : (name : ℕ) (key : Key) (told : GatesReply) → Each IsQuiet (gates_puts m name key told)
  quiet_gates name key gates.Admitted = ((refl, refl), tt)
  quiet_gates name key _ = tt

  near_gates : (name : ℕ) (key : Key) (told : GatesReply) → Each (λ p. writes configs log (act.Listener m) p.0 ≡ true) (gates_puts m name key told)
  near_gates name key gates.Admitted = (same_queue-refl (queue.Tracker m), tt)
  near_gates name key _ = tt

  plain_gates : (name : ℕ) (k : Key) (told : GatesReply) (n : ℕ) (key : Key) → Each (Plain n key) (gates_puts m name k told)
  plain_gates name k gates.Admitted n key = (plain_item n key (queue.Tracker m) (item.AskAcceptable name k) refl refl, tt)
  plain_gates name k _ n key = tt

  update_read : reads configs log (act.Listener m) (queue.Addresses m) ≡ true
  update_read = ap (λ b. b || same_queue (queue.Arrivals m) (queue.Addresses m)) (same_queue-refl (queue.Addresses m))

  arrivals_read : reads configs log (act.Listener m) (queue.Arrivals m) ≡ true
  arrivals_read = ap (λ b. same_queue (queue.Addresses m) (queue.Arrivals m) || b) (same_queue-refl (queue.Arrivals m))

  arrived_aside : (known : Known) (place : Bool) (at : ℕ) (x : Envelope) (rest : List Envelope) → line log (queue.Arrivals m) ≡ x ∷ rest → (i : Item)
      → Aside configs log m (arrived_row (gate_rules_at configs m) known place m (length log) at (name_of x) i)
  arrived_aside known place at x rest first (item.Arrival from key link) =
      let told : GatesReply = reply_to (gate_rules_at configs m) known place from.ip at in
      taken_aside (queue.Arrivals m) off_arrivals x rest first arrivals_read refl (λ n. (refl, refl)) (reply.Gates told) refl (ap (lost_of (reply.Gates told)) (sym (ap oldest_end first))) (gates_puts m (length log) key told)
      (quiet_gates (length log) key told) (near_gates (length log) key told) (plain_gates (length log) key told)
  arrived_aside known place at x rest first _ = idle_aside reply.Idle refl refl

  arrival_aside : (known : Known) (place : Bool) (at : ℕ) (xs : List Envelope) → line log (queue.Arrivals m) ≡ xs → Aside configs log m (arrival_turn (gate_rules_at configs m) known place m (length log) at xs)
  arrival_aside known place at [] none = idle_aside reply.Idle refl refl
  arrival_aside known place at (x ∷ rest) first = arrived_aside known place at x rest first x.item

  turn_aside : (known : Known) (place : Bool) (at : ℕ) (us : List Envelope) → line log (queue.Addresses m) ≡ us
      → Aside configs log m (listener_turn (gate_rules_at configs m) known place m (length log) at us (line log (queue.Arrivals m)))
  turn_aside known place at [] none = arrival_aside known place at (line log (queue.Arrivals m)) refl
  turn_aside known place at (x ∷ rest) first = taken_aside (queue.Addresses m) off_update x rest first update_read refl (λ n. (refl, refl)) reply.Ok refl refl [] tt tt (λ n key. tt)

  pub listener_aside : (at : ℕ) → Aside configs log m (listener_row configs log m at)
  listener_aside at = by_up (is_up log m)
    where
      by_up : (b : Bool) → Aside configs log m
          (cond b (listener_turn (gate_rules_at configs m) (known_of configs log m) (has_place configs log m) m (length log) at (line log (queue.Addresses m)) (line log (queue.Arrivals m))) (only reply.Gone))
      by_up true = turn_aside (known_of configs log m) (has_place configs log m) at (line log (queue.Addresses m)) refl
      by_up false = idle_aside reply.Gone refl refl

  -- the end of an arrival that it turns away is dropped
  pub listener_shape : (at : ℕ) → Shape configs log (act.Listener m) (listener_step_row configs log m at)
  listener_shape at =
      dropping_shape configs log (act.Listener m) s.from r s.within (lost_of r.reply (arriving_end log m))
      (λ cut is. s.off cut.0 (other_side cut.1)) (λ cut is. towards cut (turns_away r.reply) is)
      (λ cut is ev acts x place stands copy bears. inr (inl (record {
        steps = (m, inl acts);
        cut = cut;
        drops = (0, ap (λ l. slice_get l 0) (drops_of-listener log (entry_of ev (dropping log (Some cut) r)) m acts ∙ ap all_of (took ev cut ∙ is)));
        place = place;
        left = x;
        stood = stands;
        carried = bears;
      })))
    where
      r : Row
      r = listener_row configs log m at

      s : Aside configs log m r
      s = listener_aside at

      towards : (cut : LinkEnd) (b : Bool) → cond b (arriving_end log m) None ≡ Some cut → ends_in configs log (act.Listener m) (queue.Link cut.0 (other_side cut.1)) ≡ true
      towards cut true is = ap (λ o. in_flight o (queue.Link cut.0 (other_side cut.1))) is ∙ same_queue-refl (queue.Link cut.0 (other_side cut.1))
      towards cut false is = cc

      took : (ev : Event) (cut : LinkEnd) → lost_of r.reply (arrival_end (taken log (entry_of ev (dropping log (Some cut) r)))) ≡ lost_of r.reply (arriving_end log m)
      took ev cut =
          ap (λ items. lost_of r.reply (arrival_end items)) (taken_items log ev (dropping log (Some cut) r) (moves configs log (act.Listener m) s.from r s.within cut (s.off cut.0 (other_side cut.1)))) ∙ s.lost
