-- The shape of a step that drops the end of a link too, beside what it does in one line: the frames in flight towards it end, and their copies.
use Rattle.std.proofs.Common.{◌≡◌, ℕ, ◌+◌, true, false, List, [], ◌∷◌, ◌++◌, map, Option, Some, None, refl, ap, sym, subst, ◌∙◌, arith, append_assoc, append-nil}
use Rattle.std.specs.Prelude.{filter, flat_map, count_by, slice_get}
use Rattle.std.specs.List.{AllByRecursion as Each}
use Rattle.std.proofs.lemmas.Grind.{flat_map-append}
use Rattle.std.proofs.lemmas.List.{map-append}
use Rattle.std.proofs.lemmas.List.Sums.{sum_by-append}
use Rattle.p2p_log.specs.declared.config.Config.{Config}
use Rattle.p2p_log.specs.declared.queue.Queue.{Queue}
use Rattle.p2p_log.specs.declared.queue.Queue.TheVariants as queue
use Rattle.p2p_log.specs.declared.queue.Side.{Side}
use Rattle.p2p_log.specs.declared.queue.Side.TheVariants as side
use Rattle.p2p_log.specs.declared.item.Item.{Item}
use Rattle.p2p_log.specs.declared.item.Envelope.{Envelope}
use Rattle.p2p_log.specs.declared.end.Cause.TheVariants as cause
use Rattle.p2p_log.specs.declared.entry.Entry.{Entry}
use Rattle.p2p_log.specs.declared.event.Event.{Event}
use Rattle.p2p_log.specs.declared.event.Act.{Act}
use Rattle.p2p_log.specs.Copies.{carries, ends_copy}
use Rattle.p2p_log.specs.Drained.{all_end}
use Rattle.p2p_log.specs.Lines.{name_of, ended_item, stays, stands_in, live, line}
use Rattle.p2p_log.specs.QueueCode.{same_queue}
use Rattle.p2p_log.specs.Taken.{AreTaken}
use Rattle.p2p_log.proofs.Each.{Each-append, Each-weaker, place_of}
use Rattle.p2p_log.proofs.Filters.{filter-none}
use Rattle.p2p_log.proofs.Names.{AreApart-live_from}
use Rattle.p2p_log.proofs.Taken.{filter-taken}
use Rattle.p2p_log_rules.specs.declared.row.Row.{Row}
use Rattle.p2p_log_rules.specs.Dropping.{LinkEnd, other_side, frames_towards, dropping}
use Rattle.p2p_log_rules.specs.Effect.{entry_of}
use Rattle.p2p_log_rules.specs.Moves.{Moves}
use Rattle.p2p_log_rules.proofs.Moves.{all_end-gone, rest_stood}
use Rattle.p2p_log_laws.specs.Causes.{Shows}
use Rattle.p2p_log_laws.proofs.Bulk.{all_end-counted, all_end-each}
use Rattle.p2p_log_laws.proofs.Fitting.{is_item_end}
use Rattle.p2p_log_laws.proofs.LineShape.{Within, in_line}
use Rattle.p2p_log_laws.proofs.Reaching.{ends_in}
use Rattle.p2p_log_laws.proofs.Shape.{Shape, Laws, no_delivery}
use Rattle.p2p_log_laws.proofs.Showing.{EndShows, item_shows}
use Rattle.p2p_log_laws.proofs.Spreading.{one}

-- what it puts is the same
pub each_dropping : (P : Queue × Item → Type 0) (log : List Entry) (o : Option LinkEnd) (r : Row) → Each P r.puts → Each P (dropping log o r).puts
each_dropping P log None r h = h
each_dropping P log (Some e) r h = h

module _ (configs : List Config) (log : List Entry) (a : Act) (q : Queue) (r : Row) (w : Within configs log a q r) where
  abbrev m : Moves log r
  m = w.shape.moves

  module _ (e : LinkEnd) (aside : same_queue (queue.Link e.0 (other_side e.1)) q ≡ false) where
    abbrev link : Queue
    link = queue.Link e.0 (other_side e.1)

    abbrev flight : List Envelope
    flight = frames_towards log e

    abbrev row : Row
    row = dropping log (Some e) r

    none_there : Each (λ x. stands_in link x ≡ false) (m.taken ++ m.ended)
    none_there =
        Each-append (λ x. stands_in link x ≡ false) m.taken m.ended
        (Each-weaker (λ x. x.queue ≡ q) (λ x. stands_in link x ≡ false) (λ x is. ap (same_queue link) is ∙ aside) m.taken w.taken)
        (Each-weaker (λ x. x.queue ≡ q) (λ x. stands_in link x ≡ false) (λ x is. ap (same_queue link) is ∙ aside) m.ended w.ended)

    -- none of them goes by what the row does beside
    still_flying : filter (stands_in link) (filter (stays (map name_of (m.taken ++ m.ended))) (live log)) ≡ flight
    unfolding line
    still_flying =
        let left = filter (stands_in link) (filter (stays (map name_of (m.taken ++ m.ended))) (live log)) in
        sym (filter-taken link (live log) (m.taken ++ m.ended) (AreApart-live_from 0 log) m.stood ∙ ap (λ l. l ++ left) (filter-none (stands_in link) (m.taken ++ m.ended) none_there))

    pub stood : AreTaken (live log) (m.taken ++ (m.ended ++ flight))
    stood =
        subst (AreTaken (live log)) (append_assoc m.taken m.ended flight)
        (subst (λ l. AreTaken (live log) ((m.taken ++ m.ended) ++ l))
        (append-nil (filter (stands_in link) (filter (stays (map name_of (m.taken ++ m.ended))) (live log))) ∙ still_flying)
        (rest_stood log (m.taken ++ m.ended) (link ∷ []) m.stood))

    abbrev pub moves : Moves log (dropping log (Some e) r)
    moves = record {
      taken = m.taken;
      ended = m.ended ++ flight;
      names = m.names;
      gone = flat_map-append ended_item r.ends (all_end cause.ConnectionEnded flight)
          ∙ (ap (λ l. l ++ flat_map ended_item (all_end cause.ConnectionEnded flight)) m.gone
          ∙ (ap (λ l. map name_of m.ended ++ l) (all_end-gone cause.ConnectionEnded flight) ∙ sym (map-append name_of m.ended flight)));
      stood = stood;
    }

    module _ (near : ends_in configs log a link ≡ true)
        (cuts : (ev : Event) → ev.act ≡ a → (x : Envelope) (place : ℕ) → slice_get flight place ≡ Some x → (copy : ℕ × ℕ) → carries copy x ≡ true
        → Shows configs log (entry_of ev row) copy cause.ConnectionEnded) where
      dropped_laws : Laws configs log a r m → Laws configs log a row moves
      dropped_laws l = record {
        fitting = l.fitting;
        moved = l.moved;
        balanced = λ copy.
            let before = l.balanced copy in
            let all = all_end-counted copy cause.ConnectionEnded flight in
            let gone : count_by (carries copy) (m.ended ++ flight) ≡ count_by (carries copy) m.ended + count_by (carries copy) flight =
            sum_by-append (λ x. one (carries copy x)) m.ended flight
            in
            let ends : count_by (ends_copy copy) (r.ends ++ all_end cause.ConnectionEnded flight)
            ≡ count_by (ends_copy copy) r.ends + count_by (ends_copy copy) (all_end cause.ConnectionEnded flight) =
            sum_by-append (λ d. one (ends_copy copy d)) r.ends (all_end cause.ConnectionEnded flight)
            in
            omega (arith, before, all, gone, ends);
        causes = λ stand ev acts.
            Each-append (EndShows configs log (entry_of ev row)) r.ends (all_end cause.ConnectionEnded flight)
            (Each-weaker (λ d. is_item_end d ≡ true) (EndShows configs log (entry_of ev row)) (item_shows configs log (entry_of ev row)) r.ends w.items)
            (all_end-each (EndShows configs log (entry_of ev row)) cause.ConnectionEnded flight (λ n p. tt)
            (λ x copy has bears. let place = place_of flight x has in cuts ev acts x place.0 place.1 copy bears));
        delivers = no_delivery configs log a r.reply m.taken (r.ends ++ all_end cause.ConnectionEnded flight) w.silent;
      }

      pub dropped_shape : Shape configs log a (dropping log (Some e) r)
      dropped_shape = record {
        moves = moves;
        reach = record {
          taken = w.shape.reach.taken;
          ended = Each-append (λ x. ends_in configs log a x.queue ≡ true) m.ended flight w.shape.reach.ended
              (Each-weaker (λ x. x.queue ≡ link) (λ x. ends_in configs log a x.queue ≡ true) (λ x is. ap (ends_in configs log a) is ∙ near) flight (in_line log link));
          puts = w.shape.reach.puts;
        };
        laws = λ fitting. dropped_laws (w.shape.laws fitting);
      }

-- a queue of attempts or handshakes is no link
pub attempt_aside : (over : ℕ) (s : Side) (n e : ℕ) → same_queue (queue.Link over s) (queue.Attempt n e) ≡ false
attempt_aside over side.Out n e = refl
attempt_aside over side.In n e = refl

pub handshake_aside : (over : ℕ) (s : Side) (n e : ℕ) → same_queue (queue.Link over s) (queue.Handshake n e) ≡ false
handshake_aside over side.Out n e = refl
handshake_aside over side.In n e = refl

-- where an end is dropped, or none
pub dropping_shape : (configs : List Config) (log : List Entry) (a : Act) (q : Queue) (r : Row) → Within configs log a q r → (o : Option LinkEnd)
    → ((e : LinkEnd) → o ≡ Some e → same_queue (queue.Link e.0 (other_side e.1)) q ≡ false)
    → ((e : LinkEnd) → o ≡ Some e → ends_in configs log a (queue.Link e.0 (other_side e.1)) ≡ true)
    → ((e : LinkEnd) → o ≡ Some e → (ev : Event) → ev.act ≡ a → (x : Envelope) (place : ℕ) → slice_get (frames_towards log e) place ≡ Some x → (copy : ℕ × ℕ) → carries copy x ≡ true
    → Shows configs log (entry_of ev (dropping log (Some e) r)) copy cause.ConnectionEnded)
    → Shape configs log a (dropping log o r)
dropping_shape configs log a q r w None aside near cuts = w.shape
dropping_shape configs log a q r w (Some e) aside near cuts = dropped_shape configs log a q r w e (aside e refl) (near e refl) (cuts e refl)
