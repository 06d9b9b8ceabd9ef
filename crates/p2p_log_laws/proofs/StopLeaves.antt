-- What a stop of a node leaves: nothing in the queues that it empties.
use Rattle.std.proofs.Common.{◌≡◌, ℕ, Bool, true, false, cond, List, [], ◌∷◌, ◌++◌, map, length, inl, inr, refl, ap, subst, ◌∙◌}
use Rattle.std.specs.Prelude.{◌||◌, not, filter, flat_map, count_by}
use Rattle.std.specs.List.{list_any, AllByRecursion as Each}
use Rattle.std.proofs.lemmas.List.{map-append}
use Rattle.std.proofs.lemmas.List.Folds.{list_any-append}
use Rattle.p2p_log.specs.declared.queue.Queue.{Queue}
use Rattle.p2p_log.specs.declared.config.Config.{Config}
use Rattle.p2p_log.specs.declared.item.Item.{Item}
use Rattle.p2p_log.specs.declared.item.Envelope.{Envelope}
use Rattle.p2p_log.specs.declared.end.End.{End}
use Rattle.p2p_log.specs.declared.end.Cause.{Cause}
use Rattle.p2p_log.specs.declared.end.Cause.TheVariants as cause
use Rattle.p2p_log.specs.declared.entry.Entry.{Entry}
use Rattle.p2p_log.specs.declared.entry.Reply.TheVariants as reply
use Rattle.p2p_log.specs.declared.event.Event.{Event}
use Rattle.p2p_log.specs.Drained.{all_end, drained, drained_with, each_with}
use Rattle.p2p_log.specs.Lines.{same_name, name_of, ended_item, placed, stays, stands_in, live, line}
use Rattle.p2p_log.proofs.Each.{Has, Has-after, Has-kept, Has-of_kept, Each-has, Each-from_has, Each-passing, count_by-none}
use Rattle.p2p_log.proofs.Filters.{filter-none, filter-swap}
use Rattle.p2p_log.proofs.Names.{AreApart-live_from}
use Rattle.p2p_log.proofs.Taken.{drained_with_taken, BringsOthers}
use Rattle.p2p_log_rules.specs.declared.row.Row.{Row}
use Rattle.p2p_log_rules.specs.Effect.{effect, row, entry_of}
use Rattle.p2p_log_rules.specs.Moves.{Moves}
use Rattle.p2p_log_rules.specs.Rows.{only}
use Rattle.p2p_log_rules.specs.Stopping.{brought_by, queues_at}
use Rattle.p2p_log_rules.proofs.Channels.{IsStopOf}
use Rattle.p2p_log_rules.proofs.Moves.{all_end-gone, goes_moved, kept, line-after}
use Rattle.p2p_log_laws.specs.NodeGrants.{put_of}
use Rattle.p2p_log_laws.proofs.Gone.{named}
use Rattle.p2p_log_laws.proofs.StopShape.{others}

module _ (brings : Envelope → List Queue) where
  -- each of a line is among what comes of it
  with_has : (xs ys : List Envelope) (y : Envelope) → Has ys y → Has (each_with brings xs ys) y
  with_has xs (z ∷ ys) y (inl is) = inl is
  with_has xs (z ∷ ys) y (inr later) =
      let left = filter (stays (name_of z ∷ [])) xs in
      let brought = drained left (brings z) in
      inr (Has-after brought (each_with brings (filter (stays (map name_of brought)) left) ys) y (with_has (filter (stays (map name_of brought)) left) ys y later))
  with_has xs [] y has = absurd has

  -- what stood in one of these queues goes
  goes_with : (xs : List Envelope) (qs : List Queue) (q : Queue) → Has qs q → (y : Envelope) → Has xs y → stands_in q y ≡ true → stays (map name_of (drained_with brings xs qs)) y ≡ false
  goes_with xs [] q has y there stood = absurd has
  goes_with xs (p ∷ qs) q has y there stood =
      by (list_any (same_name (name_of y)) (map name_of l)) refl has
      (λ is later. goes_with left qs q later y (Has-kept (stays (map name_of l)) xs y (ap not is) there) stood)
    where
      l : List Envelope
      l = each_with brings xs (filter (stands_in p) xs)

      left : List Envelope
      left = filter (stays (map name_of l)) xs

      parts : list_any (same_name (name_of y)) (map name_of (l ++ drained_with brings left qs)) ≡ (list_any (same_name (name_of y)) (map name_of l) || list_any (same_name (name_of y)) (map name_of (drained_with brings left qs)))
      parts = ap (list_any (same_name (name_of y))) (map-append name_of l (drained_with brings left qs)) ∙ list_any-append (same_name (name_of y)) (map name_of l) (map name_of (drained_with brings left qs))

      gone : list_any (same_name (name_of y)) (map name_of l) ≡ true → not (list_any (same_name (name_of y)) (map name_of (l ++ drained_with brings left qs))) ≡ false
      gone is = ap not (parts ∙ ap (λ b. b || list_any (same_name (name_of y)) (map name_of (drained_with brings left qs))) is)

      by : (b : Bool) → list_any (same_name (name_of y)) (map name_of l) ≡ b → Has (p ∷ qs) q
          → (list_any (same_name (name_of y)) (map name_of l) ≡ false → Has qs q → stays (map name_of (drained_with brings left qs)) y ≡ false)
          → not (list_any (same_name (name_of y)) (map name_of (l ++ drained_with brings left qs))) ≡ false
      by true is has then = gone is
      by false is (inl same) then = gone (named l y (with_has xs (filter (stands_in p) xs) y (Has-kept (stands_in p) xs y (ap (λ r. stands_in r y) same ∙ stood) there)))
      by false is (inr later) then =
          ap not (parts ∙ ap (λ b. b || list_any (same_name (name_of y)) (map name_of (drained_with brings left qs))) is)
          ∙ then is later

  -- so nothing is left in them
  pub drained_with_none : (xs : List Envelope) (qs : List Queue) (q : Queue) → Has qs q → filter (stands_in q) (filter (stays (map name_of (drained_with brings xs qs))) xs) ≡ []
  drained_with_none xs qs q has =
      filter-swap (stands_in q) (stays (map name_of (drained_with brings xs qs))) xs
      ∙ filter-none (stays (map name_of (drained_with brings xs qs))) (filter (stands_in q) xs)
      (Each-from_has (λ (y : Envelope). stays (map name_of (drained_with brings xs qs)) y ≡ false) (filter (stands_in q) xs)
      (λ y h. goes_with xs qs q has y (Has-of_kept (stands_in q) xs y h) (passes xs y h)))
    where
      passes : (ys : List Envelope) (y : Envelope) → Has (filter (stands_in q) ys) y → stands_in q y ≡ true
      passes ys y h = Each-has (λ (z : Envelope). stands_in q z ≡ true) (filter (stands_in q) ys) y (Each-passing (λ (z : Envelope). stands_in q z ≡ true) (stands_in q) (λ z is. is) ys) h

-- ---- the entry

-- an entry that takes and puts nothing, and ends what was in these queues with what it brings
module _ (brings : Envelope → List Queue) (log : List Entry) (ev : Event) (r : Row) (qs : List Queue) (c : Cause) (others : Each (BringsOthers brings) qs)
    (takes : r.takes ≡ []) (puts : r.puts ≡ []) (ends : r.ends ≡ all_end c (drained_with brings (live log) qs)) where
  abbrev moves : Moves log r
  moves = record {
    taken = [];
    ended = drained_with brings (live log) qs;
    names = takes;
    gone = ap (λ (l : List End). flat_map ended_item l) ends ∙ all_end-gone c (drained_with brings (live log) qs);
    stood = drained_with_taken brings (live log) qs (AreApart-live_from 0 log) others;
  }

  pub emptied_line : (q : Queue) → Has qs q → line (log ++ entry_of ev r ∷ []) q ≡ []
  emptied_line q has =
      line-after log ev r moves q
      ∙ (ap (λ (l : List (Queue × Item)). filter (stands_in q) (kept log ev r moves) ++ filter (stands_in q) (placed (length log) 0 l)) puts
      ∙ ap (λ (l : List Envelope). l ++ []) (ap (λ gone. filter (stands_in q) (filter (stays gone) (live log))) (goes_moved log ev r moves) ∙ drained_with_none brings (live log) qs q has))

-- a node that had not stopped stops: nothing waits there any more
pub stop_empties : (configs : List Config) (log : List Entry) (ev : Event) (n : ℕ) → IsStopOf log (effect configs log ev) n → (q : Queue) → Has (queues_at log n) q → line (log ++ effect configs log ev ∷ []) q ≡ []
unfolding effect row
stop_empties configs log ev n stop q has =
    emptied_line (brought_by log) log ev (row configs log ev.at ev.seed ev.act) (queues_at log n) cause.NodeStopped (others configs log stop.by_start n) (ap (λ (r : Row). r.takes) is) (ap (λ (r : Row). r.puts) is) (ap (λ (r : Row). r.ends) is) q has
  where
    due : Row
    due = record { reply = reply.Ok; takes = []; puts = []; ends = all_end cause.NodeStopped (drained_with (brought_by log) (live log) (queues_at log n)) }

    is : row configs log ev.at ev.seed ev.act ≡ due
    is = ap (row configs log ev.at ev.seed) stop.acts ∙ ap (λ b. cond b (only reply.Gone) due) stop.lasted

-- where all that passes stands in a queue in which nothing is left, nothing passes
pub none_passes : (p : Queue × Item → Bool) (l : List Entry) → Each (λ x. p (put_of x) ≡ true → (q : Queue) × (stands_in q x ≡ true) × (line l q ≡ [])) (live l) → count_by (λ x. p (put_of x)) (live l) ≡ 0
unfolding line
none_passes p l each =
    count_by-none (λ x. p (put_of x)) (live l)
    (Each-from_has (λ (x : Envelope). p (put_of x) ≡ false) (live l)
    (λ x has. by x has (p (put_of x)) refl (Each-has (λ y. p (put_of y) ≡ true → (q : Queue) × (stands_in q y ≡ true) × (line l q ≡ [])) (live l) x each has)))
  where
    by : (x : Envelope) → Has (live l) x → (b : Bool) → p (put_of x) ≡ b → (p (put_of x) ≡ true → (q : Queue) × (stands_in q x ≡ true) × (filter (stands_in q) (live l) ≡ [])) → p (put_of x) ≡ false
    by x has false is none = is
    by x has true is none = let found = none is in absurd (subst (λ ys. Has ys x) found.2 (Has-kept (stands_in found.0) (live l) x found.1 has))
