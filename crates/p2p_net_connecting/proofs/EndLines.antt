-- The lines after an entry that ends a connection: what is left of each, and what is put there.
use Rattle.std.proofs.Common.{◌≡◌, ℕ, false, List, [], ◌∷◌, ◌++◌, refl, ap, sym, ◌∙◌}
use Rattle.std.specs.Prelude.{map, filter, flat_map}
use Rattle.std.specs.List.{AllByRecursion as Each}
use Rattle.std.proofs.lemmas.Grind.{flat_map-append}
use Rattle.std.proofs.lemmas.List.{map-append}
use Rattle.p2p_log.specs.declared.queue.Queue.{Queue}
use Rattle.p2p_log.specs.declared.item.Envelope.{Envelope}
use Rattle.p2p_log.specs.declared.end.End.TheVariants as end
use Rattle.p2p_log.specs.declared.end.Outcome.{Outcome as How}
use Rattle.p2p_log.specs.declared.end.Outcome.TheVariants as outcome
use Rattle.p2p_log.specs.declared.end.Cause.{Cause}
use Rattle.p2p_log.specs.declared.end.Cause.TheVariants as cause
use Rattle.p2p_log.specs.declared.entry.Entry.{Entry}
use Rattle.p2p_log.specs.declared.entry.Ended.{Ended}
use Rattle.p2p_log.specs.declared.event.Event.{Event}
use Rattle.p2p_log.specs.QueueCode.{same_queue}
use Rattle.p2p_log.specs.Copies.{copies_of}
use Rattle.p2p_log.specs.Drained.{drained, all_end}
use Rattle.p2p_log.specs.Lines.{name_of, ended_item, stays, live, stands_in, line}
use Rattle.p2p_log.specs.Taken.{AreTaken}
use Rattle.p2p_log.proofs.Each.{Each-weaker, Each-append}
use Rattle.p2p_log.proofs.Filters.{filter-none}
use Rattle.p2p_log.proofs.Lines.{filter_stays-append}
use Rattle.p2p_log.proofs.Taken.{Each-drained}
use Rattle.p2p_log_rules.specs.declared.row.Half.{Half}
use Rattle.p2p_log_rules.specs.declared.row.Row.{Row}
use Rattle.p2p_log_rules.specs.Effect.{entry_of}
use Rattle.p2p_log_rules.specs.Ending.{queues_with, copies_drop, left_by, end_row}
use Rattle.p2p_log_rules.specs.Moves.{Moves}
use Rattle.p2p_log_rules.proofs.Moves.{all_end-gone, goes_moved, kept, line-after, line-moved, rest_stood}
use Rattle.p2p_net_queues.proofs.Going.{put_in}

-- ---- what an end takes and ends

copies_stay : (o : How) (cs : List (ℕ × ℕ)) → flat_map ended_item (map (λ copy. end.Copy copy.0 copy.1 o) cs) ≡ []
copies_stay o [] = refl
copies_stay o (c ∷ cs) = copies_stay o cs

taken_stay : (c : Cause) (taken : List Envelope) → flat_map ended_item (flat_map (copies_drop c) taken) ≡ []
taken_stay c [] = refl
taken_stay c (x ∷ xs) =
    flat_map-append ended_item (copies_drop c x) (flat_map (copies_drop c) xs)
    ∙ (ap (λ l. l ++ flat_map ended_item (flat_map (copies_drop c) xs)) (copies_stay (outcome.Dropped c) (copies_of x.item)) ∙ taken_stay c xs)

module _ (log : List Entry) (ev : Event) (n conn : ℕ) (half : Half) (why : Ended) (c : Cause) (taken : List Envelope) (stood : AreTaken (live log) taken) where
  abbrev pub qs : List Queue
  qs = queues_with n conn half

  abbrev pub left : List Envelope
  left = left_by log taken

  abbrev pub r : Row
  r = end_row log n conn half why c taken

  abbrev pub e : Entry
  e = entry_of ev r

  pub ends_items : flat_map ended_item r.ends ≡ map name_of (drained left qs)
  ends_items =
      flat_map-append ended_item (flat_map (copies_drop c) taken) (all_end cause.ConnectionEnded (drained left qs))
      ∙ (ap (λ l. l ++ flat_map ended_item (all_end cause.ConnectionEnded (drained left qs))) (taken_stay c taken)
      ∙ all_end-gone cause.ConnectionEnded (drained left qs))

  abbrev moves : Moves log r
  moves = record {
    taken = taken;
    ended = drained left qs;
    names = refl;
    gone = ends_items;
    stood = rest_stood log taken qs stood;
  }

  -- what is left once all of it went
  pub kept_is : filter (stays (map name_of (drained left qs))) left ≡ kept log ev r moves
  kept_is =
      sym (ap (λ gone. filter (stays gone) (live log)) (goes_moved log ev r moves ∙ map-append name_of taken (drained left qs))
      ∙ filter_stays-append (map name_of taken) (map name_of (drained left qs)) (live log))

  -- a line is what is left of it, and then what is put there
  pub line_ended : (p : Queue) → line (log ++ e ∷ []) p ≡ filter (stands_in p) (filter (stays (map name_of (drained left qs))) left) ++ put_in log e p
  line_ended p = line-after log ev r moves p ∙ ap (λ k. filter (stands_in p) k ++ put_in log e p) (sym kept_is)

  -- and all else is left, where of what was taken nothing stood there
  pub others_ended : (p : Queue) → Each (λ q. same_queue p q ≡ false) qs → Each (λ x. stands_in p x ≡ false) taken → line (log ++ e ∷ []) p ≡ line log p ++ put_in log e p
  others_ended p apart none =
      let away : Each (λ x. stands_in p x ≡ false) (taken ++ drained left qs) =
      Each-append (λ (x : Envelope). stands_in p x ≡ false) taken (drained left qs) none
      (Each-drained (λ (x : Envelope). stands_in p x ≡ false) left qs
      (Each-weaker (λ (q : Queue). same_queue p q ≡ false) (λ q. (x : Envelope) → x.queue ≡ q → stands_in p x ≡ false) (λ q d x is. ap (same_queue p) is ∙ d) qs apart))
      in
      line-after log ev r moves p
      ∙ ap (λ l. l ++ put_in log e p)
      (sym (line-moved log ev r moves p ∙ ap (λ l. l ++ filter (stands_in p) (kept log ev r moves)) (filter-none (stands_in p) (taken ++ drained left qs) away)))
