-- Which connections a tracker was told of, by its calls: it calls of one only what it takes of it.
use Rattle.std.proofs.Common.{◌≡◌, ℕ, ◌+◌, ◌≤◌, Bool, true, false, cond, List, [], ◌∷◌, map, Option, Some, refl, ap, sym, subst, ◌∙◌, arith, eqb-true}
use Rattle.std.specs.Prelude.{◌==◌, ◌&&◌, ◌||◌, count_by}
use Rattle.std.specs.List.{AllByRecursion as Each, list_any}
use Rattle.std.proofs.lemmas.List.Sums.{sum_by-cons}
use Rattle.p2p_base.specs.declared.key.Key.{Key}
use Rattle.p2p_address.specs.declared.peer.Address.{Address}
use Rattle.p2p_tracker_calls.specs.declared.call.Call.{Call}
use Rattle.p2p_tracker_calls.specs.declared.call.Call.TheVariants as call
use Rattle.p2p_tracker_calls.specs.Jitter.{jitter_of}
use Rattle.p2p_tracker_calls.specs.Overwrites.{overwritten}
use Rattle.p2p_log.specs.declared.config.Config.{Config}
use Rattle.p2p_log.specs.declared.queue.Queue.{Queue}
use Rattle.p2p_log.specs.declared.queue.Queue.TheVariants as queue
use Rattle.p2p_log.specs.declared.item.Item.{Item}
use Rattle.p2p_log.specs.declared.item.Item.TheVariants as item
use Rattle.p2p_log.specs.declared.item.Envelope.{Envelope}
use Rattle.p2p_log.specs.declared.asked.Asked.TheVariants as ask
use Rattle.p2p_log.specs.declared.entry.Entry.{Entry}
use Rattle.p2p_log.specs.declared.entry.Reply.{Reply}
use Rattle.p2p_log.specs.declared.entry.Reply.TheVariants as reply
use Rattle.p2p_log.specs.declared.event.Act.{Act}
use Rattle.p2p_log.specs.declared.event.Act.TheVariants as act
use Rattle.p2p_log.specs.declared.event.Event.{Event}
use Rattle.p2p_log.proofs.Each.{Each-weaker}
use Rattle.p2p_log.proofs.QueueNames.{queue_from_same}
use Rattle.p2p_log_rules.specs.declared.row.Row.{Row}
use Rattle.p2p_log_rules.specs.Effect.{entry_of}
use Rattle.p2p_log_rules.specs.Facts.{taken}
use Rattle.p2p_log_rules.specs.Moves.{Moves}
use Rattle.p2p_log_rules.specs.Tracking.{rules_at, asked_by, grants_peer, calls_of}
use Rattle.p2p_log_rules.proofs.Calls.{asked_calls, item_calls, step_calls, calls_by}
use Rattle.p2p_log_laws.proofs.Reaching.{Reach, reads}
use Rattle.p2p_log_laws.specs.Grants.{one}
use Rattle.p2p_log_laws.specs.NodeGrants.{put_of}
use Rattle.p2p_log_laws.proofs.BegunPuts.{at_tracker, is_connect, tells_begun}
use Rattle.p2p_log_laws.proofs.Weighing.{weight, taken_items}
use Rattle.p2p_log_rules.proofs.Steps.{steps_tracker}

abbrev pub calls_for : ℕ → Call Key → Bool
calls_for conn (call.Connect key at e) = e == conn
calls_for conn _ = false

-- whether a call was for this connection
abbrev pub was_called : ℕ → List (Call Key) → Bool
was_called conn calls = list_any (calls_for conn) calls

-- a step of a tracker takes of its mailbox alone
pub tracker_reads : (configs : List Config) (log : List Entry) (n : ℕ) (a : Act) → steps_tracker n a ≡ true → (q : Queue) → reads configs log a q ≡ true → q ≡ queue.Tracker n
tracker_reads configs log n (act.Tracker m) steps q read = queue_from_same (queue.Tracker m) q read ∙ ap queue.Tracker (eqb-true m n steps)
tracker_reads configs log n _ steps q read = absurd (cc)

module _ (conn : ℕ) where
  called_overwritten : (es : List (Key × Address)) (calls : List (Call Key)) → was_called conn (overwritten es calls) ≡ was_called conn calls
  unfolding overwritten
  called_overwritten [] calls = refl
  called_overwritten (e ∷ es) calls = called_overwritten es (call.Overwrite e.0 e.1 ∷ calls)

  called_asked : (o : Option Act) (at : ℕ) (calls : List (Call Key)) → was_called conn (asked_calls o at calls) ≡ was_called conn calls
  called_asked (Some (act.Ask (ask.Track index peers) n)) at calls = refl
  called_asked (Some (act.Ask (ask.Overwrite peers) n)) at calls = called_overwritten peers calls
  called_asked (Some (act.Ask (ask.Block k) n)) at calls = refl
  called_asked _ at calls = refl

  -- once an item is taken, one connection more may have been called: that of the item
  called_item : (log : List Entry) (i : Item) (at jitter : ℕ) (granted : Bool) (calls : List (Call Key))
      → was_called conn (item_calls log i at jitter granted calls) ≡ (is_connect conn i || was_called conn calls)
  called_item log (item.Call e) at jitter granted calls = called_asked (asked_by log e) at calls
  called_item log _ at jitter granted calls = refl

  at_most : (now before : Bool) (rest : ℕ) → one (now || before) ≤ one before + (one now + rest)
  at_most true true rest = omega arith
  at_most true false rest = omega arith
  at_most false true rest = omega arith
  at_most false false rest = omega arith

  kept : (before : Bool) (k : ℕ) → one before ≤ one before + k
  kept true k = omega arith
  kept false k = omega arith

  called_step : (log : List Entry) (r : Reply) (items : List Item) (at jitter : ℕ) (granted : Bool) (calls : List (Call Key))
      → one (was_called conn (step_calls log r items at jitter granted calls)) ≤ one (was_called conn calls) + count_by (is_connect conn) items
  called_step log reply.Ok [] at jitter granted calls = kept (was_called conn calls) 0
  called_step log reply.Ok (i ∷ items) at jitter granted calls =
      subst (λ k. one (was_called conn (item_calls log i at jitter granted calls)) ≤ one (was_called conn calls) + k) (sym (sum_by-cons (λ j. one (is_connect conn j)) i items))
      (subst (λ b. one b ≤ one (was_called conn calls) + (one (is_connect conn i) + count_by (is_connect conn) items)) (sym (called_item log i at jitter granted calls))
      (at_most (is_connect conn i) (was_called conn calls) (count_by (is_connect conn) items)))
  called_step log _ items at jitter granted calls = kept (was_called conn calls) (count_by (is_connect conn) items)

  -- what is taken of the tracker's mailbox is counted as what stood there
  taken_weight : (n : ℕ) (xs : List Envelope) → Each (λ x. at_tracker n x.queue ≡ true) xs → count_by (is_connect conn) (map (λ x. x.item) xs) ≡ weight (tells_begun n conn) xs
  taken_weight n [] there = refl
  taken_weight n (x ∷ xs) there =
      sum_by-cons (λ j. one (is_connect conn j)) x.item (map (λ y. y.item) xs)
      ∙ (ap (λ b. one (b && is_connect conn x.item) + count_by (is_connect conn) (map (λ y. y.item) xs)) (sym there.0)
      ∙ (ap (λ k. one (tells_begun n conn (put_of x)) + k) (taken_weight n xs there.1) ∙ sym (sum_by-cons (λ y. one (tells_begun n conn (put_of y))) x xs)))

  module _ (configs : List Config) (n : ℕ) (log : List Entry) (ev : Event) (r : Row) (m : Moves log r) (reach : Reach configs ev.act log r m) (self : (n == n) ≡ true) where
    abbrev calls : List (Call Key)
    calls = calls_of configs log n

    abbrev stepped : List Item → List (Call Key)
    stepped items = step_calls log r.reply items ev.at (jitter_of (rules_at configs n).cooldown ev.seed) (list_any grants_peer r.puts) calls

    called_taken : steps_tracker n ev.act ≡ true → one (was_called conn (stepped (taken log (entry_of ev r)))) ≤ one (was_called conn calls) + weight (tells_begun n conn) m.taken
    called_taken steps =
        let items : List Item = map (λ x. x.item) m.taken in
        let there : Each (λ x. at_tracker n x.queue ≡ true) m.taken =
        Each-weaker (λ x. reads configs log ev.act x.queue ≡ true) (λ x. at_tracker n x.queue ≡ true) (λ x read. ap (at_tracker n) (tracker_reads configs log n ev.act steps x.queue read) ∙ self) m.taken reach.taken
        in
        let called = called_step log r.reply items ev.at (jitter_of (rules_at configs n).cooldown ev.seed) (list_any grants_peer r.puts) calls in
        subst (λ k. one (was_called conn (stepped (taken log (entry_of ev r)))) ≤ one (was_called conn calls) + k) (taken_weight n m.taken there)
        (subst (λ is. one (was_called conn (stepped is)) ≤ one (was_called conn calls) + count_by (is_connect conn) items) (sym (taken_items log ev r m)) called)

    -- after an entry no more were called than before it, and than it took
    pub each_called : one (was_called conn (calls_by configs n log (entry_of ev r) calls)) ≤ one (was_called conn calls) + weight (tells_begun n conn) m.taken
    each_called = by (steps_tracker n ev.act) refl
      where
        by : (b : Bool) → steps_tracker n ev.act ≡ b → one (was_called conn (cond b (stepped (taken log (entry_of ev r))) calls)) ≤ one (was_called conn calls) + weight (tells_begun n conn) m.taken
        by false other = kept (was_called conn calls) (weight (tells_begun n conn) m.taken)
        by true steps = called_taken steps
