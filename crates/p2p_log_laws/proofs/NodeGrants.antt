-- Each entry of a lawful log is a turn of each key at each node, and by turns a key is held as it is by the calls.
use Rattle.std.proofs.Common.{◌≡◌, ℕ, ◌+◌, Bool, true, false, cond, List, [], ◌∷◌, ◌++◌, length, take, inl, inr, refl, ap, sym, subst, ◌∙◌, arith, eq-eqb, eqb-true}
use Rattle.std.specs.Prelude.{◌==◌, ◌&&◌, ◌||◌, not, count_by, sum_by, filter}
use Rattle.std.specs.List.{list_any, AllByRecursion as Each}
use Rattle.std.proofs.lemmas.Bool.{and_parts, false≢true}
use Rattle.p2p_base.specs.declared.key.Key.{Key}
use Rattle.p2p_tracker_calls.specs.Grants as calls
use Rattle.p2p_log.specs.declared.config.Config.{Config}
use Rattle.p2p_log.specs.declared.queue.Queue.{Queue}
use Rattle.p2p_log.specs.declared.queue.Queue.TheVariants as queue
use Rattle.p2p_log.specs.declared.item.Item.TheVariants as item
use Rattle.p2p_log.specs.declared.item.Envelope.{Envelope}
use Rattle.p2p_log.specs.declared.end.Cause.TheVariants as cause
use Rattle.p2p_log.specs.declared.entry.Entry.{Entry}
use Rattle.p2p_log.specs.declared.entry.Reply.TheVariants as reply
use Rattle.p2p_log.specs.declared.event.Act.{Act}
use Rattle.p2p_log.specs.declared.event.Act.TheVariants as act
use Rattle.p2p_log.specs.declared.event.Event.{Event}
use Rattle.p2p_log.specs.Drained.{all_end, drained_with}
use Rattle.p2p_log.specs.QueueCode.{same_queue}
use Rattle.p2p_log.specs.Lines.{name_of, stays, stands_in, live_from, live, line}
use Rattle.p2p_log.proofs.Each.{Has, Each-from_has, Each-weaker}
use Rattle.p2p_log.proofs.Names.{AreApart-live_from}
use Rattle.p2p_log.proofs.Queues.{same_queue-refl}
use Rattle.p2p_log.proofs.Taken.{sum_by-first}
use Rattle.p2p_log_rules.specs.declared.row.Row.{Row}
use Rattle.p2p_log_rules.specs.Attempting.{dial_rules_at, attempts_of}
use Rattle.p2p_log_rules.specs.Connections.{is_over, live_connection}
use Rattle.p2p_log_rules.specs.Effect.{effect, entry_of, row}
use Rattle.p2p_log_rules.specs.Facts.{stops, stops_node, is_started, is_up, is_stopped as has_stopped, history_from, taken}
use Rattle.p2p_log_rules.specs.Handshakes.{is_handshaking}
use Rattle.p2p_log_rules.specs.Lawful.{IsLawful}
use Rattle.p2p_log_rules.specs.Rows.{only}
use Rattle.p2p_log_rules.specs.Stopping.{brought_by, queues_at}
use Rattle.p2p_log_rules.specs.Taking.{state_from}
use Rattle.p2p_log_rules.specs.Told.{tells, told}
use Rattle.p2p_log_rules.specs.Tracked.{grants_peer, called_tells}
use Rattle.p2p_log_rules.specs.TrackerRows.{tracker_step}
use Rattle.p2p_log_rules.specs.Tracking.{key_cmp, calls_of}
use Rattle.p2p_log_rules.proofs.Acted.{tells_as}
use Rattle.p2p_log_rules.proofs.Attempts.{attempt_told}
use Rattle.p2p_log_rules.proofs.Bools.{and_false}
use Rattle.p2p_log_rules.proofs.Calls.{calls_of-append}
use Rattle.p2p_log_rules.proofs.Channels.{IsStopOf, tells_again, stop_told, stops_none, is_stopped-append}
use Rattle.p2p_log_rules.proofs.Handshakes.{handshakes_of-stopped}
use Rattle.p2p_log_rules.proofs.Ignoring.{by_entries}
use Rattle.p2p_log_rules.proofs.Moves.{one_taken}
use Rattle.p2p_log_rules.proofs.Steps.{steps_tracker, steps_spawner}
use Rattle.p2p_log_rules.proofs.Stopping.{attempts_of-stopped, live_connection-stopped}
use Rattle.p2p_log_laws.specs.Grants.{one, Granting, turn_by, held_after, is_held, is_stopped, IsTurn, EachIsTurn}
use Rattle.p2p_log_laws.specs.NodeGrants.{count_below, put_of, holds_grants, grants_key, releases_key, is_attempt_of, is_connection_of, beginners_of, puts_grant, puts_release, tells_grant, granting}
use Rattle.p2p_log_laws.proofs.CountBelow.{none_below, count_below-same}
use Rattle.p2p_log_laws.proofs.FirstGrants.{Stand, stand_first, stand_more, first_grants}
use Rattle.p2p_log_laws.proofs.Granting.{grants_elsewhere, frees_elsewhere, grants_of}
use Rattle.p2p_log_laws.proofs.HeldCalls.{held_none}
use Rattle.p2p_log_laws.proofs.NodeWeighs.{each_weighs, each_turns}
use Rattle.p2p_log_laws.proofs.Prefixes.{at_each, at_end, entry_due}
use Rattle.p2p_log_laws.proofs.Running.{Runs, StandRuns, runs_more}
use Rattle.p2p_log_laws.proofs.Shape.{no_moves}
use Rattle.p2p_log_laws.proofs.StopLeaves.{stop_empties, none_passes}
use Rattle.p2p_log_laws.proofs.Turns.{stopped_next, held_next, one_holder}
use Rattle.p2p_log_laws.proofs.Weighing.{weighed}
use Rattle.p2p_log_laws.proofs.Weighs.{Weighs, Turns, plain_weighs}

module _ (configs : List Config) (n : ℕ) (key : Key) where
  abbrev g : Granting
  g = granting configs n key

  -- ---- held by turns, and by the calls

  abbrev IsHeldByCalls : List Entry → Type 0
  IsHeldByCalls log = Stand configs n log × (is_held g log ≡ calls.is_held key_cmp (calls_of configs log n) key)

  held_first : IsHeldByCalls []
  unfolding history_from
  held_first = (stand_first configs n, sym (held_none configs n key))

  held_more : (before : List Entry) (ev : Event) → IsHeldByCalls before → IsHeldByCalls (before ++ effect configs before ev ∷ [])
  unfolding effect
  held_more before ev (stand, held) = (
    stand_more configs n before ev stand,
    let r : Row = row configs before ev.at ev.seed ev.act in
        let turn : Turns configs n key before ev r = each_turns configs n key before ev.at ev.seed stand.fitting (first_grants configs n key before stand) (stand.unended (length before) (omega arith)) ev.act in
        held_next g before (entry_of ev r)
        ∙ (ap (λ b. held_after b (turn_by g before (entry_of ev r))) held
        ∙ (sym turn.turn ∙ ap (λ l. calls.is_held key_cmp l key) (sym (calls_of-append configs before (entry_of ev r) n)))),
  )

  -- ---- each entry is a turn

  -- it is stopped by turns where it is by the log
  first_stopped : is_stopped g [] ≡ has_stopped [] n
  unfolding history_from has_stopped told state_from
  first_stopped = refl

  more_stopped : (l : List Entry) (e : Entry) → is_stopped g l ≡ has_stopped l n → is_stopped g (l ++ e ∷ []) ≡ has_stopped (l ++ e ∷ []) n
  more_stopped l e same = stopped_next g l e ∙ (ap (λ b. b || g.stops l e) same ∙ sym (is_stopped-append l e n))

  stopped_is : (log : List Entry) → is_stopped g log ≡ has_stopped log n
  stopped_is log = by_entries (λ l. is_stopped g l ≡ has_stopped l n) first_stopped more_stopped log

  -- the tracker of a node that has stopped grants nothing
  gone_tracker : (before : List Entry) (ev : Event) → has_stopped before n ≡ true → ev.act ≡ act.Tracker n → (effect configs before ev).reply ≡ reply.Gone
  unfolding effect row is_up
  gone_tracker before ev over acts =
      ap (λ a. (row configs before ev.at ev.seed a).reply) acts
      ∙ (ap (λ b. (cond (is_started before n && not b) (tracker_step configs before n ev.at) (only reply.Gone)).reply) over
      ∙ ap (λ b. (cond b (tracker_step configs before n ev.at) (only reply.Gone)).reply) (and_false (is_started before n)))

  none_granted : (before : List Entry) (ev : Event) → is_stopped g before ≡ true → g.grants before (effect configs before ev) ≡ false
  unfolding effect
  none_granted before ev over = by (steps_tracker n ev.act) refl
    where
      e : Entry
      e = effect configs before ev

      steps_is : (a : Act) → steps_tracker n a ≡ true → a ≡ act.Tracker n
      steps_is (act.Tracker m) h = ap act.Tracker (eqb-true m n h)
      steps_is _ h = absurd (false≢true h)

      by : (b : Bool) → steps_tracker n ev.act ≡ b → g.grants before e ≡ false
      by false other = grants_elsewhere n key before e other
      by true steps =
          let acts : ev.act ≡ act.Tracker n = steps_is ev.act steps in
          ap (list_any (tells_grant n key)) (tells_as (told before) before e (act.Tracker n) acts)
          ∙ (grants_of n key before e.event.at e.event.seed e.reply (taken before e) e.puts
          ∙ ap (λ r. list_any (tells_grant n key) (called_tells before n e.event.at e.event.seed (list_any grants_peer e.puts) r (taken before e))) (gone_tracker before ev (sym (stopped_is before) ∙ over) acts))

  -- an entry that does not stop the node
  turn_by_weighs : (before : List Entry) (ev : Event) (r : Row) → Weighs configs n key before ev r → g.stops before (entry_of ev r) ≡ false → (is_stopped g before ≡ true → g.grants before (entry_of ev r) ≡ false)
      → IsHeldByCalls before → IsTurn g before (entry_of ev r)
  turn_by_weighs before ev r weighs runs up (stand, held) =
      let holding = weighs.holding in
      let waiting = weighs.waiting in
      let grants = weighed before ev r weighs.moves (puts_grant n key) in
      let releases = weighed before ev r weighs.moves (puts_release n key) in
      record {
        hands = inl (record {
          holding = omega (arith, holding, grants);
          waiting = omega (arith, waiting, releases);
          free = λ h. held ∙ weighs.free h;
          up = up;
          apart = weighs.apart;
          runs = runs;
        });
        kept = [];
        lived = tt;
        alive = refl;
        numbered = tt;
        hold = omega arith;
      }

  goes_turn : (before : List Entry) (ev : Event) → stops n ev.act ≡ false → IsHeldByCalls before → IsTurn g before (effect configs before ev)
  unfolding effect
  goes_turn before ev goes_on (stand, held) =
      turn_by_weighs before ev (row configs before ev.at ev.seed ev.act)
      (each_weighs configs n key before ev.at ev.seed stand.fitting (first_grants configs n key before stand) (stand.unended (length before) (omega arith)) ev.act goes_on)
      (stops_none before (effect configs before ev) n goes_on) (none_granted before ev) (stand, held)

  -- a second stop does nothing
  again_weighs : (before : List Entry) (ev : Event) (by_start : Bool) → ev.act ≡ act.Stop by_start n → tells (told before) before (entry_of ev (only reply.Gone)) ≡ [] → Weighs configs n key before ev (only reply.Gone)
  again_weighs before ev by_start acts nothing =
      plain_weighs configs n key before ev (only reply.Gone) (ap (steps_tracker n) acts) (ap (steps_spawner n) acts) (λ k. ap (list_any (is_over n k)) nothing) (no_moves before (only reply.Gone) refl refl)
      (record { taken = tt; ended = tt; puts = tt }) (λ k. ap (λ us. is_attempt_of key (attempt_told (dial_rules_at configs n) n k us (attempts_of configs before n k))) nothing)

  -- a stop leaves nothing that holds, and nothing that waits
  module _ (before : List Entry) (ev : Event) (stop : IsStopOf before (effect configs before ev) n) (stand : Stand configs n before) where
    abbrev e : Entry
    e = effect configs before ev

    abbrev longer : List Entry
    longer = before ++ e ∷ []

    runs : Each (StandRuns longer) (live longer)
    runs = runs_more configs before ev stand.running

    nobody : (h : ℕ) → is_handshaking longer n h ≡ true → ⊥
    nobody h is = false≢true (sym (ap (list_any (λ k. h == k)) (handshakes_of-stopped before e n stop)) ∙ is)

    abbrev Emptied : Envelope → Type 0
    Emptied x = (q : Queue) × (stands_in q x ≡ true) × (line longer q ≡ [])

    grant_gone : (x : Envelope) → StandRuns longer x → puts_grant n key (put_of x) ≡ true → Emptied x
    grant_gone x alive is = by x.queue refl (and_parts (holds_grants n x.queue) (grants_key key x.item) is).0 alive
      where
        at_node : (place : ℕ → Queue) (m : ℕ) → x.queue ≡ place m → (m == n) ≡ true → Has (queues_at before n) (place n) → Emptied x
        at_node place m there same has =
            (place n, ap (same_queue (place n)) (there ∙ ap place (eqb-true m n same)) ∙ same_queue-refl (place n), stop_empties configs before ev n stop (place n) has)

        by : (q : Queue) → x.queue ≡ q → holds_grants n q ≡ true → Runs longer q → Emptied x
        by (queue.Dialer m) there same alive = at_node queue.Dialer m there same (inr (inr (inr (inr (inr (inl refl))))))
        by (queue.Spawner m) there same alive = at_node queue.Spawner m there same (inr (inr (inl refl)))
        by (queue.Handshake m h) there same alive = absurd (nobody h (subst (λ k. is_handshaking longer k h ≡ true) (eqb-true m n same) alive))
        by _ there none alive = absurd (false≢true none)

    none_grants : count_by (λ x. puts_grant n key (put_of x)) (live longer) ≡ 0
    none_grants = none_passes (puts_grant n key) longer (Each-weaker (StandRuns longer) (λ x. puts_grant n key (put_of x) ≡ true → Emptied x) grant_gone (live longer) runs)

    none_releases : count_by (λ x. puts_release n key (put_of x)) (live longer) ≡ 0
    none_releases =
        none_passes (puts_release n key) longer
        (Each-from_has (λ x. puts_release n key (put_of x) ≡ true → Emptied x) (live longer)
        (λ x has is. (queue.Tracker n, (and_parts (same_queue (queue.Tracker n) x.queue) (releases_key key x.item) is).0, stop_empties configs before ev n stop (queue.Tracker n) (inr (inl refl)))))

    none_begun : beginners_of n key configs longer ≡ 0
    none_begun =
        let attempts = count_below-same (λ k. is_attempt_of key (attempts_of configs longer n k)) (λ k. false) (length longer) (λ k. sym (ap (is_attempt_of key) (attempts_of-stopped configs before e n stop k))) in
        let connections = count_below-same (λ k. is_connection_of key (live_connection longer n k)) (λ k. false) (length longer) (λ k. sym (ap (is_connection_of key) (live_connection-stopped before e n stop k))) in
        let none = none_below (length longer) in
        omega (arith, attempts, connections, none)

    still : steps_tracker n e.event.act ≡ false
    still = ap (steps_tracker n) stop.acts

    halts : IsTurn g before (effect configs before ev)
    halts = record {
      hands = inr (record {
        none_holds = let grants = none_grants in let begun = none_begun in omega (arith, grants, begun);
        none_waits = none_releases;
        no_grant = grants_elsewhere n key before e still;
        no_turn = frees_elsewhere n key before e still;
        stops = stop_told before e n stop;
      });
      kept = [];
      lived = tt;
      alive = refl;
      numbered = tt;
      hold = omega arith;
    }

  stop_turn : (before : List Entry) (ev : Event) (by_start : Bool) → ev.act ≡ act.Stop by_start n → IsHeldByCalls before → IsTurn g before (effect configs before ev)
  unfolding effect row
  stop_turn before ev by_start acts (stand, held) = by (has_stopped before n) refl
    where
      due : Row
      due = record { reply = reply.Ok; takes = []; puts = []; ends = all_end cause.NodeStopped (drained_with (brought_by before) (live before) (queues_at before n)) }

      is : row configs before ev.at ev.seed ev.act ≡ cond (has_stopped before n) (only reply.Gone) due
      is = ap (row configs before ev.at ev.seed) acts

      by : (b : Bool) → has_stopped before n ≡ b → IsTurn g before (entry_of ev (row configs before ev.at ev.seed ev.act))
      by false lasts = halts before ev (record { by_start = by_start; acts = acts; lasted = lasts }) stand
      by true over =
          let gone : row configs before ev.at ev.seed ev.act ≡ only reply.Gone = is ∙ ap (λ b. cond b (only reply.Gone) due) over in
          let nothing : tells (told before) before (entry_of ev (only reply.Gone)) ≡ [] = tells_again before (entry_of ev (only reply.Gone)) n by_start acts over in
          subst (λ (r : Row). IsTurn g before (entry_of ev r)) (sym gone)
          (turn_by_weighs before ev (only reply.Gone) (again_weighs before ev by_start acts nothing) (ap (list_any (stops_node n)) nothing) (λ h. ap (list_any (tells_grant n key)) nothing) (stand, held))

  turn_due : (before : List Entry) (ev : Event) → IsHeldByCalls before → IsTurn g before (effect configs before ev)
  turn_due before ev held = by (stops n ev.act) refl
    where
      stop_is : (a : Act) → stops n a ≡ true → (by_start : Bool) × (a ≡ act.Stop by_start n)
      stop_is (act.Stop by_start m) h = (by_start, ap (act.Stop by_start) (eqb-true m n h))
      stop_is _ h = absurd (false≢true h)

      by : (b : Bool) → stops n ev.act ≡ b → IsTurn g before (effect configs before ev)
      by false goes_on = goes_turn before ev goes_on held
      by true stops_it = let stop = stop_is ev.act stops_it in stop_turn before ev stop.0 stop.1 held

  none_holds : g.holders [] ≡ 0
  unfolding live_from count_below
  none_holds = refl

  none_waits : g.waiting [] ≡ 0
  unfolding live_from
  none_waits = refl

module _ (configs : List Config) (script : List Event) (log : List Entry) (lawful : IsLawful configs script log) (n : ℕ) (key : Key) where
  pub each_node_turn : EachIsTurn (granting configs n key) log
  each_node_turn = record {
    none_holds = none_holds configs n key;
    none_waits = none_waits configs n key;
    none_lives = refl;
    each = λ i e at.
        let due = entry_due configs script log lawful i e at in
        let held = at_each configs (IsHeldByCalls configs n key) (held_first configs n key) (held_more configs n key) script log lawful i in
        subst (IsTurn (granting configs n key) (take i log)) (sym due.1) (turn_due configs n key (take i log) due.0 held);
  }

  -- a key is held by turns as it is by the calls of the node's tracker
  pub held_by_calls : is_held (granting configs n key) log ≡ calls.is_held key_cmp (calls_of configs log n) key
  held_by_calls = (at_end configs (IsHeldByCalls configs n key) (held_first configs n key) (held_more configs n key) script log lawful).1

  -- ---- a release that the tracker is about to take

  release_waits : (x : Envelope) (rest : List Envelope) → line log (queue.Tracker n) ≡ x ∷ rest → x.item ≡ item.Release key
      → (granting configs n key).waiting log ≡ 1 + sum_by (λ y. cond (puts_release n key (put_of y)) 1 0) (filter (stays (name_of x ∷ [])) (live log))
  unfolding line
  release_waits x rest first is =
      let w : Envelope → ℕ = λ y. cond (puts_release n key (put_of y)) 1 0 in
      let stood : x.queue ≡ queue.Tracker n = one_taken log (queue.Tracker n) x rest first in
      let here : puts_release n key (put_of x) ≡ true =
      ap (λ q. same_queue (queue.Tracker n) q && releases_key key x.item) stood
      ∙ (ap (λ b. b && releases_key key x.item) (same_queue-refl (queue.Tracker n)) ∙ (ap (releases_key key) is ∙ eq-eqb key.0 key.0 refl))
      in
      sum_by-first w (live log) (queue.Tracker n) x rest (AreApart-live_from 0 log) first ∙ ap (λ b. cond b 1 0 + sum_by w (filter (stays (name_of x ∷ [])) (live log))) here

  held_by_turns : (holders waiting left : ℕ) (stopped held : Bool) → holders + waiting ≡ cond stopped 0 (one held) → waiting ≡ 1 + left → held ≡ true
  held_by_turns holders waiting left true held sum waits = absurd (omega (arith, sum, waits))
  held_by_turns holders waiting left false true sum waits = refl
  held_by_turns holders waiting left false false sum waits = absurd (omega (arith, sum, waits))

  pub release_is_held : (x : Envelope) (rest : List Envelope) → line log (queue.Tracker n) ≡ x ∷ rest → x.item ≡ item.Release key
      → calls.is_held key_cmp (calls_of configs log n) key ≡ true
  release_is_held x rest first is =
      sym held_by_calls
      ∙ held_by_turns ((granting configs n key).holders log) ((granting configs n key).waiting log)
      (sum_by (λ y. cond (puts_release n key (put_of y)) 1 0) (filter (stays (name_of x ∷ [])) (live log)))
      (is_stopped (granting configs n key) log) (is_held (granting configs n key) log) (one_holder (granting configs n key) log each_node_turn) (release_waits x rest first is)
