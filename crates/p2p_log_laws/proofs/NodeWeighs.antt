-- What each act does to the grants of a key at a node: who holds them before and after it, and what it makes of the calls.
use Rattle.std.proofs.Common.{◌≡◌, ℕ, Bool, true, false, cond, List, [], ◌∷◌, ◌++◌, map, take, length, Option, Some, None, refl, ap, sym, subst, ◌∙◌, arith, eq-eqb, eqb-true}
use Rattle.std.proofs.lemmas.Bool.{false≢true}
use Rattle.std.specs.Prelude.{◌==◌, ◌&&◌, ◌||◌, flat_map, nat_lt}
use Rattle.std.specs.List.{AllByRecursion as Each, list_any}
use Rattle.std.specs.Option.{option_map}
use Rattle.p2p_base.specs.declared.key.Key.{Key}
use Rattle.p2p_tracker_calls.specs.declared.call.Call.{Call}
use Rattle.p2p_tracker_calls.specs.Grants.{is_held}
use Rattle.p2p_tracker_calls.specs.Jitter.{jitter_of}
use Rattle.p2p_log.specs.declared.config.Config.{Config}
use Rattle.p2p_log.specs.declared.queue.Queue.{Queue}
use Rattle.p2p_log.specs.declared.queue.Queue.TheVariants as queue
use Rattle.p2p_log.specs.declared.queue.Side.{Side}
use Rattle.p2p_log.specs.declared.queue.Side.TheVariants as side
use Rattle.p2p_log.specs.declared.item.Item.{Item}
use Rattle.p2p_log.specs.declared.item.Item.TheVariants as item
use Rattle.p2p_log.specs.declared.entry.Entry.{Entry}
use Rattle.p2p_log.specs.declared.entry.Reply.TheVariants as reply
use Rattle.p2p_log.specs.declared.asked.Asked.{Asked}
use Rattle.p2p_log.specs.declared.asked.Asked.TheVariants as ask
use Rattle.p2p_log.specs.declared.event.Act.{Act}
use Rattle.p2p_log.specs.declared.event.Act.TheVariants as act
use Rattle.p2p_log.specs.declared.event.Event.{Event}
use Rattle.p2p_log.specs.Lines.{ended_item, live, line}
use Rattle.p2p_log.proofs.Each.{Each-weaker}
use Rattle.p2p_log_rules.specs.declared.row.Row.{Row}
use Rattle.p2p_log_rules.specs.Attempting.{Attempt, DialRules, dial_rules_at, attempts_of, attempt_turn, attempt_by, attempt_row, resolve_row, refuse_row, connect_row}
use Rattle.p2p_log_rules.proofs.Connections.{EndsNone, may_end, ends_half, ends_untold, ends_none-act}
use Rattle.p2p_log_rules.specs.Tellings.{Telling, last_or}
use Rattle.p2p_log_rules.specs.Told.{asks_list, took_tells, tells, told}
use Rattle.p2p_log_rules.specs.Tracked.{called_tells}
use Rattle.p2p_log_rules.proofs.Attempts.{attempt_told, attempts_by, attempts_of-append}
use Rattle.p2p_log_rules.proofs.AttemptTellings.{attempts_of-act, tries, none_tried, attempts_of-others, attempts_of-kept, attempts_of-new, attempts_of-old, attempts_of-stepped}
use Rattle.p2p_log_rules.proofs.TellingKinds as kind
use Rattle.p2p_log_rules.proofs.Families.{kinds_of, are_apart}
use Rattle.p2p_log_rules.specs.Dialing.{dialer_row}
use Rattle.p2p_log_rules.specs.declared.row.Opening.{Opening}
use Rattle.p2p_log_rules.specs.declared.row.ListeningEnd.{ListeningEnd}
use Rattle.p2p_log_rules.specs.Handshakes.{handshake_at, came_over, is_handshaking, is_finished}
use Rattle.p2p_log_rules.specs.Handshaking.{handshake_deadline, is_due, handshake_turn, handshake_row}
use Rattle.p2p_log_rules.specs.Cutting.{is_cut}
use Rattle.p2p_log_rules.specs.Links.{openings_of, listening_ends_of, finished_row, verdict, finish_by, finish_row}
use Rattle.p2p_log_rules.specs.Listening.{listener_row}
use Rattle.p2p_log_rules.specs.Connections.{half_at, is_ended}
use Rattle.p2p_log_rules.specs.Dropping.{dialing_end, arriving_end, attempt_step_row, handshake_step_row, listening_end}
use Rattle.p2p_log_rules.specs.Puts.{gave_up, ends_attempt, broke_off, turns_away}
use Rattle.p2p_log_rules.specs.Effect.{entry_of, row, send_step_row, recv_step_row}
use Rattle.p2p_base.specs.declared.outcome.Feedback.TheVariants as feedback
use Rattle.p2p_log_rules.specs.Facts.{stops, is_stopped, item_named, taken}
use Rattle.p2p_log_rules.specs.Moves.{Moves}
use Rattle.p2p_log_rules.specs.Full.{is_full}
use Rattle.p2p_log_rules.specs.Rows.{only, is_spawner_full}
use Rattle.p2p_log_rules.specs.Spawning.{spawned_of, spawner_row}
use Rattle.p2p_log_rules.specs.Tracking.{key_cmp, rules_at, asked_by, grants_peer, calls_of}
use Rattle.p2p_log_rules.proofs.Calls.{step_calls}
use Rattle.p2p_log_rules.specs.TrackerRows as rows
use Rattle.p2p_log_rules.proofs.Touches.{is_told_to}
use Rattle.p2p_log_laws.proofs.Reaching.{in_connection, reads, ends_in}
use Rattle.p2p_log_laws.specs.Grants.{one, Granting, held_after}
use Rattle.p2p_log_laws.specs.NodeGrants.{is_attempt_of, is_connection_of, tells_grant, tells_release, granting}
use Rattle.p2p_log_laws.proofs.Granting.{grants_of, releases_of}
use Rattle.p2p_log_laws.proofs.AttemptGrants.{Ends, attempt_ends}
use Rattle.p2p_log_laws.proofs.AttemptHolds.{took_holds, bounded_holds, holds_kept, holds_begun, holds_changed}
use Rattle.p2p_log_laws.proofs.ConnectionHolds.{connections_kept, connections_made}
use Rattle.p2p_log_laws.proofs.AttemptShape.{attempt_shape}
use Rattle.p2p_log_laws.proofs.ConnShapes.{send_step_shape}
use Rattle.p2p_log_laws.proofs.DialerGrants.{begins_held, Hand, dialer_hands}
use Rattle.p2p_log_laws.proofs.FinishShape.{finish_plain}
use Rattle.p2p_log_laws.proofs.Fitting.{StandsFit}
use Rattle.p2p_log_laws.proofs.HandshakeGrants.{GrantsFirst, Hands, nothing, turn_hands}
use Rattle.p2p_log_laws.proofs.Plain.{IsAside, Away, Plain, StandsPlain, away_aside, connection_away, plain_aside, plain_item, stand_aside, plain_out_of_reach, no_grants, no_releases, no_grants_stand, no_releases_stand}
use Rattle.p2p_log_laws.proofs.HandshakeShape.{handshake_shape}
use Rattle.p2p_log_laws.proofs.ReceiverShape.{recv_step_shape}
use Rattle.p2p_log_laws.proofs.Shape.{Shape, no_moves}
use Rattle.p2p_log_laws.proofs.ListenerShape.{listener_aside, listener_shape}
use Rattle.p2p_log_rules.specs.Stopping.{stop_row}
use Rattle.p2p_log_laws.proofs.Shapes.{row_shape}
use Rattle.p2p_log_laws.proofs.StopShape.{stop_shape}
use Rattle.p2p_log_laws.proofs.HalfSteps.{send_is, receive_is}
use Rattle.p2p_log_laws.proofs.SpawnerGrants.{Made, spawner_makes}
use Rattle.p2p_log_laws.proofs.TrackerGrants.{Step, tracker_steps}
use Rattle.p2p_log_laws.proofs.Weighing.{taken_items}
use Rattle.p2p_log_laws.proofs.Weighs as weighs
use Rattle.p2p_log_laws.proofs.Weighs.{other_way}
use Rattle.p2p_log_rules.proofs.Steps.{steps_tracker, steps_spawner}

-- a test that fails for each of these queues as it is written
nowhere : (n : ℕ) → Away n (λ q. false)
nowhere n = record { dialer = refl; handshakes = λ h. refl; spawner = refl; tracker = refl }

told_aside : (o : Option Act) (e n : ℕ) → Away n (is_told_to o e)
told_aside (Some (act.Ask (ask.PeerSet index) m)) e n = record { dialer = refl; handshakes = λ h. refl; spawner = refl; tracker = refl }
told_aside (Some (act.Ask ask.Subscribe m)) e n = record { dialer = refl; handshakes = λ h. refl; spawner = refl; tracker = refl }
told_aside (Some (act.Ask ask.Blocked m)) e n = record { dialer = refl; handshakes = λ h. refl; spawner = refl; tracker = refl }
told_aside _ e n = record { dialer = refl; handshakes = λ h. refl; spawner = refl; tracker = refl }

took_nothing : (log : List Entry) (e : Entry) → e.takes ≡ [] → taken log e ≡ []
unfolding taken
took_nothing log e takes = ap (flat_map (item_named log)) takes

module _ (configs : List Config) (n : ℕ) (key : Key) (log : List Entry) where
  abbrev g : Granting
  g = granting configs n key

  abbrev calls : List (Call Key)
  calls = calls_of configs log n

  abbrev f : ℕ → Option Attempt
  f = attempts_of configs log n

  abbrev Weighs : Event → Row → Type 0
  Weighs = weighs.Weighs configs n key log

  abbrev event : ℕ → ℕ → Act → Event
  event at seed a = record { at = at; seed = seed; act = a }

  module _ (at seed : ℕ) where
    -- ---- what a half tells

    half_aside : (a : Act) (m conn : ℕ) (r : Row) (shape : Shape configs log a r) → ((q : Queue) → ends_in configs log a q ≡ true → in_connection (half_at log m conn) m conn q ≡ true)
        → Each (StandsPlain n key) shape.moves.ended
    half_aside a m conn r shape with =
        stand_aside n key shape.moves.ended
        (Each-weaker (λ x. ends_in configs log a x.queue ≡ true) (λ x. IsAside n x.queue)
        (λ x k. away_aside n (in_connection (half_at log m conn) m conn) (connection_away n (half_at log m conn) m conn) x.queue (with x.queue k)) shape.moves.ended shape.reach.ended)

    -- an act that is not of the node's attempts
    untried : (a : Act) (r : Row) → tries n a ≡ false → (k : ℕ) → is_attempt_of key (attempts_by configs n log (entry_of (event at seed a) r) f k) ≡ is_attempt_of key (f k)
    untried a r h k =
        let e : Entry = entry_of (event at seed a) r in
        ap (is_attempt_of key) (sym (attempts_of-append configs log e n k) ∙ attempts_of-kept configs log e n k h)

    -- one that neither begins nor ends any
    only_told : (a : Act) (r : Row) → are_apart (kinds_of a) (kind.attempt_begun ∷ kind.attempt_ended ∷ []) ≡ true → (k : ℕ) → is_attempt_of key (attempts_by configs n log (entry_of (event at seed a) r) f k) ≡ is_attempt_of key (f k)
    only_told a r apart k = bounded_holds (dial_rules_at configs n) n k key log (entry_of (event at seed a) r) (f k) apart

    sender_weighs : (conn m : ℕ) → Weighs (event at seed (act.SendStep conn m)) (send_step_row configs log conn m at)
    sender_weighs conn m =
        let a : Act = act.SendStep conn m in
        let r : Row = send_step_row configs log conn m at in
        let shape : Shape configs log a r = send_step_shape configs log conn m at in
        weighs.step_weighs configs n key log at seed a m conn r shape (record { dialer = refl; handshakes = λ h. refl; spawner = refl; tracker = refl })
        (half_aside a m conn r shape (λ q h. h)) refl refl (λ k. ends_half log (entry_of (event at seed a) r) n k true conn m refl)
        (send_is configs log conn m at (Plain n key) (λ k. plain_item n key (queue.Tracker m) (item.Connect conn k) refl refl)
        (λ k. plain_aside n key (queue.Router m) (item.Ready conn k) (refl, refl)) link_plain) (untried a r refl)
      where
        link_plain : (e : ℕ) (s : Side) (i : Item) → Plain n key (queue.Link e s, i)
        link_plain e side.Out i = plain_aside n key (queue.Link e side.Out) i (refl, refl)
        link_plain e side.In i = plain_aside n key (queue.Link e side.In) i (refl, refl)

    receiver_weighs : (conn m : ℕ) → Weighs (event at seed (act.RecvStep conn m)) (recv_step_row configs log conn m at)
    receiver_weighs conn m =
        let a : Act = act.RecvStep conn m in
        let r : Row = recv_step_row configs log conn m at in
        let shape : Shape configs log a r = recv_step_shape configs log conn m at in
        weighs.step_weighs configs n key log at seed a m conn r shape read_away (half_aside a m conn r shape (λ q h. h)) refl refl (λ k. ends_half log (entry_of (event at seed a) r) n k false conn m refl)
        (receive_is configs log conn m at (Plain n key) (λ i. plain_aside n key (queue.Held m conn) i (refl, refl)) (λ c i. plain_aside n key (queue.Channel m c) i (refl, refl))) (untried a r refl)
      where
        read_away : Away n (reads configs log (act.RecvStep conn m))
        read_away = record { dialer = refl; handshakes = λ h. refl; spawner = refl; tracker = refl }

    -- ---- questions

    asks : (a : Act) (r : Row) → steps_tracker n a ≡ false → steps_spawner n a ≡ false → EndsNone a → r.takes ≡ [] → r.ends ≡ [] → Each (Plain n key) r.puts
        → ((k : ℕ) → is_attempt_of key (attempts_by configs n log (entry_of (event at seed a) r) f k) ≡ is_attempt_of key (f k)) → Weighs (event at seed a) r
    asks a r still makes none takes ends puts kept =
        weighs.plain_weighs configs n key log (event at seed a) r still makes (λ k. ends_untold log (entry_of (event at seed a) r) n k a refl none) (no_moves log r takes (ap (flat_map ended_item) ends)) (record { taken = tt; ended = tt; puts = puts }) kept

    asked_weighs : (what : Asked) (m : ℕ) → Weighs (event at seed (act.Ask what m)) (rows.asked_row configs log m)
    asked_weighs what m = by (is_stopped log m)
      where
        due : Row
        due = record {
          reply = reply.Feedback (rows.feedback_by (is_full configs log (queue.Tracker m)));
          takes = [];
          puts = (queue.Tracker m, item.Call (length log)) ∷ [];
          ends = [];
        }

        closed : Row
        closed = only (reply.Feedback feedback.Closed)

        by : (b : Bool) → Weighs (event at seed (act.Ask what m)) (cond b closed due)
        by true = asks (act.Ask what m) closed refl refl refl refl refl tt (untried (act.Ask what m) closed refl)
        by false = asks (act.Ask what m) due refl refl refl refl refl (plain_item n key (queue.Tracker m) (item.Call (length log)) refl refl, tt) (untried (act.Ask what m) due refl)

    ask_weighs : (what : Asked) (m : ℕ) → Weighs (event at seed (act.Ask what m)) (rows.ask_row configs log m what)
    ask_weighs (ask.Track index peers) m = by_size (nat_lt (rows.most_peers_at configs m) (rows.size_at configs m peers))
      where
        by_size : (b : Bool) → Weighs (event at seed (act.Ask (ask.Track index peers) m))
            (cond b (only (reply.PeerSetTooLarge (rows.size_at configs m peers) (rows.most_peers_at configs m))) (rows.asked_row configs log m))
        by_size true =
            asks (act.Ask (ask.Track index peers) m) (only (reply.PeerSetTooLarge (rows.size_at configs m peers) (rows.most_peers_at configs m))) refl refl refl refl refl tt
            (untried (act.Ask (ask.Track index peers) m) (only (reply.PeerSetTooLarge (rows.size_at configs m peers) (rows.most_peers_at configs m))) refl)
        by_size false = asked_weighs (ask.Track index peers) m
    ask_weighs what m = asked_weighs what m

    -- ---- the tracker's step

    here : (n == n) ≡ true
    here = eq-eqb n n refl

    tracker_weighs : Weighs (event at seed (act.Tracker n)) (rows.tracker_row configs log n at)
    unfolding tells
    tracker_weighs =
        let r : Row = rows.tracker_row configs log n at in
        let jitter : ℕ = jitter_of (rules_at configs n).cooldown seed in
        let step : Step n key (rules_at configs n) log at seed jitter calls r = tracker_steps n key configs log at seed jitter in
        let m : Moves log r = step.moves in
        let e : Entry = entry_of (event at seed (act.Tracker n)) r in
        let items : taken log e ≡ map (λ x. x.item) m.taken = taken_items log (event at seed (act.Tracker n)) r m in
        let called : List Item → List Telling = λ l. called_tells log n at seed (list_any grants_peer r.puts) r.reply l in
        let grants : g.grants log e ≡ step.turned.grants =
        grants_of n key log at seed r.reply (taken log e) r.puts ∙ (ap (λ l. list_any (tells_grant n key) (called l)) items ∙ step.turned.says)
        in
        let frees : g.frees log e ≡ step.frees =
        releases_of n key log at seed r.reply (taken log e) r.puts ∙ (ap (λ l. list_any (tells_release n key) (called l)) items ∙ step.says)
        in
        let held = holds_kept configs n key log e (untried (act.Tracker n) r refl) in
        let connected = connections_kept n key log e refl (λ k. ends_untold log e n k (act.Tracker n) refl refl) in
        let granted : one (g.grants log e) ≡ one step.turned.grants = ap one grants in
        let freed : one (g.frees log e) ≡ one step.frees = ap one frees in
        let grants_taken = step.grants_taken in
        let grants_ended = no_grants_stand n key m.ended step.ended in
        let releases_taken = step.releases_taken in
        let releases_ended = no_releases_stand n key m.ended step.ended in
        let grants_put = step.turned.grants_put in
        let releases_put = step.turned.releases_put in
        record {
          moves = m;
          holding = omega (arith, held, connected, granted, grants_taken, grants_ended, grants_put, releases_put);
          waiting = omega (arith, releases_taken, releases_ended, freed);
          turn =
              ap (λ b. is_held key_cmp (cond b (step_calls log r.reply (taken log e) at jitter (list_any grants_peer r.puts) calls) calls) key) here
              ∙ (ap (λ l. is_held key_cmp (step_calls log r.reply l at jitter (list_any grants_peer r.puts) calls) key) items
              ∙ (step.turned.turn
              ∙ sym (ap (λ b. held_after (is_held key_cmp calls key) (cond b (true ∷ []) (cond (g.frees log e) (false ∷ []) []))) grants
              ∙ ap (λ b. held_after (is_held key_cmp calls key) (cond step.turned.grants (true ∷ []) (cond b (false ∷ []) []))) frees)));
          free = λ h. step.turned.free (sym grants ∙ h);
          others = λ h. step.turned.others (sym grants ∙ h);
          apart = λ h. frees ∙ step.turned.apart (sym grants ∙ h);
        }

    -- ---- the dialer's

    dialer_weighs : Weighs (event at seed (act.Dialer n)) (dialer_row configs log n at seed)
    dialer_weighs =
        let r : Row = dialer_row configs log n at seed in
        let rules : DialRules = dial_rules_at configs n in
        let asked : ℕ = last_or 0 (asks_list n) (told log) in
        let hand : Hand n key log rules asked at seed r = dialer_hands n key configs log rules asked at seed in
        let m : Moves log r = hand.moves in
        let e : Entry = entry_of (event at seed (act.Dialer n)) r in
        let items : taken log e ≡ map (λ x. x.item) m.taken = taken_items log (event at seed (act.Dialer n)) r m in
        let begins : is_attempt_of key (attempts_of configs (log ++ e ∷ []) n (length log)) ≡ begins_held n key rules asked (length log) at seed (map (λ x. x.item) m.taken) =
        ap (is_attempt_of key) (attempts_of-new configs log e n refl) ∙ ap (begins_held n key rules asked (length log) at seed) items
        in
        let held = holds_begun configs n key log e (λ k other. attempts_of-old configs log e n n k refl other) in
        let begun : one (is_attempt_of key (attempts_of configs (log ++ e ∷ []) n (length log))) ≡ one (begins_held n key rules asked (length log) at seed (map (λ x. x.item) m.taken)) = ap one begins in
        let taken_here = hand.begun in
        let ended = no_grants_stand n key m.ended hand.ended in
        let granted = no_grants n key r.puts hand.puts in
        let released = no_releases n key r.puts hand.puts in
        weighs.moved configs n key log (event at seed (act.Dialer n)) r refl refl (λ k. ends_untold log (entry_of (event at seed (act.Dialer n)) r) n k (act.Dialer n) refl refl) m (omega (arith, held, begun, taken_here, ended, granted, released)) hand.releases_taken (no_releases_stand n key m.ended hand.ended)

    -- ---- an attempt's

    stands_weighs : (i : ℕ) (a : Attempt) → f i ≡ Some a
        → Weighs (event at seed (act.Attempt i n)) (attempt_turn n at seed (is_spawner_full configs log n) (dial_rules_at configs n).private a (line log (queue.Attempt n i)))
    stands_weighs i a stands =
        let rules : DialRules = dial_rules_at configs n in
        let r : Row = attempt_turn n at seed (is_spawner_full configs log n) rules.private a (line log (queue.Attempt n i)) in
        let ends : Ends n key log i at seed a r = attempt_ends n key log i at seed a (is_spawner_full configs log n) rules.private (line log (queue.Attempt n i)) refl in
        let m : Moves log r = ends.moves in
        let e : Entry = entry_of (event at seed (act.Attempt i n)) r in
        let took : List Telling = took_tells n i at seed (taken log e) in
        let held = holds_changed configs n key log e i a stands (λ k other. attempts_of-others configs log e n k (act.Attempt i n) refl (none_tried n k n i at (ap (λ b. b && (k == i)) here ∙ other))) in
        let left : one (is_attempt_of key (attempts_of configs (log ++ e ∷ []) n i)) ≡ one (cond (ends_attempt r.puts) false (a.key.0 == key.0)) =
        ap (λ o. one (is_attempt_of key o)) (attempts_of-stepped configs log e n i refl ∙ ap (λ o. cond (ends_attempt r.puts) None (attempt_told rules n i took o)) stands)
        ∙ ap one (by (ends_attempt r.puts) (attempt_told rules n i took (Some a)) (a.key.0 == key.0) (took_holds rules n i key at seed (taken log e) a))
        in
        let kept = ends.kept in
        let taken_here = no_grants_stand n key m.taken ends.taken in
        let ended = no_grants_stand n key m.ended ends.ended in
        weighs.moved configs n key log (event at seed (act.Attempt i n)) r refl refl (λ k. ends_untold log (entry_of (event at seed (act.Attempt i n)) r) n k (act.Attempt i n) refl refl) m (omega (arith, held, left, kept, taken_here, ended)) (no_releases_stand n key m.taken ends.taken) (no_releases_stand n key m.ended ends.ended)
      where
        by : (b : Bool) (o : Option Attempt) (c : Bool) → is_attempt_of key o ≡ c → is_attempt_of key (cond b None o) ≡ cond b false c
        by true o c is = refl
        by false o c is = is

    attempt_weighs : (i : ℕ) → Weighs (event at seed (act.Attempt i n)) (attempt_step_row configs log i n at seed)
    attempt_weighs i =
        let r : Row = attempt_row configs log i n at seed in
        weighs.dropped_weighs configs n key log at seed (event at seed (act.Attempt i n)) r (cond (gave_up r.puts) (dialing_end log n i) None) (by_attempt (f i) refl) (attempt_shape configs log i n at seed).moves
      where
        by_attempt : (o : Option Attempt) → f i ≡ o → Weighs (event at seed (act.Attempt i n)) (attempt_by o n at seed (is_spawner_full configs log n) (dial_rules_at configs n).private (line log (queue.Attempt n i)))
        by_attempt None none =
            let e : Entry = entry_of (event at seed (act.Attempt i n)) (only reply.Gone) in
            asks (act.Attempt i n) (only reply.Gone) refl refl refl refl refl tt
            (λ k. ap (is_attempt_of key)
            (sym (attempts_of-append configs log e n k)
            ∙ (attempts_of-act configs log e n k (act.Attempt i n) refl
            ∙ ap (λ items. attempt_told (dial_rules_at configs n) n k (took_tells n i at seed items ++ []) (f k)) (took_nothing log e refl))))
        by_attempt (Some a) stands = stands_weighs i a stands

    -- ---- a handshake's, of which only the first that waits grants

    hands_weighs : (h : ℕ) (r : Row) → Hands n key log h r → Weighs (event at seed (act.Handshake h n)) r
    hands_weighs h r hands =
        let m : Moves log r = hands.moves in
        let held = holds_kept configs n key log (entry_of (event at seed (act.Handshake h n)) r) (untried (act.Handshake h n) r refl) in
        let handed = hands.handed in
        let ended = no_grants_stand n key m.ended hands.ended in
        weighs.moved configs n key log (event at seed (act.Handshake h n)) r refl refl (λ k. ends_untold log (entry_of (event at seed (act.Handshake h n)) r) n k (act.Handshake h n) refl refl) m (omega (arith, held, handed, ended)) hands.no_release (no_releases_stand n key m.ended hands.ended)

    handshake_weighs : (h : ℕ) → GrantsFirst n key log h → Weighs (event at seed (act.Handshake h n)) (handshake_step_row configs log h n at)
    handshake_weighs h only_first =
        let r : Row = handshake_row configs log h n at in
        weighs.dropped_weighs configs n key log at seed (event at seed (act.Handshake h n)) r
        (cond (broke_off r.reply (map (λ x. x.item) (take 1 (line log (queue.Handshake n h)))) r.puts) (listening_end (came_over log h)) None) (by_running (is_handshaking log n h))
        (handshake_shape configs log h n at).moves
      where
        full : Bool
        full = is_spawner_full configs log n

        due : Bool
        due = is_due (handshake_deadline configs log h n) at (is_finished log n h)

        by_running : (b : Bool) → Weighs (event at seed (act.Handshake h n)) (cond b (handshake_turn n full due h (handshake_at log h) (line log (queue.Handshake n h))) (only reply.Gone))
        by_running true =
            hands_weighs h (handshake_turn n full due h (handshake_at log h) (line log (queue.Handshake n h))) (turn_hands n key log h only_first full due (handshake_at log h) (line log (queue.Handshake n h)) refl)
        by_running false = hands_weighs h (only reply.Gone) (nothing n key log h reply.Gone)

    -- ---- the end of an exchange

    finish_weighs : (link : ℕ) (ok : Bool) → Weighs (event at seed (act.Finish link ok)) (finish_row configs log link ok)
    finish_weighs link ok = by_opening (openings_of log link)
      where
        by_verdict : (o : Opening) (dialing : Option Attempt) (end : Option ListeningEnd) (v : Option Bool) → Weighs (event at seed (act.Finish link ok)) (finished_row o dialing end v)
        by_verdict o dialing end None = asks (act.Finish link ok) (only reply.Pending) refl refl refl refl refl tt (untried (act.Finish link ok) (only reply.Pending) refl)
        by_verdict o dialing end (Some agree) = asks (act.Finish link ok) (finished_row o dialing end (Some agree)) refl refl refl refl refl (finish_plain n key o agree dialing end) (untried (act.Finish link ok) (finished_row o dialing end (Some agree)) refl)

        by_opening : (p : Option Opening) → Weighs (event at seed (act.Finish link ok)) (elim p [
          | None ↦ only reply.Gone
          | Some o ↦ finish_by configs log ok (is_cut log link) o (attempts_of configs log o.node o.attempt) (listening_ends_of log o.to link)
        ])
        by_opening None = asks (act.Finish link ok) (only reply.Gone) refl refl refl refl refl tt (untried (act.Finish link ok) (only reply.Gone) refl)
        by_opening (Some o) =
            let dialing : Option Attempt = attempts_of configs log o.node o.attempt in
            let end : Option ListeningEnd = listening_ends_of log o.to link in
            by_verdict o dialing end (verdict configs log ok o.to (is_cut log link) (option_map (λ (a : Attempt). a.key) dialing) end)

    -- ---- the spawner's

    spawner_weighs : Each StandsFit (live log) → is_ended log n (length log) ≡ false → Weighs (event at seed (act.Spawner n)) (spawner_row log n)
    spawner_weighs fitting unended =
        let r : Row = spawner_row log n in
        let hand : Made n key log r = spawner_makes n key log fitting in
        let m : Moves log r = hand.moves in
        let e : Entry = entry_of (event at seed (act.Spawner n)) r in
        let items : taken log e ≡ map (λ x. x.item) m.taken = taken_items log (event at seed (act.Spawner n)) r m in
        let held = holds_kept configs n key log e (untried (act.Spawner n) r refl) in
        let made = connections_made n key log e here unended in
        let by_items : one (is_connection_of key (spawned_of (taken log e))) ≡ one (is_connection_of key (spawned_of (map (λ x. x.item) m.taken))) =
        ap (λ l. one (is_connection_of key (spawned_of l))) items
        in
        let taken_here = hand.made in
        let ended = no_grants_stand n key m.ended hand.ended in
        let granted = no_grants n key r.puts hand.puts in
        let released = no_releases n key r.puts hand.puts in
        weighs.passed configs n key log (event at seed (act.Spawner n)) r refl m (omega (arith, held, made, by_items, taken_here, ended, granted, released)) hand.releases_taken (no_releases_stand n key m.ended hand.ended)

    -- ---- each act, at this node or at another

    tracker_at : (m : ℕ) (b : Bool) → (m == n) ≡ b → Weighs (event at seed (act.Tracker m)) (row configs log at seed (act.Tracker m))
    unfolding row
    tracker_at m true same = subst (λ i. Weighs (event at seed (act.Tracker i)) (rows.tracker_row configs log i at)) (sym (eqb-true m n same)) tracker_weighs
    tracker_at m false differ =
        weighs.other configs n key log at seed (act.Tracker m) (rows.tracker_row configs log m at) (row_shape configs log at seed (act.Tracker m))
        (record { dialer = refl; handshakes = λ h. refl; spawner = refl; tracker = ap (λ b. b && true) differ })
        (record { dialer = other_way m n differ; handshakes = λ h. other_way m n differ; spawner = refl; tracker = other_way m n differ }) differ refl refl (untried (act.Tracker m) (rows.tracker_row configs log m at) refl)

    dialer_at : (m : ℕ) (b : Bool) → (m == n) ≡ b → Weighs (event at seed (act.Dialer m)) (row configs log at seed (act.Dialer m))
    unfolding row
    dialer_at m true same = subst (λ i. Weighs (event at seed (act.Dialer i)) (dialer_row configs log i at seed)) (sym (eqb-true m n same)) dialer_weighs
    dialer_at m false differ =
        let r : Row = dialer_row configs log m at seed in
        weighs.other configs n key log at seed (act.Dialer m) r (row_shape configs log at seed (act.Dialer m)) (record { dialer = ap (λ b. b && true) differ; handshakes = λ h. refl; spawner = refl; tracker = refl })
        (record { dialer = refl; handshakes = λ h. refl; spawner = refl; tracker = ap (λ b. b && true) differ }) refl refl refl
        (untried (act.Dialer m) r differ)

    attempt_at : (i m : ℕ) (b : Bool) → (m == n) ≡ b → Weighs (event at seed (act.Attempt i m)) (row configs log at seed (act.Attempt i m))
    unfolding row
    attempt_at i m true same = subst (λ j. Weighs (event at seed (act.Attempt i j)) (attempt_step_row configs log i j at seed)) (sym (eqb-true m n same)) (attempt_weighs i)
    attempt_at i m false differ =
        let r : Row = attempt_step_row configs log i m at seed in
        weighs.other configs n key log at seed (act.Attempt i m) r (row_shape configs log at seed (act.Attempt i m)) (record { dialer = refl; handshakes = λ h. refl; spawner = refl; tracker = refl })
        (record { dialer = refl; handshakes = λ h. refl; spawner = ap (λ b. (b && true) || false) differ; tracker = ap (λ b. (b && true) || false) differ }) refl refl refl
        (untried (act.Attempt i m) r differ)

    one_shaken : (i m : ℕ) (b : Bool) → (m == n) ≡ b → GrantsFirst n key log i → Weighs (event at seed (act.Handshake i m)) (row configs log at seed (act.Handshake i m))
    unfolding row
    one_shaken i m true same only_first =
        subst (λ j. Weighs (event at seed (act.Handshake i j)) (handshake_step_row configs log i j at)) (sym (eqb-true m n same)) (handshake_weighs i only_first)
    one_shaken i m false differ only_first =
        weighs.other configs n key log at seed (act.Handshake i m) (handshake_step_row configs log i m at) (row_shape configs log at seed (act.Handshake i m))
        (record { dialer = refl; handshakes = λ h. ap (λ b. b && (i == h)) differ; spawner = refl; tracker = refl })
        (record {
          dialer = refl;
          handshakes = λ h. ap (λ b. b && (i == h)) differ;
          spawner = ap (λ b. (b && true) || false) differ;
          tracker = ap (λ b. (b && true) || false) differ;
        }) refl refl refl (untried (act.Handshake i m) (handshake_step_row configs log i m at) refl)

    spawner_at : (m : ℕ) (b : Bool) → (m == n) ≡ b → Each StandsFit (live log) → is_ended log n (length log) ≡ false → Weighs (event at seed (act.Spawner m)) (row configs log at seed (act.Spawner m))
    unfolding row
    spawner_at m true same fitting unended = subst (λ j. Weighs (event at seed (act.Spawner j)) (spawner_row log j)) (sym (eqb-true m n same)) (spawner_weighs fitting unended)
    spawner_at m false differ fitting unended =
        weighs.other configs n key log at seed (act.Spawner m) (spawner_row log m) (row_shape configs log at seed (act.Spawner m))
        (record { dialer = refl; handshakes = λ h. refl; spawner = ap (λ b. b && true) differ; tracker = refl })
        (record { dialer = refl; handshakes = λ h. refl; spawner = refl; tracker = refl }) refl differ refl (untried (act.Spawner m) (spawner_row log m) refl)

    -- the stop of another node
    stop_weighs : (by_start : Bool) (m : ℕ) → (m == n) ≡ false → Weighs (event at seed (act.Stop by_start m)) (stop_row log m)
    stop_weighs by_start m differ =
        let a : Act = act.Stop by_start m in
        let r : Row = stop_row log m in
        let shape : Shape configs log a r = stop_shape configs log by_start m in
        weighs.plain_weighs configs n key log (event at seed a) r refl refl (λ k. ends_none-act log (entry_of (event at seed a) r) n k a refl (differs n k by_start m differ)) shape.moves
        (plain_out_of_reach n key configs a log r shape.moves shape.reach differ (nowhere n) (nowhere n)) (untried a r differ)
      where
        differs : (n k : ℕ) (by_start : Bool) (m : ℕ) → (m == n) ≡ false → may_end n k (act.Stop by_start m) ≡ false
        differs n k by_start m h = h

    -- unless the node stops
    pub each_weighs : Each StandsFit (live log) → ((h : ℕ) → GrantsFirst n key log h) → is_ended log n (length log) ≡ false → (a : Act) → stops n a ≡ false → Weighs (event at seed a) (row configs log at seed a)
    unfolding row
    each_weighs fitting first unended (act.Stop by_start m) goes_on = stop_weighs by_start m goes_on
    each_weighs fitting first unended (act.SendStep conn m) goes_on = sender_weighs conn m
    each_weighs fitting first unended (act.RecvStep conn m) goes_on = receiver_weighs conn m
    each_weighs fitting first unended (act.Ask what m) goes_on = ask_weighs what m
    each_weighs fitting first unended (act.Answer e) goes_on =
        weighs.other configs n key log at seed (act.Answer e) (rows.answer_row log e) (row_shape configs log at seed (act.Answer e)) (told_aside (asked_by log e) e n) (nowhere n) refl refl refl (untried (act.Answer e) (rows.answer_row log e) refl)
    each_weighs fitting first unended (act.Next e) goes_on =
        weighs.other configs n key log at seed (act.Next e) (rows.next_row log e) (row_shape configs log at seed (act.Next e)) (told_aside (asked_by log e) e n) (nowhere n) refl refl refl (untried (act.Next e) (rows.next_row log e) refl)
    each_weighs fitting first unended (act.Tracker m) goes_on = tracker_at m (m == n) refl
    each_weighs fitting first unended (act.Dialer m) goes_on = dialer_at m (m == n) refl
    each_weighs fitting first unended (act.Spawner m) goes_on = spawner_at m (m == n) refl fitting unended
    each_weighs fitting first unended (act.Attempt i m) goes_on = attempt_at i m (m == n) refl
    each_weighs fitting first unended (act.Handshake i m) goes_on = one_shaken i m (m == n) refl (first i)
    each_weighs fitting first unended (act.Finish link ok) goes_on = finish_weighs link ok
    each_weighs fitting first unended (act.Listener m) goes_on =
        let aside = (listener_aside configs log m at).plain n key in
        let r : Row = listener_row configs log m at in
        let ev : Event = event at seed (act.Listener m) in
        weighs.dropped_weighs configs n key log at seed ev r (cond (turns_away r.reply) (arriving_end log m) None)
        (weighs.plain_weighs configs n key log ev r refl refl (λ k. ends_untold log (entry_of ev r) n k (act.Listener m) refl refl) aside.0 aside.1 (untried (act.Listener m) r refl)) (listener_shape configs log m at).moves
    each_weighs fitting first unended (act.Resolve addresses i m) goes_on =
        let r : Row = resolve_row configs log addresses i m in
        weighs.other configs n key log at seed (act.Resolve addresses i m) r (row_shape configs log at seed (act.Resolve addresses i m)) (record { dialer = refl; handshakes = λ h. refl; spawner = refl; tracker = refl })
        (record { dialer = refl; handshakes = λ h. refl; spawner = refl; tracker = refl }) refl refl refl
        (only_told (act.Resolve addresses i m) r refl)
    each_weighs fitting first unended (act.Connect i from m to) goes_on =
        let r : Row = connect_row configs log i from m to in
        weighs.other configs n key log at seed (act.Connect i from m to) r (row_shape configs log at seed (act.Connect i from m to)) (record { dialer = refl; handshakes = λ h. refl; spawner = refl; tracker = refl })
        (record { dialer = refl; handshakes = λ h. refl; spawner = refl; tracker = refl }) refl refl refl
        (only_told (act.Connect i from m to) r refl)
    each_weighs fitting first unended (act.Refuse i m) goes_on =
        let r : Row = refuse_row configs log i m in
        weighs.other configs n key log at seed (act.Refuse i m) r (row_shape configs log at seed (act.Refuse i m)) (record { dialer = refl; handshakes = λ h. refl; spawner = refl; tracker = refl })
        (record { dialer = refl; handshakes = λ h. refl; spawner = refl; tracker = refl }) refl refl refl
        (only_told (act.Refuse i m) r refl)
    each_weighs fitting first unended a goes_on =
        weighs.other configs n key log at seed a (row configs log at seed a) (row_shape configs log at seed a) (record { dialer = refl; handshakes = λ h. refl; spawner = refl; tracker = refl })
        (record { dialer = refl; handshakes = λ h. refl; spawner = refl; tracker = refl }) refl refl refl (untried a (row configs log at seed a) refl)

-- and a stop makes no turn
pub each_turns : (configs : List Config) (n : ℕ) (key : Key) (log : List Entry) (at seed : ℕ) → Each StandsFit (live log) → ((h : ℕ) → GrantsFirst n key log h) → is_ended log n (length log) ≡ false → (a : Act)
    → weighs.Turns configs n key log (record { at = at; seed = seed; act = a }) (row configs log at seed a)
each_turns configs n key log at seed fitting first unended a = by (stops n a) refl
  where
    ev : Event
    ev = record { at = at; seed = seed; act = a }

    by : (b : Bool) → stops n a ≡ b → weighs.Turns configs n key log ev (row configs log at seed a)
    by false goes_on = weighs.weighs_turns configs n key log ev (row configs log at seed a) (each_weighs configs n key log at seed fitting first unended a goes_on)
    by true stops_it = weighs.still_turns configs n key log ev (row configs log at seed a) (aside a stops_it)
      where
        aside : (a : Act) → stops n a ≡ true → steps_tracker n a ≡ false
        aside (act.Stop by_start m) h = refl
        aside _ h = absurd (false≢true h)
