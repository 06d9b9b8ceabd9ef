-- A step of the sending half of a connection that has begun: it takes its router's answer.
use Rattle.std.proofs.Common.{◌≡◌, ℕ, Bool, true, false, cond, List, [], ◌∷◌, ◌++◌, length, refl, ap, sym, subst, ◌∙◌, arith, append-nil, eqb-true, Some, None}
use Rattle.std.specs.Prelude.{filter, flat_map, slice_get, ◌==◌, ◌&&◌, ◌||◌}
use Rattle.std.specs.List.{list_any}
use Rattle.std.specs.BTreeMap.{insert_entry}
use Rattle.std.specs.Ordering.{nat_cmp}
use Rattle.std.proofs.lemmas.Bool.Decides.{nat_tests}
use Rattle.p2p_log_rules.proofs.Bools.{and_false, and_true, or_false}
use Rattle.p2p_log.specs.declared.config.Config.{Config}
use Rattle.p2p_log.specs.declared.queue.Queue.{Queue}
use Rattle.p2p_log.specs.declared.queue.Queue.TheVariants as queue
use Rattle.p2p_log.specs.declared.queue.Side.{Side}
use Rattle.p2p_log.specs.declared.queue.Side.TheVariants as side
use Rattle.p2p_log.specs.declared.item.Envelope.{Envelope}
use Rattle.p2p_log.specs.declared.entry.Entry.{Entry}
use Rattle.p2p_log.specs.declared.entry.Reply.TheVariants as reply
use Rattle.p2p_log.specs.declared.event.Act.TheVariants as act
use Rattle.p2p_log.specs.QueueCode.{same_queue}
use Rattle.p2p_log.specs.Lines.{line, name_of, placed, stands_in, ended_item}
use Rattle.p2p_log_rules.specs.declared.row.Half.{Half}
use Rattle.p2p_log_rules.specs.declared.row.Row.{Row}
use Rattle.p2p_log_rules.specs.Dropping.{half_end}
use Rattle.p2p_log_rules.specs.Connections.{half_at, live_half, is_done, begins_connection, runs, is_begun, is_answer, has_run, is_running, is_end}
use Rattle.p2p_log_rules.specs.Effect.{only, row, effect, takes_oldest, half_row, sender_row, send_step_row}
use Rattle.p2p_log_rules.specs.Pings.{ping_frequency_at, is_past, ping_is_due}
use Rattle.p2p_log_rules.specs.Facts.{is_up, stops, turns, registers_at, taken, item_named, is_stopped}
use Rattle.p2p_log_rules.proofs.Families.{kinds_of, are_apart}
use Rattle.p2p_log_rules.proofs.Recorded.{item_named-first}
use Rattle.p2p_log_rules.proofs.Spawning.{connections_of-unmade}
use Rattle.p2p_log_rules.proofs.Touches.{away}
use Rattle.p2p_net_queues.specs.Lines.{HoldsLines}
use Rattle.p2p_net_queues.specs.Tables.{waiting, popped_at}
use Rattle.p2p_net_queues.proofs.Going.{line-taken}
use Rattle.p2p_net_queues.proofs.Holding.{waits_taken, waits_none}
use Rattle.p2p_net_router.specs.Stands.{IsBeside}
use Rattle.p2p_net_router.proofs.Aside.{stands_begun}
use Rattle.p2p_net_router.proofs.Unrouted.{unrouted_apart}
use Rattle.p2p_net_connections.specs.Connections.{stages_with}
use Rattle.p2p_net_connections.specs.Stands.{ConnectionsStand, SpawnsNone, ReceivesNone}
use Rattle.p2p_net_connections.specs.declared.connections.Connections.{Connections}
use Rattle.p2p_net_connections.specs.declared.connections.Stage.TheVariants as stage
use Rattle.p2p_net_connections.proofs.Beginning.{connections_ran, connections_stepped}
use Rattle.p2p_net_connections.proofs.Changes.{running-kept, same_ready}
use Rattle.p2p_net_connections.proofs.Pings.{not_pinged, pings_by}
use Rattle.p2p_log_rules.proofs.Pinging.{PingsWhenDue}
use Rattle.p2p_net_links.specs.Stands.{LinksStand}
use Rattle.p2p_net_links.specs.declared.links.Links.{Links}
use Rattle.p2p_net_links.proofs.Changes.{openings_unmoved, links_frame}
use Rattle.p2p_log_rules.proofs.Dropping.{all_of, drops_of-send}
use Rattle.p2p_net_links.proofs.Drops.{DropsNone}
use Rattle.p2p_net_tracker.specs.Stands.{is_told, asks_of, TrackerStands}
use Rattle.p2p_net_tracker.proofs.Changes.{tracker_frame}
use Rattle.p2p_net_connecting.specs.Connecting.{Runs}
use Rattle.p2p_net_node.specs.Places as place
use Rattle.p2p_net_node.specs.Stands.{RouterStands, NodeStands, RouterLives}
use Rattle.p2p_net_node.specs.declared.node.Node.{Node}
use Rattle.p2p_net_node.proofs.EachPart.{with_parts, each_part, not_among-links}
use Rattle.p2p_net_node.proofs.Receivers.{receives_apart}
use Rattle.p2p_net_node.proofs.Routers.{HearsTheSame, hears_again, RouterStands-moved}
use Rattle.p2p_net_node.proofs.Performing.{asked, Performs, IsStill, part_still, links_still}
use Rattle.p2p_log_rules.proofs.Connections.{live_connection-kept, begins_act, runs_is, running_of, ends_none-reply, has_run-append}
use Rattle.p2p_log_rules.proofs.Handshakes.{handshake_kinds, handshakes_of-apart}
use Rattle.p2p_log_rules.proofs.Routing.{route_kinds}
use Rattle.p2p_log_rules.proofs.Steps.{steps_tracker, steps_spawner}
use Rattle.p2p_log_rules.proofs.Answers.{takes_answer}
use Rattle.p2p_net_tracker.proofs.Leaves.{LeavesTracker}
use Rattle.p2p_log_rules.proofs.Channels.{up_lasts, is_stopped-kept}
use Rattle.p2p_net_node.proofs.Frames.{lives_on, lasts_after}

-- the row of a step, where the node runs, by the half and how far it is
pub half_steps : (configs : List Config) (log : List Entry) (conn n at : ℕ) (half : Half) (begun running : Bool) → is_up log n ≡ true → live_half log n conn ≡ Some half → is_begun log n conn ≡ begun → has_run log n conn ≡ running
    → send_step_row configs log conn n at ≡ half_row configs log n conn at half begun running
half_steps configs log conn n at half begun running up has starts runs =
    ap (λ b. cond b (sender_row configs log n conn at (live_half log n conn)) (only reply.Gone)) up
    ∙ (ap (sender_row configs log n conn at) has
    ∙ (ap (λ b. half_row configs log n conn at half b (is_running log n conn)) starts ∙ ap (half_row configs log n conn at half begun) (running_of log n conn half has ∙ runs)))

-- ---- the router's answer

same_conn : (n conn c : ℕ) → ((n == n) && (conn == c)) ≡ (c == conn)
same_conn n conn c = grind (arith, nat_tests)

pub taken-first : (log : List Entry) (e : Entry) (q : Queue) (x : Envelope) (rest : List Envelope) → line log q ≡ x ∷ rest → e.takes ≡ name_of x ∷ [] → taken log e ≡ x.item ∷ []
unfolding taken
taken-first log e q x rest h t = ap (flat_map (item_named log)) t ∙ (append-nil (item_named log (name_of x)) ∙ item_named-first log q x rest h)

link_other : (n conn link : ℕ) (t : Side) → same_queue (queue.RouterAnswer n conn) (queue.Link link t) ≡ false
link_other n conn link side.Out = refl
link_other n conn link side.In = refl

-- an entry that takes the first answer of a connection, and does no more
record Takes (log : List Entry) (e : Entry) (n conn : ℕ) (x : Envelope) (rest : List Envelope) : Type 0 where
  first : line log (queue.RouterAnswer n conn) ≡ x ∷ rest
  takes : e.takes ≡ name_of x ∷ []
  puts : e.puts ≡ []
  ends : e.ends ≡ []

line_begun : (log : List Entry) (e : Entry) (n conn : ℕ) (x : Envelope) (rest : List Envelope) (q : Queue) → Takes log e n conn x rest → line (log ++ e ∷ []) q ≡ cond (same_queue (queue.RouterAnswer n conn) q) rest (line log q)
line_begun log e n conn x rest q h =
    line-taken log e (queue.RouterAnswer n conn) x rest q h.first (ap (λ t. t ++ flat_map ended_item e.ends) h.takes ∙ ap (λ d. name_of x ∷ flat_map ended_item d) h.ends)
    ∙ (ap (λ p. cond (same_queue (queue.RouterAnswer n conn) q) rest (line log q) ++ filter (stands_in q) (placed (length log) 0 p)) h.puts ∙ append-nil (cond (same_queue (queue.RouterAnswer n conn) q) rest (line log q)))

-- a step of a sending half is none of a router's
pub step_beside : (configs : List Config) (log : List Entry) (e : Entry) (m conn n : ℕ) → e.event.act ≡ act.SendStep conn n → is_end e.reply ≡ false → IsBeside configs log e m
step_beside configs log e m conn n acts lives = record {
  no_end = λ c. ends_none-reply log e m c (ap (stops m) acts) lives;
  no_step = unrouted_apart log e m (ap (λ b. are_apart (kinds_of b) route_kinds) acts);
  no_channel = ap (registers_at configs m) acts;
  no_turn = ap (turns m) acts;
}

-- a step of a connection, of whose connections this is the one that did it
pub step_begins : (log : List Entry) (n conn c : ℕ) (e : Entry) → e.event.act ≡ act.SendStep conn n → e.reply ≡ reply.Ok → begins_connection n c log e ≡ (c == conn)
step_begins log n conn c e acts ok =
    begins_act log e n c (act.SendStep conn n) acts
    ∙ (ap (λ r. ((n == n) && (conn == c)) && is_done r) ok ∙ (and_true ((n == n) && (conn == c)) ∙ same_conn n conn c))

pub other_begins : (log : List Entry) (n conn c : ℕ) (e : Entry) → e.event.act ≡ act.SendStep conn n → (c == conn) ≡ false → begins_connection n c log e ≡ false
other_begins log n conn c e acts other =
    begins_act log e n c (act.SendStep conn n) acts ∙ (ap (λ b. b && is_done e.reply) (same_conn n conn c) ∙ ap (λ b. b && is_done e.reply) other)

-- where that has begun before, its router is to know of the same connections
pub step_hears : (log : List Entry) (e : Entry) (n conn : ℕ) → e.event.act ≡ act.SendStep conn n → is_end e.reply ≡ false → is_begun log n conn ≡ true → HearsTheSame log e n
step_hears log e n conn acts lives begun =
    hears_again log e n conn begun (λ c other. other_begins log n conn c e acts other) (λ c. ends_none-reply log e n c (ap (stops n) acts) lives) (λ c. connections_of-unmade log e n (ap (steps_spawner n) acts) c)

-- and where it does not end, no end of a link is dropped
pub step_drops : (log : List Entry) (e : Entry) (n conn : ℕ) → e.event.act ≡ act.SendStep conn n → is_end e.reply ≡ false → DropsNone log e
step_drops log e n conn acts lives = drops_of-send log e conn n acts ∙ ap (λ b. all_of (cond b (half_end (half_at log n conn)) None)) lives

-- a connection that runs goes on to run
pub still_runs : (log : List Entry) (e : Entry) (n conn c : ℕ) → e.event.act ≡ act.SendStep conn n → has_run log n conn ≡ true → has_run (log ++ e ∷ []) n c ≡ has_run log n c
still_runs log e n conn c acts ran = has_run-append log e n c ∙ by_conn (c == conn) refl
  where
    already : (b t : Bool) → b ≡ true → (b || t) ≡ b
    already true t h = refl
    already false t h = cc

    by_conn : (b : Bool) → (c == conn) ≡ b → (has_run log n c || runs n c log e) ≡ has_run log n c
    by_conn true h = already (has_run log n c) (runs n c log e) (ap (has_run log n) (eqb-true c conn h) ∙ ran)
    by_conn false h =
        ap (λ b. has_run log n c || b) (runs_is log e n c ∙ ap (λ b. b && list_any is_answer (taken log e)) (other_begins log n conn c e acts h)) ∙ or_false (has_run log n c)

-- a step of a sending half receives nothing
pub step_receives : (configs : List Config) (log : List Entry) (e : Entry) (n conn : ℕ) → e.event.act ≡ act.SendStep conn n → ((c : ℕ) → line (log ++ e ∷ []) (queue.Held n c) ≡ line log (queue.Held n c)) → ReceivesNone configs log e n
step_receives configs log e n conn acts held = receives_apart configs log e n (act.SendStep conn n) acts (λ c. refl) held

took_stands : (configs : List Config) (log : List Entry) (e : Entry) (n conn : ℕ) (cs : Connections) (x : Envelope) (rest : List Envelope) → ConnectionsStand configs log n cs → ((c : ℕ) → PingsWhenDue configs log e n c) → is_begun log n conn ≡ true → has_run log n conn ≡ false
    → e.event.act ≡ act.SendStep conn n → e.reply ≡ reply.Ok → Takes log e n conn x rest
    → ConnectionsStand configs (log ++ e ∷ []) n (record cs { stages = stages_with (Some x) conn e.event.at cs.stages; answers = popped_at cs.answers conn })
took_stands configs log e n conn cs x rest s pinging begun idle acts ok h = by (is_answer x.item) refl
  where
    told_answer : (c : ℕ) → runs n c log e ≡ ((c == conn) && is_answer x.item)
    told_answer c =
        runs_is log e n c
        ∙ (ap (λ b. b && list_any is_answer (taken log e)) (step_begins log n conn c e acts ok)
        ∙ (ap (λ items. (c == conn) && list_any is_answer items) (taken-first log e (queue.RouterAnswer n conn) x rest h.first h.takes) ∙ ap (λ b. (c == conn) && b) (or_false (is_answer x.item))))

    waits : HoldsLines (queue.RouterAnswer n) (log ++ e ∷ []) (popped_at cs.answers conn)
    waits c = waits_taken (queue.RouterAnswer n) (same_ready n) log conn x rest cs.answers s.waits h.first c ∙ sym (line_begun log e n conn x rest (queue.RouterAnswer n c) h)

    spawns : SpawnsNone log e n
    spawns c = live_connection-kept log e n c (ends_none-reply log e n c (ap (stops n) acts) (ap is_end ok)) (connections_of-unmade log e n (ap (steps_spawner n) acts) c)

    receives : ReceivesNone configs log e n
    receives = step_receives configs log e n conn acts (λ c. line_begun log e n conn x rest (queue.Held n c) h)

    -- one that does not run has no ping that is due
    early : ping_is_due configs log n conn e.event.at ≡ false
    early = ap (is_past (ping_frequency_at configs n) e.event.at) (not_pinged configs log n cs s conn idle)

    by : (b : Bool) → is_answer x.item ≡ b
        → ConnectionsStand configs (log ++ e ∷ []) n (record cs { stages = cond b (insert_entry nat_cmp cs.stages conn (stage.Running e.event.at)) cs.stages; answers = popped_at cs.answers conn })
    by true is =
        connections_ran configs log e n conn e.event.at cs (popped_at cs.answers conn) s pinging spawns begun idle refl (λ c. step_begins log n conn c e acts ok) (λ c. told_answer c ∙ (ap (λ b. (c == conn) && b) is ∙ and_true (c == conn))) receives waits
    by false is =
        connections_stepped configs log e n conn cs (popped_at cs.answers conn) s pinging spawns begun (λ c other. other_begins log n conn c e acts other)
        (λ c. running-kept log e n c (told_answer c ∙ (ap (λ b. (c == conn) && b) is ∙ and_false (c == conn)))) early receives waits

abbrev pub named_parts : List place.Part
named_parts = place.connections ∷ place.router ∷ place.tracker ∷ []

-- a step of a sending half that leaves the queues of a tracker alone
pub step_untold : (log : List Entry) (e : Entry) (n conn : ℕ) → e.event.act ≡ act.SendStep conn n → is_end e.reply ≡ false → line (log ++ e ∷ []) (queue.Tracker n) ≡ line log (queue.Tracker n)
    → ((q : Queue) → is_told n q ≡ true → line (log ++ e ∷ []) q ≡ line log q) → LeavesTracker log e n
step_untold log e n conn acts lives mailbox told = record {
  no_end = λ c. ends_none-reply log e n c (ap (stops n) acts) lives;
  no_step = ap (steps_tracker n) acts;
  no_question = ap (asks_of n) acts;
  goes_on = is_stopped-kept log e n (ap (stops n) acts);
  no_answer = λ d h. ap (λ a. takes_answer d a e.reply) acts;
  no_late_answer = λ d h. ap (λ a. takes_answer d a e.reply) acts;
  handshakes = handshakes_of-apart log e n (ap (λ a. are_apart (kinds_of a) handshake_kinds) acts);
  mailbox = mailbox;
  told = told;
}

-- it takes what its router answered, where there is something
pub run_performs : (configs : List Config) (log : List Entry) (at seed conn n : ℕ) (half : Half) (xs : List Envelope) (x y : Node) (l links : Links) (r : Row) → NodeStands configs log n x → LinksStand configs log l
    → is_up log n ≡ true → live_half log n conn ≡ Some half → is_begun log n conn ≡ true → has_run log n conn ≡ false → waiting x.connections.answers conn ≡ xs → Runs conn at x y r → links ≡ l
    → Performs configs log (asked at seed (act.SendStep conn n)) n y links r
unfolding effect row
run_performs configs log at seed conn n half [] x y l links r s t up has begun idle is d kept =
    let ev = asked at seed (act.SendStep conn n) in
    let e = effect configs log ev in
    let cs : ConnectionsStand configs log n x.connections = s.each place.connections in
    let row_is : send_step_row configs log conn n at ≡ only reply.Idle =
    half_steps configs log conn n at half true false up has begun idle ∙ ap takes_oldest (sym (cs.waits conn) ∙ is)
    in
    let still : IsStill e reply.Idle = record {
      reply = ap (λ (z : Row). z.reply) row_is;
      takes = ap (λ (z : Row). z.takes) row_is;
      puts = ap (λ (z : Row). z.puts) row_is;
      ends = ap (λ (z : Row). z.ends) row_is;
    } in
    let parts : y ≡ record x { connections = record x.connections { answers = popped_at x.connections.answers conn } } =
    d.1 ∙ ap (λ ws. record x { connections = record x.connections { stages = stages_with (slice_get ws 0) conn at x.connections.stages; answers = popped_at x.connections.answers conn } }) is
    in
    record {
      row_is = d.0 ∙ (ap takes_oldest is ∙ sym row_is);
      node =
          each_part configs log ev n x y named_parts s (subst (λ z. z ≡ with_parts named_parts x z) (sym parts) refl)
          (λ p out. not_among-links named_parts p n out) refl refl (
            let old : ConnectionsStand configs (log ++ e ∷ []) n x.connections = part_still place.connections configs log e n x (act.SendStep conn n) reply.Idle cs refl refl still in
                subst (ConnectionsStand configs (log ++ e ∷ []) n) (sym (ap (λ (z : Node). z.connections) parts))
                (record {
                  spawned = old.spawned;
                  reserved = old.reserved;
                  begun = old.begun;
                  running = old.running;
                  pinged = old.pinged;
                  holds = old.holds;
                  counts = old.counts;
                  unmade = old.unmade;
                  waits = λ c. waits_none (queue.RouterAnswer n) (same_ready n) log conn x.connections.answers cs.waits (sym (cs.waits conn) ∙ is) c ∙ (sym (cs.waits c) ∙ old.waits c);
                }),
            (
              subst (RouterLives configs (log ++ e ∷ []) n) (sym (ap (λ (z : Node). z.router) parts)) (part_still place.router configs log e n x (act.SendStep conn n) reply.Idle (s.each place.router) refl refl still),
              (
                subst (TrackerStands configs (log ++ e ∷ []) n) (sym (ap (λ (z : Node). z.tracker) parts)) (part_still place.tracker configs log e n x (act.SendStep conn n) reply.Idle (s.each place.tracker) refl refl still),
                tt,
              ),
            ),
          );
      linked = subst (LinksStand configs (log ++ e ∷ [])) (sym kept) (links_still configs log e (act.SendStep conn n) reply.Idle l t refl refl still);
    }
run_performs configs log at seed conn n half (w ∷ ws) x y l links r s t up has begun idle is d kept =
    let ev = asked at seed (act.SendStep conn n) in
    let e = effect configs log ev in
    let cs : ConnectionsStand configs log n x.connections = s.each place.connections in
    let lasts : is_stopped log n ≡ false = up_lasts log n up in
    let rout : RouterStands configs log n x.router = (s.each place.router).runs lasts in
    let first : line log (queue.RouterAnswer n conn) ≡ w ∷ ws = sym (cs.waits conn) ∙ is in
    let row_is : send_step_row configs log conn n at ≡ takes_oldest (w ∷ ws) = half_steps configs log conn n at half true false up has begun idle ∙ ap takes_oldest first in
    let lives : is_end e.reply ≡ false = ap (λ (z : Row). is_end z.reply) row_is in
    let takes : Takes log e n conn w ws = record { first = first; takes = ap (λ (z : Row). z.takes) row_is; puts = ap (λ (z : Row). z.puts) row_is; ends = ap (λ (z : Row). z.ends) row_is } in
    let parts : y ≡ record x { connections = record x.connections { stages = stages_with (Some w) conn at x.connections.stages; answers = popped_at x.connections.answers conn } } =
    d.1 ∙ ap (λ vs. record x { connections = record x.connections { stages = stages_with (slice_get vs 0) conn at x.connections.stages; answers = popped_at x.connections.answers conn } }) is
    in
    record {
      row_is = d.0 ∙ (ap takes_oldest is ∙ sym row_is);
      node =
          each_part configs log ev n x y named_parts s (subst (λ z. z ≡ with_parts named_parts x z) (sym parts) refl)
          (λ p out. not_among-links named_parts p n out) refl refl (
            subst (ConnectionsStand configs (log ++ e ∷ []) n) (sym (ap (λ (z : Node). z.connections) parts)) (took_stands configs log e n conn x.connections w ws cs (pings_by configs log n x.connections cs ev) begun idle refl (ap (λ (z : Row). z.reply) row_is) takes),
            (
              subst (RouterLives configs (log ++ e ∷ []) n) (sym (ap (λ (z : Node). z.router) parts)) (
                  lives_on configs (log ++ e ∷ []) n x.router (lasts_after configs log ev n lasts refl)
                  (RouterStands-moved configs log e n x.router x.router rout (step_hears log e n conn refl lives begun)
                  (stands_begun configs log e x.router conn n rout.stands (step_beside configs log e x.router.number conn n refl lives) (takes.takes ∙ sym (ap (λ vs. (takes_oldest vs).takes) first)) takes.puts takes.ends) refl refl)),
              (
                subst (TrackerStands configs (log ++ e ∷ []) n) (sym (ap (λ (z : Node). z.tracker) parts))
                    (tracker_frame configs log e n x.tracker (s.each place.tracker)
                    (step_untold log e n conn refl lives (line_begun log e n conn w ws (queue.Tracker n) takes)
                    (λ q own. line_begun log e n conn w ws q takes ∙ ap (λ b. cond b ws (line log q)) (away (is_told n) (queue.RouterAnswer n conn) q refl own)))),
                tt,
              ),
            ),
          );
      linked = subst (LinksStand configs (log ++ e ∷ [])) (sym kept)
          (links_frame configs log e l t (λ u link. line_begun log e n conn w ws (queue.Link link u) takes ∙ ap (λ b. cond b ws (line log (queue.Link link u))) (link_other n conn link u)) (openings_unmoved log e refl) (step_drops log e n conn refl lives));
    }
