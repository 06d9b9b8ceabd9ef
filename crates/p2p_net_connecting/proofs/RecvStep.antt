-- A step of the receiving half of a connection: what comes over its link, or what it holds, is delivered, or waits for its quota, or ends
-- the connection.
use Rattle.std.proofs.Common.{◌≡◌, ℕ, ◌≤◌, Bool, true, false, cond, List, [], ◌∷◌, length, refl, ap, sym, subst, ◌∙◌, Option, Some, None}
use Rattle.std.specs.Prelude.{slice_get, is_some}
use Rattle.std.specs.List.{AllByRecursion as Each}
use Rattle.p2p_log.specs.declared.config.Config.{Config}
use Rattle.p2p_log.specs.declared.queue.Queue.{Queue}
use Rattle.p2p_log.specs.declared.queue.Queue.TheVariants as queue
use Rattle.p2p_log.specs.declared.queue.Side.{Side}
use Rattle.p2p_log.specs.declared.item.Envelope.{Envelope}
use Rattle.p2p_log.specs.declared.end.Cause.TheVariants as cause
use Rattle.p2p_log.specs.declared.entry.Ended.TheVariants as ended
use Rattle.p2p_log.specs.declared.entry.Entry.{Entry}
use Rattle.p2p_log.specs.declared.entry.Reply.TheVariants as reply
use Rattle.p2p_log.specs.declared.event.Act.TheVariants as act
use Rattle.p2p_log.specs.Lines.{line, live}
use Rattle.p2p_log_rules.specs.declared.row.Half.{Half}
use Rattle.p2p_log_rules.specs.declared.row.Row.{Row}
use Rattle.p2p_log_rules.specs.Connections.{live_half, is_begun, has_run}
use Rattle.p2p_log_rules.specs.Cutting.{is_broken}
use Rattle.p2p_log_rules.specs.Ending.{end_row}
use Rattle.p2p_log_rules.specs.Facts.{is_up, events_of, latest_moment}
use Rattle.p2p_log_rules.specs.Metering.{limit_at}
use Rattle.p2p_log_rules.specs.Effect.{only, row, held_row, receive_row, receiving_row, other_side}
use Rattle.p2p_log_rules.proofs.Moves.{first_has}
use Rattle.p2p_log_laws.proofs.EndHeard.{names_ready}
use Rattle.p2p_log_laws.proofs.Fitting.{StandsFit}
use Rattle.p2p_net_queues.specs.Tables as table
use Rattle.p2p_net_channels.specs.Arrivals.{arrival_in, held_arrival}
use Rattle.p2p_net_connections.specs.Connections.{runs_on}
use Rattle.p2p_net_connections.specs.Stands.{ConnectionsStand}
use Rattle.p2p_net_connections.specs.declared.connections.Stage.{Stage}
use Rattle.p2p_net_connections.specs.declared.connections.Stage.TheVariants as stage
use Rattle.p2p_net_links.proofs.Cuts.{broken_is}
use Rattle.p2p_net_links.specs.Stands.{LinksStand}
use Rattle.p2p_net_links.specs.declared.links.Links.{Links}
use Rattle.p2p_net_connecting.specs.Connecting.{half_by}
use Rattle.p2p_net_node.specs.Places as place
use Rattle.p2p_net_node.specs.Ready.{is_node_up}
use Rattle.p2p_net_connecting.specs.Receiving.{frame_in, first_in, kept_in, held_first, ReadsFrame, ReadsNone, ReceivesBy, RetriesBy, StepsBy, StepsAt, StepsOn, RecvStepsBy, RecvSteps}
use Rattle.p2p_net_node.specs.Stands.{OwnStands, NodeStands}
use Rattle.p2p_net_node.specs.declared.node.Node.{Node}
use Rattle.p2p_net_connecting.proofs.Delivering.{idle, stepped, off_performs, retried, held_performs}
use Rattle.p2p_net_connecting.proofs.Halves.{half_is}
use Rattle.p2p_net_node.proofs.Performing.{asked, Performs, stays_performs}
use Rattle.p2p_net_node.proofs.Readying.{started_is}
use Rattle.p2p_net_connecting.proofs.Refusing.{unread_performs, refused_performs}
use Rattle.p2p_net_connecting.proofs.Taking.{stepped_as}
use Rattle.p2p_log_rules.proofs.Channels.{up_lasts}

limit_here : (configs : List Config) (n : ℕ) (x : Node) → OwnStands configs n x → x.config.max_message_size ≡ limit_at configs n
limit_here configs n x s = sym (ap (λ (o : Option Config). elim o [ None ↦ 0 | Some c ↦ c.max_message_size ]) s.config)

-- ---- of a node that has started

module _ (configs : List Config) (log : List Entry) (at seed conn n : ℕ) (half : Half) (x y : Node) (l links : Links) (r : Row) (s : NodeStands configs log n x) (t : LinksStand configs log l)
    (late : latest_moment (events_of log) ≤ at) (heard : has_run log n conn ≡ true → Each (λ z. names_ready conn z.item ≡ false) (line log (queue.Router n))) (fitting : Each StandsFit (live log))
    (up : is_up log n ≡ true) (has : live_half log n conn ≡ Some half) where
  abbrev Done : Type 0
  Done = Performs configs log (asked at seed (act.RecvStep conn n)) n y links r

  abbrev u : Side
  u = other_side half.writes

  abbrev p : Queue
  p = queue.Link half.link u

  connects : ConnectionsStand configs log n x.connections
  connects = s.each place.connections

  -- it waits
  waits : row configs log at seed (act.RecvStep conn n) ≡ only reply.Idle → r ≡ only reply.Idle → y ≡ x → links ≡ l → Done
  waits = idle configs log at seed conn n half x y l links r s t late

  -- ---- one that runs

  module _ (begun : is_begun log n conn ≡ true) (running : has_run log n conn ≡ true) where
    -- no frame is in flight towards it, by whether the other end was dropped or the link was cut
    none_row : line log (queue.Held n conn) ≡ [] → line log p ≡ [] → (b : Bool) → is_broken log half.link u ≡ b
        → row configs log at seed (act.RecvStep conn n) ≡ cond b (end_row log n conn half ended.ReceiveFailed cause.ConnectionEnded []) (only reply.Idle)
    unfolding row
    none_row none first b gone =
        stepped_as configs log conn n at (Some half) true up has running
        ∙ (ap (λ w. held_row configs log n conn at half w (line log p)) none
        ∙ (ap (receive_row configs log n conn at half) first ∙ ap (λ c. cond c (end_row log n conn half ended.ReceiveFailed cause.ConnectionEnded []) (only reply.Idle)) gone))

    by_broken : line log (queue.Held n conn) ≡ [] → line log p ≡ [] → (b : Bool) → is_broken log half.link u ≡ b → ReadsNone b (length log) n conn half x y l links r → Done
    by_broken none first false gone d = waits (none_row none first false gone) d.0.0 d.0.1 d.1
    by_broken none first true gone d = unread_performs configs log at seed conn n half x y l links r s (up_lasts log n up) t has begun running (heard running) (none_row none first true gone) d

    by_frames : (fs : List Envelope) → line log (queue.Held n conn) ≡ [] → line log p ≡ fs → ReceivesBy (slice_get fs 0) (length log) n conn at half x y l links r → Done
    by_frames [] none first d =
        by_broken none first (is_broken log half.link u) refl (subst (λ b. ReadsNone b (length log) n conn half x y l links r) (broken_is configs log l half.link t u) d)
    by_frames (f ∷ fs) none first d =
        let limit : x.config.max_message_size ≡ limit_at configs n = limit_here configs n x s.own in
        off_performs configs log at seed conn n half x y l links r s t late up has running f fs first (arrival_in (limit_at configs n) f.item) refl
        (stepped configs log at seed conn n half x y l links r s t late up has running f fs first none (first_has StandsFit log p f fs fitting first))
        (refused_performs configs log at seed conn n half x y l links r s (up_lasts log n up) t has begun running (heard running) f fs first)
        (subst (λ k. ReadsFrame (frame_in k (Some f)) (length log) n conn at half x y l links r) limit d)

    by_held : (ws : List Envelope) → line log (queue.Held n conn) ≡ ws → StepsBy (slice_get ws 0) (length log) n conn at half x y l links r → Done
    by_held [] none d =
        let first : first_in l half.link u ≡ slice_get (line log p) 0 = ap (λ (w : List Envelope). slice_get w 0) (t.waits u half.link) in
        by_frames (line log p) none refl (subst (λ o. ReceivesBy o (length log) n conn at half x y l links r) first d)
    by_held (w ∷ ws) first d =
        let same : held_first x.connections conn ≡ Some w = ap (λ (v : List Envelope). slice_get v 0) (connects.holds conn ∙ first) in
        held_performs configs log at seed conn n half x y l links r s t late up has running d.1 w ws first (held_arrival w.item) refl
        (retried configs log at seed conn n half x y l links r s t late up has running d.1 w ws first)
        (subst (λ o. RetriesBy (kept_in o) (length log) n conn at half.peer x y r) same d.0)

  -- ---- by how far it is

  resting : has_run log n conn ≡ false → row configs log at seed (act.RecvStep conn n) ≡ only reply.Idle
  unfolding row
  resting rests = stepped_as configs log conn n at (Some half) false up has rests

  by_stage : (o : Option Stage) → table.at x.connections.stages conn ≡ o → StepsAt o (length log) n conn at half x y l links r → Done
  by_stage (Some (stage.Running pinged)) is d =
      by_held (sym (connects.begun conn) ∙ ap (λ (o : Option Stage). is_some o) is) (sym (connects.running conn) ∙ ap runs_on is) (line log (queue.Held n conn)) refl
      (subst (λ o. StepsBy o (length log) n conn at half x y l links r) (ap (λ (v : List Envelope). slice_get v 0) (connects.holds conn)) d)
  by_stage (Some stage.Begun) is d = waits (resting (sym (connects.running conn) ∙ ap runs_on is)) d.0.0 d.0.1 d.1
  by_stage None is d = waits (resting (sym (connects.running conn) ∙ ap runs_on is)) d.0.0 d.0.1 d.1

-- ---- of any node

module _ (configs : List Config) (log : List Entry) (at seed conn n : ℕ) (x y : Node) (l links : Links) (r : Row) (s : NodeStands configs log n x) (t : LinksStand configs log l)
    (late : latest_moment (events_of log) ≤ at) (heard : has_run log n conn ≡ true → Each (λ z. names_ready conn z.item ≡ false) (line log (queue.Router n))) (fitting : Each StandsFit (live log)) where
  abbrev Steps : Type 0
  Steps = Performs configs log (asked at seed (act.RecvStep conn n)) n y links r

  gone : row configs log at seed (act.RecvStep conn n) ≡ only reply.Gone → r ≡ only reply.Gone → y ≡ x → links ≡ l → Steps
  gone is done same kept = stays_performs configs log (asked at seed (act.RecvStep conn n)) n x y l links r reply.Gone s t is refl done same kept

  down : is_up log n ≡ false → row configs log at seed (act.RecvStep conn n) ≡ only reply.Gone
  unfolding row
  down off = ap (λ b. cond b (receiving_row configs log n conn at (live_half log n conn)) (only reply.Gone)) off

  nobody : is_up log n ≡ true → live_half log n conn ≡ None → row configs log at seed (act.RecvStep conn n) ≡ only reply.Gone
  unfolding row
  nobody up none = stepped_as configs log conn n at None (has_run log n conn) up none refl

  by_half : (o : Option Half) → is_up log n ≡ true → live_half log n conn ≡ o → StepsOn o (length log) n conn at x y l links r → Steps
  by_half None up none d = gone (nobody up none) d.0.0 d.0.1 d.1
  by_half (Some half) up has d =
      by_stage configs log at seed conn n half x y l links r s t late heard fitting up has (table.at x.connections.stages conn) refl d

  by_start : (b : Bool) → is_up log n ≡ b → RecvStepsBy b (length log) n conn at x y l links r → Steps
  by_start false off d = gone (down off) d.0.0 d.0.1 d.1
  by_start true up d = by_half (half_by n x.connections l conn) up (sym (half_is configs log n conn x.connections l (s.each place.connections) t)) d

  pub recv_step_performs : RecvSteps (length log) n conn at x y l links r → Steps
  recv_step_performs d = by_start (is_node_up x) (sym (started_is configs log n x s)) d
