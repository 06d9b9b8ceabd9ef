-- A step of the sending half of a connection, by whether it has begun and whether it runs.
use Rattle.std.proofs.Common.{◌≡◌, ℕ, Bool, true, false, cond, List, length, refl, ap, sym, ◌∙◌, Option, Some, None}
use Rattle.std.specs.Prelude.{is_some}
use Rattle.std.specs.List.{AllByRecursion as Each}
use Rattle.p2p_log.specs.declared.config.Config.{Config}
use Rattle.p2p_log.specs.declared.entry.Entry.{Entry}
use Rattle.p2p_log.specs.declared.entry.Reply.TheVariants as reply
use Rattle.p2p_log.specs.declared.event.Act.TheVariants as act
use Rattle.p2p_log.specs.declared.queue.Queue.TheVariants as queue
use Rattle.p2p_log.specs.Lines.{line}
use Rattle.p2p_log_rules.specs.declared.row.Half.{Half}
use Rattle.p2p_log_rules.specs.declared.row.Row.{Row}
use Rattle.p2p_log_rules.specs.Connections.{live_half, has_run}
use Rattle.p2p_log_rules.specs.Effect.{only, row, sender_row}
use Rattle.p2p_log_rules.specs.Facts.{is_up}
use Rattle.p2p_log_rules.specs.Pings.{is_past}
use Rattle.p2p_log_laws.proofs.EndHeard.{names_ready}
use Rattle.p2p_log_laws.specs.Leading.{ConnectionsAreOne}
use Rattle.p2p_net_queues.specs.Tables as table
use Rattle.p2p_net_queues.specs.Tables.{waiting}
use Rattle.p2p_net_connections.specs.Connections.{runs_on}
use Rattle.p2p_net_connections.specs.Stands.{ConnectionsStand}
use Rattle.p2p_net_connections.specs.declared.connections.Stage.{Stage}
use Rattle.p2p_net_connections.specs.declared.connections.Stage.TheVariants as stage
use Rattle.p2p_net_links.specs.Stands.{LinksStand}
use Rattle.p2p_net_links.specs.declared.links.Links.{Links}
use Rattle.p2p_net_connecting.specs.Connecting.{half_by, StepsAt, StepsHalf, SendStepsBy, SendSteps}
use Rattle.p2p_net_node.specs.Places as place
use Rattle.p2p_net_node.specs.Ready.{is_node_up}
use Rattle.p2p_net_node.specs.Stands.{NodeStands}
use Rattle.p2p_net_node.specs.declared.node.Node.{Node}
use Rattle.p2p_net_connecting.proofs.Beginning.{begin_performs}
use Rattle.p2p_net_connecting.proofs.Halves.{half_is}
use Rattle.p2p_net_node.proofs.Performing.{asked, Performs, stays_performs}
use Rattle.p2p_net_node.proofs.Readying.{started_is}
use Rattle.p2p_net_connecting.proofs.RouterAnswers.{run_performs}
use Rattle.p2p_net_connecting.proofs.Working.{work_performs}
use Rattle.p2p_net_connecting.proofs.Writing.{due_is}

module _ (configs : List Config) (log : List Entry) (at seed conn n : ℕ) (x y : Node) (l links : Links) (r : Row) (s : NodeStands configs log n x) (t : LinksStand configs log l) (one : ConnectionsAreOne log)
    (heard : has_run log n conn ≡ true → Each (λ z. names_ready conn z.item ≡ false) (line log (queue.Router n))) where
  abbrev Done : Type 0
  Done = Performs configs log (asked at seed (act.SendStep conn n)) n y links r

  connects : ConnectionsStand configs log n x.connections
  connects = s.each place.connections

  gone : row configs log at seed (act.SendStep conn n) ≡ only reply.Gone → r ≡ only reply.Gone → y ≡ x → links ≡ l → Done
  gone is done same kept = stays_performs configs log (asked at seed (act.SendStep conn n)) n x y l links r reply.Gone s t is refl done same kept

  down : is_up log n ≡ false → row configs log at seed (act.SendStep conn n) ≡ only reply.Gone
  unfolding row
  down off = ap (λ b. cond b (sender_row configs log n conn at (live_half log n conn)) (only reply.Gone)) off

  nobody : is_up log n ≡ true → live_half log n conn ≡ None → row configs log at seed (act.SendStep conn n) ≡ only reply.Gone
  unfolding row
  nobody up none =
      ap (λ b. cond b (sender_row configs log n conn at (live_half log n conn)) (only reply.Gone)) up ∙ ap (sender_row configs log n conn at) none

  at_stage : (half : Half) (o : Option Stage) → is_up log n ≡ true → live_half log n conn ≡ Some half → table.at x.connections.stages conn ≡ o → StepsAt o (length log) n conn at half x y l links r → Done
  at_stage half None up has is d = begin_performs configs log at seed conn n half x y l links r s t one up has (sym (connects.begun conn) ∙ ap (λ (p : Option Stage). is_some p) is) d.0 d.1
  at_stage half (Some stage.Begun) up has is d =
      run_performs configs log at seed conn n half (waiting x.connections.answers conn) x y l links r s t up has (sym (connects.begun conn) ∙ ap (λ (p : Option Stage). is_some p) is) (sym (connects.running conn) ∙ ap runs_on is) refl d.0 d.1
  at_stage half (Some (stage.Running pinged)) up has is d =
      let running : has_run log n conn ≡ true = sym (connects.running conn) ∙ ap runs_on is in
      work_performs configs log at seed conn n half (is_past x.config.ping_frequency at (Some pinged)) x y l links r s t up has
      (sym (connects.begun conn) ∙ ap (λ (p : Option Stage). is_some p) is) running (heard running) (due_is configs log n conn at pinged x s is) d

  by_half : (o : Option Half) → is_up log n ≡ true → live_half log n conn ≡ o → StepsHalf o (length log) n conn at x y l links r → Done
  by_half None up none d = gone (nobody up none) d.0.0 d.0.1 d.1
  by_half (Some half) up has d = at_stage half (table.at x.connections.stages conn) up has refl d

  by_start : (b : Bool) → is_up log n ≡ b → SendStepsBy b (length log) n conn at x y l links r → Done
  by_start false off d = gone (down off) d.0.0 d.0.1 d.1
  by_start true up d = by_half (half_by n x.connections l conn) up (sym (half_is configs log n conn x.connections l connects t)) d

  pub send_step_performs : SendSteps (length log) n conn at x y l links r → Done
  send_step_performs d = by_start (is_node_up x) (sym (started_is configs log n x s)) d
