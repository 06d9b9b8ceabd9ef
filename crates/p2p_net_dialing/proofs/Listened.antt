-- The acts of a node's listener.
use Rattle.std.proofs.Common.{◌≡◌, ◌≤◌, ℕ, Bool, true, false, cond, List, length, refl, ap, sym, ◌∙◌, Option}
use Rattle.p2p_log.specs.declared.config.Config.{Config}
use Rattle.p2p_log.specs.declared.queue.Queue.TheVariants as queue
use Rattle.p2p_log.specs.declared.queue.Side.TheVariants as side
use Rattle.p2p_log.specs.declared.entry.Entry.{Entry}
use Rattle.p2p_log.specs.declared.entry.Reply.TheVariants as reply
use Rattle.p2p_log.specs.declared.event.Event.{Event}
use Rattle.p2p_log.specs.declared.event.Act.TheVariants as act
use Rattle.p2p_log.specs.Lines.{line}
use Rattle.p2p_log_rules.specs.declared.row.Row.{Row}
use Rattle.p2p_log_rules.specs.Dropping.{listener_drops}
use Rattle.p2p_log_rules.specs.Effect.{only, row, entry_of}
use Rattle.p2p_log_rules.specs.Facts.{is_up, events_of, latest_moment}
use Rattle.p2p_log_rules.specs.Listening as log_rule
use Rattle.p2p_log_rules.specs.Listening.{gate_rules_at, known_of, listener_row}
use Rattle.p2p_log_rules.proofs.Dropping.{all_of, drops_of-listener}
use Rattle.p2p_net_links.specs.Stands.{LinksStand}
use Rattle.p2p_net_links.specs.declared.links.Links.{Links}
use Rattle.p2p_net_node.specs.Ready.{is_node_up}
use Rattle.p2p_net_dialing.specs.Dialing.{Listens, DropsUnless, ListenerStepsBy}
use Rattle.p2p_net_node.specs.Stands.{NodeStands}
use Rattle.p2p_net_node.specs.declared.node.Node.{Node}
use Rattle.p2p_net_dialing.proofs.DroppedEnds.{dropped, performs_beside}
use Rattle.p2p_net_node.proofs.EachPart.{not_among-links}
use Rattle.p2p_net_dialing.proofs.Heard.{named, lost_by, Heard, step_row}
use Rattle.p2p_net_dialing.proofs.Listening.{heard}
use Rattle.p2p_net_node.proofs.Performing.{asked, Performs, stays_performs}
use Rattle.p2p_net_node.proofs.Readying.{started_is}

-- a step of one that has started, with the end of an arrival that it turns away
listens_performs : (configs : List Config) (log : List Entry) (moment seed n : ℕ) (x y : Node) (l ls : Links) (row after : Row) (over : Option ℕ) → NodeStands configs log n x → LinksStand configs log l → latest_moment (events_of log) ≤ moment → is_up log n ≡ true
    → Listens (length log) n moment x y row over → DropsUnless false over side.In l ls row after → Performs configs log (asked moment seed (act.Listener n)) n y ls after
listens_performs configs log moment seed n x y l ls row after over s t late up d drops =
    let ev : Event = asked moment seed (act.Listener n) in
    let h : Heard configs log ev n x y row over = heard configs log moment seed n x y row over s late up d.rest d.took d.refuses d.steps d.tracks in
    performs_beside configs log ev n x y l ls named (lost_by log n row) (listener_row configs log n moment) row after false over side.In s t refl refl refl
    (λ p out. not_among-links named p n out) h.did drops h.drops
    (drops_of-listener log (entry_of ev (dropped log (lost_by log n row) row)) n refl ∙ ap all_of h.took)
    (step_row configs log moment seed n ∙ ap (listener_drops log n) (sym h.did.row_is))

pub listener_performs : (configs : List Config) (log : List Entry) (moment seed n : ℕ) (x y : Node) (l ls : Links) (r : Row) → NodeStands configs log n x → LinksStand configs log l → latest_moment (events_of log) ≤ moment
    → ListenerStepsBy (is_node_up x) (length log) n moment x y l ls r → Performs configs log (asked moment seed (act.Listener n)) n y ls r
unfolding row
listener_performs configs log moment seed n x y l ls r s t late steps = by (is_node_up x) (sym (started_is configs log n x s)) steps
  where
    by : (b : Bool) → is_up log n ≡ b → ListenerStepsBy b (length log) n moment x y l ls r → Performs configs log (asked moment seed (act.Listener n)) n y ls r
    by true up h = listens_performs configs log moment seed n x y l ls h.row r h.refused s t late up h.steps h.drops
    by false down h =
        stays_performs configs log (asked moment seed (act.Listener n)) n x y l ls r reply.Gone s t
        (ap (λ b. listener_drops log n (cond b (log_rule.listener_turn (gate_rules_at configs n) (known_of configs log n) (log_rule.has_place configs log n) n (length log) moment (line log (queue.Addresses n)) (line log (queue.Arrivals n))) (only reply.Gone))) down)
        refl h.0.0 h.0.1 h.1
