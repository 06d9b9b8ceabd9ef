use Rattle.std.proofs.Common.{subst, sym}
use Rattle.p2p_log_rules.specs.declared.row.Row.{Row}
use Rattle.p2p_net_node.specs.declared.node.Node.{Node}
use Rattle.p2p_net_calls.specs.Stopping.{Drains, DropsEnd, queues_of, half_holder}
use Rattle.p2p_net_calls.proofs.Stepping.{half_some, half_none}
use Rattle.p2p_net_calls.proofs.stopping.end_half.Goals as goal
use Rattle.p2p_net_calls.proofs.stopping.end_half.Goals.{then-is_some+in_ok-end_waiting, else-is_some}

pub returns-clause-drains : goal.returns-clause-drains
returns-clause-drains c =
    let n = c.args.turn.node in
    let conn = c.args.conn in
    let end = c.args.end in
    let x = c.args.node.now in
    let row = c.args.row.now in
    let l = c.args.links.now in
    let links = c.drop_end.new.links in
    let after = c.drop_end.new.row in
    let drops = c.in_ok-drop_end.ensures in
    elim c.if-is_some.branch [
      | then-is_some+in_ok-end_waiting w ↦ subst (λ (z : Node). Drains n (queues_of (half_holder n conn end)) x z l links row after) (sym w.node-is)
          (half_some n conn end x w.end_waiting.new.node l links row w.end_waiting.new.row after (sym w.if-is_some.ensures) w.in_ok-end_waiting.ensures.drains (subst (λ (r : Row). DropsEnd end l links r after) w.row-is drops))
      | else-is_some w ↦ subst (λ (z : Node). Drains n (queues_of (half_holder n conn end)) x z l links row after) (sym w.node-is)
          (half_none n conn end x l links row after (sym w.if-is_some.ensures) (subst (λ (r : Row). DropsEnd end l links r after) w.row-is drops))
    ]
