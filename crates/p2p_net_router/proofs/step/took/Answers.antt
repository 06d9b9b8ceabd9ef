use Rattle.std.proofs.Common.{◌∙◌}
use Rattle.p2p_net_router.proofs.Noting.{took_row, took_send, took_names}
use Rattle.p2p_net_router.proofs.step.took.Goals as goal

pub returns-clause-row : goal.returns-clause-row
returns-clause-row c =
    λ items x rest h.
    took_row c.args.turn.node c.args.names.now items x rest c.in_ok-taken.taken c.args.row.now c.take.new.row h c.in_ok-taken.ensures.first c.in_ok-taken.ensures.row

pub returns-clause-send : goal.returns-clause-send
returns-clause-send c =
    λ items x rest h. c.send_in.ensures ∙ took_send c.args.turn.node c.args.names.now items x rest c.in_ok-taken.taken h c.in_ok-taken.ensures.first

pub returns-clause-names : goal.returns-clause-names
returns-clause-names c =
    λ items x rest h. took_names c.args.turn.node c.args.names.now c.take.new.names items x rest h c.in_ok-taken.ensures.names
