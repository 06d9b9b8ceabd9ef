use Rattle.std.proofs.Common.{ℕ, List, ap, ◌∙◌}
use Rattle.p2p_base.specs.Queue.{Queue}
use Rattle.p2p_flow_connection.specs.Arriving.{Arrived, with_channel}
use Rattle.p2p_flow_connection.proofs.inbounds.Inbounds.register.Goals as goal

pub returns-clause-after : goal.returns-clause-after
returns-clause-after g c =
    ap (λ (m : List (ℕ × Queue (g.row.P.Denot × List ℕ))). record { mailboxes = m; ended = c.self.inside.ended }) c.in_ok-register_in.ensures.after
    ∙ ap (λ (a : Arrived g.row.P.Denot). with_channel a c.args.channel c.args.places) c.self.view_is
