use Rattle.std.proofs.Common.{ℕ, List, ap, ◌∙◌}
use Rattle.p2p_base.specs.Queue.{Queue}
use Rattle.p2p_flow_connection.specs.Arriving.{Arrived, without_channel}
use Rattle.p2p_flow_connection.proofs.inbounds.Inbounds.deregister.Goals as goal

pub returns : goal.returns
returns g c =
    ap (λ (m : List (ℕ × Queue (g.row.P.Denot × List ℕ))). record { mailboxes = m; ended = c.self.inside.ended }) c.deregister_in.ensures
    ∙ ap (λ (a : Arrived g.row.P.Denot). without_channel a c.args.channel) c.self.view_is
