use Rattle.std.proofs.Common.{refl, ap, ◌∙◌}
use Rattle.p2p_base.specs.declared.key.Key.{Key}
use Rattle.p2p_router.specs.Routes.{Routes}
use Rattle.p2p_router.specs.Routing.{link_of}
use Rattle.p2p_net_router.specs.Holds.{routes_in}
use Rattle.p2p_net_router.specs.Items.{key_cmp}
use Rattle.p2p_net_router.proofs.AtEnd.{closed_routes}
use Rattle.p2p_net_router.proofs.router.Router.leave.Goals as goal

pub returns-clause-routes : goal.returns-clause-routes
returns-clause-routes c =
    let links = c.args.self.now.actor.links in
    ap (λ (a : Routes Key). routes_in a.links) c.close_relay.ensures ∙ closed_routes links c.args.key (link_of key_cmp links c.args.key) refl
