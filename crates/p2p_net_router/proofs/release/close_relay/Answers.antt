use Rattle.std.proofs.Common.{List, ap, ◌∙◌}
use Rattle.p2p_base.specs.declared.key.Key.{Key}
use Rattle.p2p_router.specs.declared.link.Link.{Link}
use Rattle.p2p_router.specs.Routing.{link_of}
use Rattle.p2p_net_router.specs.Items.{key_cmp}
use Rattle.p2p_net_router.proofs.Closing.{closed_links}
use Rattle.p2p_net_router.proofs.release.close_relay.Goals as goal

pub returns-in-Some : goal.returns-in-Some
returns-in-Some c =
    let links = c.args.actor.now.links in
    (rw c.in-Some.is at (c.relay_of.follows.holds c.close.new.self))
    ∙ ap (λ (ls : List (Key × Link)). record c.args.actor.now { links = ls })
    (closed_links links c.args.key (link_of key_cmp links c.args.key) c.in-Some.relay.now c.close.new.self (rw c.in-Some.is at c.relay_of.ensures.value) c.close.ensures)
