use Rattle.std.proofs.Common.{List, Some, Option, refl, ap, ◌∙◌}
use Rattle.std.specs.BTreeMap.{BTreeMap}
use Rattle.p2p_router.specs.declared.link.Link.{Link}
use Rattle.p2p_router.specs.Routes.{Routes}
use Rattle.p2p_router.specs.Routing.{relay_over, relay_of, relay_set, with_relay}
use Rattle.p2p_router.proofs.actor.Actor.relay_of.Goals as goal

pub returns-in_default : goal.returns-in_default
returns-in_default g c = (
  (refl, λ w. tt, ap (λ (m : BTreeMap g.row.P.Denot Link). record { links = m.entries; peers = c.self.inside.peers.entries; subscriptions = c.self.inside.subscriptions.items; failed = c.self.inside.failed }) c.get_mut.follows.holds-at-none ∙ c.self.view_is),
  record {
    writes_back = tt;
    value = ap relay_over (rw c.in_default.is at c.get_mut.ensures.value) ∙ ap (λ (r : Routes g.row.P.Denot). relay_of g.P.Ord.cmp r.links c.args.peer.now) c.self.view_is;
  },
)

pub returns : goal.returns
returns g c =
    let es = c.self.inside.links.entries in
    let peer = c.args.peer.now in
    let there = rw c.in-Some.is at c.get_mut.ensures.value in (
      (
        refl,
        λ w. ap (λ (ls : List (g.row.P.Denot × Link)). record { links = ls; peers = c.self.inside.peers.entries; subscriptions = c.self.inside.subscriptions.items; failed = c.self.inside.failed }) ((c.get_mut.follows.holds (record { conn = c.in-Some.link.now.conn; relay = w })).0 ∙ ap (λ (o : Option Link). relay_set g.P.Ord.cmp o es peer w) there) ∙ ap (λ (r : Routes g.row.P.Denot). record { links = with_relay g.P.Ord.cmp r.links peer w; peers = r.peers; subscriptions = r.subscriptions; failed = r.failed }) c.self.view_is,
        refl,
      ),
      record {
        writes_back = tt;
        value = ap Some c.relay.ensures.value ∙ ap relay_over there ∙ ap (λ (r : Routes g.row.P.Denot). relay_of g.P.Ord.cmp r.links peer) c.self.view_is;
      },
    )
