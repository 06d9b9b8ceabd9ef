use Rattle.std.proofs.Common.{◌≡◌, Option, refl, sym, ap, ◌∙◌, subst}
use Rattle.std.specs.Option.{OnSome}
use Rattle.p2p_router.specs.Connections.{relay_to, with_relay_to}
use Rattle.p2p_router.proofs.Indexed.{answers-over}
use Rattle.p2p_router.proofs.actor.Actor.relay.Goals as goal

pub returns-in_default : goal.returns-in_default
returns-in_default g c =
    let r = c.args.self.now in
    let value = ap (relay_to g.P.Ord.cmp r.links) (sym c.in_default.is ∙ c.peer.ensures) in (
      (refl, λ w. tt, refl),
      record { writes_back = tt; value = value; found = answers-over g.met.P.Ord.total r c.args.conn _ value },
    )

pub returns : goal.returns
returns g c =
    let r = c.args.self.now in
    let peer = sym c.in-Some.is ∙ c.peer.ensures in
    let value = c.relay_of.ensures.value ∙ ap (relay_to g.P.Ord.cmp r.links) peer in (
      (
        refl,
        λ w.
            subst (λ (o : Option g.row.P.Denot). OnSome c.relay_of.result (c.relay_of.follows.lender w ≡ record { links = with_relay_to g.P.Ord.cmp r.links o w; peers = r.peers; subscriptions = r.subscriptions; failed = r.failed })) peer
            (c.relay_of.follows.holds w),
        c.relay_of.follows.holds-at-none,
      ),
      record { writes_back = tt; value = value; found = answers-over g.met.P.Ord.total r c.args.conn _ value },
    )
