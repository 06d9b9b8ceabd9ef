use Rattle.p2p_net_router.proofs.AtEnd.{released_over}
use Rattle.p2p_net_router.proofs.router.Router.release.Goals as goal

pub returns-clause-over : goal.returns-clause-over
returns-clause-over c =
    λ configs log e items s idle g.
    released_over configs log e c.args.self.now c.tell_release.new.messenger c.close_relay.new.actor c.remove.new.self c.push.new.self c.args.turn.entry c.args.place c.args.conn c.args.key items
    s idle g c.requires.bound c.close_relay.ensures c.in_ok-tell_release.ensures (c.remove.ensures.updates.0) c.in_ok-push.ensures
