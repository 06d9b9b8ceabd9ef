use Rattle.std.proofs.Common.{sym, subst, ◌∙◌}
use Rattle.std.specs.List.Sorted.{IsStrictlySortedBy}
use Rattle.std.specs.Map.{keys_of}
use Rattle.p2p_router.specs.Connections.{IsOfOnePeer, IsIndexed}
use Rattle.p2p_router.specs.Messenger.{message_waiting}
use Rattle.p2p_router.specs.Routes.{Routes}
use Rattle.p2p_router.proofs.Indexed.{stepped-kept}
use Rattle.p2p_router.proofs.Telling.{made_of}
use Rattle.p2p_router.proofs.actor.Actor.step.Goals as goal

pub returns-clause-indexed : goal.returns-clause-indexed
returns-clause-indexed g c = λ sorted indexed one.
    let old = c.self.inside in
    subst (λ (r : Routes g.row.P.Denot). IsIndexed g.P.Ord.cmp r) (sym (c.self-2.view_is ∙ c.in_ok-stepped.ensures.actor))
    (stepped-kept g.met.P.Ord.total (made_of old.links.entries old.peers.entries old.subscriptions.items _) c.args.messenger.now (message_waiting c.args.messenger.now)
    (subst (λ (r : Routes g.row.P.Denot). IsStrictlySortedBy g.P.Ord.cmp (keys_of r.links)) (sym c.self.view_is) sorted)
    (subst (λ (r : Routes g.row.P.Denot). IsIndexed g.P.Ord.cmp r) (sym c.self.view_is) indexed)
    (subst (λ (r : Routes g.row.P.Denot). IsOfOnePeer g.P.Ord.cmp r.links (message_waiting c.args.messenger.now)) (sym c.self.view_is) one))
