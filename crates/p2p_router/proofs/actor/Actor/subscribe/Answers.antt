use Rattle.std.proofs.Common.{[], ◌∷◌, ◌++◌, ap, ◌∙◌}
use Rattle.std.specs.Map.{keys_of}
use Rattle.p2p_router.specs.Messenger.{told_all}
use Rattle.p2p_router.specs.Routes.{Routes}
use Rattle.p2p_router.specs.Step.{heard, told_of}
use Rattle.p2p_router.specs.declared.stepped.Stepped.TheVariants as stepped
use Rattle.p2p_router.specs.declared.stepped.Told.{Told}
use Rattle.p2p_router.proofs.Telling.{made_of}
use Rattle.p2p_router.proofs.actor.Actor.subscribe.Goals as goal

pub returns-clause-stepped : goal.returns-clause-stepped
returns-clause-stepped g c =
    let one = c.args.subscription ∷ [] in
    ap (stepped.SubscribePeers c.args.subscription) (c.in_ok-told.ensures.told ∙ ap (λ (r : Routes g.row.P.Denot). told_of c.args.messenger.now r.links one) c.self.view_is)

pub returns-clause-actor : goal.returns-clause-actor
returns-clause-actor g c =
    let old = c.self.inside in
    let d = c.args.messenger.now in
    let one = c.args.subscription ∷ [] in
    ap (λ l. made_of old.links.entries old.peers.entries l old.failed)
    (c.in_ok-extend_from_slice.ensures.items
    ∙ ap (λ l. old.subscriptions.items ++ l) (c.as_slice.ensures ∙ ap (λ (t : Told g.row.P.Denot). t.subscriptions) c.in_ok-told.ensures.told))
    ∙ ap (λ (r : Routes g.row.P.Denot). made_of r.links r.peers (r.subscriptions ++ heard d one) r.failed) c.self.view_is

pub returns-clause-messenger : goal.returns-clause-messenger
returns-clause-messenger g c =
    let d = c.args.messenger.now in
    let one = c.args.subscription ∷ [] in
    c.in_ok-told.ensures.messenger ∙ ap (λ (r : Routes g.row.P.Denot). told_all d (keys_of r.links) (heard d one)) c.self.view_is
