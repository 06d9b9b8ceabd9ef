use Rattle.std.proofs.Common.{Some, cond, refl, ap, ◌∙◌}
use Rattle.std.specs.BTreeMap.{get}
use Rattle.std.specs.Ordering.{nat_cmp, is_eq}
use Rattle.p2p_net_router.proofs.Subscribed.{subscribed_stands, is_subscribed}
use Rattle.p2p_net_router.proofs.router.Router.subscribe.Goals as goal

pub returns-clause-subscriptions : goal.returns-clause-subscriptions
returns-clause-subscriptions c =
    λ d. c.in_ok-insert.ensures.updates.0 d ∙ ap (λ n. cond (is_eq (nat_cmp c.args.channel d)) (Some n) (get nat_cmp c.args.self.now.subscriptions d)) c.in_ok-number.ensures.number

pub returns-clause-stands : goal.returns-clause-stands
returns-clause-stands c =
    λ configs log e s runs unbound g absent.
    subscribed_stands configs log e c.args.self.now _ c.args.channel s runs g
    (is_subscribed c.args.self.now _ c.args.channel unbound c.in_ok-number.ensures.after c.in_ok-push.ensures.items (returns-clause-subscriptions c) refl) absent
