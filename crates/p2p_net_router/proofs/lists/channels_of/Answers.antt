use Rattle.std.proofs.Common.{◌++◌, ◌∷◌, [], take, get_or, ap, sym, ◌∙◌}
use Rattle.std.specs.Prelude.{map}
use Rattle.std.proofs.lemmas.List.{take_more, take_all, map-append}
use Rattle.p2p_net_router.specs.Items.{channel_of}
use Rattle.p2p_net_router.proofs.lists.channels_of.Goals as goal

pub loop-subscription-preserved : goal.loop-subscription-preserved
loop-subscription-preserved c =
    let i = c.loop-subscription.subscription-index in
    let all = c.args.subscriptions.now in
    let f = channel_of c.args.channels.now in
    c.in_ok-push.ensures.items
    ∙ (ap (λ l. l ++ c.channel_at.result ∷ []) c.loop-subscription.invariant
    ∙ (ap (λ k. map f (take i all) ++ k ∷ []) c.channel_at.ensures
    ∙ (sym (map-append f (take i all) (get_or all i 0 ∷ [])) ∙ ap (map f) (sym (take_more all i 0 c.loop-subscription-test.true)))))

pub returns : goal.returns
returns c =
    c.loop-subscription.invariant
    ∙ ap (map (channel_of c.args.channels.now)) (take_all c.loop-subscription.subscription-index c.args.subscriptions.now c.loop-subscription-test.false)
