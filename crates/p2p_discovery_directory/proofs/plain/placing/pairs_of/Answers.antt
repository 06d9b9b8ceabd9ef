use Rattle.std.proofs.Common.{◌++◌, ◌∷◌, [], take, get_or, ap, sym, ◌∙◌}
use Rattle.std.proofs.lemmas.List.{take_more, take_all, map-append}
use Rattle.p2p_discovery_directory.specs.AsLookup.{nowhere, placed}
use Rattle.p2p_discovery_directory.proofs.plain.placing.pairs_of.Goals as goal

pub loop-key-preserved : goal.loop-key-preserved
loop-key-preserved g c =
    let i = c.loop-key.key-index in
    let all = c.args.keys.now in
    let e = c.key-item.result in
    c.in_ok-push.ensures.items
    ∙ (ap (λ l. l ++ (e, c.nowhere.result) ∷ []) c.loop-key.invariant
    ∙ (ap (λ a. placed (take i all) ++ (e, a) ∷ []) c.nowhere.ensures
    ∙ (ap (λ x. placed (take i all) ++ (x, nowhere) ∷ []) c.key-item.is
    ∙ (sym (map-append (λ k. (k, nowhere)) (take i all) (get_or all i e ∷ [])) ∙ ap placed (sym (take_more all i e c.loop-key-test.true))))))

pub returns : goal.returns
returns g c = c.loop-key.invariant ∙ ap placed (take_all c.loop-key.key-index c.args.keys.now c.loop-key-test.false)
