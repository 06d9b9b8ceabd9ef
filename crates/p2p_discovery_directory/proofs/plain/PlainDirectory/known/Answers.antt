use Rattle.std.proofs.Common.{◌++◌, ◌∷◌, [], take, get_or, map, ap, sym, ◌∙◌}
use Rattle.std.proofs.lemmas.List.{take_more, take_all, map-append}
use Rattle.std.specs.Prelude.{is_some}
use Rattle.p2p_discovery_directory.specs.Plain.{info_at}
use Rattle.p2p_discovery_directory.proofs.plain.PlainDirectory.known.Goals as goal

pub loop-key-preserved : goal.loop-key-preserved
loop-key-preserved g c =
    let i = c.loop-key.key-index in
    let all = c.args.keys.now in
    let e = c.key-item.result in
    c.in_ok-push.ensures.items
    ∙ (ap (λ l. l ++ c.is_known.result ∷ []) c.loop-key.invariant
    ∙ (ap (λ b. map (λ q. is_some (info_at g.P.Ord.cmp c.args.self.now q)) (take i all) ++ b ∷ []) c.is_known.ensures
    ∙ (ap (λ x. map (λ q. is_some (info_at g.P.Ord.cmp c.args.self.now q)) (take i all) ++ is_some (info_at g.P.Ord.cmp c.args.self.now x) ∷ []) c.key-item.is
    ∙ (sym (map-append (λ q. is_some (info_at g.P.Ord.cmp c.args.self.now q)) (take i all) (get_or all i e ∷ []))
    ∙ ap (map (λ q. is_some (info_at g.P.Ord.cmp c.args.self.now q))) (sym (take_more all i e c.loop-key-test.true))))))

pub returns : goal.returns
returns g c = c.loop-key.invariant ∙ ap (map (λ q. is_some (info_at g.P.Ord.cmp c.args.self.now q))) (take_all c.loop-key.key-index c.args.keys.now c.loop-key-test.false)
