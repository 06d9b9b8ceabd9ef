use Rattle.std.proofs.Common.{◌≡◌, arith, sym, ap, ◌∙◌}
use Rattle.std.proofs.lemmas.List.{drop_all}
use Rattle.std.specs.Option.{option_map}
use Rattle.std.specs.Map.{lookup}
use Rattle.std.specs.BTreeMap.{is_at}
use Rattle.p2p_discovery_directory.specs.Infos.{kept_after}
use Rattle.p2p_discovery_directory.proofs.Places.{kept-more, kept-none}
use Rattle.p2p_discovery_directory.proofs.plain.places.take_up_each.Goals as goal

pub loop-info-preserved : goal.loop-info-preserved
loop-info-preserved g c = λ q.
    ap (option_map (kept_after g.P.Ord.cmp q c.next.new.self.rest.items)) (c.take_up.ensures q)
    ∙ (kept-more g.P.Ord.cmp q c.in-Some.info c.next.new.self.rest.items (lookup (is_at (g.P.Ord.cmp q)) c.loop-info.places.entries)
    ∙ (sym (ap (λ l. option_map (kept_after g.P.Ord.cmp q l) (lookup (is_at (g.P.Ord.cmp q)) c.loop-info.places.entries)) c.in-Some.ensures.steps.0) ∙ c.loop-info.invariant q))

pub returns : goal.returns
returns g c = λ q.
    let long = c.loop-info.info-iterator.rest.ok.0 in
    let end = c.in-None.ensures.steps.0 in
    sym (kept-none g.P.Ord.cmp q (lookup (is_at (g.P.Ord.cmp q)) c.loop-info.places.entries))
    ∙ (sym (ap (λ l. option_map (kept_after g.P.Ord.cmp q l) (lookup (is_at (g.P.Ord.cmp q)) c.loop-info.places.entries)) (drop_all 0 c.loop-info.info-iterator.rest.items (omega (arith, long, end))))
    ∙ c.loop-info.invariant q)
