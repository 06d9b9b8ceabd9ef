use Rattle.std.proofs.Common.{◌≡◌, true, take, get_or, ap, sym, ◌∙◌}
use Rattle.std.specs.BTreeMap.{is_at}
use Rattle.std.proofs.lemmas.List.{take_more}
use Rattle.p2p_tracker_calls.specs.Sets.{is_among}
use Rattle.p2p_discovery_directory.proofs.Places.{among-or}
use Rattle.p2p_discovery_directory.proofs.plain.places.make_places.Goals as goal

pub loop-key-preserved : goal.loop-key-preserved
loop-key-preserved g c =
    let cmp = g.P.Ord.cmp in
    let i = c.loop-key.key-index in
    let all = c.args.keys.now in
    let e = c.key-item.result in
    record {
      infos = λ q. c.in_ok-make_place.ensures.infos q ∙ c.loop-key.invariant.infos q;
      kept = λ q h. c.in_ok-make_place.ensures.kept q (c.loop-key.invariant.kept q h);
      made = λ q h.
          among-or cmp (take i all) (get_or all i e) q
          (λ before. c.in_ok-make_place.ensures.kept q (c.loop-key.invariant.made q before))
          (λ here. c.in_ok-make_place.ensures.made q (ap (λ x. is_at (cmp x) q) c.key-item.is ∙ here))
          (ap (λ l. is_among cmp l q) (sym (take_more all i e c.loop-key-test.true)) ∙ h);
    }
