use Rattle.std.proofs.Common.{◌∙◌}
use Rattle.p2p_base.proofs.SortedPlaces.{position_from_search}
use Rattle.p2p_base.proofs.set.Set.position.Goals as goal

pub returns : goal.returns
returns g c =
    c.ok.ensures.value
    ∙ position_from_search g.met.P.Ord.total c.args.key.now c.args.self.now c.binary_search.result
    (rw (← c.self.view_is) c.self.invariant) (rw (← c.self.view_is, ← c.as_slice.ensures.value) c.binary_search.ensures.bound) (rw (← c.self.view_is, ← c.as_slice.ensures.value) c.binary_search.ensures.position)
