use Rattle.p2p_base.proofs.MapPairs.{AllZip-zip}
use Rattle.p2p_base.proofs.map.MapClone.clone.Goals as goal

pub returns : goal.returns
returns g c = record {
  cases =
      rw (← c.self.view_is, c.in_ok-keys.ensures)
      (AllZip-zip g.V.Clone.is_clone c.self.inside.keys c.self.inside.values.items c.in_ok-values.values.items c.self.invariant
      (rw (← c.as_slice.ensures.value) c.in_ok-values.ensures.items));
}
