use Rattle.std.proofs.Common.{sym, ◌∙◌}
use Rattle.p2p_base.proofs.MapParts.{values_of-zip}
use Rattle.p2p_base.proofs.map.Map.values.Goals as goal

pub returns : goal.returns
returns g c = c.as_slice.ensures.value ∙ rw (← c.self.view_is) (sym (values_of-zip c.self.inside.keys c.self.inside.values.items c.self.invariant))
