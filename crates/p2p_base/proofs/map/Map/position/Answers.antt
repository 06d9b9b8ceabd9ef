use Rattle.std.proofs.Common.{◌∙◌}
use Rattle.p2p_base.proofs.MapParts.{keys_of-zip}
use Rattle.p2p_base.proofs.map.Map.position.Goals as goal

pub returns : goal.returns
returns g c = c.position.ensures ∙ rw (← c.self.view_is, keys_of-zip c.self.inside.keys c.self.inside.values.items c.self.invariant)
