use Rattle.std.proofs.Common.{sym, ◌∙◌}
use Rattle.p2p_base.proofs.MapParts.{length-zip}
use Rattle.p2p_base.proofs.map.Map.len.Goals as goal

pub returns : goal.returns
returns g c = c.len.ensures ∙ rw (← c.self.view_is) (sym (length-zip c.self.inside.keys c.self.inside.values.items c.self.invariant))
