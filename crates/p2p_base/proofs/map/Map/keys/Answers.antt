use Rattle.std.proofs.Common.{sym, ◌∙◌}
use Rattle.p2p_base.proofs.MapParts.{keys_of-zip}
use Rattle.p2p_base.proofs.map.Map.keys.Goals as goal

pub returns-clause-keys : goal.returns-clause-keys
returns-clause-keys g c = c.as_slice.ensures.keys ∙ rw (← c.self.view_is) (sym (keys_of-zip c.self.inside.keys c.self.inside.values.items c.self.invariant))
