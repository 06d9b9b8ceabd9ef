use Rattle.std.proofs.Common.{sym}
use Rattle.p2p_base.proofs.MapParts.{keys_of-zip}
use Rattle.p2p_base.proofs.map.Map.into_keys.Goals as goal

pub returns : goal.returns
returns g c = rw (← c.self.view_is) (sym (keys_of-zip c.self.inside.keys c.self.inside.values.items c.self.invariant))
