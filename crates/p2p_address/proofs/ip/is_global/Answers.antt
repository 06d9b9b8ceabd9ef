use Rattle.std.proofs.Common.{not, ap, sym, ◌∙◌}
use Rattle.p2p_address.specs.Addresses.{is_global}
use Rattle.p2p_address.specs.Ranges.{is_global_v4, is_global_v6}
use Rattle.p2p_address.proofs.ip.is_global.Goals as goal

pub returns-in-V4 : goal.returns-in-V4
unfolding is_global_v4
returns-in-V4 c = ap not c.is_in_v4.ensures ∙ sym (ap is_global c.in-V4.is)

pub returns-in-V6 : goal.returns-in-V6
unfolding is_global_v6
returns-in-V6 c = ap not c.is_in_v6.ensures ∙ sym (ap is_global c.in-V6.is)
