-- Which quotas an arrival came to and passed, by what it was told.
use Rattle.std.specs.Prelude.{Bool, true, false, not}
use Rattle.p2p_tracker_calls.specs.declared.gates.Reply.{Reply as Gates}
use Rattle.p2p_tracker_calls.specs.declared.gates.Reply.TheVariants as gates

-- whether it came to the quotas
abbrev pub is_counted : Gates → Bool
is_counted gates.Private = false
is_counted gates.Unregistered = false
is_counted (gates.Limited address subnet) = true
is_counted gates.TooMany = true
is_counted gates.Admitted = true

-- whether it passed that of its address
abbrev pub passed_address : Gates → Bool
passed_address gates.Private = false
passed_address gates.Unregistered = false
passed_address (gates.Limited address subnet) = not address
passed_address gates.TooMany = true
passed_address gates.Admitted = true

-- and that of its subnet
abbrev pub passed_subnet : Gates → Bool
passed_subnet gates.Private = false
passed_subnet gates.Unregistered = false
passed_subnet (gates.Limited address subnet) = not subnet
passed_subnet gates.TooMany = true
passed_subnet gates.Admitted = true
