use Rattle.std.proofs.Common.{◌≡◌}
use Rattle.std.specs.Map.{keys_of, values_of}
use Rattle.p2p_base.proofs.map.split.Given as goal

abbrev pub invariant-loop-key : goal.invariant-loop-key
invariant-loop-key g l = record { keys : l.keys.items ≡ keys_of l.yielded; values : l.values.items ≡ values_of l.yielded }
