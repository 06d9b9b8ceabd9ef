use Rattle.std.proofs.Common.{◌≡◌, ℕ, take, drop, []}
use Rattle.std.specs.BTreeSet as sorted
use Rattle.std.specs.Ordering.{nat_cmp}
use Rattle.std.specs.List.{list_any}
use Rattle.p2p_log_rules.specs.Valid.{has_key, config_fault_from}
use Rattle.p2p_net_node.proofs.configs.config_fault.Given as goal

abbrev pub invariant-loop-i : goal.invariant-loop-i
invariant-loop-i l = record {
  keys : (k : ℕ) → sorted.contains nat_cmp l.keys k ≡ list_any (has_key (record { 0 = k })) (take l.i l.configs);
  fault : config_fault_from [] l.configs ≡ config_fault_from (take l.i l.configs) (drop l.i l.configs);
}
