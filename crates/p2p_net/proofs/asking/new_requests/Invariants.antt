use Rattle.std.proofs.Common.{◌≡◌, ℕ, length, Some}
use Rattle.std.specs.Prelude.{slice_get}
use Rattle.p2p_net_node.specs.Requested.{nothing_requested}
use Rattle.p2p_net_node.specs.declared.requested.Requested.{Requested}
use Rattle.p2p_net.proofs.asking.new_requests.Given as goal

abbrev pub invariant-loop-index : goal.invariant-loop-index
invariant-loop-index l = record {
  long : length l.requested.items ≡ l._index;
  each : (n : ℕ) (r : Requested) → slice_get l.requested.items n ≡ Some r → r ≡ nothing_requested;
}
