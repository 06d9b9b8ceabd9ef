use Rattle.std.proofs.Common.{◌≡◌, ◌+◌, ◌≤◌, drop}
use Rattle.p2p_discovery_peer.specs.Sizing.{remote_count}
use Rattle.p2p_discovery_peer.proofs.sizing.remote_count.Given as goal

abbrev pub invariant-loop-i : goal.invariant-loop-i
invariant-loop-i g l = record {
  counted : l.count + remote_count g.P.Ord.cmp l.own (drop l.i l.bootstrappers) ≡ remote_count g.P.Ord.cmp l.own l.bootstrappers;
  at_most : l.count ≤ l.i;
}
