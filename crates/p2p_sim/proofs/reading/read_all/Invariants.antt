use Rattle.std.proofs.Common.{◌≡◌, ◌-◌, ◌≤◌, vec_len}
use Rattle.p2p_sim.specs.Streams.{Takes}
use Rattle.p2p_sim.proofs.reading.read_all.Given as goal

-- no read failed so far, and what was read is what was taken
abbrev pub invariant-loop-front : goal.invariant-loop-front
invariant-loop-front g l = record {
  within : vec_len l.bytes ≤ 16777216;
  piece : vec_len l.piece ≡ 65536;
  took : Takes (g.S.Source.bytes_left l.initial.source) l.bytes.items (g.S.Source.bytes_left l.source);
  count : g.S.Source.faults_of l.source ≡ g.S.Source.faults_of l.initial.source;
}

abbrev pub decreases-loop-front : goal.decreases-loop-front
decreases-loop-front g l = 16777217 - vec_len l.bytes
