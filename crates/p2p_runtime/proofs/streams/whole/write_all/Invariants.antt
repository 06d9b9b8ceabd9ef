use Rattle.std.proofs.Common.{length, ◌≡◌, ◌++◌}
use Rattle.std.specs.Option.{option_map}
use Rattle.p2p_runtime.proofs.streams.whole.write_all.Given as goal

-- no write failed so far, and what the sink holds and the rest make the whole
abbrev pub invariant-loop-rest : goal.invariant-loop-rest
invariant-loop-rest g l = record {
  count : g.K.Sink.faults_of l.sink ≡ g.K.Sink.faults_of l.initial.sink;
  held : option_map (λ bytes. bytes ++ l.rest) (g.K.Sink.bytes_held l.sink) ≡ option_map (λ bytes. bytes ++ l.piece) (g.K.Sink.bytes_held l.initial.sink);
}

abbrev pub decreases-loop-rest : goal.decreases-loop-rest
decreases-loop-rest g l = length l.rest
