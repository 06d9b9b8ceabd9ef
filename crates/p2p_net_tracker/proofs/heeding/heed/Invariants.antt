use Rattle.std.proofs.Common.{◌≡◌, ◌++◌}
use Rattle.p2p_net_tracker.specs.Heeding.{heeded_by}
use Rattle.p2p_net_tracker.proofs.heeding.heed.Given as goal

-- what is heeded so far, and then the rest
abbrev pub invariant-loop-put : goal.invariant-loop-put
invariant-loop-put l = l.heeded ++ heeded_by l.ended l.put-iterator.rest.items ≡ heeded_by l.fn.ended l.fn.puts
