use Rattle.std.proofs.Common.{◌≡◌, ◌++◌}
use Rattle.p2p_net_router.specs.Stopping.{frames_end}
use Rattle.p2p_net_router.proofs.stopping.end_frames.Given as goal

-- what has ended so far, and then the rest
abbrev pub invariant-loop-name : goal.invariant-loop-name
invariant-loop-name l = record l.row { ends = l.row.ends ++ frames_end l.name-iterator.rest.items } ≡ record l.initial.row { ends = l.initial.row.ends ++ frames_end l.fn.names.items }
