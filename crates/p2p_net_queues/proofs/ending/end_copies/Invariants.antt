use Rattle.std.proofs.Common.{◌≡◌, ◌++◌, drop}
use Rattle.p2p_log_rules.specs.Effect.{copies_end}
use Rattle.p2p_net_queues.proofs.ending.end_copies.Given as goal

abbrev pub invariant-loop-place : goal.invariant-loop-place
invariant-loop-place l =
    l.ends ++ copies_end l.send l.place (drop l.place l.to) l.outcome ≡ copies_end l.send 0 l.to l.outcome
