use Rattle.p2p_net.proofs.Running.{RanFirst}
use Rattle.p2p_net.proofs.world.World.run.Given as goal

abbrev pub invariant-loop-event : goal.invariant-loop-event
invariant-loop-event l = RanFirst l.configs l.script l.event-index l.world
