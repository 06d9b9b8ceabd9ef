use Rattle.p2p_tracker.proofs.actor.kills.forget.Goals as goal

pub returns-clause-each : goal.returns-clause-each
returns-clause-each g c = λ q. c.remove.ensures.updates.0 q
