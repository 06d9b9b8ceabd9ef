use Rattle.p2p_tracker_calls.proofs.Alternating.{grants_none_held-dial, grants_none_held-listen}
use Rattle.p2p_tracker_calls.proofs.turns.allowed_grants_are_of_none_held.Goals as goal

pub returns-clause-dial : goal.returns-clause-dial
returns-clause-dial g c = grants_none_held-dial g.P.Ord.cmp

pub returns-clause-listen : goal.returns-clause-listen
returns-clause-listen g c = grants_none_held-listen g.P.Ord.cmp
