use Rattle.p2p_tracker_calls.proofs.KeptCalls.{kept-after}
use Rattle.p2p_tracker_calls.proofs.keeping.kept_after_each_call.Goals as goal

pub returns : goal.returns
returns g c = kept-after g.P.Ord.cmp
