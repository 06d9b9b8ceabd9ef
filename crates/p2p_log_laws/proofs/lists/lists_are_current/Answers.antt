use Rattle.p2p_log_laws.proofs.Listed.{lists_are_current}
use Rattle.p2p_log_laws.proofs.lists.lists_are_current.Goals as goal

pub returns : goal.returns
returns c = lists_are_current
