use Rattle.p2p_log_laws.proofs.Newest.{newest_lives}
use Rattle.p2p_log_laws.proofs.Turns.{alternates, one_holder, each_released}
use Rattle.p2p_log_laws.proofs.grants.grants_take_turns.Goals as goal

pub returns : goal.returns
returns c = record { alternate = alternates; holder = one_holder; released = each_released; newest = newest_lives }
