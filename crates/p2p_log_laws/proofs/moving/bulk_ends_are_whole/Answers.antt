use Rattle.p2p_log_laws.proofs.Emptying.{nothing_is_left, others_are_left, each_still_ends_once}
use Rattle.p2p_log_laws.proofs.moving.bulk_ends_are_whole.Goals as goal

pub returns : goal.returns
returns c = record { left = nothing_is_left; others = others_are_left; balance = each_still_ends_once }
