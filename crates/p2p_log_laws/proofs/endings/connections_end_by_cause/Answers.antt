use Rattle.p2p_log_laws.proofs.EndShown.{each_end_shows, each_ends_one, each_is_ended_once}
use Rattle.p2p_log_laws.proofs.endings.connections_end_by_cause.Goals as goal

pub returns : goal.returns
returns c = record { shown = each_end_shows; one = each_ends_one; once = each_is_ended_once }
