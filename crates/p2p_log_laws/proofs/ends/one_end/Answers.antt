use Rattle.p2p_log_laws.proofs.EndsOnce.{each_ends_once, each_has_one_end, nothing_else_ends}
use Rattle.p2p_log_laws.proofs.ends.one_end.Goals as goal

pub returns : goal.returns
returns c = record { balance = each_ends_once; copies = each_has_one_end; nothing_else = nothing_else_ends }
