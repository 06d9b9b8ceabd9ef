use Rattle.p2p_log_laws.proofs.RegisteredOnce.{each_registers_once, each_start_settles}
use Rattle.p2p_log_laws.proofs.Subscribing.{each_start_subscribes}
use Rattle.p2p_log_laws.proofs.starts.starts_subscribe.Goals as goal

pub returns : goal.returns
returns c = record { puts = each_start_subscribes; once = λ configs script log lawful. each_registers_once configs log; settled = λ configs script log lawful. each_start_settles configs log }
