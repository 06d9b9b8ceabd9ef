use Rattle.p2p_log_laws.proofs.EarlierLogs.{beginning_lawful}
use Rattle.p2p_log_laws.proofs.beginnings.beginnings_are_lawful.Goals as goal

pub returns : goal.returns
returns c = λ configs script log lawful asked it n. beginning_lawful configs asked log it n
