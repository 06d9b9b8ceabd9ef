use Rattle.p2p_log_laws.proofs.Leaving.{leave_in_order, older_leave_first}
use Rattle.p2p_log_laws.proofs.grants.queues_keep_order.Goals as goal

pub returns : goal.returns
returns c = record {
  leave = leave_in_order;
  older = λ configs script log g q conn_of lawful turns alive. older_leave_first configs script log lawful g turns q conn_of alive;
}
