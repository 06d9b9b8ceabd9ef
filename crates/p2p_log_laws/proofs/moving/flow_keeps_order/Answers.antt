use Rattle.p2p_log_laws.proofs.Flow.{flows_kept}
use Rattle.p2p_log_laws.proofs.moving.flow_keeps_order.Goals as goal

pub returns : goal.returns
returns c = flows_kept
