use Rattle.p2p_log_laws.proofs.Connecting.{connect_is_reserved}
use Rattle.p2p_log_laws.proofs.beginning.connections_begin_reserved.Goals as goal

pub returns : goal.returns
returns c = connect_is_reserved
