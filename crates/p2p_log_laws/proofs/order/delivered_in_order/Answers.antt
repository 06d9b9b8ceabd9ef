use Rattle.p2p_log_laws.proofs.Ordering.{delivered_over_one, each_went_over}
use Rattle.p2p_log_laws.proofs.OverLinks.{delivered_by_older}
use Rattle.p2p_log_laws.proofs.order.delivered_in_order.Goals as goal

pub returns : goal.returns
returns c = record { link = delivered_over_one; connections = delivered_by_older; connection = each_went_over }
