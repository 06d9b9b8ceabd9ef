use Rattle.p2p_log_laws.proofs.Drops.{each_read}
use Rattle.p2p_log_laws.proofs.Ledger.{each_delivered}
use Rattle.p2p_log_laws.proofs.delivery.only_sent_is_delivered.Goals as goal

pub returns : goal.returns
returns c = record { sent = each_delivered; read = each_read }
