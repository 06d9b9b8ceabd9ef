use Rattle.p2p_log_laws.proofs.HandshakeLaws.{one_answer}
use Rattle.p2p_log_laws.proofs.handshakes.handshakes_have_one_answer.Goals as goal

pub returns : goal.returns
returns c = λ configs script log n name lawful. one_answer configs n script log lawful name
