use Rattle.p2p_threads.proofs.Moves.{opens}
use Rattle.p2p_threads.proofs.shared.Shared.new.Goals as goal

pub vacant-requires : goal.vacant-requires
vacant-requires g c = opens g.T.Served.reply g.T.Served.next c.of-first.result.value
