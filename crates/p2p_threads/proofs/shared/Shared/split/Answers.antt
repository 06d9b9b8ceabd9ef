use Rattle.std.proofs.Common.{rules}
use Rattle.p2p_threads.proofs.Moves.{splits}
use Rattle.p2p_threads.proofs.shared.Shared.split.Goals as goal

pub split_seat-seat-requires : goal.split_seat-seat-requires
split_seat-seat-requires g c = (search rules, search rules, splits g.T.Served.reply g.T.Served.next c.self.inside.board.shared.key.value _ _)
