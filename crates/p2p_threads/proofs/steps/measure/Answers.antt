use Rattle.std.proofs.Common.{rules}
use Rattle.p2p_threads.proofs.Moves.{measures}
use Rattle.p2p_threads.proofs.steps.measure.Goals as goal

pub load-requires : goal.load-requires
load-requires g c = (
  c.requires.seat.0,
  search rules,
  measures g.T.Served.reply g.T.Served.next c.args.table.now.key.value _ _ c.args.seat.now.me c.args.table.now.table_id c.requires.inside.0 c.requires.inside.1 c.requires.knows,
)
