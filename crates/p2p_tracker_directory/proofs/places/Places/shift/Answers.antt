use Rattle.std.proofs.Common.{is_some, ap, arith}
use Rattle.p2p_tracker_directory.proofs.Moves.{moved-none}
use Rattle.p2p_tracker_directory.proofs.places.Places.shift.Goals as goal

pub returns-in_default : goal.returns-in_default
returns-in_default g c =
    moved-none g.met.A.Ord.total g.met.K.Ord.total c.args.self.now c.take.new.self (c.args.from, c.args.key) (c.args.to, c.args.key) (is_some c.take.result)
    c.take.ensures.found (ap is_some c.in_default.is) c.take.ensures.others

pub put-requires-clause-fits : goal.put-requires-clause-fits
put-requires-clause-fits g c = let less = c.take.ensures.less (ap is_some c.in-Some.is) in omega (arith, less, c.take.ensures.fits)
