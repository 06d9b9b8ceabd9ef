use Rattle.std.proofs.Common.{ap}
use Rattle.std.proofs.lemmas.Bool.{false≢true}
use Rattle.std.specs.Prelude.{Err}
use Rattle.p2p_discovery_directory.proofs.Placed.{placed-made, placed-never}
use Rattle.p2p_discovery_directory.proofs.plain.placing.map_of.Goals as goal

pub unreachable-requires : goal.unreachable-requires
unreachable-requires g c =
    absurd (false≢true (placed-never g.P.Ord.cmp g.met.P.Ord.total c.args.keys.now c.requires c.in_ok-pairs.pairs.items c.in_ok-pairs.ensures
    (c.in-Err-Duplicate.ensures.duplicate (ap Err c.in-Err-Duplicate.field-0-is))))

pub returns-in-Ok : goal.returns-in-Ok
returns-in-Ok g c = placed-made g.P.Ord.cmp g.met.P.Ord.total c.args.keys.now c.requires c.in_ok-pairs.pairs.items c.in-Ok.peers c.in_ok-pairs.ensures c.in-Ok.ensures.ok
