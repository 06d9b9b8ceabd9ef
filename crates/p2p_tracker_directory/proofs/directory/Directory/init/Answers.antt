use Rattle.std.proofs.Common.{refl}
use Rattle.p2p_tracker_directory.proofs.Standing.{stands-init}
use Rattle.p2p_tracker_directory.proofs.directory.Directory.init.Goals as goal

pub returns-clause-stands : goal.returns-clause-stands
returns-clause-stands g c = stands-init g.C.Ord.cmp _ c.in_ok-records.ensures.records c.new-2.ensures c.new.ensures.items refl
