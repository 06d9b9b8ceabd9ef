use Rattle.std.proofs.Common.{refl}
use Rattle.p2p_tracker_directory.specs.Tracked.{needed}
use Rattle.p2p_tracker_directory.proofs.Indexing.{follow-changed}
use Rattle.p2p_tracker_directory.proofs.directory.records.Records.forget.Goals as goal

pub invariant_of-self : goal.invariant_of-self
invariant_of-self g c =
    follow-changed g.met.C.Ord.total c.args.peer.now c.self.inside.index c.follow.new.self c.spot-before.result.0 c.spot-before.result.1 c.self.inside.map.entries c.forget.new.records.entries
    needed refl c.forget.ensures c.follow.ensures.index c.spot-before.ensures.source c.spot-before.ensures.due c.self.invariant
