use Rattle.std.proofs.Common.{◌∙◌}
use Rattle.std.specs.Option.{option_map}
use Rattle.p2p_tracker_directory.specs.Tracked.{needed, parted}
use Rattle.p2p_tracker_directory.proofs.Walks.{keys-once, keys-step, keys-end}
use Rattle.p2p_tracker_directory.proofs.Rules.{still-ruled}
use Rattle.p2p_tracker_directory.proofs.directory.enrolment.retire.Goals as goal

pub loop-peer-preserved : goal.loop-peer-preserved
loop-peer-preserved g c = (
  λ q.
      keys-step g.met.C.Ord.total (λ r. needed (option_map (parted c.args.is_primary) r)) c.args.peers.now c.loop-peer.peer-index c.peer-item.result q _ _ _ c.loop-peer-test.true c.peer-item.is (c.loop-peer.invariant.0 q) (c.leave.ensures.each q),
  still-ruled _ _ c.loop-peer.records c.leave.new.self c.loop-peer.invariant.1 c.leave.ensures.rules,
)

pub returns-clause-each : goal.returns-clause-each
returns-clause-each g c = λ q.
    keys-end g.met.C.Ord.total (λ r. needed (option_map (parted c.args.is_primary) r)) c.args.peers.now c.loop-peer.peer-index q _ _ c.loop-peer-test.false (c.loop-peer.invariant.0 q)
    ∙ keys-once g.met.C.Ord.total (λ r. needed (option_map (parted c.args.is_primary) r)) c.args.peers.now q _ c.requires
