use Rattle.p2p_discovery_directory.proofs.Putting.{kills-next, without-next}
use Rattle.p2p_discovery_directory.proofs.tracker.actor.controls.kill_all.Goals as goal

pub loop-peer-preserved : goal.loop-peer-preserved
loop-peer-preserved g c = record {
  put = kills-next g.P.Ord.cmp c.args.peers.now c.loop-peer.peer-index c.peer-item.result c.loop-peer.controls.entries c.kill.new.controls.entries c.loop-peer-test.true c.peer-item.is c.kill.ensures.controls
      c.loop-peer.put.items c.kill.new.put.items _ c.in_ok-kill.ensures.put c.loop-peer.invariant.put;
  controls = without-next g.P.Ord.cmp c.args.peers.now c.loop-peer.peer-index c.peer-item.result c.loop-peer.controls.entries c.kill.new.controls.entries c.loop-peer-test.true c.peer-item.is c.kill.ensures.controls
      _ c.loop-peer.invariant.controls;
}
