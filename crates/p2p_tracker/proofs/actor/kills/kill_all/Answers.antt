use Rattle.std.proofs.Common.{◌≤◌, length, cond, None, ap, ◌∙◌, arith}
use Rattle.std.proofs.lemmas.List.{take_all}
use Rattle.std.specs.Map.{lookup}
use Rattle.std.specs.BTreeMap.{is_at}
use Rattle.p2p_tracker_calls.specs.Sets.{is_among}
use Rattle.p2p_tracker.proofs.Following.{taken-more}
use Rattle.p2p_tracker.proofs.Putting.{kills-next, without-next}
use Rattle.p2p_tracker.proofs.actor.kills.kill_all.Goals as goal

pub loop-peer-preserved : goal.loop-peer-preserved
loop-peer-preserved g c = record {
  put = kills-next g.C.Ord.cmp c.args.peers.now c.loop-peer.peer-index c.peer-item.result c.loop-peer.controls.entries c.kill.new.controls.entries c.loop-peer-test.true c.peer-item.is c.kill.ensures.controls
      c.loop-peer.put.items c.kill.new.put.items _ c.in_ok-kill.ensures.put c.loop-peer.invariant.put;
  controls = without-next g.C.Ord.cmp c.args.peers.now c.loop-peer.peer-index c.peer-item.result c.loop-peer.controls.entries c.kill.new.controls.entries c.loop-peer-test.true c.peer-item.is c.kill.ensures.controls
      _ c.loop-peer.invariant.controls;
  each = λ q. taken-more g.C.Ord.cmp c.args.peers.now c.loop-peer.peer-index c.peer-item.result q c.args.controls.now.entries c.loop-peer.controls.entries c.kill.new.controls.entries
      c.loop-peer-test.true c.peer-item.is (c.loop-peer.invariant.each q) (c.kill.ensures.each q);
}

pub returns-clause-each : goal.returns-clause-each
returns-clause-each g c = λ q.
    let all : length c.args.peers.now ≤ c.loop-peer.peer-index = omega arith in
    c.loop-peer.invariant.each q ∙ ap (λ ks. cond (is_among g.C.Ord.cmp ks q) None (lookup (is_at (g.C.Ord.cmp q)) c.args.controls.now.entries)) (take_all c.loop-peer.peer-index c.args.peers.now all)
