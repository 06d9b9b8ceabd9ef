use Rattle.std.proofs.Common.{sym, ◌∙◌}
use Rattle.std.specs.Prelude.{nat_lt}
use Rattle.p2p_tracker_directory.proofs.Entries.{listed, passed_over}
use Rattle.p2p_tracker_directory.proofs.directory.lists.blocked.Goals as goal

pub loop-peer-preserved-in-Continue-1 : goal.loop-peer-preserved-in-Continue-1
loop-peer-preserved-in-Continue-1 g c =
    listed (λ e. nat_lt c.args.now e.1) _ c.loop-peer.peer-iterator c.next.new.self (c.in-Some.peer.now, c.in-Some.end.now) c.loop-peer.peers.items c.push.new.self.items c.in-Some.ensures.steps
    (sym c.is_after.ensures ∙ c.if-is_after.true) c.in_ok-push.ensures.items c.loop-peer.invariant

pub loop-peer-preserved : goal.loop-peer-preserved
loop-peer-preserved g c =
    passed_over (λ e. nat_lt c.args.now e.1) _ c.loop-peer.peer-iterator c.next.new.self (c.in-Some.peer.now, c.in-Some.end.now) c.loop-peer.peers.items c.in-Some.ensures.steps
    (sym c.is_after.ensures ∙ c.if-is_after.false) c.loop-peer.invariant
