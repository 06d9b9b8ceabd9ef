use Rattle.std.proofs.Common.{sym, ◌∙◌}
use Rattle.p2p_tracker_directory.specs.Listed.{has_role}
use Rattle.p2p_tracker_directory.proofs.Entries.{listed, passed_over}
use Rattle.p2p_tracker_directory.proofs.directory.lists.peers_with_role.Goals as goal

pub loop-peer-preserved-in-Continue-1 : goal.loop-peer-preserved-in-Continue-1
loop-peer-preserved-in-Continue-1 g c =
    listed (λ e. has_role e.1 c.args.is_primary) _ c.loop-peer.peer-iterator c.next.new.self (c.in-Some.peer.now, c.in-Some.known.now) c.loop-peer.peers.items c.push.new.self.items
    c.in-Some.ensures.steps (sym c.has_role.ensures ∙ c.if-has_role.true) c.in_ok-push.ensures.items c.loop-peer.invariant

pub loop-peer-preserved : goal.loop-peer-preserved
loop-peer-preserved g c =
    passed_over (λ e. has_role e.1 c.args.is_primary) _ c.loop-peer.peer-iterator c.next.new.self (c.in-Some.peer.now, c.in-Some.known.now) c.loop-peer.peers.items
    c.in-Some.ensures.steps (sym c.has_role.ensures ∙ c.if-has_role.false) c.loop-peer.invariant
