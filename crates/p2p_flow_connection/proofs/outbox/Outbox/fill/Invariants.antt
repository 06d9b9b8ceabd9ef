use Rattle.std.proofs.Common.{◌≡◌, ◌-◌, length}
use Rattle.p2p_flow_connection.specs.Batching.{filled}
use Rattle.p2p_flow_connection.proofs.outbox.Outbox.fill.Given as goal

-- to fill what stands now comes to what filling comes to from the start
abbrev pub invariant-loop-self : goal.invariant-loop-self
invariant-loop-self g l = record {
  size : l.self-inside.size ≡ l.fn.self.size;
  ended : g.C.Control.ended l.control ≡ g.C.Control.ended l.fn.control;
  keeps : g.C.Control.keeps l.fn.control l.control;
  same : filled g.C.Control.frame_of (g.C.Control.ended l.fn.control) (l.fn.self.size - length l.self-inside.frames.items) l.self-inside.frames.items (g.C.Control.waiting l.control) l.relay
      ≡ filled g.C.Control.frame_of (g.C.Control.ended l.fn.control) (l.fn.self.size - length l.fn.self.frames) l.fn.self.frames (g.C.Control.waiting l.fn.control) l.fn.relay;
}

abbrev pub decreases-loop-self : goal.decreases-loop-self
decreases-loop-self g l = l.self-inside.size - length l.self-inside.frames.items
