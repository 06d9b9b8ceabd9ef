use Rattle.std.proofs.Common.{◌-◌, ◌<◌, length, sym, subst, ◌∙◌, arith}
use Rattle.p2p_flow_connection.proofs.Filling.{filled-full, room-none, ends-killed, ends-empty, goes_on}
use Rattle.p2p_flow_connection.proofs.outbox.Outbox.fill.Goals as goal

pub loop-self-preserved : goal.loop-self-preserved
loop-self-preserved g c = record {
  size = c.loop-self.invariant.size;
  ended = c.in_ok-frame.ensures.ended ∙ c.loop-self.invariant.ended;
  keeps = g.met.C.Control.keeps_on c.args.control.now c.loop-self.control c.take_frame.new.control c.loop-self.invariant.keeps c.in_ok-frame.ensures.keeps;
  same =
      goes_on g.C.Control.frame_of (g.C.Control.ended c.loop-self.control) (g.C.Control.ended c.args.control.now)
      c.loop-self.self-inside.frames.items (g.C.Control.waiting c.loop-self.control) (g.C.Control.waiting c.take_frame.new.control)
      c.loop-self.relay c.take_frame.new.relay c.args.self.now.size c.len.result c.in_ok-frame.field-0
      c.loop-self.invariant.ended (omega (arith, c.len.ensures, c.loop-self.self-inside.frames.ok.0)) (subst (λ n. c.len.result < n) c.loop-self.invariant.size c.loop-self-test.true)
      c.in_ok-frame.ensures.value c.in_ok-frame.ensures.control
      c.in_ok-frame.ensures.relay c.in-Frame.frame c.push.new.self.items c.in-Frame.is c.in_ok-push-in-Frame.ensures.items
      ∙ c.loop-self.invariant.same;
}

pub returns-in-Kill-clause-filled : goal.returns-in-Kill-clause-filled
returns-in-Kill-clause-filled g c =
    ends-killed g.C.Control.frame_of (g.C.Control.ended c.loop-self.control) (g.C.Control.ended c.args.control.now)
    c.loop-self.self-inside.frames.items (g.C.Control.waiting c.loop-self.control) (g.C.Control.waiting c.take_frame.new.control)
    c.loop-self.relay c.take_frame.new.relay c.args.self.now.size c.len.result c.in_ok-frame.field-0
    c.loop-self.invariant.ended (omega (arith, c.len.ensures, c.loop-self.self-inside.frames.ok.0)) (subst (λ n. c.len.result < n) c.loop-self.invariant.size c.loop-self-test.true)
    c.in_ok-frame.ensures.value c.in_ok-frame.ensures.control
    c.in_ok-frame.ensures.relay c.in-Kill.is
    ∙ c.loop-self.invariant.same

pub returns-in-Nothing-clause-filled : goal.returns-in-Nothing-clause-filled
returns-in-Nothing-clause-filled g c =
    ends-empty g.C.Control.frame_of (g.C.Control.ended c.loop-self.control) (g.C.Control.ended c.args.control.now)
    c.loop-self.self-inside.frames.items (g.C.Control.waiting c.loop-self.control) (g.C.Control.waiting c.take_frame.new.control)
    c.loop-self.relay c.take_frame.new.relay c.args.self.now.size c.len.result c.in_ok-frame.field-0
    c.loop-self.invariant.ended (omega (arith, c.len.ensures, c.loop-self.self-inside.frames.ok.0)) (subst (λ n. c.len.result < n) c.loop-self.invariant.size c.loop-self-test.true)
    c.in_ok-frame.ensures.value c.in_ok-frame.ensures.control
    c.in_ok-frame.ensures.relay c.in-Nothing.is
    ∙ c.loop-self.invariant.same

pub returns-clause-filled : goal.returns-clause-filled
returns-clause-filled g c =
    let most = c.loop-self-test.false in
    let size = c.loop-self.invariant.size in
    let count = c.len.ensures in
    let long = c.loop-self.self-inside.frames.ok.0 in
    sym (filled-full g.C.Control.frame_of (g.C.Control.ended c.args.control.now) c.loop-self.self-inside.frames.items (g.C.Control.waiting c.loop-self.control) c.loop-self.relay
    (c.args.self.now.size - length c.loop-self.self-inside.frames.items) (room-none c.args.self.now.size (length c.loop-self.self-inside.frames.items) (omega (arith, most, size, count, long))))
    ∙ c.loop-self.invariant.same
