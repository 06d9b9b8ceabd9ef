use Rattle.std.proofs.Common.{◌≡◌, ◌<◌, ◌++◌, take, false}
use Rattle.std.specs.Prelude.{IfSome}
use Rattle.p2p_peer_shared.proofs.writing.write_frames.Given as goal

-- the frames before this one were written, without a fault
abbrev pub invariant-loop-frame : goal.invariant-loop-frame
invariant-loop-frame g l = record {
  count : l.written ≡ l.frame-index;
  in_flight : g.L.Link.in_flight l.link ≡ g.L.Link.in_flight l.initial.link ++ take l.frame-index l.frames;
  faults : g.L.Link.faults_of l.link ≡ g.L.Link.faults_of l.initial.link;
  told : g.L.Link.write_fails l.link ≡ g.L.Link.write_fails l.initial.link;
  went : 0 < l.written → IfSome (g.L.Link.write_fails l.initial.link) (λ b. b ≡ false);
  waiting : g.L.Link.waiting l.link ≡ g.L.Link.waiting l.initial.link;
}
