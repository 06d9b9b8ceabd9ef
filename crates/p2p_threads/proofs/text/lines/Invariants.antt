use Rattle.std.proofs.Common.{◌≡◌, ◌≤◌, []}
use Rattle.std.specs.String.{string_bytes}
use Rattle.p2p_threads.specs.TakenOf.{taken_onto}
use Rattle.p2p_threads.proofs.text.lines.Given as goal

abbrev pub invariant-loop-sender : goal.invariant-loop-sender
invariant-loop-sender l = record {
  text : string_bytes l.out ≡ taken_onto [] l.messages l.sender l.m;
  within : l.sender ≤ l.n;
}
