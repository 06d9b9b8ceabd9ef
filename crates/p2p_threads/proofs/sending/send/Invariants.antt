use Rattle.std.proofs.Common.{◌≤◌, [], ◌∷◌}
use mathlib.Core.List.{IsPrefix}
use Rattle.p2p_threads.specs.Account.{IsMadeBy, IsAlike}
use Rattle.p2p_threads.specs.Sending.{HaveSent}
use Rattle.p2p_threads.proofs.sending.send.Given as goal

abbrev pub invariant-loop-number : goal.invariant-loop-number
invariant-loop-number g l = record {
  own : IsMadeBy l.shared l.pass;
  alike : IsAlike l.initial.pass l.pass;
  seen : IsPrefix l.initial.pass.seen l.pass.seen;
  within : l.number ≤ l.m;
  sent : HaveSent l.sender (l.number ∷ []) l.initial.pass l.pass;
}
