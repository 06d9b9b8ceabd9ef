-- What was found, and then what is left to find, is all of it.
use Rattle.std.proofs.Common.{◌≡◌, ◌++◌, drop}
use Rattle.p2p_threads.specs.TakenOf.{taken_of}
use Rattle.p2p_threads.proofs.text.taken.Given as goal

abbrev pub invariant-loop-message : goal.invariant-loop-message
invariant-loop-message l = l.numbers.items ++ taken_of l.of (drop l.message-index l.messages) ≡ taken_of l.of l.messages
