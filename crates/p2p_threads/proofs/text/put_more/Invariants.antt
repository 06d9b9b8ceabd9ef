-- What is left, written at the end of what stands, gives what the whole list gives.
use Rattle.std.proofs.Common.{◌≡◌, drop}
use Rattle.std.specs.String.{string_bytes}
use Rattle.p2p_threads.specs.ThreadText.{more_onto}
use Rattle.p2p_threads.proofs.text.put_more.Given as goal

abbrev pub invariant-loop-number : goal.invariant-loop-number
invariant-loop-number l = more_onto (string_bytes l.out) (drop l.number-index l.numbers) ≡ more_onto (string_bytes l.fn.out) l.numbers
