use Rattle.std.proofs.Common.{◌≡◌, take}
use Rattle.p2p_log.proofs.entry.clone_puts.Given as goal

abbrev pub invariant-loop-put : goal.invariant-loop-put
invariant-loop-put l = l.copies.items ≡ take l.put-index l.puts
