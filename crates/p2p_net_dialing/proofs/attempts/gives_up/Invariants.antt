-- What is left of the puts answers as all of them do.
use Rattle.std.proofs.Common.{◌≡◌, drop}
use Rattle.p2p_log_rules.specs.Puts.{gave_up}
use Rattle.p2p_net_dialing.proofs.attempts.gives_up.Given as goal

abbrev pub invariant-loop-put : goal.invariant-loop-put
invariant-loop-put l = gave_up (drop l.put-index l.puts) ≡ gave_up l.puts
