-- What is left of the puts answers as all of them do.
use Rattle.std.proofs.Common.{◌≡◌, drop}
use Rattle.std.specs.List.{list_any}
use Rattle.p2p_log_rules.specs.Puts.{is_spawn}
use Rattle.p2p_net_dialing.proofs.handshakes.makes_connection.Given as goal

abbrev pub invariant-loop-put : goal.invariant-loop-put
invariant-loop-put l = list_any is_spawn (drop l.put-index l.puts) ≡ list_any is_spawn l.puts
