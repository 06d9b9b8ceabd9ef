-- What is left of the puts answers as all of them do.
use Rattle.std.proofs.Common.{◌≡◌, drop}
use Rattle.std.specs.Prelude.{filter, flat_map}
use Rattle.p2p_log.specs.Lines.{goes, placed, stays}
use Rattle.p2p_log.specs.Copies.{carries}
use Rattle.p2p_log.specs.Fates.{fate_waiting}
use Rattle.p2p_log.proofs.fate.waiting_put.Given as goal

abbrev pub invariant-loop-place : goal.invariant-loop-place
invariant-loop-place l =
    fate_waiting (filter (carries l.copy) (filter (stays (flat_map goes l.later)) (placed l.n l.place (drop l.place l.puts))))
    ≡ fate_waiting (filter (carries l.copy) (filter (stays (flat_map goes l.later)) (placed l.n 0 l.puts)))
