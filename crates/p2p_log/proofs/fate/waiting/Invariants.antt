-- What is left of the log answers as all of it does.
use Rattle.std.proofs.Common.{◌≡◌, drop}
use Rattle.std.specs.Prelude.{filter}
use Rattle.p2p_log.specs.Lines.{live_from}
use Rattle.p2p_log.specs.Copies.{carries}
use Rattle.p2p_log.specs.Fates.{fate_waiting}
use Rattle.p2p_log.proofs.fate.waiting.Given as goal

abbrev pub invariant-loop-n : goal.invariant-loop-n
invariant-loop-n l =
    fate_waiting (filter (carries l.copy) (live_from l.n (drop l.n l.log))) ≡ fate_waiting (filter (carries l.copy) (live_from 0 l.log))
