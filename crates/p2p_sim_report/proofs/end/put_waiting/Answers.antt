-- The queue is written at the end of what the first call left.
use Rattle.std.proofs.Common.{◌∙◌, ap, List, ℕ, ◌++◌}
use Rattle.std.specs.Prelude.{codes}
use Rattle.std.proofs.lemmas.Result.{IfOk-equal}
use Rattle.p2p_sim_report.specs.QueueText.{queue_onto}
use Rattle.p2p_sim_report.proofs.end.put_waiting.Goals as goal

pub returns : goal.returns
returns c =
    let closed : List ℕ → List ℕ = λ out. out ++ codes "]" in
    let queued : List ℕ → List ℕ = λ out. queue_onto out c.args.queue in
    IfOk-equal c.put-2.result _ _ _ c.put-2.ensures (ap closed (c.in_ok-write_onto.ensures ∙ ap queued c.in_ok-put.ensures))
