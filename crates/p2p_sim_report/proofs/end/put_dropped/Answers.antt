-- Each part is written at the end of what the call before it left.
use Rattle.std.proofs.Common.{◌∙◌, ap, List, ℕ, ◌++◌}
use Rattle.std.specs.Prelude.{codes}
use Rattle.std.proofs.lemmas.Result.{IfOk-equal}
use Rattle.p2p_sim_report.specs.Text.{number_onto}
use Rattle.p2p_sim_report.specs.EndText.{cause_onto}
use Rattle.p2p_sim_report.proofs.end.put_dropped.Goals as goal

pub returns : goal.returns
returns c =
    let cause : List ℕ → List ℕ = λ out. cause_onto out c.args.cause in
    let comma : List ℕ → List ℕ = λ out. out ++ codes "," in
    let entry : List ℕ → List ℕ = λ out. number_onto out c.args.entry in
    let closed : List ℕ → List ℕ = λ out. out ++ codes "]" in
    let to_entry = c.in_ok-put-2.ensures ∙ ap comma (c.in_ok-put_cause.ensures ∙ ap cause c.in_ok-put.ensures) in
    IfOk-equal c.put-3.result _ _ _ c.put-3.ensures (ap closed (c.in_ok-put_number.ensures ∙ ap entry to_entry))
