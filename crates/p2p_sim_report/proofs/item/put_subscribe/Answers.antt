-- Each part is written at the end of what the call before it left.
use Rattle.std.proofs.Common.{◌∙◌, ap, List, ℕ, ◌++◌}
use Rattle.std.specs.Prelude.{codes}
use Rattle.std.proofs.lemmas.Result.{IfOk-equal}
use Rattle.p2p_sim_report.specs.Text.{number_onto}
use Rattle.p2p_sim_report.proofs.item.put_subscribe.Goals as goal

pub returns : goal.returns
returns c =
    let channel : List ℕ → List ℕ = λ out. number_onto out c.args.channel in
    let closed : List ℕ → List ℕ = λ out. out ++ codes "}" in
    IfOk-equal c.put-2.result _ _ _ c.put-2.ensures (ap closed (c.in_ok-put_number.ensures ∙ ap channel c.in_ok-put.ensures))
