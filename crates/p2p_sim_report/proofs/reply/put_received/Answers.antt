-- Each part is written at the end of what the call before it left.
use Rattle.std.proofs.Common.{◌∙◌, ap, List, ℕ, ◌++◌}
use Rattle.std.specs.Prelude.{codes}
use Rattle.std.proofs.lemmas.Result.{IfOk-equal}
use Rattle.p2p_sim_report.specs.Text.{hex_onto, key_onto}
use Rattle.p2p_sim_report.proofs.reply.put_received.Goals as goal

pub returns : goal.returns
returns c =
    let bytes : List ℕ → List ℕ = λ out. hex_onto out c.args.bytes.now in
    let named_from : List ℕ → List ℕ = λ out. out ++ codes ",\"from\":" in
    let from : List ℕ → List ℕ = λ out. key_onto out c.args.from in
    let closed : List ℕ → List ℕ = λ out. out ++ codes "}}" in
    let to_from = c.in_ok-put-2.ensures ∙ ap named_from (c.in_ok-put_hex.ensures ∙ ap bytes c.in_ok-put.ensures) in
    IfOk-equal c.put-3.result _ _ _ c.put-3.ensures (ap closed (c.in_ok-write_onto.ensures ∙ ap from to_from))
