-- Each part is written at the end of what the call before it left.
use Rattle.std.proofs.Common.{◌∙◌, ap, List, ℕ, ◌++◌}
use Rattle.std.specs.Prelude.{codes}
use Rattle.std.proofs.lemmas.Result.{IfOk-equal}
use Rattle.p2p_sim_report.specs.Text.{number_onto, hex_onto, flag_onto}
use Rattle.p2p_sim_report.proofs.item.put_content_start.Goals as goal

pub returns : goal.returns
returns c =
    let channel : List ℕ → List ℕ = λ out. number_onto out c.args.channel in
    let named_frame : List ℕ → List ℕ = λ out. out ++ codes ",\"frame\":" in
    let frame : List ℕ → List ℕ = λ out. hex_onto out c.args.frame.now in
    let named_priority : List ℕ → List ℕ = λ out. out ++ codes ",\"priority\":" in
    let priority : List ℕ → List ℕ = λ out. flag_onto out c.args.priority in
    let named_send : List ℕ → List ℕ = λ out. out ++ codes ",\"send\":" in
    let to_frame = c.in_ok-put-2.ensures ∙ ap named_frame (c.in_ok-put_number.ensures ∙ ap channel c.in_ok-put.ensures) in
    let to_priority = c.in_ok-put-3.ensures ∙ ap named_priority (c.in_ok-put_hex.ensures ∙ ap frame to_frame) in
    IfOk-equal c.put-4.result _ _ _ c.put-4.ensures (ap named_send (c.in_ok-put_flag.ensures ∙ ap priority to_priority))
