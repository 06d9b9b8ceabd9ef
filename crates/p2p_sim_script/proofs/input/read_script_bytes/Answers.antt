use Rattle.std.proofs.Common.{◌≡◌, ℕ, List, Option, Some, None, Err, IfOk, sym, ap, ◌∙◌, subst, arith}
use Rattle.std.specs.Option.{option_map, ok_or}
use Rattle.std.specs.Str.{IsUtf8}
use Rattle.serde_json.specs.Data.{Data}
use Rattle.serde_json.specs.Read.{read}
use Rattle.p2p_sim_script.specs.Form.{script_of}
use Rattle.p2p_sim_script.specs.Input.{json_of}
use Rattle.p2p_sim_script.proofs.JsonLaws.{json_of-none, json_said, json_unsaid}
use Rattle.p2p_sim_script.proofs.input.read_script_bytes.Goals as goal

module _ {A E : Type 0} (says : Data → Option A) (input text : List ℕ) (same : text ≡ input) (utf8 : IsUtf8 input) (err : E) where
  said_in : (o : Option A) → option_map says (read text) ≡ Some o → IfOk (ok_or o err) (λ s. (tree : Data) × (json_of input ≡ Some tree) × (says tree ≡ Some s))
  said_in None e = tt
  said_in (Some a) e = json_said says input text a same utf8 e

  unsaid_in : (o : Option A) (other : E) → ok_or o err ≡ Err other → option_map says (read text) ≡ Some o → (tree : Data) × (json_of input ≡ Some tree) × (says tree ≡ None)
  unsaid_in None other is e = json_unsaid says input text same utf8 e
  unsaid_in (Some a) other is e = absurd (cc)

pub returns-in_default-clause-not_json : goal.returns-in_default-clause-not_json
returns-in_default-clause-not_json c refused = json_of-none c.args.bytes.now (λ utf8. absurd (c.in_default.ensures.cases.0 utf8))

pub returns-in-Err-NotJson-clause-not_json : goal.returns-in-Err-NotJson-clause-not_json
returns-in-Err-NotJson-clause-not_json c refused =
    json_of-none c.args.bytes.now (λ utf8. ap read (sym c.in-Ok.ensures.cases.0) ∙ c.read_script_text.ensures.not_json (grind arith))

pub returns-clause-value : goal.returns-clause-value
returns-clause-value c =
    let text = c.in-Ok.ensures.cases in
    subst (λ r. IfOk r (λ s. (tree : Data) × (json_of c.args.bytes.now ≡ Some tree) × (script_of tree ≡ Some s))) (sym c.ok_or.ensures.value)
    (said_in script_of c.args.bytes.now c.in-Ok.text.now text.0 text.1 _ c.in-Ok-read_script_text.script c.in-Ok-read_script_text.ensures.ok)

pub returns-clause-not_script : goal.returns-clause-not_script
returns-clause-not_script c refused =
    let text = c.in-Ok.ensures.cases in
    unsaid_in script_of c.args.bytes.now c.in-Ok.text.now text.0 text.1 _ c.in-Ok-read_script_text.script _ (sym c.ok_or.ensures.value ∙ refused) c.in-Ok-read_script_text.ensures.ok
