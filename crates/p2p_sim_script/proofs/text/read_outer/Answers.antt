use Rattle.std.proofs.Common.{◌≡◌, [], ◌∷◌, Some, sym, ap, ◌∙◌, arith}
use Rattle.json.specs.Json.{parse_map}
use Rattle.json.specs.Reads.{token_of}
use Rattle.serde_json.specs.Data.{object}
use Rattle.p2p_sim_script.specs.Form.{script_of}
use Rattle.p2p_sim_script.specs.Taken.{value_taken}
use Rattle.p2p_sim_script.proofs.Saying.{script_said-is}
use Rattle.p2p_sim_script.proofs.Taking.{value_taken-none, value_taken-object}
use Rattle.p2p_sim_script.proofs.text.read_outer.Goals as goal

pub returns-in_err-token-clause-not_json : goal.returns-in_err-token-clause-not_json
returns-in_err-token-clause-not_json c refused =
    let empty : c.args.reader.now ≡ [] = grind arith in
    ap (value_taken 127) empty ∙ value_taken-none 127

pub returns-in_err-read_found-in-BeginObject-clause-not_json : goal.returns-in_err-read_found-in-BeginObject-clause-not_json
returns-in_err-read_found-in-BeginObject-clause-not_json c refused =
    let ts = c.next.new.self in
    let first : c.args.reader.now ≡ token_of c.in_ok-token.token ∷ ts = grind arith in
    ap (value_taken 127) (first ∙ ap (λ k. token_of k ∷ ts) c.in-BeginObject.is) ∙ value_taken-object 127 ts (omega arith) ∙ ap (parse_map object) (c.read_found.ensures.not_json (grind arith))

pub returns-in-BeginObject-clause-ok : goal.returns-in-BeginObject-clause-ok
returns-in-BeginObject-clause-ok c =
    let ts = c.next.new.self in
    let r = c.read_found.new.reader in
    let found = c.in_ok-read_found-in-BeginObject in
    let e = found.ensures.ok in
    let first : c.args.reader.now ≡ token_of c.in_ok-token.token ∷ ts = grind arith in
    ap (parse_map script_of) (ap (value_taken 127) (first ∙ ap (λ k. token_of k ∷ ts) c.in-BeginObject.is) ∙ value_taken-object 127 ts (omega arith) ∙ ap (parse_map object) e.1)
    ∙ ap (λ s. Some (s, r)) (sym (script_said-is found.field-0 e.0 e.2) ∙ sym c.script.ensures)
