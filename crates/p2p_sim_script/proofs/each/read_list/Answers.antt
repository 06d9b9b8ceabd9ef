use Rattle.std.proofs.Common.{◌≡◌, ◌-◌, [], ◌∷◌, sym, ap, ap₂, ◌∙◌, arith}
use Rattle.json.specs.Token.{Token}
use Rattle.json.specs.Json.{parse_map}
use Rattle.json.specs.Reads.{token_of}
use Rattle.serde_json.specs.Data.{array}
use Rattle.p2p_sim_script.specs.Taken.{items_taken, value_taken}
use Rattle.p2p_sim_script.specs.Tree.{list_of}
use Rattle.p2p_sim_script.proofs.Saying.{listed}
use Rattle.p2p_sim_script.proofs.Taking.{value_taken-none, value_taken-too_deep_array, value_taken-array}
use Rattle.p2p_sim_script.proofs.each.read_list.Goals as goal

pub returns-in_err-token-clause-not_json : goal.returns-in_err-token-clause-not_json
returns-in_err-token-clause-not_json g c refused =
    let empty : c.args.reader.now ≡ [] = grind arith in
    ap (value_taken c.args.depth) empty ∙ value_taken-none c.args.depth

pub returns-then-depth-eq0-clause-not_json : goal.returns-then-depth-eq0-clause-not_json
returns-then-depth-eq0-clause-not_json g c refused =
    let ts = c.next.new.self in
    let first : c.args.reader.now ≡ token_of c.in_ok-token.token ∷ ts = grind arith in
    let none : c.args.depth ≡ 0 = omega arith in
    ap₂ value_taken none (first ∙ ap (λ k. token_of k ∷ ts) c.in-BeginArray.is) ∙ value_taken-too_deep_array ts

pub returns-in_err-read_each-in-BeginArray-clause-not_json : goal.returns-in_err-read_each-in-BeginArray-clause-not_json
returns-in_err-read_each-in-BeginArray-clause-not_json g c refused =
    let ts = c.next.new.self in
    let first : c.args.reader.now ≡ token_of c.in_ok-token.token ∷ ts = grind arith in
    ap (value_taken c.args.depth) (first ∙ ap (λ k. token_of k ∷ ts) c.in-BeginArray.is) ∙ value_taken-array c.args.depth ts (omega arith)
    ∙ ap (parse_map array) (c.read_each.ensures.not_json (grind arith))

pub returns-in_ok-read_each-in-BeginArray-clause-ok : goal.returns-in_ok-read_each-in-BeginArray-clause-ok
returns-in_ok-read_each-in-BeginArray-clause-ok g c =
    let form = g.T.FromTree.form in
    let ts = c.next.new.self in
    let first : c.args.reader.now ≡ token_of c.in_ok-token.token ∷ ts = grind arith in
    ap (parse_map (list_of form)) (ap (value_taken c.args.depth) (first ∙ ap (λ k. token_of k ∷ ts) c.in-BeginArray.is) ∙ value_taken-array c.args.depth ts (omega arith))
    ∙ listed form (items_taken (c.args.depth - 1) ts) ∙ c.in_ok-read_each-in-BeginArray.ensures.ok
