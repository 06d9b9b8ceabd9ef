use Rattle.std.proofs.Common.{◌≡◌, [], Some, option_map, sym, ap, ◌∙◌, arith, rules}
use Rattle.p2p_sim_script.specs.Form.{script_of}
use Rattle.p2p_sim_script.specs.Taken.{value_taken}
use Rattle.p2p_sim_script.proofs.Saying.{parse_map_from}
use Rattle.p2p_sim_script.proofs.Taking.{read-taken, read-more, read-refused}
use Rattle.p2p_sim_script.proofs.text.read_whole.Goals as goal

pub returns-in_err-script-clause-not_json : goal.returns-in_err-script-clause-not_json
returns-in_err-script-clause-not_json c refused = read-refused c.args.text.now (rw c.in_ok-reader.ensures.ok at (c.read_outer.ensures.not_json (grind arith)))

pub returns-then-is_some-clause-not_json : goal.returns-then-is_some-clause-not_json
returns-then-is_some-clause-not_json c refused =
    let r = c.read_outer.new.reader in
    let taken = parse_map_from script_of (value_taken 127 c.in_ok-reader.reader) c.in_ok-script.script r c.in_ok-script.ensures.ok in
    let whole = ap (value_taken 127) (sym c.in_ok-reader.ensures.ok) ∙ taken.1 in
    read-more c.args.text.now taken.0 r whole (λ over. grind (arith, over))

pub returns-clause-ok : goal.returns-clause-ok
returns-clause-ok c =
    let r = c.read_outer.new.reader in
    let none : r ≡ [] = search rules in
    let taken = parse_map_from script_of (value_taken 127 c.in_ok-reader.reader) c.in_ok-script.script r c.in_ok-script.ensures.ok in
    let whole = ap (value_taken 127) (sym c.in_ok-reader.ensures.ok) ∙ taken.1 ∙ ap (λ ts. Some (taken.0, ts)) none in
    ap (option_map script_of) (read-taken c.args.text.now taken.0 whole) ∙ ap Some (sym taken.2)
