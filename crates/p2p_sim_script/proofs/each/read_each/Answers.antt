use Rattle.std.proofs.Common.{◌≡◌, ◌<◌, length, Some, None, sym, ap, ◌∙◌, arith}
use Rattle.json.specs.Json.{parse_map, after_end_array}
use Rattle.serde_json.specs.Data.{item}
use Rattle.p2p_sim_script.specs.Taken.{items_taken, value_taken}
use Rattle.p2p_sim_script.proofs.Saying.{parse_map_from, parse_map_none, each_after, each_after-more, each_after-refused, each_after-end}
use Rattle.p2p_sim_script.proofs.Taking.{items_taken-end, items_taken-more, items_taken-refused}
use Rattle.p2p_sim_script.proofs.each.read_each.Goals as goal

pub returns-in_err-item-clause-not_json : goal.returns-in_err-item-clause-not_json
returns-in_err-item-clause-not_json g c refused =
    let form = g.T.FromTree.form in
    let l = c.items in
    let going : (after_end_array l.reader ≡ None) × (c.take_end_array.new.self ≡ l.reader) = grind arith in
    let none : items_taken c.args.depth l.reader ≡ None = items_taken-refused c.args.depth l.reader going.0 (rw (← going.1) (c.read_item.ensures.not_json (grind arith))) in
    parse_map_none _ _ (l.invariant.0 ∙ ap (parse_map (each_after form l.list.items)) none)

pub returns-in_err-read_items-clause-not_json : goal.returns-in_err-read_items-clause-not_json
returns-in_err-read_items-clause-not_json g c refused =
    let form = g.T.FromTree.form in
    let l = c.items in
    let d = c.args.depth in
    let r = c.read_item.new.reader in
    let going : (after_end_array l.reader ≡ None) × (c.take_end_array.new.self ≡ l.reader) = grind arith in
    let taken = parse_map_from form (value_taken d l.reader) c.in_ok-item.field-0 r (rw (← going.1) c.in_ok-item.ensures.ok) in
    let more = items_taken-more d l.reader r taken.0 going.0 taken.1 in
    parse_map_none _ _ (l.invariant.0 ∙ ap (parse_map (each_after form l.list.items)) (more ∙ ap (parse_map (item taken.0)) (c.read_items.ensures.not_json (grind arith))))

pub returns-in_default-clause-ok : goal.returns-in_default-clause-ok
returns-in_default-clause-ok g c =
    let form = g.T.FromTree.form in
    let l = c.items in
    let d = c.args.depth in
    let r = c.read_item.new.reader in
    let going : (after_end_array l.reader ≡ None) × (c.take_end_array.new.self ≡ l.reader) = grind arith in
    let taken = parse_map_from form (value_taken d l.reader) c.in_ok-item.field-0 r (rw (← going.1) c.in_ok-item.ensures.ok) in
    let more = items_taken-more d l.reader r taken.0 going.0 taken.1 in
    let refused : form taken.0 ≡ None = sym taken.2 ∙ c.in_default.is in
    l.invariant.0 ∙ ap (parse_map (each_after form l.list.items)) (more ∙ ap (parse_map (item taken.0)) c.in_ok-read_items.ensures.ok)
    ∙ each_after-refused form l.list.items taken.0 _ _ refused

pub items-preserved : goal.items-preserved
items-preserved g c =
    let form = g.T.FromTree.form in
    let l = c.items in
    let d = c.args.depth in
    let r = c.read_item.new.reader in
    let going : (after_end_array l.reader ≡ None) × (c.take_end_array.new.self ≡ l.reader) = grind arith in
    let less : length r < length l.reader = rw (← going.1) c.in_ok-item.ensures.shorter in
    let taken = parse_map_from form (value_taken d l.reader) c.in_ok-item.field-0 r (rw (← going.1) c.in_ok-item.ensures.ok) in
    let more = items_taken-more d l.reader r taken.0 going.0 taken.1 in
    let said : form taken.0 ≡ Some c.in-Some.item = sym taken.2 ∙ c.in-Some.is in (
      l.invariant.0 ∙ ap (parse_map (each_after form l.list.items)) more ∙ each_after-more form l.list.items taken.0 c.in-Some.item (items_taken d r) said
          ∙ ap (λ xs. parse_map (each_after form xs) (items_taken d r)) (sym c.in_ok-push.ensures.items),
      omega (arith, l.invariant.1, less),
    )

pub returns-clause-ok : goal.returns-clause-ok
returns-clause-ok g c =
    let form = g.T.FromTree.form in
    let l = c.items in
    let r = c.take_end_array.new.self in
    l.invariant.0 ∙ ap (parse_map (each_after form l.list.items)) (items_taken-end c.args.depth l.reader r (grind arith)) ∙ each_after-end form l.list.items r
    ∙ ap (λ xs. Some (Some xs, r)) (sym c.new.ensures)
