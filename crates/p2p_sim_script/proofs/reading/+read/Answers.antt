use Rattle.std.proofs.Common.{◌≡◌, ◌-◌, ◌<◌, [], ◌∷◌, length, Some, None, string_bytes, sym, ap, ap₂, ◌∙◌, arith, rules}
use Rattle.json.specs.Token.{Token}
use Rattle.json.specs.Json.{parse_map, after_end_array, read_key, value}
use Rattle.json.specs.Reads.{token_of}
use Rattle.json.proofs.Grammar.{value_is, read_key-shorter}
use Rattle.serde_json.specs.Data.{null, boolean, number, string, array, object, no_members, put}
use Rattle.serde_json.specs.Read.{of_json, converted}
use Rattle.serde_json.specs.View.{number_view}
use Rattle.p2p_sim_script.specs.Taken.{value_taken, items_taken, members_taken}
use Rattle.p2p_sim_script.specs.View.{view, members_view}
use Rattle.p2p_sim_script.specs.declared.value.Value.{String, Number, Bool, Null, the_lemmas}
use Rattle.p2p_sim_script.proofs.Views.{view-Array, view-Object, members_view-push}
use Rattle.p2p_sim_script.proofs.Taking.{value_taken-none, value_taken-string, value_taken-number, value_taken-no_number, value_taken-boolean, value_taken-null, value_taken-too_deep_array, value_taken-too_deep_object, value_taken-array, value_taken-object, items_taken-end, items_taken-more, items_taken-refused, members_taken-end, members_taken-no_key, members_taken-more, members_taken-refused, items_before, items_before-none, items_before-more}
use Rattle.p2p_sim_script.proofs.reading.+read.Goals as goal

pub read_value-returns-in_err-token-clause-not_json : goal.read_value-returns-in_err-token-clause-not_json
read_value-returns-in_err-token-clause-not_json t c refused =
    let empty : c.args.reader.now ≡ [] = grind arith in
    ap (value_taken c.args.depth) empty ∙ value_taken-none c.args.depth

pub read_from-returns-then-depth-eq0-clause-not_json : goal.read_from-returns-then-depth-eq0-clause-not_json
read_from-returns-then-depth-eq0-clause-not_json t c refused =
    let none : c.args.depth ≡ 0 = omega arith in
    ap₂ value_taken none (ap (λ k. token_of k ∷ c.args.reader.now) c.in-BeginArray.is) ∙ value_taken-too_deep_array c.args.reader.now

pub read_from-returns-then-depth-eq0-2-clause-not_json : goal.read_from-returns-then-depth-eq0-2-clause-not_json
read_from-returns-then-depth-eq0-2-clause-not_json t c refused =
    let none : c.args.depth ≡ 0 = omega arith in
    ap₂ value_taken none (ap (λ k. token_of k ∷ c.args.reader.now) c.in-BeginObject.is) ∙ value_taken-too_deep_object c.args.reader.now

pub read_from-returns-in_err-read_items-in-BeginArray-clause-not_json : goal.read_from-returns-in_err-read_items-in-BeginArray-clause-not_json
read_from-returns-in_err-read_items-in-BeginArray-clause-not_json t c refused =
    let d = c.args.depth in
    let r = c.args.reader.now in
    ap (λ k. value_taken d (token_of k ∷ r)) c.in-BeginArray.is ∙ value_taken-array d r (omega arith) ∙ ap (parse_map array) (c.read_items.ensures.not_json (grind arith))

pub read_from-returns-in_err-read_members-in-BeginObject-clause-not_json : goal.read_from-returns-in_err-read_members-in-BeginObject-clause-not_json
read_from-returns-in_err-read_members-in-BeginObject-clause-not_json t c refused =
    let d = c.args.depth in
    let r = c.args.reader.now in
    ap (λ k. value_taken d (token_of k ∷ r)) c.in-BeginObject.is ∙ value_taken-object d r (omega arith) ∙ ap (parse_map object) (c.read_members.ensures.not_json (grind arith))

pub read_from-returns-in-String-clause-ok : goal.read_from-returns-in-String-clause-ok
read_from-returns-in-String-clause-ok t c =
    let d = c.args.depth in
    let r = c.args.reader.now in
    let seen : view (String c.in-String.text) ≡ string c.in-String.text.now = search (rules, the_lemmas) in
    ap (λ k. value_taken d (token_of k ∷ r)) c.in-String.is ∙ value_taken-string d c.in-String.text.now r ∙ ap (λ x. Some (x, r)) (sym seen)

pub read_from-returns-in-Some-clause-ok : goal.read_from-returns-in-Some-clause-ok
read_from-returns-in-Some-clause-ok t c =
    let d = c.args.depth in
    let r = c.args.reader.now in
    let n = c.in-Some.number in
    let seen : view (Number n) ≡ number (number_view n) = search (rules, the_lemmas) in
    ap (λ k. value_taken d (token_of k ∷ r)) c.in-Number.is ∙ value_taken-number d c.in-Number.text.now r (number_view n) (sym c.in-Some.ensures) ∙ ap (λ x. Some (x, r)) (sym seen)

pub read_from-returns-in-None-clause-not_json : goal.read_from-returns-in-None-clause-not_json
read_from-returns-in-None-clause-not_json t c refused =
    let d = c.args.depth in
    let r = c.args.reader.now in
    ap (λ k. value_taken d (token_of k ∷ r)) c.in-Number.is ∙ value_taken-no_number d c.in-Number.text.now r (sym c.in-None.ensures)

pub read_from-returns-in-Bool-clause-ok : goal.read_from-returns-in-Bool-clause-ok
read_from-returns-in-Bool-clause-ok t c =
    let d = c.args.depth in
    let r = c.args.reader.now in
    let seen : view (Bool c.in-Bool.flag) ≡ boolean c.in-Bool.flag = search (rules, the_lemmas) in
    ap (λ k. value_taken d (token_of k ∷ r)) c.in-Bool.is ∙ value_taken-boolean d c.in-Bool.flag r ∙ ap (λ x. Some (x, r)) (sym seen)

pub read_from-returns-in-Null-clause-ok : goal.read_from-returns-in-Null-clause-ok
read_from-returns-in-Null-clause-ok t c =
    let d = c.args.depth in
    let r = c.args.reader.now in
    let seen : view (Null) ≡ null = search (rules, the_lemmas) in
    ap (λ k. value_taken d (token_of k ∷ r)) c.in-Null.is ∙ value_taken-null d r ∙ ap (λ x. Some (x, r)) (sym seen)

pub read_from-returns-in-EndObject-clause-not_json : goal.read_from-returns-in-EndObject-clause-not_json
unfolding value_taken
read_from-returns-in-EndObject-clause-not_json t c refused =
    let ts = token_of c.args.token ∷ c.args.reader.now in
    let none : value c.args.depth ts ≡ None = rw (value_is c.args.depth ts) (grind arith) in
    ap (converted of_json) none

pub read_from-returns-in_ok-read_items-in-BeginArray-clause-ok : goal.read_from-returns-in_ok-read_items-in-BeginArray-clause-ok
read_from-returns-in_ok-read_items-in-BeginArray-clause-ok t c =
    let d = c.args.depth in
    let r = c.args.reader.now in
    let found = c.in_ok-read_items-in-BeginArray in
    ap (λ k. value_taken d (token_of k ∷ r)) c.in-BeginArray.is ∙ value_taken-array d r (omega arith) ∙ ap (parse_map array) found.ensures.ok
    ∙ ap (λ x. Some (x, c.read_items.new.reader)) (sym (view-Array found.field-0))

pub read_from-returns-in_ok-read_members-in-BeginObject-clause-ok : goal.read_from-returns-in_ok-read_members-in-BeginObject-clause-ok
read_from-returns-in_ok-read_members-in-BeginObject-clause-ok t c =
    let d = c.args.depth in
    let r = c.args.reader.now in
    let found = c.in_ok-read_members-in-BeginObject in
    ap (λ k. value_taken d (token_of k ∷ r)) c.in-BeginObject.is ∙ value_taken-object d r (omega arith) ∙ ap (parse_map object) found.ensures.ok
    ∙ ap (λ x. Some (x, c.read_members.new.reader)) (sym (view-Object found.field-0))

pub read_items-returns-in_err-item-clause-not_json : goal.read_items-returns-in_err-item-clause-not_json
read_items-returns-in_err-item-clause-not_json t c refused =
    let l = c.items in
    let going : (after_end_array l.reader ≡ None) × (c.take_end_array.new.self ≡ l.reader) = grind arith in
    l.invariant.0 ∙ ap (parse_map (items_before l.found.items)) (items_taken-refused c.args.depth l.reader going.0 (rw (← going.1) (c.read_value.ensures.not_json (grind arith))))

pub read_items-items-preserved : goal.read_items-items-preserved
read_items-items-preserved t c =
    let l = c.items in
    let going : (after_end_array l.reader ≡ None) × (c.take_end_array.new.self ≡ l.reader) = grind arith in
    let done = c.in_ok-item.ensures in
    let v = c.in_ok-item.item in
    let r = c.read_value.new.reader in
    let less : length r < length l.reader = rw (← going.1) done.shorter in (
      l.invariant.0 ∙ ap (parse_map (items_before l.found.items)) (items_taken-more c.args.depth l.reader r (view v) going.0 (rw (← going.1) done.ok)) ∙ items_before-more l.found.items v _
          ∙ ap (λ vs. parse_map (items_before vs) (items_taken c.args.depth r)) (sym c.in_ok-push.ensures.items),
      omega (arith, l.invariant.1, less),
    )

pub read_items-returns-clause-ok : goal.read_items-returns-clause-ok
read_items-returns-clause-ok t c =
    let l = c.items in
    let r = c.take_end_array.new.self in
    l.invariant.0 ∙ ap (parse_map (items_before l.found.items)) (items_taken-end c.args.depth l.reader r (grind arith)) ∙ ap (λ ds. Some (ds, r)) (items_before-none l.found.items)

pub read_members-returns-in_err-name-clause-not_json : goal.read_members-returns-in_err-name-clause-not_json
read_members-returns-in_err-name-clause-not_json t c refused =
    let l = c.members in
    l.invariant.0 ∙ members_taken-no_key c.args.depth (members_view l.found.items) l.reader c.in_err-name.ensures.value

pub read_members-returns-in_err-member-clause-not_json : goal.read_members-returns-in_err-member-clause-not_json
read_members-returns-in_err-member-clause-not_json t c refused =
    let l = c.members in
    let k = c.in-Some.name.now in
    let s = c.next_key.new.self in
    let named : read_key l.reader ≡ Some (Some k, s) = grind arith in
    l.invariant.0 ∙ members_taken-refused c.args.depth (members_view l.found.items) k l.reader s named (c.read_value.ensures.not_json (grind arith))

pub read_members-members-preserved : goal.read_members-members-preserved
read_members-members-preserved t c =
    let l = c.members in
    let old = members_view l.found.items in
    let k = c.in-Some.name.now in
    let s = c.next_key.new.self in
    let named : read_key l.reader ≡ Some (Some k, s) = grind arith in
    let done = c.in_ok-member.ensures in
    let v = c.in_ok-member.member in
    let r = c.read_value.new.reader in
    let less = read_key-shorter l.reader (Some k) s named in
    let lesser = done.shorter in
    let pushed : members_view c.push.new.self.items ≡ put k (view v) old =
    ap members_view c.in_ok-push.ensures.items ∙ members_view-push l.found.items (c.in-Some.name, v) in (
      l.invariant.0 ∙ members_taken-more c.args.depth old k l.reader s r (view v) named done.ok ∙ ap (λ found. members_taken c.args.depth found r) (sym pushed),
      omega (arith, l.invariant.1, less, lesser),
    )

pub read_members-returns-clause-ok : goal.read_members-returns-clause-ok
read_members-returns-clause-ok t c =
    let l = c.members in
    l.invariant.0 ∙ members_taken-end c.args.depth (members_view l.found.items) l.reader c.next_key.new.self (grind arith)
