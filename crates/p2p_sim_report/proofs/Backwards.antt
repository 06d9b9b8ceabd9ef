-- One step of a walk from the last entry to the first.
use Rattle.std.proofs.Common.{◌≡◌, ◌<◌, ◌≤◌, ◌+◌, ◌-◌, ◌∙◌, ℕ, Bool, true, false, ◌||◌, cond, List, ◌∷◌, sym, refl, ap, arith, length, drop, get_or}
use Rattle.std.specs.Prelude.{filter, flat_map, not}
use Rattle.std.specs.List.{list_any}
use Rattle.std.specs.Option.{option_or}
use Rattle.std.proofs.lemmas.List.{drop_more}
use Rattle.std.proofs.lemmas.List.Elements.{filter_agree}
use Rattle.std.proofs.lemmas.List.Folds.{list_any-append}
use Rattle.p2p_log.specs.declared.queue.Queue.{Queue}
use Rattle.p2p_log.specs.declared.queue.Queue.TheVariants as queue
use Rattle.p2p_log.specs.declared.item.Item.{Item}
use Rattle.p2p_log.specs.declared.item.Item.TheVariants as item
use Rattle.p2p_log.specs.declared.item.Envelope.{Envelope}
use Rattle.p2p_log.specs.declared.entry.Entry.{Entry}
use Rattle.p2p_log.specs.Lines.{ended_item, goes, live_from, name_of, placed, same_name, stays}
use Rattle.p2p_log.proofs.Waiting.{first_of-live}
use Rattle.p2p_sim_report.specs.Found.{first_of}

pub drop_before : {X : Type 0} (xs : List X) (i : ℕ) (d : X) → 0 < i → i ≤ length xs → drop (i - 1) xs ≡ get_or xs (i - 1) d ∷ drop i xs
drop_before xs i d some within =
    let back : i - 1 + 1 ≡ i = omega arith in
    drop_more xs (i - 1) d (omega arith) ∙ ap (λ k. get_or xs (i - 1) d ∷ drop k xs) back

-- the puts from the place i on that are left by a test
abbrev pub left_from : (ℕ × ℕ → Bool) → ℕ → ℕ → List (Queue × Item) → List Envelope
left_from gone n i xs = filter (λ x. not (gone (name_of x))) (placed n i xs)

left_from-gone : (gone : ℕ × ℕ → Bool) (n i : ℕ) (x : Queue × Item) (xs : List (Queue × Item)) (b : Bool) → gone (n, i) ≡ b → b ≡ true
    → left_from gone n i (x ∷ xs) ≡ left_from gone n (i + 1) xs
left_from-gone gone n i x xs b e t =
    let y : Envelope = record { entry = n; place = i; queue = x.0; item = x.1 } in
    let rest = left_from gone n (i + 1) xs in
    ap (λ (v : Bool). cond (not v) (y ∷ rest) rest) (e ∙ t)

-- an item that is gone is left out
pub left_from-before : (gone : ℕ × ℕ → Bool) (n i : ℕ) (xs : List (Queue × Item)) → 0 < i → i ≤ length xs → gone (n, i - 1) ≡ true
    → left_from gone n (i - 1) (drop (i - 1) xs) ≡ left_from gone n i (drop i xs)
left_from-before gone n i xs some within is =
    let any : Queue × Item = (queue.Router 0, item.RouterAnswer) in
    let back : i - 1 + 1 ≡ i = omega arith in
    ap (left_from gone n (i - 1)) (drop_before xs i any some within)
    ∙ left_from-gone gone n (i - 1) (get_or xs (i - 1) any) (drop i xs) true is refl
    ∙ ap (λ k. left_from gone n k (drop i xs)) back

-- the carriers that one more entry puts come before those of the entries after it
pub first_of-before : (copy : ℕ × ℕ) (log : List Entry) (n : ℕ) (e : Entry) (gone : ℕ × ℕ → Bool)
    → 0 < n
    → n ≤ length log
    → e ≡ get_or log (n - 1) e
    → ((name : ℕ × ℕ) → gone name ≡ list_any (same_name name) (flat_map goes (drop n log)))
    → first_of copy (live_from (n - 1) (drop (n - 1) log)) ≡ option_or (first_of copy (left_from gone (n - 1) 0 e.puts)) (first_of copy (live_from n (drop n log)))
first_of-before copy log n e gone some within is tells =
    let rest = drop n log in
    let back : n - 1 + 1 ≡ n = omega arith in
    ap (λ xs. first_of copy (live_from (n - 1) xs)) (drop_before log n e some within)
    ∙ ap (λ x. first_of copy (live_from (n - 1) (x ∷ rest))) (sym is)
    ∙ first_of-live copy (n - 1) e rest
    ∙ ap (λ k. option_or (first_of copy (filter (stays (flat_map goes rest)) (placed (n - 1) 0 e.puts))) (first_of copy (live_from k rest))) back
    ∙ ap (λ xs. option_or (first_of copy xs) (first_of copy (live_from n rest)))
    (sym (filter_agree (λ x. not (gone (name_of x))) (stays (flat_map goes rest)) (λ x. ap not (tells (name_of x))) (placed (n - 1) 0 e.puts)))

pub turned : (t e r : Bool) → ((t || e) || r) ≡ (e || (t || r))
turned true true r = refl
turned true false r = refl
turned false true r = refl
turned false false r = refl

-- the items that go by one more entry, or by those after it
pub goes-before : (name : ℕ × ℕ) (log : List Entry) (n : ℕ) (e : Entry)
    → 0 < n
    → n ≤ length log
    → e ≡ get_or log (n - 1) e
    → list_any (same_name name) (flat_map goes (drop (n - 1) log))
    ≡ (list_any (same_name name) (flat_map ended_item e.ends) || (list_any (same_name name) e.takes || list_any (same_name name) (flat_map goes (drop n log))))
goes-before name log n e some within is =
    let rest = drop n log in
    let p = same_name name in
    let later = list_any p (flat_map goes rest) in
    ap (λ xs. list_any p (flat_map goes xs)) (drop_before log n e some within)
    ∙ ap (λ x. list_any p (flat_map goes (x ∷ rest))) (sym is)
    ∙ list_any-append p (goes e) (flat_map goes rest)
    ∙ ap (λ (b : Bool). b || later) (list_any-append p e.takes (flat_map ended_item e.ends))
    ∙ turned (list_any p e.takes) (list_any p (flat_map ended_item e.ends)) later
