-- A borrowed value, level by level, and members that grow at their end.
use Rattle.std.proofs.Common.{◌≡◌, ℕ, List, [], ◌∷◌, ◌++◌, map, true, false, Some, Vec, Global, Bor, bytes_eq, true≢false, refl, sym, ap, ◌∙◌, rules}
use Rattle.std.proofs.lemmas.Slice.Eq.{bytes_eq-Decides}
use Rattle.serde_json.specs.Data.{Data, array, object, Members, no_members, put}
use Rattle.serde_json.specs.Find.{get_member}
use Rattle.serde_json.proofs.Views.{get_member-put, get_member-put_other}
use Rattle.p2p_sim_script.specs.View.{view, items_view, members_view, put_all}
use Rattle.p2p_sim_script.specs.declared.value.Value.{Value, Array, Object, the_lemmas}

abbrev pub Entry : Type 0
Entry = Bor (List ℕ) × Value

pub view-Array : (v : Vec Value Global) → view (Array v) ≡ array (items_view v.items)
view-Array v = search (rules, the_lemmas)

pub view-Object : (v : Vec Entry Global) → view (Object v) ≡ object (members_view v.items)
view-Object v = search (rules, the_lemmas)

-- a member, with its value seen as its data
abbrev pub Seen : Type 0
Seen = Bor (List ℕ) × Data

abbrev pub all_seen : List Entry → List Seen
all_seen ms = map (λ m. (m.0, view m.1)) ms

put_all-push : (found : Members) (ms : List Seen) (m : Seen) → put_all found (ms ++ m ∷ []) ≡ put m.0.now m.1 (put_all found ms)
put_all-push found [] m = refl
put_all-push found (n ∷ ms) m = put_all-push (put n.0.now n.1 found) ms m

all_seen-push : (ms : List Entry) (m : Entry) → all_seen (ms ++ m ∷ []) ≡ all_seen ms ++ (m.0, view m.1) ∷ []
all_seen-push [] m = refl
all_seen-push (n ∷ ms) m = let first : Seen = (n.0, view n.1) in ap (λ rest. first ∷ rest) (all_seen-push ms m)

-- one member more
pub members_view-push : (ms : List Entry) (m : Entry) → members_view (ms ++ m ∷ []) ≡ put m.0.now (view m.1) (members_view ms)
members_view-push ms m = ap (put_all no_members) (all_seen-push ms m) ∙ put_all-push no_members (all_seen ms) (m.0, view m.1)

-- the last member of a name is the one that is found
pub find-here : (name : List ℕ) (ms : List Entry) (m : Entry) → bytes_eq m.0.now name ≡ true → get_member name (members_view (ms ++ m ∷ [])) ≡ Some (view m.1)
find-here name ms m e =
    let same : m.0.now ≡ name = (bytes_eq-Decides m.0.now name).0 e in
    ap (get_member name) (members_view-push ms m) ∙ ap (λ n. get_member n (put m.0.now (view m.1) (members_view ms))) (sym same) ∙ get_member-put m.0.now (view m.1) (members_view ms)

pub find-before : (name : List ℕ) (ms : List Entry) (m : Entry) → bytes_eq m.0.now name ≡ false → get_member name (members_view (ms ++ m ∷ [])) ≡ get_member name (members_view ms)
find-before name ms m e =
    let other : name ≡ m.0.now → ⊥ = λ h. true≢false (sym ((bytes_eq-Decides m.0.now name).1 (sym h)) ∙ e) in
    ap (get_member name) (members_view-push ms m) ∙ get_member-put_other name m.0.now (view m.1) (members_view ms) other
