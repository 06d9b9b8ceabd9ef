-- A list that is read item by item.
use Rattle.std.proofs.Common.{◌≡◌, ℕ, suc, ◌+◌, ◌<◌, ◌≤◌, List, [], ◌∷◌, ◌++◌, length, get_or, drop, Option, Some, None, option_map, option_and_then, refl, sym, ap, add-one, append_assoc, append-nil, drop-cons}
use Rattle.std.proofs.lemmas.List.{drop_all}
use Rattle.serde_json.specs.Data.{Data}
use Rattle.p2p_sim_script.specs.View.{view, items_view}
use Rattle.p2p_sim_script.specs.declared.value.Value.{Value}
use Rattle.p2p_sim_script.specs.Tree.{each}

-- the form of a list's items from one item on
each-at : {A : Type 0} (form : Data → Option A) (vs : List Value) (i : ℕ) (v : Value) → i < length vs → v ≡ get_or vs i v
    → each form (items_view (drop i vs)) ≡ option_and_then (λ x. option_and_then (λ xs. Some (x ∷ xs)) (each form (items_view (drop (i + 1) vs)))) (form (view v))
each-at form vs i v h is =
    rw (add-one, drop-cons vs i v h) (ap (λ w. option_and_then (λ x. option_and_then (λ xs. Some (x ∷ xs)) (each form (items_view (drop (suc i) vs)))) (form (view w))) (sym is))

joined : {A : Type 0} (done : List A) (x : A) (rest : Option (List A))
    → option_map (λ more. done ++ more) (option_and_then (λ xs. Some (x ∷ xs)) rest) ≡ option_map (λ more. (done ++ x ∷ []) ++ more) rest
joined done x None = refl
joined done x (Some xs) = ap Some (sym (append_assoc done (x ∷ []) xs))

-- one item more is read
pub each-more : {A : Type 0} (form : Data → Option A) (done : List A) (vs : List Value) (i : ℕ) (v : Value) (x : A) → i < length vs → v ≡ get_or vs i v → form (view v) ≡ Some x
    → option_map (λ more. done ++ more) (each form (items_view (drop i vs))) ≡ option_map (λ more. (done ++ x ∷ []) ++ more) (each form (items_view (drop (i + 1) vs)))
each-more form done vs i v x h is e = rw (each-at form vs i v h is, e) (joined done x (each form (items_view (drop (i + 1) vs))))

-- an item has not the form
pub each-refused : {A : Type 0} (form : Data → Option A) (done : List A) (vs : List Value) (i : ℕ) (v : Value) → i < length vs → v ≡ get_or vs i v → form (view v) ≡ None
    → option_map (λ more. done ++ more) (each form (items_view (drop i vs))) ≡ None
each-refused form done vs i v h is e = rw (each-at form vs i v h is, e)

-- no item is left
pub each-end : {A : Type 0} (form : Data → Option A) (done : List A) (vs : List Value) (i : ℕ) → length vs ≤ i → option_map (λ more. done ++ more) (each form (items_view (drop i vs))) ≡ Some done
each-end form done vs i h = rw (drop_all i vs h, append-nil)
