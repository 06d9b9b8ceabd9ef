-- What a table gives after a change.
use Rattle.std.proofs.Common.{◌≡◌, ℕ, Bool, true, false, cond, List, [], ◌∷◌, ◌++◌, drop, refl, ap, sym, ◌∙◌, arith, Option, Some, None}
use Rattle.std.specs.Prelude.{◌==◌, ◌&&◌}
use Rattle.std.specs.Cmp.{IsTotalOrder, eq_by_cmp_equiv}
use Rattle.std.specs.declared.cmp.Ordering.{Ordering}
use Rattle.std.specs.declared.cmp.Ordering.TheVariants.{Less, Equal, Greater}
use Rattle.std.specs.Map.{lookup, set_value}
use Rattle.std.specs.BTreeMap.{is_at, insert_entry}
use Rattle.std.specs.Ordering.{nat_cmp, is_eq, match_ordering}
use Rattle.std.proofs.lemmas.Bool.Decides.{nat_tests}
use Rattle.p2p_net_queues.specs.Tables.{at, AreBut, kept_with, items_in, waiting, pushed_on, pushed_at, popped_on, popped_at, cleared_on, cleared_at}

same_at : (q k x : ℕ) → nat_cmp k x ≡ Equal → is_eq (nat_cmp q x) ≡ is_eq (nat_cmp q k)
same_at q k x h = grind (arith, nat_tests)

not_both : (q k x : ℕ) → nat_cmp k x ≡ Greater → (is_eq (nat_cmp q x) && is_eq (nat_cmp q k)) ≡ false
not_both q k x h = grind (arith, nat_tests)

same_key : (q k x : ℕ) → is_eq (nat_cmp k x) ≡ true → is_eq (nat_cmp q x) ≡ is_eq (nat_cmp q k)
same_key q k x h = grind (arith, nat_tests)

other_key : (q k x : ℕ) → is_eq (nat_cmp k x) ≡ false → (is_eq (nat_cmp q x) && is_eq (nat_cmp q k)) ≡ false
other_key q k x h = grind (arith, nat_tests)

-- of keys in any order
differs : (a b : Bool) → (b ≡ true → false ≡ a) → (a && b) ≡ false
differs true true h = sym (h refl)
differs true false h = refl
differs false b h = refl

module _ {K : Type 0} {cmp : K → K → Ordering} (total : IsTotalOrder cmp) where
  same_before : (q k x : K) → cmp k x ≡ Equal → is_eq (cmp q x) ≡ is_eq (cmp k q)
  same_before q k x h =
      let laws = eq_by_cmp_equiv total in
      laws.symm q x ∙ sym (laws.congr k x q (ap is_eq h))

  one_at_most : (q k x : K) → cmp k x ≡ Greater → (is_eq (cmp q x) && is_eq (cmp k q)) ≡ false
  one_at_most q k x h = differs (is_eq (cmp q x)) (is_eq (cmp k q)) (λ same. sym (ap is_eq h) ∙ (eq_by_cmp_equiv total).congr k q x same)

module _ {V : Type 0} where
  over : (a b : Bool) (v w rest : Option V) → a ≡ b → cond a v rest ≡ cond b v (cond a w rest)
  over true true v w rest e = refl
  over false false v w rest e = refl
  over true false v w rest e = cc
  over false true v w rest e = cc

  swap : (a b : Bool) (v w rest : Option V) → (a && b) ≡ false → cond a w (cond b v rest) ≡ cond b v (cond a w rest)
  swap true true v w rest e = cc
  swap true false v w rest e = refl
  swap false b v w rest e = refl

  pub lookup-insert_entry : (k q : ℕ) (v : V) (es : List (ℕ × V)) → lookup (is_at (nat_cmp q)) (insert_entry nat_cmp es k v) ≡ cond (is_at (nat_cmp q) k) (Some v) (lookup (is_at (nat_cmp q)) es)
  lookup-insert_entry k q v [] = refl
  lookup-insert_entry k q v (e ∷ es) =
      let rest = lookup (is_at (nat_cmp q)) es in
      (elim (nat_cmp k e.0) as (λ o. nat_cmp k e.0 ≡ o → lookup (is_at (nat_cmp q)) (match_ordering o ((k, v) ∷ e ∷ es) ((e.0, v) ∷ es) (e ∷ insert_entry nat_cmp es k v)) ≡ cond (is_at (nat_cmp q) k) (Some v) (lookup (is_at (nat_cmp q)) (e ∷ es))) [
        | Less ↦ λ h. refl
        | Equal ↦ λ h. over (is_eq (nat_cmp q e.0)) (is_eq (nat_cmp q k)) (Some v) (Some e.1) rest (same_at q k e.0 h)
        | Greater ↦ λ h.
            ap (λ r. cond (is_eq (nat_cmp q e.0)) (Some e.1) r) (lookup-insert_entry k q v es)
            ∙ swap (is_eq (nat_cmp q e.0)) (is_eq (nat_cmp q k)) (Some v) (Some e.1) rest (not_both q k e.0 h)
      ]) refl

  -- the same of keys in any order
  module _ {K : Type 0} {cmp : K → K → Ordering} (total : IsTotalOrder cmp) where
    pub lookup-insert_key : (k q : K) (v : V) (es : List (K × V)) → lookup (is_at (cmp q)) (insert_entry cmp es k v) ≡ cond (is_at (cmp k) q) (Some v) (lookup (is_at (cmp q)) es)
    lookup-insert_key k q v [] = ap (λ b. cond b (Some v) None) ((eq_by_cmp_equiv total).symm q k)
    lookup-insert_key k q v (e ∷ es) =
        let rest = lookup (is_at (cmp q)) es in
        (elim (cmp k e.0) as (λ o. cmp k e.0 ≡ o → lookup (is_at (cmp q)) (match_ordering o ((k, v) ∷ e ∷ es) ((e.0, v) ∷ es) (e ∷ insert_entry cmp es k v)) ≡ cond (is_at (cmp k) q) (Some v) (lookup (is_at (cmp q)) (e ∷ es))) [
          | Less ↦ λ h. ap (λ b. cond b (Some v) (lookup (is_at (cmp q)) (e ∷ es))) ((eq_by_cmp_equiv total).symm q k)
          | Equal ↦ λ h. over (is_eq (cmp q e.0)) (is_eq (cmp k q)) (Some v) (Some e.1) rest (same_before total q k e.0 h)
          | Greater ↦ λ h.
              ap (λ r. cond (is_eq (cmp q e.0)) (Some e.1) r) (lookup-insert_key k q v es)
              ∙ swap (is_eq (cmp q e.0)) (is_eq (cmp k q)) (Some v) (Some e.1) rest (one_at_most total q k e.0 h)
        ]) refl

  -- the first entry of the key
  pub lookup-set : (k q : ℕ) (v w : V) (es : List (ℕ × V)) → lookup (is_at (nat_cmp k)) es ≡ Some w → lookup (is_at (nat_cmp q)) (set_value (is_at (nat_cmp k)) es v) ≡ cond (is_at (nat_cmp q) k) (Some v) (lookup (is_at (nat_cmp q)) es)
  lookup-set k q v w [] h = cc
  lookup-set k q v w (e ∷ es) h =
      let rest = lookup (is_at (nat_cmp q)) es in
      (elim (is_eq (nat_cmp k e.0)) as (λ b. is_eq (nat_cmp k e.0) ≡ b → cond b (Some e.1) (lookup (is_at (nat_cmp k)) es) ≡ Some w
      → lookup (is_at (nat_cmp q)) (cond b ((e.0, v) ∷ es) (e ∷ set_value (is_at (nat_cmp k)) es v)) ≡ cond (is_at (nat_cmp q) k) (Some v) (lookup (is_at (nat_cmp q)) (e ∷ es))) [
        | true ↦ λ s f. over (is_eq (nat_cmp q e.0)) (is_eq (nat_cmp q k)) (Some v) (Some e.1) rest (same_key q k e.0 s)
        | false ↦ λ s f.
            ap (λ r. cond (is_eq (nat_cmp q e.0)) (Some e.1) r) (lookup-set k q v w es f)
            ∙ swap (is_eq (nat_cmp q e.0)) (is_eq (nat_cmp q k)) (Some v) (Some e.1) rest (other_key q k e.0 s)
      ]) refl h

module _ {T : Type 0} where
  in_cond : (b : Bool) (l : List T) (o : Option (List T)) → items_in (cond b (Some l) o) ≡ cond b l (items_in o)
  in_cond true l o = refl
  in_cond false l o = refl

  at_key : (q k : ℕ) (m : List (ℕ × List T)) → is_at (nat_cmp q) k ≡ true → waiting m q ≡ waiting m k
  at_key q k m h = ap (waiting m) (let e : q ≡ k = grind (arith, nat_tests) in e)

  -- the queue of the key, with its new items
  changed : (q k : ℕ) (m : List (ℕ × List T)) (f : List T → List T) → cond (is_at (nat_cmp q) k) (f (waiting m k)) (waiting m q) ≡ cond (is_at (nat_cmp q) k) (f (waiting m q)) (waiting m q)
  changed q k m f =
      (elim (is_at (nat_cmp q) k) as (λ b. is_at (nat_cmp q) k ≡ b → cond b (f (waiting m k)) (waiting m q) ≡ cond b (f (waiting m q)) (waiting m q)) [
        | true ↦ λ h. ap f (sym (at_key q k m h))
        | false ↦ λ h. refl
      ]) refl

  push_by : (k q : ℕ) (x : T) (m : List (ℕ × List T)) (o : Option (List T)) → lookup (is_at (nat_cmp k)) m ≡ o → waiting (pushed_on o m k x) q ≡ cond (is_at (nat_cmp q) k) (items_in o ++ x ∷ []) (waiting m q)
  push_by k q x m None h = ap items_in (lookup-insert_entry k q (x ∷ []) m) ∙ in_cond (is_at (nat_cmp q) k) (x ∷ []) (lookup (is_at (nat_cmp q)) m)
  push_by k q x m (Some l) h = ap items_in (lookup-set k q (l ++ x ∷ []) l m h) ∙ in_cond (is_at (nat_cmp q) k) (l ++ x ∷ []) (lookup (is_at (nat_cmp q)) m)

  pub waiting-pushed_at : (k q : ℕ) (x : T) (m : List (ℕ × List T)) → waiting (pushed_at m k x) q ≡ cond (is_at (nat_cmp q) k) (waiting m q ++ x ∷ []) (waiting m q)
  waiting-pushed_at k q x m = push_by k q x m (lookup (is_at (nat_cmp k)) m) refl ∙ changed q k m (λ l. l ++ x ∷ [])

  same_cond : (b : Bool) (l r : List T) → (b ≡ true → l ≡ r) → l ≡ cond b r l
  same_cond true l r h = h refl
  same_cond false l r h = refl

  pop_by : (k q : ℕ) (m : List (ℕ × List T)) (o : Option (List T)) → lookup (is_at (nat_cmp k)) m ≡ o → waiting (popped_on o m k) q ≡ cond (is_at (nat_cmp q) k) (drop 1 (items_in o)) (waiting m q)
  pop_by k q m None h = same_cond (is_at (nat_cmp q) k) (waiting m q) [] (λ b. at_key q k m b ∙ ap items_in h)
  pop_by k q m (Some l) h = ap items_in (lookup-set k q (drop 1 l) l m h) ∙ in_cond (is_at (nat_cmp q) k) (drop 1 l) (lookup (is_at (nat_cmp q)) m)

  pub waiting-popped_at : (k q : ℕ) (m : List (ℕ × List T)) → waiting (popped_at m k) q ≡ cond (is_at (nat_cmp q) k) (drop 1 (waiting m q)) (waiting m q)
  waiting-popped_at k q m = pop_by k q m (lookup (is_at (nat_cmp k)) m) refl ∙ changed q k m (drop 1)

  clear_by : (k q : ℕ) (m : List (ℕ × List T)) (o : Option (List T)) → lookup (is_at (nat_cmp k)) m ≡ o → waiting (cleared_on o m k) q ≡ cond (is_at (nat_cmp q) k) [] (waiting m q)
  clear_by k q m None h = same_cond (is_at (nat_cmp q) k) (waiting m q) [] (λ b. at_key q k m b ∙ ap items_in h)
  clear_by k q m (Some l) h = ap items_in (lookup-set k q [] l m h) ∙ in_cond (is_at (nat_cmp q) k) [] (lookup (is_at (nat_cmp q)) m)

  pub waiting-cleared_at : (k q : ℕ) (m : List (ℕ × List T)) → waiting (cleared_at m k) q ≡ cond (is_at (nat_cmp q) k) [] (waiting m q)
  waiting-cleared_at k q m = clear_by k q m (lookup (is_at (nat_cmp k)) m) refl

-- ---- a value that is taken out, and put back

pub same_name : (k name : ℕ) → is_at (nat_cmp k) name ≡ (k == name)
same_name k name = grind (arith, nat_tests)

module _ {V : Type 0} where
  pub at-inserted : (name k : ℕ) (v : V) (m : List (ℕ × V)) → at (insert_entry nat_cmp m name v) k ≡ cond (k == name) (Some v) (at m k)
  at-inserted name k v m = lookup-insert_entry name k v m ∙ ap (λ b. cond b (Some v) (at m k)) (same_name k name)

  pub AreBut-inserted : (name : ℕ) (v : V) (old mid new : List (ℕ × V)) → AreBut name None old mid → new ≡ insert_entry nat_cmp mid name v → AreBut name (Some v) old new
  AreBut-inserted name v old mid new out is k =
      ap (λ (m : List (ℕ × V)). at m k) is ∙ (at-inserted name k v mid ∙ (ap (λ o. cond (k == name) (Some v) o) (out k) ∙ twice (k == name)))
    where
      twice : (b : Bool) → cond b (Some v) (cond b None (at old k)) ≡ cond b (Some v) (at old k)
      twice true = refl
      twice false = refl

  pub AreBut-kept : (ended : Bool) (name : ℕ) (v : V) (old mid new : List (ℕ × V)) → AreBut name None old mid → new ≡ kept_with ended name v mid → AreBut name (cond ended None (Some v)) old new
  AreBut-kept true name v old mid new out is = λ k. ap (λ (m : List (ℕ × V)). at m k) is ∙ out k
  AreBut-kept false name v old mid new out is = AreBut-inserted name v old mid new out is
