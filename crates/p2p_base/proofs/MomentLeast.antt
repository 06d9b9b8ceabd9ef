-- The entry of the least moment is the one that the queue has first.
use Rattle.std.proofs.Common.{◌≡◌, ℕ, suc, ◌<◌, ◌≤◌, Bool, true, false, cond, ltb, List, [], ◌∷◌, Option, Some, None, ◌==◌, length, refl, sym, ap, ◌∙◌, subst, arith, eq-eqb}
use Rattle.std.specs.Bool.{IsTrue}
use Rattle.std.specs.Cmp.{IsTotalOrder}
use Rattle.std.specs.List.{AllByRecursion, slice_get}
use Rattle.std.specs.List.Sorted.{IsStrictlySortedBy}
use Rattle.std.specs.Option.{option_map, IfSome}
use Rattle.std.specs.Ordering.{is_eq, is_gt, nat_cmp, ordering_then, ordering_reverse, MatchOrdering}
use Rattle.std.specs.Map.{keys_of, lookup, lookup_key, lookup_entry, remove_entry}
use Rattle.std.specs.BTreeMap as tree
use Rattle.std.specs.BTreeMap.{BTreeMap, is_at}
use Rattle.std.specs.BTreeSet as bag
use Rattle.std.specs.BTreeSet.{BTreeSet}
use Rattle.std.specs.declared.cmp.Ordering.{Ordering}
use Rattle.std.specs.declared.cmp.Ordering.TheVariants.{Less, Equal, Greater}
use Rattle.std.proofs.lemmas.Cmp.{alike_right, ranked}
use Rattle.std.proofs.lemmas.Bool.{false≢true, lt-ltb, le-ltb, ltb-true, ltb-false}
use Rattle.std.proofs.lemmas.Map.Entries.{btree_map_get_place}
use Rattle.p2p_base.specs.Moments.{by_moment, is_moment, Mirrors, sooner, soonest, without}
use Rattle.p2p_base.proofs.MomentSteps.{has_moment}

module _ {K X : Type 0} where
  pub key_of_entry : (p : K → Bool) (es : List (K × X)) → lookup_key p es ≡ option_map (λ e. e.0) (lookup_entry p es)
  key_of_entry p [] = refl
  key_of_entry p (e ∷ es) =
      elim (p e.0) as (λ b. cond b (Some e.0) (lookup_key p es) ≡ option_map (λ e. e.0) (cond b (Some e) (lookup_entry p es))) [ true ↦ refl | false ↦ key_of_entry p es ]

  pub value_of_entry : (p : K → Bool) (es : List (K × X)) → lookup p es ≡ option_map (λ e. e.1) (lookup_entry p es)
  value_of_entry p [] = refl
  value_of_entry p (e ∷ es) =
      elim (p e.0) as (λ b. cond b (Some e.1) (lookup p es) ≡ option_map (λ e. e.1) (cond b (Some e) (lookup_entry p es))) [ true ↦ refl | false ↦ value_of_entry p es ]

  both_parts : (r s : Option (K × X)) → option_map (λ e. e.0) r ≡ option_map (λ e. e.0) s → option_map (λ e. e.1) r ≡ option_map (λ e. e.1) s → r ≡ s
  both_parts None None h k = refl
  both_parts None (Some f) h k = cc
  both_parts (Some e) None h k = cc
  both_parts (Some e) (Some f) h k = let first : e.0 ≡ f.0 = cc in let second : e.1 ≡ f.1 = cc in ap Some (λ i. (first i, second i))

  -- a key and a value that were looked up are an entry
  pub entry_from_parts : (p : K → Bool) (es : List (K × X)) (r : Option (K × X)) → option_map (λ e. e.0) r ≡ lookup_key p es → option_map (λ e. e.1) r ≡ lookup p es
      → r ≡ lookup_entry p es
  entry_from_parts p es r h k = both_parts r (lookup_entry p es) (h ∙ key_of_entry p es) (k ∙ value_of_entry p es)

  entry_passes : (p : K → Bool) (es : List (K × X)) (g : K × X) → lookup_entry p es ≡ Some g → p g.0 ≡ true
  entry_passes p [] g h = cc
  entry_passes p (e ∷ es) g h =
      elim (p e.0) as (λ b. p e.0 ≡ b → cond b (Some e) (lookup_entry p es) ≡ Some g → p g.0 ≡ true) [
        | true ↦ λ t k. let same : e ≡ g = cc in ap (λ w. p w.0) (sym same) ∙ t
        | false ↦ λ t k. entry_passes p es g k
      ] refl h

  entry_has : (p : K → Bool) (P : K → Type 0) (es : List (K × X)) (g : K × X) → AllByRecursion P (keys_of es) → lookup_entry p es ≡ Some g → P g.0
  entry_has p P [] g a h = cc
  entry_has p P (e ∷ es) g a h =
      elim (p e.0) as (λ b. cond b (Some e) (lookup_entry p es) ≡ Some g → P g.0) [
        | true ↦ λ k. let same : e ≡ g = cc in subst (λ (w : K × X). P w.0) same a.0
        | false ↦ λ k. entry_has p P es g a.1 k
      ] h

  remove_same : (p q : K → Bool) (es : List (K × X)) → ((k : K) → p k ≡ q k) → remove_entry p es ≡ remove_entry q es
  remove_same p q [] h = refl
  remove_same p q (e ∷ es) h = rw (h e.0, remove_same p q es h)

  remove_none : (p : K → Bool) (es : List (K × X)) → lookup_entry p es ≡ None → remove_entry p es ≡ es
  remove_none p [] h = refl
  remove_none p (e ∷ es) h =
      elim (p e.0) as (λ b. cond b (Some e) (lookup_entry p es) ≡ None → cond b es (e ∷ remove_entry p es) ≡ e ∷ es) [
        | true ↦ λ k. cc
        | false ↦ λ k. ap (λ z. e ∷ z) (remove_none p es k)
      ] h

Equal_from : (r : Ordering) → is_eq r ≡ true → r ≡ Equal
Equal_from Less e = cc
Equal_from Equal e = refl
Equal_from Greater e = cc

own_moment : (t : ℕ) → (t == t) ≡ true
own_moment t = eq-eqb t t refl

below_from : (t u : ℕ) (r s : Ordering) → MatchOrdering r (t < u) (t ≡ u) (u < t) → is_gt (ordering_then r s) ≡ false → t ≤ u
below_from t u Less s h e = omega arith
below_from t u Equal s h e = omega arith
below_from t u Greater s h e = absurd (false≢true (sym e))

strictly_below : (t u : ℕ) (r : Ordering) → MatchOrdering r (t < u) (t ≡ u) (u < t) → is_gt (ordering_then r Greater) ≡ false → t < u
strictly_below t u Less h e = h
strictly_below t u Equal h e = absurd (false≢true (sym e))
strictly_below t u Greater h e = absurd (false≢true (sym e))

module _ {K : Type 0} where
  stays : (e : K × ℕ) (r : Option (K × ℕ)) → ((g : K × ℕ) → r ≡ Some g → e.1 ≤ g.1) → sooner e r ≡ e
  stays e None h = refl
  stays e (Some g) h = rw (le-ltb g.1 e.1 (h g refl))

  least_bound : (t : ℕ) (es : List (K × ℕ)) (g : K × ℕ) → ((i : ℕ) (f : K × ℕ) → slice_get es i ≡ Some f → t ≤ f.1) → soonest es ≡ Some g → t ≤ g.1
  least_bound t [] g h e = cc
  least_bound t (f ∷ es) g h e =
      elim (soonest es) as (λ r. soonest es ≡ r → Some (sooner f r) ≡ Some g → t ≤ g.1) [
        | None ↦ λ u k. let same : f ≡ g = cc in subst (λ (w : K × ℕ). t ≤ w.1) same (h 0 f refl)
        | Some w ↦ λ u k. elim (ltb w.1 f.1) as (λ b. Some (cond b w f) ≡ Some g → t ≤ g.1) [
          | true ↦ λ m. let same : w ≡ g = cc in subst (λ (v : K × ℕ). t ≤ v.1) same (least_bound t es w (λ i v. h (suc i) v) u)
          | false ↦ λ m. let same : f ≡ g = cc in subst (λ (v : K × ℕ). t ≤ v.1) same (h 0 f refl)
        ] k
      ] refl e

  goes_first : (e : K × ℕ) (r : Option (K × ℕ)) (g : K × ℕ) → r ≡ Some g → g.1 < e.1 → Some (sooner e r) ≡ Some g
  goes_first e r g h k = rw (h, lt-ltb g.1 e.1 k)

  module _ {cmp : K → K → Ordering} (o : IsTotalOrder cmp) where
    -- no entry comes before a moment with its key
    abbrev IsBelowAll : ℕ → K → List (K × ℕ) → Type 0
    IsBelowAll t k es = (i : ℕ) (f : K × ℕ) → slice_get es i ≡ Some f → is_gt (by_moment cmp (t, k) (f.1, f.0)) ≡ false

    found : (p : K → Bool) (t : ℕ) (es : List (K × ℕ)) → lookup p es ≡ Some t → (g : K × ℕ) × (lookup_entry p es ≡ Some g) × (g.1 ≡ t)
    found p t es h = at (lookup_entry p es) refl
      where
        at : (r : Option (K × ℕ)) → lookup_entry p es ≡ r → (g : K × ℕ) × (lookup_entry p es ≡ Some g) × (g.1 ≡ t)
        at None e = absurd (let none = value_of_entry p es in cc)
        at (Some g) e = (g, e, (let some = value_of_entry p es in cc))

    later : (k : K) (t : ℕ) (e : K × ℕ) (es : List (K × ℕ)) → IsStrictlySortedBy cmp (keys_of (e ∷ es)) → (g : K × ℕ) → lookup_entry (is_at (cmp k)) es ≡ Some g
        → cmp k e.0 ≡ Greater
    unfolding IsStrictlySortedBy
    later k t e es s g h =
        let above = entry_has (is_at (cmp k)) (λ y. cmp e.0 y ≡ Less) es g s.0 h in
        let tied = Equal_from (cmp k g.0) (entry_passes (is_at (cmp k)) es g h) in
        o.antisymm k e.0 ∙ ap ordering_reverse (alike_right o k g.0 e.0 tied ∙ above)

    -- the entry of the least moment is that of the key that no entry comes before
    pub least_is : (k : K) (t : ℕ) (es : List (K × ℕ)) → IsStrictlySortedBy cmp (keys_of es) → lookup (is_at (cmp k)) es ≡ Some t → IsBelowAll t k es
        → soonest es ≡ lookup_entry (is_at (cmp k)) es
    unfolding IsStrictlySortedBy
    least_is k t [] s h below = cc
    least_is k t (e ∷ es) s h below =
        elim (cmp k e.0) as (λ r. cmp k e.0 ≡ r → cond (is_eq r) (Some e.1) (lookup (is_at (cmp k)) es) ≡ Some t
        → Some (sooner e (soonest es)) ≡ cond (is_eq r) (Some e) (lookup_entry (is_at (cmp k)) es)) [
          | Less ↦ λ c l. let g = found (is_at (cmp k)) t es l in absurd (let more = later k t e es s g.0 g.1 in cc)
          | Equal ↦ λ c l. ap Some (stays e (soonest es) (λ g m. let same : e.1 ≡ t = cc in rw same
              (least_bound t es g (λ i f at. below_from t f.1 (nat_cmp t f.1) (cmp k f.0) (ranked t f.1 (nat_cmp t f.1) refl) (below (suc i) f at)) m)))
          | Greater ↦ λ c l.
              let g = found (is_at (cmp k)) t es l in
              let rest = least_is k t es s.1 l (λ i f at. below (suc i) f at) in
              let first = subst (λ (r : Ordering). is_gt (ordering_then (nat_cmp t e.1) r) ≡ false) c (below 0 e refl) in
              goes_first e (soonest es) g.0 (rest ∙ g.1) (rw g.2 (strictly_below t e.1 (nat_cmp t e.1) (ranked t e.1 (nat_cmp t e.1) refl) first)) ∙ sym g.1
        ] refl h

    module _ (queue : BTreeSet (ℕ × K)) (moments : BTreeMap K ℕ) (mirrors : Mirrors cmp queue moments) where
      -- a moment that the queue has first
      module _ (k : K) (t : ℕ) (has : IsTrue (bag.contains (by_moment cmp) queue (t, k))) (first : bag.IsLowerBound (by_moment cmp) queue (t, k)) where
        pub moment_of_first : tree.get cmp moments k ≡ Some t
        moment_of_first = has_moment (tree.get cmp moments k) t (sym has ∙ mirrors.same k t)

        pub soonest_is_first : soonest moments.entries ≡ lookup_entry (is_at (cmp k)) moments.entries
        soonest_is_first =
            least_is k t moments.entries mirrors.ordered moment_of_first
            (λ i f at. first (f.1, f.0) (mirrors.same f.0 f.1 ∙ ap (λ w. is_moment w f.1) (btree_map_get_place o moments i f.0 f.1 mirrors.ordered at) ∙ own_moment f.1))

        pub without_first : remove_entry (is_at (cmp k)) moments.entries ≡ without cmp (soonest moments.entries) moments.entries
        without_first = at (lookup_entry (is_at (cmp k)) moments.entries) refl ∙ ap (λ r. without cmp r moments.entries) (sym soonest_is_first)
          where
            at : (r : Option (K × ℕ)) → lookup_entry (is_at (cmp k)) moments.entries ≡ r
                → remove_entry (is_at (cmp k)) moments.entries ≡ without cmp (lookup_entry (is_at (cmp k)) moments.entries) moments.entries
            at None e = remove_none (is_at (cmp k)) moments.entries e ∙ ap (λ r. without cmp r moments.entries) (sym e)
            at (Some g) e =
                remove_same (is_at (cmp k)) (is_at (cmp g.0)) moments.entries
                (λ y. ap is_eq (o.congr k g.0 y (Equal_from (cmp k g.0) (entry_passes (is_at (cmp k)) moments.entries g e))))
                ∙ ap (λ r. without cmp r moments.entries) (sym e)

      pub none_queued : queue.keys ≡ [] → moments.entries ≡ []
      none_queued empty = at moments.entries refl
        where
          at : (es : List (K × ℕ)) → moments.entries ≡ es → es ≡ []
          at [] e = refl
          at (f ∷ es) e =
              let own = btree_map_get_place o moments 0 f.0 f.1 mirrors.ordered (ap (λ z. slice_get z 0) e) in
              let has = mirrors.same f.0 f.1 ∙ ap (λ w. is_moment w f.1) own ∙ own_moment f.1 in
              absurd (false≢true (ap (λ ks. Rattle.std.specs.List.list_any (is_at (by_moment cmp (f.1, f.0))) ks) (sym empty) ∙ has))

pub empty_from : {X : Type 0} (xs : List X) → (0 < length xs → false ≡ true) → xs ≡ []
empty_from [] h = refl
empty_from (x ∷ xs) h = absurd (false≢true (h (omega arith)))

module _ {K : Type 0} where
  no_later : (f e : K × ℕ) (r : Option (K × ℕ)) → Some (sooner f r) ≡ Some e → (e.1 ≤ f.1) × ((w : K × ℕ) → r ≡ Some w → e.1 ≤ w.1)
  no_later f e None h = let same : f ≡ e = cc in (subst (λ (v : K × ℕ). v.1 ≤ f.1) same (omega arith), λ w k. cc)
  no_later f e (Some g) h =
      elim (ltb g.1 f.1) as (λ b. ltb g.1 f.1 ≡ b → Some (cond b g f) ≡ Some e → (e.1 ≤ f.1) × ((w : K × ℕ) → Some g ≡ Some w → e.1 ≤ w.1)) [
        | true ↦ λ l k.
            let same : g ≡ e = cc in
            let less = ltb-true g.1 f.1 l in
            (subst (λ (v : K × ℕ). v.1 ≤ f.1) same (omega arith), λ w m. let other : g ≡ w = cc in subst (λ (v : K × ℕ). v.1 ≤ w.1) same (subst (λ (v : K × ℕ). g.1 ≤ v.1) other (omega arith)))
        | false ↦ λ l k.
            let same : f ≡ e = cc in
            let less = ltb-false g.1 f.1 l in
            (subst (λ (v : K × ℕ). v.1 ≤ f.1) same (omega arith), λ w m. let other : g ≡ w = cc in subst (λ (v : K × ℕ). v.1 ≤ w.1) same (subst (λ (v : K × ℕ). f.1 ≤ v.1) other less))
      ] refl h

  nothing_soon : (p : K → Bool) (es : List (K × ℕ)) → soonest es ≡ None → lookup p es ≡ None
  nothing_soon p [] h = refl
  nothing_soon p (f ∷ es) h = cc

  at_most : (p : K → Bool) (es : List (K × ℕ)) (e : K × ℕ) (t : ℕ) → soonest es ≡ Some e → lookup p es ≡ Some t → e.1 ≤ t
  at_most p [] e t h k = cc
  at_most p (f ∷ es) e t h k =
      let least = no_later f e (soonest es) h in
      elim (p f.0) as (λ b. cond b (Some f.1) (lookup p es) ≡ Some t → e.1 ≤ t) [
        | true ↦ λ l. let same : f.1 ≡ t = cc in rw (← same) (least.0)
        | false ↦ λ l.
            elim (soonest es) as (λ r. soonest es ≡ r → e.1 ≤ t) [
              | None ↦ λ m. let none = nothing_soon p es m in cc
              | Some w ↦ λ m. omega (arith, least.1 w m, at_most p es w t m l)
            ] refl
      ] k

  -- no key has a moment before the soonest
  pub soonest-least : (p : K → Bool) (es : List (K × ℕ)) (r : Option (K × ℕ)) → r ≡ soonest es → IfSome r (λ e. IfSome (lookup p es) (λ t. e.1 ≤ t))
  soonest-least p es None h = tt
  soonest-least p es (Some e) h = at (lookup p es) refl
    where
      at : (o : Option ℕ) → lookup p es ≡ o → IfSome o (λ t. e.1 ≤ t)
      at None k = tt
      at (Some t) k = at_most p es e t (sym h) k

  -- the same for each test
  pub least_each : {Q : Type 0} (p : Q → K → Bool) (es : List (K × ℕ)) (r : Option (K × ℕ)) → r ≡ soonest es → IfSome r (λ e. (q : Q) → IfSome (lookup (p q) es) (λ t. e.1 ≤ t))
  least_each p es None h = tt
  least_each p es (Some e) h = λ q. soonest-least (p q) es (Some e) h
