-- Blocks leave in the order of their ends.
use Rattle.std.proofs.Common.{◌≡◌, ℕ, ◌<◌, ◌≤◌, Bool, true, false, cond, not, List, [], ◌∷◌, length, Option, Some, None, refl, sym, ap, ◌∙◌, subst, arith}
use Rattle.std.proofs.lemmas.Bool.{false≢true, lt-ltb, ltb-true}
use Rattle.std.proofs.lemmas.Cmp.{eq_by_cmp_equiv}
use Rattle.std.specs.Prelude.{is_some, nat_lt}
use Rattle.std.specs.Option.{IfSome}
use Rattle.std.specs.Cmp.{IsTotalOrder}
use Rattle.std.specs.List.{AllByRecursion}
use Rattle.std.specs.List.Sorted.{IsStrictlySortedBy}
use Rattle.std.specs.Map.{keys_of, lookup, remove_entry}
use Rattle.std.specs.BTreeMap.{is_at, insert_entry}
use Rattle.std.specs.Ordering.{is_eq, ordering_reverse, match_ordering}
use Rattle.std.specs.declared.cmp.Ordering.{Ordering}
use Rattle.std.specs.declared.cmp.Ordering.TheVariants.{Less, Equal, Greater}
use Rattle.p2p_base.specs.Moments.{sooner, soonest, without}
use Rattle.p2p_base.proofs.MomentLeast.{soonest-least}
use Rattle.p2p_tracker_calls.specs.Blocks.{unless_ended, is_over}
use Rattle.p2p_tracker_directory.specs.Stands.{ends_by}
use Rattle.p2p_tracker_directory.proofs.Written.{lookup_same}

module _ {P : Type 0} where
  all_inserted : (cmp : P → P → Ordering) (Q : P → Type 0) (es : List (P × ℕ)) (k : P) (v : ℕ) → Q k → AllByRecursion Q (keys_of es) → AllByRecursion Q (keys_of (insert_entry cmp es k v))
  all_inserted cmp Q [] k v h a = (h, tt)
  all_inserted cmp Q (e ∷ es) k v h a = at (cmp k e.0) (all_inserted cmp Q es k v h a.1)
    where
      at : (r : Ordering) → AllByRecursion Q (keys_of (insert_entry cmp es k v)) → AllByRecursion Q (keys_of (match_ordering r ((k, v) ∷ e ∷ es) ((e.0, v) ∷ es) (e ∷ insert_entry cmp es k v)))
      at Less i = (h, a)
      at Equal i = a
      at Greater i = (a.0, i)

  all_removed : (test : P → Bool) (Q : P → Type 0) (es : List (P × ℕ)) → AllByRecursion Q (keys_of es) → AllByRecursion Q (keys_of (remove_entry test es))
  all_removed test Q [] a = tt
  all_removed test Q (e ∷ es) a = at (test e.0) (all_removed test Q es a.1)
    where
      at : (b : Bool) → AllByRecursion Q (keys_of (remove_entry test es)) → AllByRecursion Q (keys_of (cond b es (e ∷ remove_entry test es)))
      at true i = a.1
      at false i = (a.0, i)

  all_above : {cmp : P → P → Ordering} (o : IsTotalOrder cmp) (k p : P) (ks : List P) → cmp k p ≡ Less → AllByRecursion (λ y. cmp p y ≡ Less) ks → AllByRecursion (λ y. cmp k y ≡ Less) ks
  all_above o k p [] h a = tt
  all_above o k p (q ∷ ks) h a = (o.trans k p q h a.0, all_above o k p ks h a.1)

  soonest_among : (Q : P → Type 0) (es : List (P × ℕ)) (w : P × ℕ) → AllByRecursion Q (keys_of es) → soonest es ≡ Some w → Q w.0
  soonest_among Q [] w a h = absurd (false≢true (ap is_some h))
  soonest_among Q (f ∷ es) w a h = at (soonest es) refl h (λ g. soonest_among Q es g a.1)
    where
      by : (b : Bool) (g : P × ℕ) → Some (cond b g f) ≡ Some w → Q g.0 → Q w.0
      by true g m i = let same : g ≡ w = cc in subst (λ (v : P × ℕ). Q v.0) same i
      by false g m i = let same : f ≡ w = cc in subst (λ (v : P × ℕ). Q v.0) same a.0

      at : (r : Option (P × ℕ)) → soonest es ≡ r → Some (sooner f r) ≡ Some w → ((g : P × ℕ) → soonest es ≡ Some g → Q g.0) → Q w.0
      at None e k i = let same : f ≡ w = cc in subst (λ (v : P × ℕ). Q v.0) same a.0
      at (Some g) e k i = by (nat_lt g.1 f.1) g k (i g e)

  shorter : (test : P → Bool) (es : List (P × ℕ)) → is_some (lookup test es) ≡ true → length (remove_entry test es) < length es
  shorter test [] h = absurd (false≢true h)
  shorter test (e ∷ es) h = at (test e.0) h (shorter test es)
    where
      at : (b : Bool) → is_some (cond b (Some e.1) (lookup test es)) ≡ true → (is_some (lookup test es) ≡ true → length (remove_entry test es) < length es) → length (cond b es (e ∷ remove_entry test es)) < length (e ∷ es)
      at true k i = omega arith
      at false k i = let less = i k in omega (arith, less)

module _ {P : Type 0} {cmp : P → P → Ordering} (o : IsTotalOrder cmp) where
  pub sorted-inserted : (es : List (P × ℕ)) (k : P) (v : ℕ) → IsStrictlySortedBy cmp (keys_of es) → IsStrictlySortedBy cmp (keys_of (insert_entry cmp es k v))
  unfolding IsStrictlySortedBy
  sorted-inserted [] k v s = (tt, tt)
  sorted-inserted (e ∷ es) k v s = at (cmp k e.0) refl (sorted-inserted es k v s.1)
    where
      at : (r : Ordering) → cmp k e.0 ≡ r → IsStrictlySortedBy cmp (keys_of (insert_entry cmp es k v)) → IsStrictlySortedBy cmp (keys_of (match_ordering r ((k, v) ∷ e ∷ es) ((e.0, v) ∷ es) (e ∷ insert_entry cmp es k v)))
      at Less h i = ((h, all_above o k e.0 (keys_of es) h s.0), s)
      at Equal h i = s
      at Greater h i = (all_inserted cmp (λ y. cmp e.0 y ≡ Less) es k v (o.antisymm e.0 k ∙ ap ordering_reverse h) s.0, i)

  pub sorted-removed : (test : P → Bool) (es : List (P × ℕ)) → IsStrictlySortedBy cmp (keys_of es) → IsStrictlySortedBy cmp (keys_of (remove_entry test es))
  unfolding IsStrictlySortedBy
  sorted-removed test [] s = tt
  sorted-removed test (e ∷ es) s = at (test e.0) (sorted-removed test es s.1)
    where
      at : (b : Bool) → IsStrictlySortedBy cmp (keys_of (remove_entry test es)) → IsStrictlySortedBy cmp (keys_of (cond b es (e ∷ remove_entry test es)))
      at true i = s.1
      at false i = (all_removed test (λ y. cmp e.0 y ≡ Less) es s.0, i)

  pub sorted-without : (r : Option (P × ℕ)) (es : List (P × ℕ)) → IsStrictlySortedBy cmp (keys_of es) → IsStrictlySortedBy cmp (keys_of (without cmp r es))
  sorted-without None es s = s
  sorted-without (Some e) es s = sorted-removed (is_at (cmp e.0)) es s

  is_own : (p : P) → is_at (cmp p) p ≡ true
  is_own p = (eq_by_cmp_equiv o).refl p

  -- the soonest end is that of its key
  pub soonest-own : (es : List (P × ℕ)) (w : P × ℕ) → IsStrictlySortedBy cmp (keys_of es) → soonest es ≡ Some w → lookup (is_at (cmp w.0)) es ≡ Some w.1
  unfolding IsStrictlySortedBy
  soonest-own [] w s h = absurd (false≢true (ap is_some h))
  soonest-own (f ∷ es) w s h = at (soonest es) refl h (soonest-own es w s.1)
    where
      here : f ≡ w → cond (is_at (cmp w.0) f.0) (Some f.1) (lookup (is_at (cmp w.0)) es) ≡ Some w.1
      here same = subst (λ (v : P × ℕ). cond (is_at (cmp v.0) f.0) (Some f.1) (lookup (is_at (cmp v.0)) es) ≡ Some v.1) same
          (ap (λ b. cond b (Some f.1) (lookup (is_at (cmp f.0)) es)) (is_own f.0))

      by : (b : Bool) (g : P × ℕ) → soonest es ≡ Some g → Some (cond b g f) ≡ Some w → (soonest es ≡ Some w → lookup (is_at (cmp w.0)) es ≡ Some w.1)
          → cond (is_at (cmp w.0) f.0) (Some f.1) (lookup (is_at (cmp w.0)) es) ≡ Some w.1
      by true g e m i =
          let same : g ≡ w = cc in
          let later = subst (λ (v : P × ℕ). cmp f.0 v.0 ≡ Less) same (soonest_among (λ y. cmp f.0 y ≡ Less) es g s.0 e) in
          ap (λ r. cond (is_eq r) (Some f.1) (lookup (is_at (cmp w.0)) es)) (o.antisymm w.0 f.0 ∙ ap ordering_reverse later) ∙ i (e ∙ ap Some same)
      by false g e m i = here cc

      at : (r : Option (P × ℕ)) → soonest es ≡ r → Some (sooner f r) ≡ Some w → (soonest es ≡ Some w → lookup (is_at (cmp w.0)) es ≡ Some w.1)
          → cond (is_at (cmp w.0) f.0) (Some f.1) (lookup (is_at (cmp w.0)) es) ≡ Some w.1
      at None e k i = here cc
      at (Some g) e k i = by (nat_lt g.1 f.1) g e k i

  some_own : (es : List (P × ℕ)) (w : P × ℕ) → soonest es ≡ Some w → is_some (lookup (is_at (cmp w.0)) es) ≡ true
  some_own [] w h = absurd (false≢true (ap is_some h))
  some_own (f ∷ es) w h = at (soonest es) refl h (some_own es w)
    where
      first : (b : Bool) → (b ≡ false → is_some (lookup (is_at (cmp w.0)) es) ≡ true) → is_some (cond b (Some f.1) (lookup (is_at (cmp w.0)) es)) ≡ true
      first true k = refl
      first false k = k refl

      here : f ≡ w → is_some (cond (is_at (cmp w.0) f.0) (Some f.1) (lookup (is_at (cmp w.0)) es)) ≡ true
      here same = subst (λ (v : P × ℕ). is_some (cond (is_at (cmp v.0) f.0) (Some f.1) (lookup (is_at (cmp v.0)) es)) ≡ true) same
          (ap (λ b. is_some (cond b (Some f.1) (lookup (is_at (cmp f.0)) es))) (is_own f.0))

      by : (b : Bool) (g : P × ℕ) → soonest es ≡ Some g → Some (cond b g f) ≡ Some w → (soonest es ≡ Some w → is_some (lookup (is_at (cmp w.0)) es) ≡ true)
          → is_some (cond (is_at (cmp w.0) f.0) (Some f.1) (lookup (is_at (cmp w.0)) es)) ≡ true
      by true g e m i = let same : g ≡ w = cc in first (is_at (cmp w.0) f.0) (λ n. i (e ∙ ap Some same))
      by false g e m i = here cc

      at : (r : Option (P × ℕ)) → soonest es ≡ r → Some (sooner f r) ≡ Some w → (soonest es ≡ Some w → is_some (lookup (is_at (cmp w.0)) es) ≡ true)
          → is_some (cond (is_at (cmp w.0) f.0) (Some f.1) (lookup (is_at (cmp w.0)) es)) ≡ true
      at None e k i = here cc
      at (Some g) e k i = by (nat_lt g.1 f.1) g e k i

  -- each key that leaves makes the rest shorter
  pub length-without : (es : List (P × ℕ)) (w : P × ℕ) → soonest es ≡ Some w → length (without cmp (soonest es) es) < length es
  length-without es w h = subst (λ r. length (without cmp r es) < length es) (sym h) (shorter (is_at (cmp w.0)) es (some_own es w h))

  -- a block that has ended leaves
  pub unless_ended-left : (es new : List (P × ℕ)) (w : P × ℕ) (q : P) (t : ℕ) → IsStrictlySortedBy cmp (keys_of es) → soonest es ≡ Some w → nat_lt t w.1 ≡ false
      → lookup (is_at (cmp q)) new ≡ cond (is_at (cmp w.0) q) None (lookup (is_at (cmp q)) es) → unless_ended (lookup (is_at (cmp q)) new) t ≡ unless_ended (lookup (is_at (cmp q)) es) t
  unless_ended-left es new w q t s h d e = ap (λ r. unless_ended r t) e ∙ at (is_at (cmp w.0) q) refl
    where
      same_key : is_at (cmp w.0) q ≡ true → lookup (is_at (cmp q)) es ≡ lookup (is_at (cmp w.0)) es
      same_key k = sym (lookup_same o w.0 q es k)

      at : (b : Bool) → is_at (cmp w.0) q ≡ b → unless_ended (cond b None (lookup (is_at (cmp q)) es)) t ≡ unless_ended (lookup (is_at (cmp q)) es) t
      at false k = refl
      at true k =
          sym (ap (λ r. unless_ended r t) (same_key k ∙ soonest-own es w s h) ∙ ap (λ b. cond b (Some w.1) None) d)

over_after : (r : Option ℕ) (t u : ℕ) → t < u → IfSome r (λ v. u ≤ v) → is_over r t ≡ false
over_after None t u l h = refl
over_after (Some v) t u l h = ap not (lt-ltb t v (omega (arith, l, h)))

pub unless_over : (r : Option ℕ) (t : ℕ) → is_over r t ≡ false → r ≡ unless_ended r t
unless_over None t e = refl
unless_over (Some v) t e = at (nat_lt t v) refl e
  where
    at : (b : Bool) → nat_lt t v ≡ b → not b ≡ false → Some v ≡ unless_ended (Some v) t
    at true f g = sym (ap (λ b. cond b (Some v) None) f)
    at false f g = absurd (false≢true (sym g))

nothing_else : {P : Type 0} (test : P → Bool) (es : List (P × ℕ)) → soonest es ≡ None → lookup test es ≡ None
nothing_else test [] h = refl
nothing_else test (e ∷ es) h = absurd (false≢true (sym (ap is_some h)))

-- where the soonest end is to come, so are all
pub none_over : {P : Type 0} (test : P → Bool) (es : List (P × ℕ)) (t : ℕ) → ends_by (soonest es) t ≡ false → is_over (lookup test es) t ≡ false
none_over {P} test es t e = at (soonest es) refl e
  where
    by : (w : P × ℕ) (b : Bool) → nat_lt t w.1 ≡ b → not b ≡ false → IfSome (lookup test es) (λ v. w.1 ≤ v) → is_over (lookup test es) t ≡ false
    by w true f g h = over_after (lookup test es) t w.1 (ltb-true t w.1 f) h
    by w false f g h = absurd (false≢true (sym g))

    at : (r : Option (P × ℕ)) → soonest es ≡ r → ends_by r t ≡ false → is_over (lookup test es) t ≡ false
    at None f g = ap (λ r. is_over r t) (nothing_else test es f)
    at (Some w) f g = by w (nat_lt t w.1) refl g (soonest-least test es (Some w) (sym f))

-- where it isn't, its key's block has ended
pub some_over : {P : Type 0} {cmp : P → P → Ordering} (o : IsTotalOrder cmp) (es : List (P × ℕ)) (t : ℕ) → IsStrictlySortedBy cmp (keys_of es) → ends_by (soonest es) t ≡ true
    → (q : P) × (is_over (lookup (is_at (cmp q)) es) t ≡ true)
some_over {P} {cmp} o es t s e = at (soonest es) refl e
  where
    at : (r : Option (P × ℕ)) → soonest es ≡ r → ends_by r t ≡ true → (q : P) × (is_over (lookup (is_at (cmp q)) es) t ≡ true)
    at None f g = absurd (false≢true g)
    at (Some w) f g = (w.0, ap (λ r. is_over r t) (soonest-own o es w s f) ∙ g)

-- what is so where the soonest end has come
ended_soonest : {P : Type 0} (r : Option (P × ℕ)) (t : ℕ) → ends_by r t ≡ true → (w : P × ℕ) × (r ≡ Some w) × (nat_lt t w.1 ≡ false)
ended_soonest None t e = absurd (false≢true e)
ended_soonest (Some w) t e = (w, refl, at (nat_lt t w.1) e)
  where
    at : (b : Bool) → not b ≡ true → b ≡ false
    at true h = sym h
    at false h = refl

module _ {P : Type 0} {cmp : P → P → Ordering} (o : IsTotalOrder cmp) (es new : List (P × ℕ)) (t : ℕ) (e : ends_by (soonest es) t ≡ true) where
  pub length-popped : new ≡ without cmp (soonest es) es → length new < length es
  length-popped h = let w = ended_soonest (soonest es) t e in subst (λ xs. length xs < length es) (sym h) (length-without o es w.0 w.1)

  pub sorted-popped : new ≡ without cmp (soonest es) es → IsStrictlySortedBy cmp (keys_of es) → IsStrictlySortedBy cmp (keys_of new)
  sorted-popped h s = subst (λ xs. IsStrictlySortedBy cmp (keys_of xs)) (sym h) (sorted-without o (soonest es) es s)

  pub unless_ended-popped : (r : Option (P × ℕ)) → r ≡ soonest es → IfSome r (λ w. (q : P) → lookup (is_at (cmp q)) new ≡ cond (is_at (cmp w.0) q) None (lookup (is_at (cmp q)) es))
      → IsStrictlySortedBy cmp (keys_of es) → (q : P) → unless_ended (lookup (is_at (cmp q)) new) t ≡ unless_ended (lookup (is_at (cmp q)) es) t
  unless_ended-popped None r h s q = absurd (false≢true (ap (λ x. ends_by x t) r ∙ e))
  unless_ended-popped (Some w) r h s q = unless_ended-left o es new w q t s (sym r) (at (nat_lt t w.1) (ap (λ x. ends_by x t) r ∙ e)) (h q)
    where
      at : (b : Bool) → not b ≡ true → b ≡ false
      at true i = sym i
      at false i = refl
