-- What a change to the moments of the keys and the same change to their queue keep.
use Rattle.std.proofs.Common.{◌≡◌, ◌≢◌, ℕ, Bool, true, false, cond, ◌&&◌, ◌==◌, List, [], ◌∷◌, Option, Some, None, refl, sym, ap, ◌∙◌, eqb-true}
use Rattle.std.specs.Cmp.{IsTotalOrder, tied_then, unsigned_tied}
use Rattle.std.specs.Ordering.{is_eq, nat_cmp}
use Rattle.std.specs.Map.{lookup}
use Rattle.std.specs.BTreeMap as tree
use Rattle.std.specs.BTreeMap.{BTreeMap, is_at}
use Rattle.std.specs.BTreeSet as bag
use Rattle.std.specs.BTreeSet.{BTreeSet}
use Rattle.std.specs.declared.cmp.Ordering.{Ordering}
use Rattle.std.specs.declared.cmp.Ordering.TheVariants.{Less, Equal, Greater}
use Rattle.std.proofs.lemmas.Bool.{false≢true}
use Rattle.p2p_base.specs.Moments.{by_moment, is_moment, Mirrors}

aside : (a x y : Bool) → cond (a && false) x y ≡ y
aside true x y = refl
aside false x y = refl

fresh : (a c : Bool) → c ≡ false → cond (a && true) true c ≡ a
fresh true c e = refl
fresh false c e = e

again : (a c : Bool) → c ≡ a → cond (a && true) true c ≡ a
again true c e = refl
again false c e = e

gone : (a c : Bool) → c ≡ a → cond (a && true) false c ≡ false
gone true c e = refl
gone false c e = e

undone : (a c : Bool) → c ≡ false → cond (a && true) false (cond (a && true) true c) ≡ false
undone true c e = refl
undone false c e = e

moved : (u t s : ℕ) (a b c : Bool) → u ≢ t → (u == s) ≡ a → (t == s) ≡ b → c ≡ a → cond (a && true) false (cond (b && true) true c) ≡ b
moved u t s true true c n e f h = absurd (n (eqb-true u s e ∙ sym (eqb-true t s f)))
moved u t s true false c n e f h = refl
moved u t s false true c n e f h = refl
moved u t s false false c n e f h = h

pub has_moment : (o : Option ℕ) (t : ℕ) → true ≡ is_moment o t → o ≡ Some t
has_moment None t e = absurd (false≢true (sym e))
has_moment (Some u) t e = ap Some (eqb-true u t (sym e))

module _ {K : Type 0} {cmp : K → K → Ordering} (o : IsTotalOrder cmp) where
  same_moment : (t s : ℕ) (k q : K) → is_at (by_moment cmp (t, k)) (s, q) ≡ ((t == s) && is_eq (cmp k q))
  same_moment t s k q = sym (tied_then (nat_cmp t s) (cmp k q)) ∙ ap (λ b. b && is_eq (cmp k q)) (unsigned_tied t s)

  lookup_equal : (k q : K) (es : List (K × ℕ)) → cmp k q ≡ Equal → lookup (is_at (cmp k)) es ≡ lookup (is_at (cmp q)) es
  lookup_equal k q [] e = refl
  lookup_equal k q (f ∷ es) e = rw (o.congr k q f.0 e, lookup_equal k q es e)

  changed : (old new : BTreeSet (ℕ × K)) (t : ℕ) (k : K) (b : Bool) → bag.Updates (by_moment cmp) old new (t, k) b → (q : K) (s : ℕ)
      → bag.contains (by_moment cmp) new (s, q) ≡ cond ((t == s) && is_eq (cmp k q)) b (bag.contains (by_moment cmp) old (s, q))
  changed old new t k b h q s = h.0 (s, q) ∙ ap (λ w. cond w b (bag.contains (by_moment cmp) old (s, q))) (same_moment t s k q)

  module _ (queue : BTreeSet (ℕ × K)) (moments : BTreeMap K ℕ) (mirrors : Mirrors cmp queue moments) (k : K) where
    -- at an equal key the queue has the key's own moment
    at_key : (w : Option ℕ) → tree.get cmp moments k ≡ w → (q : K) (s : ℕ) → cmp k q ≡ Equal → bag.contains (by_moment cmp) queue (s, q) ≡ is_moment w s
    at_key w h q s e = mirrors.same q s ∙ ap (λ v. is_moment v s) (sym (lookup_equal k q moments.entries e) ∙ h)

    module _ (queue1 : BTreeSet (ℕ × K)) (moments1 : BTreeMap K ℕ) (ordered : tree.IsOrdered cmp moments1) where
      -- the key had no moment, or had this one
      pub Mirrors-put : (t : ℕ) (w : Option ℕ) → bag.Updates (by_moment cmp) queue queue1 (t, k) true → tree.Updates cmp moments moments1 k (Some t)
          → tree.get cmp moments k ≡ w → ((s : ℕ) (c : Bool) → c ≡ is_moment w s → cond ((t == s) && true) true c ≡ (t == s)) → Mirrors cmp queue1 moments1
      Mirrors-put t w added put had step = record {
        same = λ q s. changed queue queue1 t k true added q s ∙ at q s (cmp k q) refl ∙ sym (ap (λ v. is_moment v s) (put.0 q));
        ordered = ordered;
      }
        where
          at : (q : K) (s : ℕ) (r : Ordering) → cmp k q ≡ r
              → cond ((t == s) && is_eq r) true (bag.contains (by_moment cmp) queue (s, q)) ≡ is_moment (cond (is_eq r) (Some t) (tree.get cmp moments q)) s
          at q s Less e = aside (t == s) true (bag.contains (by_moment cmp) queue (s, q)) ∙ mirrors.same q s
          at q s Equal e = step s (bag.contains (by_moment cmp) queue (s, q)) (at_key w had q s e)
          at q s Greater e = aside (t == s) true (bag.contains (by_moment cmp) queue (s, q)) ∙ mirrors.same q s

      pub Mirrors-fresh : (t : ℕ) → bag.Updates (by_moment cmp) queue queue1 (t, k) true → tree.Updates cmp moments moments1 k (Some t)
          → tree.get cmp moments k ≡ None → Mirrors cmp queue1 moments1
      Mirrors-fresh t added put had = Mirrors-put t None added put had (λ s c e. fresh (t == s) c e)

      pub Mirrors-again : (t : ℕ) → bag.Updates (by_moment cmp) queue queue1 (t, k) true → tree.Updates cmp moments moments1 k (Some t)
          → tree.get cmp moments k ≡ Some t → Mirrors cmp queue1 moments1
      Mirrors-again t added put had = Mirrors-put t (Some t) added put had (λ s c e. again (t == s) c e)

      -- the key had another moment, which then goes from the queue
      pub Mirrors-moved : (queue2 : BTreeSet (ℕ × K)) (u t : ℕ) → bag.Updates (by_moment cmp) queue queue1 (t, k) true → bag.Updates (by_moment cmp) queue1 queue2 (u, k) false
          → tree.Updates cmp moments moments1 k (Some t) → tree.get cmp moments k ≡ Some u → u ≢ t → Mirrors cmp queue2 moments1
      Mirrors-moved queue2 u t added taken put had other = record {
        same = λ q s. changed queue1 queue2 u k false taken q s ∙ ap (λ c. cond ((u == s) && is_eq (cmp k q)) false c) (changed queue queue1 t k true added q s)
            ∙ at q s (cmp k q) refl ∙ sym (ap (λ v. is_moment v s) (put.0 q));
        ordered = ordered;
      }
        where
          at : (q : K) (s : ℕ) (r : Ordering) → cmp k q ≡ r
              → cond ((u == s) && is_eq r) false (cond ((t == s) && is_eq r) true (bag.contains (by_moment cmp) queue (s, q)))
              ≡ is_moment (cond (is_eq r) (Some t) (tree.get cmp moments q)) s
          at q s Less e =
              aside (u == s) false (cond ((t == s) && false) true (bag.contains (by_moment cmp) queue (s, q)))
              ∙ aside (t == s) true (bag.contains (by_moment cmp) queue (s, q)) ∙ mirrors.same q s
          at q s Equal e = moved u t s (u == s) (t == s) (bag.contains (by_moment cmp) queue (s, q)) other refl refl (at_key (Some u) had q s e)
          at q s Greater e =
              aside (u == s) false (cond ((t == s) && false) true (bag.contains (by_moment cmp) queue (s, q)))
              ∙ aside (t == s) true (bag.contains (by_moment cmp) queue (s, q)) ∙ mirrors.same q s

      -- the key got no moment, and what was put into the queue goes from it
      pub Mirrors-undone : (queue2 : BTreeSet (ℕ × K)) (t : ℕ) → bag.Updates (by_moment cmp) queue queue1 (t, k) true → bag.Updates (by_moment cmp) queue1 queue2 (t, k) false
          → tree.IsUnchanged moments moments1 → tree.get cmp moments k ≡ None → Mirrors cmp queue2 moments1
      Mirrors-undone queue2 t added taken stays had = record {
        same = λ q s. changed queue1 queue2 t k false taken q s ∙ ap (λ c. cond ((t == s) && is_eq (cmp k q)) false c) (changed queue queue1 t k true added q s)
            ∙ at q s (cmp k q) refl ∙ sym (ap (λ es. is_moment (lookup (is_at (cmp q)) es) s) stays);
        ordered = ordered;
      }
        where
          at : (q : K) (s : ℕ) (r : Ordering) → cmp k q ≡ r
              → cond ((t == s) && is_eq r) false (cond ((t == s) && is_eq r) true (bag.contains (by_moment cmp) queue (s, q))) ≡ is_moment (tree.get cmp moments q) s
          at q s Less e =
              aside (t == s) false (cond ((t == s) && false) true (bag.contains (by_moment cmp) queue (s, q)))
              ∙ aside (t == s) true (bag.contains (by_moment cmp) queue (s, q)) ∙ mirrors.same q s
          at q s Equal e =
              undone (t == s) (bag.contains (by_moment cmp) queue (s, q)) (at_key None had q s e)
              ∙ ap (λ v. is_moment v s) (sym had ∙ lookup_equal k q moments.entries e)
          at q s Greater e =
              aside (t == s) false (cond ((t == s) && false) true (bag.contains (by_moment cmp) queue (s, q)))
              ∙ aside (t == s) true (bag.contains (by_moment cmp) queue (s, q)) ∙ mirrors.same q s

      -- the key and its moment go
      pub Mirrors-taken : (t : ℕ) → bag.Updates (by_moment cmp) queue queue1 (t, k) false → tree.Updates cmp moments moments1 k None
          → tree.get cmp moments k ≡ Some t → Mirrors cmp queue1 moments1
      Mirrors-taken t taken put had = record {
        same = λ q s. changed queue queue1 t k false taken q s ∙ at q s (cmp k q) refl ∙ sym (ap (λ v. is_moment v s) (put.0 q));
        ordered = ordered;
      }
        where
          at : (q : K) (s : ℕ) (r : Ordering) → cmp k q ≡ r
              → cond ((t == s) && is_eq r) false (bag.contains (by_moment cmp) queue (s, q)) ≡ is_moment (cond (is_eq r) None (tree.get cmp moments q)) s
          at q s Less e = aside (t == s) false (bag.contains (by_moment cmp) queue (s, q)) ∙ mirrors.same q s
          at q s Equal e = gone (t == s) (bag.contains (by_moment cmp) queue (s, q)) (at_key (Some t) had q s e)
          at q s Greater e = aside (t == s) false (bag.contains (by_moment cmp) queue (s, q)) ∙ mirrors.same q s
