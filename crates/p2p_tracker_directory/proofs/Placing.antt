-- What a move, or a key that comes or goes, makes of keys at their places.
use Rattle.std.proofs.Common.{◌≡◌, Bool, true, false, cond, not, ◌&&◌, ◌||◌, List, Option, Some, None, refl, sym, ap, ◌∙◌, subst}
use Rattle.std.proofs.lemmas.Cmp.{eq_by_cmp_equiv}
use Rattle.std.proofs.lemmas.List.Kept.{IsStrictlySortedBy-filter}
use Rattle.std.specs.Cmp.{IsTotalOrder, tied_then}
use Rattle.std.specs.Cmp.Lexicographic.{options_total}
use Rattle.std.specs.List.{list_any}
use Rattle.std.specs.List.Sorted.{IsStrictlySortedBy}
use Rattle.std.specs.Option.{option_cmp}
use Rattle.std.specs.Ordering.{is_eq}
use Rattle.std.specs.BTreeMap.{is_at}
use Rattle.std.specs.BTreeSet.{insert_key}
use Rattle.std.specs.declared.cmp.Ordering.{Ordering}
use Rattle.p2p_tracker_directory.specs.Placed.{by_place, without, moved}
use Rattle.p2p_tracker_directory.proofs.Marks.{by_place-total}
use Rattle.p2p_tracker_directory.proofs.Ordered.{sorted-inserted, any-inserted, any-without}
use Rattle.p2p_tracker_directory.specs.Indexed.{is_placed, Placed}

module _ {A K : Type 0} {pc : A → A → Ordering} {kc : K → K → Ordering} (po : IsTotalOrder pc) (ko : IsTotalOrder kc) where
  tied : (a b : Option A) (k q : K) → is_at (by_place pc kc (a, k)) (b, q) ≡ (is_eq (option_cmp pc a b) && is_at (kc k) q)
  tied a b k q = sym (tied_then (option_cmp pc a b) (kc k q))

  turned : (a b : Option A) → is_eq (option_cmp pc a b) ≡ is_eq (option_cmp pc b a)
  turned a b = (eq_by_cmp_equiv (options_total po)).symm a b

  own : (a : Option A) → is_eq (option_cmp pc a a) ≡ true
  own a = (eq_by_cmp_equiv (options_total po)).refl a

  nowhere : (x y : Bool) → (not (x && true) && x) ≡ false
  nowhere true y = refl
  nowhere false y = refl

  module _ (key : K) (rows : List (Option A × K)) (d e : K → Option (Option A)) (p : Placed pc kc rows d) where
    -- a key is moved from its place to another
    pub placed-moved : (from to : Option A) (there : Bool)
        → ((k : K) → is_at (kc key) k ≡ true → d k ≡ cond there (Some from) None) → ((k : K) → is_at (kc key) k ≡ true → e k ≡ cond there (Some to) None)
        → ((k : K) → is_at (kc key) k ≡ false → e k ≡ d k) → Placed pc kc (moved pc kc (from, key) (to, key) rows) e
    placed-moved from to there was is others = by there refl
      where
        found : list_any (is_at (by_place pc kc (from, key))) rows ≡ is_placed pc kc (cond there (Some from) None) from
        found = p.each key from ∙ ap (λ r. is_placed pc kc r from) (was key ((eq_by_cmp_equiv ko).refl key))

        same : there ≡ false → (k : K) → e k ≡ d k
        same t k = at (is_at (kc key) k) refl
          where
            at : (b : Bool) → is_at (kc key) k ≡ b → e k ≡ d k
            at true h = is k h ∙ (ap (λ c. cond c (Some to) None) t ∙ (sym (ap (λ c. cond c (Some from) None) t) ∙ sym (was k h)))
            at false h = others k h

        there_each : there ≡ true → (k : K) (a : Option A)
            → list_any (is_at (by_place pc kc (a, k))) (insert_key (by_place pc kc) (without pc kc (from, key) rows) (to, key)) ≡ is_placed pc kc (e k) a
        there_each t k a =
            any-inserted (by_place-total po ko) (a, k) (without pc kc (from, key) rows) (to, key)
            ∙ (ap (λ b. is_at (by_place pc kc (a, k)) (to, key) || b) (any-without (by_place-total po ko) (a, k) (from, key) rows)
            ∙ (ap (λ b. b || (not (is_at (by_place pc kc (from, key)) (a, k)) && list_any (is_at (by_place pc kc (a, k))) rows)) (tied a to k key)
            ∙ (ap (λ b. (is_eq (option_cmp pc a to) && is_at (kc k) key) || (not b && list_any (is_at (by_place pc kc (a, k))) rows)) (tied from a key k)
            ∙ (ap (λ b. (is_eq (option_cmp pc a to) && b) || (not (is_eq (option_cmp pc from a) && is_at (kc key) k) && list_any (is_at (by_place pc kc (a, k))) rows)) ((eq_by_cmp_equiv ko).symm k key)
            ∙ (ap (λ b. (is_eq (option_cmp pc a to) && is_at (kc key) k) || (not (is_eq (option_cmp pc from a) && is_at (kc key) k) && b)) (p.each k a)
            ∙ at (is_at (kc key) k) refl)))))
          where
            ours : (x y : Bool) → ((x && true) || (not (y && true) && y)) ≡ x
            ours true y = refl
            ours false true = refl
            ours false false = refl

            theirs : (x y z : Bool) → ((x && false) || (not (y && false) && z)) ≡ z
            theirs true true z = refl
            theirs true false z = refl
            theirs false true z = refl
            theirs false false z = refl

            at : (b : Bool) → is_at (kc key) k ≡ b → ((is_eq (option_cmp pc a to) && b) || (not (is_eq (option_cmp pc from a) && b) && is_placed pc kc (d k) a)) ≡ is_placed pc kc (e k) a
            at true h =
                ap (λ r. (is_eq (option_cmp pc a to) && true) || (not (is_eq (option_cmp pc from a) && true) && is_placed pc kc r a)) (was k h ∙ ap (λ c. cond c (Some from) None) t)
                ∙ (ours (is_eq (option_cmp pc a to)) (is_eq (option_cmp pc from a)) ∙ (turned a to ∙ sym (ap (λ r. is_placed pc kc r a) (is k h ∙ ap (λ c. cond c (Some to) None) t))))
            at false h =
                theirs (is_eq (option_cmp pc a to)) (is_eq (option_cmp pc from a)) (is_placed pc kc (d k) a) ∙ ap (λ r. is_placed pc kc r a) (sym (others k h))

        by : (b : Bool) → there ≡ b → Placed pc kc (moved pc kc (from, key) (to, key) rows) e
        by true t = record {
          each = λ k a. ap (list_any (is_at (by_place pc kc (a, k)))) (into t) ∙ there_each t k a;
          ordered = sorted (into t) (sorted-inserted (by_place-total po ko) (without pc kc (from, key) rows) (to, key) (IsStrictlySortedBy-filter (by_place pc kc) _ rows p.ordered));
        }
          where
            into : there ≡ true → moved pc kc (from, key) (to, key) rows ≡ insert_key (by_place pc kc) (without pc kc (from, key) rows) (to, key)
            into t = ap (λ c. cond c (insert_key (by_place pc kc) (without pc kc (from, key) rows) (to, key)) rows) (found ∙ (ap (λ c. is_placed pc kc (cond c (Some from) None) from) t ∙ own from))

            sorted : {xs ys : List (Option A × K)} → xs ≡ ys → IsStrictlySortedBy (by_place pc kc) ys → IsStrictlySortedBy (by_place pc kc) xs
            sorted e s = subst (IsStrictlySortedBy (by_place pc kc)) (sym e) s
        by false t = record {
          each = λ k a. ap (list_any (is_at (by_place pc kc (a, k)))) (stay t) ∙ (p.each k a ∙ ap (λ r. is_placed pc kc r a) (sym (same t k)));
          ordered = subst (IsStrictlySortedBy (by_place pc kc)) (sym (stay t)) p.ordered;
        }
          where
            stay : there ≡ false → moved pc kc (from, key) (to, key) rows ≡ rows
            stay t = ap (λ c. cond c (insert_key (by_place pc kc) (without pc kc (from, key) rows) (to, key)) rows) (found ∙ ap (λ c. is_placed pc kc (cond c (Some from) None) from) t)

    -- a key goes, with its place
    pub placed-left : (from : Option A) (there : Bool)
        → ((k : K) → is_at (kc key) k ≡ true → d k ≡ cond there (Some from) None) → ((k : K) → is_at (kc key) k ≡ true → e k ≡ None)
        → ((k : K) → is_at (kc key) k ≡ false → e k ≡ d k) → Placed pc kc (without pc kc (from, key) rows) e
    placed-left from there was is others = record {
      each = λ k a.
          any-without (by_place-total po ko) (a, k) (from, key) rows
          ∙ (ap (λ b. not b && list_any (is_at (by_place pc kc (a, k))) rows) (tied from a key k)
          ∙ (ap (λ b. not (is_eq (option_cmp pc from a) && is_at (kc key) k) && b) (p.each k a) ∙ at k a (is_at (kc key) k) refl));
      ordered = IsStrictlySortedBy-filter (by_place pc kc) _ rows p.ordered;
    }
      where
        ours : (t : Bool) (a : Option A) → (not (is_eq (option_cmp pc from a) && true) && is_placed pc kc (cond t (Some from) None) a) ≡ false
        ours true a = nowhere (is_eq (option_cmp pc from a)) true
        ours false a = none (is_eq (option_cmp pc from a))
          where
            none : (x : Bool) → (not (x && true) && false) ≡ false
            none true = refl
            none false = refl

        theirs : (x z : Bool) → (not (x && false) && z) ≡ z
        theirs true z = refl
        theirs false z = refl

        at : (k : K) (a : Option A) (b : Bool) → is_at (kc key) k ≡ b → (not (is_eq (option_cmp pc from a) && b) && is_placed pc kc (d k) a) ≡ is_placed pc kc (e k) a
        at k a true h =
            ap (λ r. not (is_eq (option_cmp pc from a) && true) && is_placed pc kc r a) (was k h) ∙ (ours there a ∙ sym (ap (λ r. is_placed pc kc r a) (is k h)))
        at k a false h = theirs (is_eq (option_cmp pc from a)) (is_placed pc kc (d k) a) ∙ ap (λ r. is_placed pc kc r a) (sym (others k h))

    -- a key comes that has no place yet
    pub placed-entered : ((k : K) → is_at (kc key) k ≡ true → d k ≡ None) → ((k : K) → is_at (kc key) k ≡ true → e k ≡ Some None)
        → ((k : K) → is_at (kc key) k ≡ false → e k ≡ d k) → Placed pc kc (insert_key (by_place pc kc) rows (None, key)) e
    placed-entered was is others = record {
      each = λ k a.
          any-inserted (by_place-total po ko) (a, k) rows (None, key)
          ∙ (ap (λ b. b || list_any (is_at (by_place pc kc (a, k))) rows) (tied a None k key)
          ∙ (ap (λ b. (is_eq (option_cmp pc a None) && b) || list_any (is_at (by_place pc kc (a, k))) rows) ((eq_by_cmp_equiv ko).symm k key)
          ∙ (ap (λ b. (is_eq (option_cmp pc a None) && is_at (kc key) k) || b) (p.each k a) ∙ at k a (is_at (kc key) k) refl)));
      ordered = sorted-inserted (by_place-total po ko) rows (None, key) p.ordered;
    }
      where
        ours : (x : Bool) → ((x && true) || false) ≡ x
        ours true = refl
        ours false = refl

        theirs : (x z : Bool) → ((x && false) || z) ≡ z
        theirs true z = refl
        theirs false z = refl

        at : (k : K) (a : Option A) (b : Bool) → is_at (kc key) k ≡ b → ((is_eq (option_cmp pc a None) && b) || is_placed pc kc (d k) a) ≡ is_placed pc kc (e k) a
        at k a true h =
            ap (λ r. (is_eq (option_cmp pc a None) && true) || is_placed pc kc r a) (was k h)
            ∙ (ours (is_eq (option_cmp pc a None)) ∙ (turned a None ∙ sym (ap (λ r. is_placed pc kc r a) (is k h))))
        at k a false h = theirs (is_eq (option_cmp pc a None)) (is_placed pc kc (d k) a) ∙ ap (λ r. is_placed pc kc r a) (sym (others k h))

-- nothing changes where each key keeps its place
pub placed-same : {A K : Type 0} {pc : A → A → Ordering} {kc : K → K → Ordering} (rows : List (Option A × K)) (d e : K → Option (Option A)) → Placed pc kc rows d
    → ((k : K) → e k ≡ d k) → Placed pc kc rows e
placed-same {A} {K} {pc} {kc} rows d e p h = record { each = λ k a. p.each k a ∙ ap (λ r. is_placed pc kc r a) (sym (h k)); ordered = p.ordered }
