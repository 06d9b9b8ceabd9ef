-- What a list in order is once an entry is put in behind those before it, or taken from there.
use Rattle.std.proofs.Common.{◌≡◌, ℕ, zero, suc, ◌+◌, ◌<◌, ◌≤◌, Bool, true, false, cond, List, [], ◌∷◌, ◌++◌, length, length-append, take, drop, Option, Some, None, Box, refl, sym, ap, ◌∙◌, arith, subst}
use Rattle.std.proofs.lemmas.Bool.{false≢true}
use Rattle.std.proofs.lemmas.List.{append_assoc, take-append-drop}
use Rattle.std.proofs.lemmas.List.Kept.{IsStrictlySortedBy-filter}
use Rattle.std.specs.Prelude.{is_some}
use Rattle.std.specs.Cmp.{IsTotalOrder}
use Rattle.std.specs.List.{list_any, slice_get}
use Rattle.std.specs.List.Sorted.{IsStrictlySortedBy}
use Rattle.std.specs.BTreeMap.{is_at}
use Rattle.std.specs.BTreeSet.{insert_key}
use Rattle.std.specs.declared.alloc.Global.{Global}
use Rattle.std.specs.declared.cmp.Ordering.{Ordering}
use Rattle.p2p_tracker_calls.specs.Sets.{how_many}
use Rattle.p2p_tracker_directory.specs.Linked.{listed}
use Rattle.p2p_tracker_directory.specs.Placed.{finds, by_place, is_passed, without, moved}
use Rattle.p2p_tracker_directory.specs.declared.places.mark.Mark.TheVariants as mark
use Rattle.p2p_tracker_directory.proofs.Marks.{by_place-total, upto-parts}
use Rattle.p2p_tracker_directory.proofs.Ordered.{stands-behind, put-behind, put-again, taken-behind, without-none, sorted-inserted}

drop_more : {X : Type 0} (n : ℕ) (xs : List X) → drop 1 (drop n xs) ≡ drop (n + 1) xs
drop_more zero [] = refl
drop_more zero (x ∷ xs) = refl
drop_more (suc n) [] = nothing (suc n + 1)
  where
    nothing : {X : Type 0} (k : ℕ) → [] ≡ drop {A = X} k []
    nothing zero = refl
    nothing (suc k) = refl
drop_more (suc n) (x ∷ xs) = drop_more n xs ∙ ap (λ k. drop k (x ∷ xs)) (next n)
  where
    next : (k : ℕ) → suc (k + 1) ≡ suc k + 1
    next k = omega arith

-- what a place in the order finds is taken from there
one-taken : {X : Type 0} (test : X → Bool) (n : ℕ) (xs : List X) → finds test (slice_get xs n) ≡ true → length (take 1 (drop n xs)) ≡ 1
one-taken test zero [] h = absurd (false≢true h)
one-taken test zero (x ∷ xs) h = refl
one-taken test (suc n) [] h = absurd (false≢true h)
one-taken test (suc n) (x ∷ xs) h = one-taken test n xs h

-- a link to some items is one
pub some-link : {X : Type 0} (link : Option (Box (List X) Global)) → length (listed link) ≡ 1 → is_some link ≡ true
some-link None h = absurd (omega (arith, h))
some-link (Some b) h = refl

module _ {A K : Type 0} {pc : A → A → Ordering} {kc : K → K → Ordering} (a : IsTotalOrder pc) (k : IsTotalOrder kc) (xs : List (Option A × K)) (s : IsStrictlySortedBy (by_place pc kc) xs)
    (p : Option A) (q : K) (n : ℕ) (rank : n ≡ how_many (is_passed pc kc (mark.Before p q)) xs) (m : ℕ) (end : m ≡ how_many (is_passed pc kc (mark.Upto p q)) xs) where
  more : m ≡ n + cond (list_any (is_at (by_place pc kc (p, q))) xs) 1 0
  more = end ∙ (upto-parts a k (p, q) xs s ∙ ap (λ i. i + cond (list_any (is_at (by_place pc kc (p, q))) xs) 1 0) (sym rank))

  pub is-there : n < m → list_any (is_at (by_place pc kc (p, q))) xs ≡ true
  is-there f = at (list_any (is_at (by_place pc kc (p, q))) xs) more
    where
      at : (b : Bool) → m ≡ n + cond b 1 0 → b ≡ true
      at true e = refl
      at false e = absurd (omega (arith, e, f))

  pub isnt-there : m ≤ n → list_any (is_at (by_place pc kc (p, q))) xs ≡ false
  isnt-there f = at (list_any (is_at (by_place pc kc (p, q))) xs) more
    where
      at : (b : Bool) → m ≡ n + cond b 1 0 → b ≡ false
      at true e = absurd (omega (arith, e, f))
      at false e = refl

  pub put-found : n < m → xs ≡ insert_key (by_place pc kc) xs (p, q)
  put-found f = sym (put-again (by_place-total a k) (p, q) xs s (is-there f))

  pub put-new : m ≤ n → (first others one mid whole : List (Option A × K)) → first ≡ take n xs → others ≡ drop n xs → one ≡ (p, q) ∷ [] → mid ≡ first ++ one → whole ≡ mid ++ others
      → whole ≡ insert_key (by_place pc kc) xs (p, q)
  put-new f first others one mid whole first_is others_is one_is mid_is whole_is =
      whole_is ∙ (ap (λ ys. ys ++ others) (mid_is ∙ ap (λ ys. first ++ ys) one_is) ∙ (append_assoc first ((p, q) ∷ []) others
      ∙ (ap (λ ys. ys ++ (p, q) ∷ others) first_is ∙ (ap (λ ys. take n xs ++ (p, q) ∷ ys) others_is
      ∙ (ap (λ i. take i xs ++ (p, q) ∷ drop i xs) rank ∙ put-behind (by_place-total a k) (p, q) xs s (isnt-there f))))))

  pub put-more : (first others one mid : List (Option A × K)) → first ≡ take n xs → others ≡ drop n xs → one ≡ (p, q) ∷ [] → mid ≡ first ++ one → length mid + length others ≡ length xs + 1
  put-more first others one mid first_is others_is one_is mid_is =
      let parts = ap length (take-append-drop n xs) in
      let both = length-append (take n xs) (drop n xs) in
      let first_long = ap length first_is in
      let others_long = ap length others_is in
      let one_long : length one ≡ 1 = ap length one_is in
      let mid_long = ap length mid_is in
      let mid_both = length-append first one in
      omega (arith, parts, both, first_long, others_long, one_long, mid_long, mid_both)

  pub take-none : m ≤ n → xs ≡ without pc kc (p, q) xs
  take-none f = sym (without-none (by_place-total a k) (p, q) xs (isnt-there f))

  module _ (f : n < m) (first rest one others whole : List (Option A × K)) (first_is : first ≡ take n xs) (rest_is : rest ≡ drop n xs) (one_is : one ≡ take 1 rest) (others_is : others ≡ drop 1 rest) where
    pub take-found : whole ≡ first ++ others → whole ≡ without pc kc (p, q) xs
    take-found whole_is =
        whole_is ∙ (ap (λ ys. ys ++ others) first_is ∙ (ap (λ ys. take n xs ++ ys) (others_is ∙ (ap (drop 1) rest_is ∙ drop_more n xs))
        ∙ (ap (λ i. take i xs ++ drop (i + 1) xs) rank ∙ taken-behind (by_place-total a k) (p, q) xs s (is-there f))))

    pub take-one : length one ≡ 1
    take-one = ap length (one_is ∙ ap (take 1) rest_is) ∙ one-taken (is_at (by_place pc kc (p, q))) n xs
        (ap (λ i. finds (is_at (by_place pc kc (p, q))) (slice_get xs i)) rank ∙ (stands-behind (by_place-total a k) (p, q) xs s ∙ is-there f))

    pub take-less : length first + length others + 1 ≡ length xs
    take-less =
        let parts = ap length (take-append-drop n xs) in
        let both = length-append (take n xs) (drop n xs) in
        let first_long = ap length first_is in
        let rest_long = ap length rest_is in
        let rest_parts = ap length (take-append-drop 1 rest) in
        let rest_both = length-append (take 1 rest) (drop 1 rest) in
        let one_long = ap length one_is in
        let others_long = ap length others_is in
        omega (arith, parts, both, first_long, rest_long, rest_parts, rest_both, one_long, others_long, take-one)

pub sorted-put : {A K : Type 0} {pc : A → A → Ordering} {kc : K → K → Ordering} → IsTotalOrder pc → IsTotalOrder kc → (xs ys : List (Option A × K)) (e : Option A × K)
    → IsStrictlySortedBy (by_place pc kc) xs → ys ≡ insert_key (by_place pc kc) xs e → IsStrictlySortedBy (by_place pc kc) ys
sorted-put {A} {K} {pc} {kc} a k xs ys e s is = subst (IsStrictlySortedBy (by_place pc kc)) (sym is) (sorted-inserted (by_place-total a k) xs e s)

pub sorted-without : {A K : Type 0} (pc : A → A → Ordering) (kc : K → K → Ordering) (xs ys : List (Option A × K)) (e : Option A × K)
    → IsStrictlySortedBy (by_place pc kc) xs → ys ≡ without pc kc e xs → IsStrictlySortedBy (by_place pc kc) ys
sorted-without pc kc xs ys e s is = subst (IsStrictlySortedBy (by_place pc kc)) (sym is) (IsStrictlySortedBy-filter (by_place pc kc) _ xs s)

-- nothing is moved that isn't there
pub moved-none : {A K : Type 0} {pc : A → A → Ordering} {kc : K → K → Ordering} → IsTotalOrder pc → IsTotalOrder kc → (xs rest : List (Option A × K)) (from to : Option A × K) (there : Bool)
    → there ≡ list_any (is_at (by_place pc kc from)) xs → there ≡ false → rest ≡ without pc kc from xs → rest ≡ moved pc kc from to xs
moved-none {A} {K} {pc} {kc} a k xs rest from to there there_is h is =
    is ∙ (without-none (by_place-total a k) from xs (sym there_is ∙ h)
    ∙ sym (ap (λ b. cond b (insert_key (by_place pc kc) (without pc kc from xs) to) xs) (sym there_is ∙ h)))
