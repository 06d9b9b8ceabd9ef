-- How many peers dial from each address, told by where their keys stand.
use Rattle.std.proofs.Common.{◌≡◌, ℕ, zero, suc, ◌+◌, ◌-◌, ◌<◌, ◌≤◌, Bool, true, false, cond, not, ◌&&◌, ◌||◌, List, [], ◌∷◌, length, take, Option, Some, None, refl, sym, ap, ◌∙◌, arith, subst}
use Rattle.std.proofs.lemmas.Bool.{false≢true}
use Rattle.std.proofs.lemmas.Cmp.{eq_by_cmp_equiv, tied_itself}
use Rattle.std.specs.Prelude.{is_some}
use Rattle.std.specs.Cmp.{IsTotalOrder, tied_then}
use Rattle.std.specs.Cmp.Lexicographic.{options_total}
use Rattle.std.specs.List.{AllByRecursion, list_any, slice_get}
use Rattle.std.specs.List.Sorted.{IsStrictlySortedBy}
use Rattle.std.specs.Option.{option_map, option_cmp}
use Rattle.std.specs.Ordering.{is_eq, is_gt, ordering_then}
use Rattle.std.specs.Map.{keys_of, lookup}
use Rattle.std.specs.BTreeMap.{is_at}
use Rattle.std.specs.declared.cmp.Ordering.{Ordering}
use Rattle.std.specs.declared.cmp.Ordering.TheVariants.{Less, Equal, Greater}
use Rattle.p2p_address.specs.contracts.ip.IpAddrOrd.TheImpl.{ghosts}
use Rattle.p2p_address.specs.declared.ip.IpAddr.{IpAddr}
use Rattle.p2p_tracker_calls.specs.Heard.{ip_cmp}
use Rattle.p2p_tracker_calls.specs.Sets.{how_many}
use Rattle.p2p_tracker_directory.specs.Placed.{by_place, is_passed}
use Rattle.p2p_tracker_directory.specs.declared.places.mark.Mark.TheVariants as mark
use Rattle.p2p_tracker_directory.specs.Recorded.{Recorded}
use Rattle.p2p_tracker_directory.specs.Tracked.{passes}
use Rattle.p2p_tracker_directory.specs.Indexed.{source_of, is_from, positive, Tallies, is_placed, Placed, count_where}
use Rattle.p2p_tracker_directory.proofs.Addresses.{ip_total}
use Rattle.p2p_tracker_directory.proofs.AddressCounts.{tied, tallies-plain}
use Rattle.p2p_tracker_directory.proofs.Counting.{counts-alike, how_many-same}
use Rattle.p2p_tracker_directory.proofs.Indexing.{derived_total}
use Rattle.p2p_tracker_directory.proofs.Marks.{many-least}
use Rattle.p2p_tracker_directory.proofs.Ordered.{many-none, all-imply}
use Rattle.p2p_tracker_directory.proofs.Segments.{rank-index, segment, passed-first}
use Rattle.p2p_tracker_directory.proofs.Walks.{equal_by}

module _ {A K : Type 0} (pc : A → A → Ordering) (a : Option A) where
  -- the keys that have the place, with it
  keyed : List (Option A × K) → List (K × Option A)
  keyed [] = []
  keyed (e ∷ es) = cond (is_at (option_cmp pc a) e.0) ((e.1, e.0) ∷ keyed es) (keyed es)

  many-keyed : (es : List (Option A × K)) → how_many (λ e. true) (keyed es) ≡ how_many (λ e. is_at (option_cmp pc a) e.0) es
  unfolding keyed how_many
  many-keyed [] = refl
  many-keyed (e ∷ es) = at (is_at (option_cmp pc a) e.0) (many-keyed es)
    where
      at : (b : Bool) → how_many (λ x. true) (keyed es) ≡ how_many (λ x. is_at (option_cmp pc a) x.0) es
          → how_many (λ x. true) (cond b ((e.1, e.0) ∷ keyed es) (keyed es)) ≡ cond b (suc (how_many (λ x. is_at (option_cmp pc a) x.0) es)) (how_many (λ x. is_at (option_cmp pc a) x.0) es)
      at true i = ap suc i
      at false i = i

  found-keyed : (kc : K → K → Ordering) (q : K) (es : List (Option A × K)) → passes (λ x. true) (lookup (is_at (kc q)) (keyed es)) ≡ list_any (is_at (by_place pc kc (a, q))) es
  unfolding keyed
  found-keyed kc q [] = refl
  found-keyed kc q (e ∷ es) =
      at (is_at (option_cmp pc a) e.0) (found-keyed kc q es)
      ∙ ap (λ b. b || list_any (is_at (by_place pc kc (a, q))) es) (tied_then (option_cmp pc a e.0) (kc q e.1))
    where
      own : (b : Bool) → passes (λ x. true) (cond b (Some e.0) (lookup (is_at (kc q)) (keyed es))) ≡ (b || passes (λ x. true) (lookup (is_at (kc q)) (keyed es)))
      own true = refl
      own false = refl

      at : (b : Bool) → passes (λ x. true) (lookup (is_at (kc q)) (keyed es)) ≡ list_any (is_at (by_place pc kc (a, q))) es
          → passes (λ x. true) (lookup (is_at (kc q)) (cond b ((e.1, e.0) ∷ keyed es) (keyed es))) ≡ ((b && is_at (kc q) e.1) || list_any (is_at (by_place pc kc (a, q))) es)
      at true i = own (is_at (kc q) e.1) ∙ ap (λ c. is_at (kc q) e.1 || c) i
      at false i = i

module _ {A K : Type 0} {pc : A → A → Ordering} (kc : K → K → Ordering) (po : IsTotalOrder pc) (a : Option A) where
  all-keyed : (e : Option A × K) (es : List (Option A × K)) → is_at (option_cmp pc a) e.0 ≡ true → AllByRecursion (λ y. by_place pc kc e y ≡ Less) es
      → AllByRecursion (λ q. kc e.1 q ≡ Less) (keys_of (keyed pc a es))
  unfolding keyed
  all-keyed e [] h all = tt
  all-keyed e (y ∷ ys) h all = at (is_at (option_cmp pc a) y.0) refl (all-keyed e ys h all.1)
    where
      second : (r s : Ordering) → r ≡ Equal → ordering_then r s ≡ Less → s ≡ Less
      second Less s e h = absurd (false≢true (ap is_eq e))
      second Equal s e h = h
      second Greater s e h = absurd (false≢true (ap is_eq e))

      at : (b : Bool) → is_at (option_cmp pc a) y.0 ≡ b → AllByRecursion (λ q. kc e.1 q ≡ Less) (keys_of (keyed pc a ys))
          → AllByRecursion (λ q. kc e.1 q ≡ Less) (keys_of (cond b ((y.1, y.0) ∷ keyed pc a ys) (keyed pc a ys)))
      at true g i = (
        second (option_cmp pc e.0 y.0) (kc e.1 y.1) (equal_by (option_cmp pc e.0 y.0) (sym ((eq_by_cmp_equiv (options_total po)).congr a e.0 y.0 h) ∙ g)) all.0,
        i,
      )
      at false g i = i

  sorted-keyed : (es : List (Option A × K)) → IsStrictlySortedBy (by_place pc kc) es → IsStrictlySortedBy kc (keys_of (keyed pc a es))
  unfolding keyed IsStrictlySortedBy
  sorted-keyed [] s = tt
  sorted-keyed (e ∷ es) s = at (is_at (option_cmp pc a) e.0) refl (sorted-keyed es s.1)
    where
      at : (b : Bool) → is_at (option_cmp pc a) e.0 ≡ b → IsStrictlySortedBy kc (keys_of (keyed pc a es)) → IsStrictlySortedBy kc (keys_of (cond b ((e.1, e.0) ∷ keyed pc a es) (keyed pc a es)))
      at true h i = (all-keyed e es h s.0, i)
      at false h i = i

-- the address is that of the place
pub from-place : (ip : IpAddr) (p : Option IpAddr) → is_at (option_cmp ghosts.cmp (Some ip)) p ≡ is_from ip p
from-place ip None = refl
from-place ip (Some s) = tied ip s ∙ (eq_by_cmp_equiv ip_total).symm ip s

module _ {P : Type 0} {cmp : P → P → Ordering} (o : IsTotalOrder cmp) (es : List (P × Recorded)) (s : IsStrictlySortedBy cmp (keys_of es)) (rows : List (Option IpAddr × P))
    (placed : Placed ghosts.cmp cmp rows (λ q. option_map source_of (lookup (is_at (cmp q)) es))) where
  -- as many keys have an address as records tell
  pub placed-counted : (ip : IpAddr) → how_many (λ e. is_at (option_cmp ghosts.cmp (Some ip)) e.0) rows ≡ count_where (λ q. true) ip es
  placed-counted ip =
      sym (many-keyed ghosts.cmp (Some ip) rows)
      ∙ counts-alike o (λ q x. true) (λ q x. is_from ip (source_of x)) (λ p q x h. refl) (λ p q x h. refl) (keyed ghosts.cmp (Some ip) rows) es
      (sorted-keyed cmp derived_total (Some ip) rows placed.ordered) s
      (λ q. found-keyed ghosts.cmp (Some ip) cmp q rows ∙ (placed.each q (Some ip) ∙ at (lookup (is_at (cmp q)) es)))
    where
      flipped : (p : Option IpAddr) → is_eq (option_cmp ghosts.cmp p (Some ip)) ≡ is_from ip p
      flipped p = (eq_by_cmp_equiv (options_total derived_total)).symm p (Some ip) ∙ from-place ip p

      at : (r : Option Recorded) → is_placed ghosts.cmp cmp (option_map source_of r) (Some ip) ≡ passes (λ x. is_from ip (source_of x)) r
      at None = refl
      at (Some r) = flipped (source_of r)

  pub placed-from : (ip : IpAddr) → how_many (λ e. is_from ip e.0) rows ≡ count_where (λ q. true) ip es
  placed-from ip = how_many-same (λ e. is_from ip e.0) (λ e. is_at (option_cmp ghosts.cmp (Some ip)) e.0) (λ e. sym (from-place ip e.0)) rows ∙ placed-counted ip

-- places that are equal are from the same addresses
pub from-tied : (ip : IpAddr) (p q : Option IpAddr) → is_at (option_cmp ghosts.cmp p) q ≡ true → is_from ip p ≡ is_from ip q
from-tied ip p q h =
    let e = eq_by_cmp_equiv (options_total derived_total) in
    sym (from-place ip p) ∙ (e.symm (Some ip) p ∙ (e.congr p q (Some ip) h ∙ (e.symm q (Some ip) ∙ from-place ip q)))

past-end : {X : Type 0} (xs : List X) (i : ℕ) → slice_get xs i ≡ None → length xs ≤ i
past-end [] i h = omega arith
past-end (x ∷ xs) zero h = absurd (false≢true (sym (ap is_some h)))
past-end (x ∷ xs) (suc i) h = let rest = past-end xs i h in omega (arith, rest)

take_none : {X : Type 0} (n : ℕ) → take {A = X} n [] ≡ []
take_none zero = refl
take_none (suc n) = refl

take_all : {X : Type 0} (xs : List X) (n : ℕ) → length xs ≤ n → take n xs ≡ xs
take_all [] n h = take_none n
take_all (x ∷ xs) zero h = absurd (omega (arith, h))
take_all (x ∷ xs) (suc n) h = ap (λ ys. x ∷ ys) (take_all xs n (omega (arith, h)))

module _ {P : Type 0} {cmp : P → P → Ordering} (o : IsTotalOrder cmp) (rows : List (Option IpAddr × P)) (s : IsStrictlySortedBy (by_place ghosts.cmp cmp) rows) where
  through-itself : (p : Option IpAddr) → not (is_gt (option_cmp ghosts.cmp p p)) ≡ true
  through-itself p = ap (λ r. not (is_gt r)) (tied_itself (options_total derived_total) p)

  entry-of : (r : Option (Option IpAddr × P)) (source : Option IpAddr) → option_map (λ e. e.0) r ≡ Some source → (e : Option IpAddr × P) × (r ≡ Some e) × (e.0 ≡ source)
  entry-of None source h = absurd (false≢true (ap is_some h))
  entry-of (Some e) source h = let same : e.0 ≡ source = cc in (e, refl, same)

  -- those of one address stand together
  pub sources-next : (i n : ℕ) (source : Option IpAddr) → option_map (λ e. e.0) (slice_get rows i) ≡ Some source → n ≡ how_many (is_passed ghosts.cmp cmp (mark.Through source)) rows
      → (i < n) × (n ≤ length rows)
  sources-next i n source at n_is =
      let entry = entry-of (slice_get rows i) source at in
      let below = rank-index derived_total o (mark.Through source) rows s i entry.0 entry.1 (ap (λ p. not (is_gt (option_cmp ghosts.cmp p source))) entry.2 ∙ through-itself source) in
      let most = many-least (is_passed ghosts.cmp cmp (mark.Through source)) rows in
      (omega (arith, below, n_is), omega (arith, most, n_is))

  pub sources-step : (i n : ℕ) (source : Option IpAddr) → option_map (λ e. e.0) (slice_get rows i) ≡ Some source → n ≡ how_many (is_passed ghosts.cmp cmp (mark.Through source)) rows
      → (ip : IpAddr) → how_many (λ e. is_from ip e.0) (take n rows) ≡ how_many (λ e. is_from ip e.0) (take i rows) + cond (is_from ip source) (n - i) 0
  sources-step i n source at n_is ip =
      let entry = entry-of (slice_get rows i) source at in
      ap (λ m. how_many (λ e. is_from ip e.0) (take m rows)) n_is
      ∙ (subst (λ p. how_many (λ e. is_from ip e.0) (take (how_many (is_passed ghosts.cmp cmp (mark.Through p)) rows) rows)
      ≡ how_many (λ e. is_from ip e.0) (take i rows) + cond (is_from ip p) (how_many (is_passed ghosts.cmp cmp (mark.Through p)) rows - i) 0) entry.2
      (segment derived_total o (is_from ip) (from-tied ip) rows s i entry.0 entry.1)
      ∙ ap (λ m. how_many (λ e. is_from ip e.0) (take i rows) + cond (is_from ip source) (m - i) 0) (sym n_is))

  pub sources-first : (counts : List (IpAddr × ℕ)) → counts ≡ [] → (i : ℕ) → i ≡ how_many (is_passed ghosts.cmp cmp (mark.Through None)) rows
      → Tallies ip_cmp counts (λ ip. how_many (λ e. is_from ip e.0) (take i rows))
  sources-first counts empty i i_is = record {
    each = λ ip. ap (lookup (is_at (ip_cmp ip))) empty ∙ sym (ap positive (none ip (take i rows)
        (subst (λ m. AllByRecursion (λ e. is_passed ghosts.cmp cmp (mark.Through None) e ≡ true) (take m rows)) (sym i_is) (passed-first derived_total o (mark.Through None) rows s))));
  }
    where
      away : (ip : IpAddr) (p : Option IpAddr) → not (is_gt (option_cmp ghosts.cmp p None)) ≡ true → is_from ip p ≡ false
      away ip None h = refl
      away ip (Some source) h = absurd (false≢true h)

      none : (ip : IpAddr) (es : List (Option IpAddr × P)) → AllByRecursion (λ e. is_passed ghosts.cmp cmp (mark.Through None) e ≡ true) es → how_many (λ e. is_from ip e.0) es ≡ 0
      none ip es a = many-none (λ e. is_from ip e.0) es (all-imply (λ e. is_passed ghosts.cmp cmp (mark.Through None) e ≡ true) (λ e. is_from ip e.0 ≡ false) (λ e h. away ip e.0 h) es a)

  pub sources-all : (counts : List (IpAddr × ℕ)) (i : ℕ) → slice_get rows i ≡ None → Tallies ip_cmp counts (λ ip. how_many (λ e. is_from ip e.0) (take i rows))
      → Tallies ip_cmp counts (λ ip. how_many (λ e. is_from ip e.0) rows)
  sources-all counts i h t = tallies-plain counts _ _ (λ ip. ap (how_many (λ e. is_from ip e.0)) (take_all rows i (past-end rows i h))) t
