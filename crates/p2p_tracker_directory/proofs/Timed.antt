-- What the keys that have a moment, in the order of a queue, tell.
use Rattle.std.proofs.Common.{◌≡◌, ℕ, zero, suc, ◌+◌, ◌<◌, ◌≤◌, Bool, true, false, cond, not, ◌||◌, List, [], ◌∷◌, ◌++◌, length, take, drop, Option, Some, None, refl, sym, ap, ◌∙◌, arith, subst, filter_map}
use Rattle.std.proofs.lemmas.Bool.{false≢true, le-ltb, lt-ltb}
use Rattle.std.proofs.lemmas.List.{append_assoc, append-nil}
use Rattle.std.proofs.lemmas.Cmp.{nat_cmp_total, ranked}
use Rattle.std.specs.Prelude.{nat_lt}
use Rattle.std.specs.Cmp.{IsTotalOrder, unsigned_tied}
use Rattle.std.specs.List.{AllByRecursion, find, list_any, slice_get, cons_option}
use Rattle.std.specs.List.Sorted.{IsStrictlySortedBy}
use Rattle.std.specs.Option.{option_map, option_or, option_cmp}
use Rattle.std.specs.Ordering.{is_eq, is_gt, nat_cmp, ordering_then, MatchOrdering}
use Rattle.std.specs.BTreeMap.{is_at}
use Rattle.std.specs.declared.cmp.Ordering.{Ordering}
use Rattle.std.specs.declared.cmp.Ordering.TheVariants.{Less, Equal, Greater}
use Rattle.p2p_base.specs.Moments.{by_moment, is_moment}
use Rattle.p2p_tracker_calls.specs.Sets.{how_many}
use Rattle.p2p_tracker_directory.specs.Placed.{by_place, is_passed}
use Rattle.p2p_tracker_directory.specs.declared.places.mark.Mark.TheVariants as mark
use Rattle.p2p_tracker_directory.proofs.Segments.{passed-first, stopped-last}
use Rattle.p2p_tracker_directory.specs.Recorded.{Recorded}
use Rattle.p2p_tracker_directory.specs.Indexed.{due_of, due_in, timed, timed_in, found_by, is_placed, Placed}

-- a queue has each key at its moment, where it has one, and nothing else
pub record Queues {K : Type 0} (cmp : K → K → Ordering) (queue : List (ℕ × K)) (due : K → Option ℕ) : Type 0 where
  pub each : (k : K) (t : ℕ) → list_any (is_at (by_moment cmp (t, k))) queue ≡ is_moment (due k) t

drop_nil : {X : Type 0} (n : ℕ) → drop {A = X} n [] ≡ []
drop_nil zero = refl
drop_nil (suc n) = refl

module _ {K : Type 0} where
  -- the entry at a place in the order comes next, where it has a moment
  pub timed-next : (rows : List (Option ℕ × K)) (i n : ℕ) → n ≡ suc i → timed (drop i rows) ≡ cons_option (timed_in (slice_get rows i)) (timed (drop n rows))
  timed-next [] i n h = ap timed (drop_nil i) ∙ sym (ap timed (drop_nil n))
  timed-next (e ∷ es) zero n h = ap (λ k. cons_option (option_map (λ t. (t, e.1)) e.0) (timed (drop k (e ∷ es)))) (sym h)
  timed-next (e ∷ es) (suc i) n h = timed-next es i (suc i) refl ∙ ap (λ k. cons_option (timed_in (slice_get es i)) (timed (drop k (e ∷ es)))) (sym h)

  pub timed-end : (rows : List (Option ℕ × K)) (i : ℕ) → length rows ≤ i → timed (drop i rows) ≡ []
  timed-end [] i h = ap timed (drop_nil i)
  timed-end (e ∷ es) zero h = absurd (omega (arith, h))
  timed-end (e ∷ es) (suc i) h = timed-end es i (omega (arith, h))

module _ {K : Type 0} {cmp : K → K → Ordering} (o : IsTotalOrder cmp) (rows : List (Option ℕ × K)) (s : IsStrictlySortedBy (by_place nat_cmp cmp) rows) where
  -- those of no place come first
  pub timed-first : (n : ℕ) → n ≡ how_many (is_passed nat_cmp cmp (mark.Through None)) rows → timed (drop n rows) ≡ timed rows
  timed-first n h = skip rows n (subst (λ k. AllByRecursion (λ e. is_passed nat_cmp cmp (mark.Through None) e ≡ true) (take k rows)) (sym h) (passed-first nat_cmp_total o (mark.Through None) rows s))
    where
      none : (p : Option ℕ) → not (is_gt (option_cmp nat_cmp p None)) ≡ true → p ≡ None
      none None h = refl
      none (Some t) h = absurd (false≢true h)

      skip : (es : List (Option ℕ × K)) (n : ℕ) → AllByRecursion (λ e. is_passed nat_cmp cmp (mark.Through None) e ≡ true) (take n es) → timed (drop n es) ≡ timed es
      skip [] n a = ap timed (drop_nil n)
      skip (e ∷ es) zero a = refl
      skip (e ∷ es) (suc n) a = skip es n a.1 ∙ sym (ap (λ p. cons_option (option_map (λ t. (t, e.1)) p) (timed es)) (none e.0 a.0))

  -- and those whose moment has come before the others
  pub find-late : (now : ℕ) (test : ℕ × K → Bool) → ((e : ℕ × K) → nat_lt now e.0 ≡ false → test e ≡ false) → (n : ℕ) → n ≡ how_many (is_passed nat_cmp cmp (mark.Through (Some now))) rows
      → find test (timed (drop n rows)) ≡ find test (timed rows)
  find-late now test late n h =
      skip rows n (subst (λ k. AllByRecursion (λ e. is_passed nat_cmp cmp (mark.Through (Some now)) e ≡ true) (take k rows)) (sym h) (passed-first nat_cmp_total o (mark.Through (Some now)) rows s))
    where
      come : (t : ℕ) (r : Ordering) → MatchOrdering r (t < now) (t ≡ now) (now < t) → not (is_gt r) ≡ true → nat_lt now t ≡ false
      come t Less m h = le-ltb now t (omega (arith, m))
      come t Equal m h = le-ltb now t (omega (arith, m))
      come t Greater m h = absurd (false≢true h)

      over : (p : Option ℕ) (k : K) (rest : List (ℕ × K)) → not (is_gt (option_cmp nat_cmp p (Some now))) ≡ true → find test (cons_option (option_map (λ t. (t, k)) p) rest) ≡ find test rest
      over None k rest h = refl
      over (Some t) k rest h = ap (λ b. cond b (Some (t, k)) (find test rest)) (late (t, k) (come t (nat_cmp t now) (ranked t now (nat_cmp t now) refl) h))

      skip : (es : List (Option ℕ × K)) (n : ℕ) → AllByRecursion (λ e. is_passed nat_cmp cmp (mark.Through (Some now)) e ≡ true) (take n es) → find test (timed (drop n es)) ≡ find test (timed es)
      skip [] n a = ap (λ q. find test (timed q)) (drop_nil n)
      skip (e ∷ es) zero a = refl
      skip (e ∷ es) (suc n) a = skip es n a.1 ∙ sym (over e.0 e.1 (timed es) a.0)

module _ {K : Type 0} (cmp : K → K → Ordering) where
  all-timed : (t : ℕ) (k : K) (es : List (Option ℕ × K)) → AllByRecursion (λ y. by_place nat_cmp cmp (Some t, k) y ≡ Less) es → AllByRecursion (λ y. by_moment cmp (t, k) y ≡ Less) (timed es)
  all-timed t k [] a = tt
  all-timed t k (e ∷ es) a = at e.0 a.0 (all-timed t k es a.1)
    where
      at : (p : Option ℕ) → ordering_then (option_cmp nat_cmp (Some t) p) (cmp k e.1) ≡ Less → AllByRecursion (λ y. by_moment cmp (t, k) y ≡ Less) (timed es)
          → AllByRecursion (λ y. by_moment cmp (t, k) y ≡ Less) (cons_option (option_map (λ u. (u, e.1)) p) (timed es))
      at None h i = i
      at (Some u) h i = (h, i)

  pub sorted-timed : (es : List (Option ℕ × K)) → IsStrictlySortedBy (by_place nat_cmp cmp) es → IsStrictlySortedBy (by_moment cmp) (timed es)
  unfolding IsStrictlySortedBy
  sorted-timed [] s = tt
  sorted-timed (e ∷ es) s = at e.0 s.0 (sorted-timed es s.1)
    where
      at : (p : Option ℕ) → AllByRecursion (λ y. by_place nat_cmp cmp (p, e.1) y ≡ Less) es → IsStrictlySortedBy (by_moment cmp) (timed es)
          → IsStrictlySortedBy (by_moment cmp) (cons_option (option_map (λ u. (u, e.1)) p) (timed es))
      at None a i = i
      at (Some u) a i = (all-timed u e.1 es a, i)

  any-timed : (t : ℕ) (k : K) (es : List (Option ℕ × K)) → list_any (is_at (by_moment cmp (t, k))) (timed es) ≡ list_any (is_at (by_place nat_cmp cmp (Some t, k))) es
  any-timed t k [] = refl
  any-timed t k (e ∷ es) = at e.0 (any-timed t k es)
    where
      at : (p : Option ℕ) → list_any (is_at (by_moment cmp (t, k))) (timed es) ≡ list_any (is_at (by_place nat_cmp cmp (Some t, k))) es
          → list_any (is_at (by_moment cmp (t, k))) (cons_option (option_map (λ u. (u, e.1)) p) (timed es)) ≡ (is_at (by_place nat_cmp cmp (Some t, k)) (p, e.1) || list_any (is_at (by_place nat_cmp cmp (Some t, k))) es)
      at None i = i
      at (Some u) i = ap (λ b. is_at (by_moment cmp (t, k)) (u, e.1) || b) i

  pub queues-placed : (rows : List (Option ℕ × K)) (found : K → Option Recorded) (private dns : Bool) → Placed nat_cmp cmp rows (λ q. option_map (λ r. due_of r private dns) (found q))
      → Queues cmp (timed rows) (λ q. due_in (found q) private dns)
  queues-placed rows found private dns p = record { each = λ k t. any-timed t k rows ∙ (p.each k (Some t) ∙ at t (found k)) }
    where
      moment : (t : ℕ) (d : Option ℕ) → is_eq (option_cmp nat_cmp d (Some t)) ≡ is_moment d t
      moment t None = refl
      moment t (Some u) = unsigned_tied u t

      at : (t : ℕ) (r : Option Recorded) → is_placed nat_cmp cmp (option_map (λ x. due_of x private dns) r) (Some t) ≡ is_moment (due_in r private dns) t
      at t None = refl
      at t (Some r) = moment t (due_of r private dns)

module _ {K Y : Type 0} (f : ℕ × K → Option Y) where
  due-first : (r : Option (ℕ × K)) (rest : List (ℕ × K)) → filter_map f (cons_option r rest) ≡ cons_option (found_by f r) (filter_map f rest)
  due-first None rest = refl
  due-first (Some e) rest = refl

  due-next : (rows : List (Option ℕ × K)) (i : ℕ) → filter_map f (timed (drop i rows)) ≡ cons_option (found_by f (timed_in (slice_get rows i))) (filter_map f (timed (drop (i + 1) rows)))
  due-next rows i = ap (filter_map f) (timed-next rows i (i + 1) (omega arith)) ∙ due-first (timed_in (slice_get rows i)) (timed (drop (i + 1) rows))

  -- one more is found, or none
  pub due-more : (rows : List (Option ℕ × K)) (i : ℕ) (y : Y) (ys more all : List Y) → Some y ≡ found_by f (timed_in (slice_get rows i)) → more ≡ ys ++ y ∷ []
      → ys ++ filter_map f (timed (drop i rows)) ≡ all → more ++ filter_map f (timed (drop (i + 1) rows)) ≡ all
  due-more rows i y ys more all here more_is so_far =
      let rest = filter_map f (timed (drop (i + 1) rows)) in
      ap (λ zs. zs ++ rest) more_is ∙ (append_assoc ys (y ∷ []) rest
      ∙ (ap (λ r. ys ++ cons_option r rest) here ∙ (ap (λ zs. ys ++ zs) (sym (due-next rows i)) ∙ so_far)))

  pub due-over : (rows : List (Option ℕ × K)) (i : ℕ) (ys all : List Y) → None ≡ found_by f (timed_in (slice_get rows i))
      → ys ++ filter_map f (timed (drop i rows)) ≡ all → ys ++ filter_map f (timed (drop (i + 1) rows)) ≡ all
  due-over rows i ys all here so_far =
      let rest = filter_map f (timed (drop (i + 1) rows)) in
      ap (λ r. ys ++ cons_option r rest) here ∙ (ap (λ zs. ys ++ zs) (sym (due-next rows i)) ∙ so_far)

module _ {K Y : Type 0} {cmp : K → K → Ordering} (o : IsTotalOrder cmp) (rows : List (Option ℕ × K)) (s : IsStrictlySortedBy (by_place nat_cmp cmp) rows) (now : ℕ) (f : K → Option Y) where
  -- none of those whose moment hasn't come is found
  pub due-late : (n : ℕ) → how_many (is_passed nat_cmp cmp (mark.Through (Some now))) rows ≤ n → filter_map (λ e. cond (nat_lt now e.0) None (f e.1)) (timed (drop n rows)) ≡ []
  due-late n h = skip (drop n rows) (stopped-last nat_cmp_total o (mark.Through (Some now)) rows s n h)
    where
      late : (t : ℕ) (r : Ordering) → MatchOrdering r (t < now) (t ≡ now) (now < t) → not (is_gt r) ≡ false → nat_lt now t ≡ true
      late t Less m h = absurd (false≢true (sym h))
      late t Equal m h = absurd (false≢true (sym h))
      late t Greater m h = lt-ltb now t m

      over : (p : Option ℕ) (k : K) (rest : List (ℕ × K)) → not (is_gt (option_cmp nat_cmp p (Some now))) ≡ false
          → filter_map (λ e. cond (nat_lt now e.0) None (f e.1)) (cons_option (option_map (λ t. (t, k)) p) rest) ≡ filter_map (λ e. cond (nat_lt now e.0) None (f e.1)) rest
      over None k rest h = absurd (false≢true (sym h))
      over (Some t) k rest h = ap (λ b. cons_option (cond b None (f k)) (filter_map (λ e. cond (nat_lt now e.0) None (f e.1)) rest)) (late t (nat_cmp t now) (ranked t now (nat_cmp t now) refl) h)

      skip : (es : List (Option ℕ × K)) → AllByRecursion (λ e. is_passed nat_cmp cmp (mark.Through (Some now)) e ≡ false) es → filter_map (λ e. cond (nat_lt now e.0) None (f e.1)) (timed es) ≡ []
      skip [] a = refl
      skip (e ∷ es) a = over e.0 e.1 (timed es) a.0 ∙ skip es a.1

  pub due-all : (n : ℕ) (ys all : List Y) → how_many (is_passed nat_cmp cmp (mark.Through (Some now))) rows ≤ n
      → ys ++ filter_map (λ e. cond (nat_lt now e.0) None (f e.1)) (timed (drop n rows)) ≡ all → ys ≡ all
  due-all n ys all h so_far = sym (append-nil ys) ∙ (ap (λ zs. ys ++ zs) (sym (due-late n h)) ∙ so_far)

module _ {K : Type 0} (test : ℕ × K → Bool) where
  next-first : (r : Option (ℕ × K)) (rest : List (ℕ × K)) (m : Option ℕ) → m ≡ found_by (λ e. cond (test e) (Some e.0) None) r
      → option_map (λ e. e.0) (find test (cons_option r rest)) ≡ option_or m (option_map (λ e. e.0) (find test rest))
  next-first None rest m h = ap (λ x. option_or x (option_map (λ e. e.0) (find test rest))) (sym h)
  next-first (Some e) rest m h = at (test e) h
    where
      at : (b : Bool) → m ≡ cond b (Some e.0) None → option_map (λ x. x.0) (cond b (Some e) (find test rest)) ≡ option_or m (option_map (λ x. x.0) (find test rest))
      at true h = ap (λ x. option_or x (option_map (λ y. y.0) (find test rest))) (sym h)
      at false h = ap (λ x. option_or x (option_map (λ y. y.0) (find test rest))) (sym h)

  next-step : (rows : List (Option ℕ × K)) (i : ℕ) (m : Option ℕ) → m ≡ found_by (λ e. cond (test e) (Some e.0) None) (timed_in (slice_get rows i))
      → option_map (λ e. e.0) (find test (timed (drop i rows))) ≡ option_or m (option_map (λ e. e.0) (find test (timed (drop (i + 1) rows))))
  next-step rows i m h = ap (λ es. option_map (λ e. e.0) (find test es)) (timed-next rows i (i + 1) (omega arith)) ∙ next-first (timed_in (slice_get rows i)) (timed (drop (i + 1) rows)) m h

  -- the first that passes is here, or behind
  pub next-here : (rows : List (Option ℕ × K)) (i t : ℕ) (all : Option ℕ) → Some t ≡ found_by (λ e. cond (test e) (Some e.0) None) (timed_in (slice_get rows i))
      → option_map (λ e. e.0) (find test (timed (drop i rows))) ≡ all → Some t ≡ all
  next-here rows i t all h so_far = sym (next-step rows i (Some t) h) ∙ so_far

  pub next-behind : (rows : List (Option ℕ × K)) (i : ℕ) (all : Option ℕ) → None ≡ found_by (λ e. cond (test e) (Some e.0) None) (timed_in (slice_get rows i))
      → option_map (λ e. e.0) (find test (timed (drop i rows))) ≡ all → option_map (λ e. e.0) (find test (timed (drop (i + 1) rows))) ≡ all
  next-behind rows i all h so_far = sym (next-step rows i None h) ∙ so_far

  pub next-none : (rows : List (Option ℕ × K)) (i : ℕ) (all : Option ℕ) → length rows ≤ i → option_map (λ e. e.0) (find test (timed (drop i rows))) ≡ all → None ≡ all
  next-none rows i all h so_far = sym (ap (λ es. option_map (λ e. e.0) (find test es)) (timed-end rows i h)) ∙ so_far
