-- Which entry passes a test, by its key.
use Rattle.std.proofs.Common.{◌≡◌, ℕ, ◌≤◌, Bool, true, false, cond, not, ◌||◌, List, [], ◌∷◌, Option, Some, None, refl, sym, ap, ◌∙◌, arith, filter_map}
use Rattle.std.proofs.lemmas.Bool.{false≢true, lt-ltb, ltb-true, ltb-false, eqb-true, eq-eqb}
use Rattle.std.proofs.lemmas.Cmp.{eq_by_cmp_equiv}
use Rattle.std.specs.Prelude.{nat_lt, is_some}
use Rattle.std.specs.Cmp.{IsTotalOrder}
use Rattle.std.specs.List.{AllByRecursion, filter, list_any, cons_option}
use Rattle.std.specs.List.Sorted.{IsStrictlySortedBy}
use Rattle.std.specs.Map.{keys_of, lookup}
use Rattle.std.specs.BTreeMap.{is_at}
use Rattle.std.specs.declared.cmp.Ordering.{Ordering}
use Rattle.std.specs.declared.cmp.Ordering.TheVariants.{Less}
use Rattle.p2p_base.specs.Moments.{is_moment}
use Rattle.p2p_address.specs.declared.ip.IpAddr.{IpAddr}
use Rattle.p2p_tracker_calls.specs.Lives.{same_ip}
use Rattle.p2p_tracker_directory.specs.Tracked.{passes}
use Rattle.p2p_tracker_directory.specs.Listed.{is_heard}
use Rattle.p2p_tracker_calls.specs.DialList.{earlier, earliest, comes_by}
use Rattle.p2p_tracker_directory.proofs.Killing.{lookup-flip}
use Rattle.p2p_tracker_directory.proofs.Entries.{lookup_past}
use Rattle.p2p_tracker_directory.proofs.Walks.{apart, equal_by}

any_first : (a b : Bool) → a ≡ true → (a || b) ≡ true
any_first true b e = refl
any_first false b e = absurd (false≢true e)

any_rest : (a b : Bool) → b ≡ true → (a || b) ≡ true
any_rest true b e = refl
any_rest false b e = e

module _ {P X : Type 0} (cmp : P → P → Ordering) (test : P → X → Bool) where
  -- where a key's entry passes, one does
  pub any-entries : (q : P) (es : List (P × X)) → ((k : P) (x : X) → is_at (cmp q) k ≡ true → test q x ≡ test k x)
      → passes (test q) (lookup (is_at (cmp q)) es) ≡ true → list_any (λ e. test e.0 e.1) es ≡ true
  any-entries q [] c h = absurd (false≢true h)
  any-entries q (e ∷ es) c h = at (is_at (cmp q) e.0) refl h (any-entries q es c)
    where
      at : (b : Bool) → is_at (cmp q) e.0 ≡ b → passes (test q) (cond b (Some e.1) (lookup (is_at (cmp q)) es)) ≡ true
          → (passes (test q) (lookup (is_at (cmp q)) es) ≡ true → list_any (λ x. test x.0 x.1) es ≡ true) → (test e.0 e.1 || list_any (λ x. test x.0 x.1) es) ≡ true
      at true k g i = any_first (test e.0 e.1) (list_any (λ x. test x.0 x.1) es) (sym (c e.0 e.1 k) ∙ g)
      at false k g i = any_rest (test e.0 e.1) (list_any (λ x. test x.0 x.1) es) (i g)

module _ {P X : Type 0} {cmp : P → P → Ordering} (o : IsTotalOrder cmp) (test : P → X → Bool) where
  later : (e : P × X) (es : List (P × X)) (q : P) → AllByRecursion (λ y. cmp e.0 y ≡ Less) (keys_of es) → passes (test q) (lookup (is_at (cmp q)) es) ≡ true
      → passes (test q) (cond (is_at (cmp q) e.0) (Some e.1) (lookup (is_at (cmp q)) es)) ≡ true
  later e es q above h = at (is_at (cmp q) e.0) refl
    where
      at : (b : Bool) → is_at (cmp q) e.0 ≡ b → passes (test q) (cond b (Some e.1) (lookup (is_at (cmp q)) es)) ≡ true
      at false k = h
      at true k =
          let same = sym ((eq_by_cmp_equiv o).symm q e.0) ∙ k in
          let none = lookup-flip o q es ∙ lookup_past o es q (apart o e.0 q (keys_of es) (equal_by (cmp e.0 q) same) above) in
          absurd (false≢true (sym (ap (passes (test q)) none) ∙ h))

  -- where an entry passes, some key's does
  pub entries-any : (es : List (P × X)) → IsStrictlySortedBy cmp (keys_of es) → list_any (λ e. test e.0 e.1) es ≡ true
      → (q : P) × (passes (test q) (lookup (is_at (cmp q)) es) ≡ true)
  unfolding IsStrictlySortedBy
  entries-any [] s h = absurd (false≢true h)
  entries-any (e ∷ es) s h = at (test e.0 e.1) refl h (entries-any es s.1)
    where
      at : (b : Bool) → test e.0 e.1 ≡ b → (b || list_any (λ x. test x.0 x.1) es) ≡ true
          → (list_any (λ x. test x.0 x.1) es ≡ true → (q : P) × (passes (test q) (lookup (is_at (cmp q)) es) ≡ true))
          → (q : P) × (passes (test q) (cond (is_at (cmp q) e.0) (Some e.1) (lookup (is_at (cmp q)) es)) ≡ true)
      at true k g i = (e.0, ap (λ b. passes (test e.0) (cond b (Some e.1) (lookup (is_at (cmp e.0)) es))) ((eq_by_cmp_equiv o).refl e.0) ∙ k)
      at false k g i = let found = i g in (found.0, later e es found.0 s.0 found.1)

module _ {P X : Type 0} (cmp : P → P → Ordering) (test : P × X → Bool) where
  all_filter : (Q : P → Type 0) (es : List (P × X)) → AllByRecursion Q (keys_of es) → AllByRecursion Q (keys_of (filter test es))
  all_filter Q [] a = tt
  all_filter Q (e ∷ es) a = at (test e) (all_filter Q es a.1)
    where
      at : (b : Bool) → AllByRecursion Q (keys_of (filter test es)) → AllByRecursion Q (keys_of (cond b (e ∷ filter test es) (filter test es)))
      at true i = (a.0, i)
      at false i = i

  -- the keys of the entries that pass stand in order
  pub sorted-filter : (es : List (P × X)) → IsStrictlySortedBy cmp (keys_of es) → IsStrictlySortedBy cmp (keys_of (filter test es))
  unfolding IsStrictlySortedBy
  sorted-filter [] s = tt
  sorted-filter (e ∷ es) s = at (test e) (sorted-filter es s.1)
    where
      at : (b : Bool) → IsStrictlySortedBy cmp (keys_of (filter test es)) → IsStrictlySortedBy cmp (keys_of (cond b (e ∷ filter test es) (filter test es)))
      at true i = (all_filter (λ y. cmp e.0 y ≡ Less) es s.0, i)
      at false i = i

module _ {X : Type 0} where
  -- an address is heard where an element gives it
  pub is_heard-filter_map : (f : X → Option IpAddr) (source : IpAddr) (xs : List X) → is_heard (filter_map f xs) source ≡ list_any (λ x. passes (λ ip. same_ip ip source) (f x)) xs
  is_heard-filter_map f source [] = refl
  is_heard-filter_map f source (x ∷ xs) = at (f x) (is_heard-filter_map f source xs)
    where
      at : (r : Option IpAddr) → is_heard (filter_map f xs) source ≡ list_any (λ y. passes (λ ip. same_ip ip source) (f y)) xs
          → is_heard (cons_option r (filter_map f xs)) source ≡ (passes (λ ip. same_ip ip source) r || list_any (λ y. passes (λ ip. same_ip ip source) (f y)) xs)
      at None i = i
      at (Some ip) i = ap (λ b. same_ip ip source || b) i

  -- the least moment is one that an element gives
  pub earliest-given : (f : X → Option ℕ) (xs : List X) (n : ℕ) → earliest f xs ≡ Some n → list_any (λ x. is_moment (f x) n) xs ≡ true
  earliest-given f [] n h = absurd (false≢true (ap is_some h))
  earliest-given f (x ∷ xs) n h = at (f x) (earliest f xs) h (earliest-given f xs n)
    where
      less : (b : Bool) (u v : ℕ) → Some (cond b v u) ≡ Some n → (Some v ≡ Some n → list_any (λ y. is_moment (f y) n) xs ≡ true) → (is_moment (Some u) n || list_any (λ y. is_moment (f y) n) xs) ≡ true
      less true u v g i = any_rest (is_moment (Some u) n) (list_any (λ y. is_moment (f y) n) xs) (i g)
      less false u v g i = let same : u ≡ n = cc in any_first (is_moment (Some u) n) (list_any (λ y. is_moment (f y) n) xs) (eq-eqb u n same)

      at : (a r : Option ℕ) → earlier a r ≡ Some n → (r ≡ Some n → list_any (λ y. is_moment (f y) n) xs ≡ true) → (is_moment a n || list_any (λ y. is_moment (f y) n) xs) ≡ true
      at None r g i = i g
      at (Some u) None g i = let same : u ≡ n = cc in any_first (is_moment (Some u) n) (list_any (λ y. is_moment (f y) n) xs) (eq-eqb u n same)
      at (Some u) (Some v) g i = less (nat_lt v u) u v g i

pub no_sooner : (t m : ℕ) → m ≤ t → not (nat_lt t m) ≡ true
no_sooner t m h = at (nat_lt t m) refl
  where
    at : (b : Bool) → nat_lt t m ≡ b → not b ≡ true
    at true e = let less = ltb-true t m e in absurd (omega (arith, h, less))
    at false e = refl

pub no_later : (t m : ℕ) → not (nat_lt t m) ≡ true → m ≤ t
no_later t m h = at (nat_lt t m) refl h
  where
    at : (b : Bool) → nat_lt t m ≡ b → not b ≡ true → m ≤ t
    at true e g = absurd (false≢true g)
    at false e g = ltb-false t m e

-- what comes by a moment does so beside another one
comes-earlier_left : (a r : Option ℕ) (t : ℕ) → is_moment a t ≡ true → comes_by (earlier a r) t ≡ true
comes-earlier_left None r t h = absurd (false≢true h)
comes-earlier_left (Some u) None t h = let same = eqb-true u t h in no_sooner t u (omega (arith, same))
comes-earlier_left (Some u) (Some v) t h = at (nat_lt v u) refl (eqb-true u t h)
  where
    at : (b : Bool) → nat_lt v u ≡ b → u ≡ t → not (nat_lt t (cond b v u)) ≡ true
    at true e same = let less = ltb-true v u e in no_sooner t v (omega (arith, less, same))
    at false e same = no_sooner t u (omega (arith, same))

pub comes-earlier_right : (a r : Option ℕ) (t : ℕ) → comes_by r t ≡ true → comes_by (earlier a r) t ≡ true
comes-earlier_right None r t h = h
comes-earlier_right (Some u) None t h = absurd (false≢true h)
comes-earlier_right (Some u) (Some v) t h = at (nat_lt v u) refl (no_later t v h)
  where
    at : (b : Bool) → nat_lt v u ≡ b → v ≤ t → not (nat_lt t (cond b v u)) ≡ true
    at true e least = no_sooner t v least
    at false e least = let more = ltb-false v u e in no_sooner t u (omega (arith, more, least))

-- the least moment comes by each that an element gives
pub earliest-comes : {X : Type 0} (f : X → Option ℕ) (xs : List X) (t : ℕ) → list_any (λ x. is_moment (f x) t) xs ≡ true → comes_by (earliest f xs) t ≡ true
earliest-comes f [] t h = absurd (false≢true h)
earliest-comes f (x ∷ xs) t h = at (is_moment (f x) t) refl h (earliest-comes f xs t)
  where
    at : (b : Bool) → is_moment (f x) t ≡ b → (b || list_any (λ y. is_moment (f y) t) xs) ≡ true
        → (list_any (λ y. is_moment (f y) t) xs ≡ true → comes_by (earliest f xs) t ≡ true) → comes_by (earlier (f x) (earliest f xs)) t ≡ true
    at true e g i = comes-earlier_left (f x) (earliest f xs) t e
    at false e g i = comes-earlier_right (f x) (earliest f xs) t (i g)

-- the least of three
pub earlier-earlier : (a b r : Option ℕ) → earlier (earlier a b) r ≡ earlier a (earlier b r)
earlier-earlier None b r = refl
earlier-earlier (Some u) None r = refl
earlier-earlier (Some u) (Some v) None = refl
earlier-earlier (Some u) (Some v) (Some w) = at (nat_lt v u) refl (nat_lt w v) refl
  where
    chosen : (b : Bool) (x y : ℕ) → nat_lt x y ≡ b → Some (cond (nat_lt x y) x y) ≡ Some (cond b x y)
    chosen b x y e = ap (λ c. Some (cond c x y)) e

    at : (b : Bool) → nat_lt v u ≡ b → (c : Bool) → nat_lt w v ≡ c
        → earlier (Some (cond b v u)) (Some w) ≡ earlier (Some u) (Some (cond c w v))
    at true e true f = let less = ltb-true v u e in let least = ltb-true w v f in
        chosen true w v f ∙ sym (chosen true w u (lt-ltb w u (omega (arith, less, least))))
    at true e false f = chosen false w v f ∙ sym (chosen true v u e)
    at false e true f = refl
    at false e false f = let more = ltb-false v u e in let most = ltb-false w v f in
        chosen false w u (by (nat_lt w u) refl (omega (arith, more, most))) ∙ sym (chosen false v u e)
      where
        by : (d : Bool) → nat_lt w u ≡ d → u ≤ w → nat_lt w u ≡ false
        by true g h = let below = ltb-true w u g in absurd (omega (arith, below, h))
        by false g h = g
