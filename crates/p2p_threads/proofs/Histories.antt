-- Beginnings of one history, and its replay.
use Rattle.std.proofs.Common.{◌≡◌, ℕ, zero, suc, ◌<◌, ◌≤◌, ltb, Bool, true, false, cond, List, [], ◌∷◌, ◌++◌, length, slice_get, Some, refl, sym, ap, ◌∙◌, arith, append_assoc, length-append}
use Rattle.std.proofs.lemmas.List.{append-nil}
use Rattle.std.proofs.lemmas.Bool.Decides.{nat_tests}
use mathlib.Core.List.{IsPrefix}
use Rattle.p2p_threads.specs.History.{after, Replays, longer, shorter, Stands}

module _ {E : Type 0} where
  pub begins_self : (xs : List E) → IsPrefix xs xs
  begins_self xs = ([], append-nil xs)

  pub begins_same : (xs ys : List E) → xs ≡ ys → IsPrefix xs ys
  begins_same xs ys e = ([], append-nil xs ∙ e)

  pub begins_none : (ys : List E) → IsPrefix [] ys
  begins_none ys = (ys, refl)

  pub begins_more : (xs ys zs : List E) → IsPrefix xs ys → IsPrefix ys zs → IsPrefix xs zs
  begins_more xs ys zs p q = (p.0 ++ q.0, sym (append_assoc xs p.0 q.0) ∙ (ap (λ w. w ++ q.0) p.1 ∙ q.1))

  pub begins_longer : (xs ys zs : List E) → IsPrefix xs ys → IsPrefix xs (ys ++ zs)
  begins_longer xs ys zs p = begins_more xs ys (ys ++ zs) p (zs, refl)

  pub begins_length : (xs ys : List E) → IsPrefix xs ys → length xs ≤ length ys
  begins_length xs ys p = let e = ap (λ (l : List E). length l) p.1 in omega (arith, length-append xs p.0)

  -- of two beginnings of one list the shorter begins the longer
  pub begins_shorter : (xs ys zs : List E) → IsPrefix xs zs → IsPrefix ys zs → length xs ≤ length ys → IsPrefix xs ys
  begins_shorter [] ys zs p q le = (ys, refl)
  begins_shorter (x ∷ xs) [] zs p q le = absurd (omega arith)
  begins_shorter (x ∷ xs) (y ∷ ys) [] p q le = absurd (cc (p.1))
  begins_shorter (x ∷ xs) (y ∷ ys) (z ∷ zs) p q le =
      let heads : x ≡ y = cc (p.1, q.1) in
      let r = begins_shorter xs ys zs (p.0, cc (p.1)) (q.0, cc (q.1)) (omega arith) in
      (r.0, cc (heads, r.1))

  -- a beginning that is as long is the whole
  pub begins_whole : (xs ys : List E) → IsPrefix xs ys → length xs ≡ length ys → xs ≡ ys
  begins_whole [] [] p n = refl
  begins_whole [] (y ∷ ys) p n = absurd (omega arith)
  begins_whole (x ∷ xs) [] p n = absurd (omega arith)
  begins_whole (x ∷ xs) (y ∷ ys) p n =
      let heads : x ≡ y = cc (p.1) in
      let r = begins_whole xs ys (p.0, cc (p.1)) (omega arith) in cc (heads, r)

  -- what stands in a beginning stands in the whole
  pub begins_get : (xs ys : List E) (k : ℕ) (x : E) → IsPrefix xs ys → slice_get xs k ≡ Some x → slice_get ys k ≡ Some x
  begins_get [] ys k x p h = absurd (cc)
  begins_get (y ∷ xs) [] k x p h = absurd (cc (p.1))
  begins_get (y ∷ xs) (z ∷ ys) zero x p h = cc (p.1, h)
  begins_get (y ∷ xs) (z ∷ ys) (suc k) x p h = begins_get xs ys k x (p.0, cc (p.1)) h

  last_same : (xs : List E) (x y : E) → xs ++ x ∷ [] ≡ xs ++ y ∷ [] → x ≡ y
  last_same [] x y e = cc
  last_same (z ∷ xs) x y e = last_same xs x y (cc)

  pub same_last : (xs l : List E) (x y : E) → l ≡ xs ++ x ∷ [] → l ≡ xs ++ y ∷ [] → x ≡ y
  same_last xs l x y p q = last_same xs x y (sym p ∙ q)

  pub get_last : (xs : List E) (x : E) → slice_get (xs ++ x ∷ []) (length xs) ≡ Some x
  get_last [] x = refl
  get_last (y ∷ xs) x = get_last xs x

  pub get_below : (xs : List E) (k : ℕ) (x : E) → slice_get xs k ≡ Some x → k < length xs
  get_below [] k x h = absurd (cc)
  get_below (y ∷ xs) zero x h = omega arith
  get_below (y ∷ xs) (suc k) x h = let r = get_below xs k x h in omega arith

  pub stands_longer : (xs ys : List E) (ms : List (ℕ × E)) → IsPrefix xs ys → Stands xs ms → Stands ys ms
  stands_longer xs ys [] p s = tt
  stands_longer xs ys (m ∷ ms) p s = (begins_get xs ys m.0 m.1 p s.0, stands_longer xs ys ms p s.1)

  pub stands_all : (h : List E) (ms ns : List (ℕ × E)) → Stands h ms → Stands h ns → Stands h (ms ++ ns)
  stands_all h [] ns s t = t
  stands_all h (m ∷ ms) ns s t = (s.0, stands_all h ms ns s.1 t)

  -- the longer and the shorter are the two lists, in one order
  longer_by : (b : Bool) (xs ys zs : List E) → ltb (length xs) (length ys) ≡ b → IsPrefix xs zs → IsPrefix ys zs → IsPrefix (cond b ys xs) zs × IsPrefix (cond b xs ys) zs × (length (cond b xs ys) ≤ length (cond b ys xs))
  longer_by true xs ys zs e p q = (q, p, grind (arith, nat_tests))
  longer_by false xs ys zs e p q = (p, q, grind (arith, nat_tests))

  pub longer_begins : (xs ys zs : List E) → IsPrefix xs zs → IsPrefix ys zs → IsPrefix (longer xs ys) zs × IsPrefix (shorter xs ys) zs × (length (shorter xs ys) ≤ length (longer xs ys))
  longer_begins xs ys zs p q = longer_by (ltb (length xs) (length ys)) xs ys zs refl p q

  both_by : (b : Bool) (xs ys : List E) → IsPrefix (cond b xs ys) (cond b ys xs) → IsPrefix xs (cond b ys xs) × IsPrefix ys (cond b ys xs)
  both_by true xs ys p = (p, begins_self ys)
  both_by false xs ys p = (begins_self xs, p)

  -- where the shorter begins the longer, both begin it
  pub both_begin : (xs ys : List E) → IsPrefix (shorter xs ys) (longer xs ys) → IsPrefix xs (longer xs ys) × IsPrefix ys (longer xs ys)
  both_begin xs ys p = both_by (ltb (length xs) (length ys)) xs ys p

  lengths_by : (b : Bool) (xs ys : List E) → ltb (length xs) (length ys) ≡ b → length (cond b xs ys) ≤ length (cond b ys xs)
  lengths_by true xs ys e = grind (arith, nat_tests)
  lengths_by false xs ys e = grind (arith, nat_tests)

  pub longer_length : (xs ys : List E) → length (shorter xs ys) ≤ length (longer xs ys)
  longer_length xs ys = lengths_by (ltb (length xs) (length ys)) xs ys refl

  whole_by : (b : Bool) (xs ys : List E) → ltb (length xs) (length ys) ≡ b → IsPrefix xs ys → (cond b ys xs ≡ ys) × (cond b xs ys ≡ xs)
  whole_by true xs ys e p = (refl, refl)
  whole_by false xs ys e p =
      let le = begins_length xs ys p in
      let ge : length ys ≤ length xs = grind (arith, nat_tests) in
      let same = begins_whole xs ys p (omega arith) in (same, sym same)

  -- of a beginning and the whole, the whole is the longer
  pub longer_whole : (xs ys : List E) → IsPrefix xs ys → (longer xs ys ≡ ys) × (shorter xs ys ≡ xs)
  longer_whole xs ys p = whole_by (ltb (length xs) (length ys)) xs ys refl p

module _ {O C R : Type 0} (reply : O → C → R) (next : O → C → O) where
  pub after-push : (o : O) (h : List (C × R)) (e : C × R) → after reply next o (h ++ e ∷ []) ≡ next (after reply next o h) e.0
  after-push o [] e = refl
  after-push o (x ∷ h) e = after-push (next o x.0) h e

  pub replays-push : (o : O) (h : List (C × R)) (e : C × R) → Replays reply next o h → e.1 ≡ reply (after reply next o h) e.0 → Replays reply next o (h ++ e ∷ [])
  replays-push o [] e p q = λ i. (e.0, sym q i) ∷ []
  replays-push o (x ∷ h) e p q =
      let heads : x ≡ (x.0, reply o x.0) = cc in
      let r = replays-push (next o x.0) h e (cc (p)) q in cc
