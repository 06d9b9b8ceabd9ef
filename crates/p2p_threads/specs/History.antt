-- The history of an object's calls, each with its reply, and the calls that one caller made in it, each with its place.
use Rattle.std.specs.Prelude.{◌≡◌, ℕ, ◌+◌, ◌≤◌, ◌==◌, ltb, Bool, true, false, cond, List, [], ◌∷◌, length, slice_get, Option, Some, None}

module _ {O C R : Type 0} (reply : O → C → R) (next : O → C → O) where
  -- the object after the calls, one after another
  abbrev pub after : O → List (C × R) → O
  after o [] = o
  after o (e ∷ h) = after (next o e.0) h

  -- the calls, each with the reply that is given at its place
  abbrev pub replayed : O → List (C × R) → List (C × R)
  replayed o [] = []
  replayed o (e ∷ h) = (e.0, reply o e.0) ∷ replayed (next o e.0) h

  -- each reply in the history is the one that is given at its place
  abbrev pub Replays : O → List (C × R) → Type 0
  Replays o h = replayed o h ≡ h

abbrev pub weight : Bool → ℕ
weight true = 1
weight false = 0

module _ {E : Type 0} where
  -- the longer of two beginnings of one history
  abbrev pub longer : List E → List E → List E
  longer xs ys = cond (ltb (length xs) (length ys)) ys xs

  abbrev pub shorter : List E → List E → List E
  shorter xs ys = cond (ltb (length xs) (length ys)) xs ys

  -- how often a place stands among these
  abbrev pub times : ℕ → List (ℕ × E) → ℕ
  times p [] = 0
  times p (m ∷ ms) = weight (m.0 == p) + times p ms

  -- no place stands there twice
  abbrev pub IsEachOnce : List (ℕ × E) → Type 0
  IsEachOnce ms = (p : ℕ) → times p ms ≤ 1

  -- what stands there at the place
  abbrev pub entry_at : List (ℕ × E) → ℕ → Option E
  entry_at [] p = None
  entry_at (m ∷ ms) p = cond (m.0 == p) (Some m.1) (entry_at ms p)

  -- each of these stands in the history at its place
  abbrev pub Stands : List E → List (ℕ × E) → Type 0
  Stands h [] = Unit {0}
  Stands h (m ∷ ms) = (slice_get h m.0 ≡ Some m.1) × Stands h ms
