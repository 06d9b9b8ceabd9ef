-- The grants of one key at one node: they go by turns, and each has one holder or one release that waits. The laws are of any
-- log whose entries do what an act has to supply (`IsTurn`).
use Rattle.std.specs.Prelude.{◌≡◌, ◌⊎◌, ℕ, ◌+◌, ◌≤◌, Bool, true, false, not, ◌&&◌, cond, List, [], ◌∷◌, ◌++◌, length, take, sum_by, Some, slice_get}
use Rattle.std.specs.List.{AllByRecursion as Each, list_any}
use Rattle.p2p_log.specs.declared.entry.Entry.{Entry}
use Rattle.p2p_log_rules.specs.Facts.{history}

abbrev pub one : Bool → ℕ
one b = cond b 1 0

-- whether something stands in a list
abbrev pub IsAmong : {X : Type 0} → List X → X → Type 0
IsAmong xs x = (i : ℕ) × (slice_get xs i ≡ Some x)

-- what is read off a log of the grants of one key at one node; each fact of an entry is given those before it
pub record Granting : Type 0 where
  -- whether the entry grants the key, takes a release of it, or stops the node
  pub grants : List Entry → Entry → Bool
  pub frees : List Entry → Entry → Bool
  pub stops : List Entry → Entry → Bool
  -- how many things hold the grant after these entries, and how many releases of it wait
  pub holders : List Entry → ℕ
  pub waiting : List Entry → ℕ
  -- how many releases the entry puts
  pub released : List Entry → Entry → ℕ
  -- the connections of the key that live after these entries, each by the number of the entry in which it began
  pub alive : List Entry → List ℕ
  -- and those that begin in the entry
  pub begins : List Entry → Entry → List ℕ

-- ---- turns

-- a turn is true for a grant, and false for a release that is taken
abbrev pub turn_by : Granting → List Entry → Entry → List Bool
turn_by g before e = cond (g.grants before e) (true ∷ []) (cond (g.frees before e) (false ∷ []) [])

abbrev pub turns : Granting → List Entry → List Bool
turns g log = history (turn_by g) log

-- each turn is other than the one before it
abbrev pub alternate : Bool → List Bool → Bool
alternate held [] = true
alternate held (turn ∷ turns) = cond held (not turn) turn && alternate turn turns

-- the last turn
abbrev pub held_after : Bool → List Bool → Bool
held_after held [] = held
held_after held (turn ∷ turns) = held_after turn turns

-- whether the key is held: the last turn was a grant
abbrev pub is_held : Granting → List Entry → Bool
is_held g log = held_after false (turns g log)

abbrev pub is_stopped : Granting → List Entry → Bool
is_stopped g log = list_any (λ b. b) (history (λ before e. g.stops before e ∷ []) log)

-- how often something came to pass in all entries
abbrev pub times : (List Entry → Entry → ℕ) → List Entry → ℕ
times f log = sum_by (λ n. n) (history (λ before e. f before e ∷ []) log)

-- ---- what an act has to supply

-- an entry that lets the node run
pub record Hands (g : Granting) (before : List Entry) (e : Entry) : Type 0 where
  -- what held, and what is granted, holds, or a release is put for it
  pub holding : g.holders before + one (g.grants before e) ≡ g.holders (before ++ e ∷ []) + g.released before e
  -- a release waits until it is taken
  pub waiting : g.waiting before + g.released before e ≡ g.waiting (before ++ e ∷ []) + one (g.frees before e)
  -- a key is granted that is not held, at a node that runs, by an entry that takes no release of it
  pub free : g.grants before e ≡ true → is_held g before ≡ false
  pub up : is_stopped g before ≡ true → g.grants before e ≡ false
  pub apart : g.grants before e ≡ true → g.frees before e ≡ false
  pub runs : g.stops before e ≡ false

-- an entry that stops it: nothing is left that holds, or that waits
pub record Halts (g : Granting) (before : List Entry) (e : Entry) : Type 0 where
  pub none_holds : g.holders (before ++ e ∷ []) ≡ 0
  pub none_waits : g.waiting (before ++ e ∷ []) ≡ 0
  pub no_grant : g.grants before e ≡ false
  pub no_turn : g.frees before e ≡ false
  pub stops : g.stops before e ≡ true

-- what each entry does; a connection that lives after it lived before it or begins in it, and holds the grant
pub record IsTurn (g : Granting) (before : List Entry) (e : Entry) : Type 0 where
  pub hands : Hands g before e ⊎ Halts g before e
  pub kept : List ℕ
  pub lived : Each (IsAmong (g.alive before)) kept
  pub alive : g.alive (before ++ e ∷ []) ≡ kept ++ g.begins before e
  pub numbered : Each (λ c. c ≡ length before) (g.begins before e)
  pub hold : length (g.alive (before ++ e ∷ [])) ≤ g.holders (before ++ e ∷ [])

pub record EachIsTurn (g : Granting) (log : List Entry) : Type 0 where
  pub none_holds : g.holders [] ≡ 0
  pub none_waits : g.waiting [] ≡ 0
  pub none_lives : g.alive [] ≡ []
  pub each : (n : ℕ) (e : Entry) → slice_get log n ≡ Some e → IsTurn g (take n log) e

-- ---- the laws

-- grants and taken releases take turns, and a grant is first
abbrev pub GrantsAlternate : Granting → List Entry → Type 0
GrantsAlternate g log = alternate false (turns g log) ≡ true

-- while the node runs, one thing holds a key that is held, or one release of it waits; else none does
abbrev pub HasOneHolder : Granting → List Entry → Type 0
HasOneHolder g log = g.holders log + g.waiting log ≡ cond (is_stopped g log) 0 (one (is_held g log))

-- while the node runs, each grant is held, or a release was put for it
abbrev pub EachIsReleased : Granting → List Entry → Type 0
EachIsReleased g log =
    is_stopped g log ≡ false → times (λ before e. one (g.grants before e)) log ≡ g.holders log + times g.released log

-- a connection of the key that lives is the newest that began
abbrev pub NewestLives : Granting → List Entry → Type 0
NewestLives g log = (c : ℕ) → IsAmong (g.alive log) c → Each (λ b. b ≤ c) (history g.begins log)
