-- The grants and releases of a key by turns.
use Rattle.std.specs.Prelude.{◌≡◌, Bool, true, false, cond, not, ◌&&◌, List, [], ◌∷◌, Option, Some, None}
use Rattle.std.specs.declared.cmp.Ordering.{Ordering}
use Rattle.p2p_tracker_calls.specs.declared.call.Call.{Call}
use Rattle.p2p_tracker_calls.specs.declared.call.Call.TheVariants as call
use Rattle.p2p_tracker_calls.specs.Grants.{Grant, grant_by, releases, is_held}

-- a turn is true for a grant, and false for a release. A grant comes first or after a release, and a release after a grant
abbrev pub may_follow : Bool → List Bool → Bool
may_follow turn [] = turn
may_follow turn (before ∷ turns) = cond turn (not before) before

-- neighbours differ, and the oldest is a grant. The turns stand newest first
unfoldable pub alternate : List Bool → Bool
alternate [] = true
alternate (turn ∷ turns) = may_follow turn turns && alternate turns

-- the newest turn is a grant
abbrev pub is_granted_last : List Bool → Bool
is_granted_last [] = false
is_granted_last (turn ∷ turns) = turn

-- the turns after a call, which may grant the key, or release a held one
abbrev pub turns_by : Option Grant → Bool → List Bool → List Bool
turns_by (Some g) ends turns = true ∷ turns
turns_by None ends turns = cond ends (false ∷ turns) turns

module _ {P : Type 0} (cmp : P → P → Ordering) where
  -- the grants of the key, and the releases of it that end a hold, newest first
  unfoldable pub turns_of : List (Call P) → P → List Bool
  turns_of [] q = []
  turns_of (c ∷ calls) q = turns_by (grant_by cmp c q) (releases cmp c q && is_held cmp calls q) (turns_of calls q)

  -- the call grants a key that is held
  abbrev pub grants_held : Call P → List (Call P) → Bool
  grants_held (call.Dial p at jitter granted) calls = granted && is_held cmp calls p
  grants_held (call.Listen p at jitter granted) calls = granted && is_held cmp calls p
  grants_held _ calls = false

  -- no call granted a key that was held
  unfoldable pub grants_none_held : List (Call P) → Bool
  grants_none_held [] = true
  grants_none_held (c ∷ calls) = not (grants_held c calls) && grants_none_held calls

module _ {P : Type 0} (cmp : P → P → Ordering) where
  -- where no call granted a key that was held, the grants and releases of each key alternate, and a grant is first
  abbrev pub GrantsAndReleasesAlternate : Type 0
  GrantsAndReleasesAlternate = (calls : List (Call P)) (q : P) → grants_none_held cmp calls ≡ true → alternate (turns_of cmp calls q) ≡ true

  -- a key is held exactly where its newest turn is a grant
  abbrev pub IsHeldByLastTurn : Type 0
  IsHeldByLastTurn = (calls : List (Call P)) (q : P) → is_held cmp calls q ≡ is_granted_last (turns_of cmp calls q)
