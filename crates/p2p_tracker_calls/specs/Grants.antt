-- Who is held. A grant holds a key until the next release of it.
use Rattle.std.specs.Prelude.{ℕ, Bool, true, false, cond, not, ◌&&◌, List, [], ◌∷◌, Option, Some, None}
use Rattle.std.specs.BTreeMap.{is_at}
use Rattle.std.specs.declared.cmp.Ordering.{Ordering}
use Rattle.p2p_tracker_calls.specs.declared.call.Call.{Call}
use Rattle.p2p_tracker_calls.specs.declared.call.Call.TheVariants as call

-- the moment of a grant and its jitter
abbrev pub Grant : Type 0
Grant = ℕ × ℕ

abbrev pub held_by : Option Grant → Bool → Bool → Bool
held_by (Some g) released before = true
held_by None released before = not released && before

module _ {P : Type 0} (cmp : P → P → Ordering) where
  -- what a call grants the key
  abbrev pub grant_by : Call P → P → Option Grant
  grant_by (call.Dial p at jitter granted) q = cond (granted && is_at (cmp p) q) (Some (at, jitter)) None
  grant_by (call.Listen p at jitter granted) q = cond (granted && is_at (cmp p) q) (Some (at, jitter)) None
  grant_by _ q = None

  -- the call releases the key
  abbrev pub releases : Call P → P → Bool
  releases (call.Release p) q = is_at (cmp p) q
  releases _ q = false

  -- a grant of the key stands with no later release of it
  unfoldable pub is_held : List (Call P) → P → Bool
  is_held [] q = false
  is_held (c ∷ calls) q = held_by (grant_by c q) (releases c q) (is_held calls q)
