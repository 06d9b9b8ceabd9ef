-- Whose connection is kept.
use Rattle.std.specs.Prelude.{◌≡◌, ℕ, ◌≤◌, Bool, true, false, cond, not, ◌&&◌, ◌||◌, nat_lt, List, [], ◌∷◌, Option, Some, None, is_some}
use Rattle.std.specs.Option.{option_or}
use Rattle.std.specs.List.{list_all}
use Rattle.std.specs.BTreeMap.{is_at}
use Rattle.std.specs.declared.cmp.Ordering.{Ordering}
use Rattle.p2p_tracker_calls.specs.declared.call.Call.{Call}
use Rattle.p2p_tracker_calls.specs.declared.call.Call.TheVariants as call
use Rattle.p2p_tracker_calls.specs.Rules.{Rules}
use Rattle.p2p_tracker_calls.specs.Sets.{is_tracked}
use Rattle.p2p_tracker_calls.specs.Grants.{releases}
use Rattle.p2p_tracker_calls.specs.Lives.{is_stale, is_eligible, accepts}

module _ {P : Type 0} (cmp : P → P → Ordering) where
  -- the call blocks the key, also where that has no effect
  abbrev pub blocks : Call P → P → Bool
  blocks (call.Block p at) q = is_at (cmp p) q
  blocks _ q = false

module _ {P : Type 0} (cmp : P → P → Ordering) (rules : Rules P) where
  -- the call ends a connection of the key: it releases or blocks the key, or the key is stale or in no set after it
  abbrev pub ends_connection : Call P → List (Call P) → P → Bool
  ends_connection c calls q = releases cmp c q || blocks cmp c q || is_stale cmp rules (c ∷ calls) q || not (is_tracked cmp rules (c ∷ calls) q)

  -- the connection that the call begins for the key
  abbrev pub begun_by : Call P → List (Call P) → P → Option ℕ
  begun_by (call.Connect p at conn) calls q = cond (is_at (cmp p) q && accepts cmp rules calls q at) (Some conn) None
  begun_by _ calls q = None

  -- the connection of the last accepted connect of the key, unless since then a call ended it
  unfoldable pub kept_of : List (Call P) → P → Option ℕ
  kept_of [] q = None
  kept_of (c ∷ calls) q = cond (ends_connection c calls q) None (option_or (begun_by c calls q) (kept_of calls q))

  -- a connection of the key is kept
  abbrev pub is_kept : List (Call P) → P → Bool
  is_kept calls q = is_some (kept_of calls q)

-- there is a moment, and it is not after this one
abbrev pub has_come : Option ℕ → ℕ → Bool
has_come None now = false
has_come (Some at) now = not (nat_lt now at)

module _ {P : Type 0} where
  -- if the call is a connect, it has a moment, and that has come
  abbrev pub connects_by : ℕ → Call P → Bool
  connects_by now (call.Connect p at conn) = has_come at now
  connects_by now _ = true

  -- each connect has a moment, and that has come
  abbrev pub all_connect_by : ℕ → List (Call P) → Bool
  all_connect_by now calls = list_all (connects_by now) calls

module _ (P : Type 0) where
  -- what has come has come at each later moment too
  abbrev pub ConnectsStayPast : Type 0
  ConnectsStayPast = (calls : List (Call P)) (now later : ℕ) → now ≤ later → all_connect_by now calls ≡ true → all_connect_by later calls ≡ true

module _ {P : Type 0} (cmp : P → P → Ordering) where
  -- at a moment that no connect comes after, each kept key is eligible
  abbrev pub KeptKeysAreEligible : Type 0
  KeptKeysAreEligible = (rules : Rules P) (calls : List (Call P)) (q : P) (now : ℕ) → all_connect_by now calls ≡ true
      → is_kept cmp rules calls q ≡ true → is_eligible cmp rules calls q now ≡ true

  -- no kept key is stale
  abbrev pub NoKeptKeyIsStale : Type 0
  NoKeptKeyIsStale = (rules : Rules P) (calls : List (Call P)) (q : P) → is_kept cmp rules calls q ≡ true → is_stale cmp rules calls q ≡ false
