-- Whose connection is kept after one more call.
use Rattle.std.specs.Prelude.{◌≡◌, ℕ, Bool, true, false, cond, not, ◌&&◌, ◌||◌, List, ◌∷◌, Some, None, is_some}
use Rattle.std.specs.Option.{option_or}
use Rattle.std.specs.BTreeMap.{is_at}
use Rattle.std.specs.declared.cmp.Ordering.{Ordering}
use Rattle.p2p_address.specs.declared.peer.Address.{Address}
use Rattle.p2p_tracker_calls.specs.declared.call.Call.{Call}
use Rattle.p2p_tracker_calls.specs.declared.call.Call.TheVariants as call
use Rattle.p2p_tracker_calls.specs.Rules.{Rules}
use Rattle.p2p_tracker_calls.specs.Sets.{is_above, accepted_sets, is_tracked}
use Rattle.p2p_tracker_calls.specs.Grants.{releases, is_held}
use Rattle.p2p_tracker_calls.specs.Blocks.{is_local}
use Rattle.p2p_tracker_calls.specs.Lives.{address_of, is_stale, accepts, connects, is_overwritten}
use Rattle.p2p_tracker_calls.specs.Kills.{is_killed}
use Rattle.p2p_tracker_calls.specs.Keeping.{blocks, begun_by, kept_of, is_kept}

module _ {P : Type 0} (cmp : P → P → Ordering) (rules : Rules P) (calls : List (Call P)) (q : P) where
  -- the connection that is kept is the one that the call began, or else the one before
  abbrev pub IsLastBegun : Type 0
  IsLastBegun = (c : Call P) → kept_of cmp rules (c ∷ calls) q ≡ cond (is_kept cmp rules (c ∷ calls) q) (option_or (begun_by cmp rules c calls q) (kept_of cmp rules calls q)) None

  -- a call that is no accepted connect, release or block of the key, and leaves it as stale and as tracked as it was, changes nothing
  abbrev pub IsLeft : Type 0
  IsLeft = (c : Call P) → connects cmp rules c calls q ≡ false → releases cmp c q ≡ false → blocks cmp c q ≡ false
      → is_stale cmp rules (c ∷ calls) q ≡ is_stale cmp rules calls q → is_tracked cmp rules (c ∷ calls) q ≡ is_tracked cmp rules calls q
      → is_kept cmp rules (c ∷ calls) q ≡ is_kept cmp rules calls q

  -- neither a reservation that is asked for nor the end of blocks changes anything
  abbrev pub IsLeftByDial : Type 0
  IsLeftByDial = (p : P) (at jitter : ℕ) (granted : Bool) → is_kept cmp rules (call.Dial p at jitter granted ∷ calls) q ≡ is_kept cmp rules calls q

  abbrev pub IsLeftByListen : Type 0
  IsLeftByListen = (p : P) (at jitter : ℕ) (granted : Bool) → is_kept cmp rules (call.Listen p at jitter granted ∷ calls) q ≡ is_kept cmp rules calls q

  abbrev pub IsLeftByUnblock : Type 0
  IsLeftByUnblock = (at : ℕ) → is_kept cmp rules (call.UnblockExpired at ∷ calls) q ≡ is_kept cmp rules calls q

  -- a connect that has a moment keeps the key where it is accepted, and else changes nothing
  abbrev pub IsKeptByConnect : Type 0
  IsKeptByConnect = (p : P) (at conn : ℕ)
      → is_kept cmp rules (call.Connect p (Some at) conn ∷ calls) q ≡ ((is_at (cmp p) q && accepts cmp rules calls q (Some at)) || is_kept cmp rules calls q)

  abbrev pub IsEndedByRelease : Type 0
  IsEndedByRelease = (p : P) → is_kept cmp rules (call.Release p ∷ calls) q ≡ (not (is_at (cmp p) q) && is_kept cmp rules calls q)

  abbrev pub IsEndedByBlock : Type 0
  IsEndedByBlock = (p : P) (at : ℕ) → is_kept cmp rules (call.Block p at ∷ calls) q ≡ (not (is_at (cmp p) q) && is_kept cmp rules calls q)

  -- after a peer set, and after an overwrite, which moves nobody between sets
  abbrev pub IsKeptByTrack : Type 0
  IsKeptByTrack = (index : ℕ) (primary secondary : List (P × Address)) → is_kept cmp rules (call.Track index primary secondary ∷ calls) q
      ≡ (is_kept cmp rules calls q && not (is_stale cmp rules (call.Track index primary secondary ∷ calls) q) && is_tracked cmp rules (call.Track index primary secondary ∷ calls) q)

  abbrev pub IsKeptByOverwrite : Type 0
  IsKeptByOverwrite = (p : P) (address : Address)
      → is_kept cmp rules (call.Overwrite p address ∷ calls) q ≡ (is_kept cmp rules calls q && not (is_stale cmp rules (call.Overwrite p address ∷ calls) q))

  -- a peer set that is refused changes nothing
  abbrev pub IsLeftByRefusedTrack : Type 0
  IsLeftByRefusedTrack = (index : ℕ) (primary secondary : List (P × Address)) → is_above index (accepted_sets cmp calls) ≡ false
      → is_kept cmp rules (call.Track index primary secondary ∷ calls) q ≡ is_kept cmp rules calls q

  -- of the keys that are kept and held, an accepted peer set leaves exactly those that it doesn't kill
  abbrev pub IsEndedByKill : Type 0
  IsEndedByKill = (index : ℕ) (primary secondary : List (P × Address)) → is_above index (accepted_sets cmp calls) ≡ true
      → is_kept cmp rules calls q ≡ true → is_held cmp calls q ≡ true → is_local cmp rules q ≡ false
      → is_kept cmp rules (call.Track index primary secondary ∷ calls) q ≡ not (is_killed cmp rules index primary secondary calls q)

  -- of the keys that are kept and held and have an address, an overwrite leaves exactly those whose address it doesn't change
  abbrev pub IsEndedByChange : Type 0
  IsEndedByChange = (p : P) (address : Address)
      → is_kept cmp rules calls q ≡ true → is_held cmp calls q ≡ true → is_local cmp rules q ≡ false → is_some (address_of cmp rules calls q) ≡ true
      → is_kept cmp rules (call.Overwrite p address ∷ calls) q ≡ not (is_at (cmp p) q && is_overwritten cmp rules calls q address)

module _ {P : Type 0} (cmp : P → P → Ordering) (rules : Rules P) (calls : List (Call P)) (q : P) where
  -- where connects are of held keys, who is kept is held
  abbrev pub IsHeldWhileKept : Type 0
  IsHeldWhileKept = (c : Call P) → (is_kept cmp rules calls q ≡ true → is_held cmp calls q ≡ true) → (connects cmp rules c calls q ≡ true → is_held cmp calls q ≡ true)
      → is_kept cmp rules (c ∷ calls) q ≡ true → is_held cmp (c ∷ calls) q ≡ true

-- what each call makes of a kept key
pub record IsKeptAfter {P : Type 0} (cmp : P → P → Ordering) (rules : Rules P) (calls : List (Call P)) (q : P) : Type 0 where
  pub begun : IsLastBegun cmp rules calls q
  pub left : IsLeft cmp rules calls q
  pub dial : IsLeftByDial cmp rules calls q
  pub listen : IsLeftByListen cmp rules calls q
  pub unblock : IsLeftByUnblock cmp rules calls q
  pub connect : IsKeptByConnect cmp rules calls q
  pub release : IsEndedByRelease cmp rules calls q
  pub block : IsEndedByBlock cmp rules calls q
  pub track : IsKeptByTrack cmp rules calls q
  pub overwrite : IsKeptByOverwrite cmp rules calls q
  pub refused : IsLeftByRefusedTrack cmp rules calls q
  pub kill : IsEndedByKill cmp rules calls q
  pub change : IsEndedByChange cmp rules calls q
  pub held : IsHeldWhileKept cmp rules calls q
