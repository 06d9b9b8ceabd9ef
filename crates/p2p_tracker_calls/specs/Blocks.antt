-- Who is blocked, and until when.
use Rattle.std.specs.Prelude.{ℕ, ◌+◌, Bool, false, cond, not, ◌&&◌, nat_lt, List, [], ◌∷◌, Option, Some, None}
use Rattle.std.specs.BTreeMap.{is_at}
use Rattle.std.specs.declared.cmp.Ordering.{Ordering}
use Rattle.p2p_tracker_calls.specs.declared.call.Call.{Call}
use Rattle.p2p_tracker_calls.specs.declared.call.Call.TheVariants as call
use Rattle.p2p_tracker_calls.specs.Rules.{Rules}

-- the block ends after the moment
abbrev pub lasts_at : Option ℕ → ℕ → Bool
lasts_at None t = false
lasts_at (Some end) t = nat_lt t end

-- the block has ended at the moment
abbrev pub is_over : Option ℕ → ℕ → Bool
is_over None t = false
is_over (Some end) t = not (nat_lt t end)

-- the block without one that has ended
abbrev pub unless_ended : Option ℕ → ℕ → Option ℕ
unless_ended end t = cond (lasts_at end t) end None

module _ {P : Type 0} (cmp : P → P → Ordering) (rules : Rules P) where
  abbrev pub is_local : P → Bool
  is_local q = is_at (cmp rules.local) q

module _ {P : Type 0} (cmp : P → P → Ordering) (rules : Rules P) where
  -- the end of the key's block after a call
  abbrev pub block_by : Call P → P → Option ℕ → Option ℕ
  block_by (call.Block p at) q end = cond (is_at (cmp p) q && not (is_local cmp rules q) && not (lasts_at end at)) (Some (at + rules.block_duration)) end
  block_by (call.UnblockExpired at) q end = unless_ended end at
  block_by _ q end = end

  -- the end of the key's last block that took effect and wasn't taken away since
  unfoldable pub block_of : List (Call P) → P → Option ℕ
  block_of [] q = None
  block_of (c ∷ calls) q = block_by c q (block_of calls q)

  -- the key is blocked at a moment
  abbrev pub is_blocked : List (Call P) → P → ℕ → Bool
  is_blocked calls q t = lasts_at (block_of calls q) t

module _ {P : Type 0} (cmp : P → P → Ordering) (rules : Rules P) where
  -- a block of the key takes effect
  abbrev pub is_blockable : List (Call P) → P → ℕ → Bool
  is_blockable calls q t = not (is_local cmp rules q) && not (is_blocked cmp rules calls q t)
