-- From when a peer is listed for a dial, wherever it is dialed.
use Rattle.std.specs.Prelude.{ℕ, cond, not, ◌&&◌, nat_lt, List, Option, Some, None}
use Rattle.std.specs.declared.cmp.Ordering.{Ordering}
use Rattle.p2p_tracker_calls.specs.declared.call.Call.{Call}
use Rattle.p2p_tracker_calls.specs.Blocks.{is_local}
use Rattle.p2p_tracker_calls.specs.Grants.{is_held}
use Rattle.p2p_tracker_calls.specs.Lives.{next_dial}
use Rattle.p2p_tracker_calls.specs.Rules.{Rules}
use Rattle.p2p_tracker_calls.specs.Sets.{is_primary}
use Rattle.p2p_tracker_directory.specs.Recorded.{Recorded, is_myself, is_inert}

-- by its record: another peer's, primary in a set and not held
abbrev pub waits_from : Recorded → Option ℕ
waits_from r = cond (not (is_myself r.address) && nat_lt 0 r.primary && is_inert r.status) (Some r.next_dial) None

abbrev pub waits_from_in : Option Recorded → Option ℕ
waits_from_in None = None
waits_from_in (Some r) = waits_from r

module _ {P : Type 0} (cmp : P → P → Ordering) (rules : Rules P) where
  -- by the calls
  abbrev pub next_dial_of : List (Call P) → P → Option ℕ
  next_dial_of calls q = cond (not (is_local cmp rules q) && is_primary cmp rules calls q && not (is_held cmp calls q)) (Some (next_dial cmp rules calls q)) None
