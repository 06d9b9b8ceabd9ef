-- What the receiving half of a connection hears of its link, and when there is something to take.
use Rattle.std.specs.Prelude.{ℕ, Bool, true, cond, List, drop, slice_get, Option, Some, None, is_some, Result, Ok, Err}
use Rattle.p2p_runtime.specs.declared.streams.Failed.{Failed}

-- what is heard, by whether the read met a fault, where these frames wait
abbrev pub heard_by : Bool → List (List ℕ) → Result (Option (List ℕ)) Failed
heard_by fails waiting = cond fails (Err (record {})) (Ok (slice_get waiting 0))

-- what waits on the link, once it was read or not
abbrev pub left_waiting : Bool → List (List ℕ) → List (List ℕ)
left_waiting is_read waiting = cond is_read (drop 1 waiting) waiting

-- the link has a frame, or met a fault
abbrev pub comes : Result (Option (List ℕ)) Failed → Bool
comes (Err f) = true
comes (Ok frame) = is_some frame

-- the quota of a message admits it, or there is none
abbrev pub passes : Option Bool → Bool
passes None = true
passes (Some admitted) = admitted
