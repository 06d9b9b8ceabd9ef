-- The addresses from which peers may come, as the listener is told.
use Rattle.std.specs.Prelude.{ℕ, Bool, cond, ◌||◌, List, Option, Some, None, filter_map}
use Rattle.std.specs.Ordering.{nat_cmp}
use Rattle.std.specs.Cmp.Lexicographic.{slice_cmp}
use Rattle.std.specs.Option.{option_map}
use Rattle.std.specs.declared.cmp.Ordering.{Ordering}
use Rattle.std.specs.declared.cmp.Ordering.TheVariants.{Less, Greater}
use Rattle.p2p_base.specs.Sorted.{sorted_once}
use Rattle.p2p_address.specs.Addresses.{egress_of, is_global}
use Rattle.p2p_address.specs.declared.ip.IpAddr.{IpAddr}
use Rattle.p2p_address.specs.declared.ip.IpAddr.TheVariants.{V4, V6}
use Rattle.p2p_tracker_calls.specs.declared.call.Call.{Call}
use Rattle.p2p_tracker_calls.specs.Rules.{Rules}
use Rattle.p2p_tracker_calls.specs.Lives.{address_of, is_eligible}
use Rattle.p2p_tracker_calls.specs.Named.{named_keys}

-- IPv4 first, and each kind by its bytes
abbrev pub ip_cmp : IpAddr → IpAddr → Ordering
ip_cmp (V4 a) (V4 b) = slice_cmp nat_cmp a b
ip_cmp (V4 a) (V6 b) = Less
ip_cmp (V6 a) (V4 b) = Greater
ip_cmp (V6 a) (V6 b) = slice_cmp nat_cmp a b

-- an IP address that is global, or any where private ones are allowed
abbrev pub if_allowed : Bool → Option IpAddr → Option IpAddr
if_allowed private None = None
if_allowed private (Some ip) = cond (private || is_global ip) (Some ip) None

module _ {P : Type 0} (cmp : P → P → Ordering) (rules : Rules P) where
  -- the address from which the key may come at a moment
  abbrev pub heard_of : List (Call P) → P → ℕ → Option IpAddr
  heard_of calls q t = cond (is_eligible cmp rules calls q t) (if_allowed rules.private (option_map egress_of (address_of cmp rules calls q))) None

module _ {P : Type 0} (cmp : P → P → Ordering) (rules : Rules P) where
  -- the addresses from which peers may come at a moment, each once, IPv4 first, and each kind by its bytes
  abbrev pub heard_addresses : List (Call P) → ℕ → List IpAddr
  heard_addresses calls t = sorted_once ip_cmp (filter_map (λ q. heard_of cmp rules calls q t) (named_keys cmp calls))
