-- When a reservation is granted.
use Rattle.std.specs.Prelude.{ℕ, Bool, false, not, ◌&&◌, ◌||◌, nat_lt, List, Option, Some, None}
use Rattle.std.specs.declared.cmp.Ordering.{Ordering}
use Rattle.p2p_address.specs.Addresses.{ingress_of, egress_of, is_valid}
use Rattle.p2p_address.specs.declared.ip.IpAddr.{IpAddr}
use Rattle.p2p_address.specs.declared.peer.Address.{Address}
use Rattle.p2p_tracker_calls.specs.declared.call.Call.{Call}
use Rattle.p2p_tracker_calls.specs.Rules.{Rules}
use Rattle.p2p_tracker_calls.specs.Sets.{is_primary}
use Rattle.p2p_tracker_calls.specs.Grants.{is_held}
use Rattle.p2p_tracker_calls.specs.Lives.{same_ip, address_of, cool, is_eligible}

-- the address has an ingress that may be dialed
abbrev pub has_valid_ingress : Bool → Bool → Option Address → Bool
has_valid_ingress private dns None = false
has_valid_ingress private dns (Some address) = is_valid private dns (ingress_of address)

-- the address dials from the IP address
abbrev pub dials_from : IpAddr → Option Address → Bool
dials_from source None = false
dials_from source (Some address) = same_ip (egress_of address) source

module _ {P : Type 0} (cmp : P → P → Ordering) (rules : Rules P) where
  -- the key is eligible and not held
  abbrev pub is_free : List (Call P) → P → ℕ → Bool
  is_free calls q t = is_eligible cmp rules calls q t && not (is_held cmp calls q)

module _ {P : Type 0} (cmp : P → P → Ordering) (rules : Rules P) where
  -- a dial of the key is granted
  abbrev pub allows_dial : List (Call P) → P → ℕ → Bool
  allows_dial calls q t = is_free cmp rules calls q t && not (nat_lt t (cool cmp rules calls q)) && is_primary cmp rules calls q
      && has_valid_ingress rules.private rules.dns (address_of cmp rules calls q)

  -- a dialer from this address is taken up, whether or not the key has waited since its last grant
  abbrev pub is_acceptable : List (Call P) → P → IpAddr → ℕ → Bool
  is_acceptable calls q source t = is_free cmp rules calls q t && (rules.bypass || dials_from source (address_of cmp rules calls q))

module _ {P : Type 0} (cmp : P → P → Ordering) (rules : Rules P) where
  -- a listen of the key from this address is granted
  abbrev pub allows_listen : List (Call P) → P → IpAddr → ℕ → Bool
  allows_listen calls q source t = is_acceptable cmp rules calls q source t && not (nat_lt t (cool cmp rules calls q))
