-- Who is listed for a dial, until when that list is good, and from which addresses peers may come.
use Rattle.std.specs.Prelude.{ℕ, Bool, false, cond, not, ◌&&◌, ◌||◌, nat_lt, List, Option, Some, None}
use Rattle.std.specs.declared.cmp.Ordering.{Ordering}
use Rattle.p2p_address.specs.Addresses.{egress_of, is_global}
use Rattle.p2p_address.specs.declared.ip.IpAddr.{IpAddr}
use Rattle.p2p_address.specs.declared.peer.Address.{Address}
use Rattle.p2p_tracker_calls.specs.declared.call.Call.{Call}
use Rattle.p2p_tracker_calls.specs.Rules.{Rules}
use Rattle.p2p_tracker_calls.specs.Sets.{is_primary}
use Rattle.p2p_tracker_calls.specs.Grants.{is_held}
use Rattle.p2p_tracker_calls.specs.Blocks.{is_local, is_blocked, block_of}
use Rattle.p2p_tracker_calls.specs.Lives.{same_ip, is_alive, address_of, next_dial, is_eligible}
use Rattle.p2p_tracker_calls.specs.Allows.{has_valid_ingress}

-- the address dials from the IP address, which is global unless private ones are allowed
abbrev pub is_heard_at : Bool → IpAddr → Option Address → Bool
is_heard_at private source None = false
is_heard_at private source (Some address) = same_ip (egress_of address) source && (private || is_global (egress_of address))

module _ {P : Type 0} (cmp : P → P → Ordering) (rules : Rules P) where
  -- the key is another's, primary, not held, and has an ingress that may be dialed
  abbrev pub is_target : List (Call P) → P → Bool
  is_target calls q = not (is_local cmp rules q) && is_primary cmp rules calls q && not (is_held cmp calls q) && has_valid_ingress rules.private rules.dns (address_of cmp rules calls q)

module _ {P : Type 0} (cmp : P → P → Ordering) (rules : Rules P) where
  -- the key is listed for a dial at a moment
  abbrev pub is_dialable : List (Call P) → P → ℕ → Bool
  is_dialable calls q t = is_target cmp rules calls q && not (is_blocked cmp rules calls q t) && not (nat_lt t (next_dial cmp rules calls q))

  -- when the key may change that list: where it is blocked, at the end of that, if it is another's and tracked or held; else at its next
  -- dial moment, if it waits for that alone
  abbrev pub next_query : List (Call P) → P → ℕ → Option ℕ
  next_query calls q t = cond (is_blocked cmp rules calls q t)
      (cond (not (is_local cmp rules q) && is_alive cmp rules calls q) (block_of cmp rules calls q) None)
      (cond (is_target cmp rules calls q && nat_lt t (next_dial cmp rules calls q)) (Some (next_dial cmp rules calls q)) None)

  -- the key is eligible at a moment, and may come from the address
  abbrev pub is_listenable : List (Call P) → P → IpAddr → ℕ → Bool
  is_listenable calls q source t = is_eligible cmp rules calls q t && is_heard_at rules.private source (address_of cmp rules calls q)
