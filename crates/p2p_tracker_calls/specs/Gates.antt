-- The gates in order, and what an arrival is told.
use Rattle.std.specs.Prelude.{ℕ, max, Bool, cond, not, ◌&&◌, ◌||◌, List, [], Option, Some, None}
use Rattle.std.specs.List.{list_any}
use Rattle.std.specs.BTreeMap.{is_at}
use Rattle.p2p_address.specs.Addresses.{is_global}
use Rattle.p2p_address.specs.declared.ip.IpAddr.{IpAddr}
use Rattle.p2p_tracker_calls.specs.Heard.{ip_cmp}
use Rattle.p2p_tracker_calls.specs.Quotas.{Rates, Passed, none_passed, verdict, passed_after}
use Rattle.p2p_tracker_calls.specs.declared.gates.Reply.{Reply}
use Rattle.p2p_tracker_calls.specs.declared.gates.Reply.TheVariants as reply

-- whether addresses that aren't global may connect, and those that aren't registered; and the quotas
pub record GateRules : Type 0 where
  pub allow_private_ips : Bool
  pub bypass_ip_check : Bool
  pub rates : Rates

-- what the gates go by: the addresses that the listener was told of last, the arrivals that passed the quotas, and the latest
-- moment at which a quota was asked
pub record Known : Type 0 where
  pub addresses : List IpAddr
  pub passed : Passed
  pub latest : ℕ

-- nothing was told, and none has passed
abbrev pub nothing_known : Known
nothing_known = record { addresses = []; passed = none_passed; latest = 0 }

-- an address stands among those that are registered
abbrev pub is_registered : List IpAddr → IpAddr → Bool
is_registered ips ip = list_any (is_at (ip_cmp ip)) ips

-- the gates after the quotas: what they say of the address and of the subnet, and whether a place of a handshake is free
abbrev pub limited_reply : Bool × Bool → Bool → Reply
limited_reply refused place =
    cond (refused.0 || refused.1) (reply.Limited refused.0 refused.1) (cond place reply.Admitted reply.TooMany)

module _ (rules : GateRules) where
  -- the address may not connect, since it isn't global
  abbrev pub is_private : IpAddr → Bool
  is_private ip = not rules.allow_private_ips && not (is_global ip)

  -- the address may not connect, since the listener wasn't told of it
  abbrev pub is_unregistered : List IpAddr → IpAddr → Bool
  is_unregistered registered ip = not rules.bypass_ip_check && not (is_registered registered ip)

module _ (rules : GateRules) where
  -- the first gate before the quotas that refuses an arrival from this address, where one does
  abbrev pub turned_away : List IpAddr → IpAddr → Option Reply
  turned_away registered ip =
      cond (is_private rules ip) (Some reply.Private) (cond (is_unregistered rules registered ip) (Some reply.Unregistered) None)

-- what an earlier gate says, or else this
abbrev pub first_told : Option Reply → Reply → Reply
first_told None told = told
first_told (Some earlier) told = earlier

-- this, where an earlier gate refuses, or else that
abbrev pub unless_refused : Option Reply → Known → Known → Known
unless_refused None k after = after
unless_refused (Some earlier) k after = k

module _ (rules : GateRules) (k : Known) where
  -- the first gate that refuses an arrival from this address at the moment `now`, or that none does, where a place may be free
  abbrev pub reply_to : Bool → IpAddr → ℕ → Reply
  reply_to place ip now =
      first_told (turned_away rules k.addresses ip) (limited_reply (verdict rules.rates k.passed ip (max k.latest now)) place)

  -- what the gates go by once an arrival came to the quotas, which is held against both
  abbrev pub charged_by : IpAddr → ℕ → Known
  charged_by ip now = record k { passed = passed_after rules.rates k.passed ip (max k.latest now); latest = max k.latest now }

module _ (rules : GateRules) (k : Known) where
  -- and once one came to the gates
  abbrev pub known_after : IpAddr → ℕ → Known
  known_after ip now = unless_refused (turned_away rules k.addresses ip) k (charged_by rules k ip now)
