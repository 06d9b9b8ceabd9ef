-- A record as contracts see it.
use Rattle.std.specs.Prelude.{ℕ, ◌+◌, Bool, true, false, cond, not, ◌&&◌, ◌||◌, nat_lt, List, Option, Some, None}
use Rattle.std.specs.BTreeMap.{is_at}
use Rattle.std.specs.Map.{set_value}
use Rattle.std.specs.declared.cmp.Ordering.{Ordering}
use Rattle.p2p_address.specs.Addresses.{ingress_of, egress_of, is_valid}
use Rattle.p2p_address.specs.declared.ip.IpAddr.{IpAddr}
use Rattle.p2p_address.specs.declared.peer.Address.{Address as PeerAddress}
use Rattle.p2p_address.specs.declared.peer.Ingress.{Ingress}
use Rattle.p2p_tracker_calls.specs.Lives.{same_address, same_ip}
use Rattle.p2p_tracker_directory.specs.declared.record.Address.{Address}
use Rattle.p2p_tracker_directory.specs.declared.record.Address.TheVariants as address
use Rattle.p2p_tracker_directory.specs.declared.record.Status.{Status}
use Rattle.p2p_tracker_directory.specs.declared.record.Status.TheVariants as status
use Rattle.p2p_tracker_directory.specs.declared.record.ReserveResult.{ReserveResult}
use Rattle.p2p_tracker_directory.specs.declared.record.ReserveResult.TheVariants as answer
use Rattle.p2p_tracker_directory.specs.declared.record.DialStatus.{DialStatus}
use Rattle.p2p_tracker_directory.specs.declared.record.DialStatus.TheVariants as dial

-- where the peer is, whether it is held, in how many sets it stands with each role, whether its address changed since it was granted,
-- from which moment it may be granted again, and from which it is listed for a dial
pub record Recorded : Type 0 where
  pub address : Address
  pub status : Status
  pub primary : ℕ
  pub secondary : ℕ
  pub is_stale : Bool
  pub cool : ℕ
  pub next_dial : ℕ

-- a record in no set that was never granted
abbrev pub fresh : Address → Recorded
fresh a = record { address = a; status = status.Inert; primary = 0; secondary = 0; is_stale = false; cool = 0; next_dial = 0 }

abbrev pub is_inert : Status → Bool
is_inert status.Inert = true
is_inert status.Reserved = false
is_inert status.Active = false

abbrev pub is_reserved : Status → Bool
is_reserved status.Reserved = true
is_reserved status.Inert = false
is_reserved status.Active = false

abbrev pub is_myself : Address → Bool
is_myself address.Myself = true
is_myself (address.Known a) = false

-- the address is known, and another than the one given
abbrev pub differs : Address → PeerAddress → Bool
differs address.Myself given = false
differs (address.Known a) given = not (same_address a given)

abbrev pub moved_to : Address → PeerAddress → Address
moved_to address.Myself given = address.Myself
moved_to (address.Known a) given = address.Known given

-- the peer is in a set
abbrev pub is_in_sets : Recorded → Bool
is_in_sets r = nat_lt 0 r.primary || nat_lt 0 r.secondary

abbrev pub is_eligible : Recorded → Bool
is_eligible r = not (is_myself r.address) && is_in_sets r

-- the record with another address. The mark is set where that is a change for a peer that is held
abbrev pub updated : Recorded → PeerAddress → Recorded
updated r given = record r { address = moved_to r.address given; is_stale = (not (is_inert r.status) && differs r.address given) || r.is_stale }

abbrev pub reserve_answer : Recorded → ℕ → ReserveResult
reserve_answer r now = cond (is_myself r.address || not (is_inert r.status)) answer.Unavailable (cond (nat_lt now r.cool) answer.RateLimited answer.Reserved)

abbrev pub reserved_by : ReserveResult → Recorded → ℕ → ℕ → ℕ → Recorded
reserved_by answer.Reserved r now interval jitter = record r { status = status.Reserved; cool = now + interval; next_dial = now + interval + jitter }
reserved_by answer.RateLimited r now interval jitter = r
reserved_by answer.Unavailable r now interval jitter = r

-- the record after a connection of a reserved peer was asked for
abbrev pub connected : Recorded → Recorded
connected r = record r { status = cond r.is_stale r.status status.Active }

abbrev pub released : Recorded → Recorded
released r = record r { status = status.Inert; is_stale = false }

abbrev pub ingress_in : Address → Option Ingress
ingress_in address.Myself = None
ingress_in (address.Known a) = Some (ingress_of a)

abbrev pub egress_in : Address → Option IpAddr
egress_in address.Myself = None
egress_in (address.Known a) = Some (egress_of a)

abbrev pub has_valid_ingress : Address → Bool → Bool → Bool
has_valid_ingress address.Myself private dns = false
has_valid_ingress (address.Known a) private dns = is_valid private dns (ingress_of a)

abbrev pub dials_from : Address → IpAddr → Bool
dials_from address.Myself source = false
dials_from (address.Known a) source = same_ip (egress_of a) source

abbrev pub is_outbound_target : Recorded → Bool
is_outbound_target r = is_myself r.address || nat_lt 0 r.primary

abbrev pub dial_status : Recorded → ℕ → Bool → Bool → DialStatus
dial_status r now private dns = cond (is_outbound_target r && is_inert r.status && has_valid_ingress r.address private dns)
    (cond (nat_lt now r.next_dial) (dial.After r.next_dial) dial.Now) dial.Unavailable

abbrev pub is_acceptable : Recorded → IpAddr → Bool → Bool
is_acceptable r source bypass = is_eligible r && is_inert r.status && (bypass || dials_from r.address source)

-- nothing needs the record
abbrev pub is_deletable : Recorded → Bool
is_deletable r = not (is_myself r.address) && not (is_in_sets r) && is_inert r.status

-- the record after a release: none where nothing needs it then
abbrev pub without_need : Option Recorded → Option Recorded
without_need None = None
without_need (Some r) = cond (is_deletable (released r)) None (Some (released r))

-- another peer's record that is in a set
abbrev pub is_eligible_in : Option Recorded → Bool
is_eligible_in None = false
is_eligible_in (Some r) = is_eligible r

abbrev pub is_acceptable_in : Option Recorded → IpAddr → Bool → Bool
is_acceptable_in None source bypass = false
is_acceptable_in (Some r) source bypass = is_acceptable r source bypass

-- a dial of an eligible peer is granted
abbrev pub may_dial : Recorded → ℕ → Bool → Bool → Bool
may_dial r now private dns = is_eligible r && is_inert r.status && not (nat_lt now r.cool) && nat_lt 0 r.primary && has_valid_ingress r.address private dns

abbrev pub may_dial_in : Option Recorded → ℕ → Bool → Bool → Bool
may_dial_in None now private dns = false
may_dial_in (Some r) now private dns = may_dial r now private dns

-- a listen of an unblocked peer is granted
abbrev pub may_listen : Recorded → IpAddr → ℕ → Bool → Bool
may_listen r source now bypass = is_acceptable r source bypass && not (nat_lt now r.cool)

abbrev pub may_listen_in : Option Recorded → IpAddr → ℕ → Bool → Bool
may_listen_in None source now bypass = false
may_listen_in (Some r) source now bypass = may_listen r source now bypass

abbrev pub is_reserved_in : Option Recorded → Bool
is_reserved_in None = false
is_reserved_in (Some r) = is_reserved r.status

abbrev pub is_stale_in : Option Recorded → Bool
is_stale_in None = false
is_stale_in (Some r) = r.is_stale

abbrev pub differs_in : Option Recorded → PeerAddress → Bool
differs_in None given = false
differs_in (Some r) given = differs r.address given

-- the entries after a change to the record that was found under the key
abbrev pub written : {P : Type 0} → (P → P → Ordering) → Option Recorded → List (P × Recorded) → P → (Recorded → Recorded) → List (P × Recorded)
written cmp None es p f = es
written cmp (Some r) es p f = set_value (is_at (cmp p)) es (f r)

abbrev pub found_ingress : Option Recorded → Option Ingress
found_ingress None = None
found_ingress (Some r) = ingress_in r.address

-- the record that was found is held, or none was found
abbrev pub is_held_or_unknown : Option Recorded → Bool
is_held_or_unknown None = true
is_held_or_unknown (Some r) = not (is_inert r.status)
