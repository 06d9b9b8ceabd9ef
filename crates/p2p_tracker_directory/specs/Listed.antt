-- What the sets, the records and the blocks tell of who is tracked, of whom to dial, and of where peers come from.
use Rattle.std.specs.Prelude.{ℕ, Bool, true, false, cond, not, ◌&&◌, ◌||◌, nat_lt, List, [], ◌∷◌, Option, Some, None}
use Rattle.p2p_address.specs.declared.ip.IpAddr.{IpAddr}
use Rattle.p2p_tracker_calls.specs.Blocks.{lasts_at}
use Rattle.p2p_tracker_calls.specs.Lives.{same_ip}
use Rattle.p2p_tracker_calls.specs.Heard.{if_allowed}
use Rattle.p2p_tracker_directory.specs.Recorded.{Recorded, is_eligible, is_myself, egress_in, dial_status}
use Rattle.p2p_tracker_directory.specs.declared.record.DialStatus.{DialStatus}
use Rattle.p2p_tracker_directory.specs.declared.record.DialStatus.TheVariants as dial

-- the role of a peer that is primary in a set, or else of one that is primary in none and secondary in one
abbrev pub has_role : Recorded → Bool → Bool
has_role r primary = cond primary (nat_lt 0 r.primary) (not (nat_lt 0 r.primary) && nat_lt 0 r.secondary)

-- the IP address that a peer may come from
abbrev pub heard : Recorded → Bool → Bool → Option IpAddr
heard r blocked private = cond (blocked || not (is_eligible r)) None (if_allowed private (egress_in r.address))

abbrev pub heard_in : Option Recorded → Bool → Bool → Option IpAddr
heard_in None blocked private = None
heard_in (Some r) blocked private = heard r blocked private

-- the IP address stands in the list
abbrev pub is_heard : List IpAddr → IpAddr → Bool
is_heard [] source = false
is_heard (ip ∷ ips) source = same_ip ip source || is_heard ips source

-- nobody blocked is dialed before the end of the block, and this node never
abbrev pub after_block : Bool → Option ℕ → DialStatus
after_block true block = dial.Unavailable
after_block false None = dial.Unavailable
after_block false (Some end) = dial.After end

-- whether a peer with this block is to be dialed
abbrev pub outlook : Recorded → Option ℕ → ℕ → Bool → Bool → DialStatus
outlook r block now private dns = cond (lasts_at block now) (after_block (is_myself r.address) block) (dial_status r now private dns)

abbrev pub outlook_in : Option Recorded → Option ℕ → ℕ → Bool → Bool → DialStatus
outlook_in None block now private dns = dial.Unavailable
outlook_in (Some r) block now private dns = outlook r block now private dns

abbrev pub is_now : DialStatus → Bool
is_now dial.Now = true
is_now (dial.After t) = false
is_now dial.Unavailable = false

abbrev pub moment_of : DialStatus → Option ℕ
moment_of dial.Now = None
moment_of (dial.After t) = Some t
moment_of dial.Unavailable = None
