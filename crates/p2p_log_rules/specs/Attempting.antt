-- The attempts of a node's dialer, by the log, and the rows of what they are told and of their steps.
use Rattle.std.specs.Prelude.{ℕ, ◌+◌, ◌-◌, Bool, true, false, ◌==◌, ◌||◌, ◌&&◌, cond, nat_le, List, [], ◌∷◌, map, filter, length, Option, Some, None, slice_get, is_some}
use Rattle.std.specs.List.{list_any}
use Rattle.p2p_base.specs.declared.key.Key.{Key}
use Rattle.p2p_address.specs.Addresses.{is_global}
use Rattle.p2p_address.specs.declared.ip.SocketAddr.{SocketAddr}
use Rattle.p2p_address.specs.declared.peer.Ingress.{Ingress}
use Rattle.p2p_address.specs.declared.peer.Ingress.TheVariants as ingress
use Rattle.p2p_runtime.specs.Draws.{seeded, drawn}
use Rattle.p2p_log.specs.declared.config.Config.{Config}
use Rattle.p2p_log.specs.declared.queue.Queue.TheVariants as queue
use Rattle.p2p_log.specs.declared.item.Item.{Item}
use Rattle.p2p_log.specs.declared.item.Item.TheVariants as item
use Rattle.p2p_log.specs.declared.item.Envelope.{Envelope}
use Rattle.p2p_log.specs.declared.end.End.{End}
use Rattle.p2p_log.specs.declared.end.End.TheVariants as end
use Rattle.p2p_log.specs.declared.entry.Entry.{Entry}
use Rattle.p2p_log.specs.declared.entry.Reply.TheVariants as reply
use Rattle.p2p_log.specs.Lines.{name_of, line}
use Rattle.p2p_log_rules.specs.declared.row.Row.{Row}
use Rattle.p2p_log_rules.specs.Facts.{is_up, key_at}
use Rattle.p2p_log_rules.specs.Rows.{only, taken_row, is_spawner_full}
use Rattle.p2p_log_rules.specs.Tellings.{Telling, Last, last_told, last_or, first_or, any_or, least_or}
use Rattle.p2p_log_rules.specs.Tellings as telling
use Rattle.p2p_log_rules.specs.Told.{Begun, begun_as, ends, opens, told}

-- how long a dial may take, and how long the keys of a link may be exchanged; and whether a dial may reach addresses that aren't
-- global
pub record DialRules : Type 0 where
  pub timeout : ℕ
  pub handshake_timeout : ℕ
  pub private : Bool

abbrev pub dial_rules_in : Option Config → DialRules
dial_rules_in None = record { timeout = 0; handshake_timeout = 0; private = false }
dial_rules_in (Some c) = record { timeout = c.dial_timeout; handshake_timeout = c.handshake_timeout; private = c.allow_private_ips }

abbrev pub dial_rules_at : List Config → ℕ → DialRules
dial_rules_at configs n = dial_rules_in (slice_get configs n)

-- an attempt that has not ended: who is reserved for it, and where it dials; the address that it dials, once there is one; the moment at
-- which it gives up; whether it was told addresses; the event that answered its dial, with a link or a refusal,
-- once one did; and the link of which it has the dialing end
pub record Attempt : Type 0 where
  pub key : Key
  pub ingress : Ingress
  pub address : Option SocketAddr
  pub deadline : ℕ
  pub is_resolved : Bool
  pub answer : Option ℕ
  pub link : Option ℕ

-- the address of an ingress that needs no look-up
abbrev pub socket_of : Ingress → Option SocketAddr
socket_of (ingress.Socket s) = Some s
socket_of (ingress.Dns host port) = None

-- one of the addresses that may be dialed, which is drawn
abbrev pub drawn_address : Bool → List SocketAddr → ℕ → Option SocketAddr
drawn_address private addresses seed =
    let allowed = filter (λ s. private || is_global s.ip) addresses in
    slice_get allowed (drawn (length allowed - 1) (seeded seed)).0

-- once it dials this address: without one it ends
abbrev pub dialing : Option SocketAddr → Attempt → Option Attempt
dialing None a = None
dialing (Some s) a = Some (record a { address = Some s })

-- once it was told these addresses: it keeps the one that it has
abbrev pub resolved : Option SocketAddr → Bool → List SocketAddr → ℕ → Attempt → Option Attempt
resolved (Some s) private addresses seed a = Some a
resolved None private addresses seed a = dialing (drawn_address private addresses seed) a

-- ---- what is told of it

module _ (n k : ℕ) where
  abbrev pub tells_addresses : Telling → Bool
  tells_addresses (telling.addresses_told m j) = (m == n) && (k == j)
  tells_addresses _ = false

  abbrev pub answers_dial : Telling → Option (Option ℕ)
  answers_dial (telling.dial_answered m j event) = cond ((m == n) && (k == j)) (Some (Some event)) None
  answers_dial _ = None

  -- the address that is drawn of those that it took
  abbrev pub draws : Bool → Telling → Option SocketAddr
  draws private (telling.addresses_taken m j seed addresses) = cond ((m == n) && (k == j)) (drawn_address private addresses seed) None
  draws private _ = None

  -- until when keys may be exchanged over the link that it took
  abbrev pub waits : ℕ → Telling → Option ℕ
  waits timeout (telling.link_taken m j at) = cond ((m == n) && (k == j)) (Some (at + timeout)) None
  waits timeout _ = None

  -- by what begins it, and what was told since
  abbrev pub attempt_since : DialRules → Begun → List Telling → Attempt
  attempt_since rules b ts = record {
    key = b.key;
    ingress = b.ingress;
    address = first_or (socket_of b.ingress) (draws rules.private) ts;
    deadline = least_or (b.at + rules.timeout) (waits rules.handshake_timeout) ts;
    is_resolved = any_or false tells_addresses ts;
    answer = last_or None answers_dial ts;
    link = last_or None (opens n k) ts;
  }

  abbrev pub attempt_by_last : DialRules → Option (Last Begun) → Option Attempt
  attempt_by_last rules None = None
  attempt_by_last rules (Some l) = cond (list_any (ends n k) l.since) None (Some (attempt_since rules l.told l.since))

  abbrev pub attempt_in : DialRules → List Telling → Option Attempt
  attempt_in rules ts = attempt_by_last rules (last_told (begun_as n k) ts)

-- the attempts of a node that have not ended, by the events that began them
unfoldable pub attempts_of : List Config → List Entry → ℕ → ℕ → Option Attempt
attempts_of configs log n k = attempt_in n k (dial_rules_at configs n) (told log)

-- ---- its step

-- the ends of all that still waits for it
abbrev pub left_ends : List Envelope → List End
left_ends xs = map (λ x. end.Item x.entry x.place) xs

-- it ends without a connection, once it took this: what waits for it ends, and its reservation is given back
abbrev pub given_up_row : ℕ → Key → List (ℕ × ℕ) → List Envelope → Row
given_up_row n key names left = record { reply = reply.Ok; takes = names; puts = (queue.Tracker n, item.Release key) ∷ []; ends = left_ends left }

-- it goes on if anything is left of it
abbrev pub resolved_row : Option Attempt → ℕ → Key → ℕ × ℕ → List Envelope → Row
resolved_row None n key name left = given_up_row n key (name ∷ []) left
resolved_row (Some a) n key name left = taken_row name

-- it ends with the reservation of this key, by which a connection is to be made over this link; where no more of these may wait, it
-- ends without one
abbrev pub handed_on_row : ℕ → Bool → Key → ℕ → ℕ × ℕ → List Envelope → Row
handed_on_row n true key link name left = given_up_row n key (name ∷ []) left
handed_on_row n false key link name left =
    record { reply = reply.Ok; takes = name ∷ []; puts = (queue.Spawner n, item.Spawn key link) ∷ []; ends = left_ends left }

-- by the answer to its dial, which made the link of its name: without one it ends, too
abbrev pub linked_row : ℕ → Bool → Key → Option ℕ → ℕ × ℕ → List Envelope → Row
linked_row n full key None name left = given_up_row n key (name ∷ []) left
linked_row n full key (Some link) name left = handed_on_row n full key link name left

-- by what it took, and by whether its node's spawner is full
abbrev pub attempt_took_row : ℕ → Bool → Bool → ℕ → Attempt → ℕ × ℕ → Item → List Envelope → Row
attempt_took_row n full private seed a name (item.Resolved addresses) left = resolved_row (resolved a.address private addresses seed a) n a.key name left
attempt_took_row n full private seed a name item.Linked left = taken_row name
attempt_took_row n full private seed a name (item.Finished true) left = linked_row n full a.key a.answer name left
attempt_took_row n full private seed a name _ left = given_up_row n a.key (name ∷ []) left

-- the oldest item, or else its deadline
abbrev pub attempt_turn : ℕ → ℕ → ℕ → Bool → Bool → Attempt → List Envelope → Row
attempt_turn n at seed full private a [] = cond (nat_le a.deadline at) (given_up_row n a.key [] []) (only reply.Idle)
attempt_turn n at seed full private a (x ∷ xs) = attempt_took_row n full private seed a (name_of x) x.item xs

abbrev pub attempt_by : Option Attempt → ℕ → ℕ → ℕ → Bool → Bool → List Envelope → Row
attempt_by None n at seed full private waiting = only reply.Gone
attempt_by (Some a) n at seed full private waiting = attempt_turn n at seed full private a waiting

abbrev pub attempt_row : List Config → List Entry → ℕ → ℕ → ℕ → ℕ → Row
attempt_row configs log e n at seed =
    attempt_by (attempts_of configs log n e) n at seed (is_spawner_full configs log n) (dial_rules_at configs n).private (line log (queue.Attempt n e))

-- ---- what it is told

abbrev pub attempt_told_row : ℕ → ℕ → Item → Row
attempt_told_row e n i = record { reply = reply.Ok; takes = []; puts = (queue.Attempt n e, i) ∷ []; ends = [] }

-- a name is looked up once
abbrev pub resolve_by : Ingress → Bool → ℕ → ℕ → List SocketAddr → Row
resolve_by (ingress.Dns host port) false e n addresses = attempt_told_row e n (item.Resolved addresses)
resolve_by _ _ e n addresses = only reply.Gone

abbrev pub resolve_row : List Config → List Entry → List SocketAddr → ℕ → ℕ → Row
resolve_row configs log addresses e n =
    elim (attempts_of configs log n e) [ None ↦ only reply.Gone | Some a ↦ resolve_by a.ingress a.is_resolved e n addresses ]

-- what answers a dial: a link, or none
abbrev pub link_item : Bool → Item
link_item true = item.Linked
link_item false = item.Refused

-- a dial is answered once there is an address, and once
abbrev pub dial_answered_row : Option SocketAddr → Bool → Bool → ℕ → ℕ → Row
dial_answered_row None answered links e n = only reply.Pending
dial_answered_row (Some s) true links e n = only reply.Gone
dial_answered_row (Some s) false links e n = attempt_told_row e n (link_item links)

abbrev pub refuse_row : List Config → List Entry → ℕ → ℕ → Row
refuse_row configs log e n = elim (attempts_of configs log n e) [ None ↦ only reply.Gone | Some a ↦ dial_answered_row a.address (is_some a.answer) false e n ]

-- and where the other node runs, its listener is told of this arrival
abbrev pub connected_row : Option SocketAddr → Bool → Bool → ℕ → ℕ → ℕ → Item → Row
connected_row (Some s) false true e n to arrival =
    record { reply = reply.Ok; takes = []; puts = (queue.Attempt n e, item.Linked) ∷ (queue.Arrivals to, arrival) ∷ []; ends = [] }
connected_row address answered runs e n to arrival = dial_answered_row address answered runs e n

-- a link of this event's name, by which the node's key comes from an address
abbrev pub connect_row : List Config → List Entry → ℕ → SocketAddr → ℕ → ℕ → Row
connect_row configs log e from n to = elim (attempts_of configs log n e) [
  | None ↦ only reply.Gone
  | Some a ↦ connected_row a.address (is_some a.answer) (is_up log to) e n to (item.Arrival from (key_at configs n) (length log))
]
