-- What entries tell of the things of a network, and words for what a list of these tells, in order.
use Rattle.std.specs.Prelude.{ℕ, Bool, ◌||◌, min, List, [], ◌∷◌, Option, Some, None, unwrap_or}
use Rattle.std.specs.Option.{option_map}
use Rattle.p2p_base.specs.declared.key.Key.{Key}
use Rattle.p2p_address.specs.declared.ip.IpAddr.{IpAddr}
use Rattle.p2p_address.specs.declared.ip.SocketAddr.{SocketAddr}
use Rattle.p2p_address.specs.declared.peer.Address.{Address}
use Rattle.p2p_address.specs.declared.peer.Ingress.{Ingress}
use Rattle.p2p_log.specs.declared.queue.Side.{Side}
use Rattle.p2p_log.specs.declared.item.Item.{Item}
use Rattle.p2p_log.specs.declared.event.Rate.{Rate}
use Rattle.p2p_tracker_calls.specs.declared.gates.Reply.{Reply as Gates}

-- one thing that an entry tells: each names the thing that it is of, and has what it tells of it
pub data Telling : Type 0 where
  -- a node runs from this moment
  node_started : (node at : ℕ) → Telling
  -- a node stopped
  node_stopped : (node : ℕ) → Telling
  -- a node's dialer asked at this moment whom to dial
  list_asked : (node at : ℕ) → Telling
  -- it took whom it may dial, which it had asked at that moment: these, in an order drawn with this seed, and when there may be more
  list_taken : (node asked seed : ℕ) (next : Option ℕ) (peers : List Key) → Telling
  -- it took an answer
  answer_taken : (node : ℕ) → Telling
  -- it asked for the last of its keys
  dial_asked : (node : ℕ) → Telling
  -- it came to its deadline at this moment with a key to dial
  dial_due : (node at : ℕ) → Telling
  -- a grant was taken at this moment: an attempt begins, of this name
  attempt_begun : (node attempt : ℕ) (key : Key) (ingress : Ingress) (at : ℕ) → Telling
  -- an attempt was told addresses
  addresses_told : (node attempt : ℕ) → Telling
  -- its dial was answered by the event of this name
  dial_answered : (node attempt event : ℕ) → Telling
  -- it has the dialing end of the link of this name, which leads to that node
  link_opened : (node attempt link to : ℕ) → Telling
  -- it took these addresses, one of which is drawn with this seed
  addresses_taken : (node attempt seed : ℕ) (addresses : List SocketAddr) → Telling
  -- it took at this moment that it is linked
  link_taken : (node attempt at : ℕ) → Telling
  -- it ended: its reservation was given back or went to the spawner, or its node stopped
  attempt_ended : (node attempt : ℕ) → Telling
  -- a connection was made, of this name: with whom, and over which link
  connection_made : (node conn : ℕ) (key : Key) (link : ℕ) → Telling
  -- the end of a link that writes in this direction was dropped
  end_dropped : (link : ℕ) (side : Side) → Telling
  -- a channel was registered at a node, with its rate
  channel_registered : (node channel : ℕ) (rate : Rate) → Telling
  -- the exchange of keys over a link ended
  exchange_ended : (link : ℕ) → Telling
  -- a link was cut
  link_cut : (link : ℕ) → Telling
  -- a node's listener took the arrival over a link, for the handshake of this name where it admitted it
  arrival_taken : (node link : ℕ) (handshake : Option ℕ) → Telling
  -- a handshake began at this moment, of this name: with the peer of this key, which came from this address over this link
  handshake_begun : (node handshake : ℕ) (from : IpAddr) (key : Key) (link at : ℕ) → Telling
  -- it took these
  handshake_took : (node handshake : ℕ) (items : List Item) → Telling
  -- it ended, and has the listening end of this link no more, over which its peer came
  handshake_ended : (node handshake : ℕ) (link : Option ℕ) → Telling
  -- the sending half of a connection did a step
  half_stepped : (node conn : ℕ) → Telling
  -- a connection ended
  connection_ended : (node conn : ℕ) → Telling
  -- a node's tracker took at this moment that blocks had ended
  blocks_ended : (node at : ℕ) → Telling
  -- it took a set to track, of this index and these peers
  set_asked : (node index : ℕ) (primary secondary : List (Key × Address)) → Telling
  -- it took these addresses, each in place of the one that its key had
  addresses_asked : (node : ℕ) (peers : List (Key × Address)) → Telling
  -- it took at this moment whom to block
  block_asked : (node at : ℕ) (key : Key) → Telling
  -- it took at this moment that a connection had begun, and with whom
  connection_heard : (node at conn : ℕ) (key : Key) → Telling
  -- it took at this moment whom to reserve for a dial, with the seed of the time that is added to its wait, and granted it or not
  dial_weighed : (node at seed : ℕ) (key : Key) (granted : Bool) → Telling
  -- and for a handshake
  listen_weighed : (node at seed : ℕ) (key : Key) (granted : Bool) → Telling
  -- it took that a reservation was given back
  release_heard : (node : ℕ) (key : Key) → Telling
  -- it took the question of this event, which wants peer sets
  sets_wanted : (node event : ℕ) → Telling
  -- or the blocked keys
  blocks_wanted : (node event : ℕ) → Telling
  -- a node's router took that a channel wants lists of peers
  lists_wanted : (node channel : ℕ) → Telling
  -- it took that a connection is ready, and with whom
  ready_routed : (node conn : ℕ) (key : Key) → Telling
  -- it took that a key has no connection
  release_routed : (node : ℕ) (key : Key) → Telling
  -- it put a list of peers for a channel
  peers_listed : (node channel : ℕ) (keys : List Key) → Telling
  -- the sending half of a connection took its router's answer at this moment: it runs
  connection_ran : (node conn at : ℕ) → Telling
  -- it put a ping at this moment
  ping_put : (node conn at : ℕ) → Telling
  -- the receiving half of a connection took this at this moment, and did not hold it
  item_admitted : (node conn at : ℕ) (taken : Item) → Telling
  -- the quota of a channel of a node admitted these keys at this moment, one after another
  sends_admitted : (node channel at : ℕ) (keys : List Key) → Telling
  -- a check was made, of this name: these keys may be sent to on this channel
  check_made : (node check channel : ℕ) (keys : List Key) → Telling
  -- a message was asked for by a check of this name
  check_spent : (check : ℕ) → Telling
  -- the answer to the question of this event was given
  question_answered : (event : ℕ) → Telling
  -- the reader of a channel was dropped
  reader_dropped : (node channel : ℕ) → Telling
  -- a node's listener took the addresses that are registered
  update_taken : (node : ℕ) (addresses : List IpAddr) → Telling
  -- it took an arrival from this address at this moment, which was told this
  arrival_judged : (node at : ℕ) (from : IpAddr) (told : Gates) → Telling

-- ---- words

-- the last telling of some kind, by what it tells, and what was told since
pub record Last (X : Type 0) : Type 0 where
  pub told : X
  pub since : List Telling

abbrev pub or_last : {X : Type 0} → Option (Last X) → Option X → List Telling → Option (Last X)
or_last (Some l) o ts = Some l
or_last None o ts = option_map (λ x. record { told = x; since = ts }) o

unfoldable pub last_told : {X : Type 0} → (Telling → Option X) → List Telling → Option (Last X)
last_told pick [] = None
last_told pick (t ∷ ts) = or_last (last_told pick ts) (pick t) ts

-- the last thing told of some kind, or else this
abbrev pub last_or : {X : Type 0} → X → (Telling → Option X) → List Telling → X
last_or x pick [] = x
last_or x pick (t ∷ ts) = last_or (unwrap_or (pick t) x) pick ts

-- the first thing told of some kind, unless there is one before
abbrev pub or_new : {X : Type 0} → Option X → Option X → Option X
or_new None o = o
or_new (Some x) o = Some (unwrap_or o x)

abbrev pub first_or : {X : Type 0} → Option X → (Telling → Option X) → List Telling → Option X
first_or o pick [] = o
first_or o pick (t ∷ ts) = first_or (or_new (pick t) o) pick ts

-- whether something is told of some kind, or was before
abbrev pub any_or : Bool → (Telling → Bool) → List Telling → Bool
any_or b test [] = b
any_or b test (t ∷ ts) = any_or (test t || b) test ts

-- the least of the numbers told of some kind, and this
abbrev pub least_by : Option ℕ → ℕ → ℕ
least_by None x = x
least_by (Some y) x = min x y

abbrev pub least_or : ℕ → (Telling → Option ℕ) → List Telling → ℕ
least_or x pick [] = x
least_or x pick (t ∷ ts) = least_or (least_by (pick t) x) pick ts
