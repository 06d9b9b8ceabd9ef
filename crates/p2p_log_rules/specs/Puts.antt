-- What becomes of a reservation, by what is put, of a handshake, of an arrival, and of a half of a connection.
use Rattle.std.specs.Prelude.{ℕ, Bool, true, false, ◌&&◌, ◌||◌, not, List, ◌∷◌, Option, Some, None}
use Rattle.std.specs.List.{list_any}
use Rattle.p2p_tracker_calls.specs.declared.gates.Reply.TheVariants as gates
use Rattle.p2p_log.specs.declared.queue.Queue.{Queue}
use Rattle.p2p_log.specs.declared.item.Item.{Item}
use Rattle.p2p_log.specs.declared.item.Item.TheVariants as item
use Rattle.p2p_log.specs.declared.entry.Reply.{Reply}
use Rattle.p2p_log.specs.declared.entry.Reply.TheVariants as reply
use Rattle.p2p_log_rules.specs.HandshakeSteps.{ends_handshake}

abbrev pub is_release : Queue × Item → Bool
is_release (q, item.Release key) = true
is_release _ = false

abbrev pub is_spawn : Queue × Item → Bool
is_spawn (q, item.Spawn key link) = true
is_spawn _ = false

-- whether an attempt ended without a connection: it gave its reservation back
abbrev pub gave_up : List (Queue × Item) → Bool
gave_up puts = list_any is_release puts

-- whether an attempt ended: its reservation left it
abbrev pub ends_attempt : List (Queue × Item) → Bool
ends_attempt puts = gave_up puts || list_any is_spawn puts

-- whether a handshake broke off, at a step of this reply that took these and put these
abbrev pub broke_off : Reply → List Item → List (Queue × Item) → Bool
broke_off r items puts = ends_handshake r items && not (list_any is_spawn puts)

-- whether the gates turned an arrival away
abbrev pub turns_away : Reply → Bool
turns_away (reply.Gates gates.Admitted) = false
turns_away (reply.Gates told) = true
turns_away _ = false

-- whether the answer to a question was given
abbrev pub is_peer_set : Reply → Bool
is_peer_set (reply.PeerSet peers) = true
is_peer_set _ = false

-- the link over which a peer arrived
abbrev pub arrival_link : List Item → Option ℕ
arrival_link (item.Arrival from key link ∷ items) = Some link
arrival_link _ = None

-- whether it is a router's answer to a connection
abbrev pub is_answer : Item → Bool
is_answer item.RouterAnswer = true
is_answer _ = false
