-- Whether an input of a half of a connection is ready.
use Rattle.std.specs.Prelude.{ℕ, Bool, true, false, ◌||◌, ◌&&◌, nat_le, List, Option, Some, None, is_some, Result}
use Rattle.std.specs.declared.cmp.Ordering.{Ordering}
use Rattle.p2p_base.specs.Queue.{Queue}
use Rattle.p2p_flow.specs.Lanes.{Lanes}
use Rattle.p2p_flow_connection.specs.Delivering.{verdict_at}
use Rattle.p2p_peer_shared.specs.Gathering.{has_work}
use Rattle.p2p_peer_shared.specs.Hearing.{comes, passes}
use Rattle.p2p_router.specs.Connections.{relay_at}
use Rattle.p2p_router.specs.Routes.{Routes}
use Rattle.p2p_runtime.specs.declared.streams.Failed.{Failed}
use Rattle.p2p_wire.specs.declared.encoded.EncodedData.{EncodedData}
use Rattle.p2p_wire.specs.declared.frame.Data.{Data}
use Rattle.p2p_discovery_directory.specs.Asking.{Way, answer_of}
use Rattle.p2p_discovery_directory.specs.declared.peer.message.Message.{Message}
use Rattle.p2p_discovery_directory.specs.declared.tracker.answer.Answer.{Answer}
use Rattle.p2p_discovery_peer.specs.Connection.{Connection}
use Rattle.p2p_discovery_peer.specs.Receiving.{is_running, quota_of}
use Rattle.p2p_discovery_peer.specs.Sparing.{admits, kind_of}
use Rattle.p2p_discovery_peer.specs.declared.peer.gossip.Gossip.{Gossip}
use Rattle.p2p_discovery_peer.specs.declared.peer.live.Live.{Live}
use Rattle.p2p_discovery_peer.specs.declared.peer.live.Stage.{Stage}
use Rattle.p2p_discovery_peer.specs.declared.peer.live.Stage.TheVariants as stage
use Rattle.p2p_discovery_peer.specs.declared.peer.stepped.Stepped.{Stepped}
use Rattle.p2p_discovery_peer.specs.declared.peer.stepped.Stepped.TheVariants as stepped

module _ {P : Type 0} where
  abbrev pub is_idle : Stepped P → Bool
  is_idle stepped.Idle = true
  is_idle _ = false

  -- its begin; the tracker's answer; the router's, which is there with the relay; then a bit vector that is due, and what is next: control,
  -- an end, a frame
  abbrev pub sends_at : Stage P → Queue (Message P) → Option (Answer P) → Option (Lanes EncodedData) → ℕ → Bool
  sends_at stage.New control a lanes now = true
  sends_at stage.Asking control a lanes now = is_some a
  sends_at (stage.Greeting info) control a lanes now = is_some lanes
  sends_at (stage.Running due_at) control a lanes now =
      nat_le due_at now || has_work control.closed None control.items lanes

  module _ (cmp : P → P → Ordering) (c : Connection P) (r : Routes P) (way : Way P) (now : ℕ) where
    abbrev pub sends_of : Option (Live P) → Bool
    sends_of None = false
    sends_of (Some l) = sends_at l.stage c.control (answer_of way c.conn) (relay_at cmp r c.conn) now

  -- an input of the sending half is ready
  abbrev pub sends : (P → P → Ordering) → Connection P → Routes P → Way P → ℕ → Bool
  sends cmp c r way now = sends_of cmp c r way now c.live

  -- the message that is held, once its quota admits it; with none held what the link has
  abbrev pub receives_held : Live P → ℕ → Result (Option (List ℕ)) Failed → Option (P × Data) → Bool
  receives_held l now heard None = comes heard
  receives_held l now heard (Some h) = passes (verdict_at l.inbox h.1 now)

  -- a bit vector or infos that are held, once their quota admits them; with none held the message
  abbrev pub receives_kept : Live P → ℕ → Result (Option (List ℕ)) Failed → Option (Gossip P) → Bool
  receives_kept l now heard None = receives_held l now heard l.inbox.held
  receives_kept l now heard (Some g) = admits (quota_of (kind_of g) l) now

  abbrev pub receives_of : ℕ → Result (Option (List ℕ)) Failed → Option (Live P) → Bool
  receives_of now heard None = false
  receives_of now heard (Some l) = is_running l.stage && receives_kept l now heard l.held

  -- an input of the receiving half is ready, where this is heard of the link
  abbrev pub receives : Connection P → ℕ → Result (Option (List ℕ)) Failed → Bool
  receives c now heard = receives_of now heard c.live
