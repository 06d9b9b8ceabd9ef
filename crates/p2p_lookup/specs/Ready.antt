-- Whether an input of a half of a connection is ready.
use Rattle.std.specs.Prelude.{ℕ, Bool, true, false, ◌||◌, ◌&&◌, cond, nat_le, List, Option, Some, None, is_some, slice_get, Result}
use Rattle.std.specs.declared.cmp.Ordering.{Ordering}
use Rattle.p2p_base.specs.Queue.{Queue}
use Rattle.p2p_flow.specs.Lanes.{Lanes}
use Rattle.p2p_flow_connection.specs.Batching.{next_of}
use Rattle.p2p_flow_connection.specs.Delivering.{verdict_at}
use Rattle.p2p_peer_shared.specs.Hearing.{comes, passes}
use Rattle.p2p_router.specs.Connections.{relay_at}
use Rattle.p2p_router.specs.Routes.{Routes}
use Rattle.p2p_runtime.specs.declared.streams.Failed.{Failed}
use Rattle.p2p_wire.specs.declared.encoded.EncodedData.{EncodedData}
use Rattle.p2p_wire.specs.declared.frame.Data.{Data}
use Rattle.p2p_lookup.specs.Connection.{Connection}
use Rattle.p2p_lookup.specs.Receiving.{is_running, ping_admitted}
use Rattle.p2p_lookup.specs.declared.peer.live.Live.{Live}
use Rattle.p2p_lookup.specs.declared.peer.live.Stage.{Stage}
use Rattle.p2p_lookup.specs.declared.peer.live.Stage.TheVariants as stage
use Rattle.p2p_lookup.specs.declared.peer.mailbox.Message.{Message}
use Rattle.p2p_lookup.specs.declared.peer.stepped.Stepped.{Stepped}
use Rattle.p2p_lookup.specs.declared.peer.stepped.Stepped.TheVariants as stepped

-- its begin; the router's answer, which is there with the relay; then a ping at its deadline, and what is next: control, an end, a frame
abbrev pub sends_at : Stage → Queue Message → Option (Lanes EncodedData) → ℕ → Bool
sends_at stage.New control lanes now = true
sends_at stage.Waiting control lanes now = is_some lanes
sends_at (stage.Running ping_at) control None now = true
sends_at (stage.Running ping_at) control (Some l) now =
    nat_le ping_at now || is_some (next_of (slice_get control.items 0) control.closed l)

module _ {P : Type 0} where
  abbrev pub is_idle : Stepped P → Bool
  is_idle stepped.Idle = true
  is_idle _ = false

  module _ (cmp : P → P → Ordering) (c : Connection P) (r : Routes P) (now : ℕ) where
    abbrev pub sends_of : Option (Live P) → Bool
    sends_of None = false
    sends_of (Some l) = sends_at l.stage c.control (relay_at cmp r c.conn) now

  -- an input of the sending half is ready
  abbrev pub sends : (P → P → Ordering) → Connection P → Routes P → ℕ → Bool
  sends cmp c r now = sends_of cmp c r now c.live

  -- the message that is held, once its quota admits it; with none held what the link has
  abbrev pub receives_held : Live P → ℕ → Result (Option (List ℕ)) Failed → Option (P × Data) → Bool
  receives_held l now heard None = comes heard
  receives_held l now heard (Some h) = passes (verdict_at l.inbox h.1 now)

  abbrev pub receives_of : ℕ → Result (Option (List ℕ)) Failed → Option (Live P) → Bool
  receives_of now heard None = false
  receives_of now heard (Some l) =
      is_running l.stage && cond l.holds_ping (ping_admitted now l) (receives_held l now heard l.inbox.held)

  -- an input of the receiving half is ready, where this is heard of the link
  abbrev pub receives : Connection P → ℕ → Result (Option (List ℕ)) Failed → Bool
  receives c now heard = receives_of now heard c.live
