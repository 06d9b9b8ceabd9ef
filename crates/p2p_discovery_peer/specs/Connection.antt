-- A connection as contracts see it, and what a step of it puts and ends by what it answers.
use Rattle.std.specs.Prelude.{ℕ, Bool, true, false, List, [], Option, Some, None}
use Rattle.std.specs.declared.cmp.Ordering.{Ordering}
use Rattle.p2p_base.specs.Queue.{Queue, closed_queue}
use Rattle.p2p_flow.specs.Lanes.{empty_lanes}
use Rattle.p2p_peer_shared.specs.Routing.{put_to_router, with_closed}
use Rattle.p2p_router.specs.Messenger.{Desk}
use Rattle.p2p_router.specs.Routes.{Routes}
use Rattle.p2p_router.specs.declared.message.Message.TheVariants as router
use Rattle.p2p_discovery_directory.specs.Reserved.{peer_of}
use Rattle.p2p_discovery_directory.specs.declared.metadata.Metadata.{Metadata}
use Rattle.p2p_discovery_directory.specs.declared.metadata.Metadata.TheVariants as metadata
use Rattle.p2p_discovery_directory.specs.Asking.{Way, with_message}
use Rattle.p2p_discovery_directory.specs.declared.peer.message.Message.{Message}
use Rattle.p2p_discovery_directory.specs.declared.tracker.message.Message.TheVariants as tracker
use Rattle.p2p_discovery_peer.specs.declared.peer.config.Limits.{Limits}
use Rattle.p2p_discovery_peer.specs.declared.peer.live.Live.{Live}
use Rattle.p2p_discovery_peer.specs.declared.peer.stepped.Stepped.{Stepped}
use Rattle.p2p_discovery_peer.specs.declared.peer.stepped.Stepped.TheVariants as stepped

-- its number, its sizes, what it is told, what it has until it ends, and whether a step found no memory
pub record Connection (P : Type 0) : Type 0 where
  pub conn : ℕ
  pub limits : Limits
  pub control : Queue (Message P)
  pub live : Option (Live P)
  pub failed : Bool

module _ {P : Type 0} where
  -- this node dialed the peer
  abbrev pub is_dialer : Metadata P → Bool
  is_dialer (metadata.Dialer peer ingress) = true
  is_dialer (metadata.Listener peer) = false

  -- what it is told goes where it ends
  abbrev pub control_after : Stepped P → Queue (Message P) → Queue (Message P)
  control_after (stepped.Ended error frames written) control = closed_queue control
  control_after stepped.NotEligible control = closed_queue control
  control_after _ control = control

  -- nothing is left of it where it ends
  abbrev pub live_after : Stepped P → Live P → Option (Live P)
  live_after (stepped.Ended error frames written) l = None
  live_after stepped.NotEligible l = None
  live_after _ l = Some l

  -- what waited on the link goes where it ends
  abbrev pub waiting_after : Stepped P → List (List ℕ) → List (List ℕ)
  waiting_after (stepped.Ended error frames written) waiting = []
  waiting_after stepped.NotEligible waiting = []
  waiting_after _ waiting = waiting

  abbrev pub settled : Connection P → Stepped P → Queue (Message P) → Live P → Connection P
  settled c s control l = record {
    conn = c.conn;
    limits = c.limits;
    control = control_after s control;
    live = live_after s l;
    failed = c.failed;
  }

  -- the router is told that it is ready once its peer may connect, and then, where it ends, to release its peer
  abbrev pub told_to_router : Stepped P → P → ℕ → ℕ → Desk P → Desk P
  told_to_router stepped.Announced peer size conn d = put_to_router d (router.Ready peer (empty_lanes size) conn)
  told_to_router (stepped.Ended error frames written) peer size conn d = put_to_router d (router.Release peer)
  told_to_router _ peer size conn d = d

  -- the tracker is told that it begins, that a bit vector is due, and that its peer is free
  abbrev pub told_to_tracker : ℕ → Stepped P → Metadata P → Way P → Way P
  told_to_tracker conn stepped.Started m way = with_message way (tracker.Connect (peer_of m) (is_dialer m) conn)
  told_to_tracker conn stepped.Asked m way = with_message way (tracker.Construct (peer_of m))
  told_to_tracker conn (stepped.Ended error frames written) m way = with_message way (tracker.Release m)
  told_to_tracker conn stepped.NotEligible m way = with_message way (tracker.Release m)
  told_to_tracker conn _ m way = way

  module _ (c : Connection P) where
    abbrev pub desk_of : Option (Live P) → Stepped P → Desk P → Desk P
    desk_of None s d = d
    desk_of (Some l) s d = told_to_router s (peer_of l.reservation) c.limits.mailbox_size c.conn d

    -- the messenger after a step with this answer
    abbrev pub desk_after : Stepped P → Desk P → Desk P
    desk_after s d = desk_of c.live s d

  module _ (cmp : P → P → Ordering) where
    -- the router after a step with this answer: the relay is closed where it ends
    abbrev pub router_after : Stepped P → Routes P → ℕ → Routes P
    router_after (stepped.Ended error frames written) r conn = with_closed cmp r conn
    router_after _ r conn = r
