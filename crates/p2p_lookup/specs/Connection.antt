-- A connection as contracts see it, and what a step of it puts and ends by what it answers.
use Rattle.std.specs.Prelude.{ℕ, Bool, true, false, List, [], Option, Some, None}
use Rattle.std.specs.declared.cmp.Ordering.{Ordering}
use Rattle.p2p_base.specs.Queue.{Queue, closed_queue}
use Rattle.p2p_flow.specs.Lanes.{empty_lanes}
use Rattle.p2p_peer_shared.specs.Routing.{put_to_router, with_closed}
use Rattle.p2p_router.specs.Messenger.{Desk}
use Rattle.p2p_router.specs.Routes.{Routes}
use Rattle.p2p_router.specs.declared.message.Message.TheVariants as router
use Rattle.p2p_tracker_directory.specs.Reserved.{peer_of}
use Rattle.p2p_tracker_mailbox.specs.Mailboxes.{with_message_in}
use Rattle.p2p_tracker_mailbox.specs.declared.mailbox.Mailbox.{Mailbox as Way}
use Rattle.p2p_tracker_mailbox.specs.declared.message.Message.TheVariants as tracker
use Rattle.p2p_lookup.specs.declared.peer.config.Limits.{Limits}
use Rattle.p2p_lookup.specs.declared.peer.live.Live.{Live}
use Rattle.p2p_lookup.specs.declared.peer.mailbox.Message.{Message}
use Rattle.p2p_lookup.specs.declared.peer.stepped.Stepped.{Stepped}
use Rattle.p2p_lookup.specs.declared.peer.stepped.Stepped.TheVariants as stepped

-- its number, its sizes, what it is told, what it has until it ends, and whether a step found no memory
pub record Connection (P : Type 0) : Type 0 where
  pub conn : ℕ
  pub limits : Limits
  pub control : Queue Message
  pub live : Option (Live P)
  pub failed : Bool

module _ {P : Type 0} where
  -- the answer says that the connection ends
  abbrev pub ends : Stepped P → Bool
  ends (stepped.Ended error frames written) = true
  ends _ = false

  -- what it is told goes where it ends
  abbrev pub control_after : Stepped P → Queue Message → Queue Message
  control_after (stepped.Ended error frames written) control = closed_queue control
  control_after _ control = control

  -- nothing is left of it where it ends
  abbrev pub live_after : Stepped P → Live P → Option (Live P)
  live_after (stepped.Ended error frames written) l = None
  live_after _ l = Some l

  -- what waited on the link goes where it ends
  abbrev pub waiting_after : Stepped P → List (List ℕ) → List (List ℕ)
  waiting_after (stepped.Ended error frames written) waiting = []
  waiting_after _ waiting = waiting

  abbrev pub settled : Connection P → Stepped P → Queue Message → Live P → Connection P
  settled c s control l = record {
    conn = c.conn;
    limits = c.limits;
    control = control_after s control;
    live = live_after s l;
    failed = c.failed;
  }

  -- the router is told that it is ready where it begins, and to release its peer where it ends
  abbrev pub told_to_router : Stepped P → P → ℕ → ℕ → Desk P → Desk P
  told_to_router stepped.Started peer size conn d = put_to_router d (router.Ready peer (empty_lanes size) conn)
  told_to_router (stepped.Ended error frames written) peer size conn d = put_to_router d (router.Release peer)
  told_to_router _ peer size conn d = d

  module _ (c : Connection P) where
    abbrev pub desk_of : Option (Live P) → Stepped P → Desk P → Desk P
    desk_of None s d = d
    desk_of (Some l) s d = told_to_router s (peer_of l.reservation) c.limits.mailbox_size c.conn d

    -- the messenger after a step with this answer
    abbrev pub desk_after : Stepped P → Desk P → Desk P
    desk_after s d = desk_of c.live s d

  module _ (c : Connection P) where
    abbrev pub told_to_tracker : Stepped P → Live P → Way P → Way P
    told_to_tracker stepped.Started l way = with_message_in way (tracker.Connect (peer_of l.reservation) c.conn)
    told_to_tracker (stepped.Ended error frames written) l way = with_message_in way (tracker.Release l.reservation)
    told_to_tracker _ l way = way

    abbrev pub way_of : Option (Live P) → Stepped P → Way P → Way P
    way_of None s way = way
    way_of (Some l) s way = told_to_tracker s l way

    -- the tracker's mailbox after a step with this answer: the reservation is given back where it ends
    abbrev pub way_after : Stepped P → Way P → Way P
    way_after s way = way_of c.live s way

  module _ (cmp : P → P → Ordering) where
    -- the router after a step with this answer: the relay is closed where it ends
    abbrev pub router_after : Stepped P → Routes P → ℕ → Routes P
    router_after (stepped.Ended error frames written) r conn = with_closed cmp r conn
    router_after _ r conn = r
