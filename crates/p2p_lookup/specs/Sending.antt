-- What the sending half of a connection does, by its first ready input: it begins; it takes its router's answer; then a ping at its
-- deadline, its control, the frames with priority, and those without.
use Rattle.std.specs.Prelude.{ℕ, ◌+◌, ◌==◌, Bool, true, false, cond, nat_le, List, [], length, Option, Some, None}
use Rattle.std.specs.declared.cmp.Ordering.{Ordering}
use Rattle.p2p_base.specs.Queue.{Queue, with_items}
use Rattle.p2p_flow.specs.Lanes.{Lanes}
use Rattle.p2p_flow_connection.specs.declared.error.Error.TheVariants as cause
use Rattle.p2p_peer_shared.specs.Gathering.{gathered_over, control_over, router_over}
use Rattle.p2p_peer_shared.specs.declared.gathering.Gathered.{Gathered}
use Rattle.p2p_peer_shared.specs.declared.gathering.Gathered.TheVariants as gathered
use Rattle.p2p_router.specs.Connections.{relay_at}
use Rattle.p2p_router.specs.Routes.{Routes}
use Rattle.p2p_tracker_directory.specs.Reserved.{peer_of}
use Rattle.p2p_wire.specs.Frame.{frame}
use Rattle.p2p_wire.specs.declared.encoded.EncodedData.{EncodedData}
use Rattle.p2p_wire.specs.declared.frame.Message.TheVariants as wire
use Rattle.p2p_lookup.specs.Connection.{Connection, settled, router_after}
use Rattle.p2p_lookup.specs.declared.peer.error.Error.TheVariants as error
use Rattle.p2p_lookup.specs.declared.peer.live.Live.{Live}
use Rattle.p2p_lookup.specs.declared.peer.live.Stage.{Stage}
use Rattle.p2p_lookup.specs.declared.peer.live.Stage.TheVariants as stage
use Rattle.p2p_lookup.specs.declared.peer.mailbox.Message.{Message}
use Rattle.p2p_lookup.specs.declared.peer.stepped.Stepped.{Stepped}
use Rattle.p2p_lookup.specs.declared.peer.stepped.Stepped.TheVariants as stepped

-- ---- a batch

-- the ping with which a batch begins, where it is due
abbrev pub ping_first : Bool → Option (List ℕ)
ping_first true = Some (frame wire.Ping)
ping_first false = None

-- what a batch of so many frames comes to
abbrev pub gathered_for : ℕ → Bool → Queue Message → Option (Lanes EncodedData) → Gathered
gathered_for size due control lanes =
    gathered_over (λ _. None) control.closed size (ping_first due) control.items lanes

-- the control then
abbrev pub control_for : ℕ → Bool → Queue Message → Option (Lanes EncodedData) → Queue Message
control_for size due control lanes =
    with_items control (control_over (λ _. None) control.closed size (ping_first due) control.items lanes)

-- ---- how far it is

-- the first deadline of a ping counts from the router's answer, and a later one from the ping before
abbrev pub stage_by : Stage → ℕ → Option (Lanes EncodedData) → ℕ → Stage
stage_by stage.New pause lanes now = stage.Waiting
stage_by stage.Waiting pause None now = stage.Waiting
stage_by stage.Waiting pause (Some l) now = stage.Running (now + pause)
stage_by (stage.Running ping_at) pause lanes now = stage.Running (cond (nat_le ping_at now) (now + pause) ping_at)

-- the control then: a connection that runs takes from it
abbrev pub control_by : Stage → ℕ → Queue Message → Option (Lanes EncodedData) → ℕ → Queue Message
control_by (stage.Running ping_at) size control lanes now = control_for size (nat_le ping_at now) control lanes
control_by _ size control lanes now = control

module _ {P : Type 0} where
  -- ---- the answer

  -- a batch of which the link took so many frames
  abbrev pub wrote : Bool → List (List ℕ) → ℕ → Stepped P
  wrote due frames written =
      cond (written == length frames) (stepped.Sent due frames) (stepped.Ended error.SendFailed frames written)

  abbrev pub sent_as : P → Bool → ℕ → Gathered → Stepped P
  sent_as peer due written gathered.Nothing = stepped.Idle
  sent_as peer due written gathered.Killed = stepped.Ended (error.Connection (cause.Killed peer)) [] 0
  sent_as peer due written gathered.Disconnected = stepped.Ended (error.Connection cause.Disconnected) [] 0
  sent_as peer due written (gathered.Batch frames) = wrote due frames written

  -- the first ready input decides
  abbrev pub sent_by : Stage → P → ℕ → Queue Message → Option (Lanes EncodedData) → ℕ → ℕ → Stepped P
  sent_by stage.New peer size control lanes now written = stepped.Started
  sent_by stage.Waiting peer size control None now written = stepped.Idle
  sent_by stage.Waiting peer size control (Some l) now written = stepped.Running
  sent_by (stage.Running ping_at) peer size control lanes now written =
      sent_as peer (nat_le ping_at now) written (gathered_for size (nat_le ping_at now) control lanes)

  -- ---- what is left

  abbrev pub with_stage : Live P → Stage → Live P
  with_stage l s = record {
    reservation = l.reservation;
    stage = s;
    inbox = l.inbox;
    pings = l.pings;
    holds_ping = l.holds_ping;
  }

  module _ (cmp : P → P → Ordering) where
    abbrev pub router_by : Stage → ℕ → Queue Message → Routes P → ℕ → Option (Lanes EncodedData) → ℕ → Routes P
    router_by (stage.Running ping_at) size control r conn lanes now =
        router_over (λ _. None) control.closed size (ping_first (nat_le ping_at now)) control.items cmp r conn lanes
    router_by _ size control r conn lanes now = r

  -- ---- a step, by what the link took

  -- the frames of the batch, and how many of them were written
  abbrev pub frames_in : Stepped P → List (List ℕ)
  frames_in (stepped.Sent due frames) = frames
  frames_in (stepped.Ended error frames written) = frames
  frames_in _ = []

  abbrev pub written_in : Stepped P → ℕ
  written_in (stepped.Sent due frames) = length frames
  written_in (stepped.Ended error frames written) = written
  written_in _ = 0

  abbrev pub send_fails : Stepped P → Bool
  send_fails (stepped.Ended error.SendFailed frames written) = true
  send_fails _ = false

  module _ (cmp : P → P → Ordering) (c : Connection P) (r : Routes P) (now : ℕ) where
    abbrev pub lanes_at : Option (Lanes EncodedData)
    lanes_at = relay_at cmp r c.conn

    abbrev pub send_answer_of : Option (Live P) → ℕ → Stepped P
    send_answer_of None written = stepped.Idle
    send_answer_of (Some l) written =
        sent_by l.stage (peer_of l.reservation) c.limits.send_batch_size c.control lanes_at now written

    abbrev pub live_sent : Live P → Live P
    live_sent l = with_stage l (stage_by l.stage c.limits.ping_frequency lanes_at now)

    abbrev pub after_send_of : Option (Live P) → Stepped P → Connection P
    after_send_of None s = c
    after_send_of (Some l) s =
        settled c s (control_by l.stage c.limits.send_batch_size c.control lanes_at now) (live_sent l)

    abbrev pub router_sent_of : Option (Live P) → Stepped P → Routes P
    router_sent_of None s = r
    router_sent_of (Some l) s =
        router_after cmp s (router_by cmp l.stage c.limits.send_batch_size c.control r c.conn lanes_at now) c.conn

  module _ (cmp : P → P → Ordering) (c : Connection P) (r : Routes P) (now : ℕ) where
    -- what a step answers, of whose batch the link took so many frames
    abbrev pub send_answer : ℕ → Stepped P
    send_answer written = send_answer_of cmp c r now c.live written

    -- the connection after a step with this answer
    abbrev pub after_send : Stepped P → Connection P
    after_send s = after_send_of cmp c r now c.live s

    -- the router after it
    abbrev pub router_sent : Stepped P → Routes P
    router_sent s = router_sent_of cmp c r now c.live s
