-- What the sending half of a connection does, by its first ready input: it begins; it takes its tracker's answer; it takes its router's
-- and greets; then a bit vector that is due, its control, the frames with priority, and those without.
use Rattle.std.specs.Prelude.{ℕ, ◌+◌, ◌==◌, Bool, true, false, cond, nat_le, List, [], ◌∷◌, length, Option, Some, None, is_some}
use Rattle.std.specs.declared.cmp.Ordering.{Ordering}
use Rattle.p2p_base.specs.Queue.{Queue, with_items}
use Rattle.p2p_flow.specs.Lanes.{Lanes}
use Rattle.p2p_flow_connection.specs.declared.error.Error.TheVariants as cause
use Rattle.p2p_peer_shared.specs.Gathering.{gathered_over, control_over, router_over}
use Rattle.p2p_peer_shared.specs.declared.gathering.Gathered.{Gathered}
use Rattle.p2p_peer_shared.specs.declared.gathering.Gathered.TheVariants as gathered
use Rattle.p2p_router.specs.Connections.{relay_at}
use Rattle.p2p_router.specs.Routes.{Routes}
use Rattle.p2p_wire.specs.declared.encoded.EncodedData.{EncodedData}
use Rattle.p2p_discovery_directory.specs.Reserved.{peer_of}
use Rattle.p2p_discovery_directory.specs.Asking.{Way, answer_of, without_answer}
use Rattle.p2p_discovery_directory.specs.Telling.{frame_of_told}
use Rattle.p2p_discovery_directory.specs.declared.peer.message.Message.{Message}
use Rattle.p2p_discovery_directory.specs.declared.tracker.answer.Answer.{Answer}
use Rattle.p2p_discovery_directory.specs.declared.tracker.answer.Answer.TheVariants as answer
use Rattle.p2p_discovery.specs.Spelling.{spelled}
use Rattle.p2p_discovery.specs.declared.info.Info.{Info}
use Rattle.p2p_discovery.specs.declared.payload.Payload.TheVariants as payload
use Rattle.p2p_discovery_peer.specs.Connection.{Connection, settled, told_to_tracker, router_after}
use Rattle.p2p_discovery_peer.specs.declared.peer.error.Error.TheVariants as error
use Rattle.p2p_discovery_peer.specs.declared.peer.live.Live.{Live}
use Rattle.p2p_discovery_peer.specs.declared.peer.live.Stage.{Stage}
use Rattle.p2p_discovery_peer.specs.declared.peer.live.Stage.TheVariants as stage
use Rattle.p2p_discovery_peer.specs.declared.peer.stepped.Stepped.{Stepped}
use Rattle.p2p_discovery_peer.specs.declared.peer.stepped.Stepped.TheVariants as stepped

module _ {P : Type 0} where
  -- ---- the answers

  -- what becomes of the tracker's answer, if it is there
  abbrev pub answered_as : Option (Answer P) → Stepped P
  answered_as None = stepped.Idle
  answered_as (Some answer.NotEligible) = stepped.NotEligible
  answered_as (Some (answer.Greeting info)) = stepped.Announced

  -- frames of which the link took them all: the greeting, or a batch
  abbrev pub written_as : Bool → List (List ℕ) → Stepped P
  written_as true frames = stepped.Running frames
  written_as false frames = stepped.Sent frames

  -- frames of which the link took so many
  abbrev pub wrote : Bool → List (List ℕ) → ℕ → Stepped P
  wrote greets frames written =
      cond (written == length frames) (written_as greets frames) (stepped.Ended error.SendFailed frames written)

  abbrev pub sent_as : P → ℕ → Gathered → Stepped P
  sent_as peer written gathered.Nothing = stepped.Idle
  sent_as peer written gathered.Killed = stepped.Ended (error.Connection (cause.Killed peer)) [] 0
  sent_as peer written gathered.Disconnected = stepped.Ended (error.Connection cause.Disconnected) [] 0
  sent_as peer written (gathered.Batch frames) = wrote false frames written

  -- ---- how far it is

  abbrev pub stage_answered : Stage P → Option (Answer P) → Stage P
  stage_answered s None = s
  stage_answered s (Some answer.NotEligible) = s
  stage_answered s (Some (answer.Greeting info)) = stage.Greeting info

  abbrev pub stage_greeted : Info P → Bool → ℕ → Stage P
  stage_greeted info answered now = cond answered (stage.Running now) (stage.Greeting info)

  -- the first bit vector is due at the router's answer, and a later one so long after the one before was asked for
  abbrev pub stage_by : Stage P → ℕ → Option (Answer P) → Option (Lanes EncodedData) → ℕ → Stage P
  stage_by stage.New pause a lanes now = stage.Asking
  stage_by stage.Asking pause a lanes now = stage_answered stage.Asking a
  stage_by (stage.Greeting info) pause a lanes now = stage_greeted info (is_some lanes) now
  stage_by (stage.Running due_at) pause a lanes now = stage.Running (cond (nat_le due_at now) (now + pause) due_at)

  abbrev pub with_stage : Live P → Stage P → Live P
  with_stage l s = record {
    reservation = l.reservation;
    stage = s;
    is_greeted = l.is_greeted;
    inbox = l.inbox;
    bit_vecs = l.bit_vecs;
    peers = l.peers;
    held = l.held;
  }

  -- the tracker's mailbox once the answer was taken
  abbrev pub way_by : Stage P → ℕ → Way P → Way P
  way_by stage.Asking conn way = without_answer way conn
  way_by _ conn way = way

  -- ---- frames

  module _ (bytes_of : P → List ℕ) where
    -- the frame with which it greets, alone
    abbrev pub greeting_of : Info P → List (List ℕ)
    greeting_of info = spelled bytes_of (payload.Greeting info) ∷ []

    -- the router's answer, by whether it is there
    abbrev pub greeted_as : Info P → Bool → ℕ → Stepped P
    greeted_as info answered written = cond answered (wrote true (greeting_of info) written) stepped.Idle

    -- what a batch of so many frames comes to
    abbrev pub gathered_for : ℕ → Queue (Message P) → Option (Lanes EncodedData) → Gathered
    gathered_for size control lanes =
        gathered_over (frame_of_told bytes_of) control.closed size None control.items lanes

    -- the control then
    abbrev pub control_for : ℕ → Queue (Message P) → Option (Lanes EncodedData) → Queue (Message P)
    control_for size control lanes =
        with_items control (control_over (frame_of_told bytes_of) control.closed size None control.items lanes)

    -- the first ready input decides
    abbrev pub sent_by : Stage P → P → ℕ → Queue (Message P) → Option (Answer P) → Option (Lanes EncodedData) → ℕ → ℕ → Stepped P
    sent_by stage.New peer size control a lanes now written = stepped.Started
    sent_by stage.Asking peer size control a lanes now written = answered_as a
    sent_by (stage.Greeting info) peer size control a lanes now written = greeted_as info (is_some lanes) written
    sent_by (stage.Running due_at) peer size control a lanes now written =
        cond (nat_le due_at now) stepped.Asked (sent_as peer written (gathered_for size control lanes))

    -- the control then: a connection that runs takes from it, unless a bit vector is due
    abbrev pub control_by : Stage P → ℕ → Queue (Message P) → Option (Lanes EncodedData) → ℕ → Queue (Message P)
    control_by (stage.Running due_at) size control lanes now =
        cond (nat_le due_at now) control (control_for size control lanes)
    control_by _ size control lanes now = control

    module _ (cmp : P → P → Ordering) where
      abbrev pub router_by : Stage P → ℕ → Queue (Message P) → Routes P → ℕ → Option (Lanes EncodedData) → ℕ → Routes P
      router_by (stage.Running due_at) size control r conn lanes now =
          cond (nat_le due_at now) r
          (router_over (frame_of_told bytes_of) control.closed size None control.items cmp r conn lanes)
      router_by _ size control r conn lanes now = r

  -- ---- a step, by what the link took

  -- the frames of the batch, and how many of them were written
  abbrev pub frames_in : Stepped P → List (List ℕ)
  frames_in (stepped.Running frames) = frames
  frames_in (stepped.Sent frames) = frames
  frames_in (stepped.Ended error frames written) = frames
  frames_in _ = []

  abbrev pub written_in : Stepped P → ℕ
  written_in (stepped.Running frames) = length frames
  written_in (stepped.Sent frames) = length frames
  written_in (stepped.Ended error frames written) = written
  written_in _ = 0

  abbrev pub send_fails : Stepped P → Bool
  send_fails (stepped.Ended error.SendFailed frames written) = true
  send_fails _ = false

  module _ (bytes_of : P → List ℕ) (cmp : P → P → Ordering) (c : Connection P) (r : Routes P) (way : Way P) (now : ℕ) where
    abbrev pub lanes_at : Option (Lanes EncodedData)
    lanes_at = relay_at cmp r c.conn

    abbrev pub send_answer_of : Option (Live P) → ℕ → Stepped P
    send_answer_of None written = stepped.Idle
    send_answer_of (Some l) written =
        sent_by bytes_of l.stage (peer_of l.reservation) c.limits.send_batch_size c.control (answer_of way c.conn) lanes_at now written

    abbrev pub live_sent : Live P → Live P
    live_sent l = with_stage l (stage_by l.stage c.limits.gossip_bit_vec_frequency (answer_of way c.conn) lanes_at now)

    abbrev pub after_send_of : Option (Live P) → Stepped P → Connection P
    after_send_of None s = c
    after_send_of (Some l) s =
        settled c s (control_by bytes_of l.stage c.limits.send_batch_size c.control lanes_at now) (live_sent l)

    abbrev pub router_sent_of : Option (Live P) → Stepped P → Routes P
    router_sent_of None s = r
    router_sent_of (Some l) s =
        router_after cmp s (router_by bytes_of cmp l.stage c.limits.send_batch_size c.control r c.conn lanes_at now) c.conn

  module _ (bytes_of : P → List ℕ) (cmp : P → P → Ordering) (c : Connection P) (r : Routes P) (way : Way P) (now : ℕ) where
    -- what a step answers, of whose batch the link took so many frames
    abbrev pub send_answer : ℕ → Stepped P
    send_answer written = send_answer_of bytes_of cmp c r way now c.live written

    -- the connection after a step with this answer
    abbrev pub after_send : Stepped P → Connection P
    after_send s = after_send_of bytes_of cmp c r way now c.live s

    -- the router after it
    abbrev pub router_sent : Stepped P → Routes P
    router_sent s = router_sent_of bytes_of cmp c r way now c.live s

  module _ (c : Connection P) where
    abbrev pub way_sent_of : Option (Live P) → Stepped P → Way P → Way P
    way_sent_of None s way = way
    way_sent_of (Some l) s way = told_to_tracker c.conn s l.reservation (way_by l.stage c.conn way)

    -- the tracker's mailbox after a step with this answer
    abbrev pub way_sent : Stepped P → Way P → Way P
    way_sent s way = way_sent_of c.live s way
