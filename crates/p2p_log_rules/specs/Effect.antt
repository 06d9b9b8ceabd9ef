-- The effect of an event: the one entry that it makes, given the configurations and the entries before it.
use Rattle.std.specs.Prelude.{ℕ, ◌+◌, ◌-◌, Bool, true, false, cond, nat_le, nat_lt, List, [], ◌∷◌, ◌++◌, map, filter, length, take, count_by, Option, Some, None, slice_get}
use Rattle.p2p_base.specs.declared.key.Key.{Key}
use Rattle.p2p_base.specs.declared.outcome.Feedback.TheVariants as feedback
use Rattle.p2p_base.specs.declared.outcome.Unreliable.TheVariants.{Outcome, Rejected}
use Rattle.p2p_log.specs.declared.config.Config.{Config}
use Rattle.p2p_log.specs.declared.queue.Queue.{Queue}
use Rattle.p2p_log.specs.declared.queue.Queue.TheVariants as queue
use Rattle.p2p_log.specs.declared.item.Item.{Item}
use Rattle.p2p_log.specs.declared.item.Item.TheVariants as item
use Rattle.p2p_log.specs.declared.item.Envelope.{Envelope}
use Rattle.p2p_log.specs.declared.end.End.{End}
use Rattle.p2p_log.specs.declared.end.End.TheVariants as end
use Rattle.p2p_log.specs.declared.end.Outcome.{Outcome as How}
use Rattle.p2p_log.specs.declared.end.Outcome.TheVariants as outcome
use Rattle.p2p_log.specs.declared.end.Cause.{Cause}
use Rattle.p2p_log.specs.declared.end.Cause.TheVariants as cause
use Rattle.p2p_log.specs.declared.entry.Ended.{Ended}
use Rattle.p2p_log.specs.declared.entry.Ended.TheVariants as ended
use Rattle.p2p_log.specs.declared.entry.Entry.{Entry}
use Rattle.p2p_log.specs.declared.entry.Reply.{Reply}
use Rattle.p2p_log.specs.declared.entry.Reply.TheVariants as reply
use Rattle.p2p_log_rules.specs.declared.row.Half.{Half}
use Rattle.p2p_log_rules.specs.declared.row.Row.{Row}
use Rattle.p2p_log.specs.declared.event.Act.{Act}
use Rattle.p2p_log.specs.declared.event.Act.TheVariants as act
use Rattle.p2p_log.specs.declared.event.Rate.{Rate}
use Rattle.p2p_log.specs.declared.event.Recipients.{Recipients}
use Rattle.p2p_log.specs.declared.event.Recipients.TheVariants as recipients
use Rattle.p2p_log.specs.declared.event.Event.{Event}
use Rattle.p2p_log.specs.QueueCode.{same_queue}
use Rattle.p2p_log.specs.Lines.{line, live, name_of, stands_in, stays}
use Rattle.p2p_log_rules.specs.Facts.{is_up, is_stopped, channels, capacity_in, capacity_for, subscribers, routes, with_route, keys_in, route_to}
use Rattle.p2p_log_rules.specs.Connections.{live_half, is_begun, is_running, is_ended}
pub use Rattle.p2p_log_rules.specs.Dropping.{other_side}
use Rattle.p2p_log_rules.specs.Cutting.{is_broken, cut_row}
use Rattle.p2p_log_rules.specs.Dropping.{attempt_step_row, handshake_step_row, listener_step_row}
use Rattle.p2p_log_rules.specs.Ending.{end_row}
use Rattle.p2p_log_rules.specs.Frames.{frame_of, message_in, is_ping_in}
pub use Rattle.p2p_log_rules.specs.Full.{router_capacity}
use Rattle.p2p_log_rules.specs.Full.{is_reached, holds_all, is_full}
pub use Rattle.p2p_log_rules.specs.Metering.{limit_at}
use Rattle.p2p_log_rules.specs.Metering.{pings, messages, may_pass}
use Rattle.p2p_log_rules.specs.Pings.{ping_frame, ping_is_due}
pub use Rattle.p2p_log_rules.specs.Rows.{only, taken_row, takes_oldest, mailbox_size_at, overwritten, ring_ends}
use Rattle.p2p_log_rules.specs.Admitting.{offered, keys_admitted, retry_moment}
use Rattle.p2p_log_rules.specs.Checking.{Check, check_of}
use Rattle.p2p_log_rules.specs.Closing.{is_closed, has_reader, close_row, refused_by}
use Rattle.p2p_log_rules.specs.Attempting.{resolve_row, refuse_row, connect_row}
use Rattle.p2p_log_rules.specs.Dialing.{dialer_row}
use Rattle.p2p_log_rules.specs.Links.{finish_row}
use Rattle.p2p_log_rules.specs.Spawning.{spawner_row}
use Rattle.p2p_log_rules.specs.Stopping.{stop_row}
use Rattle.p2p_log_rules.specs.TrackerRows.{ask_row, answer_row, next_row, tracker_row}

-- ---- calls

-- what a node that has stopped does not do any more
abbrev pub unless_stopped : List Entry → ℕ → Reply → Row → Row
unless_stopped log n said r = cond (is_stopped log n) (only said) r

-- register: the channel's queue holds the retained peers' bursts
abbrev pub register_row : List Config → List Entry → ℕ → Rate → Row
register_row configs log n rate = unless_stopped log n reply.Gone (only (reply.Capacity (capacity_for (slice_get configs n) rate)))

-- start: one subscription for each channel, in order of registration
abbrev pub start_row : List Config → List Entry → ℕ → Row
start_row configs log n =
    unless_stopped log n reply.Gone
    (record { reply = reply.Ok; takes = []; puts = map (λ c. (queue.Router n, item.Subscribe c.0)) (channels configs log n); ends = [] })

-- each copy of the send, from this place on, ends so
abbrev pub copies_end : ℕ → ℕ → List Key → How → List End
copies_end send p [] o = []
copies_end send p (k ∷ ks) o = end.Copy send p o ∷ copies_end send (p + 1) ks o

-- what a message comes to that is accepted with one reply and refused with another, by whether the node has started and the
-- router's mailbox is full
abbrev pub sent_row : Reply → Reply → Bool → Bool → ℕ → ℕ → ℕ → Bool → List ℕ → List Key → Row
sent_row accepted refused false full n send c priority frame to =
    record { reply = accepted; takes = []; puts = []; ends = copies_end send 0 to (outcome.Dropped cause.Unbound) }
sent_row accepted refused true true n send c priority frame to = only refused
sent_row accepted refused true false n send c priority frame to =
    record { reply = accepted; takes = []; puts = (queue.Router n, item.Content c frame priority send to) ∷ []; ends = [] }

-- what takes the list of peers that waits for a channel: what asks its quota for all
abbrev pub takes_list : List Entry → ℕ → ℕ → Recipients → List (ℕ × ℕ)
takes_list log n c recipients.All = map name_of (take 1 (line log (queue.Peers n c)))
takes_list log n c _ = []

-- a row that takes nothing, with these
abbrev pub taking : List (ℕ × ℕ) → Row → Row
taking names r = record r { takes = names }

-- and by whether the message is longer than the node lets it be
abbrev pub fitting_row : Bool → ℕ → ℕ → Row → Row
fitting_row true size limit sent = only (reply.MessageTooLarge size limit)
fitting_row false size limit sent = sent

-- and by what the channel's quota admits of the keys that it is for: where it admits none of them, nothing is sent
abbrev pub admitted_row : List Key → List Key → Row → Row
admitted_row (k ∷ ks) [] sent = only (reply.Sent [])
admitted_row to keys sent = sent

-- a message to these keys, which the quota of its channel admitted: with one reply where it is accepted, with another where the router's
-- mailbox is full, and with a third where that is closed
abbrev pub send_to_row : List Config → List Entry → Reply → Reply → Reply → List ℕ → ℕ → ℕ → Bool → List Key → Row
send_to_row configs log accepted refused closed bytes c n priority keys =
    fitting_row (nat_lt (limit_at configs n) (length bytes)) (length bytes) (limit_at configs n)
    (unless_stopped log n closed (sent_row accepted refused (is_up log n) (is_full configs log (queue.Router n)) n (length log) c priority (frame_of c bytes) keys))

-- send to these keys of those that it is for
abbrev pub send_keys_row : List Config → List Entry → List ℕ → ℕ → ℕ → Bool → List Key → List Key → Row
send_keys_row configs log bytes c n priority to keys =
    admitted_row to keys (send_to_row configs log (reply.Sent keys) (reply.Sent []) (reply.Sent []) bytes c n priority keys)

abbrev pub send_row : List Config → List Entry → List ℕ → ℕ → ℕ → Bool → Recipients → ℕ → Row
send_row configs log bytes c n priority to at =
    elim (capacity_in (channels configs log n) c) [
      | None ↦ only reply.Gone
      | Some _ ↦ taking (takes_list log n c to) (send_keys_row configs log bytes c n priority (offered log n c to) (keys_admitted log n c at (offered log n c to)))
    ]

-- check: what the channel's quota admits of these keys, or where it admits none of them, when it does
abbrev pub checked_row : List Key → List Key → ℕ → Row
checked_row (k ∷ ks) [] retry = only (reply.Retry retry)
checked_row to keys retry = only (reply.Checked keys)

abbrev pub check_row : List Config → List Entry → ℕ → ℕ → Recipients → ℕ → Row
check_row configs log c n to at =
    elim (capacity_in (channels configs log n) c) [
      | None ↦ only reply.Gone
      | Some _ ↦
          taking (takes_list log n c to)
          (checked_row (offered log n c to) (keys_admitted log n c at (offered log n c to)) (retry_moment log n c at (offered log n c to)))
    ]

-- send_checked: to the keys that a check admitted, at its node and on its channel, where no message was asked for by it yet
abbrev pub spent_row : List Config → List Entry → List ℕ → Bool → Option Check → Row
spent_row configs log bytes priority None = only reply.Gone
spent_row configs log bytes priority (Some c) =
    send_to_row configs log
    (reply.Outcome (Outcome feedback.Ok) c.node c.channel c.keys) (reply.Outcome Rejected c.node c.channel c.keys) (reply.Outcome (Outcome feedback.Closed) c.node c.channel c.keys)
    bytes c.channel c.node priority c.keys

abbrev pub send_checked_row : List Config → List Entry → List ℕ → ℕ → Bool → Row
send_checked_row configs log bytes check priority = spent_row configs log bytes priority (check_of log check)

-- recv: the oldest message of the channel, while that has a reader
abbrev pub read_row : ℕ × ℕ → Item → Row
read_row name (item.Message bytes copy from) =
    record { reply = reply.Message bytes from; takes = name ∷ []; puts = []; ends = end.Copy copy.0 copy.1 outcome.Delivered ∷ [] }
read_row name _ = only reply.Pending

-- or this reply, where none waits
abbrev pub oldest_read : Reply → List Envelope → Row
oldest_read empty [] = only empty
oldest_read empty (x ∷ _) = read_row (name_of x) x.item

abbrev pub recv_row : List Config → List Entry → ℕ → ℕ → Row
recv_row configs log c n =
    cond (has_reader configs log n c) (oldest_read (cond (is_stopped log n) reply.NetworkClosed reply.Pending) (line log (queue.Channel n c))) (only reply.Gone)

-- ---- the router's step

-- the newest list of peers, to this channel
abbrev pub peers_put : ℕ → List Key → ℕ → Queue × Item
peers_put n keys c = (queue.Peers n c, item.Peers keys)

-- what comes of the lists that these channels hold, among what stands in queues: each is overwritten
abbrev pub peers_ends : List Envelope → ℕ → List ℕ → List End
peers_ends items n cs = ring_ends items (map (queue.Peers n) cs)

-- the queue of a connection that a message of this priority enters
abbrev pub relay_queue : Bool → ℕ → ℕ → Queue
relay_queue true n conn = queue.High n conn
relay_queue false n conn = queue.Low n conn

abbrev pub goes_to : Queue → Queue × Item → Bool
goes_to q x = same_queue q x.0

-- what the recipients' copies come to, from this place on, given the puts so far
pub record Spread : Type 0 where
  pub puts : List (Queue × Item)
  pub ends : List End

-- a copy ends for this cause
abbrev pub dropped_copy : Cause → ℕ → ℕ → Spread → Spread
dropped_copy c send p so_far = record so_far { ends = so_far.ends ++ end.Copy send p (outcome.Dropped c) ∷ [] }

-- a copy enters its relay's queue, or is dropped where that holds its size already
abbrev pub spread_one : ℕ → List Envelope → Queue → ℕ → ℕ → List ℕ → Spread → Spread
spread_one size items q send p frame so_far =
    cond (is_reached (Some size) (length (filter (stands_in q) items) + count_by (goes_to q) so_far.puts))
    (dropped_copy cause.RelayFull send p so_far)
    (record so_far { puts = so_far.puts ++ (q, item.Frame (Some (send, p)) frame) ∷ [] })

-- a copy whose recipient has no connection is dropped, and so is one whose connection has ended
abbrev pub spread_to : ℕ → List Envelope → ℕ → Bool → (ℕ → Bool) → Option ℕ → ℕ → ℕ → List ℕ → Spread → Spread
spread_to size items n priority ended None send p frame so_far = dropped_copy cause.NoConnection send p so_far
spread_to size items n priority ended (Some conn) send p frame so_far =
    cond (ended conn) (dropped_copy cause.ConnectionEnded send p so_far) (spread_one size items (relay_queue priority n conn) send p frame so_far)

abbrev pub spread : ℕ → List Envelope → ℕ → Bool → (ℕ → Bool) → List (ℕ × ℕ) → ℕ → ℕ → List ℕ → List Key → Spread → Spread
spread size items n priority ended routes send p frame [] so_far = so_far
spread size items n priority ended routes send p frame (k ∷ ks) so_far =
    spread size items n priority ended routes send (p + 1) frame ks (spread_to size items n priority ended (route_to routes k) send p frame so_far)

abbrev pub row_of_spread : ℕ × ℕ → Spread → Row
row_of_spread name s = record { reply = reply.Ok; takes = name ∷ []; puts = s.puts; ends = s.ends }

-- its answer to a connection, unless that has ended
abbrev pub answer_puts : Bool → ℕ → ℕ → List (Queue × Item)
answer_puts true n conn = []
answer_puts false n conn = (queue.RouterAnswer n conn, item.RouterAnswer) ∷ []

-- it takes that a connection is ready, which has ended or not: it may run, and each subscriber hears of it
abbrev pub ready_row : List Entry → ℕ → ℕ × ℕ → ℕ → Key → Bool → List Envelope → Row
ready_row log n name conn key ended items = record {
  reply = reply.Ok;
  takes = name ∷ [];
  puts = answer_puts ended n conn ++ map (peers_put n (keys_in (with_route (routes log n) (item.Ready conn key)))) (subscribers log n);
  ends = peers_ends items n (subscribers log n);
}

-- the item that the router took, by its kind, given what stands in queues once it is taken
abbrev pub route_row : List Config → List Entry → ℕ → ℕ × ℕ → Item → List Envelope → Row
-- a subscription: the peers that are connected now
route_row configs log n name (item.Subscribe c) items =
    record {
      reply = reply.Ok;
      takes = name ∷ [];
      puts = map (peers_put n (keys_in (routes log n))) (c ∷ []);
      ends = peers_ends items n (c ∷ []);
    }
-- a connection
route_row configs log n name (item.Ready conn key) items = ready_row log n name conn key (is_ended log n conn) items
-- the end of a connection: each subscriber hears that its peer is gone
route_row configs log n name (item.Release key) items =
    record {
      reply = reply.Ok;
      takes = name ∷ [];
      puts = map (peers_put n (keys_in (with_route (routes log n) (item.Release key)))) (subscribers log n);
      ends = peers_ends items n (subscribers log n);
    }
-- content: a copy to each recipient, in order
route_row configs log n name (item.Content c frame priority send to) items =
    row_of_spread name (spread (mailbox_size_at configs n) items n priority (is_ended log n) (routes log n) send 0 frame to (record { puts = []; ends = [] }))
route_row configs log n name _ items = taken_row name

abbrev pub route_oldest : List Config → List Entry → ℕ → List Envelope → Row
route_oldest configs log n [] = only reply.Idle
route_oldest configs log n (x ∷ _) = route_row configs log n (name_of x) x.item (filter (stays (name_of x ∷ [])) (live log))

abbrev pub router_row : List Config → List Entry → ℕ → Row
router_row configs log n =
    cond (is_up log n) (route_oldest configs log n (line log (queue.Router n))) (only reply.Gone)

-- ---- the steps of a connection

-- a ping, where one is due
abbrev pub ping_puts : Bool → Queue → List (Queue × Item)
ping_puts true q = (q, item.Frame None ping_frame) ∷ []
ping_puts false q = []

-- a batch, written to the link in order, with a ping before it where one is due
abbrev pub write_row : Queue → Bool → List Envelope → Row
write_row q false [] = only reply.Idle
write_row q due xs = record { reply = reply.Ok; takes = map name_of xs; puts = ping_puts due q ++ map (λ y. (q, y.item)) xs; ends = [] }

abbrev pub batch_size_at : List Config → ℕ → ℕ
batch_size_at configs n = elim (slice_get configs n) [ None ↦ 0 | Some c ↦ c.send_batch_size ]

-- how many messages a batch of this size has beside its ping
abbrev pub beside_ping : Bool → ℕ → ℕ
beside_ping true size = size - 1
beside_ping false size = size

-- high before low, as many as these
abbrev pub batch : List Entry → ℕ → ℕ → ℕ → List Envelope
batch log n conn most = take most (line log (queue.High n conn) ++ line log (queue.Low n conn))

-- to write a batch: where the other end of the link was dropped, or the link was cut, the connection ends in its place
abbrev pub written_row : List Entry → ℕ → ℕ → Half → Bool → Bool → List Envelope → Row
written_row log n conn half broken false [] = only reply.Idle
written_row log n conn half true due xs = end_row log n conn half ended.SendFailed cause.ConnectionEnded xs
written_row log n conn half false due xs = write_row (queue.Link half.link half.writes) due xs

-- what it is told comes before its messages, where a batch has room beside its ping: that it ends
abbrev pub told_to_end_row : List Entry → ℕ → ℕ → Half → List Envelope → Bool → Row → Row
told_to_end_row log n conn half (x ∷ _) true r = end_row log n conn half ended.Killed cause.ConnectionEnded (x ∷ [])
told_to_end_row log n conn half _ room r = r

-- a step of a half that runs, by whether its ping is due
abbrev pub running_row : List Config → List Entry → ℕ → ℕ → Half → Bool → Row
running_row configs log n conn half due =
    let most = beside_ping due (batch_size_at configs n) in
    told_to_end_row log n conn half (line log (queue.Control n conn)) (nat_lt 0 most)
    (written_row log n conn half (is_broken log half.link (other_side half.writes)) due (batch log n conn most))

-- it begins: the tracker and the router are told whom it is with
abbrev pub begin_row : ℕ → ℕ → Key → Row
begin_row n conn peer = record {
  reply = reply.Ok;
  takes = [];
  puts = (queue.Tracker n, item.Connect conn peer) ∷ (queue.Router n, item.Ready conn peer) ∷ [];
  ends = [];
}

-- its half, by whether it has begun and whether it runs: its router's answer comes before what it writes
abbrev pub half_row : List Config → List Entry → ℕ → ℕ → ℕ → Half → Bool → Bool → Row
half_row configs log n conn at half false running = begin_row n conn half.peer
half_row configs log n conn at half true false = takes_oldest (line log (queue.RouterAnswer n conn))
half_row configs log n conn at half true true = running_row configs log n conn half (ping_is_due configs log n conn at)

abbrev pub sender_row : List Config → List Entry → ℕ → ℕ → ℕ → Option Half → Row
sender_row configs log n conn at None = only reply.Gone
sender_row configs log n conn at (Some half) = half_row configs log n conn at half (is_begun log n conn) (is_running log n conn)

abbrev pub send_step_row : List Config → List Entry → ℕ → ℕ → ℕ → Row
send_step_row configs log conn n at = cond (is_up log n) (sender_row configs log n conn at (live_half log n conn)) (only reply.Gone)

-- to deliver a message: into its channel's queue, or dropped where it does not enter that
abbrev pub delivered_row : Option Cause → ℕ → ℕ × ℕ → Key → ℕ × ℕ → ℕ × List ℕ → Row
delivered_row (Some why) n name from copy message =
    record { reply = reply.Ok; takes = name ∷ []; puts = []; ends = end.Copy copy.0 copy.1 (outcome.Dropped why) ∷ [] }
delivered_row None n name from copy message =
    record { reply = reply.Ok; takes = name ∷ []; puts = (queue.Channel n message.0, item.Message message.1 copy from) ∷ []; ends = [] }

abbrev pub deliver_row : List Entry → ℕ → ℕ × ℕ → Key → ℕ × ℕ → ℕ × List ℕ → ℕ → Row
deliver_row log n name from copy message capacity =
    delivered_row (refused_by (is_closed log n message.0) (holds_all (Some capacity) (line log (queue.Channel n message.0)))) n name from copy message

-- what came waits until its quota admits it
abbrev pub hold_row : ℕ → ℕ → ℕ × ℕ → Item → Row
hold_row n conn name i = record { reply = reply.Ok; takes = name ∷ []; puts = (queue.Held n conn, i) ∷ []; ends = [] }

module _ (configs : List Config) (log : List Entry) (n conn at : ℕ) (half : Half) where
  -- the connection ends for what came, whose copy is dropped
  abbrev pub refused_row : Ended → Cause → Envelope → Row
  refused_row why c x = end_row log n conn half why c (x ∷ [])

  -- the first frame in flight: a message by its channel's quota, where that is registered
  abbrev pub message_row : Envelope → ℕ × ℕ → Option (ℕ × List ℕ) → Row
  message_row x copy None = refused_row ended.DecodeFailed cause.FrameRefused x
  message_row x copy (Some message) =
      elim (capacity_in (channels configs log n) message.0) [
        | None ↦ refused_row ended.InvalidChannel cause.ChannelUnregistered x
        | Some capacity ↦
            cond (may_pass configs log n conn at (messages message.0))
            (deliver_row log n (name_of x) half.peer copy message capacity)
            (hold_row n conn (name_of x) (item.Held message.0 message.1 copy))
      ]

  -- a ping by the quota of pings: it leaves no trace
  abbrev pub ping_row : Envelope → Bool → Row
  ping_row x false = refused_row ended.DecodeFailed cause.FrameRefused x
  ping_row x true = cond (may_pass configs log n conn at pings) (taken_row (name_of x)) (hold_row n conn (name_of x) item.Ping)

  abbrev pub frame_row : Envelope → Item → Row
  frame_row x (item.Frame (Some copy) frame) = message_row x copy (message_in frame (limit_at configs n))
  frame_row x (item.Frame None frame) = ping_row x (is_ping_in frame (limit_at configs n))
  frame_row x _ = only reply.Idle

  -- where no frame is in flight and the other end was dropped, or the link was cut, none will come
  abbrev pub receive_row : List Envelope → Row
  receive_row [] =
      cond (is_broken log half.link (other_side half.writes))
      (end_row log n conn half ended.ReceiveFailed cause.ConnectionEnded [])
      (only reply.Idle)
  receive_row (x ∷ _) = frame_row x x.item

  -- what is held: it is delivered once its quota admits it
  abbrev pub retry_row : ℕ × ℕ → Item → Row
  retry_row name (item.Held c bytes copy) =
      elim (capacity_in (channels configs log n) c) [
        | None ↦ only reply.Idle
        | Some capacity ↦
            cond (may_pass configs log n conn at (messages c)) (deliver_row log n name half.peer copy (c, bytes) capacity) (only reply.Idle)
      ]
  retry_row name item.Ping = cond (may_pass configs log n conn at pings) (taken_row name) (only reply.Idle)
  retry_row name _ = only reply.Idle

  -- what is held comes first, and while it is held no frame is taken
  abbrev pub held_row : List Envelope → List Envelope → Row
  held_row [] frames = receive_row frames
  held_row (x ∷ _) frames = retry_row (name_of x) x.item

  abbrev pub receiver_row : Row
  receiver_row = held_row (line log (queue.Held n conn)) (line log (queue.Link half.link (other_side half.writes)))

abbrev pub receiving_row : List Config → List Entry → ℕ → ℕ → ℕ → Option Half → Row
receiving_row configs log n conn at None = only reply.Gone
receiving_row configs log n conn at (Some half) = cond (is_running log n conn) (receiver_row configs log n conn at half) (only reply.Idle)

abbrev pub recv_step_row : List Config → List Entry → ℕ → ℕ → ℕ → Row
recv_step_row configs log conn n at = cond (is_up log n) (receiving_row configs log n conn at (live_half log n conn)) (only reply.Gone)

-- ---- all acts

-- at a moment and with a seed
unfoldable pub row : List Config → List Entry → ℕ → ℕ → Act → Row
row configs log at seed (act.Register c n rate) = register_row configs log n rate
row configs log at seed (act.Start n) = start_row configs log n
row configs log at seed (act.Stop by_start n) = stop_row log n
row configs log at seed (act.Send bytes c n priority to) = send_row configs log bytes c n priority to at
row configs log at seed (act.Check c n to) = check_row configs log c n to at
row configs log at seed (act.SendChecked bytes check priority) = send_checked_row configs log bytes check priority
row configs log at seed (act.Router n) = router_row configs log n
row configs log at seed (act.SendStep conn n) = send_step_row configs log conn n at
row configs log at seed (act.RecvStep conn n) = recv_step_row configs log conn n at
row configs log at seed (act.Recv c n) = recv_row configs log c n
row configs log at seed (act.Close c n) = close_row configs log c n
row configs log at seed (act.Ask what n) = ask_row configs log n what
row configs log at seed (act.Answer question) = answer_row log question
row configs log at seed (act.Next question) = next_row log question
row configs log at seed (act.Dialer n) = dialer_row configs log n at seed
row configs log at seed (act.Listener n) = listener_step_row configs log n at
row configs log at seed (act.Handshake e n) = handshake_step_row configs log e n at
row configs log at seed (act.Spawner n) = spawner_row log n
row configs log at seed (act.Attempt e n) = attempt_step_row configs log e n at seed
row configs log at seed (act.Resolve addresses e n) = resolve_row configs log addresses e n
row configs log at seed (act.Connect e from n to) = connect_row configs log e from n to
row configs log at seed (act.Refuse e n) = refuse_row configs log e n
row configs log at seed (act.Finish link ok) = finish_row configs log link ok
row configs log at seed (act.Cut link) = cut_row log link
row configs log at seed (act.Tracker n) = tracker_row configs log n at

abbrev pub entry_of : Event → Row → Entry
entry_of event r = record { event = event; reply = r.reply; takes = r.takes; puts = r.puts; ends = r.ends }

-- the entry that the event makes after these entries
unfoldable pub effect : List Config → List Entry → Event → Entry
effect configs log event = entry_of event (row configs log event.at event.seed event.act)
