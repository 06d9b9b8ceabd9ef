-- What came over a connection, by the log: what its quota says of it, and the row of the step that takes it.
use Rattle.std.proofs.Common.{◌≡◌, ℕ, ◌≤◌, Bool, true, false, cond, List, [], ◌∷◌, length, refl, ap, sym, ◌∙◌, arith, Result, Ok, Err, Option, Some, None}
use Rattle.std.specs.Prelude.{nat_le, ◌==◌, ◌&&◌, not}
use Rattle.std.specs.Option.{option_map}
use Rattle.std.proofs.lemmas.Bool.Decides.{nat_tests}
use Rattle.p2p_log_rules.proofs.Bools.{and_true}
use Rattle.p2p_log.specs.declared.config.Config.{Config}
use Rattle.p2p_log.specs.declared.queue.Queue.TheVariants as queue
use Rattle.p2p_log.specs.declared.item.Item.{Item}
use Rattle.p2p_log.specs.declared.item.Item.TheVariants as item
use Rattle.p2p_log.specs.declared.item.Envelope.{Envelope}
use Rattle.p2p_log.specs.declared.queue.Side.{Side}
use Rattle.p2p_log.specs.declared.end.Cause.{Cause}
use Rattle.p2p_log.specs.declared.end.Cause.TheVariants as cause
use Rattle.p2p_log.specs.declared.entry.Ended.TheVariants as ended
use Rattle.p2p_log.specs.declared.entry.Entry.{Entry}
use Rattle.p2p_log.specs.declared.entry.Reply.TheVariants as reply
use Rattle.p2p_log.specs.declared.event.Act.TheVariants as act
use Rattle.p2p_log.specs.Lines.{line, name_of}
use Rattle.p2p_wire.specs.declared.error.CodecError.{CodecError}
use Rattle.p2p_wire.specs.declared.frame.Message.{Message}
use Rattle.p2p_wire.specs.declared.frame.Message.TheVariants as message
use Rattle.p2p_wire.specs.Frame.{decode_frame}
use Rattle.p2p_log_rules.specs.declared.row.Half.{Half}
use Rattle.p2p_log_rules.specs.Connections.{live_half}
use Rattle.p2p_log_rules.specs.declared.row.Row.{Row}
use Rattle.p2p_log_rules.specs.Frames.{data_in, is_ping, message_in, is_ping_in}
use Rattle.p2p_log_rules.specs.Facts.{events_of, latest_moment, taken, channels, capacity_in}
use Rattle.p2p_log_rules.specs.Closing as closing
use Rattle.p2p_log_rules.specs.Closing.{refused_by}
use Rattle.p2p_log_rules.specs.Effect
use Rattle.p2p_log_rules.specs.Effect.{only, delivered_row, deliver_row, hold_row, frame_row, retry_row}
use Rattle.p2p_log_rules.specs.Connections.{is_end}
use Rattle.p2p_log_rules.specs.Ending.{end_row}
use Rattle.p2p_log_rules.specs.Metering.{Metered, pings, messages, is_of, metered_by, metered_in, holds, limit_at, admitted_by, may_pass}
use Rattle.p2p_log_rules.proofs.Connections.{steps_receiver}
use Rattle.p2p_log_rules.proofs.Metering.{admits_one, admitted_is}
use Rattle.p2p_log_laws.proofs.Fitting.{fits}
use Rattle.p2p_log_rules.specs.Rows.{taken_row}
use Rattle.p2p_net_channels.specs.declared.arrival.Arrived.{Arrived}
use Rattle.p2p_net_channels.specs.declared.arrival.Arriving.{Arriving}
use Rattle.p2p_net_channels.specs.declared.arrival.Arriving.TheVariants as arriving
use Rattle.p2p_net_channels.specs.Arrivals.{arrival_of, arrival_in, held_arrival, held_item, delivered}
use Rattle.p2p_net_channels.specs.Channels.{capacity_at, may_admit}
use Rattle.p2p_net_channels.specs.Stands.{ChannelsStand}
use Rattle.p2p_net_channels.proofs.Quotas.{may_admit_is}
use Rattle.p2p_net_channels.proofs.Readers.{refusal_is}
use Rattle.p2p_net_connections.specs.Stands.{ConnectionsStand}
use Rattle.p2p_net_connections.proofs.Receiving.{may_ping_is}
use Rattle.p2p_net_node.specs.Places as place
use Rattle.p2p_net_connecting.specs.Receiving.{verdict_by, verdict, passed_row}
use Rattle.p2p_net_node.specs.Stands.{NodeStands}
use Rattle.p2p_net_node.specs.declared.node.Node.{Node}

-- ---- what its quota counts it as

abbrev pub counts_as : Arriving → Metered
counts_as (arriving.Message m) = messages m.channel
counts_as arriving.Ping = pings

-- what an item counts as is what it was read as
abbrev pub IsRead : ℕ → Item → Arriving → Type 0
IsRead limit i a = metered_in limit i ≡ Some (counts_as a)

message_counts : (copy : ℕ × ℕ) (d : Result Message CodecError) (a : Arriving) → option_map arriving.Message (arrival_of copy (data_in d)) ≡ Some a → metered_by d ≡ Some (counts_as a)
message_counts copy (Ok (message.Data d)) (arriving.Message m) h = ap (option_map counts_as) h
message_counts copy (Ok (message.Data d)) arriving.Ping h = cc
message_counts copy (Ok message.Ping) a h = cc
message_counts copy (Err e) a h = cc

ping_counts : (d : Result Message CodecError) (a : Arriving) → cond (is_ping d) (Some arriving.Ping) None ≡ Some a → metered_by d ≡ Some (counts_as a)
ping_counts (Ok message.Ping) a h = ap (option_map counts_as) h
ping_counts (Ok (message.Data d)) a h = cc
ping_counts (Err e) a h = cc

pub frame_read : (limit : ℕ) (i : Item) (a : Arriving) → arrival_in limit i ≡ Some a → IsRead limit i a
frame_read limit (item.Frame (Some copy) bytes) a h = message_counts copy (decode_frame bytes limit) a h
frame_read limit (item.Frame None bytes) a h = ping_counts (decode_frame bytes limit) a h
frame_read limit _ a h = absurd (cc)

pub held_read : (limit : ℕ) (i : Item) (a : Arriving) → held_arrival i ≡ Some a → IsRead limit i a
held_read limit (item.Held c bytes copy) a h = ap (option_map counts_as) h
held_read limit item.Ping a h = ap (option_map counts_as) h
held_read limit _ a h = absurd (cc)

-- ---- what an entry that takes it admits

pub admitted_here : (limit n conn d at : ℕ) (what kind : Metered) (log : List Entry) (e : Entry) (i : Item) (held : Bool) → e.event.act ≡ act.RecvStep conn n → is_end e.reply ≡ false → e.event.at ≡ at → taken log e ≡ i ∷ []
    → metered_in limit i ≡ Some kind → holds e.puts ≡ held → admitted_by limit n d what log e ≡ cond ((d == conn) && (is_of what (Some kind) && not held)) (at ∷ []) []
admitted_here limit n conn d at what kind log e i held acts lives is took counts puts =
    admitted_is limit n d what log e
    ∙ (ap (λ b. cond (steps_receiver n d e.event.act && not b && admits_one limit what (taken log e) e.puts) (e.event.at ∷ []) []) lives
    ∙ (ap (λ b. cond (b && admits_one limit what (taken log e) e.puts) (e.event.at ∷ []) []) (and_true (steps_receiver n d e.event.act))
    ∙ (ap (λ a. cond (steps_receiver n d a && admits_one limit what (taken log e) e.puts) (e.event.at ∷ []) []) acts
    ∙ (ap (λ items. cond (((n == n) && (conn == d)) && admits_one limit what items e.puts) (e.event.at ∷ []) []) took
    ∙ (ap (λ k. cond (((n == n) && (conn == d)) && (is_of what k && not (holds e.puts))) (e.event.at ∷ []) []) counts
    ∙ (ap (λ h. cond (((n == n) && (conn == d)) && (is_of what (Some kind) && not h)) (e.event.at ∷ []) []) puts
    ∙ (ap (λ b. cond (b && (is_of what (Some kind) && not held)) (e.event.at ∷ []) []) (here n conn d)
    ∙ ap (λ t. cond ((d == conn) && (is_of what (Some kind) && not held)) (t ∷ []) []) is)))))))
  where
    here : (n conn d : ℕ) → ((n == n) && (conn == d)) ≡ (d == conn)
    here n conn d = grind (arith, nat_tests)

-- ---- the row, by what the node says of the quota

module _ (configs : List Config) (log : List Entry) (n conn at : ℕ) (x : Node) (s : NodeStands configs log n x) (late : latest_moment (events_of log) ≤ at) (half : Half) (has : live_half log n conn ≡ Some half) (f : Envelope) where
  chan : ChannelsStand configs log n x.channels
  chan = s.each place.channels

  connects : ConnectionsStand configs log n x.connections
  connects = s.each place.connections

  -- what cannot be read ends its connection, and so does what has no quota; where it was held, that cannot be
  abbrev pub unread_row : Bool → Row
  unread_row true = only reply.Idle
  unread_row false = end_row log n conn half ended.DecodeFailed cause.FrameRefused (f ∷ [])

  abbrev pub unmetered_row : Bool → Row
  unmetered_row true = only reply.Idle
  unmetered_row false = end_row log n conn half ended.InvalidChannel cause.ChannelUnregistered (f ∷ [])

  -- what is not admitted is held, or held on where it was
  abbrev pub kept_row : Bool → Arriving → Row
  kept_row true a = only reply.Idle
  kept_row false a = hold_row n conn (name_of f) (held_item a)

  abbrev pub settled_row : Bool → Option Bool → Arriving → Row
  settled_row was_held None a = unmetered_row was_held
  settled_row was_held (Some true) a = passed_row n half.peer (name_of f) a x.channels
  settled_row was_held (Some false) a = kept_row was_held a

  abbrev pub came_row : Bool → Option Arriving → Row
  came_row was_held None = unread_row was_held
  came_row was_held (Some a) = settled_row was_held (verdict conn at a x) a

  -- to deliver, by what keeps the message out of its channel
  deliver_by : (o : Option Cause) (m : Arrived) → delivered_row o n (name_of f) half.peer m.copy (m.channel, m.bytes) ≡ delivered o n half.peer m (taken_row (name_of f))
  deliver_by (Some why) m = refl
  deliver_by None m = refl

  delivers : (m : Arrived) (capacity : ℕ) → capacity_at x.channels m.channel ≡ Some capacity
      → deliver_row log n (name_of f) half.peer m.copy (m.channel, m.bytes) capacity ≡ passed_row n half.peer (name_of f) (arriving.Message m) x.channels
  delivers m capacity has =
      deliver_by (refused_by (closing.is_closed log n m.channel) (nat_le capacity (length (line log (queue.Channel n m.channel))))) m
      ∙ ap (λ why. delivered why n half.peer m (taken_row (name_of f))) (refusal_is configs log n m.channel capacity x.channels chan has)

  settle : (was_held b : Bool) (a : Arriving) (passes : Row) → passes ≡ passed_row n half.peer (name_of f) a x.channels → cond b passes (kept_row was_held a) ≡ settled_row was_held (Some b) a
  settle was_held true a passes h = h
  settle was_held false a passes h = refl

  message_settles : (was_held : Bool) (m : Arrived) (o : Option ℕ) → capacity_at x.channels m.channel ≡ o
      → elim o [
        | None ↦ unmetered_row was_held
        | Some capacity ↦ cond (may_pass configs log n conn at (messages m.channel)) (deliver_row log n (name_of f) half.peer m.copy (m.channel, m.bytes) capacity) (kept_row was_held (arriving.Message m))
      ]
      ≡ settled_row was_held (verdict_by o (may_admit x.channels m.channel conn at)) (arriving.Message m)
  message_settles was_held m None has = refl
  message_settles was_held m (Some capacity) has =
      settle was_held (may_pass configs log n conn at (messages m.channel)) (arriving.Message m) (deliver_row log n (name_of f) half.peer m.copy (m.channel, m.bytes) capacity) (delivers m capacity has)
      ∙ ap (λ b. settled_row was_held (Some b) (arriving.Message m)) (sym (may_admit_is configs log n m.channel capacity conn at x.channels chan late has))

  message_by : (was_held : Bool) (m : Arrived)
      → elim (capacity_in (channels configs log n) m.channel) [
        | None ↦ unmetered_row was_held
        | Some capacity ↦ cond (may_pass configs log n conn at (messages m.channel)) (deliver_row log n (name_of f) half.peer m.copy (m.channel, m.bytes) capacity) (kept_row was_held (arriving.Message m))
      ]
      ≡ came_row was_held (Some (arriving.Message m))
  message_by was_held m =
      ap (λ (o : Option ℕ). elim o [
        | None ↦ unmetered_row was_held
        | Some capacity ↦ cond (may_pass configs log n conn at (messages m.channel)) (deliver_row log n (name_of f) half.peer m.copy (m.channel, m.bytes) capacity) (kept_row was_held (arriving.Message m))
      ]) (sym (chan.capacities m.channel))
      ∙ message_settles was_held m (capacity_at x.channels m.channel) refl

  ping_by : (was_held : Bool) → cond (may_pass configs log n conn at pings) (taken_row (name_of f)) (kept_row was_held arriving.Ping) ≡ came_row was_held (Some arriving.Ping)
  ping_by was_held =
      settle was_held (may_pass configs log n conn at pings) arriving.Ping (taken_row (name_of f)) refl
      ∙ ap (λ b. settled_row was_held (Some b) arriving.Ping) (sym (may_ping_is configs log n conn at x.connections half connects has late))

  -- what is in flight is a frame
  pub frame_settles : (link : ℕ) (u : Side) (i : Item) → fits (queue.Link link u) i ≡ true → frame_row configs log n conn at half f i ≡ came_row false (arrival_in (limit_at configs n) i)
  frame_settles link u (item.Frame (Some copy) bytes) fit = by (message_in bytes (limit_at configs n))
    where
      by : (o : Option (ℕ × List ℕ)) → Effect.message_row configs log n conn at half f copy o ≡ came_row false (option_map arriving.Message (arrival_of copy o))
      by None = refl
      by (Some m) = message_by false (record { copy = copy; channel = m.0; bytes = m.1 })
  frame_settles link u (item.Frame None bytes) fit = by (is_ping_in bytes (limit_at configs n))
    where
      by : (b : Bool) → Effect.ping_row configs log n conn at half f b ≡ came_row false (cond b (Some arriving.Ping) None)
      by true = ping_by false
      by false = refl
  frame_settles link u _ fit = absurd (cc)

  pub held_settles : (i : Item) → retry_row configs log n conn at half (name_of f) i ≡ came_row true (held_arrival i)
  held_settles (item.Held c bytes copy) = message_by true (record { copy = copy; channel = c; bytes = bytes })
  held_settles item.Ping = ping_by true
  held_settles _ = refl
