-- A step of the receiving half of a connection: the first frame in flight towards it, or what it holds, is delivered, or waits for its quota.
use Rattle.std.proofs.Common.{◌≡◌, ℕ, ◌≤◌, Bool, true, false, cond, List, [], ◌∷◌, ◌++◌, length, refl, ap, sym, subst, ◌∙◌, append-nil, Option, Some, None}
use Rattle.std.specs.Prelude.{filter, flat_map, ◌==◌, ◌&&◌, not}
use Rattle.std.specs.Option.{option_map}
use Rattle.p2p_base.specs.declared.key.Key.{Key}
use Rattle.p2p_log.specs.declared.config.Config.{Config}
use Rattle.p2p_log.specs.declared.queue.Queue.{Queue}
use Rattle.p2p_log.specs.declared.queue.Queue.TheVariants as queue
use Rattle.p2p_log.specs.declared.queue.Side.{Side}
use Rattle.p2p_log.specs.declared.queue.Side.TheVariants as side
use Rattle.p2p_log.specs.declared.item.Item.{Item}
use Rattle.p2p_log.specs.declared.item.Envelope.{Envelope}
use Rattle.p2p_log.specs.declared.end.Cause.{Cause}
use Rattle.p2p_log.specs.declared.end.Cause.TheVariants as cause
use Rattle.p2p_log.specs.declared.entry.Ended.{Ended}
use Rattle.p2p_log.specs.declared.entry.Ended.TheVariants as ended
use Rattle.p2p_log.specs.declared.entry.Entry.{Entry}
use Rattle.p2p_log.specs.declared.entry.Reply.TheVariants as reply
use Rattle.p2p_log.specs.declared.event.Event.{Event}
use Rattle.p2p_log.specs.declared.event.Act.TheVariants as act
use Rattle.p2p_log.specs.QueueCode.{same_queue}
use Rattle.p2p_log.specs.Lines.{line, name_of, placed, stands_in, ended_item}
use Rattle.p2p_log_rules.specs.declared.row.Half.{Half}
use Rattle.p2p_log_rules.specs.declared.row.Row.{Row}
use Rattle.p2p_log_rules.specs.Connections.{live_half, has_run, is_end}
use Rattle.p2p_log_rules.specs.Ending.{end_row}
use Rattle.p2p_log_rules.specs.Facts.{is_up, events_of, latest_moment}
use Rattle.p2p_log_rules.specs.Metering.{pings, messages, holds, limit_at, admitted_by}
use Rattle.p2p_log_rules.specs.Effect.{entry_of, only, row, effect, hold_row, held_row, receive_row, other_side}
use Rattle.p2p_log_rules.proofs.Connections.{live_connection-kept, ends_none-reply}
use Rattle.p2p_log_rules.proofs.Moves.{one_taken}
use Rattle.p2p_log_rules.proofs.Spawning.{connections_of-unmade}
use Rattle.p2p_log_laws.proofs.Fitting.{fits, StandsFit}
use Rattle.p2p_net_queues.specs.Lines.{HoldsLines}
use Rattle.p2p_log_rules.specs.Rows.{taken_row}
use Rattle.p2p_net_queues.specs.Tables.{pushed_at, popped_at}
use Rattle.p2p_net_queues.proofs.Holding.{TakesFirst, holds_frame}
use Rattle.p2p_flow_connection.specs.Arriving.{with_arrival}
use Rattle.p2p_net_channels.specs.declared.arrival.Arrived.{Arrived}
use Rattle.p2p_net_channels.specs.declared.arrival.Arriving.{Arriving}
use Rattle.p2p_net_channels.specs.declared.arrival.Arriving.TheVariants as arriving
use Rattle.p2p_net_channels.specs.declared.channels.Channels.{Channels}
use Rattle.p2p_net_channels.specs.Arrivals.{arrival_in, held_arrival, held_item, delivered}
use Rattle.p2p_net_channels.specs.Channels.{capacity_at, refusal, message_put, named_with, delivered_to, may_admit, metered}
use Rattle.p2p_net_channels.specs.Stands.{ChannelsStand, SendsNone, ClosesNone}
use Rattle.p2p_net_channels.proofs.Mailboxes.{mailboxes_stay, mailboxes_given}
use Rattle.p2p_net_connections.specs.Connections.{may_ping, ping_metered}
use Rattle.p2p_net_connections.specs.Stands.{ConnectionsStand, BeginsNone, SpawnsNone}
use Rattle.p2p_net_connections.specs.declared.connections.Connections.{Connections}
use Rattle.p2p_net_connections.proofs.Receiving.{connections_received, connections_metered}
use Rattle.p2p_net_links.specs.Stands.{LinksStand}
use Rattle.p2p_net_links.specs.declared.links.Links.{Links}
use Rattle.p2p_net_links.proofs.Changes.{openings_unmoved, links_taken, links_frame}
use Rattle.p2p_net_tracker.specs.Stands.{TrackerStands}
use Rattle.p2p_net_connecting.specs.Ending.{EndsRefused}
use Rattle.p2p_net_node.specs.Places as place
use Rattle.p2p_net_connecting.specs.Receiving.{named_as, verdict_by, metered_on, asked_of, passed_row, passed_into, held_into, without_first, unheld, TakesAs, ReadsFrame, RetriesAs, RetriesBy}
use Rattle.p2p_net_node.specs.Stands.{NodeStands, RouterLives}
use Rattle.p2p_net_node.specs.declared.node.Node.{Node}
use Rattle.p2p_net_connecting.proofs.Arriving.{IsRead, frame_read, held_read, settled_row, came_row, frame_settles, held_settles}
use Rattle.p2p_net_connecting.proofs.Beside.{is_beside, beside_link, beside_from, beside_held, beside_channel, received_drops, received_lives, received_tracker}
use Rattle.p2p_net_node.proofs.EachPart.{with_parts, each_part, not_among-links}
use Rattle.p2p_net_node.proofs.Frames.{begins_unsent}
use Rattle.p2p_net_node.proofs.Performing.{asked, Performs, stays_performs, IsStill, line-still, links_still}
use Rattle.p2p_net_node.proofs.Receivers.{sends_apart, closes_apart}
use Rattle.p2p_net_connecting.proofs.Taking.{stepped_as, link_channel, link_held, channel_link, held_link, Takes, takes_first, line_off, line_aside, not-not, other-none, passed_holds, passed_lives, passed_takes, passed_ends, passed_aside, held_aside, admits_of, admits_idle, message_channels, other_channels, delivered_waits, unheld_holds, held_holds}

-- the parts that a step names
abbrev pub named_parts : List place.Part
named_parts = place.channels ∷ place.connections ∷ place.router ∷ place.tracker ∷ []

-- ---- what comes of a step

module _ (configs : List Config) (log : List Entry) (at seed conn n : ℕ) (half : Half) (x y : Node) (l links : Links) (r : Row) (s : NodeStands configs log n x) (t : LinksStand configs log l)
    (late : latest_moment (events_of log) ≤ at) where
  abbrev ev : Event
  ev = asked at seed (act.RecvStep conn n)

  abbrev made : Row → Entry
  made due = entry_of ev due

  abbrev Done : Type 0
  Done = Performs configs log ev n y links r

  chan : ChannelsStand configs log n x.channels
  chan = s.each place.channels

  connects : ConnectionsStand configs log n x.connections
  connects = s.each place.connections

  made_is : (due : Row) → row configs log at seed (act.RecvStep conn n) ≡ due → made due ≡ effect configs log ev
  unfolding effect
  made_is due is = ap (entry_of ev) (sym is)

  -- the queues that no step moves which ends nothing are as they were
  abbrev StillBeside : Row → Type 0
  StillBeside due = (q : Queue) → is_beside q ≡ true → line (log ++ made due ∷ []) q ≡ line log q

  -- a node whose channels and connections these are
  built : (due : Row) (ch : Channels) (cs : Connections) → is_end due.reply ≡ false → row configs log at seed (act.RecvStep conn n) ≡ due → r ≡ due → y ≡ record x { channels = ch; connections = cs }
      → StillBeside due → ChannelsStand configs (log ++ made due ∷ []) n ch → ConnectionsStand configs (log ++ made due ∷ []) n cs → LinksStand configs (log ++ made due ∷ []) links → Done
  built due ch cs lives is told parts beside chan_now connects_now linked_now =
      let e = made due in
      let same : e ≡ effect configs log ev = made_is due is in
      record {
        row_is = told ∙ sym is;
        node =
            each_part configs log ev n x y named_parts s (subst (λ z. z ≡ with_parts named_parts x z) (sym parts) refl) (λ p out. not_among-links named_parts p n out) refl refl (
              subst (λ (z : Entry). ChannelsStand configs (log ++ z ∷ []) n y.channels) same (subst (ChannelsStand configs (log ++ e ∷ []) n) (sym (ap (λ (z : Node). z.channels) parts)) chan_now),
              (
                subst (λ (z : Entry). ConnectionsStand configs (log ++ z ∷ []) n y.connections) same (subst (ConnectionsStand configs (log ++ e ∷ []) n) (sym (ap (λ (z : Node). z.connections) parts)) connects_now),
                (
                  subst (λ (z : Entry). RouterLives configs (log ++ z ∷ []) n y.router) same
                      (subst (RouterLives configs (log ++ e ∷ []) n) (sym (ap (λ (z : Node). z.router) parts)) (received_lives configs log e n conn refl lives beside x.router (s.each place.router))),
                  (
                    subst (λ (z : Entry). TrackerStands configs (log ++ z ∷ []) n y.tracker) same
                        (subst (TrackerStands configs (log ++ e ∷ []) n) (sym (ap (λ (z : Node). z.tracker) parts)) (received_tracker configs log e n conn refl lives beside x.tracker (s.each place.tracker))),
                    tt,
                  ),
                ),
              ),
            );
        linked = subst (λ (z : Entry). LinksStand configs (log ++ z ∷ []) links) same linked_now;
      }

  -- nothing becomes of it
  pub idle : row configs log at seed (act.RecvStep conn n) ≡ only reply.Idle → r ≡ only reply.Idle → y ≡ x → links ≡ l → Done
  idle is told same kept = stays_performs configs log ev n x y l links r reply.Idle s t is refl told same kept

  still : IsStill (made (only reply.Idle)) reply.Idle
  still = record { reply = refl; takes = refl; puts = refl; ends = refl }

  begins_none : (due : Row) → BeginsNone log (made due) n
  begins_none due = begins_unsent log (made due) n (act.RecvStep conn n) refl (λ c. refl)

  spawns_none : (due : Row) → is_end due.reply ≡ false → SpawnsNone log (made due) n
  spawns_none due lives c = live_connection-kept log (made due) n c (ends_none-reply log (made due) n c refl lives) (connections_of-unmade log (made due) n refl c)

  sends_none : (due : Row) → SendsNone log (made due) n
  sends_none due = sends_apart log (made due) n (act.RecvStep conn n) refl (refl, refl)

  closes_none : (due : Row) → ClosesNone log (made due) n
  closes_none due = closes_apart log (made due) n (act.RecvStep conn n) refl refl refl

  -- ---- what its quota admits

  -- how a message moves the channels and how a ping moves the connections, by what their quotas say
  messages_admitted : (due : Row) → is_end due.reply ≡ false → (p : Queue) (f : Envelope) (fs : List Envelope) (m : Arrived) (b : Bool) → Takes log (made due) (limit_at configs n) p f fs (messages m.channel) → holds due.puts ≡ not b
      → may_admit x.channels m.channel conn at ≡ b → (d q : ℕ) → admitted_by (limit_at configs n) n d (messages q) log (made due) ≡ cond ((d == conn) && ((q == m.channel) && may_admit x.channels m.channel conn at)) (at ∷ []) []
  messages_admitted due lives p f fs m b h held says d q =
      admits_of configs log n conn at (made due) late p f fs (messages m.channel) due.puts (record { acts = refl; lives = lives; moment = refl; puts_are = refl }) h d (messages q) (not b) held
      ∙ ap (λ z. cond ((d == conn) && ((q == m.channel) && z)) (at ∷ []) []) (not-not b ∙ sym says)

  pings_admitted : (due : Row) → is_end due.reply ≡ false → (p : Queue) (f : Envelope) (fs : List Envelope) (b : Bool) → Takes log (made due) (limit_at configs n) p f fs pings → holds due.puts ≡ not b → may_ping x.connections conn at ≡ b
      → (d : ℕ) → admitted_by (limit_at configs n) n d pings log (made due) ≡ cond ((d == conn) && may_ping x.connections conn at) (at ∷ []) []
  pings_admitted due lives p f fs b h held says d =
      admits_of configs log n conn at (made due) late p f fs pings due.puts (record { acts = refl; lives = lives; moment = refl; puts_are = refl }) h d pings (not b) held
      ∙ ap (λ z. cond ((d == conn) && z) (at ∷ []) []) (not-not b ∙ sym says)

  -- a message is no ping, and a ping no message
  no_pings : (due : Row) → is_end due.reply ≡ false → (p : Queue) (f : Envelope) (fs : List Envelope) (c : ℕ) (held : Bool) → Takes log (made due) (limit_at configs n) p f fs (messages c) → holds due.puts ≡ held
      → (d : ℕ) → admitted_by (limit_at configs n) n d pings log (made due) ≡ []
  no_pings due lives p f fs c held h is d =
      admits_of configs log n conn at (made due) late p f fs (messages c) due.puts (record { acts = refl; lives = lives; moment = refl; puts_are = refl }) h d pings held is
      ∙ other-none (d == conn) (not held) at

  no_messages : (due : Row) → is_end due.reply ≡ false → (p : Queue) (f : Envelope) (fs : List Envelope) (held : Bool) → Takes log (made due) (limit_at configs n) p f fs pings → holds due.puts ≡ held
      → (d q : ℕ) → admitted_by (limit_at configs n) n d (messages q) log (made due) ≡ []
  no_messages due lives p f fs held h is d q =
      admits_of configs log n conn at (made due) late p f fs pings due.puts (record { acts = refl; lives = lives; moment = refl; puts_are = refl }) h d (messages q) held is
      ∙ other-none (d == conn) (not held) at

  -- ---- the parts after a message, or a ping

  -- the row of a message that its quota admits
  abbrev passed : Key → Envelope → Arrived → Row
  passed from f m = delivered (refusal x.channels m.channel) n from m (taken_row (name_of f))

  -- the channels once it was delivered
  abbrev with_passed : Key → Arrived → Channels
  with_passed from m = delivered_to (length log) 0 n from m (metered m.channel conn at x.channels)

  passed_channels : (p : Queue) (f : Envelope) (fs : List Envelope) (from : Key) (m : Arrived) → Takes log (made (passed from f m)) (limit_at configs n) p f fs (messages m.channel)
      → ((q : ℕ) → same_queue p (queue.Channel n q) ≡ false) → may_admit x.channels m.channel conn at ≡ true → ChannelsStand configs (log ++ made (passed from f m) ∷ []) n (with_passed from m)
  passed_channels p f fs from m h apart says =
      let why = refusal x.channels m.channel in
      let due = passed from f m in
      let put = message_put (length log) 0 n from m in
      message_channels configs log n conn at (made due) late x.channels chan refl (sends_none due) (closes_none due) m.channel (with_arrival x.channels.inbounds m.channel (from, m.bytes))
      (named_with why m.channel put x.channels.waiting) (mailboxes_given x.channels m.channel (from, m.bytes) put chan.named refl) refl
      (messages_admitted due (passed_lives why n from m (name_of f)) p f fs m true h (passed_holds why n from m (name_of f)) says) refl
      (delivered_waits configs log n conn at (made due) late x.channels chan refl (sends_none due) (closes_none due) p f fs why from m (takes_first log (made due) (limit_at configs n) p f fs (messages m.channel) h) apart refl)

  -- the channels once a message was asked of, and no channel changed
  asked_channels : (due : Row) (c : ℕ) → ((d q : ℕ) → admitted_by (limit_at configs n) n d (messages q) log (made due) ≡ cond ((d == conn) && ((q == c) && may_admit x.channels c conn at)) (at ∷ []) [])
      → ((q : ℕ) → line (log ++ made due ∷ []) (queue.Channel n q) ≡ line log (queue.Channel n q)) → ChannelsStand configs (log ++ made due ∷ []) n (metered c conn at x.channels)
  asked_channels due c admits lines =
      message_channels configs log n conn at (made due) late x.channels chan refl (sends_none due) (closes_none due) c x.channels.inbounds x.channels.waiting (mailboxes_stay x.channels chan.named) refl admits refl (holds_frame (queue.Channel n) log (made due) x.channels.waiting chan.waits lines)

  -- the channels beside a ping
  beside_ping : (due : Row) → ((d q : ℕ) → admitted_by (limit_at configs n) n d (messages q) log (made due) ≡ []) → ((q : ℕ) → line (log ++ made due ∷ []) (queue.Channel n q) ≡ line log (queue.Channel n q))
      → ChannelsStand configs (log ++ made due ∷ []) n x.channels
  beside_ping due none lines = other_channels configs log n conn at (made due) late x.channels chan refl (sends_none due) (closes_none due) none lines

  -- the connections beside a message, by what is held then
  beside_message : (due : Row) → is_end due.reply ≡ false → (w : List (ℕ × List Envelope)) → ((d : ℕ) → admitted_by (limit_at configs n) n d pings log (made due) ≡ []) → ((c : ℕ) → line (log ++ made due ∷ []) (queue.RouterAnswer n c) ≡ line log (queue.RouterAnswer n c))
      → HoldsLines (queue.Held n) (log ++ made due ∷ []) w → ConnectionsStand configs (log ++ made due ∷ []) n (record x.connections { held = w })
  beside_message due lives w none lines held = connections_received configs log (made due) n x.connections w connects (spawns_none due lives) (begins_none due) lines held none

  -- the connections after a ping, by what is held then
  pinged_connections : (due : Row) → is_end due.reply ≡ false → (w : List (ℕ × List Envelope)) → ((d : ℕ) → admitted_by (limit_at configs n) n d pings log (made due) ≡ cond ((d == conn) && may_ping x.connections conn at) (at ∷ []) [])
      → ((c : ℕ) → line (log ++ made due ∷ []) (queue.RouterAnswer n c) ≡ line log (queue.RouterAnswer n c)) → HoldsLines (queue.Held n) (log ++ made due ∷ []) w
      → ConnectionsStand configs (log ++ made due ∷ []) n (record (ping_metered conn at x.connections) { held = w })
  pinged_connections due lives w admits lines held = connections_metered configs log (made due) n conn at x.connections connects late refl admits w (spawns_none due lives) (begins_none due) lines held

  -- ---- off the link

  module _ (up : is_up log n ≡ true) (has : live_half log n conn ≡ Some half) (running : has_run log n conn ≡ true) (f : Envelope) (fs : List Envelope) (first : line log (queue.Link half.link (other_side half.writes)) ≡ f ∷ fs) where
    abbrev p : Queue
    p = queue.Link half.link (other_side half.writes)

    off : (due : Row) → due.takes ≡ name_of f ∷ [] → flat_map ended_item due.ends ≡ [] → TakesFirst log (made due) p f fs
    off due takes ends = record { first = first; gone = ap (λ k. k ++ flat_map ended_item due.ends) takes ∙ ap (λ d. name_of f ∷ d) ends }

    kept_line : (due : Row) (q : Queue) → due.takes ≡ name_of f ∷ [] → flat_map ended_item due.ends ≡ [] → same_queue p q ≡ false → filter (stands_in q) (placed (length log) 0 due.puts) ≡ [] → line (log ++ made due ∷ []) q ≡ line log q
    kept_line due q takes ends apart none = line_aside log (made due) p q f fs due.puts (off due takes ends) refl apart none

    links_now : (due : Row) → is_end due.reply ≡ false → due.takes ≡ name_of f ∷ [] → flat_map ended_item due.ends ≡ [] → ((u : Side) (j : ℕ) → filter (stands_in (queue.Link j u)) (placed (length log) 0 due.puts) ≡ [])
        → links ≡ without_first l half.link (other_side half.writes) → LinksStand configs (log ++ made due ∷ []) links
    links_now due lives takes ends none kept =
        subst (LinksStand configs (log ++ made due ∷ [])) (sym kept)
        (links_taken configs log (made due) l (other_side half.writes) half.link f fs t first
        (λ u j.
        let left = cond (same_queue p (queue.Link j u)) fs (line log (queue.Link j u)) in
        line_off log (made due) p (queue.Link j u) f fs due.puts (off due takes ends) refl ∙ (ap (λ w. left ++ w) (none u j) ∙ append-nil left))
        (openings_unmoved log (made due) refl) (received_drops configs log (made due) n conn refl lives))

    -- the queues that nothing touches, where these are aside of what is put
    beside_now : (due : Row) → due.takes ≡ name_of f ∷ [] → flat_map ended_item due.ends ≡ [] → ((q : Queue) → is_beside q ≡ true → filter (stands_in q) (placed (length log) 0 due.puts) ≡ []) → StillBeside due
    beside_now due takes ends none q h = kept_line due q takes ends (beside_link half.link (other_side half.writes) q h) (none q h)

    held_now : (due : Row) → due.takes ≡ name_of f ∷ [] → flat_map ended_item due.ends ≡ [] → ((c : ℕ) → filter (stands_in (queue.Held n c)) (placed (length log) 0 due.puts) ≡ []) → HoldsLines (queue.Held n) (log ++ made due ∷ []) x.connections.held
    held_now due takes ends none =
        holds_frame (queue.Held n) log (made due) x.connections.held connects.holds (λ c. kept_line due (queue.Held n c) takes ends (link_held half.link n c (other_side half.writes)) (none c))

    channel_now : (due : Row) → due.takes ≡ name_of f ∷ [] → flat_map ended_item due.ends ≡ [] → ((c : ℕ) → filter (stands_in (queue.Channel n c)) (placed (length log) 0 due.puts) ≡ []) → (c : ℕ) → line (log ++ made due ∷ []) (queue.Channel n c) ≡ line log (queue.Channel n c)
    channel_now due takes ends none c = kept_line due (queue.Channel n c) takes ends (link_channel half.link n c (other_side half.writes)) (none c)

    -- what becomes of the links
    abbrev Off : Type 0
    Off = links ≡ without_first l half.link (other_side half.writes)

    -- a message that its quota admits
    message_off : (m : Arrived) → IsRead (limit_at configs n) f.item (arriving.Message m) → may_admit x.channels m.channel conn at ≡ true
        → row configs log at seed (act.RecvStep conn n) ≡ passed half.peer f m → r ≡ passed half.peer f m → y ≡ record x { channels = with_passed half.peer m } → Off → Done
    message_off m read says is told parts kept =
        let why = refusal x.channels m.channel in
        let due = passed half.peer f m in
        let takes : due.takes ≡ name_of f ∷ [] = passed_takes why n half.peer m (name_of f) in
        let ends : flat_map ended_item due.ends ≡ [] = passed_ends why n half.peer m (name_of f) in
        let h : Takes log (made due) (limit_at configs n) p f fs (messages m.channel) = record { first = first; takes = takes; ends = ends; counts = read } in
        let aside : (q : Queue) → same_queue q (queue.Channel n m.channel) ≡ false → filter (stands_in q) (placed (length log) 0 due.puts) ≡ [] = λ q apart. passed_aside why q (length log) n half.peer m (name_of f) apart in
        let lives = passed_lives why n half.peer m (name_of f) in
        let beside : StillBeside due = beside_now due takes ends (λ q away. aside q (beside_channel n m.channel q away)) in
        built due (with_passed half.peer m) x.connections lives is told parts beside
        (passed_channels p f fs half.peer m h (λ q. link_channel half.link n q (other_side half.writes)) says)
        (beside_message due lives x.connections.held (no_pings due lives p f fs m.channel false h (passed_holds why n half.peer m (name_of f))) (λ c. beside (queue.RouterAnswer n c) refl) (held_now due takes ends (λ c. aside (queue.Held n c) refl)))
        (links_now due lives takes ends (λ u j. aside (queue.Link j u) (channel_link n m.channel j u)) kept)

    -- a ping that its quota admits
    ping_off : IsRead (limit_at configs n) f.item arriving.Ping → may_ping x.connections conn at ≡ true → row configs log at seed (act.RecvStep conn n) ≡ taken_row (name_of f) → r ≡ taken_row (name_of f)
        → y ≡ record x { connections = ping_metered conn at x.connections } → Off → Done
    ping_off read says is told parts kept =
        let due = taken_row (name_of f) in
        let h : Takes log (made due) (limit_at configs n) p f fs pings = record { first = first; takes = refl; ends = refl; counts = read } in
        let beside : StillBeside due = beside_now due refl refl (λ q away. refl) in
        built due x.channels (ping_metered conn at x.connections) refl is told parts beside (beside_ping due (no_messages due refl p f fs false h refl) (channel_now due refl refl (λ c. refl)))
        (pinged_connections due refl x.connections.held (pings_admitted due refl p f fs true h refl says) (λ c. beside (queue.RouterAnswer n c) refl) (held_now due refl refl (λ c. refl))) (links_now due refl refl refl (λ u j. refl) kept)

    -- what is held then, with one more
    abbrev held_more : Item → List (ℕ × List Envelope)
    held_more i = pushed_at x.connections.held conn (record { entry = length log; place = 0; queue = queue.Held n conn; item = i })

    held_put : (i : Item) → HoldsLines (queue.Held n) (log ++ made (hold_row n conn (name_of f) i) ∷ []) (held_more i)
    held_put i =
        let due = hold_row n conn (name_of f) i in
        held_holds configs log n conn at (made due) late x.connections connects p f fs i (off due refl refl) (λ c. link_held half.link n c (other_side half.writes)) refl

    -- a message that its quota does not admit yet
    message_held : (m : Arrived) → IsRead (limit_at configs n) f.item (arriving.Message m) → may_admit x.channels m.channel conn at ≡ false
        → row configs log at seed (act.RecvStep conn n) ≡ hold_row n conn (name_of f) (held_item (arriving.Message m)) → r ≡ hold_row n conn (name_of f) (held_item (arriving.Message m))
        → y ≡ record x { channels = metered m.channel conn at x.channels; connections = record x.connections { held = held_more (held_item (arriving.Message m)) } } → Off → Done
    message_held m read says is told parts kept =
        let i = held_item (arriving.Message m) in
        let due = hold_row n conn (name_of f) i in
        let h : Takes log (made due) (limit_at configs n) p f fs (messages m.channel) = record { first = first; takes = refl; ends = refl; counts = read } in
        let aside : (q : Queue) → same_queue q (queue.Held n conn) ≡ false → filter (stands_in q) (placed (length log) 0 due.puts) ≡ [] = λ q apart. held_aside q (length log) n conn i apart in
        let beside : StillBeside due = beside_now due refl refl (λ q away. aside q (beside_held n conn q away)) in
        built due (metered m.channel conn at x.channels) (record x.connections { held = held_more i }) refl is told parts beside
        (asked_channels due m.channel (messages_admitted due refl p f fs m false h refl says) (channel_now due refl refl (λ c. aside (queue.Channel n c) refl)))
        (beside_message due refl (held_more i) (no_pings due refl p f fs m.channel true h refl) (λ c. beside (queue.RouterAnswer n c) refl) (held_put i))
        (links_now due refl refl refl (λ u j. aside (queue.Link j u) (held_link n conn j u)) kept)

    -- a ping that its quota does not admit yet
    ping_held : IsRead (limit_at configs n) f.item arriving.Ping → may_ping x.connections conn at ≡ false → row configs log at seed (act.RecvStep conn n) ≡ hold_row n conn (name_of f) (held_item arriving.Ping)
        → r ≡ hold_row n conn (name_of f) (held_item arriving.Ping) → y ≡ record x { connections = record (ping_metered conn at x.connections) { held = held_more (held_item arriving.Ping) } } → Off → Done
    ping_held read says is told parts kept =
        let i = held_item arriving.Ping in
        let due = hold_row n conn (name_of f) i in
        let h : Takes log (made due) (limit_at configs n) p f fs pings = record { first = first; takes = refl; ends = refl; counts = read } in
        let aside : (q : Queue) → same_queue q (queue.Held n conn) ≡ false → filter (stands_in q) (placed (length log) 0 due.puts) ≡ [] = λ q apart. held_aside q (length log) n conn i apart in
        let beside : StillBeside due = beside_now due refl refl (λ q away. aside q (beside_held n conn q away)) in
        built due x.channels (record (ping_metered conn at x.connections) { held = held_more i }) refl is told parts beside
        (beside_ping due (no_messages due refl p f fs true h refl) (channel_now due refl refl (λ c. aside (queue.Channel n c) refl)))
        (pinged_connections due refl (held_more i) (pings_admitted due refl p f fs false h refl says) (λ c. beside (queue.RouterAnswer n c) refl) (held_put i))
        (links_now due refl refl refl (λ u j. aside (queue.Link j u) (held_link n conn j u)) kept)

    -- the row of a step that takes it, which is a frame
    pub stepped : line log (queue.Held n conn) ≡ [] → StandsFit f → row configs log at seed (act.RecvStep conn n) ≡ came_row configs log n conn at x s late half has f false (arrival_in (limit_at configs n) f.item)
    unfolding row
    stepped none fit =
        stepped_as configs log conn n at (Some half) true up has running
        ∙ (ap (λ w. held_row configs log n conn at half w (line log p)) none
        ∙ (ap (receive_row configs log n conn at half) first
        ∙ frame_settles configs log n conn at x s late half has f half.link (other_side half.writes) f.item (ap (λ q. fits q f.item) (sym (one_taken log p f fs first)) ∙ fit)))

    -- what is refused ends the connection
    abbrev pub Refuses : Type 0
    Refuses = (why : Ended) (c : Cause) → row configs log at seed (act.RecvStep conn n) ≡ end_row log n conn half why c (f ∷ []) → EndsRefused (length log) n conn half why c x y l links r → Done

    -- by what its quota says
    message_as : (m : Arrived) (o : Option ℕ) (b : Bool) → IsRead (limit_at configs n) f.item (arriving.Message m) → capacity_at x.channels m.channel ≡ o → may_admit x.channels m.channel conn at ≡ b
        → row configs log at seed (act.RecvStep conn n) ≡ settled_row configs log n conn at x s late half has f false (verdict_by o b) (arriving.Message m)
        → Refuses → TakesAs (verdict_by o b) (length log) n conn half (named_as f (arriving.Message m)) (asked_of conn at (arriving.Message m) x) y l links r → Done
    message_as m None b read has says is refuses d =
        refuses ended.InvalidChannel cause.ChannelUnregistered is
        (subst (λ (z : Node). EndsRefused (length log) n conn half ended.InvalidChannel cause.ChannelUnregistered z y l links r) (ap (λ o. metered_on o m.channel conn at x) has) d)
    message_as m (Some capacity) true read has says is refuses d =
        let asks : asked_of conn at (arriving.Message m) x ≡ record x { channels = metered m.channel conn at x.channels } = ap (λ o. metered_on o m.channel conn at x) has in
        message_off m read says is (d.0 ∙ ap (λ (z : Node). passed_row n half.peer (name_of f) (arriving.Message m) z.channels) asks) (d.1.0 ∙ ap (passed_into (length log) n half.peer (arriving.Message m)) asks) d.1.1
    message_as m (Some capacity) false read has says is refuses d =
        message_held m read says is d.0 (d.1.0 ∙ ap (λ o. held_into (length log) n conn (arriving.Message m) (metered_on o m.channel conn at x)) has) d.1.1

    ping_as : (b : Bool) → IsRead (limit_at configs n) f.item arriving.Ping → may_ping x.connections conn at ≡ b
        → row configs log at seed (act.RecvStep conn n) ≡ settled_row configs log n conn at x s late half has f false (Some b) arriving.Ping
        → TakesAs (Some b) (length log) n conn half (named_as f arriving.Ping) (asked_of conn at arriving.Ping x) y l links r → Done
    ping_as true read says is d = ping_off read says is d.0 d.1.0 d.1.1
    ping_as false read says is d = ping_held read says is d.0 d.1.0 d.1.1

    pub off_performs : (o : Option Arriving) → arrival_in (limit_at configs n) f.item ≡ o → row configs log at seed (act.RecvStep conn n) ≡ came_row configs log n conn at x s late half has f false o
        → Refuses → ReadsFrame (option_map (named_as f) o) (length log) n conn at half x y l links r → Done
    off_performs None reads is refuses d = refuses ended.DecodeFailed cause.FrameRefused is d
    off_performs (Some (arriving.Message m)) reads is refuses d =
        message_as m (capacity_at x.channels m.channel) (may_admit x.channels m.channel conn at) (frame_read (limit_at configs n) f.item (arriving.Message m) reads) refl refl is refuses d
    off_performs (Some arriving.Ping) reads is refuses d = ping_as (may_ping x.connections conn at) (frame_read (limit_at configs n) f.item arriving.Ping reads) refl is d

  -- ---- what is held

  module _ (up : is_up log n ≡ true) (has : live_half log n conn ≡ Some half) (running : has_run log n conn ≡ true) (kept : links ≡ l) (f : Envelope) (fs : List Envelope) (first : line log (queue.Held n conn) ≡ f ∷ fs) where
    abbrev h : Queue
    h = queue.Held n conn

    taken_off : (due : Row) → due.takes ≡ name_of f ∷ [] → flat_map ended_item due.ends ≡ [] → TakesFirst log (made due) h f fs
    taken_off due takes ends = record { first = first; gone = ap (λ k. k ++ flat_map ended_item due.ends) takes ∙ ap (λ d. name_of f ∷ d) ends }

    line_still : (due : Row) (q : Queue) → due.takes ≡ name_of f ∷ [] → flat_map ended_item due.ends ≡ [] → same_queue h q ≡ false → filter (stands_in q) (placed (length log) 0 due.puts) ≡ [] → line (log ++ made due ∷ []) q ≡ line log q
    line_still due q takes ends apart none = line_aside log (made due) h q f fs due.puts (taken_off due takes ends) refl apart none

    beside_still : (due : Row) → due.takes ≡ name_of f ∷ [] → flat_map ended_item due.ends ≡ [] → ((q : Queue) → is_beside q ≡ true → filter (stands_in q) (placed (length log) 0 due.puts) ≡ []) → StillBeside due
    beside_still due takes ends none q away = line_still due q takes ends (beside_from n conn q away) (none q away)

    links_stay : (due : Row) → is_end due.reply ≡ false → due.takes ≡ name_of f ∷ [] → flat_map ended_item due.ends ≡ [] → ((u : Side) (j : ℕ) → filter (stands_in (queue.Link j u)) (placed (length log) 0 due.puts) ≡ [])
        → LinksStand configs (log ++ made due ∷ []) links
    links_stay due lives takes ends none =
        subst (LinksStand configs (log ++ made due ∷ [])) (sym kept)
        (links_frame configs log (made due) l t (λ u j. line_still due (queue.Link j u) takes ends (apart u j) (none u j)) (openings_unmoved log (made due) refl) (received_drops configs log (made due) n conn refl lives))
      where
        apart : (u : Side) (j : ℕ) → same_queue h (queue.Link j u) ≡ false
        apart side.Out j = refl
        apart side.In j = refl

    -- what is held then, with one less
    abbrev held_less : List (ℕ × List Envelope)
    held_less = popped_at x.connections.held conn

    -- a message that its quota admits now
    message_freed : (m : Arrived) → IsRead (limit_at configs n) f.item (arriving.Message m) → may_admit x.channels m.channel conn at ≡ true
        → row configs log at seed (act.RecvStep conn n) ≡ passed half.peer f m → r ≡ passed half.peer f m
        → y ≡ record x { channels = with_passed half.peer m; connections = record x.connections { held = held_less } } → Done
    message_freed m read says is told parts =
        let why = refusal x.channels m.channel in
        let due = passed half.peer f m in
        let takes : due.takes ≡ name_of f ∷ [] = passed_takes why n half.peer m (name_of f) in
        let ends : flat_map ended_item due.ends ≡ [] = passed_ends why n half.peer m (name_of f) in
        let took : Takes log (made due) (limit_at configs n) h f fs (messages m.channel) = record { first = first; takes = takes; ends = ends; counts = read } in
        let aside : (q : Queue) → same_queue q (queue.Channel n m.channel) ≡ false → filter (stands_in q) (placed (length log) 0 due.puts) ≡ [] = λ q apart. passed_aside why q (length log) n half.peer m (name_of f) apart in
        let lives = passed_lives why n half.peer m (name_of f) in
        let beside : StillBeside due = beside_still due takes ends (λ q away. aside q (beside_channel n m.channel q away)) in
        built due (with_passed half.peer m) (record x.connections { held = held_less }) lives is told parts beside
        (passed_channels h f fs half.peer m took (λ q. refl) says)
        (beside_message due lives held_less (no_pings due lives h f fs m.channel false took (passed_holds why n half.peer m (name_of f))) (λ c. beside (queue.RouterAnswer n c) refl)
        (unheld_holds configs log n conn at (made due) late x.connections connects f fs due.puts (taken_off due takes ends) refl (λ c. aside (queue.Held n c) refl)))
        (links_stay due lives takes ends (λ u j. aside (queue.Link j u) (channel_link n m.channel j u)))

    -- a ping that its quota admits now
    ping_freed : IsRead (limit_at configs n) f.item arriving.Ping → may_ping x.connections conn at ≡ true → row configs log at seed (act.RecvStep conn n) ≡ taken_row (name_of f) → r ≡ taken_row (name_of f)
        → y ≡ record x { connections = record (ping_metered conn at x.connections) { held = held_less } } → Done
    ping_freed read says is told parts =
        let due = taken_row (name_of f) in
        let took : Takes log (made due) (limit_at configs n) h f fs pings = record { first = first; takes = refl; ends = refl; counts = read } in
        let beside : StillBeside due = beside_still due refl refl (λ q away. refl) in
        built due x.channels (record (ping_metered conn at x.connections) { held = held_less }) refl is told parts beside
        (beside_ping due (no_messages due refl h f fs false took refl) (λ c. line_still due (queue.Channel n c) refl refl refl refl))
        (pinged_connections due refl held_less (pings_admitted due refl h f fs true took refl says) (λ c. beside (queue.RouterAnswer n c) refl)
        (unheld_holds configs log n conn at (made due) late x.connections connects f fs [] (taken_off due refl refl) refl (λ c. refl)))
        (links_stay due refl refl refl (λ u j. refl))

    -- one that its quota does not admit stays
    message_stays : (m : Arrived) → may_admit x.channels m.channel conn at ≡ false → row configs log at seed (act.RecvStep conn n) ≡ only reply.Idle → r ≡ only reply.Idle → y ≡ record x { channels = metered m.channel conn at x.channels } → Done
    message_stays m says is told parts =
        let due = only reply.Idle in
        built due (metered m.channel conn at x.channels) x.connections refl is told parts (λ q away. line-still log (made due) reply.Idle q still)
        (asked_channels due m.channel (λ d q. admits_idle configs log n conn at (made due) late refl d (messages q) ∙ sym (refused (d == conn) (q == m.channel) says)) (λ q. line-still log (made due) reply.Idle (queue.Channel n q) still))
        (beside_message due refl x.connections.held (λ d. admits_idle configs log n conn at (made due) late refl d pings) (λ c. line-still log (made due) reply.Idle (queue.RouterAnswer n c) still)
        (holds_frame (queue.Held n) log (made due) x.connections.held connects.holds (λ c. line-still log (made due) reply.Idle (queue.Held n c) still)))
        (subst (LinksStand configs (log ++ made due ∷ [])) (sym kept) (links_still configs log (made due) (act.RecvStep conn n) reply.Idle l t refl refl still))
      where
        refused : (a b : Bool) → may_admit x.channels m.channel conn at ≡ false → cond (a && (b && may_admit x.channels m.channel conn at)) (at ∷ []) [] ≡ []
        refused a b shut = ap (λ z. cond (a && (b && z)) (at ∷ []) []) shut ∙ none a b
          where
            none : (a b : Bool) → cond (a && (b && false)) (at ∷ []) [] ≡ []
            none true true = refl
            none true false = refl
            none false b = refl

    ping_stays : may_ping x.connections conn at ≡ false → row configs log at seed (act.RecvStep conn n) ≡ only reply.Idle → r ≡ only reply.Idle → y ≡ record x { connections = ping_metered conn at x.connections } → Done
    ping_stays says is told parts =
        let due = only reply.Idle in
        built due x.channels (ping_metered conn at x.connections) refl is told parts (λ q away. line-still log (made due) reply.Idle q still)
        (beside_ping due (λ d q. admits_idle configs log n conn at (made due) late refl d (messages q)) (λ q. line-still log (made due) reply.Idle (queue.Channel n q) still))
        (pinged_connections due refl x.connections.held (λ d. admits_idle configs log n conn at (made due) late refl d pings ∙ sym (refused (d == conn) says)) (λ c. line-still log (made due) reply.Idle (queue.RouterAnswer n c) still)
        (holds_frame (queue.Held n) log (made due) x.connections.held connects.holds (λ c. line-still log (made due) reply.Idle (queue.Held n c) still)))
        (subst (LinksStand configs (log ++ made due ∷ [])) (sym kept) (links_still configs log (made due) (act.RecvStep conn n) reply.Idle l t refl refl still))
      where
        refused : (a : Bool) → may_ping x.connections conn at ≡ false → cond (a && may_ping x.connections conn at) (at ∷ []) [] ≡ []
        refused true shut = ap (λ z. cond z (at ∷ []) []) shut
        refused false shut = refl

    pub retried : row configs log at seed (act.RecvStep conn n) ≡ came_row configs log n conn at x s late half has f true (held_arrival f.item)
    unfolding row
    retried =
        stepped_as configs log conn n at (Some half) true up has running
        ∙ (ap (λ w. held_row configs log n conn at half w (line log (queue.Link half.link (other_side half.writes)))) first ∙ held_settles configs log n conn at x s late half has f f.item)

    message_tried : (m : Arrived) (o : Option ℕ) (b : Bool) → IsRead (limit_at configs n) f.item (arriving.Message m) → capacity_at x.channels m.channel ≡ o → may_admit x.channels m.channel conn at ≡ b
        → row configs log at seed (act.RecvStep conn n) ≡ settled_row configs log n conn at x s late half has f true (verdict_by o b) (arriving.Message m)
        → RetriesAs (verdict_by o b) (length log) n conn at half.peer (named_as f (arriving.Message m)) x y r → Done
    message_tried m None b read has says is d = idle is d.0 (d.1 ∙ ap (λ o. metered_on o m.channel conn at x) has) kept
    message_tried m (Some capacity) true read has says is d =
        let asks : asked_of conn at (arriving.Message m) x ≡ record x { channels = metered m.channel conn at x.channels } = ap (λ o. metered_on o m.channel conn at x) has in
        message_freed m read says is (d.0 ∙ ap (λ (z : Node). passed_row n half.peer (name_of f) (arriving.Message m) z.channels) asks)
        (d.1 ∙ ap (λ z. passed_into (length log) n half.peer (arriving.Message m) (unheld conn z)) asks)
    message_tried m (Some capacity) false read has says is d = message_stays m says is d.0 (d.1 ∙ ap (λ o. metered_on o m.channel conn at x) has)

    ping_tried : (b : Bool) → IsRead (limit_at configs n) f.item arriving.Ping → may_ping x.connections conn at ≡ b
        → row configs log at seed (act.RecvStep conn n) ≡ settled_row configs log n conn at x s late half has f true (Some b) arriving.Ping
        → RetriesAs (Some b) (length log) n conn at half.peer (named_as f arriving.Ping) x y r → Done
    ping_tried true read says is d = ping_freed read says is d.0 d.1
    ping_tried false read says is d = ping_stays says is d.0 d.1

    pub held_performs : (o : Option Arriving) → held_arrival f.item ≡ o → row configs log at seed (act.RecvStep conn n) ≡ came_row configs log n conn at x s late half has f true o
        → RetriesBy (option_map (named_as f) o) (length log) n conn at half.peer x y r → Done
    held_performs None reads is d = idle is d.0 d.1 kept
    held_performs (Some (arriving.Message m)) reads is d =
        message_tried m (capacity_at x.channels m.channel) (may_admit x.channels m.channel conn at) (held_read (limit_at configs n) f.item (arriving.Message m) reads) refl refl is d
    held_performs (Some arriving.Ping) reads is d = ping_tried (may_ping x.connections conn at) (held_read (limit_at configs n) f.item arriving.Ping reads) refl is d
