-- What a step of a receiving half takes, what its quota admits, and the channels and connections after it.
use Rattle.std.proofs.Common.{◌≡◌, ℕ, ◌≤◌, Bool, true, false, cond, List, [], ◌∷◌, ◌++◌, length, refl, ap, ◌∙◌, append-nil, Option, Some, None}
use Rattle.std.specs.Prelude.{filter, flat_map, ◌==◌, ◌&&◌, not}
use Rattle.p2p_base.specs.declared.key.Key.{Key}
use Rattle.p2p_log.specs.declared.config.Config.{Config}
use Rattle.p2p_log.specs.declared.queue.Queue.{Queue}
use Rattle.p2p_log.specs.declared.queue.Queue.TheVariants as queue
use Rattle.p2p_log.specs.declared.queue.Side.{Side}
use Rattle.p2p_log.specs.declared.queue.Side.TheVariants as side
use Rattle.p2p_log.specs.declared.item.Item.{Item}
use Rattle.p2p_log.specs.declared.item.Envelope.{Envelope}
use Rattle.p2p_log.specs.declared.end.Cause.{Cause}
use Rattle.p2p_log.specs.declared.entry.Entry.{Entry}
use Rattle.p2p_log.specs.declared.entry.Reply.TheVariants as reply
use Rattle.p2p_log.specs.declared.event.Act.TheVariants as act
use Rattle.p2p_log.specs.QueueCode.{same_queue}
use Rattle.p2p_log.specs.Lines.{line, name_of, placed, stands_in, ended_item}
use Rattle.p2p_log_rules.proofs.Connections.{running_of}
use Rattle.p2p_log_rules.specs.declared.row.Half.{Half}
use Rattle.p2p_log_rules.specs.declared.row.Row.{Row}
use Rattle.p2p_log_rules.specs.Connections.{live_half, has_run, is_end}
use Rattle.p2p_log_rules.specs.Facts.{is_up, events_of, latest_moment, taken, registers_at}
use Rattle.p2p_log_rules.specs.Metering.{Metered, messages, is_of, metered_in, holds, limit_at, admitted_by}
use Rattle.p2p_log_rules.specs.Effect.{only, receiver_row, receiving_row, recv_step_row}
use Rattle.p2p_net_queues.specs.Lines.{HoldsLines}
use Rattle.p2p_log_rules.specs.Rows.{taken_row}
use Rattle.p2p_net_queues.specs.Tables.{pushed_at, popped_at}
use Rattle.p2p_net_queues.proofs.Going.{line-taken}
use Rattle.p2p_net_queues.proofs.Holding.{TakesFirst, holds_frame, holds_taken, holds_put}
use Rattle.p2p_flow_connection.specs.Arriving.{Arrived as Mailboxes}
use Rattle.p2p_net_channels.specs.declared.arrival.Arrived.{Arrived}
use Rattle.p2p_net_channels.specs.declared.channels.Channels.{Channels}
use Rattle.p2p_net_channels.specs.Arrivals.{delivered}
use Rattle.p2p_net_channels.specs.Channels.{message_put, named_with, may_admit, metered}
use Rattle.p2p_net_channels.specs.Stands.{ChannelsStand, SendsNone, ClosesNone}
use Rattle.p2p_net_channels.proofs.Changes.{channels_frame, same_channel}
use Rattle.p2p_net_channels.proofs.Mailboxes.{MailboxesMove}
use Rattle.p2p_net_channels.proofs.Metering.{channels_metered}
use Rattle.p2p_net_connections.specs.Stands.{ConnectionsStand}
use Rattle.p2p_net_connections.specs.declared.connections.Connections.{Connections}
use Rattle.p2p_net_connections.proofs.Changes.{same_held}
use Rattle.p2p_net_connecting.proofs.Arriving.{admitted_here}
use Rattle.p2p_net_node.proofs.Performing.{taken-none}
use Rattle.p2p_net_node.proofs.Receivers.{admits-untaken}
use Rattle.p2p_net_connecting.proofs.RouterAnswers.{taken-first}

-- ---- the row

-- what a half's step comes to where its node has started, by what stands of it
abbrev pub stepped_row : List Config → List Entry → ℕ → ℕ → ℕ → Option Half → Bool → Row
stepped_row configs log conn n at o runs = elim o [
  | None ↦ only reply.Gone
  | Some half ↦ cond runs (receiver_row configs log n conn at half) (only reply.Idle)
]

pub stepped_as : (configs : List Config) (log : List Entry) (conn n at : ℕ) (o : Option Half) (runs : Bool) → is_up log n ≡ true → live_half log n conn ≡ o → has_run log n conn ≡ runs
    → recv_step_row configs log conn n at ≡ stepped_row configs log conn n at o runs
stepped_as configs log conn n at o runs up has is =
    ap (λ b. cond b (receiving_row configs log n conn at (live_half log n conn)) (only reply.Gone)) up ∙ (ap (receiving_row configs log n conn at) has ∙ by o has)
  where
    by : (o : Option Half) → live_half log n conn ≡ o → receiving_row configs log n conn at o ≡ stepped_row configs log conn n at o runs
    by None lived = refl
    by (Some half) lived = ap (λ b. cond b (receiver_row configs log n conn at half) (only reply.Idle)) (running_of log n conn half lived ∙ is)

-- ---- queues of different kinds

pub link_channel : (link n c : ℕ) (s : Side) → same_queue (queue.Link link s) (queue.Channel n c) ≡ false
link_channel link n c side.Out = refl
link_channel link n c side.In = refl

pub link_held : (link n c : ℕ) (s : Side) → same_queue (queue.Link link s) (queue.Held n c) ≡ false
link_held link n c side.Out = refl
link_held link n c side.In = refl

pub channel_link : (n c j : ℕ) (t : Side) → same_queue (queue.Link j t) (queue.Channel n c) ≡ false
channel_link n c j side.Out = refl
channel_link n c j side.In = refl

pub held_link : (n c j : ℕ) (t : Side) → same_queue (queue.Link j t) (queue.Held n c) ≡ false
held_link n c j side.Out = refl
held_link n c j side.In = refl

-- ---- what a step moves

-- the entry is of a step of this half at this moment which ends nothing, and in which nothing but these is put
pub record IsStep (log : List Entry) (e : Entry) (n conn at : ℕ) (puts : List (Queue × Item)) : Type 0 where
  pub acts : e.event.act ≡ act.RecvStep conn n
  pub lives : is_end e.reply ≡ false
  pub moment : e.event.at ≡ at
  pub puts_are : e.puts ≡ puts

-- it takes the first item of a queue, which counts so
pub record Takes (log : List Entry) (e : Entry) (limit : ℕ) (p : Queue) (f : Envelope) (fs : List Envelope) (kind : Metered) : Type 0 where
  pub first : line log p ≡ f ∷ fs
  pub takes : e.takes ≡ name_of f ∷ []
  pub ends : flat_map ended_item e.ends ≡ []
  pub counts : metered_in limit f.item ≡ Some kind

pub takes_first : (log : List Entry) (e : Entry) (limit : ℕ) (p : Queue) (f : Envelope) (fs : List Envelope) (kind : Metered) → Takes log e limit p f fs kind → TakesFirst log e p f fs
takes_first log e limit p f fs kind h = record { first = h.first; gone = ap (λ t. t ++ flat_map ended_item e.ends) h.takes ∙ ap (λ d. name_of f ∷ d) h.ends }

pub line_off : (log : List Entry) (e : Entry) (p q : Queue) (f : Envelope) (fs : List Envelope) (puts : List (Queue × Item)) → TakesFirst log e p f fs → e.puts ≡ puts
    → line (log ++ e ∷ []) q ≡ cond (same_queue p q) fs (line log q) ++ filter (stands_in q) (placed (length log) 0 puts)
line_off log e p q f fs puts h is =
    line-taken log e p f fs q h.first h.gone ∙ ap (λ t. cond (same_queue p q) fs (line log q) ++ filter (stands_in q) (placed (length log) 0 t)) is

-- a queue of which nothing is taken, and where nothing is put
pub line_aside : (log : List Entry) (e : Entry) (p q : Queue) (f : Envelope) (fs : List Envelope) (puts : List (Queue × Item)) → TakesFirst log e p f fs → e.puts ≡ puts → same_queue p q ≡ false
    → filter (stands_in q) (placed (length log) 0 puts) ≡ [] → line (log ++ e ∷ []) q ≡ line log q
line_aside log e p q f fs puts h is apart none =
    line_off log e p q f fs puts h is ∙ (ap (λ b. cond b fs (line log q) ++ filter (stands_in q) (placed (length log) 0 puts)) apart ∙ (ap (λ l. line log q ++ l) none ∙ append-nil (line log q)))

-- what an entry that takes it admits, by whether it is held
pub not-not : (b : Bool) → not (not b) ≡ b
not-not true = refl
not-not false = refl

pub other-none : (a b : Bool) (at : ℕ) → cond (a && (false && b)) (at ∷ []) [] ≡ []
other-none true b at = refl
other-none false b at = refl

-- ---- what was passed, or is held

-- whether a put of a message or none is held
pub passed_holds : (why : Option Cause) (n : ℕ) (from : Key) (m : Arrived) (name : ℕ × ℕ) → holds (delivered why n from m (taken_row name)).puts ≡ false
passed_holds (Some why) n from m name = refl
passed_holds None n from m name = refl

pub passed_lives : (why : Option Cause) (n : ℕ) (from : Key) (m : Arrived) (name : ℕ × ℕ) → is_end (delivered why n from m (taken_row name)).reply ≡ false
passed_lives (Some why) n from m name = refl
passed_lives None n from m name = refl

pub passed_takes : (why : Option Cause) (n : ℕ) (from : Key) (m : Arrived) (name : ℕ × ℕ) → (delivered why n from m (taken_row name)).takes ≡ name ∷ []
passed_takes (Some why) n from m name = refl
passed_takes None n from m name = refl

pub passed_ends : (why : Option Cause) (n : ℕ) (from : Key) (m : Arrived) (name : ℕ × ℕ) → flat_map ended_item (delivered why n from m (taken_row name)).ends ≡ []
passed_ends (Some why) n from m name = refl
passed_ends None n from m name = refl

-- a queue of another kind is aside of it
pub passed_aside : (why : Option Cause) (q : Queue) (k n : ℕ) (from : Key) (m : Arrived) (name : ℕ × ℕ) → same_queue q (queue.Channel n m.channel) ≡ false → filter (stands_in q) (placed k 0 (delivered why n from m (taken_row name)).puts) ≡ []
passed_aside (Some why) q k n from m name apart = refl
passed_aside None q k n from m name apart = ap (λ b. cond b (message_put k 0 n from m ∷ []) []) apart

-- and of what is held
pub held_aside : (q : Queue) (k n conn : ℕ) (i : Item) → same_queue q (queue.Held n conn) ≡ false → filter (stands_in q) (placed k 0 ((queue.Held n conn, i) ∷ [])) ≡ []
held_aside q k n conn i apart = ap (λ b. cond b (record { entry = k; place = 0; queue = queue.Held n conn; item = i } ∷ []) []) apart

module _ (configs : List Config) (log : List Entry) (n conn at : ℕ) (e : Entry) (late : latest_moment (events_of log) ≤ at) where
  abbrev limit : ℕ
  limit = limit_at configs n

  module _ (p : Queue) (f : Envelope) (fs : List Envelope) (kind : Metered) (puts : List (Queue × Item)) (step : IsStep log e n conn at puts) (h : Takes log e limit p f fs kind) where
    took : taken log e ≡ f.item ∷ []
    took = taken-first log e p f fs h.first h.takes

    -- what it admits of a kind
    pub admits_of : (d : ℕ) (what : Metered) (held : Bool) → holds puts ≡ held → admitted_by limit n d what log e ≡ cond ((d == conn) && (is_of what (Some kind) && not held)) (at ∷ []) []
    admits_of d what held is = admitted_here limit n conn d at what kind log e f.item held step.acts step.lives step.moment took h.counts (ap holds step.puts_are ∙ is)

  -- nothing is admitted where nothing is taken
  pub admits_idle : e.takes ≡ [] → (d : ℕ) (what : Metered) → admitted_by limit n d what log e ≡ []
  admits_idle none d what = admits-untaken limit n d what log e (taken-none log e none)

  -- ---- the channels

  module _ (ch : Channels) (s : ChannelsStand configs log n ch) (registers : registers_at configs n e.event.act ≡ []) (sends : SendsNone log e n) (closes : ClosesNone log e n) where
    -- a message came whose quota says this, by what the entry admits and which messages wait then
    pub message_channels : (c : ℕ) (a : Mailboxes Key) (w : List (ℕ × List Envelope)) → MailboxesMove ch a w → a.ended ≡ ch.inbounds.ended → ((d q : ℕ) → admitted_by limit n d (messages q) log e ≡ cond ((d == conn) && ((q == c) && may_admit ch c conn at)) (at ∷ []) [])
        → e.event.at ≡ at → HoldsLines (queue.Channel n) (log ++ e ∷ []) w → ChannelsStand configs (log ++ e ∷ []) n (record (metered c conn at ch) { inbounds = a; waiting = w })
    message_channels c a w moves same admits moment waits =
        channels_metered configs log e n c conn at ch a w s moves same registers late moment
        (λ d q. admits d q ∙ ap (λ b. cond b (at ∷ []) []) (over (d == conn) (q == c) (may_admit ch c conn at))) sends closes waits
      where
        over : (a b z : Bool) → (a && (b && z)) ≡ (b && (a && z))
        over true true z = refl
        over true false z = refl
        over false true z = refl
        over false false z = refl

    -- no message came
    pub other_channels : ((d q : ℕ) → admitted_by limit n d (messages q) log e ≡ []) → ((q : ℕ) → line (log ++ e ∷ []) (queue.Channel n q) ≡ line log (queue.Channel n q)) → ChannelsStand configs (log ++ e ∷ []) n ch
    other_channels none lines = channels_frame configs log e n ch s (record { registers = registers; lines = lines; admits = none; sends = sends; closes = closes })

    -- the messages that wait once one was delivered, by what keeps it out of its channel
    pub delivered_waits : (p : Queue) (f : Envelope) (fs : List Envelope) (why : Option Cause) (from : Key) (m : Arrived) → TakesFirst log e p f fs → ((q : ℕ) → same_queue p (queue.Channel n q) ≡ false)
        → e.puts ≡ (delivered why n from m (taken_row (name_of f))).puts → HoldsLines (queue.Channel n) (log ++ e ∷ []) (named_with why m.channel (message_put (length log) 0 n from m) ch.waiting)
    delivered_waits p f fs (Some why) from m took apart puts = holds_frame (queue.Channel n) log e ch.waiting s.waits (λ q. line_aside log e p (queue.Channel n q) f fs [] took puts (apart q) refl)
    delivered_waits p f fs None from m took apart puts =
        holds_put (queue.Channel n) (same_channel n) log e p f fs m.channel (message_put (length log) 0 n from m) ch.waiting s.waits took apart
        (λ q. ap (λ t. filter (stands_in (queue.Channel n q)) (placed (length log) 0 t)) puts)

  -- ---- the connections

  module _ (cs : Connections) (s : ConnectionsStand configs log n cs) where
    -- the entry takes the first of what a connection holds
    pub unheld_holds : (f : Envelope) (fs : List Envelope) (puts : List (Queue × Item)) → TakesFirst log e (queue.Held n conn) f fs → e.puts ≡ puts
        → ((c : ℕ) → filter (stands_in (queue.Held n c)) (placed (length log) 0 puts) ≡ []) → HoldsLines (queue.Held n) (log ++ e ∷ []) (popped_at cs.held conn)
    unheld_holds f fs puts took is none =
        holds_taken (queue.Held n) (same_held n) log e conn f fs cs.held s.holds took (λ c. ap (λ t. filter (stands_in (queue.Held n c)) (placed (length log) 0 t)) is ∙ none c)

    -- it takes an item elsewhere, and puts one there
    pub held_holds : (p : Queue) (f : Envelope) (fs : List Envelope) (i : Item) → TakesFirst log e p f fs → ((c : ℕ) → same_queue p (queue.Held n c) ≡ false) → e.puts ≡ (queue.Held n conn, i) ∷ []
        → HoldsLines (queue.Held n) (log ++ e ∷ []) (pushed_at cs.held conn (record { entry = length log; place = 0; queue = queue.Held n conn; item = i }))
    held_holds p f fs i took apart is =
        holds_put (queue.Held n) (same_held n) log e p f fs conn (record { entry = length log; place = 0; queue = queue.Held n conn; item = i }) cs.held s.holds took apart
        (λ c. ap (λ t. filter (stands_in (queue.Held n c)) (placed (length log) 0 t)) is)
