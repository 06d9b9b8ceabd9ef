-- A step of an actor is what that makes of its first input, and idle exactly where none is ready.
use Rattle.std.proofs.Common.{◌≡◌, ℕ, zero, suc, Bool, true, false, cond, List, [], ◌∷◌, ◌++◌, take, length, refl, ap, sym, subst, ◌∙◌, Option, Some, None}
use Rattle.std.specs.Prelude.{◌&&◌, ◌-◌, not, nat_le, nat_lt, is_none, filter, map}
use Rattle.std.specs.List.{AllByRecursion as Each}
use Rattle.p2p_log.specs.declared.config.Config.{Config}
use Rattle.p2p_log.specs.declared.queue.Queue.{Queue}
use Rattle.p2p_log.specs.declared.queue.Queue.TheVariants as queue
use Rattle.p2p_log.specs.declared.queue.Side.{Side}
use Rattle.p2p_log.specs.declared.item.Item.{Item}
use Rattle.p2p_log.specs.declared.item.Item.TheVariants as item
use Rattle.p2p_log.specs.declared.item.Envelope.{Envelope}
use Rattle.p2p_log.specs.declared.end.Cause.{Cause}
use Rattle.p2p_log.specs.declared.end.Cause.TheVariants as cause
use Rattle.p2p_log.specs.declared.entry.Ended.TheVariants as ended
use Rattle.p2p_log.specs.declared.entry.Entry.{Entry}
use Rattle.p2p_log.specs.declared.entry.Reply.{Reply}
use Rattle.p2p_log.specs.declared.entry.Reply.TheVariants as reply
use Rattle.p2p_log.specs.declared.event.Event.{Event}
use Rattle.p2p_log.specs.Lines.{name_of, line, live, stays}
use Rattle.p2p_log_rules.specs.declared.row.Half.{Half}
use Rattle.p2p_log_rules.specs.declared.row.Row.{Row}
use Rattle.p2p_base.specs.declared.key.Key.{Key}
use Rattle.p2p_log_rules.specs.Attempting.{Attempt, dial_rules_at, attempts_of, resolved, resolved_row, handed_on_row, linked_row, attempt_took_row}
use Rattle.p2p_log_rules.specs.Closing.{is_closed, refused_by}
use Rattle.p2p_log_rules.specs.Connections.{live_half, is_begun, is_running}
use Rattle.p2p_log_rules.specs.Dialing.{Dials, dials_of, due_row, answer_taken_row}
use Rattle.p2p_log_rules.specs.Cutting.{is_broken}
use Rattle.p2p_log_rules.specs.Dropping.{other_side, dialing_end, arriving_end, attempt_drops, handshake_drops, listener_drops, listening_end}
use Rattle.p2p_log_rules.specs.Effect.{effect, entry_of, row, route_row, batch_size_at, batch, written_row, deliver_row, delivered_row, message_row, ping_row, frame_row, retry_row, limit_at}
use Rattle.p2p_log_rules.specs.Effect as effects
use Rattle.p2p_log_rules.specs.Facts.{is_up, channels, capacity_in}
use Rattle.p2p_log_rules.specs.First.{Actor, tracker, router, spawner, dialer, listener, attempt, handshake, sender, receiver, actor_of, Input, takes, due, begins, fault, first_of, ready, oldest_of, only_where, attempt_due, is_admitted, link_inputs, held_inputs, stands, has_half, acts, first_input, by_input}
use Rattle.p2p_log_rules.specs.Frames.{message_in, is_ping_in}
use Rattle.p2p_log_rules.specs.Handshakes.{Handshake, handshake_at, came_over, is_finished}
use Rattle.p2p_log_rules.specs.Handshaking.{handshake_deadline, is_due}
use Rattle.p2p_log_rules.specs.Handshaking as handshaking
use Rattle.p2p_log_rules.specs.Lawful.{IsLawful}
use Rattle.p2p_log_rules.specs.Listening.{gate_rules_at, known_of, has_place, arrived_row}
use Rattle.p2p_log_rules.specs.Metering.{pings, messages, may_pass}
use Rattle.p2p_log_rules.specs.Pings.{ping_is_due}
use Rattle.p2p_log_rules.specs.Puts.{gave_up, broke_off, turns_away}
use Rattle.p2p_log_rules.specs.Rows.{only, is_spawner_full}
use Rattle.p2p_log_rules.specs.Serving.{tracker_serves, router_serves, spawner_serves, dialer_serves, listener_serves, attempt_serves, handshake_serves, sender_serves, receiver_serves, serves, actor_row}
use Rattle.p2p_log_rules.specs.TrackerPuts.{is_some_of}
use Rattle.p2p_log_rules.specs.Tracking.{key_cmp, rules_at, calls_of}
use Rattle.p2p_tracker_calls.specs.BlockedKeys.{due_keys}
use Rattle.p2p_log_rules.proofs.First.{dropping-reply, row-first}
use Rattle.p2p_log_rules.proofs.Moves.{one_taken, first_has}
use Rattle.p2p_log_rules.proofs.HandshakeBegun.{handshaking_begun}
use Rattle.p2p_log_laws.specs.Idling.{is_gone, is_idle, ServesFirst, EachStepServesFirst}
use Rattle.p2p_log_laws.proofs.Fitting.{fits, StandsFit}
use Rattle.p2p_log_laws.proofs.Ledger.{Told-each}
use Rattle.p2p_log_laws.proofs.Prefixes.{entry_due}

-- whether a reply is of a step that did nothing
abbrev is_still : Reply → Bool
is_still reply.Gone = true
is_still reply.Idle = true
is_still _ = false

-- what is made of an input, where there is one, is no such reply
abbrev Serves : (Input → Row) → Option Input → Type 0
Serves serve None = Unit {0}
Serves serve (Some i) = is_still (serve i).reply ≡ false

-- and that it lets go of an end of a link then is no other reply
drops_serves : (drops : Row → Row) → ((r : Row) → (drops r).reply ≡ r.reply) → (serve : Input → Row) (o : Option Input) → Serves serve o → Serves (λ i. drops (serve i)) o
drops_serves drops same serve None served = tt
drops_serves drops same serve (Some i) served = ap is_still (same (serve i)) ∙ served

-- ---- what each kind of row replies

routed_serves : (configs : List Config) (log : List Entry) (n : ℕ) (name : ℕ × ℕ) (i : Item) (items : List Envelope) → is_still (route_row configs log n name i items).reply ≡ false
routed_serves configs log n name (item.Subscribe c) items = refl
routed_serves configs log n name (item.Ready conn key) items = refl
routed_serves configs log n name (item.Release key) items = refl
routed_serves configs log n name (item.Content c frame priority send to) items = refl
routed_serves configs log n name _ items = refl

answered_serves : (n seed : ℕ) (d : Dials) (name : ℕ × ℕ) (i : Item) → fits (queue.Dialer n) i ≡ true → is_still (answer_taken_row n seed d name i).reply ≡ false
answered_serves n seed d name (item.Dialable next peers) fit = refl
answered_serves n seed d name (item.Dial None) fit = refl
answered_serves n seed d name (item.Dial (Some grant)) fit = refl
answered_serves n seed d name _ fit = absurd (cc)

due_serves : (n : ℕ) (peers : List Key) → is_still (due_row n peers).reply ≡ false
due_serves n [] = refl
due_serves n (k ∷ ks) = refl

arrived_serves : (configs : List Config) (log : List Entry) (n at : ℕ) (name : ℕ × ℕ) (i : Item) → fits (queue.Arrivals n) i ≡ true
    → is_still (arrived_row (gate_rules_at configs n) (known_of configs log n) (has_place configs log n) n (length log) at name i).reply ≡ false
arrived_serves configs log n at name (item.Arrival from key link) fit = refl
arrived_serves configs log n at name _ fit = absurd (cc)

ready_serves : (n : ℕ) (full : Bool) (key : Key) (link : ℕ) (name : ℕ × ℕ) (left : List Envelope) → is_still (handed_on_row n full key link name left).reply ≡ false
ready_serves n true key link name left = refl
ready_serves n false key link name left = refl

resolved_serves : (o : Option Attempt) (n : ℕ) (key : Key) (name : ℕ × ℕ) (left : List Envelope) → is_still (resolved_row o n key name left).reply ≡ false
resolved_serves None n key name left = refl
resolved_serves (Some a) n key name left = refl

linked_serves : (n : ℕ) (full : Bool) (key : Key) (o : Option ℕ) (name : ℕ × ℕ) (left : List Envelope) → is_still (linked_row n full key o name left).reply ≡ false
linked_serves n full key None name left = refl
linked_serves n full key (Some link) name left = ready_serves n full key link name left

tried_serves : (n : ℕ) (full private : Bool) (seed : ℕ) (a : Attempt) (name : ℕ × ℕ) (i : Item) (left : List Envelope) → is_still (attempt_took_row n full private seed a name i left).reply ≡ false
tried_serves n full private seed a name (item.Resolved addresses) left = resolved_serves (resolved a.address private addresses seed a) n a.key name left
tried_serves n full private seed a name item.Linked left = refl
tried_serves n full private seed a name (item.Finished true) left = linked_serves n full a.key a.answer name left
tried_serves n full private seed a name (item.Finished false) left = refl
tried_serves n full private seed a name _ left = refl

shaken_serves : (n : ℕ) (full : Bool) (h : ℕ) (peer : Handshake) (name : ℕ × ℕ) (i : Item) (left : List Envelope) → is_still (handshaking.handshake_took_row n full h peer name i left).reply ≡ false
shaken_serves n full h peer name (item.Acceptable true) left = refl
shaken_serves n full h peer name (item.Acceptable false) left = refl
shaken_serves n full h peer name (item.Finished true) left = refl
shaken_serves n full h peer name (item.Finished false) left = refl
shaken_serves n full h peer name (item.Listen (Some key)) left = ready_serves n full key peer.link name left
shaken_serves n full h peer name (item.Listen None) left = refl
shaken_serves n full h peer name _ left = refl

module _ (configs : List Config) (log : List Entry) (n conn : ℕ) (half : Half) where
  -- a ping, and what fits beside it
  pinged_serves : (cs : List Envelope) (room broken : Bool) (xs : List Envelope) → is_still (effects.told_to_end_row log n conn half cs room (written_row log n conn half broken true xs)).reply ≡ false
  pinged_serves (x ∷ cs) true broken xs = refl
  pinged_serves (x ∷ cs) false true xs = refl
  pinged_serves (x ∷ cs) false false xs = refl
  pinged_serves [] room true xs = refl
  pinged_serves [] room false xs = refl

  -- a batch that is not empty
  written_serves : (size : ℕ) (broken : Bool) (x : Envelope) (xs : List Envelope) → nat_lt 0 size ≡ true → is_still (written_row log n conn half broken false (take size (x ∷ xs))).reply ≡ false
  written_serves zero broken x xs room = absurd (cc)
  written_serves (suc k) true x xs room = refl
  written_serves (suc k) false x xs room = refl

  delivered_serves : (o : Option Cause) (name : ℕ × ℕ) (copy : ℕ × ℕ) (message : ℕ × List ℕ) → is_still (delivered_row o n name half.peer copy message).reply ≡ false
  delivered_serves None name copy message = refl
  delivered_serves (Some why) name copy message = refl

  module _ (at : ℕ) where
    deliver_serves : (name : ℕ × ℕ) (copy : ℕ × ℕ) (message : ℕ × List ℕ) (capacity : ℕ) → is_still (deliver_row log n name half.peer copy message capacity).reply ≡ false
    deliver_serves name copy message capacity =
        delivered_serves (refused_by (is_closed log n message.0) (nat_le capacity (length (line log (queue.Channel n message.0))))) name copy message

    message_serves : (x : Envelope) (copy : ℕ × ℕ) (o : Option (ℕ × List ℕ)) → is_still (message_row configs log n conn at half x copy o).reply ≡ false
    message_serves x copy None = refl
    message_serves x copy (Some message) = by (capacity_in (channels configs log n) message.0) (may_pass configs log n conn at (messages message.0))
      where
        by : (o : Option ℕ) (b : Bool) → is_still (elim o as (λ (p : Option ℕ). Row) [
          | None ↦ effects.refused_row configs log n conn at half ended.InvalidChannel cause.ChannelUnregistered x
          | Some capacity ↦
              cond b (deliver_row log n (name_of x) half.peer copy message capacity) (effects.hold_row n conn (name_of x) (item.Held message.0 message.1 copy))
        ]).reply ≡ false
        by None b = refl
        by (Some capacity) true = deliver_serves (name_of x) copy message capacity
        by (Some capacity) false = refl

    ping_serves : (x : Envelope) (b : Bool) → is_still (ping_row configs log n conn at half x b).reply ≡ false
    ping_serves x false = refl
    ping_serves x true = by (may_pass configs log n conn at pings)
      where
        by : (b : Bool) → is_still (cond b (effects.taken_row (name_of x)) (effects.hold_row n conn (name_of x) item.Ping)).reply ≡ false
        by true = refl
        by false = refl

    frame_serves : (link : ℕ) (side : Side) (x : Envelope) (i : Item) → fits (queue.Link link side) i ≡ true → is_still (frame_row configs log n conn at half x i).reply ≡ false
    frame_serves link side x (item.Frame (Some copy) frame) fit = message_serves x copy (message_in frame (limit_at configs n))
    frame_serves link side x (item.Frame None frame) fit = ping_serves x (is_ping_in frame (limit_at configs n))
    frame_serves link side x _ fit = absurd (cc)

    -- what is held, where its quota admits it
    held_serves : (name : ℕ × ℕ) (i : Item) → is_admitted configs log n conn at i ≡ true → is_still (retry_row configs log n conn at half name i).reply ≡ false
    held_serves name (item.Held c bytes copy) h = by (capacity_in (channels configs log n) c) (may_pass configs log n conn at (messages c)) h
      where
        by : (o : Option ℕ) (b : Bool) → (elim o [ None ↦ false | Some capacity ↦ b ]) ≡ true → is_still (elim o as (λ (p : Option ℕ). Row) [
          | None ↦ only reply.Idle
          | Some capacity ↦ cond b (deliver_row log n name half.peer copy (c, bytes) capacity) (only reply.Idle)
        ]).reply ≡ false
        by None b h = absurd (cc)
        by (Some capacity) true h = deliver_serves name copy (c, bytes) capacity
        by (Some capacity) false h = absurd (cc)
    held_serves name item.Ping h = ap (λ b. is_still (cond b (effects.taken_row name) (only reply.Idle)).reply) h
    held_serves name _ h = absurd (cc)

-- ---- each actor

module _ (configs : List Config) (log : List Entry) (fitting : Each StandsFit (live log)) (at seed : ℕ) where
  -- the oldest item of a queue is of its kind
  oldest_fits : (q : Queue) (x : Envelope) (rest : List Envelope) → line log q ≡ x ∷ rest → fits q x.item ≡ true
  oldest_fits q x rest is = subst (λ p. fits p x.item ≡ true) (one_taken log q x rest is) (first_has StandsFit log q x rest fitting is)

  sender_first : (n conn : ℕ) (half : Half) (begun running : Bool) → Serves (sender_serves configs log n conn (Some half))
      (first_of
      (cond begun
      (cond running
      (ready (ping_is_due configs log n conn at) due
      ∷ only_where (nat_lt 0 (batch_size_at configs n))
      (oldest_of (queue.Control n conn) (line log (queue.Control n conn))
      ∷ oldest_of (queue.High n conn) (line log (queue.High n conn))
      ∷ oldest_of (queue.Low n conn) (line log (queue.Low n conn))
      ∷ []))
      (oldest_of (queue.RouterAnswer n conn) (line log (queue.RouterAnswer n conn)) ∷ []))
      (Some begins ∷ [])))
  sender_first n conn half false running = refl
  sender_first n conn half true false = by (line log (queue.RouterAnswer n conn))
    where
      by : (xs : List Envelope) → Serves (sender_serves configs log n conn (Some half)) (first_of (oldest_of (queue.RouterAnswer n conn) xs ∷ []))
      by [] = tt
      by (x ∷ xs) = refl
  sender_first n conn half true true =
      by (ping_is_due configs log n conn at) (nat_lt 0 (batch_size_at configs n)) refl (line log (queue.Control n conn)) (line log (queue.High n conn)) (line log (queue.Low n conn)) refl refl
    where
      broken : Bool
      broken = is_broken log half.link (other_side half.writes)

      by : (pings room : Bool) → nat_lt 0 (batch_size_at configs n) ≡ room → (cs hs ls : List Envelope) → line log (queue.High n conn) ≡ hs → line log (queue.Low n conn) ≡ ls
          → Serves (sender_serves configs log n conn (Some half))
          (first_of (ready pings due ∷ only_where room (oldest_of (queue.Control n conn) cs ∷ oldest_of (queue.High n conn) hs ∷ oldest_of (queue.Low n conn) ls ∷ [])))
      by true room fit cs hs ls high low =
          pinged_serves configs log n conn half (line log (queue.Control n conn)) (nat_lt 0 (batch_size_at configs n - 1)) broken (batch log n conn (batch_size_at configs n - 1))
      by false false fit cs hs ls high low = tt
      by false true fit (x ∷ xs) hs ls high low = refl
      by false true fit [] (x ∷ xs) ls high low =
          ap (λ l. is_still (written_row log n conn half broken false (take (batch_size_at configs n) (l ++ line log (queue.Low n conn)))).reply) high
          ∙ written_serves configs log n conn half (batch_size_at configs n) broken x (xs ++ line log (queue.Low n conn)) fit
      by false true fit [] [] (x ∷ xs) high low =
          ap (λ l. is_still (written_row log n conn half broken false (take (batch_size_at configs n) (l ++ line log (queue.Low n conn)))).reply) high
          ∙ (ap (λ l. is_still (written_row log n conn half broken false (take (batch_size_at configs n) l)).reply) low
          ∙ written_serves configs log n conn half (batch_size_at configs n) broken x xs fit)
      by false true fit [] [] [] high low = tt

  receiver_first : (n conn : ℕ) (half : Half) (running : Bool) → Serves (receiver_serves configs log n conn at (Some half))
      (first_of (only_where running (held_inputs (is_admitted configs log n conn at) (queue.Held n conn) (line log (queue.Held n conn)) (link_inputs log (Some half)))))
  receiver_first n conn half false = tt
  receiver_first n conn half true =
      by (line log (queue.Held n conn)) (line log (queue.Link half.link (other_side half.writes))) refl (is_broken log half.link (other_side half.writes))
    where
      held : (x : Envelope) (rest : List Envelope) (b : Bool) → is_admitted configs log n conn at x.item ≡ b
          → Serves (receiver_serves configs log n conn at (Some half)) (first_of (ready b (takes (queue.Held n conn) x rest) ∷ []))
      held x rest true is = held_serves configs log n conn half at (name_of x) x.item is
      held x rest false is = tt

      by : (hs fs : List Envelope) → line log (queue.Link half.link (other_side half.writes)) ≡ fs → (broken : Bool) → Serves (receiver_serves configs log n conn at (Some half))
          (first_of
          (held_inputs (is_admitted configs log n conn at) (queue.Held n conn) hs
          (oldest_of (queue.Link half.link (other_side half.writes)) fs ∷ ready broken fault ∷ [])))
      by (x ∷ rest) fs is broken = held x rest (is_admitted configs log n conn at x.item) refl
      by [] (x ∷ fs) is broken =
          frame_serves configs log n conn half at half.link (other_side half.writes) x x.item (oldest_fits (queue.Link half.link (other_side half.writes)) x fs is)
      by [] [] is true = refl
      by [] [] is false = tt

  serves_first : (a : Actor) → acts configs log a ≡ true → Serves (serves configs log at seed a) (first_input configs log at a)
  serves_first (tracker n) runs = by (is_some_of (due_keys key_cmp (rules_at configs n) (calls_of configs log n) at)) (line log (queue.Tracker n))
    where
      by : (b : Bool) (xs : List Envelope) → Serves (tracker_serves configs log n at) (first_of (ready b due ∷ oldest_of (queue.Tracker n) xs ∷ []))
      by true xs = refl
      by false [] = tt
      by false (x ∷ xs) = refl
  serves_first (router n) runs = by (line log (queue.Router n))
    where
      by : (xs : List Envelope) → Serves (router_serves configs log n) (first_of (oldest_of (queue.Router n) xs ∷ []))
      by [] = tt
      by (x ∷ xs) = routed_serves configs log n (name_of x) x.item (filter (stays (name_of x ∷ [])) (live log))
  serves_first (spawner n) runs = by (line log (queue.Spawner n))
    where
      by : (xs : List Envelope) → Serves spawner_serves (first_of (oldest_of (queue.Spawner n) xs ∷ []))
      by [] = tt
      by (x ∷ xs) = refl
  serves_first (dialer n) runs = by (line log (queue.Dialer n)) refl (not (dials_of configs log n).is_asking && nat_le (dials_of configs log n).deadline at)
    where
      by : (xs : List Envelope) → line log (queue.Dialer n) ≡ xs → (b : Bool)
          → Serves (dialer_serves n seed (dials_of configs log n)) (first_of (oldest_of (queue.Dialer n) xs ∷ ready b due ∷ []))
      by (x ∷ xs) is b = answered_serves n seed (dials_of configs log n) (name_of x) x.item (oldest_fits (queue.Dialer n) x xs is)
      by [] is true = due_serves n (dials_of configs log n).peers
      by [] is false = tt
  serves_first (listener n) runs =
      drops_serves (listener_drops log n) (λ r. dropping-reply log (cond (turns_away r.reply) (arriving_end log n) None) r) (listener_serves configs log n at) (first_input configs log at (listener n))
      (by (line log (queue.Addresses n)) (line log (queue.Arrivals n)) refl)
    where
      by : (us xs : List Envelope) → line log (queue.Arrivals n) ≡ xs
          → Serves (listener_serves configs log n at) (first_of (oldest_of (queue.Addresses n) us ∷ oldest_of (queue.Arrivals n) xs ∷ []))
      by (u ∷ us) xs is = refl
      by [] [] is = tt
      by [] (x ∷ xs) is = arrived_serves configs log n at (name_of x) x.item (oldest_fits (queue.Arrivals n) x xs is)
  serves_first (attempt n k) runs =
      drops_serves (attempt_drops log k n) (λ r. dropping-reply log (cond (gave_up r.puts) (dialing_end log n k) None) r)
      (attempt_serves n (is_spawner_full configs log n) (dial_rules_at configs n).private seed (attempts_of configs log n k)) (first_input configs log at (attempt n k))
      (by (attempts_of configs log n k) runs (line log (queue.Attempt n k)))
    where
      turn : (a : Attempt) (b : Bool)
          → Serves (attempt_serves n (is_spawner_full configs log n) (dial_rules_at configs n).private seed (Some a)) (first_of (ready b due ∷ []))
      turn a true = refl
      turn a false = tt

      by : (o : Option Attempt) → stands o ≡ true → (xs : List Envelope)
          → Serves (attempt_serves n (is_spawner_full configs log n) (dial_rules_at configs n).private seed o) (first_of (oldest_of (queue.Attempt n k) xs ∷ ready (attempt_due o at) due ∷ []))
      by None runs xs = absurd (cc)
      by (Some a) runs [] = turn a (nat_le a.deadline at)
      by (Some a) runs (x ∷ xs) = tried_serves n (is_spawner_full configs log n) (dial_rules_at configs n).private seed a (name_of x) x.item xs
  serves_first (handshake n h) runs =
      drops_serves (handshake_drops log (came_over log h) (line log (queue.Handshake n h)))
      (λ r. dropping-reply log (cond (broke_off r.reply (map (λ x. x.item) (take 1 (line log (queue.Handshake n h)))) r.puts) (listening_end (came_over log h)) None) r)
      (handshake_serves n (is_spawner_full configs log n) h (handshake_at log h)) (first_input configs log at (handshake n h))
      (by (handshake_at log h) (handshaking_begun log n h runs).1 (line log (queue.Handshake n h)) (is_due (handshake_deadline configs log h n) at (is_finished log n h)))
    where
      by : (o : Option Handshake) → o ≡ Some (handshaking_begun log n h runs).0 → (xs : List Envelope) (b : Bool)
          → Serves (handshake_serves n (is_spawner_full configs log n) h o) (first_of (oldest_of (queue.Handshake n h) xs ∷ ready b due ∷ []))
      by None begun xs b = absurd (cc)
      by (Some s) begun (x ∷ xs) b = shaken_serves n (is_spawner_full configs log n) h s (name_of x) x.item xs
      by (Some s) begun [] true = refl
      by (Some s) begun [] false = tt
  serves_first (sender n conn) runs = by (is_up log n) (live_half log n conn) runs
    where
      by : (up : Bool) (o : Option Half) → (up && has_half o) ≡ true → Serves (sender_serves configs log n conn o) (first_input configs log at (sender n conn))
      by false o runs = absurd (cc)
      by true None runs = absurd (cc)
      by true (Some half) runs = sender_first n conn half (is_begun log n conn) (is_running log n conn)
  serves_first (receiver n conn) runs = by (is_up log n) (live_half log n conn) runs
    where
      by : (up : Bool) (o : Option Half) → (up && has_half o) ≡ true
          → Serves (receiver_serves configs log n conn at o)
          (first_of (only_where (is_running log n conn) (held_inputs (is_admitted configs log n conn at) (queue.Held n conn) (line log (queue.Held n conn)) (link_inputs log o))))
      by false o runs = absurd (cc)
      by true None runs = absurd (cc)
      by true (Some half) runs = receiver_first n conn half (is_running log n conn)

-- ---- the law

-- a reply is gone or idle by whether an actor acts and what its first input is
by_first : (b : Bool) (serve : Input → Row) (o : Option Input) → (b ≡ true → Serves serve o)
    → (is_gone (cond b (by_input serve o) (only reply.Gone)).reply ≡ not b) × (is_idle (cond b (by_input serve o) (only reply.Gone)).reply ≡ (b && is_none o))
by_first false serve o served = (refl, refl)
by_first true serve None served = (refl, refl)
by_first true serve (Some i) served = of_reply (serve i).reply (served refl)
  where
    of_reply : (r : Reply) → is_still r ≡ false → (is_gone r ≡ false) × (is_idle r ≡ false)
    of_reply reply.Gone h = absurd (cc)
    of_reply reply.Idle h = absurd (cc)
    of_reply _ h = (refl, refl)

pub each_step_serves_first : (configs : List Config) (script : List Event) (log : List Entry) → IsLawful configs script log → EachStepServesFirst configs log
unfolding effect
each_step_serves_first configs script log lawful n e a there is =
    let before = take n log in
    let found = entry_due configs script log lawful n e there in
    let ev : Event = found.0 in
    subst (λ (d : Entry). ServesFirst configs before d a) (sym found.1)
    (let acting : actor_of ev.act ≡ Some a = ap (λ (d : Entry). actor_of d.event.act) (sym found.1) ∙ is in
    let made : row configs before ev.at ev.seed ev.act ≡ actor_row configs before ev.at ev.seed a = row-first configs before ev.at ev.seed ev.act a acting in
    let same : (row configs before ev.at ev.seed ev.act).reply ≡ (actor_row configs before ev.at ev.seed a).reply = ap (λ (r : Row). r.reply) made in
    let both =
    by_first (acts configs before a) (serves configs before ev.at ev.seed a) (first_input configs before ev.at a)
    (serves_first configs before (Told-each configs script log lawful n).standing.fitting ev.at ev.seed a)
    in
    record { made = ap (entry_of ev) made; gone = ap is_gone same ∙ both.0; idle = ap is_idle same ∙ both.1 })
