-- The step of each actor is what it makes of its first input.
use Rattle.std.proofs.Common.{◌≡◌, ℕ, zero, suc, Bool, true, false, cond, List, [], ◌∷◌, ◌++◌, length, refl, ap, ◌∙◌, arith, Option, Some, None}
use Rattle.std.specs.Prelude.{◌&&◌, not, nat_le, nat_lt, take}
use Rattle.std.proofs.lemmas.Bool.Decides.{nat_tests}
use Rattle.std.proofs.lemmas.Option.{same_Some}
use Rattle.p2p_log.specs.declared.config.Config.{Config}
use Rattle.p2p_log.specs.declared.queue.Queue.TheVariants as queue
use Rattle.p2p_log.specs.declared.item.Item.{Item}
use Rattle.p2p_log.specs.declared.item.Item.TheVariants as item
use Rattle.p2p_log.specs.declared.item.Envelope.{Envelope}
use Rattle.p2p_log.specs.declared.end.Cause.TheVariants as cause
use Rattle.p2p_log.specs.declared.entry.Ended.TheVariants as ended
use Rattle.p2p_log.specs.declared.entry.Entry.{Entry}
use Rattle.p2p_log.specs.declared.entry.Reply.TheVariants as reply
use Rattle.p2p_log.specs.declared.event.Act.{Act}
use Rattle.p2p_log.specs.declared.event.Act.TheVariants as act
use Rattle.p2p_log.specs.Lines.{name_of, line}
use Rattle.p2p_log_rules.specs.declared.row.Half.{Half}
use Rattle.p2p_log_rules.specs.declared.row.Row.{Row}
use Rattle.p2p_log_rules.specs.Attempting.{Attempt, dial_rules_at, attempts_of, given_up_row, attempt_by, attempt_row}
use Rattle.p2p_log_rules.specs.Connections.{live_half, is_begun, is_running}
use Rattle.p2p_log_rules.specs.Dialing.{Dials, dials_of, due_row, dialer_turn, dialer_row}
use Rattle.p2p_log_rules.specs.Cutting.{is_broken}
use Rattle.p2p_log_rules.specs.Dropping.{LinkEnd, other_side, dropping, attempt_drops, attempt_step_row, handshake_drops, handshake_step_row, listener_drops, listener_step_row}
use Rattle.p2p_log_rules.specs.Effect.{route_oldest, router_row, batch_size_at, batch, written_row, half_row, sender_row, send_step_row, retry_row, held_row, receiving_row, recv_step_row, row}
use Rattle.p2p_log_rules.specs.Effect as effect
use Rattle.p2p_log_rules.specs.Ending.{end_row}
use Rattle.p2p_log_rules.specs.Facts.{channels, capacity_in, is_up}
use Rattle.p2p_log_rules.specs.First.{Actor, tracker, router, spawner, dialer, listener, attempt, handshake, sender, receiver, actor_of, Input, takes, due, begins, fault, first_of, ready, oldest_of, only_where, attempt_due, is_admitted, link_inputs, held_inputs, stands, has_half, acts, first_input, by_input, step_row}
use Rattle.p2p_log_rules.specs.Handshakes.{Handshake, handshake_at, came_over, is_handshaking, is_finished}
use Rattle.p2p_log_rules.specs.Handshaking.{handshake_deadline, is_due, handshake_turn, handshake_row}
use Rattle.p2p_log_rules.specs.Listening.{gate_rules_at, known_of, has_place, listener_turn, listener_row}
use Rattle.p2p_log_rules.specs.Metering.{messages, may_pass}
use Rattle.p2p_log_rules.specs.Pings.{ping_is_due}
use Rattle.p2p_log_rules.specs.Rows.{only, is_spawner_full, takes_oldest}
use Rattle.p2p_log_rules.proofs.HandshakeBegun.{handshaking_begun}
use Rattle.p2p_log_rules.specs.Serving.{tracker_serves, router_serves, spawner_serves, dialer_serves, listener_serves, attempt_serves, handshake_serves, sender_serves, receiver_serves, actor_row}
use Rattle.p2p_log_rules.specs.Spawning.{spawner_row}
use Rattle.p2p_log_rules.specs.TrackerPuts.{is_some_of, unblocked_puts}
use Rattle.p2p_log_rules.specs.TrackerRows.{tracker_told_row, served_row, tracker_row}
use Rattle.p2p_log_rules.specs.Tracking.{key_cmp, rules_at, calls_of, update_subscriptions, blocked_subscriptions}
use Rattle.p2p_tracker_calls.specs.BlockedKeys.{due_keys}
use Rattle.p2p_tracker_calls.specs.declared.call.Call.TheVariants as call

module _ (configs : List Config) (log : List Entry) (at seed n : ℕ) where
  pub tracker_row-first : tracker_row configs log n at ≡ actor_row configs log at seed (tracker n)
  tracker_row-first = by (is_up log n) (is_some_of (due_keys key_cmp (rules_at configs n) (calls_of configs log n) at)) (line log (queue.Tracker n))
    where
      by : (up blocks : Bool) (xs : List Envelope) → cond up
          (cond blocks
          (tracker_told_row log []
          (unblocked_puts (rules_at configs n) n at (update_subscriptions log n) (blocked_subscriptions log n) (calls_of configs log n) (call.UnblockExpired at)))
          (served_row configs log n at xs))
          (only reply.Gone)
          ≡ cond up (by_input (tracker_serves configs log n at) (first_of (ready blocks due ∷ oldest_of (queue.Tracker n) xs ∷ []))) (only reply.Gone)
      by false blocks xs = refl
      by true true xs = refl
      by true false [] = refl
      by true false (x ∷ xs) = refl

  pub router_row-first : router_row configs log n ≡ actor_row configs log at seed (router n)
  router_row-first = by (is_up log n) (line log (queue.Router n))
    where
      by : (up : Bool) (xs : List Envelope) → cond up (route_oldest configs log n xs) (only reply.Gone)
          ≡ cond up (by_input (router_serves configs log n) (first_of (oldest_of (queue.Router n) xs ∷ []))) (only reply.Gone)
      by false xs = refl
      by true [] = refl
      by true (x ∷ xs) = refl

  pub spawner_row-first : spawner_row log n ≡ actor_row configs log at seed (spawner n)
  spawner_row-first = by (is_up log n) (line log (queue.Spawner n))
    where
      by : (up : Bool) (xs : List Envelope) → cond up (takes_oldest xs) (only reply.Gone)
          ≡ cond up (by_input spawner_serves (first_of (oldest_of (queue.Spawner n) xs ∷ []))) (only reply.Gone)
      by false xs = refl
      by true [] = refl
      by true (x ∷ xs) = refl

  pub dialer_row-first : dialer_row configs log n at seed ≡ actor_row configs log at seed (dialer n)
  dialer_row-first = by (is_up log n) (dials_of configs log n) (line log (queue.Dialer n))
    where
      turn : (d : Dials) (b : Bool) → cond b (due_row n d.peers) (only reply.Idle) ≡ by_input (dialer_serves n seed d) (first_of (ready b due ∷ []))
      turn d true = refl
      turn d false = refl

      by : (up : Bool) (d : Dials) (xs : List Envelope) → cond up (dialer_turn n at seed d xs) (only reply.Gone)
          ≡ cond up (by_input (dialer_serves n seed d) (first_of (oldest_of (queue.Dialer n) xs ∷ ready (not d.is_asking && nat_le d.deadline at) due ∷ []))) (only reply.Gone)
      by false d xs = refl
      by true d [] = turn d (not d.is_asking && nat_le d.deadline at)
      by true d (x ∷ xs) = refl

  listener_turn-first : listener_row configs log n at ≡ step_row configs log at (listener n) (listener_serves configs log n at)
  listener_turn-first = by (is_up log n) (line log (queue.Addresses n)) (line log (queue.Arrivals n))
    where
      by : (up : Bool) (us xs : List Envelope)
          → cond up (listener_turn (gate_rules_at configs n) (known_of configs log n) (has_place configs log n) n (length log) at us xs) (only reply.Gone)
          ≡ cond up (by_input (listener_serves configs log n at) (first_of (oldest_of (queue.Addresses n) us ∷ oldest_of (queue.Arrivals n) xs ∷ []))) (only reply.Gone)
      by false us xs = refl
      by true [] [] = refl
      by true [] (x ∷ xs) = refl
      by true (u ∷ us) xs = refl

  attempt_turn-first : (k : ℕ) → attempt_row configs log k n at seed
      ≡ step_row configs log at (attempt n k) (attempt_serves n (is_spawner_full configs log n) (dial_rules_at configs n).private seed (attempts_of configs log n k))
  attempt_turn-first k = by (is_spawner_full configs log n) (dial_rules_at configs n).private (attempts_of configs log n k) (line log (queue.Attempt n k))
    where
      turn : (full private : Bool) (a : Attempt) (b : Bool)
          → cond b (given_up_row n a.key [] []) (only reply.Idle) ≡ by_input (attempt_serves n full private seed (Some a)) (first_of (ready b due ∷ []))
      turn full private a true = refl
      turn full private a false = refl

      by : (full private : Bool) (o : Option Attempt) (xs : List Envelope) → attempt_by o n at seed full private xs
          ≡ cond (stands o) (by_input (attempt_serves n full private seed o) (first_of (oldest_of (queue.Attempt n k) xs ∷ ready (attempt_due o at) due ∷ []))) (only reply.Gone)
      by full private None xs = refl
      by full private (Some a) [] = turn full private a (nat_le a.deadline at)
      by full private (Some a) (x ∷ xs) = refl

  handshake_turn-first : (h : ℕ) → handshake_row configs log h n at
      ≡ step_row configs log at (handshake n h) (handshake_serves n (is_spawner_full configs log n) h (handshake_at log h))
  handshake_turn-first h =
      by (is_spawner_full configs log n) (is_handshaking log n h) (is_due (handshake_deadline configs log h n) at (is_finished log n h)) (handshake_at log h) (line log (queue.Handshake n h))
      (handshaking_begun log n h)
    where
      -- one that runs has begun
      by : (full runs b : Bool) (o : Option Handshake) (xs : List Envelope) → (runs ≡ true → (s : Handshake) × (o ≡ Some s)) → cond runs (handshake_turn n full b h o xs) (only reply.Gone)
          ≡ cond runs (by_input (handshake_serves n full h o) (first_of (oldest_of (queue.Handshake n h) xs ∷ ready b due ∷ []))) (only reply.Gone)
      by full false b o xs begun = refl
      by full true b None xs begun = let t : None ≡ Some (begun refl).0 = (begun refl).1 in cc
      by full true true (Some s) [] begun = refl
      by full true false (Some s) [] begun = refl
      by full true b (Some s) (x ∷ xs) begun = refl

-- ---- with the end of a link of which a step lets go

-- a step that is gone or idle lets go of nothing
drops_first : (drops : Row → Row) → drops (only reply.Idle) ≡ only reply.Idle → drops (only reply.Gone) ≡ only reply.Gone → (b : Bool) (serve : Input → Row) (o : Option Input)
    → drops (cond b (by_input serve o) (only reply.Gone)) ≡ cond b (by_input (λ i. drops (serve i)) o) (only reply.Gone)
drops_first drops idle gone false serve o = gone
drops_first drops idle gone true serve None = idle
drops_first drops idle gone true serve (Some i) = refl

module _ (configs : List Config) (log : List Entry) (at seed n : ℕ) where
  pub listener_row-first : listener_step_row configs log n at ≡ actor_row configs log at seed (listener n)
  listener_row-first =
      ap (listener_drops log n) (listener_turn-first configs log at seed n)
      ∙ drops_first (listener_drops log n) refl refl (acts configs log (listener n)) (listener_serves configs log n at) (first_input configs log at (listener n))

  pub attempt_row-first : (k : ℕ) → attempt_step_row configs log k n at seed ≡ actor_row configs log at seed (attempt n k)
  attempt_row-first k =
      ap (attempt_drops log k n) (attempt_turn-first configs log at seed n k)
      ∙ drops_first (attempt_drops log k n) refl refl (acts configs log (attempt n k))
      (attempt_serves n (is_spawner_full configs log n) (dial_rules_at configs n).private seed (attempts_of configs log n k)) (first_input configs log at (attempt n k))

  pub handshake_row-first : (h : ℕ) → handshake_step_row configs log h n at ≡ actor_row configs log at seed (handshake n h)
  handshake_row-first h =
      let drops : Row → Row = handshake_drops log (came_over log h) (line log (queue.Handshake n h)) in
      ap drops (handshake_turn-first configs log at seed n h)
      ∙ drops_first drops refl refl (acts configs log (handshake n h)) (handshake_serves n (is_spawner_full configs log n) h (handshake_at log h)) (first_input configs log at (handshake n h))

-- ---- the halves of a connection

module _ (configs : List Config) (log : List Entry) (at seed n conn : ℕ) where
  -- of a size that takes none, a batch is empty
  none_fit : (size : ℕ) (xs : List Envelope) → nat_lt 0 size ≡ false → take size xs ≡ []
  none_fit size xs h = ap (λ k. take k xs) (zero_size size h)
    where
      zero_size : (k : ℕ) → nat_lt 0 k ≡ false → k ≡ 0
      zero_size k h = grind (arith, nat_tests)

  unwritten : (half : Half) (broken : Bool) → written_row log n conn half broken false [] ≡ only reply.Idle
  unwritten half true = refl
  unwritten half false = refl

  batches : (half : Half) (cs hs ls : List Envelope) → line log (queue.High n conn) ≡ hs → line log (queue.Low n conn) ≡ ls
      → effect.told_to_end_row log n conn half cs (nat_lt 0 (batch_size_at configs n))
      (written_row log n conn half (is_broken log half.link (other_side half.writes)) false (batch log n conn (batch_size_at configs n)))
      ≡ by_input (sender_serves configs log n conn (Some half))
      (first_of
      (None
      ∷ only_where (nat_lt 0 (batch_size_at configs n)) (oldest_of (queue.Control n conn) cs ∷ oldest_of (queue.High n conn) hs ∷ oldest_of (queue.Low n conn) ls ∷ [])))
  batches half cs hs ls high low = by (nat_lt 0 size) refl cs hs ls high low
    where
      size : ℕ
      size = batch_size_at configs n

      broken : Bool
      broken = is_broken log half.link (other_side half.writes)

      list_of : List Envelope → List Envelope
      list_of xs = xs

      all : Row
      all = written_row log n conn half broken false (batch log n conn size)

      nothing : take size (line log (queue.High n conn) ++ line log (queue.Low n conn)) ≡ [] → all ≡ only reply.Idle
      nothing none = ap (λ b. written_row log n conn half broken false b) none ∙ unwritten half broken

      take_none : (k : ℕ) → take k (list_of []) ≡ []
      take_none zero = refl
      take_none (suc k) = refl

      by : (room : Bool) → nat_lt 0 size ≡ room → (cs hs ls : List Envelope) → line log (queue.High n conn) ≡ hs → line log (queue.Low n conn) ≡ ls
          → effect.told_to_end_row log n conn half cs room all
          ≡ by_input (sender_serves configs log n conn (Some half))
          (first_of (None ∷ only_where room (oldest_of (queue.Control n conn) cs ∷ oldest_of (queue.High n conn) hs ∷ oldest_of (queue.Low n conn) ls ∷ [])))
      by true fits (x ∷ xs) hs ls high low = refl
      by true fits [] (x ∷ xs) ls high low = refl
      by true fits [] [] (x ∷ xs) high low = refl
      by true fits [] [] [] high low = nothing (ap (λ l. take size (l ++ line log (queue.Low n conn))) high ∙ (ap (take size) low ∙ take_none size))
      by false fits [] hs ls high low = nothing (none_fit size (line log (queue.High n conn) ++ line log (queue.Low n conn)) fits)
      by false fits (x ∷ xs) hs ls high low = nothing (none_fit size (line log (queue.High n conn) ++ line log (queue.Low n conn)) fits)

  runs : (half : Half) (pings : Bool) → effect.running_row configs log n conn half pings
      ≡ by_input (sender_serves configs log n conn (Some half))
      (first_of
      (ready pings due
      ∷ only_where (nat_lt 0 (batch_size_at configs n))
      (oldest_of (queue.Control n conn) (line log (queue.Control n conn))
      ∷ oldest_of (queue.High n conn) (line log (queue.High n conn))
      ∷ oldest_of (queue.Low n conn) (line log (queue.Low n conn))
      ∷ [])))
  runs half true = refl
  runs half false = batches half (line log (queue.Control n conn)) (line log (queue.High n conn)) (line log (queue.Low n conn)) refl refl

  pub sender_row-first : send_step_row configs log conn n at ≡ actor_row configs log at seed (sender n conn)
  sender_row-first = by (is_up log n) (live_half log n conn)
    where
      asked : Bool → Bool → List (Option Input)
      asked begun running =
          cond begun
          (cond running
          (ready (ping_is_due configs log n conn at) due
          ∷ only_where (nat_lt 0 (batch_size_at configs n))
          (oldest_of (queue.Control n conn) (line log (queue.Control n conn))
          ∷ oldest_of (queue.High n conn) (line log (queue.High n conn))
          ∷ oldest_of (queue.Low n conn) (line log (queue.Low n conn))
          ∷ []))
          (oldest_of (queue.RouterAnswer n conn) (line log (queue.RouterAnswer n conn)) ∷ []))
          (Some begins ∷ [])

      answered : (half : Half) (xs : List Envelope) → takes_oldest xs ≡ by_input (sender_serves configs log n conn (Some half)) (first_of (oldest_of (queue.RouterAnswer n conn) xs ∷ []))
      answered half [] = refl
      answered half (x ∷ xs) = refl

      of_half : (half : Half) (begun running : Bool) → half_row configs log n conn at half begun running
          ≡ by_input (sender_serves configs log n conn (Some half)) (first_of (asked begun running))
      of_half half false running = refl
      of_half half true false = answered half (line log (queue.RouterAnswer n conn))
      of_half half true true = runs half (ping_is_due configs log n conn at)

      by : (up : Bool) (o : Option Half) → cond up (sender_row configs log n conn at o) (only reply.Gone)
          ≡ cond (up && has_half o) (by_input (sender_serves configs log n conn o) (first_of (asked (is_begun log n conn) (is_running log n conn)))) (only reply.Gone)
      by true None = refl
      by false o = refl
      by true (Some half) = of_half half (is_begun log n conn) (is_running log n conn)

  -- what is held waits, where its quota does not admit it
  retry_refused : (half : Half) (name : ℕ × ℕ) (i : Item) → is_admitted configs log n conn at i ≡ false → retry_row configs log n conn at half name i ≡ only reply.Idle
  retry_refused half name (item.Held c bytes copy) h = by (capacity_in (channels configs log n) c) (may_pass configs log n conn at (messages c)) h
    where
      by : (o : Option ℕ) (b : Bool) → (elim o [ None ↦ false | Some capacity ↦ b ]) ≡ false
          → elim o [
            | None ↦ only reply.Idle
            | Some capacity ↦ cond b (effect.deliver_row log n name half.peer copy (c, bytes) capacity) (only reply.Idle)
          ] ≡ only reply.Idle
      by None b h = refl
      by (Some capacity) true h = cc
      by (Some capacity) false h = refl
  retry_refused half name item.Ping h = ap (λ b. cond b (effect.taken_row name) (only reply.Idle)) h
  retry_refused half name _ h = refl

  pub receiver_row-first : recv_step_row configs log conn n at ≡ actor_row configs log at seed (receiver n conn)
  receiver_row-first = by (is_up log n) (live_half log n conn)
    where
      asked : Option Half → Bool → List (Option Input)
      asked o running =
          only_where running (held_inputs (is_admitted configs log n conn at) (queue.Held n conn) (line log (queue.Held n conn)) (link_inputs log o))

      held : (half : Half) (x : Envelope) (rest : List Envelope) (b : Bool) → is_admitted configs log n conn at x.item ≡ b
          → retry_row configs log n conn at half (name_of x) x.item
          ≡ by_input (receiver_serves configs log n conn at (Some half)) (first_of (ready b (takes (queue.Held n conn) x rest) ∷ []))
      held half x rest true is = refl
      held half x rest false is = retry_refused half (name_of x) x.item is

      received : Half → List Envelope → Bool → Row
      received half [] broken = cond broken (end_row log n conn half ended.ReceiveFailed cause.ConnectionEnded []) (only reply.Idle)
      received half (x ∷ fs) broken = effect.frame_row configs log n conn at half x x.item

      over : (half : Half) (fs : List Envelope) (broken : Bool) → received half fs broken
          ≡ by_input (receiver_serves configs log n conn at (Some half)) (first_of (oldest_of (queue.Link half.link (other_side half.writes)) fs ∷ ready broken fault ∷ []))
      over half [] true = refl
      over half [] false = refl
      over half (x ∷ fs) broken = refl

      of_lines : (half : Half) (hs fs : List Envelope) → held_row configs log n conn at half hs fs
          ≡ by_input (receiver_serves configs log n conn at (Some half))
          (first_of
          (held_inputs (is_admitted configs log n conn at) (queue.Held n conn) hs
          (oldest_of (queue.Link half.link (other_side half.writes)) fs ∷ ready (is_broken log half.link (other_side half.writes)) fault ∷ [])))
      of_lines half [] [] = over half [] (is_broken log half.link (other_side half.writes))
      of_lines half [] (x ∷ fs) = over half (x ∷ fs) (is_broken log half.link (other_side half.writes))
      of_lines half (x ∷ rest) fs = held half x rest (is_admitted configs log n conn at x.item) refl

      runs_on : (half : Half) (running : Bool) → cond running (effect.receiver_row configs log n conn at half) (only reply.Idle)
          ≡ by_input (receiver_serves configs log n conn at (Some half)) (first_of (asked (Some half) running))
      runs_on half false = refl
      runs_on half true = of_lines half (line log (queue.Held n conn)) (line log (queue.Link half.link (other_side half.writes)))

      by : (up : Bool) (o : Option Half) → cond up (receiving_row configs log n conn at o) (only reply.Gone)
          ≡ cond (up && has_half o) (by_input (receiver_serves configs log n conn at o) (first_of (asked o (is_running log n conn)))) (only reply.Gone)
      by true None = refl
      by false o = refl
      by true (Some half) = runs_on half (is_running log n conn)

-- ---- all of them

pub dropping-reply : (log : List Entry) (o : Option LinkEnd) (r : Row) → (dropping log o r).reply ≡ r.reply
dropping-reply log None r = refl
dropping-reply log (Some e) r = refl

-- the row of an actor's step is what it makes of its first input
pub row-first : (configs : List Config) (log : List Entry) (at seed : ℕ) (a : Act) (x : Actor) → actor_of a ≡ Some x → row configs log at seed a ≡ actor_row configs log at seed x
unfolding row
row-first configs log at seed a x is = by a is
  where
    of : (y : Actor) → Some y ≡ Some x → actor_row configs log at seed y ≡ actor_row configs log at seed x
    of y same = ap (actor_row configs log at seed) (same_Some y x same)

    by : (a : Act) → actor_of a ≡ Some x → row configs log at seed a ≡ actor_row configs log at seed x
    by (act.Tracker n) h = tracker_row-first configs log at seed n ∙ of (tracker n) h
    by (act.Router n) h = router_row-first configs log at seed n ∙ of (router n) h
    by (act.Spawner n) h = spawner_row-first configs log at seed n ∙ of (spawner n) h
    by (act.Dialer n) h = dialer_row-first configs log at seed n ∙ of (dialer n) h
    by (act.Listener n) h = listener_row-first configs log at seed n ∙ of (listener n) h
    by (act.Attempt k n) h = attempt_row-first configs log at seed n k ∙ of (attempt n k) h
    by (act.Handshake k n) h = handshake_row-first configs log at seed n k ∙ of (handshake n k) h
    by (act.SendStep conn n) h = sender_row-first configs log at seed n conn ∙ of (sender n conn) h
    by (act.RecvStep conn n) h = receiver_row-first configs log at seed n conn ∙ of (receiver n conn) h
    by _ h = absurd (cc)
