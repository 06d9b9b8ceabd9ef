-- What leaves a router's mailbox and its answer to a connection alone.
use Rattle.std.proofs.Common.{◌≡◌, ℕ, Bool, true, false, cond, List, [], ◌∷◌, map, Option, Some, None, ◌⊎◌, inl, inr, refl, ap, sym, subst, ◌∙◌, arith, eqb-true}
use Rattle.std.specs.Prelude.{◌==◌, ◌&&◌, ◌||◌, nat_lt, flat_map, length}
use Rattle.std.specs.List.{list_any, AllByRecursion as Each}
use Rattle.std.proofs.lemmas.Bool.{and_parts, false≢true}
use Rattle.std.proofs.lemmas.Bool.Decides.{nat_tests}
use Rattle.p2p_base.specs.declared.key.Key.{Key}
use Rattle.p2p_log.specs.declared.config.Config.{Config}
use Rattle.p2p_log.specs.declared.queue.Queue.{Queue}
use Rattle.p2p_log.specs.declared.queue.Queue.TheVariants as queue
use Rattle.p2p_log.specs.declared.queue.Side.{Side}
use Rattle.p2p_log.specs.declared.queue.Side.TheVariants as side
use Rattle.p2p_log.specs.declared.item.Item.{Item}
use Rattle.p2p_log.specs.declared.item.Item.TheVariants as item
use Rattle.p2p_log.specs.declared.item.Envelope.{Envelope}
use Rattle.p2p_log.specs.declared.asked.Asked.TheVariants as ask
use Rattle.p2p_log.specs.declared.end.Cause.TheVariants as cause
use Rattle.p2p_log.specs.declared.end.Outcome.TheVariants as outcome
use Rattle.p2p_log.specs.declared.entry.Entry.{Entry}
use Rattle.p2p_log.specs.declared.entry.Reply.{Reply}
use Rattle.p2p_log.specs.declared.entry.Reply.TheVariants as reply
use Rattle.p2p_log.specs.declared.event.Act.{Act}
use Rattle.p2p_log.specs.declared.event.Act.TheVariants as act
use Rattle.p2p_log.specs.declared.event.Recipients.{Recipients}
use Rattle.p2p_log.specs.Lines.{name_of, ended_item, line}
use Rattle.p2p_log.specs.QueueCode.{same_queue}
use Rattle.p2p_log.proofs.Each.{Each-weaker, count_by-none}
use Rattle.p2p_log_rules.specs.declared.row.Half.{Half}
use Rattle.p2p_log_rules.specs.declared.row.Opening.{Opening}
use Rattle.p2p_log_rules.specs.declared.row.Row.{Row}
use Rattle.p2p_log_rules.specs.Admitting.{offered, keys_admitted}
use Rattle.p2p_log_rules.specs.Checking.{Check, check_of}
use Rattle.p2p_log_rules.specs.Connections.{is_answer, is_done, is_begun, is_running, live_half}
use Rattle.p2p_log_rules.specs.Dropping.{LinkEnd, half_end}
use Rattle.p2p_log_rules.specs.Effect
use Rattle.p2p_log_rules.specs.Facts.{is_up, is_stopped, channels, capacity_in}
use Rattle.p2p_log_rules.specs.Frames.{frame_of}
use Rattle.p2p_log_rules.specs.Full.{is_full}
use Rattle.p2p_log_rules.specs.Moves.{Moves}
use Rattle.p2p_log_rules.specs.Rows.{only, takes_oldest}
use Rattle.p2p_log_rules.specs.Stopping.{emptied_at}
use Rattle.p2p_log_rules.proofs.Emptied.{each_emptied}
use Rattle.p2p_log_rules.proofs.Touches.{in_ends, is_told_to}
use Rattle.p2p_log_laws.specs.NodeGrants.{put_of}
use Rattle.p2p_log_laws.proofs.EndHeard.{names_ready, tells_ready, puts_answer}
use Rattle.p2p_log_laws.proofs.Reaching.{in_flight, in_connection}
use Rattle.p2p_log_laws.proofs.SendShapes.{copies_end_no_item}
use Rattle.p2p_log_laws.proofs.Weighing.{weight}

pub unnamed : (xs : List Envelope) → map name_of xs ≡ [] → xs ≡ []
unnamed [] h = refl
unnamed (x ∷ xs) h = absurd (cc)

-- ---- which items these are, by the queues in which they stood

module _ (n conn : ℕ) where
  -- none of these tells the router that the connection is ready, where none stood in its mailbox
  pub none_ready : (p : Queue → Bool) → p (queue.Router n) ≡ false → (xs : List Envelope) → Each (λ x. p x.queue ≡ true) xs → weight (tells_ready n conn) xs ≡ 0
  none_ready p aside xs each = count_by-none (λ x. tells_ready n conn (put_of x)) xs (Each-weaker (λ x. p x.queue ≡ true) (λ x. tells_ready n conn (put_of x) ≡ false) (λ x there. by x.queue x.item there) xs each)
    where
      by : (q : Queue) (i : Item) → p q ≡ true → tells_ready n conn (q, i) ≡ false
      by (queue.Router m) i there = named (m == n) refl
        where
          named : (b : Bool) → (m == n) ≡ b → (b && names_ready conn i) ≡ false
          named false other = refl
          named true same = absurd (false≢true (sym aside ∙ (ap (λ k. p (queue.Router k)) (sym (eqb-true m n same)) ∙ there)))
      by _ i there = refl

  -- and none is its answer, where none was among its answers
  pub none_answers : (p : Queue → Bool) → p (queue.RouterAnswer n conn) ≡ false → (xs : List Envelope) → Each (λ x. p x.queue ≡ true) xs → weight (puts_answer n conn) xs ≡ 0
  none_answers p aside xs each = count_by-none (λ x. puts_answer n conn (put_of x)) xs (Each-weaker (λ x. p x.queue ≡ true) (λ x. puts_answer n conn (put_of x) ≡ false) (λ x there. by x.queue x.item there) xs each)
    where
      by : (q : Queue) (i : Item) → p q ≡ true → puts_answer n conn (q, i) ≡ false
      by (queue.RouterAnswer m c) i there = named ((m == n) && (c == conn)) refl
        where
          named : (b : Bool) → ((m == n) && (c == conn)) ≡ b → (b && is_answer i) ≡ false
          named false other = refl
          named true same =
              let both = and_parts (m == n) (c == conn) same in
              absurd (false≢true (sym aside
              ∙ (ap (λ k. p (queue.RouterAnswer k conn)) (sym (eqb-true m n both.0)) ∙ (ap (λ k. p (queue.RouterAnswer m k)) (sym (eqb-true c conn both.1)) ∙ there))))
      by _ i there = refl

  -- what is ended leaves both alone
  pub record Spares (log : List Entry) (r : Row) (m : Moves log r) : Type 0 where
    pub ready : weight (tells_ready n conn) m.ended ≡ 0
    pub answer : weight (puts_answer n conn) m.ended ≡ 0

  pub spared_by : (log : List Entry) (r : Row) (m : Moves log r) (p : Queue → Bool) → p (queue.Router n) ≡ false → p (queue.RouterAnswer n conn) ≡ false → Each (λ x. p x.queue ≡ true) m.ended → Spares log r m
  spared_by log r m p router answer each = record { ready = none_ready p router m.ended each; answer = none_answers p answer m.ended each }

  -- as where no item is ended
  pub spared_all : (log : List Entry) (r : Row) (m : Moves log r) → flat_map ended_item r.ends ≡ [] → Spares log r m
  spared_all log r m none = spared_by log r m (λ q. false) refl refl (subst (Each (λ (x : Envelope). false ≡ true)) (sym (unnamed m.ended (sym m.gone ∙ none))) tt)

-- ---- queues that an act does not reach

pub flip : (m n c conn : ℕ) → ((m == n) && (c == conn)) ≡ false → ((n == m) && (conn == c)) ≡ false
flip m n c conn h = grind (arith, nat_tests)

pub told_aside : (o : Option Act) (e n conn : ℕ) → (is_told_to o e (queue.Router n) ≡ false) × (is_told_to o e (queue.RouterAnswer n conn) ≡ false)
told_aside (Some (act.Ask (ask.PeerSet index) m)) e n conn = (refl, refl)
told_aside (Some (act.Ask ask.Subscribe m)) e n conn = (refl, refl)
told_aside (Some (act.Ask ask.Blocked m)) e n conn = (refl, refl)
told_aside _ e n conn = (refl, refl)

pub flight_aside : (o : Option LinkEnd) (n conn : ℕ) → (in_flight o (queue.Router n) ≡ false) × (in_flight o (queue.RouterAnswer n conn) ≡ false)
flight_aside None n conn = (refl, refl)
flight_aside (Some (link, side.Out)) n conn = (refl, refl)
flight_aside (Some (link, side.In)) n conn = (refl, refl)

pub ends_aside : (o : Option Opening) (n conn : ℕ) → (in_ends o (queue.Router n) ≡ false) × (in_ends o (queue.RouterAnswer n conn) ≡ false)
ends_aside None n conn = (refl, refl)
ends_aside (Some o) n conn = (refl, refl)

-- what ends with another connection
pub connection_aside : (o : Option Half) (m c n conn : ℕ) → ((m == n) && (c == conn)) ≡ false → (in_connection o m c (queue.Router n) ≡ false) × (in_connection o m c (queue.RouterAnswer n conn) ≡ false)
connection_aside o m c n conn other = ((flight_aside (half_end o) n conn).0, flip m n c conn other)

-- what a stop of another node empties
pub stop_aside : (log : List Entry) (m n conn : ℕ) → (m == n) ≡ false
    → (list_any (λ p. same_queue p (queue.Router n)) (emptied_at log m) ≡ false) × (list_any (λ p. same_queue p (queue.RouterAnswer n conn)) (emptied_at log m) ≡ false)
stop_aside log m n conn other = (
  none (queue.Router n) (emptied_at log m) (each_emptied log m (λ p. same_queue p (queue.Router n) ≡ false) (record {
    router = ap (λ b. b && true) other;
    tracker = refl;
    spawner = refl;
    arrivals = refl;
    update = refl;
    dialer = refl;
    attempt = λ k. refl;
    handshake = λ h. refl;
    high = λ c. refl;
    low = λ c. refl;
    held = λ c. refl;
    control = λ c. refl;
    ready = λ c. refl;
    link = λ l s. (links l s).0;
  })),
  none (queue.RouterAnswer n conn) (emptied_at log m) (each_emptied log m (λ p. same_queue p (queue.RouterAnswer n conn) ≡ false) (record {
    router = refl;
    tracker = refl;
    spawner = refl;
    arrivals = refl;
    update = refl;
    dialer = refl;
    attempt = λ k. refl;
    handshake = λ h. refl;
    high = λ c. refl;
    low = λ c. refl;
    held = λ c. refl;
    control = λ c. refl;
    ready = λ c. ap (λ b. b && (c == conn)) other;
    link = λ l s. (links l s).1;
  })),
)
  where
    links : (l : ℕ) (s : Side) → (same_queue (queue.Link l s) (queue.Router n) ≡ false) × (same_queue (queue.Link l s) (queue.RouterAnswer n conn) ≡ false)
    links l side.Out = (refl, refl)
    links l side.In = (refl, refl)

    none : (q : Queue) (ps : List Queue) → Each (λ p. same_queue p q ≡ false) ps → list_any (λ p. same_queue p q) ps ≡ false
    none q [] h = refl
    none q (p ∷ ps) h = ap (λ b. b || list_any (λ p. same_queue p q) ps) h.0 ∙ none q ps h.1

-- ---- rows that end no item

abbrev pub EndsNoItem : Row → Type 0
EndsNoItem r = flat_map ended_item r.ends ≡ []

module _ (configs : List Config) (log : List Entry) where
  pub start_spares : (n : ℕ) → EndsNoItem (Effect.start_row configs log n)
  start_spares n = by (is_stopped log n)
    where
      due : Row
      due = record { reply = reply.Ok; takes = []; puts = map (λ (c : ℕ × ℕ). (queue.Router n, item.Subscribe c.0)) (channels configs log n); ends = [] }

      by : (b : Bool) → EndsNoItem (cond b (only reply.Gone) due)
      by true = refl
      by false = refl

  sent_spares : (accepted refused : Reply) (up full : Bool) (n send c : ℕ) (priority : Bool) (frame : List ℕ) (to : List Key) → EndsNoItem (Effect.sent_row accepted refused up full n send c priority frame to)
  sent_spares accepted refused false full n send c priority frame to = copies_end_no_item send 0 to (outcome.Dropped cause.Unbound)
  sent_spares accepted refused true true n send c priority frame to = refl
  sent_spares accepted refused true false n send c priority frame to = refl

  send_to_spares : (accepted refused closed : Reply) (bytes : List ℕ) (c n : ℕ) (priority : Bool) (keys : List Key) → EndsNoItem (Effect.send_to_row configs log accepted refused closed bytes c n priority keys)
  send_to_spares accepted refused closed bytes c n priority keys = by (nat_lt (Effect.limit_at configs n) (length bytes)) (is_stopped log n)
    where
      sent : Row
      sent = Effect.sent_row accepted refused (is_up log n) (is_full configs log (queue.Router n)) n (length log) c priority (frame_of c bytes) keys

      by : (large over : Bool) → EndsNoItem (Effect.fitting_row large (length bytes) (Effect.limit_at configs n) (cond over (only closed) sent))
      by true over = refl
      by false true = refl
      by false false = sent_spares accepted refused (is_up log n) (is_full configs log (queue.Router n)) n (length log) c priority (frame_of c bytes) keys

  pub send_spares : (bytes : List ℕ) (c n : ℕ) (priority : Bool) (to : Recipients) (at : ℕ) → EndsNoItem (Effect.send_row configs log bytes c n priority to at)
  send_spares bytes c n priority to at = by (capacity_in (channels configs log n) c)
    where
      admitted : (all keys : List Key) (r : Row) → EndsNoItem r → EndsNoItem (Effect.admitted_row all keys r)
      admitted [] keys r h = h
      admitted (k ∷ ks) [] r h = refl
      admitted (k ∷ ks) (j ∷ js) r h = h

      all : List Key
      all = offered log n c to

      keys : List Key
      keys = keys_admitted log n c at all

      by : (o : Option ℕ) → EndsNoItem (elim o as (λ (p : Option ℕ). Row) [
        | None ↦ only reply.Gone
        | Some _ ↦ Effect.taking (Effect.takes_list log n c to) (Effect.send_keys_row configs log bytes c n priority all keys)
      ])
      by None = refl
      by (Some capacity) =
          admitted all keys (Effect.send_to_row configs log (reply.Sent keys) (reply.Sent []) (reply.Sent []) bytes c n priority keys)
          (send_to_spares (reply.Sent keys) (reply.Sent []) (reply.Sent []) bytes c n priority keys)

  pub send_checked_spares : (bytes : List ℕ) (check : ℕ) (priority : Bool) → EndsNoItem (Effect.send_checked_row configs log bytes check priority)
  send_checked_spares bytes check priority = by (check_of log check)
    where
      by : (o : Option Check) → EndsNoItem (Effect.spent_row configs log bytes priority o)
      by None = refl
      by (Some c) = send_to_spares _ _ _ bytes c.channel c.node priority c.keys

-- ---- a step of a half that does not run

-- it ends nothing, and takes nothing, or one item, and then it is done
pub record IsOfWaiting (r : Row) : Type 0 where
  pub ends : r.ends ≡ []
  pub takes : (r.takes ≡ []) ⊎ ((name : ℕ × ℕ) × (r.takes ≡ name ∷ []) × (is_done r.reply ≡ true))

module _ (configs : List Config) (log : List Entry) (n conn at : ℕ) (waits : is_running log n conn ≡ false) where
  pub sender_waits : IsOfWaiting (Effect.send_step_row configs log conn n at)
  sender_waits = by_up (is_up log n)
    where
      oldest : (xs : List Envelope) → IsOfWaiting (takes_oldest xs)
      oldest [] = record { ends = refl; takes = inl refl }
      oldest (x ∷ xs) = record { ends = refl; takes = inr (name_of x, refl, refl) }

      by_half : (half : Half) (begun runs : Bool) → runs ≡ false → IsOfWaiting (Effect.half_row configs log n conn at half begun runs)
      by_half half false runs none = record { ends = refl; takes = inl refl }
      by_half half true false none = oldest (line log (queue.RouterAnswer n conn))
      by_half half true true none = absurd (false≢true (sym none))

      by_sender : (o : Option Half) → IsOfWaiting (Effect.sender_row configs log n conn at o)
      by_sender None = record { ends = refl; takes = inl refl }
      by_sender (Some half) = by_half half (is_begun log n conn) (is_running log n conn) waits

      by_up : (b : Bool) → IsOfWaiting (cond b (Effect.sender_row configs log n conn at (live_half log n conn)) (only reply.Gone))
      by_up true = by_sender (live_half log n conn)
      by_up false = record { ends = refl; takes = inl refl }

  pub receiver_waits : IsOfWaiting (Effect.recv_step_row configs log conn n at)
  receiver_waits = by_up (is_up log n)
    where
      by_half : (half : Half) (runs : Bool) → runs ≡ false → IsOfWaiting (cond runs (Effect.receiver_row configs log n conn at half) (only reply.Idle))
      by_half half false none = record { ends = refl; takes = inl refl }
      by_half half true none = absurd (false≢true (sym none))

      by_receiver : (o : Option Half) → IsOfWaiting (Effect.receiving_row configs log n conn at o)
      by_receiver None = record { ends = refl; takes = inl refl }
      by_receiver (Some half) = by_half half (is_running log n conn) waits

      by_up : (b : Bool) → IsOfWaiting (cond b (Effect.receiving_row configs log n conn at (live_half log n conn)) (only reply.Gone))
      by_up true = by_receiver (live_half log n conn)
      by_up false = record { ends = refl; takes = inl refl }
