-- What an act puts for a handshake: no more than it takes, but for the step in which the handshake begins, and the end of its exchange.
use Rattle.std.proofs.Common.{◌≡◌, ℕ, ◌+◌, ◌≤◌, Bool, true, false, cond, List, [], ◌∷◌, length, Option, Some, None, ◌⊎◌, inl, inr, refl, ap, sym, subst, ◌∙◌, arith, eqb-true}
use Rattle.std.specs.Prelude.{◌==◌, ◌&&◌, ◌||◌, not, nat_le, nat_lt, count_by}
use Rattle.std.specs.List.{AllByRecursion as Each}
use Rattle.std.proofs.lemmas.Bool.Decides.{nat_tests}
use Rattle.p2p_log_rules.proofs.Bools.{and_false, or_false}
use Rattle.p2p_base.specs.declared.key.Key.{Key}
use Rattle.p2p_address.specs.declared.ip.IpAddr.{IpAddr}
use Rattle.p2p_tracker_calls.specs.declared.call.Call.{Call}
use Rattle.p2p_tracker_calls.specs.declared.call.Call.TheVariants as call
use Rattle.p2p_tracker_calls.specs.BlockedKeys.{due_keys}
use Rattle.p2p_tracker_calls.specs.DialList.{dialable_keys, query_again_at}
use Rattle.p2p_tracker_calls.specs.Rules.{Rules}
use Rattle.p2p_tracker_calls.specs.Gates.{Known, reply_to}
use Rattle.p2p_tracker_calls.specs.declared.gates.Reply.{Reply as GatesReply}
use Rattle.p2p_tracker_calls.specs.declared.gates.Reply.TheVariants as gates
use Rattle.p2p_log.specs.declared.config.Config.{Config}
use Rattle.p2p_log.specs.declared.queue.Queue.{Queue}
use Rattle.p2p_log.specs.declared.queue.Queue.TheVariants as queue
use Rattle.p2p_log.specs.declared.queue.Side.{Side}
use Rattle.p2p_log.specs.declared.queue.Side.TheVariants as side
use Rattle.p2p_log.specs.declared.item.Item.{Item}
use Rattle.p2p_log.specs.declared.item.Item.TheVariants as item
use Rattle.p2p_log.specs.declared.item.Envelope.{Envelope}
use Rattle.p2p_log.specs.declared.entry.Entry.{Entry}
use Rattle.p2p_log.specs.declared.entry.Reply.TheVariants as reply
use Rattle.p2p_log.specs.declared.asked.Asked.{Asked}
use Rattle.p2p_log.specs.declared.asked.Asked.TheVariants as ask
use Rattle.p2p_log.specs.declared.event.Act.{Act}
use Rattle.p2p_log.specs.declared.event.Act.TheVariants as act
use Rattle.p2p_log.specs.declared.event.Event.{Event}
use Rattle.p2p_log.specs.QueueCode.{same_queue}
use Rattle.p2p_log.specs.Lines.{name_of, line}
use Rattle.p2p_log.proofs.Each.{Each-weaker, count_by-none}
use Rattle.p2p_log.proofs.Queues.{same_queue-refl}
use Rattle.p2p_log_rules.specs.Connections.{is_ended}
use Rattle.p2p_log_rules.specs.declared.row.Row.{Row}
use Rattle.p2p_log_rules.specs.Attempting.{Attempt, dial_rules_at, attempts_of, resolved, given_up_row, resolved_row, handed_on_row, linked_row, attempt_took_row, attempt_turn, attempt_by, attempt_row}
use Rattle.p2p_log_rules.specs.Dialing.{Dials, dials_of, in_drawn_order, last_key, dial_puts, answer_taken_row, due_row, dialer_turn, dialer_row}
use Rattle.p2p_log_rules.specs.Dropping.{LinkEnd, dialing_end, arriving_end, dropping, attempt_step_row, listener_step_row}
use Rattle.p2p_log_rules.specs.Puts.{gave_up, turns_away}
use Rattle.p2p_log_rules.specs.Effect.{entry_of, row, send_step_row, recv_step_row}
use Rattle.p2p_base.specs.declared.outcome.Feedback.TheVariants as feedback
use Rattle.p2p_log_rules.specs.Facts.{is_up, is_stopped}
use Rattle.p2p_log_rules.specs.Handshakes.{is_handshaking, is_accepted, source_at, takes_acceptance}
use Rattle.p2p_log_rules.specs.Listening.{known_of, gate_rules_at, gates_puts, arrived_row, arrival_turn, listener_turn, has_place, listener_row}
use Rattle.p2p_log_rules.specs.Moves.{Moves}
use Rattle.p2p_log_rules.specs.Full.{is_full}
use Rattle.p2p_log_rules.specs.Rows.{only, is_spawner_full}
use Rattle.p2p_log_rules.specs.Tracking.{key_cmp, rules_at, asked_by, calls_of, update_subscriptions, blocked_subscriptions}
use Rattle.p2p_log_rules.specs.TrackerPuts as puts
use Rattle.p2p_log_rules.specs.TrackerPuts.{acceptance, listen_grant, handshake_puts, item_puts, heeded}
use Rattle.p2p_log_rules.specs.TrackerRows as rows
use Rattle.p2p_log_rules.proofs.HandshakeTook.{IsOther, takes_now, takes_none, takes_same}
use Rattle.p2p_log_rules.proofs.Moves.{one_taken}
use Rattle.p2p_log_rules.proofs.Touches.{away}
use Rattle.p2p_log_laws.proofs.Reaching.{Reach, writes}
use Rattle.p2p_log_laws.specs.Grants.{one}
use Rattle.p2p_log_laws.specs.NodeGrants.{put_of}
use Rattle.p2p_log_laws.specs.OneAnswer.{Words, tells, asks_about, is_for, ends_exchange}
use Rattle.p2p_log_laws.proofs.DropShape.{each_dropping}
use Rattle.p2p_log_laws.proofs.Dropped.{taken_same, taken-dropping}
use Rattle.p2p_log_laws.proofs.ListenerShape.{listener_shape}
use Rattle.p2p_log_laws.proofs.Shape.{Shape, no_moves}
use Rattle.p2p_log_laws.proofs.Shapes.{row_shape}
use Rattle.p2p_log_laws.proofs.HalfSteps.{released, each_step, send_is, receive_is}
use Rattle.p2p_log_laws.proofs.TrackerMoves.{served_moves, unblocked_moves}
use Rattle.p2p_log_laws.proofs.TrackerPuts.{EachKind, each_unblocked, each_asked, each_connected}
use Rattle.p2p_log_laws.proofs.Weighing.{weight, count_by-one}
use Rattle.p2p_log_laws.proofs.Heeded.{count_by-heeded}

or_true : (b c : Bool) → c ≡ true → (b || c) ≡ true
or_true true c h = refl
or_true false c h = h

either_order : (a b : Bool) → (a && b) ≡ (b && a)
either_order true true = refl
either_order true false = refl
either_order false true = refl
either_order false false = refl

few_put : (a b c d : ℕ) → a + 0 ≤ c → b ≡ 0 → d ≡ c → a + b ≤ d
few_put a b c d few none is = omega (arith, few, none, is)

at_most_one : (b : Bool) → one b ≤ 1
at_most_one true = omega arith
at_most_one false = omega arith

module _ (w : Words) (n name : ℕ) where
  -- it is no question about the handshake, and is not told to it
  abbrev pub Silent : Queue × Item → Type 0
  Silent x = is_for w n name x ≡ false

  pub silent_away : (q : Queue) (i : Item) → same_queue (queue.Tracker n) q ≡ false → same_queue (queue.Handshake n name) q ≡ false → Silent (q, i)
  silent_away q i t s =
      ap (λ b. (b && asks_about w n name i) || (same_queue (queue.Handshake n name) q && tells w i)) t ∙ ap (λ b. b && tells w i) s

  pub silent_item : (q : Queue) (i : Item) → asks_about w n name i ≡ false → same_queue (queue.Handshake n name) q ≡ false → Silent (q, i)
  silent_item q i a s =
      ap (λ b. (same_queue (queue.Tracker n) q && b) || (same_queue (queue.Handshake n name) q && tells w i)) a
      ∙ (ap (λ b. b || (same_queue (queue.Handshake n name) q && tells w i)) (and_false (same_queue (queue.Tracker n) q)) ∙ ap (λ b. b && tells w i) s)

  -- where its act changes neither queue
  pub silent_out_of_reach : (configs : List Config) (a : Act) (log : List Entry) (r : Row) (m : Moves log r) → Reach configs a log r m
      → writes configs log a (queue.Tracker n) ≡ false → writes configs log a (queue.Handshake n name) ≡ false → Each Silent r.puts
  silent_out_of_reach configs a log r m reach t s =
      Each-weaker (λ x. writes configs log a x.0 ≡ true) Silent
      (λ x k. silent_away x.0 x.1 (away (writes configs log a) (queue.Tracker n) x.0 t k) (away (writes configs log a) (queue.Handshake n name) x.0 s k)) r.puts reach.puts

  -- ---- what a row makes of it

  abbrev pub accepts_now : List Entry → Event → Row → Bool
  accepts_now log ev r = takes_now takes_acceptance log (entry_of ev r) n name

  -- it begins: its question is put
  pub record Begins (log : List Entry) (ev : Event) (r : Row) : Type 0 where
    pub named : name ≡ length log
    pub one_put : count_by (is_for w n name) r.puts ≤ one w.acceptance
    pub none_accepted : accepts_now log ev r ≡ false

  -- the exchange over its link ends: it is told, and of an exchange of keys where it was accepted
  pub record Ends (log : List Entry) (ev : Event) (r : Row) : Type 0 where
    pub ending : ends_exchange n name log ev.act r.reply ≡ true
    pub one_put : count_by (is_for w n name) r.puts ≤ one (not w.acceptance || is_accepted log n name)
    pub none_accepted : accepts_now log ev r ≡ false

  -- no more is put for it than is taken
  abbrev pub Few : (log : List Entry) (ev : Event) (r : Row) → Moves log r → Type 0
  Few log ev r m = count_by (is_for w n name) r.puts + one (w.acceptance && accepts_now log ev r) ≤ weight (is_for w n name) m.taken

  -- as of all acts but those in which it begins and in which the exchange over its link ends
  pub record Answers (log : List Entry) (ev : Event) (r : Row) : Type 0 where
    pub moves : Moves log r
    pub few : Few log ev r moves ⊎ (Begins log ev r ⊎ Ends log ev r)

  pub quiet : (log : List Entry) (ev : Event) (r : Row) → Moves log r → Each Silent r.puts → accepts_now log ev r ≡ false → Answers log ev r
  quiet log ev r m silent never = record {
    moves = m;
    few = inl (none (count_by (is_for w n name) r.puts) (one (w.acceptance && accepts_now log ev r)) (weight (is_for w n name) m.taken) (count_by-none (is_for w n name) r.puts silent)
        (ap (λ b. one (w.acceptance && b)) never ∙ ap one (and_false w.acceptance)));
  }
    where
      none : (a b c : ℕ) → a ≡ 0 → b ≡ 0 → a + b ≤ c
      none a b c is also = omega (arith, is, also)

  -- the same of a row that drops an end too
  pub dropped : (log : List Entry) (ev : Event) (r : Row) (o : Option LinkEnd) → Answers log ev r → Moves log (dropping log o r) → Answers log ev (dropping log o r)
  dropped log ev r None h d = h
  dropped log ev r (Some e) h d = record {
    moves = d;
    few = elim h.few [
      | inl few ↦ inl (kept (count_by (is_for w n name) r.puts) (one (w.acceptance && accepts_now log ev r)) (weight (is_for w n name) h.moves.taken)
          (one (w.acceptance && accepts_now log ev (dropping log (Some e) r))) (weight (is_for w n name) d.taken) few (ap (λ b. one (w.acceptance && b)) same)
          (taken_same log r (Some e) h.moves d (is_for w n name)))
      | inr other ↦ inr (elim other [
        | inl begins ↦ inl (record { named = begins.named; one_put = begins.one_put; none_accepted = same ∙ begins.none_accepted })
        | inr ends ↦ inr (record { ending = ends.ending; one_put = ends.one_put; none_accepted = same ∙ ends.none_accepted })
      ])
    ];
  }
    where
      kept : (a b c more also : ℕ) → a + b ≤ c → more ≡ b → also ≡ c → a + more ≤ also
      kept a b c more also le is same = omega (arith, le, is, same)

      same : accepts_now log ev (dropping log (Some e) r) ≡ accepts_now log ev r
      same = takes_same takes_acceptance log (entry_of ev (dropping log (Some e) r)) (entry_of ev r) n name refl (taken-dropping log ev (Some e) r)

  module _ (configs : List Config) (log : List Entry) (at seed : ℕ) where
    abbrev event : Act → Event
    event a = record { at = at; seed = seed; act = a }

    -- an act that is no step of it accepts nothing for it
    none_now : (a : Act) (r : Row) → IsOther n name a → accepts_now log (event a) r ≡ false
    none_now a r still = takes_none takes_acceptance log (entry_of (event a) r) n name still

    -- as one that puts nothing for it
    pub puts_none : (a : Act) (r : Row) → Shape configs log a r → Each Silent r.puts → IsOther n name a → Answers log (event a) r
    puts_none a r shape silent still = quiet log (event a) r shape.moves silent (none_now a r still)

    pub other : (a : Act) (r : Row) → Shape configs log a r → writes configs log a (queue.Tracker n) ≡ false → writes configs log a (queue.Handshake n name) ≡ false
        → IsOther n name a → Answers log (event a) r
    other a r shape t s still = puts_none a r shape (silent_out_of_reach configs a log r shape.moves shape.reach t s) still

    -- ---- what a sending half tells

    pub link_silent : (e : ℕ) (s : Side) (i : Item) → Silent (queue.Link e s, i)
    link_silent e side.Out i = silent_away (queue.Link e side.Out) i refl refl
    link_silent e side.In i = silent_away (queue.Link e side.In) i refl refl

    pub released_silent : (m : ℕ) (key : Key) → Each Silent (released m key)
    released_silent m key = (silent_away (queue.Router m) (item.Release key) refl refl, (silent_item (queue.Tracker m) (item.Release key) refl refl, tt))

    pub sender_silent : (conn m : ℕ) → Each Silent (send_step_row configs log conn m at).puts
    sender_silent conn m =
        each_step Silent log m conn (send_step_row configs log conn m at) (released_silent m)
        (send_is configs log conn m at Silent (λ key. silent_item (queue.Tracker m) (item.Connect conn key) refl refl) (λ key. silent_away (queue.Router m) (item.Ready conn key) refl refl) link_silent)

    -- and a receiving one
    pub receiver_silent : (conn m : ℕ) → Each Silent (recv_step_row configs log conn m at).puts
    receiver_silent conn m =
        each_step Silent log m conn (recv_step_row configs log conn m at) (released_silent m)
        (receive_is configs log conn m at Silent (λ i. silent_away (queue.Held m conn) i refl refl) (λ c i. silent_away (queue.Channel m c) i refl refl))

    -- ---- questions of an oracle, of a dialer and of an attempt

    asked_silent : (m : ℕ) → Each Silent (rows.asked_row configs log m).puts
    asked_silent m = by (is_stopped log m)
      where
        due : Row
        due = record {
          reply = reply.Feedback (rows.feedback_by (is_full configs log (queue.Tracker m)));
          takes = [];
          puts = (queue.Tracker m, item.Call (length log)) ∷ [];
          ends = [];
        }

        by : (b : Bool) → Each Silent (cond b (only (reply.Feedback feedback.Closed)) due).puts
        by true = tt
        by false = (silent_item (queue.Tracker m) (item.Call (length log)) refl refl, tt)

    pub ask_silent : (what : Asked) (m : ℕ) → Each Silent (rows.ask_row configs log m what).puts
    ask_silent (ask.Track index peers) m = by_size (nat_lt (rows.most_peers_at configs m) (rows.size_at configs m peers))
      where
        by_size : (b : Bool) → Each Silent (cond b (only (reply.PeerSetTooLarge (rows.size_at configs m peers) (rows.most_peers_at configs m))) (rows.asked_row configs log m)).puts
        by_size true = tt
        by_size false = asked_silent m
    ask_silent what m = asked_silent m

    dial_silent : (m : ℕ) (o : Option Key) → Each Silent (dial_puts m o)
    dial_silent m None = tt
    dial_silent m (Some k) = (silent_item (queue.Tracker m) (item.AskDial k) refl refl, tt)

    due_silent : (m : ℕ) (ks : List Key) → Each Silent (due_row m ks).puts
    due_silent m [] = (silent_item (queue.Tracker m) item.AskDialable refl refl, tt)
    due_silent m (k ∷ ks) = dial_silent m (last_key (k ∷ ks))

    answered_silent : (m : ℕ) (d : Dials) (took : ℕ × ℕ) (i : Item) → Each Silent (answer_taken_row m seed d took i).puts
    answered_silent m d took (item.Dialable next peers) = dial_silent m (last_key (in_drawn_order seed peers))
    answered_silent m d took (item.Dial None) = dial_silent m (last_key d.peers)
    answered_silent m d took (item.Dial (Some grant)) = tt
    answered_silent m d took _ = tt

    dialing_silent : (m : ℕ) (d : Dials) (xs : List Envelope) → Each Silent (dialer_turn m at seed d xs).puts
    dialing_silent m d [] = by (not d.is_asking && nat_le d.deadline at)
      where
        by : (b : Bool) → Each Silent (cond b (due_row m d.peers) (only reply.Idle)).puts
        by true = due_silent m d.peers
        by false = tt
    dialing_silent m d (x ∷ xs) = answered_silent m d (name_of x) x.item

    pub dialer_silent : (m : ℕ) → Each Silent (dialer_row configs log m at seed).puts
    dialer_silent m = by (is_up log m)
      where
        by : (b : Bool) → Each Silent (cond b (dialer_turn m at seed (dials_of configs log m) (line log (queue.Dialer m))) (only reply.Gone)).puts
        by true = dialing_silent m (dials_of configs log m) (line log (queue.Dialer m))
        by false = tt

    pub release_silent : (m : ℕ) (key : Key) → Each Silent ((queue.Tracker m, item.Release key) ∷ [])
    release_silent m key = (silent_item (queue.Tracker m) (item.Release key) refl refl, tt)

    resolved_silent : (m : ℕ) (o : Option Attempt) (key : Key) (took : ℕ × ℕ) (left : List Envelope) → Each Silent (resolved_row o m key took left).puts
    resolved_silent m None key took left = release_silent m key
    resolved_silent m (Some a) key took left = tt

    pub ready_silent : (m : ℕ) (full : Bool) (key : Key) (link : ℕ) (took : ℕ × ℕ) (left : List Envelope) → Each Silent (handed_on_row m full key link took left).puts
    ready_silent m true key link took left = release_silent m key
    ready_silent m false key link took left = (silent_away (queue.Spawner m) (item.Spawn key link) refl refl, tt)

    linked_silent : (m : ℕ) (full : Bool) (key : Key) (o : Option ℕ) (took : ℕ × ℕ) (left : List Envelope) → Each Silent (linked_row m full key o took left).puts
    linked_silent m full key None took left = release_silent m key
    linked_silent m full key (Some link) took left = ready_silent m full key link took left

    tried_silent : (m : ℕ) (full private : Bool) (a : Attempt) (took : ℕ × ℕ) (i : Item) (left : List Envelope) → Each Silent (attempt_took_row m full private seed a took i left).puts
    tried_silent m full private a took (item.Resolved addresses) left = resolved_silent m (resolved a.address private addresses seed a) a.key took left
    tried_silent m full private a took item.Linked left = tt
    tried_silent m full private a took (item.Finished true) left = linked_silent m full a.key a.answer took left
    tried_silent m full private a took (item.Finished false) left = release_silent m a.key
    tried_silent m full private a took _ left = release_silent m a.key

    trying_silent : (m : ℕ) (full private : Bool) (a : Attempt) (xs : List Envelope) → Each Silent (attempt_turn m at seed full private a xs).puts
    trying_silent m full private a [] = by (nat_le a.deadline at)
      where
        by : (b : Bool) → Each Silent (cond b (given_up_row m a.key [] []) (only reply.Idle)).puts
        by true = release_silent m a.key
        by false = tt
    trying_silent m full private a (x ∷ xs) = tried_silent m full private a (name_of x) x.item xs

    pub attempt_silent : (e m : ℕ) → Each Silent (attempt_step_row configs log e m at seed).puts
    attempt_silent e m =
        let r : Row = attempt_row configs log e m at seed in
        each_dropping Silent log (cond (gave_up r.puts) (dialing_end log m e) None) r (by (attempts_of configs log m e))
      where
        by : (o : Option Attempt) → Each Silent (attempt_by o m at seed (is_spawner_full configs log m) (dial_rules_at configs m).private (line log (queue.Attempt m e))).puts
        by None = tt
        by (Some a) = trying_silent m (is_spawner_full configs log m) (dial_rules_at configs m).private a (line log (queue.Attempt m e))

    -- ---- the tracker's step

    other_way : (m k : ℕ) → (m == k) ≡ false → (k == m) ≡ false
    other_way m k h = grind (arith, nat_tests)

    same_named : (m h k : ℕ) → same_queue (queue.Handshake m h) (queue.Handshake m k) ≡ (k == h)
    same_named m h k = grind (arith, nat_tests)

    kinds_silent : EachKind n Silent
    kinds_silent = record { kill = λ conn any. refl; update = λ e u. refl; blocked = λ e keys. refl; heard = λ ips. refl; answer = λ e o. refl }

    none_put : (xs : List (Queue × Item)) (b : Bool) → Each Silent xs → count_by (is_for w n name) xs + 0 ≤ one b
    none_put xs b silent = none (count_by (is_for w n name) xs) (one b) (count_by-none (is_for w n name) xs silent)
      where
        none : (a c : ℕ) → a ≡ 0 → a + 0 ≤ c
        none a c is = omega (arith, is)

    module _ (rules : Rules Key) (us bs : List ℕ) (calls : List (Call Key)) where
      -- an answer is told to the handshake that it is of
      answer_few : (k : ℕ) (told : IpAddr → Item) (b : Bool) → ((source : IpAddr) → tells w (told source) ≡ b) → (runs : Bool) (source : Option IpAddr)
          → count_by (is_for w n name) (handshake_puts rules n at us bs calls k told runs source) + 0 ≤ one (b && (k == name))
      answer_few k told b says true (Some source) =
          let x : Queue × Item = (queue.Handshake n k, told source) in
          same (count_by (is_for w n name) (x ∷ [])) (one (b && (k == name)))
          (count_by-one (is_for w n name) x
          ∙ ap one (ap (λ c. c && tells w (told source)) (same_named n name k) ∙ (ap (λ c. (k == name) && c) (says source) ∙ either_order (k == name) b)))
        where
          same : (a c : ℕ) → a ≡ c → a + 0 ≤ c
          same a c is = omega (arith, is)
      answer_few k told b says true None = none_put [] (b && (k == name)) tt
      answer_few k told b says false source = none_put [] (b && (k == name)) tt

      item_few : (i : Item) → count_by (is_for w n name) (item_puts rules n at us bs calls log i) + 0 ≤ one (asks_about w n name i)
      item_few (item.Call e) = none_put (item_puts rules n at us bs calls log (item.Call e)) false (each_asked n Silent kinds_silent rules at us bs calls e (asked_by log e))
      item_few (item.Connect conn k) = none_put (item_puts rules n at us bs calls log (item.Connect conn k)) false (each_connected n Silent kinds_silent rules at us bs calls conn k)
      item_few item.AskDialable =
          none_put (item_puts rules n at us bs calls log item.AskDialable) false
          (silent_away (queue.Dialer n) (item.Dialable (query_again_at key_cmp rules calls at) (dialable_keys key_cmp rules calls at)) refl refl, tt)
      item_few (item.AskDial k) =
          none_put (item_puts rules n at us bs calls log (item.AskDial k)) false (silent_away (queue.Dialer n) (item.Dial (puts.dial_grant rules n at us bs calls k)) refl refl, tt)
      item_few (item.AskAcceptable k key) = answer_few k (acceptance rules n at us bs calls key) w.acceptance (λ source. refl) (is_handshaking log n k) (source_at log k)
      item_few (item.AskListen k key) = answer_few k (listen_grant rules n at us bs calls key) true (λ source. refl) (is_handshaking log n k) (source_at log k)
      item_few _ = none_put [] false tt

      -- the oldest message is taken
      served : (x : Envelope) (rest : List Envelope) → line log (queue.Tracker n) ≡ x ∷ rest
          → Answers log (event (act.Tracker n)) (rows.tracker_told_row log (name_of x ∷ []) (heeded (is_ended log n) (item_puts rules n at us bs calls log x.item)))
      served x rest first =
          let all : List (Queue × Item) = item_puts rules n at us bs calls log x.item in
          let xs : List (Queue × Item) = heeded (is_ended log n) all in
          let r : Row = rows.tracker_told_row log (name_of x ∷ []) xs in
          let counted : count_by (is_for w n name) xs ≡ count_by (is_for w n name) all = count_by-heeded (is_ended log n) (is_for w n name) (λ m conn. refl) all in
          let stood : x.queue ≡ queue.Tracker n = one_taken log (queue.Tracker n) x rest first in
          let asked : is_for w n name (put_of x) ≡ asks_about w n name x.item =
          ap (λ q. (same_queue (queue.Tracker n) q && asks_about w n name x.item) || (same_queue (queue.Handshake n name) q && tells w x.item)) stood
          ∙ (ap (λ b. (b && asks_about w n name x.item) || false) (same_queue-refl (queue.Tracker n)) ∙ or_false (asks_about w n name x.item))
          in
          record {
            moves = served_moves log xs (queue.Tracker n) x rest first;
            few = inl (few_put (count_by (is_for w n name) xs) (one (w.acceptance && accepts_now log (event (act.Tracker n)) r)) (one (asks_about w n name x.item)) (weight (is_for w n name) (x ∷ []))
                (subst (λ c. c + 0 ≤ one (asks_about w n name x.item)) (sym counted) (item_few x.item))
                (ap (λ b. one (w.acceptance && b)) (none_now (act.Tracker n) r (λ so. cc)) ∙ ap one (and_false w.acceptance)) (count_by-one (λ y. is_for w n name (put_of y)) x ∙ ap one asked));
          }

      unblocked : Answers log (event (act.Tracker n)) (rows.tracker_told_row log [] (puts.unblocked_puts rules n at us bs calls (call.UnblockExpired at)))
      unblocked =
          let xs : List (Queue × Item) = puts.unblocked_puts rules n at us bs calls (call.UnblockExpired at) in
          quiet log (event (act.Tracker n)) (rows.tracker_told_row log [] xs) (unblocked_moves log xs) (each_unblocked n Silent kinds_silent rules at us bs calls (call.UnblockExpired at)) (none_now (act.Tracker n) (rows.tracker_told_row log [] xs) (λ so. cc))

    abbrev us : List ℕ
    us = update_subscriptions log n

    abbrev bs : List ℕ
    bs = blocked_subscriptions log n

    abbrev calls : List (Call Key)
    calls = calls_of configs log n

    oldest_answers : (xs : List Envelope) → line log (queue.Tracker n) ≡ xs → Answers log (event (act.Tracker n)) (rows.served_row configs log n at xs)
    oldest_answers [] first = quiet log (event (act.Tracker n)) (only reply.Idle) (no_moves log (only reply.Idle) refl refl) tt (none_now (act.Tracker n) (only reply.Idle) (λ so. cc))
    oldest_answers (x ∷ rest) first = served (rules_at configs n) us bs calls x rest first

    step_answers : Answers log (event (act.Tracker n)) (rows.tracker_step configs log n at)
    step_answers = by (puts.is_some_of (due_keys key_cmp (rules_at configs n) calls at))
      where
        by : (b : Bool) → Answers log (event (act.Tracker n))
            (cond b (rows.tracker_told_row log [] (puts.unblocked_puts (rules_at configs n) n at us bs calls (call.UnblockExpired at))) (rows.served_row configs log n at (line log (queue.Tracker n))))
        by true = unblocked (rules_at configs n) us bs calls
        by false = oldest_answers (line log (queue.Tracker n)) refl

    tracker_answers : Answers log (event (act.Tracker n)) (rows.tracker_row configs log n at)
    tracker_answers = by (is_up log n)
      where
        by : (b : Bool) → Answers log (event (act.Tracker n)) (cond b (rows.tracker_step configs log n at) (only reply.Gone))
        by true = step_answers
        by false = quiet log (event (act.Tracker n)) (only reply.Gone) (no_moves log (only reply.Gone) refl refl) tt (none_now (act.Tracker n) (only reply.Gone) (λ so. cc))

    pub tracker_at : (m : ℕ) (b : Bool) → (m == n) ≡ b → Answers log (event (act.Tracker m)) (row configs log at seed (act.Tracker m))
    unfolding row
    tracker_at m true same = subst (λ i. Answers log (event (act.Tracker i)) (rows.tracker_row configs log i at)) (sym (eqb-true m n same)) tracker_answers
    tracker_at m false differ =
        other (act.Tracker m) (rows.tracker_row configs log m at) (row_shape configs log at seed (act.Tracker m)) (other_way m n differ) (other_way m n differ) (λ so. cc)

    -- ---- the listener's

    -- it puts nothing, or the question for the handshake that begins
    abbrev pub Asks : ℕ → List (Queue × Item) → Type 0
    Asks m xs = (xs ≡ []) ⊎ ((key : Key) × (xs ≡ (queue.Tracker m, item.AskAcceptable (length log) key) ∷ []))

    gates_ask : (m : ℕ) (key : Key) (told : GatesReply) → Asks m (gates_puts m (length log) key told)
    gates_ask m key gates.Admitted = inr (key, refl)
    gates_ask m key _ = inl refl

    arrived_asks : (m : ℕ) (known : Known) (place : Bool) (took : ℕ × ℕ) (i : Item) → Asks m (arrived_row (gate_rules_at configs m) known place m (length log) at took i).puts
    arrived_asks m known place took (item.Arrival from key link) = gates_ask m key (reply_to (gate_rules_at configs m) known place from.ip at)
    arrived_asks m known place took _ = inl refl

    arrival_asks : (m : ℕ) (known : Known) (place : Bool) (xs : List Envelope) → Asks m (arrival_turn (gate_rules_at configs m) known place m (length log) at xs).puts
    arrival_asks m known place [] = inl refl
    arrival_asks m known place (x ∷ xs) = arrived_asks m known place (name_of x) x.item

    turn_asks : (m : ℕ) (known : Known) (place : Bool) (updates arrivals : List Envelope) → Asks m (listener_turn (gate_rules_at configs m) known place m (length log) at updates arrivals).puts
    turn_asks m known place [] arrivals = arrival_asks m known place arrivals
    turn_asks m known place (x ∷ xs) arrivals = inl refl

    row_asks : (m : ℕ) → Asks m (listener_row configs log m at).puts
    row_asks m = by (is_up log m)
      where
        by : (b : Bool) → Asks m (cond b (listener_turn (gate_rules_at configs m) (known_of configs log m) (has_place configs log m) m (length log) at (line log (queue.Addresses m)) (line log (queue.Arrivals m))) (only reply.Gone)).puts
        by true = turn_asks m (known_of configs log m) (has_place configs log m) (line log (queue.Addresses m)) (line log (queue.Arrivals m))
        by false = inl refl

    pub listener_asks : (m : ℕ) → Asks m (listener_step_row configs log m at).puts
    listener_asks m = let r : Row = listener_row configs log m at in through (cond (turns_away r.reply) (arriving_end log m) None) r (row_asks m)
      where
        through : (o : Option LinkEnd) (r : Row) → Asks m r.puts → Asks m (dropping log o r).puts
        through None r h = h
        through (Some cut) r h = h

    question_counts : (m : ℕ) (key : Key) → one (is_for w n name (queue.Tracker m, item.AskAcceptable (length log) key)) ≤ one w.acceptance
    question_counts m key = by (same_queue (queue.Tracker n) (queue.Tracker m)) w.acceptance (length log == name)
      where
        by : (a b c : Bool) → one ((a && (b && c)) || false) ≤ one b
        by true true true = omega arith
        by true true false = omega arith
        by true false c = omega arith
        by false b c = omega arith

    pub listening : (m : ℕ) → Asks m (listener_step_row configs log m at).puts → Answers log (event (act.Listener m)) (listener_step_row configs log m at)
    listening m (inl is) = puts_none (act.Listener m) (listener_step_row configs log m at) (listener_shape configs log m at) (subst (Each Silent) (sym is) tt) (λ so. cc)
    listening m (inr asked) = by_name (length log == name) refl
      where
        by_name : (b : Bool) → (length log == name) ≡ b → Answers log (event (act.Listener m)) (listener_step_row configs log m at)
        by_name true same =
            let question : Queue × Item = (queue.Tracker m, item.AskAcceptable (length log) asked.0) in
            record {
              moves = (listener_shape configs log m at).moves;
              few = inr (inl (record {
                named = sym (eqb-true (length log) name same);
                one_put = subst (λ xs. count_by (is_for w n name) xs ≤ one w.acceptance) (sym asked.1)
                    (subst (λ c. c ≤ one w.acceptance) (sym (count_by-one (is_for w n name) question)) (question_counts m asked.0));
                none_accepted = none_now (act.Listener m) (listener_step_row configs log m at) (λ so. cc);
              }));
            }
        by_name false differ =
            puts_none (act.Listener m) (listener_step_row configs log m at) (listener_shape configs log m at)
            (subst (Each Silent) (sym asked.1) (silent_item (queue.Tracker m) (item.AskAcceptable (length log) asked.0) (ap (λ b. w.acceptance && b) differ ∙ and_false w.acceptance) refl, tt)) (λ so. cc)
