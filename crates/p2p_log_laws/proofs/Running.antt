-- What waits for a handshake waits while it runs.
use Rattle.std.proofs.Common.{◌≡◌, ℕ, ◌+◌, Bool, true, false, cond, List, [], ◌∷◌, ◌++◌, map, take, length, Option, Some, None, ◌⊎◌, inl, inr, refl, ap, sym, subst, ◌∙◌, eqb-true}
use Rattle.std.specs.Prelude.{◌==◌, ◌&&◌, ◌||◌, not, filter, flat_map}
use Rattle.std.specs.Option.{option_map}
use Rattle.std.specs.List.{AllByRecursion as Each}
use Rattle.std.proofs.lemmas.Bool.{false≢true}
use Rattle.p2p_base.specs.declared.key.Key.{Key}
use Rattle.p2p_address.specs.declared.ip.IpAddr.{IpAddr}
use Rattle.p2p_tracker_calls.specs.declared.call.Call.{Call}
use Rattle.p2p_tracker_calls.specs.declared.call.Call.TheVariants as call
use Rattle.p2p_tracker_calls.specs.BlockedKeys.{due_keys}
use Rattle.p2p_tracker_calls.specs.Rules.{Rules}
use Rattle.p2p_log.specs.declared.config.Config.{Config}
use Rattle.p2p_log.specs.declared.queue.Queue.{Queue}
use Rattle.p2p_log.specs.declared.queue.Queue.TheVariants as queue
use Rattle.p2p_log.specs.declared.queue.Side.{Side}
use Rattle.p2p_log.specs.declared.queue.Side.TheVariants as side
use Rattle.p2p_log.specs.declared.item.Item.{Item}
use Rattle.p2p_log.specs.declared.item.Item.TheVariants as item
use Rattle.p2p_log.specs.declared.item.Envelope.{Envelope}
use Rattle.p2p_log.specs.declared.entry.Entry.{Entry}
use Rattle.p2p_log.specs.declared.entry.Reply.TheVariants as reply
use Rattle.p2p_log.specs.declared.event.Act.{Act}
use Rattle.p2p_log.specs.declared.event.Act.TheVariants as act
use Rattle.p2p_log.specs.declared.event.Event.{Event}
use Rattle.p2p_log.specs.Lines.{name_of, goes, placed, stays, stands_in, live_from, live, line}
use Rattle.p2p_log.specs.QueueCode.{same_queue}
use Rattle.p2p_log.proofs.Each.{Has, Has-after, Has-first, Has-flat_map, Has-kept, Each-append, Each-filter, Each-has, Each-from_has, Each-weaker}
use Rattle.p2p_log_rules.specs.declared.row.ListeningEnd.{ListeningEnd}
use Rattle.p2p_log_rules.specs.declared.row.ListeningEnd.TheVariants as listening
use Rattle.p2p_log_rules.specs.declared.row.Opening.{Opening}
use Rattle.p2p_log_rules.specs.declared.row.Row.{Row}
use Rattle.p2p_log_rules.specs.Attempting.{Attempt, attempts_of}
use Rattle.p2p_log_rules.specs.Connections.{is_ended}
use Rattle.p2p_log_rules.specs.Dropping.{handshake_step_row, listening_end}
use Rattle.p2p_log_rules.specs.Effect.{effect, entry_of, row, goes_to, send_step_row, recv_step_row}
use Rattle.p2p_log_rules.specs.Facts.{is_up, taken}
use Rattle.p2p_log_rules.specs.Connections.{half_at}
use Rattle.p2p_log_rules.specs.Stopping.{with_attempt, with_handshake, with_half, queues_at}
use Rattle.p2p_log_rules.specs.Told.{told as all_told, attempts_in, connections_in}
use Rattle.p2p_log_rules.specs.Handshakes.{ends_handshake, is_handshaking, is_finished, handshakes_of, Handshake, handshake_at, came_over, source_at}
use Rattle.p2p_log_rules.specs.Handshaking.{handshake_deadline, is_due, handshake_took_row, handshake_turn, handshake_row}
use Rattle.p2p_log_rules.specs.Cutting.{is_cut}
use Rattle.p2p_log_rules.specs.Links.{openings_of, listening_ends_of, dialing_puts, listening_puts, finished_row, verdict, finish_by, finish_row}
use Rattle.p2p_log_rules.specs.Puts.{broke_off}
use Rattle.p2p_log_rules.specs.Rows.{only, is_spawner_full}
use Rattle.p2p_log_rules.specs.TrackerPuts as puts
use Rattle.p2p_log_rules.specs.TrackerRows as rows
use Rattle.p2p_log_rules.specs.Tracking.{key_cmp, rules_at, asked_by, calls_of, update_subscriptions, blocked_subscriptions}
use Rattle.p2p_log.proofs.Lines.{live-append}
use Rattle.p2p_log.proofs.Queues.{same_queue-refl}
use Rattle.p2p_log_rules.proofs.HandshakeEnds.{ends_lead, among_more}
use Rattle.p2p_log_rules.proofs.Handshakes.{Ends, handshakes_now, is_among, among-without}
use Rattle.p2p_log_laws.proofs.HandshakeShape.{handshake_gone}
use Rattle.p2p_log_laws.proofs.StopLeaves.{stop_empties}
use Rattle.p2p_log_laws.proofs.DropShape.{each_dropping}
use Rattle.p2p_log_laws.proofs.Heeded.{Each-heeded}
use Rattle.p2p_log_laws.proofs.HalfSteps.{send_is, receive_is, IsStep}
use Rattle.p2p_log_laws.proofs.Reaching.{writes}
use Rattle.p2p_log_laws.proofs.Shapes.{row_shape}
use Rattle.p2p_log_laws.proofs.TrackerPuts.{EachKind, each_unblocked, each_asked, each_connected}

-- what is put for a handshake is put for one that runs
abbrev pub Runs : List Entry → Queue → Type 0
Runs log (queue.Handshake n h) = is_handshaking log n h ≡ true
Runs log _ = Unit {0}

abbrev pub PutRuns : List Entry → Queue × Item → Type 0
PutRuns log x = Runs log x.0

module _ (configs : List Config) (log : List Entry) (at seed : ℕ) where
  abbrev P : Queue × Item → Type 0
  P = PutRuns log

  -- ---- the tracker's step

  module _ (n : ℕ) where
    kinds : EachKind n P
    kinds = record { kill = λ conn any. tt; update = λ e u. tt; blocked = λ e keys. tt; heard = λ ips. tt; answer = λ e o. tt }

    module _ (rules : Rules Key) (us bs : List ℕ) (calls : List (Call Key)) where
      told : (h : ℕ) (i : IpAddr → Item) (runs : Bool) → is_handshaking log n h ≡ runs → (source : Option IpAddr) → Each P (puts.handshake_puts rules n at us bs calls h i runs source)
      told h i true is (Some source) = (is, tt)
      told h i true is None = tt
      told h i false is source = tt

      of_item : (i : Item) → Each P (puts.item_puts rules n at us bs calls log i)
      of_item (item.Call e) = each_asked n P kinds rules at us bs calls e (asked_by log e)
      of_item (item.Connect conn key) = each_connected n P kinds rules at us bs calls conn key
      of_item item.AskDialable = (tt, tt)
      of_item (item.AskDial key) = (tt, tt)
      of_item (item.AskAcceptable h key) = told h (puts.acceptance rules n at us bs calls key) (is_handshaking log n h) refl (source_at log h)
      of_item (item.AskListen h key) = told h (puts.listen_grant rules n at us bs calls key) (is_handshaking log n h) refl (source_at log h)
      of_item _ = tt

    oldest : (xs : List Envelope) → Each P (rows.served_row configs log n at xs).puts
    oldest [] = tt
    oldest (x ∷ rest) =
        Each-heeded (is_ended log n) P
        (puts.item_puts (rules_at configs n) n at (update_subscriptions log n) (blocked_subscriptions log n) (calls_of configs log n) log x.item)
        (of_item (rules_at configs n) (update_subscriptions log n) (blocked_subscriptions log n) (calls_of configs log n) x.item)

    tracker : Each P (rows.tracker_row configs log n at).puts
    tracker = by_up (is_up log n)
      where
        by_due : (b : Bool) → Each P (cond b
            (rows.tracker_told_row log [] (puts.unblocked_puts (rules_at configs n) n at (update_subscriptions log n) (blocked_subscriptions log n) (calls_of configs log n) (call.UnblockExpired at)))
            (rows.served_row configs log n at (line log (queue.Tracker n)))).puts
        by_due true = each_unblocked n P kinds (rules_at configs n) at (update_subscriptions log n) (blocked_subscriptions log n) (calls_of configs log n) (call.UnblockExpired at)
        by_due false = oldest (line log (queue.Tracker n))

        by_up : (b : Bool) → Each P (cond b (rows.tracker_step configs log n at) (only reply.Gone)).puts
        by_up true = by_due (puts.is_some_of (due_keys key_cmp (rules_at configs n) (calls_of configs log n) at))
        by_up false = tt

  -- ---- a handshake's step

  took : (n : ℕ) (full : Bool) (name : ℕ) (peer : Handshake) (first : ℕ × ℕ) (i : Item) (left : List Envelope) → Each P (handshake_took_row n full name peer first i left).puts
  took n full name peer first (item.Acceptable true) left = tt
  took n full name peer first (item.Finished true) left = (tt, tt)
  took n true name peer first (item.Listen (Some key)) left = (tt, tt)
  took n false name peer first (item.Listen (Some key)) left = (tt, tt)
  took n full name peer first (item.Listen None) left = tt
  took n full name peer first (item.Acceptable false) left = tt
  took n full name peer first (item.Finished false) left = tt
  took n full name peer first _ left = tt

  turn : (n : ℕ) (full due : Bool) (name : ℕ) (o : Option Handshake) (xs : List Envelope) → Each P (handshake_turn n full due name o xs).puts
  turn n full due name None xs = tt
  turn n full true name (Some peer) [] = tt
  turn n full false name (Some peer) [] = tt
  turn n full due name (Some peer) (x ∷ xs) = took n full name peer (name_of x) x.item xs

  shaken : (h n : ℕ) → Each P (handshake_step_row configs log h n at).puts
  shaken h n =
      let r : Row = handshake_row configs log h n at in
      each_dropping P log (cond (broke_off r.reply (map (λ x. x.item) (take 1 (line log (queue.Handshake n h)))) r.puts) (listening_end (came_over log h)) None) r (by (is_handshaking log n h))
    where
      by : (b : Bool) → Each P
          (cond b (handshake_turn n (is_spawner_full configs log n) (is_due (handshake_deadline configs log h n) at (is_finished log n h)) h (handshake_at log h) (line log (queue.Handshake n h))) (only reply.Gone)).puts
      by true = turn n (is_spawner_full configs log n) (is_due (handshake_deadline configs log h n) at (is_finished log n h)) h (handshake_at log h) (line log (queue.Handshake n h))
      by false = tt

  -- ---- the end of an exchange

  dialing : (n e : ℕ) (ok : Bool) (o : Option Attempt) → Each P (dialing_puts n e ok o)
  dialing n e ok None = tt
  dialing n e ok (Some a) = (tt, tt)

  listens : (n link : ℕ) (ok : Bool) (end : Option ListeningEnd) → listening_ends_of log n link ≡ end → Each P (listening_puts n ok end)
  listens n link ok (Some (listening.Handshake h)) is = ((ends_lead log n link h is).0, tt)
  listens n link ok (Some listening.Arriving) is = tt
  listens n link ok None is = tt

  finished : (o : Opening) (link : ℕ) (d : Option Attempt) (end : Option ListeningEnd) → listening_ends_of log o.to link ≡ end → (v : Option Bool) → Each P (finished_row o d end v).puts
  finished o link d end is None = tt
  finished o link d end is (Some ok) = Each-append P (dialing_puts o.node o.attempt ok d) (listening_puts o.to ok end) (dialing o.node o.attempt ok d) (listens o.to link ok end is)

  finishes : (link : ℕ) (ok : Bool) → Each P (finish_row configs log link ok).puts
  finishes link ok = by (openings_of log link)
    where
      RowRuns : Row → Type 0
      RowRuns r = Each P r.puts

      by : (p : Option Opening) → RowRuns
          (elim p [ None ↦ only reply.Gone | Some o ↦ finish_by configs log ok (is_cut log link) o (attempts_of configs log o.node o.attempt) (listening_ends_of log o.to link) ])
      by None = tt
      by (Some o) =
          let d : Option Attempt = attempts_of configs log o.node o.attempt in
          let end : Option ListeningEnd = listening_ends_of log o.to link in
          finished o link d end refl (verdict configs log ok o.to (is_cut log link) (option_map (λ (a : Attempt). a.key) d) end)

  -- ---- all acts

  away : (a : Act) → ((n h : ℕ) → writes configs log a (queue.Handshake n h) ≡ false) → Each P (row configs log at seed a).puts
  away a none =
      Each-weaker (λ x. writes configs log a x.0 ≡ true) P (λ x is. far x.0 is) (row configs log at seed a).puts (row_shape configs log at seed a).reach.puts
    where
      far : (q : Queue) → writes configs log a q ≡ true → Runs log q
      far (queue.Handshake n h) is = absurd (false≢true (sym (none n h) ∙ is))
      far _ is = tt

  half_puts : (conn n : ℕ) (r : Row) → IsStep P log n conn r → Each P r.puts
  half_puts conn n r (inl goes) = goes.1
  half_puts conn n r (inr last) = subst (Each P) (sym last.puts) (tt, (tt, tt))

  sends : (conn n : ℕ) → Each P (send_step_row configs log conn n at).puts
  sends conn n = half_puts conn n (send_step_row configs log conn n at) (send_is configs log conn n at P (λ key. tt) (λ key. tt) over_link)
    where
      over_link : (e : ℕ) (s : Side) (i : Item) → P (queue.Link e s, i)
      over_link e side.Out i = tt
      over_link e side.In i = tt

  receives : (conn n : ℕ) → Each P (recv_step_row configs log conn n at).puts
  receives conn n = half_puts conn n (recv_step_row configs log conn n at) (receive_is configs log conn n at P (λ i. tt) (λ c i. tt))

  pub puts_run : (a : Act) → Each P (row configs log at seed a).puts
  unfolding row
  puts_run (act.Tracker n) = tracker n
  puts_run (act.Handshake h n) = shaken h n
  puts_run (act.Finish link ok) = finishes link ok
  puts_run (act.SendStep conn n) = sends conn n
  puts_run (act.RecvStep conn n) = receives conn n
  puts_run a = away a (λ n h. refl)

-- ---- an entry more

abbrev pub StandRuns : List Entry → Envelope → Type 0
StandRuns log x = Runs log x.queue

-- no step of a handshake puts anything for one
none_told : (configs : List Config) (log : List Entry) (h n at : ℕ) → Each (λ x. goes_to (queue.Handshake n h) x ≡ false) (handshake_row configs log h n at).puts
none_told configs log h n at = by (is_handshaking log n h)
  where
    Aside : Row → Type 0
    Aside r = Each (λ x. goes_to (queue.Handshake n h) x ≡ false) r.puts

    by_item : (full : Bool) (peer : Handshake) (first : ℕ × ℕ) (i : Item) (left : List Envelope) → Aside (handshake_took_row n full h peer first i left)
    by_item full peer first (item.Acceptable true) left = tt
    by_item full peer first (item.Finished true) left = (refl, tt)
    by_item true peer first (item.Listen (Some key)) left = (refl, tt)
    by_item false peer first (item.Listen (Some key)) left = (refl, tt)
    by_item full peer first (item.Listen None) left = tt
    by_item full peer first (item.Acceptable false) left = tt
    by_item full peer first (item.Finished false) left = tt
    by_item full peer first _ left = tt

    by_turn : (full due : Bool) (o : Option Handshake) (xs : List Envelope) → Aside (handshake_turn n full due h o xs)
    by_turn full due None xs = tt
    by_turn full true (Some peer) [] = tt
    by_turn full false (Some peer) [] = tt
    by_turn full due (Some peer) (x ∷ xs) = by_item full peer (name_of x) x.item xs

    by : (b : Bool) → Aside
        (cond b (handshake_turn n (is_spawner_full configs log n) (is_due (handshake_deadline configs log h n) at (is_finished log n h)) h (handshake_at log h) (line log (queue.Handshake n h))) (only reply.Gone))
    by true = by_turn (is_spawner_full configs log n) (is_due (handshake_deadline configs log h n) at (is_finished log n h)) (handshake_at log h) (line log (queue.Handshake n h))
    by false = tt

module _ (configs : List Config) (log : List Entry) (ev : Event) where
  abbrev e : Entry
  e = effect configs log ev

  abbrev longer : List Entry
  longer = log ++ e ∷ []

  -- where a handshake ends, nothing waits for it any more
  ended_empty : (n : ℕ) (over : Ends log e n) → line longer (queue.Handshake n over.name) ≡ []
  unfolding effect row
  ended_empty n over =
      let r : Row = handshake_step_row configs log over.name n ev.at in
      let is : row configs log ev.at ev.seed ev.act ≡ r = ap (row configs log ev.at ev.seed) over.acts in
      subst (λ (s : Row). ends_handshake s.reply (taken log (entry_of ev s)) ≡ true → line (log ++ entry_of ev s ∷ []) (queue.Handshake n over.name) ≡ []) (sym is)
      (handshake_gone configs log over.name n ev.at ev (none_told configs log over.name n ev.at)) over.over

  -- one that runs runs on, unless nothing waits for it any more
  goes_on : (n h : ℕ) → is_handshaking log n h ≡ true → (is_handshaking longer n h ≡ true) ⊎ (line longer (queue.Handshake n h) ≡ [])
  goes_on n h runs = elim (handshakes_now log e n) [
    | inl same ↦ inl (ap (is_among h) same ∙ runs)
    | inr (inl begins) ↦ inl (ap (is_among h) begins.now ∙ among_more h (length log) (handshakes_of log n) runs)
    | inr (inr (inl over)) ↦ by over (h == over.name) refl
    | inr (inr (inr stops)) ↦ inr (stop_empties configs log ev n stops.stop (queue.Handshake n h) (in_order runs))
  ]
    where
      by : (over : Ends log e n) → (b : Bool) → (h == over.name) ≡ b → (is_handshaking longer n h ≡ true) ⊎ (line longer (queue.Handshake n h) ≡ [])
      by over true same = inr (ap (λ k. line longer (queue.Handshake n k)) (eqb-true h over.name same) ∙ ended_empty n over)
      by over false other = inl (ap (is_among h) over.now ∙ (among-without over.name h (handshakes_of log n) ∙ (ap (λ b. not b && is_among h (handshakes_of log n)) other ∙ runs)))

      found : (hs : List ℕ) → is_among h hs ≡ true → Has hs h
      found [] none = absurd (false≢true none)
      found (k ∷ ks) among = here (h == k) refl among (found ks)
        where
          here : (b : Bool) → (h == k) ≡ b → (b || is_among h ks) ≡ true → (is_among h ks ≡ true → Has ks h) → Has (k ∷ ks) h
          here true same among later = inl (sym (eqb-true h k same))
          here false other among later = inr (later among)

      in_order : is_handshaking log n h ≡ true → Has (queues_at log n) (queue.Handshake n h)
      in_order among =
          let attempts : List Queue = flat_map (with_attempt log n) (attempts_in (all_told log) n) in
          let handshakes : List Queue = flat_map (with_handshake log n) (handshakes_of log n) in
          let halves : List Queue = flat_map (λ conn. with_half n conn (half_at log n conn)) (connections_in (all_told log) n) in
          inr (inr (inr (inr (inr (inr
          (Has-after attempts (handshakes ++ halves) (queue.Handshake n h)
          (Has-first handshakes halves (queue.Handshake n h) (Has-flat_map (with_handshake log n) (handshakes_of log n) h (queue.Handshake n h) (found (handshakes_of log n) among) (inl refl)))))))))

  each_placed : (n p : ℕ) (xs : List (Queue × Item)) → Each (PutRuns log) xs → Each (StandRuns log) (placed n p xs)
  each_placed n p [] h = tt
  each_placed n p (x ∷ xs) h = (h.0, each_placed n (p + 1) xs h.1)

  -- what waits for a handshake then waits while it runs
  pub runs_more : Each (StandRuns log) (live log) → Each (StandRuns longer) (live longer)
  unfolding effect line
  runs_more all = Each-from_has (StandRuns longer) (live longer) (λ x has. on x.queue x has refl (Each-has (StandRuns log) (live longer) x before has))
    where
      before : Each (StandRuns log) (live longer)
      before =
          subst (Each (StandRuns log)) (sym (live-append log e))
          (Each-append (StandRuns log) (filter (stays (goes e)) (live log)) (placed (length log) 0 e.puts) (Each-filter (StandRuns log) (stays (goes e)) (live log) all)
          (each_placed (length log) 0 e.puts (puts_run configs log ev.at ev.seed ev.act)))

      on : (q : Queue) (x : Envelope) → Has (live longer) x → x.queue ≡ q → Runs log q → Runs longer q
      on (queue.Handshake n h) x has is runs = elim (goes_on n h runs) [
        | inl still ↦ still
        | inr none ↦ absurd (subst (λ l. Has l x) none (Has-kept (stands_in (queue.Handshake n h)) (live longer) x (ap (same_queue (queue.Handshake n h)) is ∙ same_queue-refl (queue.Handshake n h)) has))
      ]
      on _ x has is runs = tt

pub runs_none : Each (StandRuns []) (live [])
unfolding live_from
runs_none = tt
