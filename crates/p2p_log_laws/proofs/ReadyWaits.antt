-- What an entry does to the word that a connection is ready, until its router takes it, and then to the router's answer: a connection that
-- does not run puts the word where it begins, its router answers it, and it runs once it takes the answer.
use Rattle.std.proofs.Common.{◌≡◌, ℕ, ◌+◌, ◌≤◌, Bool, true, false, cond, List, [], ◌∷◌, ◌++◌, map, Option, Some, None, ◌⊎◌, inl, inr, refl, ap, sym, subst, ◌∙◌, arith, eqb-true}
use Rattle.std.specs.Prelude.{◌==◌, ◌&&◌, ◌||◌, count_by, flat_map}
use Rattle.std.specs.List.{list_any, AllByRecursion as Each}
use Rattle.std.proofs.lemmas.Bool.{and_parts, false≢true}
use Rattle.std.proofs.lemmas.List.Sums.{sum_by-cons}
use Rattle.p2p_base.specs.declared.key.Key.{Key}
use Rattle.p2p_log.specs.declared.config.Config.{Config}
use Rattle.p2p_log.specs.declared.queue.Queue.{Queue}
use Rattle.p2p_log.specs.declared.queue.Queue.TheVariants as queue
use Rattle.p2p_log.specs.declared.item.Item.{Item}
use Rattle.p2p_log.specs.declared.item.Item.TheVariants as item
use Rattle.p2p_log.specs.declared.item.Envelope.{Envelope}
use Rattle.p2p_log.specs.declared.end.Cause.TheVariants as cause
use Rattle.p2p_log.specs.declared.entry.Entry.{Entry}
use Rattle.p2p_log.specs.declared.entry.Reply.TheVariants as reply
use Rattle.p2p_log.specs.declared.event.Act.{Act}
use Rattle.p2p_log.specs.declared.event.Act.TheVariants as act
use Rattle.p2p_log.specs.declared.event.Event.{Event}
use Rattle.p2p_log.specs.Drained.{all_end, drained_with}
use Rattle.p2p_log.specs.Lines.{name_of, ended_item, live, line}
use Rattle.p2p_log.proofs.Each.{Each-always, Each-map}
use Rattle.p2p_log_rules.specs.declared.row.Half.{Half}
use Rattle.p2p_log_rules.specs.declared.row.Row.{Row}
use Rattle.p2p_log_rules.specs.Connections.{is_answer, is_done, runs, is_begun, is_running, is_ended, half_at, live_half}
use Rattle.p2p_log_rules.specs.Dropping.{dialing_end, arriving_end, listening_end}
use Rattle.p2p_log_rules.specs.Effect
use Rattle.p2p_log_rules.specs.Effect.{entry_of, row, Spread, spread, row_of_spread, peers_put, mailbox_size_at}
use Rattle.p2p_log_rules.specs.Facts
use Rattle.p2p_log_rules.specs.Facts.{is_up, is_stopped, keys_in, subscribers, taken, with_route}
use Rattle.p2p_log_rules.specs.Handshakes.{came_over}
use Rattle.p2p_log_rules.specs.Links.{openings_of}
use Rattle.p2p_log_rules.specs.Moves.{Moves}
use Rattle.p2p_log_rules.specs.Rows.{only, taken_row}
use Rattle.p2p_log_rules.specs.Stopping.{brought_by, queues_at, stop_row}
use Rattle.p2p_log_rules.specs.Tracking.{asked_by}
use Rattle.p2p_log_rules.proofs.Bools.{and_false}
use Rattle.p2p_log_rules.proofs.Channels.{IsStopOf}
use Rattle.p2p_log_rules.proofs.Connections.{steps_sender, sender_is, begins_is, runs_is, is_begun-append}
use Rattle.p2p_log_rules.proofs.Moves.{one_taken, rings, rings_in}
use Rattle.p2p_log_laws.specs.Grants.{one}
use Rattle.p2p_log_laws.specs.NodeGrants.{put_of}
use Rattle.p2p_log_laws.proofs.EndHeard.{at_router, names_ready, tells_ready, at_ready, puts_answer}
use Rattle.p2p_log_laws.proofs.EndShape.{both}
use Rattle.p2p_log_laws.proofs.Fitting.{is_item_end, ended_item-none}
use Rattle.p2p_log_laws.proofs.Reaching.{reads, ends_in}
use Rattle.p2p_log_laws.proofs.RouterShape.{left, ringed}
use Rattle.p2p_log_laws.proofs.Shape.{Shape, no_moves, one_move}
use Rattle.p2p_log_laws.proofs.Shapes.{row_shape}
use Rattle.p2p_log_laws.proofs.Sparing.{unnamed, Spares, spared_by, spared_all, none_ready, none_answers, flip, told_aside, flight_aside, ends_aside, connection_aside, stop_aside, EndsNoItem, start_spares, send_spares, send_checked_spares, IsOfWaiting, sender_waits, receiver_waits}
use Rattle.p2p_log_laws.proofs.Spreading.{spread_each}
use Rattle.p2p_log_laws.proofs.Weighing.{weight, count_by-one, taken_items}

at_most : (a b : ℕ) → a ≡ 0 → a ≤ b
at_most a b none = omega (arith, none)

module _ (n conn : ℕ) (log : List Entry) where
  -- an entry of this row ends neither untaken, answers the word where it takes that, and lets the connection run where it takes the answer
  pub record Hands (ev : Event) (r : Row) : Type 0 where
    pub moves : Moves log r
    pub spares : Spares n conn log r moves
    pub answers : weight (tells_ready n conn) moves.taken ≤ count_by (puts_answer n conn) r.puts
    pub answer_runs : weight (puts_answer n conn) moves.taken ≤ one (runs n conn log (entry_of ev r))

  -- one that takes neither
  passes_by : (configs : List Config) (ev : Event) (r : Row) (shape : Shape configs log ev.act r) → reads configs log ev.act (queue.Router n) ≡ false → reads configs log ev.act (queue.RouterAnswer n conn) ≡ false
      → Spares n conn log r shape.moves → Hands ev r
  passes_by configs ev r shape router answer spares = record {
    moves = shape.moves;
    spares = spares;
    answers =
        at_most (weight (tells_ready n conn) shape.moves.taken) (count_by (puts_answer n conn) r.puts)
        (none_ready n conn (reads configs log ev.act) router shape.moves.taken shape.reach.taken);
    answer_runs =
        at_most (weight (puts_answer n conn) shape.moves.taken) (one (runs n conn log (entry_of ev r)))
        (none_answers n conn (reads configs log ev.act) answer shape.moves.taken shape.reach.taken);
  }

  -- ---- the router's step

  -- whether a queue holds a list of peers
  abbrev is_list : Queue → Bool
  is_list (queue.Peers m c) = true
  is_list _ = false

  module _ (lives : is_ended log n conn ≡ false) (ev : Event) where
    router_rests : (r : Row) → r.takes ≡ [] → r.ends ≡ [] → Hands ev r
    router_rests r takes ends =
        let m : Moves log r = no_moves log r takes (ap (flat_map ended_item) ends) in
        record {
          moves = m;
          spares = spared_all n conn log r m (ap (flat_map ended_item) ends);
          answers = at_most 0 (count_by (puts_answer n conn) r.puts) refl;
          answer_runs = at_most 0 (one (runs n conn log (entry_of ev r))) refl;
        }

    module _ (configs : List Config) (m : ℕ) (x : Envelope) (rest : List Envelope) (first : line log (queue.Router m) ≡ x ∷ rest) where
      abbrev stood : x.queue ≡ queue.Router m
      stood = one_taken log (queue.Router m) x rest first

      -- it took this, and ended lists of peers at most
      routes_one : (r : Row) (moves : Moves log r) → moves.taken ≡ x ∷ [] → Each (λ y. is_list y.queue ≡ true) moves.ended
          → one ((m == n) && names_ready conn x.item) ≤ count_by (puts_answer n conn) r.puts → Hands ev r
      routes_one r moves took ended answered =
          let told : weight (tells_ready n conn) moves.taken ≡ one ((m == n) && names_ready conn x.item) =
          ap (weight (tells_ready n conn)) took ∙ (count_by-one (λ y. tells_ready n conn (put_of y)) x ∙ ap (λ q. one (at_router n q && names_ready conn x.item)) stood)
          in
          let answer : weight (puts_answer n conn) moves.taken ≡ 0 =
          ap (weight (puts_answer n conn)) took ∙ (count_by-one (λ y. puts_answer n conn (put_of y)) x ∙ ap (λ q. one (at_ready n conn q && is_answer x.item)) stood)
          in
          record {
            moves = moves;
            spares = spared_by n conn log r moves is_list refl refl ended;
            answers = subst (λ k. k ≤ count_by (puts_answer n conn) r.puts) (sym told) answered;
            answer_runs = at_most (weight (puts_answer n conn) moves.taken) (one (runs n conn log (entry_of ev r))) answer;
          }

      other_item : (i : Item) → x.item ≡ i → names_ready conn i ≡ false → (k : ℕ) → one ((m == n) && names_ready conn x.item) ≤ k
      other_item i is none k = at_most (one ((m == n) && names_ready conn x.item)) k (ap (λ j. one ((m == n) && names_ready conn j)) is ∙ (ap (λ b. one ((m == n) && b)) none ∙ ap one (and_false (m == n))))

      listed : (cs : List ℕ) → Each (λ y. is_list y.queue ≡ true) (rings (left configs log m x rest first) (map (queue.Peers m) cs))
      listed cs =
          rings_in (λ q. is_list q ≡ true) (left configs log m x rest first) (map (queue.Peers m) cs)
          (Each-map (λ q. is_list q ≡ true) (queue.Peers m) cs (Each-always (λ c. is_list (queue.Peers m c) ≡ true) (λ c. refl) cs))

      -- the word of a connection is answered, unless that has ended
      answered : (e : ℕ) (key : Key) → x.item ≡ item.Ready e key → (ended : Bool) → is_ended log m e ≡ ended → (lists : List (Queue × Item))
          → one ((m == n) && names_ready conn x.item) ≤ count_by (puts_answer n conn) (Effect.answer_puts ended m e ++ lists)
      answered e key is ended over lists = subst (λ i. one ((m == n) && names_ready conn i) ≤ count_by (puts_answer n conn) (Effect.answer_puts ended m e ++ lists)) (sym is) (by ended over)
        where
          never : is_ended log m e ≡ true → (b : Bool) → ((m == n) && (e == conn)) ≡ b → one b ≤ count_by (puts_answer n conn) lists
          never over false other = omega arith
          never over true same =
              let parts = and_parts (m == n) (e == conn) same in
              absurd (false≢true (sym lives ∙ (ap (λ k. is_ended log k conn) (sym (eqb-true m n parts.0)) ∙ (ap (λ k. is_ended log m k) (sym (eqb-true e conn parts.1)) ∙ over))))

          counted : (b : Bool) (all lists : ℕ) → all ≡ one (b && true) + lists → one b ≤ all
          counted true all lists sum = omega (arith, sum)
          counted false all lists sum = omega arith

          by : (b : Bool) → is_ended log m e ≡ b → one ((m == n) && (e == conn)) ≤ count_by (puts_answer n conn) (Effect.answer_puts b m e ++ lists)
          by true over = never over ((m == n) && (e == conn)) refl
          by false over =
              let answer : Queue × Item = (queue.RouterAnswer m e, item.RouterAnswer) in
              counted ((m == n) && (e == conn)) (count_by (puts_answer n conn) (answer ∷ lists)) (count_by (puts_answer n conn) lists) (sum_by-cons (λ y. one (puts_answer n conn y)) answer lists)

      routes : (i : Item) → x.item ≡ i → Hands ev (Effect.route_row configs log m (name_of x) i (left configs log m x rest first))
      routes (item.Subscribe c) is =
          let keys : List Key = keys_in (Facts.routes log m) in
          let puts : List (Queue × Item) = map (peers_put m keys) (c ∷ []) in
          routes_one (Effect.route_row configs log m (name_of x) (item.Subscribe c) (left configs log m x rest first)) (ringed configs log m x rest first puts (c ∷ [])) refl (listed (c ∷ []))
          (other_item (item.Subscribe c) is refl (count_by (puts_answer n conn) puts))
      routes (item.Ready e key) is =
          let lists : List (Queue × Item) = map (peers_put m (keys_in (with_route (Facts.routes log m) (item.Ready e key)))) (subscribers log m) in
          routes_one (Effect.ready_row log m (name_of x) e key (is_ended log m e) (left configs log m x rest first))
          (ringed configs log m x rest first (Effect.answer_puts (is_ended log m e) m e ++ lists) (subscribers log m)) refl (listed (subscribers log m))
          (answered e key is (is_ended log m e) refl lists)
      routes (item.Release key) is =
          let puts : List (Queue × Item) = map (peers_put m (keys_in (with_route (Facts.routes log m) (item.Release key)))) (subscribers log m) in
          routes_one (Effect.route_row configs log m (name_of x) (item.Release key) (left configs log m x rest first)) (ringed configs log m x rest first puts (subscribers log m)) refl (listed (subscribers log m))
          (other_item (item.Release key) is refl (count_by (puts_answer n conn) puts))
      routes (item.Content c frame priority send to) is =
          let items : List Envelope = left configs log m x rest first in
          let s : Spread = spread (mailbox_size_at configs m) items m priority (is_ended log m) (Facts.routes log m) send 0 frame to (record { puts = []; ends = [] }) in
          let none : flat_map ended_item s.ends ≡ [] =
          ended_item-none s.ends
          (spread_each (λ d. is_item_end d ≡ false) (λ y. Unit {0}) (mailbox_size_at configs m) items m priority (is_ended log m) (Facts.routes log m) send frame to (λ p o. refl) (λ p k c here route. tt)).0
          in
          routes_one (row_of_spread (name_of x) s) (one_move log (queue.Router m) x rest first (row_of_spread (name_of x) s) refl none) refl tt
          (other_item (item.Content c frame priority send to) is refl (count_by (puts_answer n conn) s.puts))
      routes i is = routes_one (taken_row (name_of x)) (one_move log (queue.Router m) x rest first (taken_row (name_of x)) refl refl) refl tt (other_item i is refl 0)

    router_hands : (configs : List Config) (m : ℕ) → Hands ev (Effect.router_row configs log m)
    router_hands configs m = by_up (is_up log m)
      where
        oldest : (xs : List Envelope) → line log (queue.Router m) ≡ xs → Hands ev (Effect.route_oldest configs log m xs)
        oldest [] none = router_rests (only reply.Idle) refl refl
        oldest (x ∷ rest) first = routes configs m x rest first x.item refl

        by_up : (b : Bool) → Hands ev (cond b (Effect.route_oldest configs log m (line log (queue.Router m))) (only reply.Gone))
        by_up true = oldest (line log (queue.Router m)) refl
        by_up false = router_rests (only reply.Gone) refl refl

  -- ---- the steps of its halves, while it does not run

  module _ (configs : List Config) (at seed : ℕ) where
    abbrev event : Act → Event
    event a = record { at = at; seed = seed; act = a }

    -- of what a half that waits takes
    waiting_hands : (a : Act) (r : Row) (shape : Shape configs log a r) → reads configs log a (queue.Router n) ≡ false → IsOfWaiting r
        → (reads configs log a (queue.RouterAnswer n conn) ≡ false) ⊎ (a ≡ act.SendStep conn n) → Hands (event a) r
    waiting_hands a r shape router w (inl answer) =
        passes_by configs (event a) r shape router answer (spared_all n conn log r shape.moves (ap (flat_map ended_item) w.ends))
    waiting_hands a r shape router w (inr steps) = record {
      moves = shape.moves;
      spares = spared_all n conn log r shape.moves (ap (flat_map ended_item) w.ends);
      answers =
          at_most (weight (tells_ready n conn) shape.moves.taken) (count_by (puts_answer n conn) r.puts)
          (none_ready n conn (reads configs log a) router shape.moves.taken shape.reach.taken);
      answer_runs = by w.takes;
    }
      where
        e : Entry
        e = entry_of (event a) r

        counted : (here any : Bool) → (here ≡ true → any ≡ true) → one here ≤ one any
        counted false any so = omega arith
        counted true any so = subst (λ b. 1 ≤ one b) (sym (so refl)) (omega arith)

        is_step : steps_sender n conn a ≡ true
        is_step = ap (steps_sender n conn) steps ∙ both n conn

        one_runs : (xs : List Envelope) (name : ℕ × ℕ) → map name_of xs ≡ name ∷ [] → weight (puts_answer n conn) xs ≤ one (list_any is_answer (map (λ x. x.item) xs))
        one_runs [] name h = absurd (cc)
        one_runs (x ∷ y ∷ xs) name h = absurd (cc)
        one_runs (x ∷ []) name h =
            subst (λ k. k ≤ one (is_answer x.item || false)) (sym (count_by-one (λ y. puts_answer n conn (put_of y)) x))
            (counted (puts_answer n conn (put_of x)) (is_answer x.item || false) (λ so. ap (λ b. b || false) (and_parts (at_ready n conn x.queue) (is_answer x.item) so).1))

        by : (r.takes ≡ []) ⊎ ((name : ℕ × ℕ) × (r.takes ≡ name ∷ []) × (is_done r.reply ≡ true)) → weight (puts_answer n conn) shape.moves.taken ≤ one (runs n conn log e)
        by (inl none) = at_most (weight (puts_answer n conn) shape.moves.taken) (one (runs n conn log e)) (ap (weight (puts_answer n conn)) (unnamed shape.moves.taken (sym shape.moves.names ∙ none)))
        by (inr (name, takes, done)) =
            let runs_now : runs n conn log e ≡ list_any is_answer (map (λ x. x.item) shape.moves.taken) =
            runs_is log e n conn
            ∙ (ap (λ b. b && list_any is_answer (taken log e)) (begins_is log e n conn ∙ (ap (λ b. b && is_done r.reply) is_step ∙ done))
            ∙ ap (list_any is_answer) (taken_items log (event a) r shape.moves))
            in
            subst (λ b. weight (puts_answer n conn) shape.moves.taken ≤ one b) (sym runs_now) (one_runs shape.moves.taken name (sym shape.moves.names ∙ takes))

    -- ---- each entry

    abbrev row_of : Act → Row
    row_of a = row configs log at seed a

    abbrev shape_of : (a : Act) → Shape configs log a (row_of a)
    shape_of a = row_shape configs log at seed a

    aside : (a : Act) → reads configs log a (queue.Router n) ≡ false → reads configs log a (queue.RouterAnswer n conn) ≡ false
        → (ends_in configs log a (queue.Router n) ≡ false) × (ends_in configs log a (queue.RouterAnswer n conn) ≡ false) → Hands (event a) (row_of a)
    aside a router answer ends =
        passes_by configs (event a) (row_of a) (shape_of a) router answer
        (spared_by n conn log (row_of a) (shape_of a).moves (ends_in configs log a) ends.0 ends.1 (shape_of a).reach.ended)

    -- one that ends no item
    lets_be : (a : Act) → reads configs log a (queue.Router n) ≡ false → reads configs log a (queue.RouterAnswer n conn) ≡ false → EndsNoItem (row_of a) → Hands (event a) (row_of a)
    lets_be a router answer none = passes_by configs (event a) (row_of a) (shape_of a) router answer (spared_all n conn log (row_of a) (shape_of a).moves none)

    module _ (lives : is_ended log n conn ≡ false) (waits : is_running log n conn ≡ false) where
      sender_hands : (c m : ℕ) → Hands (event (act.SendStep c m)) (row_of (act.SendStep c m))
      unfolding row
      sender_hands c m = by ((m == n) && (c == conn)) refl
        where
          by : (b : Bool) → ((m == n) && (c == conn)) ≡ b → Hands (event (act.SendStep c m)) (row_of (act.SendStep c m))
          by false other = aside (act.SendStep c m) refl (flip m n c conn other) (connection_aside (half_at log m c) m c n conn other)
          by true same =
              let is : act.SendStep c m ≡ act.SendStep conn n = sender_is n conn (act.SendStep c m) same in
              waiting_hands (act.SendStep c m) (row_of (act.SendStep c m)) (shape_of (act.SendStep c m)) refl
              (subst (λ a. IsOfWaiting (row_of a)) (sym is) (sender_waits configs log n conn at waits)) (inr is)

      receiver_hands : (c m : ℕ) → Hands (event (act.RecvStep c m)) (row_of (act.RecvStep c m))
      unfolding row
      receiver_hands c m = by ((m == n) && (c == conn)) refl
        where
          by : (b : Bool) → ((m == n) && (c == conn)) ≡ b → Hands (event (act.RecvStep c m)) (row_of (act.RecvStep c m))
          by false other = aside (act.RecvStep c m) refl refl (connection_aside (half_at log m c) m c n conn other)
          by true same =
              let parts = and_parts (m == n) (c == conn) same in
              let is : act.RecvStep c m ≡ act.RecvStep conn n = ap (λ k. act.RecvStep k m) (eqb-true c conn parts.1) ∙ ap (act.RecvStep conn) (eqb-true m n parts.0) in
              waiting_hands (act.RecvStep c m) (row_of (act.RecvStep c m)) (shape_of (act.RecvStep c m)) refl
              (subst (λ a. IsOfWaiting (row_of a)) (sym is) (receiver_waits configs log n conn at waits)) (inl refl)

      stop_hands : (by_start : Bool) (m : ℕ) → (IsStopOf log (entry_of (event (act.Stop by_start m)) (row_of (act.Stop by_start m))) n → ⊥) → Hands (event (act.Stop by_start m)) (row_of (act.Stop by_start m))
      unfolding row
      stop_hands by_start m goes = by (m == n) refl
        where
          a : Act
          a = act.Stop by_start m

          due : Row
          due = record { reply = reply.Ok; takes = []; puts = []; ends = all_end cause.NodeStopped (drained_with (brought_by log) (live log) (queues_at log m)) }

          again : m ≡ n → (b : Bool) → is_stopped log m ≡ b → EndsNoItem (stop_row log m)
          again same true over = ap (λ b. flat_map ended_item (cond b (only reply.Gone) due).ends) over
          again same false lasts = absurd (goes (record { by_start = by_start; acts = ap (act.Stop by_start) same; lasted = ap (is_stopped log) (sym same) ∙ lasts }))

          by : (b : Bool) → (m == n) ≡ b → Hands (event a) (row_of a)
          by false other = aside a refl refl (stop_aside log m n conn other)
          by true same = lets_be a refl refl (again (eqb-true m n same) (is_stopped log m) refl)

      pub each_hands : (a : Act) → (IsStopOf log (entry_of (event a) (row_of a)) n → ⊥) → Hands (event a) (row_of a)
      unfolding row
      each_hands (act.Router m) goes = router_hands lives (event (act.Router m)) configs m
      each_hands (act.SendStep c m) goes = sender_hands c m
      each_hands (act.RecvStep c m) goes = receiver_hands c m
      each_hands (act.Stop by_start m) goes = stop_hands by_start m goes
      each_hands (act.Start m) goes = lets_be (act.Start m) refl refl (start_spares configs log m)
      each_hands (act.Send bytes c m priority to) goes = lets_be (act.Send bytes c m priority to) refl refl (send_spares configs log bytes c m priority to at)
      each_hands (act.SendChecked bytes check priority) goes = lets_be (act.SendChecked bytes check priority) refl refl (send_checked_spares configs log bytes check priority)
      each_hands (act.Answer q) goes = aside (act.Answer q) (told_aside (asked_by log q) q n conn).0 (told_aside (asked_by log q) q n conn).1 (refl, refl)
      each_hands (act.Next q) goes = aside (act.Next q) (told_aside (asked_by log q) q n conn).0 (told_aside (asked_by log q) q n conn).1 (refl, refl)
      each_hands (act.Attempt e m) goes = aside (act.Attempt e m) refl refl (flight_aside (dialing_end log m e) n conn)
      each_hands (act.Handshake e m) goes = aside (act.Handshake e m) refl refl (flight_aside (listening_end (came_over log e)) n conn)
      each_hands (act.Listener m) goes = aside (act.Listener m) refl refl (flight_aside (arriving_end log m) n conn)
      each_hands (act.Finish link ok) goes = aside (act.Finish link ok) refl refl (ends_aside (openings_of log link) n conn)
      each_hands a goes = aside a refl refl (refl, refl)

  -- ---- a beginning

  -- where its sending half does something for the first time, it puts that it is ready
  abbrev PutsReady : Row → Type 0
  PutsReady r = is_done r.reply ≡ true → 1 ≤ count_by (tells_ready n conn) r.puts

  ready_put : (key : Key) → 1 ≤ count_by (tells_ready n conn) (Effect.begin_row n conn key).puts
  ready_put key =
      let tracker : Queue × Item = (queue.Tracker n, item.Connect conn key) in
      let router : Queue × Item = (queue.Router n, item.Ready conn key) in
      let first : count_by (tells_ready n conn) (tracker ∷ router ∷ []) ≡ 0 + count_by (tells_ready n conn) (router ∷ []) = sum_by-cons (λ x. one (tells_ready n conn x)) tracker (router ∷ []) in
      let second : count_by (tells_ready n conn) (router ∷ []) ≡ 1 = count_by-one (tells_ready n conn) router ∙ ap one (both n conn) in
      counted (count_by (tells_ready n conn) (tracker ∷ router ∷ [])) (count_by (tells_ready n conn) (router ∷ [])) first second
    where
      counted : (all rest : ℕ) → all ≡ 0 + rest → rest ≡ 1 → 1 ≤ all
      counted all rest sum is = omega (arith, sum, is)

  begins_ready : (configs : List Config) (at : ℕ) → is_begun log n conn ≡ false → PutsReady (Effect.send_step_row configs log conn n at)
  begins_ready configs at fresh = by_up (is_up log n)
    where
      by_half : (half : Half) (begun running : Bool) → begun ≡ false → PutsReady (Effect.half_row configs log n conn at half begun running)
      by_half half false running none = λ done. ready_put half.peer
      by_half half true running none = absurd (false≢true (sym none))

      by_sender : (o : Option Half) → PutsReady (Effect.sender_row configs log n conn at o)
      by_sender None = λ done. absurd (false≢true done)
      by_sender (Some half) = by_half half (is_begun log n conn) (is_running log n conn) fresh

      by_up : (b : Bool) → PutsReady (cond b (Effect.sender_row configs log n conn at (live_half log n conn)) (only reply.Gone))
      by_up true = by_sender (live_half log n conn)
      by_up false = λ done. absurd (false≢true done)

  -- so what has begun after an entry had begun before it, or that puts so
  pub begun_puts : (configs : List Config) (ev : Event) → let r : Row = row configs log ev.at ev.seed ev.act in one (is_begun (log ++ entry_of ev r ∷ []) n conn) ≤ one (is_begun log n conn) + count_by (tells_ready n conn) r.puts
  unfolding row
  begun_puts configs ev =
      let r : Row = row configs log ev.at ev.seed ev.act in
      subst (λ b. one b ≤ one (is_begun log n conn) + count_by (tells_ready n conn) r.puts) (sym (is_begun-append log (entry_of ev r) n conn ∙ ap (λ b. is_begun log n conn || b) (begins_is log (entry_of ev r) n conn)))
      (by (is_begun log n conn) (steps_sender n conn ev.act) (is_done r.reply) refl refl refl)
    where
      r : Row
      r = row configs log ev.at ev.seed ev.act

      least : (a b : ℕ) → 1 ≤ b → 1 ≤ a + b
      least a b some = omega (arith, some)

      by : (begun steps done : Bool) → is_begun log n conn ≡ begun → steps_sender n conn ev.act ≡ steps → is_done r.reply ≡ done → one (begun || (steps && done)) ≤ one begun + count_by (tells_ready n conn) r.puts
      by true steps done is acts says = omega arith
      by false false done is acts says = omega arith
      by false true false is acts says = omega arith
      by false true true is acts says =
          least 0 (count_by (tells_ready n conn) r.puts)
          (subst (λ a. PutsReady (row configs log ev.at ev.seed a)) (sym (sender_is n conn ev.act acts)) (begins_ready configs ev.at is) says)
