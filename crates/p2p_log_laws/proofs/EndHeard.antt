-- Once a connection runs, its router has heard that it begins: no word of that waits.
use Rattle.std.proofs.Common.{◌≡◌, ℕ, ◌+◌, ◌≤◌, Bool, true, false, cond, List, [], ◌∷◌, ◌++◌, map, Option, Some, None, inl, inr, refl, ap, sym, subst, ◌∙◌, arith, eq-eqb, eqb-true}
use Rattle.std.specs.Prelude.{◌==◌, ◌&&◌, ◌||◌, nat_lt, count_by, filter}
use Rattle.std.specs.List.{AllByRecursion as Each, list_any}
use Rattle.std.proofs.lemmas.Bool.{and_parts, false≢true}
use Rattle.std.proofs.lemmas.List.Sums.{sum_by-cons}
use Rattle.p2p_log_rules.proofs.Bools.{and_false}
use Rattle.p2p_base.specs.declared.key.Key.{Key}
use Rattle.p2p_log.specs.declared.config.Config.{Config}
use Rattle.p2p_log.specs.declared.queue.Queue.{Queue}
use Rattle.p2p_log.specs.declared.queue.Queue.TheVariants as queue
use Rattle.p2p_log.specs.declared.item.Item.{Item}
use Rattle.p2p_log.specs.declared.item.Item.TheVariants as item
use Rattle.p2p_log.specs.declared.item.Envelope.{Envelope}
use Rattle.p2p_log.specs.declared.end.Cause.{Cause}
use Rattle.p2p_log.specs.declared.end.Cause.TheVariants as cause
use Rattle.p2p_log.specs.declared.entry.Ended.{Ended}
use Rattle.p2p_log.specs.declared.entry.Ended.TheVariants as ended
use Rattle.p2p_log.specs.declared.entry.Entry.{Entry}
use Rattle.p2p_log.specs.declared.entry.Reply.{Reply}
use Rattle.p2p_log.specs.declared.entry.Reply.TheVariants as reply
use Rattle.p2p_log.specs.declared.event.Act.{Act}
use Rattle.p2p_log.specs.declared.event.Act.TheVariants as act
use Rattle.p2p_log.specs.declared.event.Event.{Event}
use Rattle.p2p_log.specs.Lines.{name_of, stays, live_from, live, stands_in, line}
use Rattle.p2p_log.proofs.Each.{Each-has, Each-from_has, Each-weaker, Has-of_kept, count_by-none}
use Rattle.p2p_log.proofs.QueueNames.{Each-in_queue, queue_from_same}
use Rattle.p2p_log.proofs.Taken.{Each-taken}
use Rattle.p2p_log_rules.specs.declared.row.Half.{Half}
use Rattle.p2p_log_rules.specs.declared.row.Opening.{Opening}
use Rattle.p2p_log_rules.specs.declared.row.Row.{Row}
use Rattle.p2p_log_rules.specs.Connections.{live_half, is_done, is_answer, begins_connection, runs, is_begun, has_run, is_running, is_ended}
use Rattle.p2p_log_rules.specs.Cutting.{is_broken}
use Rattle.p2p_log_rules.specs.Dropping.{other_side}
use Rattle.p2p_log_rules.specs.Effect
use Rattle.p2p_log_rules.specs.Effect.{effect, row, entry_of, Spread, spread, row_of_spread, peers_put, mailbox_size_at}
use Rattle.p2p_log_rules.specs.Ending.{end_row}
use Rattle.p2p_log_rules.specs.Facts.{is_up, state_from, taken, keys_in, subscribers, with_route, routes}
use Rattle.p2p_log_rules.specs.Told.{told}
use Rattle.p2p_log_rules.specs.Lawful.{IsLawful}
use Rattle.p2p_log_rules.specs.Links.{openings_of}
use Rattle.p2p_log_rules.specs.Moves.{Moves}
use Rattle.p2p_log_rules.specs.Pings.{ping_frame, ping_is_due}
use Rattle.p2p_log_rules.specs.Rows.{only, takes_oldest}
use Rattle.p2p_log_rules.proofs.Connections.{steps_sender, sender_is, begins_is, runs_is, is_begun-append, has_run-append}
use Rattle.p2p_log_rules.proofs.Moves.{taken_stood}
use Rattle.p2p_log_rules.proofs.Recorded.{item_named-first}
use Rattle.p2p_log_rules.proofs.Touches.{in_ends}
use Rattle.p2p_log_laws.specs.Grants.{one}
use Rattle.p2p_log_laws.specs.NodeGrants.{put_of}
use Rattle.p2p_log_laws.proofs.EndWays.{taken_one}
use Rattle.p2p_log_laws.proofs.Fitting.{fits, StandsFit, is_idle}
use Rattle.p2p_log_laws.proofs.HalfSteps.{IsStep, send_is}
use Rattle.p2p_log_laws.proofs.Ledger.{Told, Told-end}
use Rattle.p2p_log_laws.proofs.Prefixes.{lawful_at_end}
use Rattle.p2p_log_laws.proofs.Reaching.{reads, writes}
use Rattle.p2p_log_laws.proofs.Shape.{Shape, Origin, OfAct, OfItem, Moved-origins}
use Rattle.p2p_log_laws.proofs.Shapes.{row_shape}
use Rattle.p2p_log_laws.proofs.Spreads.{AreFrames, Adds, puts-spread}
use Rattle.p2p_log_laws.proofs.Weighing.{weight, weighed, taken_items}

abbrev pub at_router : ℕ → Queue → Bool
at_router n (queue.Router m) = m == n
at_router n _ = false

-- whether an item says that this connection begins
abbrev pub names_ready : ℕ → Item → Bool
names_ready conn (item.Ready e key) = e == conn
names_ready conn _ = false

-- whether what is put tells the node's router so, and whether it answers
abbrev pub tells_ready : ℕ → ℕ → Queue × Item → Bool
tells_ready n conn x = at_router n x.0 && names_ready conn x.1

abbrev pub at_ready : ℕ → ℕ → Queue → Bool
at_ready n conn (queue.RouterAnswer m e) = (m == n) && (e == conn)
at_ready n conn _ = false

abbrev pub puts_answer : ℕ → ℕ → Queue × Item → Bool
puts_answer n conn x = at_ready n conn x.0 && is_answer x.1

module _ (n conn : ℕ) (log : List Entry) where
  -- ---- a router is told once

  -- what tells of the connection comes with its beginning, and the first time alone
  abbrev pub TellsOnce : Act → Row → Type 0
  TellsOnce a r = one (is_begun log n conn) + count_by (tells_ready n conn) r.puts ≤ one (is_begun log n conn || (steps_sender n conn a && is_done r.reply))

  silent : (a : Act) (r : Row) → count_by (tells_ready n conn) r.puts ≡ 0 → TellsOnce a r
  silent a r none = by (is_begun log n conn) (steps_sender n conn a && is_done r.reply) (count_by (tells_ready n conn) r.puts) none
    where
      by : (before now : Bool) (k : ℕ) → k ≡ 0 → one before + k ≤ one (before || now)
      by true now k none = omega (arith, none)
      by false true k none = omega (arith, none)
      by false false k none = omega (arith, none)

  -- acts other than a step of its sending half
  module _ (configs : List Config) (a : Act) (r : Reply) (other : steps_sender n conn a ≡ false) where
    own_silent : (q : Queue) (i : Item) → OfAct configs log a r q i → tells_ready n conn (q, i) ≡ false
    own_silent (queue.Router m) i (inl ready) = ap (λ j. (m == n) && names_ready conn j) ready.3 ∙ (ap (steps_sender n conn) (sym ready.4) ∙ other)
    own_silent (queue.Router m) i (inr sent) = ap (λ j. (m == n) && names_ready conn j) sent.3 ∙ and_false (m == n)
    own_silent _ i h = refl

    idle_silent : (i : Item) → is_idle i ≡ true → names_ready conn i ≡ false
    idle_silent (item.Ready e key) h = absurd (cc)
    idle_silent _ h = refl

    item_silent : (y : Envelope) (q : Queue) (i : Item) → OfItem configs log y q i → tells_ready n conn (q, i) ≡ false
    item_silent y (queue.Router m) i h = absurd h
    item_silent y _ i h = refl

    origin_silent : (taken : List Envelope) (x : Queue × Item) → Origin configs log a r taken x → tells_ready n conn x ≡ false
    origin_silent taken x o = elim o [
      | inl own ↦ elim own [
        | inl idle ↦ ap (λ b. at_router n x.0 && b) (idle_silent x.1 idle) ∙ and_false (at_router n x.0)
        | inr h ↦ own_silent x.0 x.1 h
      ]
      | inr item ↦ elim item.2 [
        | inl idle ↦ ap (λ b. at_router n x.0 && b) (idle_silent x.1 idle) ∙ and_false (at_router n x.0)
        | inr h ↦ item_silent item.0 x.0 x.1 h
      ]
    ]

  other_tells : (configs : List Config) (a : Act) (r : Row) (shape : Shape configs log a r) → Each StandsFit (live log) → steps_sender n conn a ≡ false → TellsOnce a r
  other_tells configs a r shape fitting other =
      silent a r
      (count_by-none (tells_ready n conn) r.puts
      (Each-weaker (Origin configs log a r.reply shape.moves.taken) (λ x. tells_ready n conn x ≡ false) (origin_silent configs a r.reply other shape.moves.taken) r.puts
      (Moved-origins configs log a r.reply shape.moves.taken r.puts (shape.laws fitting).moved)))

  -- a step of its sending half
  written_tells : (a : Act) (link : Queue) (due : Bool) (ys : List Envelope) → at_router n link ≡ false → TellsOnce a (Effect.write_row link due ys)
  written_tells a link due ys away = by due ys
    where
      each : (zs : List Envelope) → Each (λ x. tells_ready n conn x ≡ false) (map (λ (z : Envelope). (link, z.item)) zs)
      each [] = tt
      each (z ∷ zs) = (ap (λ b. b && names_ready conn z.item) away, each zs)

      by : (d : Bool) (zs : List Envelope) → TellsOnce a (Effect.write_row link d zs)
      by false [] = silent a (Effect.write_row link false []) refl
      by false (z ∷ zs) = silent a (Effect.write_row link false (z ∷ zs)) (count_by-none (tells_ready n conn) (Effect.write_row link false (z ∷ zs)).puts (each (z ∷ zs)))
      by true zs =
          silent a (Effect.write_row link true zs) (count_by-none (tells_ready n conn) (Effect.write_row link true zs).puts (ap (λ b. b && names_ready conn (item.Frame None ping_frame)) away, each zs))

  oldest_tells : (a : Act) (xs : List Envelope) → TellsOnce a (takes_oldest xs)
  oldest_tells a [] = silent a (takes_oldest []) refl
  oldest_tells a (x ∷ xs) = silent a (takes_oldest (x ∷ xs)) refl

  begin_tells : (key : Key) → is_begun log n conn ≡ false → (n == n) ≡ true → (conn == conn) ≡ true → TellsOnce (act.SendStep conn n) (Effect.begin_row n conn key)
  begin_tells key none self same =
      let tracker : Queue × Item = (queue.Tracker n, item.Connect conn key) in
      let router : Queue × Item = (queue.Router n, item.Ready conn key) in
      let first : count_by (tells_ready n conn) (tracker ∷ router ∷ []) ≡ 0 + count_by (tells_ready n conn) (router ∷ []) = sum_by-cons (λ x. one (tells_ready n conn x)) tracker (router ∷ []) in
      let second : count_by (tells_ready n conn) (router ∷ []) ≡ one ((n == n) && (conn == conn)) + 0 = sum_by-cons (λ x. one (tells_ready n conn x)) router [] in
      counted (is_begun log n conn) ((n == n) && (conn == conn)) (count_by (tells_ready n conn) (tracker ∷ router ∷ [])) (count_by (tells_ready n conn) (router ∷ [])) none first second
    where
      counted : (before now : Bool) (all rest : ℕ) → before ≡ false → all ≡ 0 + rest → rest ≡ one now + 0 → one before + all ≤ one (before || (now && true))
      counted true now all rest none sum is = absurd (cc)
      counted false true all rest none sum is = omega (arith, sum, is)
      counted false false all rest none sum is = omega (arith, sum, is)

  last_tells : (a : Act) (half : Half) (why : Ended) (c : Cause) (taken : List Envelope) → TellsOnce a (end_row log n conn half why c taken)
  last_tells a half why c taken =
      silent a (end_row log n conn half why c taken) (count_by-none (tells_ready n conn) (end_row log n conn half why c taken).puts (and_false (n == n), (refl, tt)))

  goes_on_tells : (a : Act) (half : Half) (broken due : Bool) (ys : List Envelope) → TellsOnce a (Effect.written_row log n conn half broken due ys)
  goes_on_tells a half true false [] = silent a (only reply.Idle) refl
  goes_on_tells a half false false [] = silent a (only reply.Idle) refl
  goes_on_tells a half true false (y ∷ ys) = last_tells a half ended.SendFailed cause.ConnectionEnded (y ∷ ys)
  goes_on_tells a half true true ys = last_tells a half ended.SendFailed cause.ConnectionEnded ys
  goes_on_tells a half false false (y ∷ ys) = written_tells a (queue.Link half.link half.writes) false (y ∷ ys) refl
  goes_on_tells a half false true ys = written_tells a (queue.Link half.link half.writes) true ys refl

  told_tells : (a : Act) (half : Half) (xs : List Envelope) (room : Bool) (r : Row) → TellsOnce a r → TellsOnce a (Effect.told_to_end_row log n conn half xs room r)
  told_tells a half [] room r h = h
  told_tells a half (x ∷ xs) true r h = last_tells a half ended.Killed cause.ConnectionEnded (x ∷ [])
  told_tells a half (x ∷ xs) false r h = h

  running_tells : (configs : List Config) (half : Half) (due : Bool) → TellsOnce (act.SendStep conn n) (Effect.running_row configs log n conn half due)
  running_tells configs half due =
      let most : ℕ = Effect.beside_ping due (Effect.batch_size_at configs n) in
      let broken : Bool = is_broken log half.link (other_side half.writes) in
      told_tells (act.SendStep conn n) half (line log (queue.Control n conn)) (nat_lt 0 most) (Effect.written_row log n conn half broken due (Effect.batch log n conn most))
      (goes_on_tells (act.SendStep conn n) half broken due (Effect.batch log n conn most))

  half_tells : (configs : List Config) (at : ℕ) (half : Half) (begun running : Bool) → is_begun log n conn ≡ begun → (n == n) ≡ true → (conn == conn) ≡ true
      → TellsOnce (act.SendStep conn n) (Effect.half_row configs log n conn at half begun running)
  half_tells configs at half false running is self same = begin_tells half.peer is self same
  half_tells configs at half true false is self same = oldest_tells (act.SendStep conn n) (line log (queue.RouterAnswer n conn))
  half_tells configs at half true true is self same = running_tells configs half (ping_is_due configs log n conn at)

  sender_tells : (configs : List Config) (at : ℕ) (o : Option Half) → (n == n) ≡ true → (conn == conn) ≡ true → TellsOnce (act.SendStep conn n) (Effect.sender_row configs log n conn at o)
  sender_tells configs at None self same = silent (act.SendStep conn n) (only reply.Gone) refl
  sender_tells configs at (Some half) self same = half_tells configs at half (is_begun log n conn) (is_running log n conn) refl self same

  send_tells : (configs : List Config) (at : ℕ) → (n == n) ≡ true → (conn == conn) ≡ true → TellsOnce (act.SendStep conn n) (Effect.send_step_row configs log conn n at)
  send_tells configs at self same = by_up (is_up log n)
    where
      by_up : (b : Bool) → TellsOnce (act.SendStep conn n) (cond b (Effect.sender_row configs log n conn at (live_half log n conn)) (only reply.Gone))
      by_up true = sender_tells configs at (live_half log n conn) self same
      by_up false = silent (act.SendStep conn n) (only reply.Gone) refl

  pub each_tells : (configs : List Config) (at seed : ℕ) (a : Act) → Each StandsFit (live log) → TellsOnce a (row configs log at seed a)
  unfolding row
  each_tells configs at seed a fitting = by (steps_sender n conn a) refl
    where
      by : (b : Bool) → steps_sender n conn a ≡ b → TellsOnce a (row configs log at seed a)
      by true steps = subst (λ k. TellsOnce k (row configs log at seed k)) (sym (sender_is n conn a steps)) (send_tells configs at (eq-eqb n n refl) (eq-eqb conn conn refl))
      by false other = other_tells configs a (row configs log at seed a) (row_shape configs log at seed a) fitting other

  -- ---- a router answers what it is told

  abbrev Unanswered : Queue × Item → Type 0
  Unanswered x = puts_answer n conn x ≡ false

  -- the items that are taken tell as much as they are answered
  abbrev AnswersWhat : (m : ℕ) → List Item → Row → Type 0
  AnswersWhat m items r = count_by (puts_answer n conn) r.puts ≤ count_by (λ i. (m == n) && names_ready conn i) items

  at_most : (a b : ℕ) → a ≡ 0 → a ≤ b
  at_most a b none = omega (arith, none)

  none_answered : (m : ℕ) (items : List Item) (r : Row) → Each Unanswered r.puts → AnswersWhat m items r
  none_answered m items r puts = at_most (count_by (puts_answer n conn) r.puts) (count_by (λ i. (m == n) && names_ready conn i) items) (count_by-none (puts_answer n conn) r.puts puts)

  lists_unanswered : (m : ℕ) (keys : List Key) (cs : List ℕ) → Each Unanswered (map (peers_put m keys) cs)
  lists_unanswered m keys [] = tt
  lists_unanswered m keys (c ∷ cs) = (refl, lists_unanswered m keys cs)

  frames_unanswered : (send p : ℕ) (frame : List ℕ) (ks : List Key) (puts : List (Queue × Item)) → AreFrames send p frame ks puts → Each Unanswered puts
  frames_unanswered send p frame [] puts none = subst (Each Unanswered) (sym none) tt
  frames_unanswered send p frame (k ∷ ks) puts (inl more) = frames_unanswered send (p + 1) frame ks puts more
  frames_unanswered send p frame (k ∷ ks) puts (inr first) =
      subst (Each Unanswered) (sym first.2) (and_false (at_ready n conn first.0), frames_unanswered send (p + 1) frame ks first.1 first.3)

  routed_answers : (configs : List Config) (m : ℕ) (name : ℕ × ℕ) (i : Item) (items : List Envelope) → AnswersWhat m (i ∷ []) (Effect.route_row configs log m name i items)
  routed_answers configs m name (item.Subscribe c) items =
      none_answered m (item.Subscribe c ∷ []) (Effect.route_row configs log m name (item.Subscribe c) items) (lists_unanswered m (keys_in (routes log m)) (c ∷ []))
  routed_answers configs m name (item.Ready e key) items = by (is_ended log m e)
    where
      i : Item
      i = item.Ready e key

      lists : List (Queue × Item)
      lists = map (peers_put m (keys_in (with_route (routes log m) i))) (subscribers log m)

      unanswered : Each Unanswered lists
      unanswered = lists_unanswered m (keys_in (with_route (routes log m) i)) (subscribers log m)

      counted : (b : Bool) (all lists told : ℕ) → all ≡ one (b && true) + lists → lists ≡ 0 → told ≡ one b + 0 → all ≤ told
      counted true all lists told first rest is = omega (arith, first, rest, is)
      counted false all lists told first rest is = omega (arith, first, rest, is)

      by : (ended : Bool) → AnswersWhat m (i ∷ []) (Effect.ready_row log m name e key ended items)
      by true = none_answered m (i ∷ []) (Effect.ready_row log m name e key true items) unanswered
      by false =
          let answer : Queue × Item = (queue.RouterAnswer m e, item.RouterAnswer) in
          let first : count_by (puts_answer n conn) (answer ∷ lists) ≡ one (((m == n) && (e == conn)) && true) + count_by (puts_answer n conn) lists = sum_by-cons (λ x. one (puts_answer n conn x)) answer lists in
          let told : count_by (λ j. (m == n) && names_ready conn j) (i ∷ []) ≡ one ((m == n) && (e == conn)) + 0 = sum_by-cons (λ j. one ((m == n) && names_ready conn j)) i [] in
          counted ((m == n) && (e == conn)) (count_by (puts_answer n conn) (answer ∷ lists)) (count_by (puts_answer n conn) lists) (count_by (λ j. (m == n) && names_ready conn j) (i ∷ [])) first
          (count_by-none (puts_answer n conn) lists unanswered) told
  routed_answers configs m name (item.Release key) items =
      none_answered m (item.Release key ∷ []) (Effect.route_row configs log m name (item.Release key) items) (lists_unanswered m (keys_in (with_route (routes log m) (item.Release key))) (subscribers log m))
  routed_answers configs m name (item.Content c frame priority send to) items =
      let start : Spread = record { puts = []; ends = [] } in
      let s : Spread = spread (mailbox_size_at configs m) items m priority (is_ended log m) (routes log m) send 0 frame to start in
      let adds : Adds send 0 frame to [] s.puts = puts-spread (mailbox_size_at configs m) items m priority (is_ended log m) (routes log m) send frame to 0 start in
      none_answered m (item.Content c frame priority send to ∷ []) (row_of_spread name s) (subst (Each Unanswered) (sym adds.1) (frames_unanswered send 0 frame to adds.0 adds.2))
  routed_answers configs m name i items = none_answered m (i ∷ []) (Effect.route_row configs log m name i items) tt

  module _ (configs : List Config) (ev : Event) where
    abbrev r : Row
    r = row configs log ev.at ev.seed ev.act

    abbrev e : Entry
    e = entry_of ev r

    -- what its router's step took
    oldest_answers : (m : ℕ) (xs : List Envelope) → line log (queue.Router m) ≡ xs → AnswersWhat m (taken log (entry_of ev (Effect.route_oldest configs log m xs))) (Effect.route_oldest configs log m xs)
    oldest_answers m [] first = none_answered m (taken log (entry_of ev (only reply.Idle))) (only reply.Idle) tt
    oldest_answers m (x ∷ rest) first =
        let here : Row = Effect.route_oldest configs log m (x ∷ rest) in
        subst (λ items. AnswersWhat m items here) (sym (taken_one log (entry_of ev here) x (item_named-first log (queue.Router m) x rest first) (takes x.item)))
        (routed_answers configs m (name_of x) x.item (filter (stays (name_of x ∷ [])) (live log)))
      where
        takes : (i : Item) → (Effect.route_row configs log m (name_of x) i (filter (stays (name_of x ∷ [])) (live log))).takes ≡ name_of x ∷ []
        takes (item.Subscribe c) = refl
        takes (item.Ready c key) = refl
        takes (item.Release key) = refl
        takes (item.Content c frame priority send to) = refl
        takes _ = refl

    router_answers : (m : ℕ) (b : Bool) → AnswersWhat m (taken log (entry_of ev (cond b (Effect.route_oldest configs log m (line log (queue.Router m))) (only reply.Gone)))) (cond b (Effect.route_oldest configs log m (line log (queue.Router m))) (only reply.Gone))
    router_answers m true = oldest_answers m (line log (queue.Router m)) refl
    router_answers m false = none_answered m (taken log (entry_of ev (only reply.Gone))) (only reply.Gone) tt

    -- it stood in its mailbox
    pub told_weight : (m : ℕ) (xs : List Envelope) → Each (λ x. x.queue ≡ queue.Router m) xs → count_by (λ i. (m == n) && names_ready conn i) (map (λ x. x.item) xs) ≡ weight (tells_ready n conn) xs
    told_weight m [] there = refl
    told_weight m (x ∷ xs) there =
        sum_by-cons (λ i. one ((m == n) && names_ready conn i)) x.item (map (λ y. y.item) xs)
        ∙ (ap (λ q. one (at_router n q && names_ready conn x.item) + count_by (λ i. (m == n) && names_ready conn i) (map (λ y. y.item) xs)) (sym there.0)
        ∙ (ap (λ k. one (tells_ready n conn (put_of x)) + k) (told_weight m xs there.1) ∙ sym (sum_by-cons (λ y. one (tells_ready n conn (put_of y))) x xs)))

    abbrev shape : Shape configs log ev.act r
    shape = row_shape configs log ev.at ev.seed ev.act

    abbrev pub AnswersTold : Type 0
    AnswersTold = count_by (puts_answer n conn) r.puts ≤ weight (tells_ready n conn) shape.moves.taken

    by_router : (m : ℕ) → ev.act ≡ act.Router m → AnswersTold
    unfolding row
    by_router m acts =
        let answers : AnswersWhat m (taken log e) r = subst (λ a. AnswersWhat m (taken log (entry_of ev (row configs log ev.at ev.seed a))) (row configs log ev.at ev.seed a)) (sym acts) (router_answers m (is_up log m)) in
        let there : Each (λ x. x.queue ≡ queue.Router m) shape.moves.taken =
        Each-weaker (λ x. reads configs log ev.act x.queue ≡ true) (λ x. x.queue ≡ queue.Router m)
        (λ x read. queue_from_same (queue.Router m) x.queue (subst (λ a. reads configs log a x.queue ≡ true) acts read)) shape.moves.taken shape.reach.taken
        in
        subst (λ k. count_by (puts_answer n conn) r.puts ≤ k) (told_weight m shape.moves.taken there)
        (subst (λ items. AnswersWhat m items r) (taken_items log ev r shape.moves) answers)

    unanswered : Each Unanswered r.puts → AnswersTold
    unanswered puts = at_most (count_by (puts_answer n conn) r.puts) (weight (tells_ready n conn) shape.moves.taken) (count_by-none (puts_answer n conn) r.puts puts)

    aside : writes configs log ev.act (queue.RouterAnswer n conn) ≡ false → AnswersTold
    aside other =
        unanswered
        (Each-weaker (λ (x : Queue × Item). writes configs log ev.act x.0 ≡ true) Unanswered (λ x put. away x.0 x.1 put) r.puts shape.reach.puts)
      where
        away : (q : Queue) (i : Item) → writes configs log ev.act q ≡ true → puts_answer n conn (q, i) ≡ false
        away (queue.RouterAnswer m c) i put = ap (λ b. b && is_answer i) (by ((m == n) && (c == conn)) refl)
          where
            by : (b : Bool) → ((m == n) && (c == conn)) ≡ b → b ≡ false
            by false is = refl
            by true is =
                let both = and_parts (m == n) (c == conn) is in
                absurd (false≢true (sym other ∙ (ap (λ k. writes configs log ev.act (queue.RouterAnswer k conn)) (sym (eqb-true m n both.0)) ∙ (ap (λ k. writes configs log ev.act (queue.RouterAnswer m k)) (sym (eqb-true c conn both.1)) ∙ put))))
        away _ i put = refl

    -- no half puts an answer
    by_half : (c m : ℕ) → IsStep Unanswered log m c r → AnswersTold
    by_half c m (inl step) = unanswered step.1
    by_half c m (inr last) = unanswered (subst (Each Unanswered) (sym last.puts) (refl, (refl, tt)))

    ends_aside : (o : Option Opening) → in_ends o (queue.RouterAnswer n conn) ≡ false
    ends_aside None = refl
    ends_aside (Some o) = refl

    pub answers_told : AnswersTold
    unfolding row
    answers_told = by ev.act refl
      where
        by : (a : Act) → ev.act ≡ a → AnswersTold
        by (act.Router m) acts = by_router m acts
        by (act.SendStep c m) acts =
            by_half c m
            (subst (λ a. IsStep Unanswered log m c (row configs log ev.at ev.seed a)) (sym acts) (send_is configs log c m ev.at Unanswered (λ key. refl) (λ key. refl) (λ link s i. refl)))
        by (act.Finish link ok) acts = aside (ap (λ a. writes configs log a (queue.RouterAnswer n conn)) acts ∙ ends_aside (openings_of log link))
        by a acts = aside (ap (λ k. writes configs log k (queue.RouterAnswer n conn)) acts)

    -- ---- it runs once it takes its router's answer

    -- of what a sending half takes only its router's answer is one
    answer_there : (q : Queue) (i : Item) → reads configs log (act.SendStep conn n) q ≡ true → fits q i ≡ true → is_answer i ≡ true → at_ready n conn q ≡ true
    answer_there (queue.RouterAnswer m c) item.RouterAnswer read fit is = read
    answer_there _ item.RouterAnswer read fit is = absurd (false≢true fit)
    answer_there _ _ read fit is = absurd (false≢true is)

    answer_weight : (xs : List Envelope) → Each (λ x. reads configs log (act.SendStep conn n) x.queue ≡ true) xs → Each StandsFit xs → one (list_any is_answer (map (λ x. x.item) xs)) ≤ weight (puts_answer n conn) xs
    answer_weight [] read fit = omega arith
    answer_weight (x ∷ xs) read fit =
        let rest = answer_weight xs read.1 fit.1 in
        let first : weight (puts_answer n conn) (x ∷ xs) ≡ one (puts_answer n conn (put_of x)) + weight (puts_answer n conn) xs = sum_by-cons (λ y. one (puts_answer n conn (put_of y))) x xs in
        by (is_answer x.item) (list_any is_answer (map (λ y. y.item) xs)) refl (weight (puts_answer n conn) (x ∷ xs)) (weight (puts_answer n conn) xs) first rest
      where
        by : (here later : Bool) → is_answer x.item ≡ here → (all more : ℕ) → all ≡ one (puts_answer n conn (put_of x)) + more → one later ≤ more → one (here || later) ≤ all
        by false later is all more first rest = omega (arith, first, rest)
        by true later is all more first rest =
            let counts : one (puts_answer n conn (put_of x)) ≡ 1 =
            ap (λ b. one (at_ready n conn x.queue && b)) is ∙ ap (λ b. one (b && true)) (answer_there x.queue x.item read.0 fit.0 is)
            in
            omega (arith, first, counts)

    takes_answer : Each StandsFit (live log) → one (runs n conn log e) ≤ weight (puts_answer n conn) shape.moves.taken
    takes_answer fitting = subst (λ b. one b ≤ weight (puts_answer n conn) shape.moves.taken) (sym (runs_is log e n conn ∙ ap (λ b. b && list_any is_answer (taken log e)) (begins_is log e n conn))) (by (steps_sender n conn ev.act) (is_done r.reply) refl)
      where
        by : (b d : Bool) → steps_sender n conn ev.act ≡ b → one ((b && d) && list_any is_answer (taken log e)) ≤ weight (puts_answer n conn) shape.moves.taken
        by false d steps = omega arith
        by true false steps = omega arith
        by true true steps =
            subst (λ items. one (list_any is_answer items) ≤ weight (puts_answer n conn) shape.moves.taken) (sym (taken_items log ev r shape.moves))
            (answer_weight shape.moves.taken
            (Each-weaker (λ x. reads configs log ev.act x.queue ≡ true) (λ x. reads configs log (act.SendStep conn n) x.queue ≡ true)
            (λ x read. subst (λ a. reads configs log a x.queue ≡ true) (sender_is n conn ev.act steps) read) shape.moves.taken shape.reach.taken)
            (Each-taken StandsFit (live log) shape.moves.taken fitting (taken_stood log ev r shape.moves)))

-- ---- over a log

module _ (configs : List Config) (n conn : ℕ) where
  -- what waits, what was answered and whether it runs, together
  abbrev pub IsHeardOnce : List Entry → Type 0
  IsHeardOnce log = (weight (tells_ready n conn) (live log) + weight (puts_answer n conn) (live log)) + one (has_run log n conn) ≤ one (is_begun log n conn)

  heard_first : IsHeardOnce []
  unfolding live_from state_from told has_run is_begun
  heard_first = omega arith

  counted : (told answered told_after answered_after told_taken told_ended answers_taken answers_ended told_puts answer_puts took runs runs_after before begun : ℕ)
      → told_after + (told_taken + told_ended) ≡ told + told_puts → answered_after + (answers_taken + answers_ended) ≡ answered + answer_puts
      → answer_puts ≤ told_taken → took ≤ answers_taken → runs_after ≤ runs + took → before + told_puts ≤ begun → (told + answered) + runs ≤ before
      → (told_after + answered_after) + runs_after ≤ begun
  counted told answered told_after answered_after told_taken told_ended answers_taken answers_ended told_puts answer_puts took runs runs_after before begun a b c d e f g = omega (arith, a, b, c, d, e, f, g)

  either : (b c : Bool) → one (b || c) ≤ one b + one c
  either true true = omega arith
  either true false = omega arith
  either false true = omega arith
  either false false = omega arith

  heard_more : (script : List Event) (before : List Entry) (ev : Event) → IsLawful configs script before → IsHeardOnce before → IsHeardOnce (before ++ effect configs before ev ∷ [])
  unfolding effect
  heard_more script before ev lawful old =
      let r : Row = row configs before ev.at ev.seed ev.act in
      let e : Entry = entry_of ev r in
      let told : Told configs before = Told-end configs script before lawful in
      let m : Moves before r = (row_shape configs before ev.at ev.seed ev.act).moves in
      let took : Bool = runs n conn before e in
      let begins_connection : one (is_begun before n conn) + count_by (tells_ready n conn) r.puts ≤ one (is_begun (before ++ e ∷ []) n conn) =
      subst (λ b. one (is_begun before n conn) + count_by (tells_ready n conn) r.puts ≤ one b) (sym (is_begun-append before e n conn ∙ ap (λ b. is_begun before n conn || b) (begins_is before e n conn)))
      (each_tells n conn before configs ev.at ev.seed ev.act told.standing.fitting)
      in
      let runs : one (has_run (before ++ e ∷ []) n conn) ≤ one (has_run before n conn) + one took =
      subst (λ b. one b ≤ one (has_run before n conn) + one took) (sym (has_run-append before e n conn)) (either (has_run before n conn) took)
      in
      counted (weight (tells_ready n conn) (live before)) (weight (puts_answer n conn) (live before)) (weight (tells_ready n conn) (live (before ++ e ∷ []))) (weight (puts_answer n conn) (live (before ++ e ∷ [])))
      (weight (tells_ready n conn) m.taken) (weight (tells_ready n conn) m.ended) (weight (puts_answer n conn) m.taken) (weight (puts_answer n conn) m.ended)
      (count_by (tells_ready n conn) r.puts) (count_by (puts_answer n conn) r.puts) (one took) (one (has_run before n conn)) (one (has_run (before ++ e ∷ []) n conn))
      (one (is_begun before n conn)) (one (is_begun (before ++ e ∷ []) n conn))
      (weighed before ev r m (tells_ready n conn)) (weighed before ev r m (puts_answer n conn)) (answers_told n conn before configs ev) (takes_answer n conn before configs ev told.standing.fitting) runs begins_connection old

  pub heard_once : (script : List Event) (log : List Entry) → IsLawful configs script log → IsHeardOnce log
  heard_once script log lawful = lawful_at_end configs IsHeardOnce heard_first heard_more script log lawful

-- nothing counted is there
pub none_counted : {X : Type 0} (p : X → Bool) (xs : List X) → count_by p xs ≡ 0 → Each (λ x. p x ≡ false) xs
none_counted p [] none = tt
none_counted p (x ∷ xs) none =
    let first : count_by p (x ∷ xs) ≡ one (p x) + count_by p xs = sum_by-cons (λ y. one (p y)) x xs in
    (by (p x) refl (count_by p (x ∷ xs)) (count_by p xs) none first, none_counted p xs (omega (arith, none, first)))
  where
    by : (b : Bool) → p x ≡ b → (all rest : ℕ) → all ≡ 0 → all ≡ one b + rest → b ≡ false
    by false is all rest none first = refl
    by true is all rest none first = absurd (omega (arith, none, first))

-- once a connection runs, no word that it begins waits for its node's router
pub running_heard : (configs : List Config) (script : List Event) (log : List Entry) → IsLawful configs script log → (n conn : ℕ) → has_run log n conn ≡ true
    → Each (λ x. names_ready conn x.item ≡ false) (line log (queue.Router n))
unfolding line
running_heard configs script log lawful n conn runs =
    let none : weight (tells_ready n conn) (live log) ≡ 0 =
    by (has_run log n conn) (is_begun log n conn) runs (weight (tells_ready n conn) (live log)) (weight (puts_answer n conn) (live log)) (heard_once configs n conn script log lawful)
    in
    let each : Each (λ x. tells_ready n conn (put_of x) ≡ false) (live log) = none_counted (λ x. tells_ready n conn (put_of x)) (live log) none in
    Each-from_has (λ (x : Envelope). names_ready conn x.item ≡ false) (filter (stands_in (queue.Router n)) (live log)) (λ x has.
    let there : x.queue ≡ queue.Router n = Each-has (λ (y : Envelope). y.queue ≡ queue.Router n) (filter (stands_in (queue.Router n)) (live log)) x (Each-in_queue (queue.Router n) (live log)) has in
    let unheard : tells_ready n conn (put_of x) ≡ false = Each-has (λ (y : Envelope). tells_ready n conn (put_of y) ≡ false) (live log) x each (Has-of_kept (stands_in (queue.Router n)) (live log) x has) in
    sym (ap (λ b. b && names_ready conn x.item) (ap (at_router n) there ∙ eq-eqb n n refl)) ∙ unheard)
  where
    by : (running begun : Bool) → running ≡ true → (told answered : ℕ) → (told + answered) + one running ≤ one begun → told ≡ 0
    by true true is told answered le = omega (arith, le)
    by true false is told answered le = absurd (omega (arith, le))
    by false begun is told answered le = absurd (false≢true is)
