-- What a handshake's step puts for it: no more than it takes.
use Rattle.std.proofs.Common.{◌≡◌, ℕ, ◌+◌, ◌≤◌, Bool, true, false, cond, List, [], ◌∷◌, map, take, Some, None, inl, refl, ap, sym, subst, ◌∙◌, arith, eqb-true, Option}
use Rattle.std.specs.Prelude.{◌==◌, ◌&&◌, ◌||◌, count_by}
use Rattle.std.specs.List.{AllByRecursion as Each}
use Rattle.std.proofs.lemmas.Bool.{and_parts}
use Rattle.std.proofs.lemmas.Bool.Decides.{nat_tests}
use Rattle.p2p_log_rules.proofs.Bools.{and_false}
use Rattle.p2p_base.specs.declared.key.Key.{Key}
use Rattle.p2p_log.specs.declared.config.Config.{Config}
use Rattle.p2p_log.specs.declared.queue.Queue.{Queue}
use Rattle.p2p_log.specs.declared.queue.Queue.TheVariants as queue
use Rattle.p2p_log.specs.declared.item.Item.{Item}
use Rattle.p2p_log.specs.declared.item.Item.TheVariants as item
use Rattle.p2p_log.specs.declared.item.Envelope.{Envelope}
use Rattle.p2p_log.specs.declared.entry.Entry.{Entry}
use Rattle.p2p_log.specs.declared.entry.Reply.{Reply}
use Rattle.p2p_log.specs.declared.entry.Reply.TheVariants as reply
use Rattle.p2p_log.specs.declared.event.Act.{Act}
use Rattle.p2p_log.specs.declared.event.Act.TheVariants as act
use Rattle.p2p_log.specs.declared.event.Event.{Event}
use Rattle.p2p_log.specs.QueueCode.{same_queue}
use Rattle.p2p_log.specs.Lines.{name_of, live, line}
use Rattle.p2p_log.specs.Taken.{AreTaken}
use Rattle.p2p_log.proofs.Each.{count_by-none}
use Rattle.p2p_log.proofs.Queues.{same_queue-refl}
use Rattle.p2p_log_rules.specs.declared.row.Row.{Row}
use Rattle.p2p_log_rules.specs.Attempting.{left_ends, handed_on_row}
use Rattle.p2p_log_rules.specs.Dropping.{handshake_step_row, listening_end}
use Rattle.p2p_log_rules.specs.Puts.{broke_off}
use Rattle.p2p_log_rules.specs.Effect.{entry_of}
use Rattle.p2p_log_rules.specs.Handshakes.{Handshake, handshake_at, came_over, is_handshaking, is_finished, takes_acceptance}
use Rattle.p2p_log_rules.proofs.HandshakeTook.{apart_step, takes_none, takes_step}
use Rattle.p2p_log_rules.specs.Handshaking.{handshake_deadline, ended_row, handshake_took_row, is_due, handshake_turn, handshake_row}
use Rattle.p2p_log_rules.specs.Moves.{Moves}
use Rattle.p2p_log_rules.specs.Rows.{only, is_spawner_full}
use Rattle.p2p_log_rules.proofs.Moves.{one_taken}
use Rattle.p2p_log_laws.specs.Grants.{one}
use Rattle.p2p_log_laws.specs.NodeGrants.{put_of}
use Rattle.p2p_log_laws.specs.OneAnswer.{Words, tells, asks_about, is_for}
use Rattle.p2p_log_laws.proofs.Answering.{Silent, silent_away, silent_item, accepts_now, Answers, quiet, dropped, ready_silent}
use Rattle.p2p_log_laws.proofs.DropShape.{each_dropping}
use Rattle.p2p_log_laws.proofs.HandshakeShape.{handshake_shape}
use Rattle.p2p_log_laws.proofs.LineShape.{left_gone, whole_taken}
use Rattle.p2p_log_laws.proofs.Shape.{no_moves, one_move}
use Rattle.p2p_log_laws.proofs.Weighing.{weight, count_by-one, taken_items}

module _ (w : Words) (n name : ℕ) (configs : List Config) (log : List Entry) (at seed : ℕ) where
  abbrev event : Act → Event
  event a = record { at = at; seed = seed; act = a }

  -- ---- of another handshake

  asked_silent : (k m : ℕ) (key : Key) → ((m == n) && (k == name)) ≡ false → Silent w n name (queue.Tracker m, item.AskListen k key)
  asked_silent k m key other = by (m == n) refl
    where
      turned : (i j : ℕ) → (i == j) ≡ false → (j == i) ≡ false
      turned i j h = grind (arith, nat_tests)

      by : (b : Bool) → (m == n) ≡ b → Silent w n name (queue.Tracker m, item.AskListen k key)
      by true here = silent_item w n name (queue.Tracker m) (item.AskListen k key) (ap (λ b. b && (k == name)) (sym here) ∙ other) refl
      by false there = silent_away w n name (queue.Tracker m) (item.AskListen k key) (ap (λ b. b && true) (turned m n there)) refl

  module _ (k m : ℕ) (other : ((m == n) && (k == name)) ≡ false) where
    took_silent : (full : Bool) (peer : Handshake) (took : ℕ × ℕ) (i : Item) (left : List Envelope) → Each (Silent w n name) (handshake_took_row m full k peer took i left).puts
    took_silent full peer took (item.Acceptable true) left = tt
    took_silent full peer took (item.Acceptable false) left = tt
    took_silent full peer took (item.Finished true) left = (asked_silent k m peer.key other, tt)
    took_silent full peer took (item.Finished false) left = tt
    took_silent full peer took (item.Listen (Some key)) left = ready_silent w n name configs log at seed m full key peer.link took left
    took_silent full peer took (item.Listen None) left = tt
    took_silent full peer took _ left = tt

    turn_silent : (full due : Bool) (o : Option Handshake) (xs : List Envelope) → Each (Silent w n name) (handshake_turn m full due k o xs).puts
    turn_silent full due None xs = tt
    turn_silent full true (Some peer) [] = tt
    turn_silent full false (Some peer) [] = tt
    turn_silent full due (Some peer) (x ∷ xs) = took_silent full peer (name_of x) x.item xs

    pub row_silent : Each (Silent w n name) (handshake_step_row configs log k m at).puts
    row_silent =
        let r : Row = handshake_row configs log k m at in
        each_dropping (Silent w n name) log (cond (broke_off r.reply (map (λ x. x.item) (take 1 (line log (queue.Handshake m k)))) r.puts) (listening_end (came_over log k)) None) r (by (is_handshaking log m k))
      where
        by : (b : Bool) → Each (Silent w n name)
            (cond b (handshake_turn m (is_spawner_full configs log m) (is_due (handshake_deadline configs log k m) at (is_finished log m k)) k (handshake_at log k) (line log (queue.Handshake m k))) (only reply.Gone)).puts
        by true = turn_silent (is_spawner_full configs log m) (is_due (handshake_deadline configs log k m) at (is_finished log m k)) (handshake_at log k) (line log (queue.Handshake m k))
        by false = tt

    pub other_answers : Answers w n name log (event (act.Handshake k m)) (handshake_step_row configs log k m at)
    other_answers =
        let r : Row = handshake_step_row configs log k m at in
        quiet w n name log (event (act.Handshake k m)) r (handshake_shape configs log k m at).moves row_silent
        (takes_none takes_acceptance log (entry_of (event (act.Handshake k m)) r) n name (apart_step n name m k other))

  -- ---- its own

  abbrev q : Queue
  q = queue.Handshake n name

  abbrev ev : Event
  ev = event (act.Handshake name n)

  -- it takes nothing
  idle : (rep : Reply) → Answers w n name log ev (only rep)
  idle rep =
      let m : Moves log (only rep) = no_moves log (only rep) refl refl in
      quiet w n name log ev (only rep) m tt (takes_step takes_acceptance log (entry_of ev (only rep)) n name refl ∙ ap takes_acceptance (taken_items log ev (only rep) m))

  expired : Answers w n name log ev (ended_row [] [])
  expired =
      let r : Row = ended_row [] [] in
      let m : Moves log r = no_moves log r refl refl in
      quiet w n name log ev r m tt (takes_step takes_acceptance log (entry_of ev r) n name refl ∙ ap takes_acceptance (taken_items log ev r m))

  module _ (x : Envelope) (rest : List Envelope) (first : line log q ≡ x ∷ rest) where
    stood : x.queue ≡ q
    stood = one_taken log q x rest first

    waits : weight (is_for w n name) (x ∷ []) ≡ one (tells w x.item)
    waits =
        count_by-one (λ y. is_for w n name (put_of y)) x
        ∙ ap one
        (ap (λ p. (same_queue (queue.Tracker n) p && asks_about w n name x.item) || (same_queue (queue.Handshake n name) p && tells w x.item)) stood
        ∙ ap (λ b. b && tells w x.item) (same_queue-refl q))

    -- of an item no more is put than it was, its acceptance counted
    abbrev FewOf : Row → Item → Type 0
    FewOf r i = count_by (is_for w n name) r.puts + one (w.acceptance && takes_acceptance (i ∷ [])) ≤ one (tells w i)

    served : (r : Row) (m : Moves log r) → m.taken ≡ x ∷ [] → FewOf r x.item → Answers w n name log ev r
    served r m is few = record {
      moves = m;
      few = inl (enough (count_by (is_for w n name) r.puts) (one (w.acceptance && accepts_now w n name log ev r)) (one (w.acceptance && takes_acceptance (x.item ∷ []))) (one (tells w x.item))
          (weight (is_for w n name) m.taken) (ap (λ b. one (w.acceptance && b)) now) (ap (weight (is_for w n name)) is ∙ waits) few);
    }
      where
        enough : (a b c d e : ℕ) → b ≡ c → e ≡ d → a + c ≤ d → a + b ≤ e
        enough a b c d e is also few = omega (arith, is, also, few)

        now : accepts_now w n name log ev r ≡ takes_acceptance (x.item ∷ [])
        now =
            takes_step takes_acceptance log (entry_of ev r) n name refl ∙ ap takes_acceptance (taken_items log ev r m ∙ ap (map (λ y. y.item)) is)

    -- it goes on
    goes_on : (puts : List (Queue × Item)) (i : Item) → x.item ≡ i → FewOf (record { reply = reply.Ok; takes = name_of x ∷ []; puts = puts; ends = [] }) i
        → Answers w n name log ev (record { reply = reply.Ok; takes = name_of x ∷ []; puts = puts; ends = [] })
    goes_on puts i is few =
        let r : Row = record { reply = reply.Ok; takes = name_of x ∷ []; puts = puts; ends = [] } in
        served r (one_move log q x rest first r refl refl) refl (subst (FewOf r) (sym is) few)

    -- it ends, and of its puts none is for it
    ends : (puts : List (Queue × Item)) → Each (Silent w n name) puts → (i : Item) → x.item ≡ i → takes_acceptance (i ∷ []) ≡ false
        → Answers w n name log ev (record { reply = reply.Ok; takes = name_of x ∷ []; puts = puts; ends = left_ends rest })
    ends puts silent i is never =
        let r : Row = record { reply = reply.Ok; takes = name_of x ∷ []; puts = puts; ends = left_ends rest } in
        served r (record { taken = x ∷ []; ended = rest; names = refl; gone = left_gone rest; stood = subst (AreTaken (live log)) first (whole_taken log q) }) refl
        (none (count_by (is_for w n name) puts) (one (w.acceptance && takes_acceptance (x.item ∷ []))) (one (tells w x.item)) (count_by-none (is_for w n name) puts silent)
        (ap (λ j. one (w.acceptance && takes_acceptance (j ∷ []))) is ∙ (ap (λ b. one (w.acceptance && b)) never ∙ ap one (and_false w.acceptance))))
      where
        none : (a b c : ℕ) → a ≡ 0 → b ≡ 0 → a + b ≤ c
        none a b c is also = omega (arith, is, also)

    ready : (full : Bool) (key : Key) (link : ℕ) (i : Item) → x.item ≡ i → takes_acceptance (i ∷ []) ≡ false → Answers w n name log ev (handed_on_row n full key link (name_of x) rest)
    ready true key link i is never = ends ((queue.Tracker n, item.Release key) ∷ []) (ready_silent w n name configs log at seed n true key link (name_of x) rest) i is never
    ready false key link i is never = ends ((queue.Spawner n, item.Spawn key link) ∷ []) (ready_silent w n name configs log at seed n false key link (name_of x) rest) i is never

    accepted_few : (b : Bool) → 0 + one (b && true) ≤ one b
    accepted_few true = omega arith
    accepted_few false = omega arith

    asked_few : (b c : Bool) → one b + one (c && false) ≤ 1
    asked_few true true = omega arith
    asked_few true false = omega arith
    asked_few false true = omega arith
    asked_few false false = omega arith

    by_item : (full : Bool) (peer : Handshake) (i : Item) → x.item ≡ i → Answers w n name log ev (handshake_took_row n full name peer (name_of x) i rest)
    by_item full peer (item.Acceptable true) is = goes_on [] (item.Acceptable true) is (accepted_few w.acceptance)
    by_item full peer (item.Acceptable false) is = ends [] tt (item.Acceptable false) is refl
    by_item full peer (item.Finished true) is =
        let p : Queue × Item = (queue.Tracker n, item.AskListen name peer.key) in
        goes_on (p ∷ []) (item.Finished true) is (subst (λ c. c + one (w.acceptance && false) ≤ 1) (sym (count_by-one (is_for w n name) p)) (asked_few (is_for w n name p) w.acceptance))
    by_item full peer (item.Finished false) is = ends [] tt (item.Finished false) is refl
    by_item full peer (item.Listen (Some key)) is = ready full key peer.link (item.Listen (Some key)) is refl
    by_item full peer (item.Listen None) is = ends [] tt (item.Listen None) is refl
    by_item full peer i is = ends [] tt i is refl

  by_line : (full due : Bool) (o : Option Handshake) (xs : List Envelope) → line log q ≡ xs → Answers w n name log ev (handshake_turn n full due name o xs)
  by_line full due None xs first = idle reply.Gone
  by_line full true (Some peer) [] none = expired
  by_line full false (Some peer) [] none = idle reply.Idle
  by_line full due (Some peer) (x ∷ rest) first = by_item x rest first full peer x.item refl

  own_answers : Answers w n name log ev (handshake_step_row configs log name n at)
  own_answers =
      let r : Row = handshake_row configs log name n at in
      dropped w n name log ev r (cond (broke_off r.reply (map (λ x. x.item) (take 1 (line log q))) r.puts) (listening_end (came_over log name)) None) (by (is_handshaking log n name))
      (handshake_shape configs log name n at).moves
    where
      by : (b : Bool) → Answers w n name log ev
          (cond b (handshake_turn n (is_spawner_full configs log n) (is_due (handshake_deadline configs log name n) at (is_finished log n name)) name (handshake_at log name) (line log q)) (only reply.Gone))
      by true = by_line (is_spawner_full configs log n) (is_due (handshake_deadline configs log name n) at (is_finished log n name)) (handshake_at log name) (line log q) refl
      by false = idle reply.Gone

  pub handshake_answers : (k m : ℕ) → Answers w n name log (event (act.Handshake k m)) (handshake_step_row configs log k m at)
  handshake_answers k m = by ((m == n) && (k == name)) refl
    where
      by : (b : Bool) → ((m == n) && (k == name)) ≡ b → Answers w n name log (event (act.Handshake k m)) (handshake_step_row configs log k m at)
      by true same =
          let both = and_parts (m == n) (k == name) same in
          subst (λ i. Answers w n name log (event (act.Handshake k i)) (handshake_step_row configs log k i at)) (sym (eqb-true m n both.0))
          (subst (λ i. Answers w n name log (event (act.Handshake i n)) (handshake_step_row configs log i n at)) (sym (eqb-true k name both.1)) own_answers)
      by false other = other_answers k m other
