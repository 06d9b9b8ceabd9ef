-- The peer of a handshake is asked for once, while the handshake runs, and after keys were exchanged.
use Rattle.std.proofs.Common.{◌≡◌, ℕ, zero, suc, ◌+◌, ◌≤◌, Bool, true, false, cond, List, [], ◌∷◌, ◌++◌, map, take, length, Option, Some, None, ◌⊎◌, inl, inr, refl, ap, sym, subst, ◌∙◌, arith, eqb-true}
use Rattle.std.specs.Prelude.{◌==◌, ◌&&◌, ◌||◌, not, count_by, filter}
use Rattle.std.specs.Option.{option_map}
use Rattle.std.specs.List.{AllByRecursion as Each}
use Rattle.std.proofs.lemmas.Bool.{and_parts}
use Rattle.std.proofs.lemmas.List.Sums.{sum_by-cons}
use Rattle.p2p_log_rules.proofs.Bools.{and_false, or_true}
use Rattle.p2p_base.specs.declared.key.Key.{Key}
use Rattle.p2p_log.specs.declared.config.Config.{Config}
use Rattle.p2p_log.specs.declared.queue.Queue.{Queue}
use Rattle.p2p_log.specs.declared.queue.Queue.TheVariants as queue
use Rattle.p2p_log.specs.declared.item.Item.{Item}
use Rattle.p2p_log.specs.declared.item.Item.TheVariants as item
use Rattle.p2p_log.specs.declared.item.Envelope.{Envelope}
use Rattle.p2p_log.specs.declared.entry.Entry.{Entry}
use Rattle.p2p_log.specs.declared.entry.Reply.TheVariants as reply
use Rattle.p2p_log.specs.declared.event.Act.TheVariants as act
use Rattle.p2p_log.specs.declared.event.Event.{Event}
use Rattle.p2p_log.specs.QueueCode.{same_queue}
use Rattle.p2p_log.specs.Lines.{name_of, stays, stands_in, live_from, live, line}
use Rattle.p2p_log.proofs.Each.{Each-from_has, count_by-none}
use Rattle.p2p_log_rules.proofs.Channels.{IsStopOf, stops_or_not}
use Rattle.p2p_log_laws.proofs.StopLeaves.{stop_empties, none_passes}
use Rattle.p2p_log.proofs.Names.{AreApart-live_from}
use Rattle.p2p_log.proofs.Queues.{same_queue-refl}
use Rattle.p2p_log.proofs.Taken.{sum_by-taken}
use Rattle.p2p_log_rules.specs.declared.row.Row.{Row}
use Rattle.p2p_log_rules.specs.Dropping.{LinkEnd, dropping, listening_end}
use Rattle.p2p_log_rules.specs.Puts.{broke_off}
use Rattle.p2p_log_rules.specs.Effect.{effect, entry_of, row}
use Rattle.p2p_log_rules.specs.Facts.{taken}
use Rattle.p2p_log_rules.specs.Handshakes.{ends_handshake, handshakes_of, is_handshaking, takes_exchange, is_finished, Handshake, handshake_at, came_over}
use Rattle.p2p_log_rules.specs.Handshaking.{handshake_deadline, exchanged_row, handshake_took_row, is_due, handshake_turn, handshake_row}
use Rattle.p2p_log_rules.specs.Moves.{Moves}
use Rattle.p2p_log_rules.specs.Rows.{only, is_spawner_full}
use Rattle.p2p_log_rules.specs.Attempting.{dial_rules_at}
use Rattle.p2p_log_rules.proofs.HandshakeEnds.{among_more}
use Rattle.p2p_log_rules.proofs.Handshakes.{without_name, Begins, Ends, Stops, handshakes_of-shaken, handshakes_now, is_among, among-without}
use Rattle.p2p_log_rules.proofs.HandshakeTook.{IsOther, step_or_other, has_taken-step, has_taken-other}
use Rattle.p2p_log_rules.proofs.Moves.{one_taken}
use Rattle.p2p_log_rules.proofs.HandshakeBegun.{handshaking_begun}
use Rattle.p2p_log_laws.specs.Grants.{one}
use Rattle.p2p_log_laws.specs.NodeGrants.{put_of}
use Rattle.p2p_log_laws.specs.OneAnswer.{Words, answers, exchanges, tells, asks_about, is_for, waiting_for, asks_for, is_asked, waiting_asked, HasOne, is_open}
use Rattle.p2p_log_laws.proofs.Asking.{each_unasked}
use Rattle.p2p_log_laws.proofs.Dropped.{flying, taken_same, ended_more, taken-dropping}
use Rattle.p2p_log_laws.proofs.HandshakeShape.{handshake_moves, handshake_shape}
use Rattle.p2p_log_laws.proofs.LineShape.{whole_taken, in_line}
use Rattle.p2p_log_laws.proofs.Shape.{no_moves, one_move}
use Rattle.p2p_log_laws.proofs.Shapes.{row_shape}
use Rattle.p2p_log_laws.proofs.Weighing.{weight, weighed, count_by-one, taken_items}

module _ (n name : ℕ) where
  abbrev q : Queue
  q = queue.Handshake n name

  -- ---- what asks for its peer counts among all words

  least : (a b : Bool) → one a ≤ one (a || b)
  least true b = omega arith
  least false b = omega arith

  none : (a c : Bool) → one (a && false) ≤ one c
  none true c = omega arith
  none false c = omega arith

  asked_counts : (w : Words) (x : Queue × Item) → one (is_asked n name x) ≤ one (is_for w n name x)
  asked_counts w x = by x.1
    where
      by : (i : Item) → one (is_asked n name (x.0, i)) ≤ one (is_for w n name (x.0, i))
      by (item.AskListen k key) = least (same_queue (queue.Tracker n) x.0 && (k == name)) (same_queue q x.0 && tells w (item.AskListen k key))
      by i = none (same_queue (queue.Tracker n) x.0) (is_for w n name (x.0, i))

  all_count : (w : Words) (xs : List Envelope) → weight (is_asked n name) xs ≤ weight (is_for w n name) xs
  all_count w [] = omega arith
  all_count w (x ∷ xs) =
      sums (weight (is_asked n name) (x ∷ xs)) (one (is_asked n name (put_of x))) (weight (is_asked n name) xs) (weight (is_for w n name) (x ∷ xs)) (one (is_for w n name (put_of x))) (weight (is_for w n name) xs)
      (sum_by-cons (λ y. cond (is_asked n name (put_of y)) 1 0) x xs) (sum_by-cons (λ y. cond (is_for w n name (put_of y)) 1 0) x xs) (asked_counts w (put_of x)) (all_count w xs)
    where
      sums : (a b c d e f : ℕ) → a ≡ b + c → d ≡ e + f → b ≤ e → c ≤ f → a ≤ d
      sums a b c d e f is also le more = omega (arith, is, also, le, more)

  -- what stands in its line asks for nobody
  line_unasked : (log : List Entry) → weight (is_asked n name) (line log q) ≡ 0
  line_unasked log = count_by-none (λ x. is_asked n name (put_of x)) (line log q) (aside (line log q) (in_line log q))
    where
      aside : (xs : List Envelope) → Each (λ x. x.queue ≡ q) xs → Each (λ x. is_asked n name (put_of x) ≡ false) xs
      aside [] h = tt
      aside (x ∷ xs) h = (ap (λ p. same_queue (queue.Tracker n) p && asks_for n name x.item) h.0, aside xs h.1)

  module _ (log : List Entry) where
    abbrev pub left : List Envelope
    left = filter (stays (map name_of (line log q))) (live log)

    pub splits : (p : Queue × Item → Bool) → weight p (live log) ≡ weight p (line log q) + weight p left
    splits p = sum_by-taken (λ x. cond (p (put_of x)) 1 0) (live log) (line log q) (AreApart-live_from 0 log) (whole_taken log q)

    -- where its peer is asked for, and something waits for it that counts, two of these wait
    pub crowded : (w : Words) (x : Envelope) (rest : List Envelope) → line log q ≡ x ∷ rest → tells w x.item ≡ true → 1 ≤ waiting_asked n name log → 2 ≤ waiting_for w n name log
    crowded w x rest first counts asked =
        two (waiting_asked n name log) (weight (is_asked n name) left) (waiting_for w n name log) (weight (is_for w n name) (line log q)) (weight (is_for w n name) left) (weight (is_for w n name) rest)
        (splits (is_asked n name) ∙ ap (λ k. k + weight (is_asked n name) left) (line_unasked log)) (splits (is_for w n name))
        (ap (weight (is_for w n name)) first ∙ (sum_by-cons (λ y. cond (is_for w n name (put_of y)) 1 0) x rest ∙ ap (λ k. k + weight (is_for w n name) rest) (ap one here))) (all_count w left) asked
      where
        here : is_for w n name (put_of x) ≡ true
        here =
            ap (λ p. (same_queue (queue.Tracker n) p && asks_about w n name x.item) || (same_queue q p && tells w x.item)) (one_taken log q x rest first)
            ∙ (ap (λ b. b && tells w x.item) (same_queue-refl q) ∙ counts)

        two : (a b c d e f : ℕ) → a ≡ 0 + b → c ≡ d + e → d ≡ 1 + f → b ≤ e → 1 ≤ a → 2 ≤ c
        two a b c d e f is sum first le some = omega (arith, is, sum, first, le, some)

    -- each word counts in one of the two ways
    pub either : HasOne n name answers log → HasOne n name exchanges log → (x : Envelope) (rest : List Envelope) → line log q ≡ x ∷ rest → 1 ≤ waiting_asked n name log → ⊥
    either answered exchanged x rest first asked = by x.item refl
      where
        over : (a b : ℕ) → 2 ≤ a → a + b ≤ 1 → ⊥
        over a b two one_only = omega (arith, two, one_only)

        counts_answers : tells answers x.item ≡ true → ⊥
        counts_answers counts = over (waiting_for answers n name log) (one (is_open n name answers log)) (crowded answers x rest first counts asked) answered

        counts_exchanges : tells exchanges x.item ≡ true → ⊥
        counts_exchanges counts = over (waiting_for exchanges n name log) (one (is_open n name exchanges log)) (crowded exchanges x rest first counts asked) exchanged

        by : (i : Item) → x.item ≡ i → ⊥
        by (item.Acceptable b) is = counts_answers (ap (tells answers) is)
        by (item.Finished true) is = counts_answers (ap (tells answers) is)
        by (item.Finished false) is = counts_exchanges (ap (tells exchanges) is)
        by i is = counts_answers (ap (tells answers) is)

-- ---- what an entry makes of it

module _ (configs : List Config) (n name : ℕ) where
  -- whether it runs and keys were exchanged
  abbrev pub goes_on : List Entry → Bool
  goes_on log = is_handshaking log n name && is_finished log n name

  abbrev pub Asked : List Entry → Type 0
  Asked log = waiting_asked n name log + one (not (goes_on log)) ≤ 1

  pub asked_first : Asked []
  unfolding live_from
  asked_first = at_most (not (goes_on []))
    where
      at_most : (b : Bool) → 0 + one b ≤ 1
      at_most true = omega arith
      at_most false = omega arith

  at_most : (b : Bool) → one b ≤ 1
  at_most true = omega arith
  at_most false = omega arith

  none_asked : (a b : ℕ) → a ≡ 0 → b ≤ 1 → a + b ≤ 1
  none_asked a b is le = omega (arith, is, le)

  module _ (log : List Entry) (ev : Event) where
    -- an act that is no step of it
    module _ (other : IsOther n name ev.act) where
      abbrev r : Row
      r = row configs log ev.at ev.seed ev.act

      abbrev e : Entry
      e = entry_of ev r

      finished_kept : is_finished (log ++ e ∷ []) n name ≡ is_finished log n name
      finished_kept = has_taken-other takes_exchange log e n name other

      runs_on : is_handshaking log n name ≡ true → (handshakes_of (log ++ e ∷ []) n ≡ handshakes_of log n) ⊎ (Begins log e n ⊎ (Ends log e n ⊎ Stops log e n)) → (IsStopOf log e n → ⊥) → is_handshaking (log ++ e ∷ []) n name ≡ true
      runs_on runs (inl same) goes = ap (is_among name) same ∙ runs
      runs_on runs (inr (inl begins)) goes = ap (is_among name) begins.now ∙ among_more name (length log) (handshakes_of log n) runs
      runs_on runs (inr (inr (inr stops))) goes = absurd (goes stops.stop)
      runs_on runs (inr (inr (inl ends))) goes =
          ap (is_among name) ends.now ∙ (among-without ends.name name (handshakes_of log n) ∙ (ap (λ b. not b && is_handshaking log n name) (apart (name == ends.name) refl) ∙ runs))
        where
          apart : (b : Bool) → (name == ends.name) ≡ b → (name == ends.name) ≡ false
          apart true is = absurd (other (ends.acts ∙ ap (λ k. act.Handshake k n) (sym (eqb-true name ends.name is))))
          apart false is = is

      kept : (IsStopOf log e n → ⊥) → goes_on log ≡ true → goes_on (log ++ e ∷ []) ≡ true
      kept goes h =
          let both = and_parts (is_handshaking log n name) (is_finished log n name) h in
          let running : is_handshaking (log ++ e ∷ []) n name ≡ true = runs_on both.0 (handshakes_now log e n) goes in
          ap (λ b. b && is_finished (log ++ e ∷ []) n name) running ∙ (finished_kept ∙ both.1)

      -- where its node stops, nobody asks any more
      stop_asked : IsStopOf log e n → Asked (log ++ e ∷ [])
      unfolding effect
      stop_asked stop =
          let empty : line (log ++ e ∷ []) (queue.Tracker n) ≡ [] = stop_empties configs log ev n stop (queue.Tracker n) (inr (inl refl)) in
          none_asked (waiting_asked n name (log ++ e ∷ [])) (one (not (goes_on (log ++ e ∷ []))))
          (none_passes (is_asked n name) (log ++ e ∷ [])
          (Each-from_has (λ x. is_asked n name (put_of x) ≡ true → (q : Queue) × (stands_in q x ≡ true) × (line (log ++ e ∷ []) q ≡ [])) (live (log ++ e ∷ []))
          (λ x has is. (queue.Tracker n, (and_parts (same_queue (queue.Tracker n) x.queue) (asks_for n name x.item) is).0, empty))))
          (at_most (not (goes_on (log ++ e ∷ []))))

      goes_asked : (IsStopOf log e n → ⊥) → Asked log → Asked (log ++ e ∷ [])
      goes_asked goes h =
          let m : Moves log r = (row_shape configs log ev.at ev.seed ev.act).moves in
          less (waiting_asked n name (log ++ e ∷ [])) (weight (is_asked n name) m.taken + weight (is_asked n name) m.ended) (waiting_asked n name log) (count_by (is_asked n name) r.puts)
          (one (not (goes_on (log ++ e ∷ [])))) (one (not (goes_on log))) (weighed log ev r m (is_asked n name))
          (count_by-none (is_asked n name) r.puts (each_unasked n name configs log ev.at ev.seed ev.act other)) (by (goes_on log) refl) h
        where
          less : (now gone old more a b : ℕ) → now + gone ≡ old + more → more ≡ 0 → a ≤ b → old + b ≤ 1 → now + a ≤ 1
          less now gone old more a b moved none le before = omega (arith, moved, none, le, before)

          by : (b : Bool) → goes_on log ≡ b → one (not (goes_on (log ++ e ∷ []))) ≤ one (not (goes_on log))
          by true is = subst (λ c. one (not c) ≤ one (not (goes_on log))) (sym (kept goes is)) (omega arith)
          by false is = subst (λ c. one (not (goes_on (log ++ e ∷ []))) ≤ one (not c)) (sym is) (at_most (not (goes_on (log ++ e ∷ []))))

      other_asked : Asked log → Asked (log ++ e ∷ [])
      other_asked h = elim (stops_or_not log e n) [ inl stop ↦ stop_asked stop | inr goes ↦ goes_asked goes h ]

  -- ---- its own step

  module _ (log : List Entry) (at seed : ℕ) where
    abbrev ev : Event
    ev = record { at = at; seed = seed; act = act.Handshake name n }

    abbrev own : Queue
    own = queue.Handshake n name

    -- nothing asks, or has asked
    unasked : (r : Row) → Moves log r → waiting_asked n name log ≡ 0 → count_by (is_asked n name) r.puts ≡ 0 → Asked (log ++ entry_of ev r ∷ [])
    unasked r m no_one none =
        none_asked (waiting_asked n name (log ++ entry_of ev r ∷ [])) (one (not (goes_on (log ++ entry_of ev r ∷ []))))
        (nothing (waiting_asked n name (log ++ entry_of ev r ∷ [])) (weight (is_asked n name) m.taken + weight (is_asked n name) m.ended) (waiting_asked n name log) (count_by (is_asked n name) r.puts)
        (weighed log ev r m (is_asked n name)) no_one none) (at_most (not (goes_on (log ++ entry_of ev r ∷ []))))
      where
        nothing : (now gone old more : ℕ) → now + gone ≡ old + more → old ≡ 0 → more ≡ 0 → now ≡ 0
        nothing now gone old more moved is also = omega (arith, moved, is, also)

    -- it waits for the answer
    idle : goes_on log ≡ true → Asked log → Asked (log ++ entry_of ev (only reply.Idle) ∷ [])
    idle on h =
        let r : Row = only reply.Idle in
        let e : Entry = entry_of ev r in
        let m : Moves log r = no_moves log r refl refl in
        let both = and_parts (is_handshaking log n name) (is_finished log n name) on in
        let running : is_handshaking (log ++ e ∷ []) n name ≡ true = ap (is_among name) (handshakes_of-shaken log e n name refl) ∙ both.0 in
        let finished : is_finished (log ++ e ∷ []) n name ≡ true = has_taken-step takes_exchange log e n name refl ∙ (ap (λ b. takes_exchange (taken log e) || b) both.1 ∙ or_true (takes_exchange (taken log e))) in
        same (waiting_asked n name (log ++ e ∷ [])) (waiting_asked n name log) (one (not (goes_on (log ++ e ∷ [])))) (one (not (goes_on log))) (weighed log ev r m (is_asked n name))
        (ap (λ b. one (not b)) (ap (λ b. b && is_finished (log ++ e ∷ []) n name) running ∙ finished)) h
      where
        same : (now old a b : ℕ) → now + 0 ≡ old + 0 → a ≡ 0 → old + b ≤ 1 → now + a ≤ 1
        same now old a b moved none before = omega (arith, moved, none, before)

    module _ (x : Envelope) (rest : List Envelope) (first : line log own ≡ x ∷ rest) (no_one : waiting_asked n name log ≡ 0) (runs : is_handshaking log n name ≡ true) where
      -- it asks for its peer
      asks : (key : Key) → x.item ≡ item.Finished true → Asked (log ++ entry_of ev (exchanged_row n name key (name_of x)) ∷ [])
      asks key is =
          let r : Row = exchanged_row n name key (name_of x) in
          let e : Entry = entry_of ev r in
          let m : Moves log r = one_move log own x rest first r refl refl in
          let p : Queue × Item = (queue.Tracker n, item.AskListen name key) in
          let took : taken log e ≡ item.Finished true ∷ [] = taken_items log ev r m ∙ ap (λ i. i ∷ []) is in
          let running : is_handshaking (log ++ e ∷ []) n name ≡ true =
          ap (is_among name) (handshakes_of-shaken log e n name refl ∙ ap (λ i. cond (ends_handshake reply.Ok i) (without_name name (handshakes_of log n)) (handshakes_of log n)) took) ∙ runs
          in
          let finished : is_finished (log ++ e ∷ []) n name ≡ true = has_taken-step takes_exchange log e n name refl ∙ ap (λ i. takes_exchange i || is_finished log n name) took in
          one_asked (waiting_asked n name (log ++ e ∷ [])) (weight (is_asked n name) m.taken + weight (is_asked n name) m.ended) (waiting_asked n name log) (count_by (is_asked n name) (p ∷ [])) (one (is_asked n name p))
          (one (not (goes_on (log ++ e ∷ [])))) (weighed log ev r m (is_asked n name)) no_one (count_by-one (is_asked n name) p) (at_most (is_asked n name p))
          (ap (λ b. one (not b)) (ap (λ b. b && is_finished (log ++ e ∷ []) n name) running ∙ finished))
        where
          one_asked : (now gone old more a b : ℕ) → now + gone ≡ old + more → old ≡ 0 → more ≡ a → a ≤ 1 → b ≡ 0 → now + b ≤ 1
          one_asked now gone old more a b moved is also le none = omega (arith, moved, is, also, le, none)

      -- its row, by its oldest item
      by_item : (full : Bool) (peer : Handshake) (i : Item) → x.item ≡ i → Moves log (handshake_took_row n full name peer (name_of x) i rest) → Asked (log ++ entry_of ev (handshake_took_row n full name peer (name_of x) i rest) ∷ [])
      by_item full peer (item.Finished true) is m = asks peer.key is
      by_item full peer (item.Finished false) is m = unasked (handshake_took_row n full name peer (name_of x) (item.Finished false) rest) m no_one refl
      by_item full peer (item.Acceptable true) is m = unasked (handshake_took_row n full name peer (name_of x) (item.Acceptable true) rest) m no_one refl
      by_item full peer (item.Acceptable false) is m = unasked (handshake_took_row n full name peer (name_of x) (item.Acceptable false) rest) m no_one refl
      by_item true peer (item.Listen (Some key)) is m =
          unasked (handshake_took_row n true name peer (name_of x) (item.Listen (Some key)) rest) m no_one (count_by-one (is_asked n name) (queue.Tracker n, item.Release key) ∙ ap one (and_false (same_queue (queue.Tracker n) (queue.Tracker n))))
      by_item false peer (item.Listen (Some key)) is m =
          unasked (handshake_took_row n false name peer (name_of x) (item.Listen (Some key)) rest) m no_one (count_by-one (is_asked n name) (queue.Spawner n, item.Spawn key peer.link))
      by_item full peer (item.Listen None) is m = unasked (handshake_took_row n full name peer (name_of x) (item.Listen None) rest) m no_one refl
      by_item full peer i is m = unasked (handshake_took_row n full name peer (name_of x) i rest) m no_one refl

    module _ (answered : HasOne n name answers log) (exchanged : HasOne n name exchanges log) (h : Asked log) where
      abbrev full : Bool
      full = is_spawner_full configs log n

      abbrev due : Bool
      due = is_due (handshake_deadline configs log name n) at (is_finished log n name)

      abbrev turn : Bool → Bool → List Envelope → Row
      turn d runs xs = cond runs (handshake_turn n full d name (handshake_at log name) xs) (only reply.Gone)

      abbrev own_row : Row
      own_row = handshake_row configs log name n at

      -- it goes on while it is asked for
      on_then : 1 ≤ waiting_asked n name log → goes_on log ≡ true
      on_then asked = by (goes_on log) refl
        where
          never : (a : ℕ) → 1 ≤ a → a + 1 ≤ 1 → ⊥
          never a some le = omega (arith, some, le)

          by : (b : Bool) → goes_on log ≡ b → goes_on log ≡ true
          by true is = is
          by false is = absurd (never (waiting_asked n name log) asked (subst (λ b. waiting_asked n name log + one (not b) ≤ 1) is h))

      -- while it is asked for, nothing waits for it, and its deadline stands still
      awaits : 1 ≤ waiting_asked n name log → own_row ≡ only reply.Idle
      awaits asked = by_line (line log own) refl
        where
          -- one that runs has begun, and where keys were exchanged its deadline stands still
          waits : {s : Handshake} (o : Option Handshake) → o ≡ Some s
              → handshake_turn n full (is_due (option_map (λ (h : Handshake). h.at + (dial_rules_at configs n).handshake_timeout) o) at true) name o [] ≡ only reply.Idle
          waits None begun = absurd (cc)
          waits (Some s) begun = refl

          by_line : (xs : List Envelope) → line log own ≡ xs → own_row ≡ only reply.Idle
          by_line [] empty =
              let both = and_parts (is_handshaking log n name) (is_finished log n name) (on_then asked) in
              ap (turn due (is_handshaking log n name)) empty
              ∙ (ap (λ b. turn due b []) both.0
              ∙ (ap (λ b. turn (is_due (handshake_deadline configs log name n) at b) true []) both.1 ∙ waits (handshake_at log name) (handshaking_begun log n name both.0).1))
          by_line (x ∷ rest) first = absurd (either n name log answered exchanged x rest first asked)

      -- where nobody asks, it may ask
      may_ask : waiting_asked n name log ≡ 0 → Asked (log ++ entry_of ev own_row ∷ [])
      may_ask no_one = by_running (is_handshaking log n name) refl
        where
          by_line : (o : Option Handshake) (xs : List Envelope) → line log own ≡ xs → (d : Bool) → is_handshaking log n name ≡ true → Moves log (handshake_turn n full d name o xs)
              → Asked (log ++ entry_of ev (handshake_turn n full d name o xs) ∷ [])
          by_line None xs first d runs m = unasked (only reply.Gone) m no_one refl
          by_line (Some peer) [] first true runs m = unasked (handshake_turn n full true name (Some peer) []) m no_one refl
          by_line (Some peer) [] first false runs m = unasked (handshake_turn n full false name (Some peer) []) m no_one refl
          by_line (Some peer) (x ∷ rest) first d runs m = by_item x rest first no_one runs full peer x.item refl m

          by_running : (b : Bool) → is_handshaking log n name ≡ b → Asked (log ++ entry_of ev own_row ∷ [])
          by_running false gone =
              let is : own_row ≡ only reply.Gone = ap (λ b. turn due b (line log own)) gone in
              subst (λ s. Asked (log ++ entry_of ev s ∷ [])) (sym is) (unasked (only reply.Gone) (no_moves log (only reply.Gone) refl refl) no_one refl)
          by_running true runs =
              let is : own_row ≡ turn due true (line log own) = ap (λ b. turn due b (line log own)) runs in
              subst (λ s. Asked (log ++ entry_of ev s ∷ [])) (sym is) (by_line (handshake_at log name) (line log own) refl due runs (subst (Moves log) is (handshake_moves configs log name n at)))

      pub own_asked : Asked (log ++ entry_of ev own_row ∷ [])
      own_asked = by (waiting_asked n name log) refl
        where
          by : (k : ℕ) → waiting_asked n name log ≡ k → Asked (log ++ entry_of ev own_row ∷ [])
          by zero no_one = may_ask no_one
          by (suc k) some =
              let asked : 1 ≤ waiting_asked n name log = positive (waiting_asked n name log) k some in
              subst (λ s. Asked (log ++ entry_of ev s ∷ [])) (sym (awaits asked)) (idle (on_then asked) h)
            where
              positive : (a b : ℕ) → a ≡ suc b → 1 ≤ a
              positive a b is = omega (arith, is)

  -- ---- any entry

  -- the same where it drops an end too
  dropped_asked : (log : List Entry) (ev : Event) (acts : ev.act ≡ act.Handshake name n) (r : Row) (o : Option LinkEnd) → Moves log r → Moves log (dropping log o r) → Asked (log ++ entry_of ev r ∷ []) → Asked (log ++ entry_of ev (dropping log o r) ∷ [])
  dropped_asked log ev acts r None m d h = h
  dropped_asked log ev acts r (Some cut) m d h =
      let s : Row = dropping log (Some cut) r in
      fewer (waiting_asked n name (log ++ entry_of ev s ∷ [])) (waiting_asked n name (log ++ entry_of ev r ∷ [])) (weight (is_asked n name) d.taken) (weight (is_asked n name) m.taken) (weight (is_asked n name) d.ended)
      (weight (is_asked n name) m.ended) (weight (is_asked n name) (flying log (Some cut))) (waiting_asked n name log + count_by (is_asked n name) r.puts) (one (not (goes_on (log ++ entry_of ev s ∷ []))))
      (one (not (goes_on (log ++ entry_of ev r ∷ [])))) (weighed log ev s d (is_asked n name)) (weighed log ev r m (is_asked n name)) (taken_same log r (Some cut) m d (is_asked n name))
      (ended_more log r (Some cut) m d (is_asked n name)) (ap (λ b. one (not b)) same) h
    where
      fewer : (now then t u e f more all a b : ℕ) → now + (t + e) ≡ all → then + (u + f) ≡ all → t ≡ u → e ≡ f + more → a ≡ b → then + b ≤ 1 → now + a ≤ 1
      fewer now then t u e f more all a b moved before is also same le = omega (arith, moved, before, is, also, same, le)

      took : taken log (entry_of ev (dropping log (Some cut) r)) ≡ taken log (entry_of ev r)
      took = taken-dropping log ev (Some cut) r

      running : is_handshaking (log ++ entry_of ev (dropping log (Some cut) r) ∷ []) n name ≡ is_handshaking (log ++ entry_of ev r ∷ []) n name
      running =
          ap (is_among name)
          (handshakes_of-shaken log (entry_of ev (dropping log (Some cut) r)) n name acts
          ∙ (ap (λ items. cond (ends_handshake r.reply items) (without_name name (handshakes_of log n)) (handshakes_of log n)) took ∙ sym (handshakes_of-shaken log (entry_of ev r) n name acts)))

      finished : is_finished (log ++ entry_of ev (dropping log (Some cut) r) ∷ []) n name ≡ is_finished (log ++ entry_of ev r ∷ []) n name
      finished =
          has_taken-step takes_exchange log (entry_of ev (dropping log (Some cut) r)) n name acts
          ∙ (ap (λ items. takes_exchange items || is_finished log n name) took ∙ sym (has_taken-step takes_exchange log (entry_of ev r) n name acts))

      same : goes_on (log ++ entry_of ev (dropping log (Some cut) r) ∷ []) ≡ goes_on (log ++ entry_of ev r ∷ [])
      same = ap (λ b. b && is_finished (log ++ entry_of ev (dropping log (Some cut) r) ∷ []) n name) running ∙ ap (λ b. is_handshaking (log ++ entry_of ev r ∷ []) n name && b) finished

  own_effect : (log : List Entry) (at seed : ℕ) → HasOne n name answers log → HasOne n name exchanges log → Asked log
      → Asked (log ++ entry_of (record { at = at; seed = seed; act = act.Handshake name n }) (row configs log at seed (act.Handshake name n)) ∷ [])
  unfolding row
  own_effect log at seed answered exchanged h =
      let r : Row = handshake_row configs log name n at in
      dropped_asked log (record { at = at; seed = seed; act = act.Handshake name n }) refl r
      (cond (broke_off r.reply (map (λ x. x.item) (take 1 (line log (queue.Handshake n name)))) r.puts) (listening_end (came_over log name)) None)
      (handshake_moves configs log name n at) (handshake_shape configs log name n at).moves (own_asked log at seed answered exchanged h)

  pub asked_more : (log : List Entry) (ev : Event) → HasOne n name answers log → HasOne n name exchanges log → Asked log → Asked (log ++ effect configs log ev ∷ [])
  unfolding effect
  asked_more log ev answered exchanged h = by (step_or_other n name ev.act)
    where
      by : (ev.act ≡ act.Handshake name n) ⊎ IsOther n name ev.act → Asked (log ++ entry_of ev (row configs log ev.at ev.seed ev.act) ∷ [])
      by (inr other) = other_asked log ev other h
      by (inl acts) =
          subst (λ (v : Event). Asked (log ++ entry_of v (row configs log v.at v.seed v.act) ∷ [])) (ap (λ a. record { at = ev.at; seed = ev.seed; act = a }) (sym acts))
          (own_effect log ev.at ev.seed answered exchanged h)
