-- What each act does to the grants of a key at a node: what a row has to show, and rows that move none, that end a connection, and that drop the end of a link.
use Rattle.std.proofs.Common.{◌≡◌, ℕ, ◌+◌, Bool, true, false, cond, List, [], ◌∷◌, ◌++◌, length, Option, Some, None, refl, ap, sym, subst, ◌∙◌, arith, eqb-true, length-append, inl, inr}
use Rattle.std.specs.Prelude.{◌==◌, ◌&&◌, ◌||◌, count_by}
use Rattle.std.specs.List.{AllByRecursion as Each, list_any}
use Rattle.std.proofs.lemmas.Bool.{false≢true}
use Rattle.std.proofs.lemmas.Bool.Decides.{nat_tests}
use Rattle.std.proofs.lemmas.List.Sums.{sum_by-append, sum_by-cons}
use Rattle.p2p_log_rules.proofs.Bools.{and_false}
use Rattle.p2p_base.specs.declared.key.Key.{Key}
use Rattle.p2p_tracker_calls.specs.declared.call.Call.{Call}
use Rattle.p2p_tracker_calls.specs.Blocks.{is_local}
use Rattle.p2p_tracker_calls.specs.Grants.{is_held}
use Rattle.p2p_tracker_calls.specs.Jitter.{jitter_of}
use Rattle.p2p_log.specs.declared.config.Config.{Config}
use Rattle.p2p_log.specs.declared.queue.Queue.TheVariants as queue
use Rattle.p2p_log.specs.declared.queue.Side.{Side}
use Rattle.p2p_log.specs.declared.queue.Side.TheVariants as side
use Rattle.p2p_log.specs.declared.item.Item.{Item}
use Rattle.p2p_log.specs.declared.item.Item.TheVariants as item
use Rattle.p2p_log.specs.declared.entry.Entry.{Entry}
use Rattle.p2p_log.specs.declared.event.Act.{Act}
use Rattle.p2p_log.specs.declared.event.Act.TheVariants as act
use Rattle.p2p_log.specs.declared.event.Event.{Event}
use Rattle.p2p_log.proofs.Each.{Each-weaker, count_by-none}
use Rattle.p2p_log.proofs.Queues.{same_queue-refl}
use Rattle.p2p_log_rules.specs.declared.row.Half.{Half}
use Rattle.p2p_log_rules.specs.declared.row.Row.{Row}
use Rattle.p2p_log_rules.specs.Attempting.{Attempt, dial_rules_at, attempts_of}
use Rattle.p2p_log_rules.specs.Tellings.{Telling}
use Rattle.p2p_log_rules.specs.Told.{act_tells, tells, told}
use Rattle.p2p_log_rules.proofs.Attempts.{attempt_told, attempts_by}
use Rattle.p2p_log_rules.specs.Connections.{is_end, is_over, ends_connection, is_ended, live_connection, live_half}
use Rattle.p2p_log_rules.specs.Dropping.{LinkEnd, other_side, dropping}
use Rattle.p2p_log_rules.specs.Effect.{entry_of}
use Rattle.p2p_log_rules.proofs.Attempts.{attempts_of-append}
use Rattle.p2p_log_rules.proofs.Connections.{EndsNone, ends_untold, is_ended-append}
use Rattle.p2p_log_rules.proofs.Spawning.{connections_of-acted}
use Rattle.p2p_log_rules.specs.Facts.{stops, taken, with_begun}
use Rattle.p2p_log_rules.specs.Moves.{Moves}
use Rattle.p2p_log_rules.specs.Spawning.{spawned_of, connections_of}
use Rattle.p2p_log_rules.specs.Tracking.{key_cmp, rules_at, grants_peer, calls_of}
use Rattle.p2p_log_rules.proofs.Calls.{step_calls, calls_by}
use Rattle.p2p_log_laws.proofs.Reaching.{reads, writes}
use Rattle.p2p_log_laws.specs.Grants.{one, Granting, turn_by, held_after}
use Rattle.p2p_log_laws.specs.NodeGrants.{count_below, is_attempt_of, is_connection_of, beginners_of, puts_grant, puts_release, tells_grant, tells_release, granting}
use Rattle.p2p_log_laws.proofs.Granting.{grants_elsewhere, frees_elsewhere}
use Rattle.p2p_log_laws.proofs.AttemptHolds.{held_by_attempts, holds_kept}
use Rattle.p2p_log_laws.proofs.ConnectionHolds.{held_by_connections, live_early, live_holds, connections_kept, connections_over}
use Rattle.p2p_log_laws.proofs.CountBelow.{none_below, count_below-same, count_below-more}
use Rattle.p2p_log_laws.proofs.EndShape.{is_named, all_released, AreNamedApart, each_released}
use Rattle.p2p_log_laws.proofs.Plain.{IsAside, Away, Plain, StandsPlain, IsPlain, away_aside, plain_aside, stand_aside, no_grants, no_releases, no_grants_stand, no_releases_stand, plain_out_of_reach}
use Rattle.p2p_log_laws.proofs.Shape.{Shape}
use Rattle.p2p_log_laws.proofs.Dropped.{taken_same, ended_more, flying_none, taken-dropping}
use Rattle.p2p_log_laws.proofs.HalfSteps.{released, IsStep}
use Rattle.p2p_log_laws.proofs.Weighing.{weight, count_by-one}
use Rattle.p2p_log_rules.proofs.Steps.{steps_tracker, steps_spawner}

-- an act that ends no connection stops no node
goes_on : (n : ℕ) (a : Act) → EndsNone a → stops n a ≡ false
goes_on n (act.Stop by_start m) none = absurd (false≢true none)
goes_on n _ none = refl

pub other_way : (m n : ℕ) → (m == n) ≡ false → (n == m) ≡ false
other_way m n h = grind (arith, nat_tests)

module _ (n : ℕ) (key : Key) where
  -- the releases of one release its peer
  one_released : (k : Key) → count_by (puts_release n key) (released n k) ≡ one (k.0 == key.0)
  one_released k =
      sum_by-cons (λ x. cond (puts_release n key x) 1 0) (queue.Router n, item.Release k) ((queue.Tracker n, item.Release k) ∷ [])
      ∙ (zero_more (count_by (puts_release n key) ((queue.Tracker n, item.Release k) ∷ []))
      ∙ (count_by-one (puts_release n key) (queue.Tracker n, item.Release k) ∙ ap one (ap (λ b. b && (k.0 == key.0)) (same_queue-refl (queue.Tracker n)))))
    where
      zero_more : (c : ℕ) → 0 + c ≡ c
      zero_more c = omega arith

  module _ (log : List Entry) where
    abbrev holds_key : ℕ → Bool
    holds_key k = is_connection_of key (live_connection log n k)

    -- those of several release the key as often as one of them holds it
    released_counted : (cs : List (ℕ × Half)) → AreNamedApart cs → Each (λ c. live_half log n c.0 ≡ Some c.1) cs
        → count_by (puts_release n key) (all_released n cs) ≡ count_below (length log) (λ k. list_any (is_named k) cs && holds_key k)
    released_counted [] apart lived = sym (none_below (length log))
    released_counted (c ∷ cs) apart lived =
        let all : count_by (puts_release n key) (all_released n (c ∷ cs)) ≡ count_by (puts_release n key) (released n c.1.peer) + count_by (puts_release n key) (all_released n cs) =
        sum_by-append (λ x. cond (puts_release n key x) 1 0) (released n c.1.peer) (all_released n cs)
        in
        let here : count_by (puts_release n key) (released n c.1.peer) ≡ one (holds_key c.0) = one_released c.1.peer ∙ ap one (sym (live_holds n key log c.0 c.1 lived.0)) in
        let rest = released_counted cs apart.1 lived.1 in
        let more = count_below-more holds_key (λ k. list_any (is_named k) cs) c.0 (length log) (live_early log n c.0 c.1 lived.0) apart.0 in
        omega (arith, all, here, rest, more)

module _ (configs : List Config) (n : ℕ) (key : Key) (log : List Entry) where
  abbrev g : Granting
  g = granting configs n key

  abbrev calls : List (Call Key)
  calls = calls_of configs log n

  abbrev f : ℕ → Option Attempt
  f = attempts_of configs log n

  -- what a row moves of the grants and releases, and the turn that it makes
  pub record Weighs (ev : Event) (r : Row) : Type 0 where
    pub moves : Moves log r
    pub holding : (beginners_of n key configs log + one (g.grants log (entry_of ev r))) + (weight (puts_grant n key) moves.taken + weight (puts_grant n key) moves.ended)
        ≡ beginners_of n key configs (log ++ entry_of ev r ∷ []) + (count_by (puts_grant n key) r.puts + count_by (puts_release n key) r.puts)
    pub waiting : weight (puts_release n key) moves.taken + weight (puts_release n key) moves.ended ≡ one (g.frees log (entry_of ev r))
    pub turn : is_held key_cmp (calls_by configs n log (entry_of ev r) calls) key ≡ held_after (is_held key_cmp calls key) (turn_by g log (entry_of ev r))
    -- a key that is granted was not held, is not the node's own, and is not freed as well
    pub free : g.grants log (entry_of ev r) ≡ true → is_held key_cmp calls key ≡ false
    pub others : g.grants log (entry_of ev r) ≡ true → is_local key_cmp (rules_at configs n) key ≡ false
    pub apart : g.grants log (entry_of ev r) ≡ true → g.frees log (entry_of ev r) ≡ false

  -- the turn that a row makes, whatever it moves
  pub record Turns (ev : Event) (r : Row) : Type 0 where
    pub turn : is_held key_cmp (calls_by configs n log (entry_of ev r) calls) key ≡ held_after (is_held key_cmp calls key) (turn_by g log (entry_of ev r))
    pub free : g.grants log (entry_of ev r) ≡ true → is_held key_cmp calls key ≡ false
    pub others : g.grants log (entry_of ev r) ≡ true → is_local key_cmp (rules_at configs n) key ≡ false

  pub weighs_turns : (ev : Event) (r : Row) → Weighs ev r → Turns ev r
  weighs_turns ev r w = record { turn = w.turn; free = w.free; others = w.others }

  -- ---- acts other than a step of the tracker

  module _ (ev : Event) (r : Row) (still : steps_tracker n ev.act ≡ false) where
    abbrev e : Entry
    e = entry_of ev r

    pub no_grant : g.grants log e ≡ false
    no_grant = grants_elsewhere n key log e still

    pub no_free : g.frees log e ≡ false
    no_free = frees_elsewhere n key log e still

    abbrev stepped : List (Call Key)
    stepped = step_calls log r.reply (taken log e) ev.at (jitter_of (rules_at configs n).cooldown ev.seed) (list_any grants_peer r.puts) calls

    same_turn : is_held key_cmp (calls_by configs n log e calls) key ≡ held_after (is_held key_cmp calls key) (turn_by g log e)
    same_turn =
        ap (λ b. is_held key_cmp (cond b stepped calls) key) still
        ∙ sym (ap (λ b. held_after (is_held key_cmp calls key) (cond b (true ∷ []) (cond (g.frees log e) (false ∷ []) []))) no_grant
        ∙ ap (λ b. held_after (is_held key_cmp calls key) (cond b (false ∷ []) [])) no_free)

    pub still_turns : Turns ev r
    still_turns = record { turn = same_turn; free = λ h. absurd (false≢true (sym no_grant ∙ h)); others = λ h. absurd (false≢true (sym no_grant ∙ h)) }

    -- what such an act moves
    pub passed : (m : Moves log r) → (weight (puts_grant n key) m.taken + weight (puts_grant n key) m.ended) + beginners_of n key configs log
        ≡ beginners_of n key configs (log ++ e ∷ []) + (count_by (puts_grant n key) r.puts + count_by (puts_release n key) r.puts)
        → weight (puts_release n key) m.taken ≡ 0 → weight (puts_release n key) m.ended ≡ 0 → Weighs ev r
    passed m held taken ended =
        let none : one (g.grants log e) ≡ 0 = ap one no_grant in
        let no_release : one (g.frees log e) ≡ 0 = ap one no_free in
        record {
          moves = m;
          holding = omega (arith, held, none);
          waiting = omega (arith, taken, ended, no_release);
          turn = same_turn;
          free = λ h. absurd (false≢true (sym no_grant ∙ h));
          others = λ h. absurd (false≢true (sym no_grant ∙ h));
          apart = λ h. no_free;
        }

    -- one that makes and ends no connection
    pub moved : steps_spawner n ev.act ≡ false → ((k : ℕ) → ends_connection n k log e ≡ false) → (m : Moves log r) → (weight (puts_grant n key) m.taken + weight (puts_grant n key) m.ended) + held_by_attempts configs n key log
        ≡ held_by_attempts configs n key (log ++ e ∷ []) + (count_by (puts_grant n key) r.puts + count_by (puts_release n key) r.puts)
        → weight (puts_release n key) m.taken ≡ 0 → weight (puts_release n key) m.ended ≡ 0 → Weighs ev r
    moved makes lives m held taken ended = let kept = connections_kept n key log e makes lives in passed m (omega (arith, held, kept)) taken ended

    -- and moves none of them
    pub plain_weighs : steps_spawner n ev.act ≡ false → ((k : ℕ) → ends_connection n k log e ≡ false) → (m : Moves log r) → IsPlain n key log r m → ((k : ℕ) → is_attempt_of key (attempts_by configs n log e f k) ≡ is_attempt_of key (f k)) → Weighs ev r
    plain_weighs makes lives m plain kept =
        let held = holds_kept configs n key log e kept in
        let taken = no_grants_stand n key m.taken plain.taken in
        let ended = no_grants_stand n key m.ended plain.ended in
        let granted = no_grants n key r.puts plain.puts in
        let released = no_releases n key r.puts plain.puts in
        moved makes lives m (omega (arith, held, taken, ended, granted, released)) (no_releases_stand n key m.taken plain.taken) (no_releases_stand n key m.ended plain.ended)

    -- one that makes no connection, moves none of them but by releases, and puts as many of these as connections with the key end
    pub over_weighs : steps_spawner n ev.act ≡ false → (m : Moves log r) → Each (StandsPlain n key) m.taken → Each (StandsPlain n key) m.ended → count_by (puts_grant n key) r.puts ≡ 0
        → count_by (puts_release n key) r.puts ≡ count_below (length log) (λ k. ends_connection n k log e && is_connection_of key (live_connection log n k))
        → ((k : ℕ) → is_attempt_of key (attempts_by configs n log e f k) ≡ is_attempt_of key (f k)) → Weighs ev r
    over_weighs makes m taken_plain ended_plain granted released kept =
        let held = holds_kept configs n key log e kept in
        let over = connections_over n key log e makes in
        let taken = no_grants_stand n key m.taken taken_plain in
        let ended = no_grants_stand n key m.ended ended_plain in
        passed m (omega (arith, held, over, taken, ended, granted, released)) (no_releases_stand n key m.taken taken_plain) (no_releases_stand n key m.ended ended_plain)

  abbrev pub event : ℕ → ℕ → Act → Event
  event at seed a = record { at = at; seed = seed; act = a }

  module _ (at seed : ℕ) where
    -- one that reaches no queue in which a grant or a release may wait
    pub other : (a : Act) (r : Row) → Shape configs log a r → Away n (reads configs log a) → Away n (writes configs log a) → steps_tracker n a ≡ false → steps_spawner n a ≡ false → EndsNone a
        → ((k : ℕ) → is_attempt_of key (attempts_by configs n log (entry_of (event at seed a) r) f k) ≡ is_attempt_of key (f k)) → Weighs (event at seed a) r
    other a r shape read written still makes none kept =
        plain_weighs (event at seed a) r still makes (λ k. ends_untold log (entry_of (event at seed a) r) n k a refl none) shape.moves (plain_out_of_reach n key configs a log r shape.moves shape.reach (goes_on n a none) read written) kept

    -- ---- a step of a half

    -- what is taken out of the reach of grants
    pub taken_aside : (a : Act) (r : Row) (shape : Shape configs log a r) → Away n (reads configs log a) → Each (StandsPlain n key) shape.moves.taken
    taken_aside a r shape read =
        stand_aside n key shape.moves.taken
        (Each-weaker (λ x. reads configs log a x.queue ≡ true) (λ x. IsAside n x.queue) (λ x h. away_aside n (reads configs log a) read x.queue h) shape.moves.taken shape.reach.taken)

    -- an act ends connections of a node, whose grants their releases give back
    pub ends_weighs : (a : Act) (m : ℕ) (cs : List (ℕ × Half)) (r : Row) (shape : Shape configs log a r) → Away n (reads configs log a) → Each (StandsPlain n key) shape.moves.ended → steps_tracker n a ≡ false → steps_spawner n a ≡ false
        → ((k : ℕ) → ends_connection n k log (entry_of (event at seed a) r) ≡ ((m == n) && list_any (is_named k) cs))
        → Each (λ c. live_half log m c.0 ≡ Some c.1) cs → AreNamedApart cs → r.puts ≡ all_released m cs
        → ((k : ℕ) → is_attempt_of key (attempts_by configs n log (entry_of (event at seed a) r) f k) ≡ is_attempt_of key (f k)) → Weighs (event at seed a) r
    ends_weighs a m cs r shape read aside still makes ends lived apart puts kept = by (m == n) refl
      where
        e : Entry
        e = entry_of (event at seed a) r

        here : m ≡ n → (m == n) ≡ true → Weighs (event at seed a) r
        here at_n same =
            over_weighs (event at seed a) r still makes shape.moves (taken_aside a r shape read) aside
            (ap (λ xs. count_by (puts_grant n key) xs) puts
            ∙ count_by-none (puts_grant n key) (all_released m cs) (each_released (λ x. puts_grant n key x ≡ false) m cs (λ k. (refl, (refl, tt)))))
            (ap (λ xs. count_by (puts_release n key) xs) (puts ∙ ap (λ i. all_released i cs) at_n)
            ∙ (released_counted n key log cs apart (subst (λ i. Each (λ c. live_half log i c.0 ≡ Some c.1) cs) at_n lived)
            ∙ sym (count_below-same (λ k. list_any (is_named k) cs && holds_key n key log k) (λ k. ends_connection n k log e && holds_key n key log k) (length log)
            (λ k. ap (λ b. b && holds_key n key log k) (ends k ∙ ap (λ b. b && list_any (is_named k) cs) same))))) kept

        by : (b : Bool) → (m == n) ≡ b → Weighs (event at seed a) r
        by true same = here (eqb-true m n same) same
        by false differ =
            plain_weighs (event at seed a) r still makes (λ k. ends k ∙ ap (λ b. b && list_any (is_named k) cs) differ) shape.moves
            (record {
              taken = taken_aside a r shape read;
              ended = aside;
              puts = subst (Each (Plain n key)) (sym puts)
                  (each_released (Plain n key) m cs
                  (λ k. (plain_aside n key (queue.Router m) (item.Release k) (refl, refl), (plain_aside n key (queue.Tracker m) (item.Release k) (refl, ap (λ b. b && true) (other_way m n differ)), tt))));
            }) kept

    -- a half goes on, or ends its connection
    pub step_weighs : (a : Act) (m conn : ℕ) (r : Row) (shape : Shape configs log a r) → Away n (reads configs log a) → Each (StandsPlain n key) shape.moves.ended → steps_tracker n a ≡ false → steps_spawner n a ≡ false
        → ((k : ℕ) → ends_connection n k log (entry_of (event at seed a) r) ≡ (((m == n) && (conn == k)) && is_end r.reply)) → IsStep (Plain n key) log m conn r
        → ((k : ℕ) → is_attempt_of key (attempts_by configs n log (entry_of (event at seed a) r) f k) ≡ is_attempt_of key (f k)) → Weighs (event at seed a) r
    step_weighs a m conn r shape read aside still makes ends step kept = by step
      where
        alone : (b c : Bool) → ((b && c) && true) ≡ (b && (c || false))
        alone true true = refl
        alone true false = refl
        alone false c = refl

        by : IsStep (Plain n key) log m conn r → Weighs (event at seed a) r
        by (inl goes) =
            plain_weighs (event at seed a) r still makes (λ k. ends k ∙ (ap (λ b. ((m == n) && (conn == k)) && b) goes.0 ∙ and_false ((m == n) && (conn == k)))) shape.moves
            (record { taken = taken_aside a r shape read; ended = aside; puts = goes.1 }) kept
        by (inr last) =
            ends_weighs a m ((conn, last.half) ∷ []) r shape read aside still makes (λ k. ends k ∙ (ap (λ b. ((m == n) && (conn == k)) && b) last.ends ∙ alone (m == n) (conn == k)))
            (last.lived, tt) (refl, tt) last.puts kept

    -- ---- a row that drops the end of a link too

    beginners_same : (ev : Event) (r : Row) (cut : LinkEnd) → beginners_of n key configs (log ++ entry_of ev (dropping log (Some cut) r) ∷ []) ≡ beginners_of n key configs (log ++ entry_of ev r ∷ [])
    unfolding tells
    beginners_same ev r cut = sums attempts_now connections_now
      where
        s : Row
        s = dropping log (Some cut) r

        long : length (log ++ entry_of ev s ∷ []) ≡ length (log ++ entry_of ev r ∷ [])
        long = length-append log (entry_of ev s ∷ []) ∙ sym (length-append log (entry_of ev r ∷ []))

        took : taken log (entry_of ev s) ≡ taken log (entry_of ev r)
        took = taken-dropping log ev (Some cut) r

        counted : (p q : ℕ → Bool) → ((k : ℕ) → p k ≡ q k) → count_below (length (log ++ entry_of ev s ∷ [])) p ≡ count_below (length (log ++ entry_of ev r ∷ [])) q
        counted p q same = ap (λ m. count_below m p) long ∙ count_below-same q p (length (log ++ entry_of ev r ∷ [])) same

        attempts_now : held_by_attempts configs n key (log ++ entry_of ev s ∷ []) ≡ held_by_attempts configs n key (log ++ entry_of ev r ∷ [])
        attempts_now =
            counted (λ k. is_attempt_of key (attempts_of configs (log ++ entry_of ev s ∷ []) n k)) (λ k. is_attempt_of key (attempts_of configs (log ++ entry_of ev r ∷ []) n k))
            (λ k. ap (is_attempt_of key)
            (attempts_of-append configs log (entry_of ev s) n k
            ∙ (ap (λ items. attempt_told (dial_rules_at configs n) n k (act_tells (told log) log (length log) ev.at ev.seed r.reply items r.puts ev.act) (f k)) took ∙ sym (attempts_of-append configs log (entry_of ev r) n k))))

        connections_now : held_by_connections n key (log ++ entry_of ev s ∷ []) ≡ held_by_connections n key (log ++ entry_of ev r ∷ [])
        connections_now =
            counted (λ k. is_connection_of key (live_connection (log ++ entry_of ev s ∷ []) n k)) (λ k. is_connection_of key (live_connection (log ++ entry_of ev r ∷ []) n k))
            (λ k.
            let over : is_ended (log ++ entry_of ev s ∷ []) n k ≡ is_ended (log ++ entry_of ev r ∷ []) n k =
            is_ended-append log (entry_of ev s) n k
            ∙ (ap (λ items. is_ended log n k || list_any (is_over n k) (act_tells (told log) log (length log) ev.at ev.seed r.reply items r.puts ev.act)) took ∙ sym (is_ended-append log (entry_of ev r) n k))
            in
            let made : connections_of (log ++ entry_of ev s ∷ []) n k ≡ connections_of (log ++ entry_of ev r ∷ []) n k =
            connections_of-acted log (entry_of ev s) n (steps_spawner n ev.act) refl k
            ∙ (ap (λ items. cond (steps_spawner n ev.act) (with_begun (spawned_of items) (length log) (connections_of log n) k) (connections_of log n k)) took
            ∙ sym (connections_of-acted log (entry_of ev r) n (steps_spawner n ev.act) refl k))
            in
            ap (λ b. is_connection_of key (cond b None (connections_of (log ++ entry_of ev s ∷ []) n k))) over
            ∙ ap (λ o. is_connection_of key (cond (is_ended (log ++ entry_of ev r ∷ []) n k) None o)) made)

        sums : {a b c d : ℕ} → a ≡ b → c ≡ d → a + c ≡ b + d
        sums is also = omega (arith, is, also)

    pub dropped_weighs : (ev : Event) (r : Row) (o : Option LinkEnd) → Weighs ev r → Moves log (dropping log o r) → Weighs ev (dropping log o r)
    unfolding tells
    dropped_weighs ev r None h d = h
    dropped_weighs ev r (Some cut) h d =
        let s : Row = dropping log (Some cut) r in
        let took : taken log (entry_of ev s) ≡ taken log (entry_of ev r) = taken-dropping log ev (Some cut) r in
        let same = beginners_same ev r cut in
        let holding = h.holding in
        let waiting = h.waiting in
        let grants_taken = taken_same log r (Some cut) h.moves d (puts_grant n key) in
        let releases_taken = taken_same log r (Some cut) h.moves d (puts_release n key) in
        let grants_ended = ended_more log r (Some cut) h.moves d (puts_grant n key) in
        let releases_ended = ended_more log r (Some cut) h.moves d (puts_release n key) in
        let no_grant = flying_none log (Some cut) (puts_grant n key) (λ e i. refl) in
        let no_release = flying_none log (Some cut) (puts_release n key) (λ e i. no_link e.0 (other_side e.1) i) in
        let says : (test : Telling → Bool) → list_any test (tells (told log) log (entry_of ev s)) ≡ list_any test (tells (told log) log (entry_of ev r)) =
        λ test. ap (λ items. list_any test (act_tells (told log) log (length log) ev.at ev.seed r.reply items r.puts ev.act)) took
        in
        let grants : g.grants log (entry_of ev s) ≡ g.grants log (entry_of ev r) = says (tells_grant n key) in
        let frees : g.frees log (entry_of ev s) ≡ g.frees log (entry_of ev r) = says (tells_release n key) in
        let granted : one (g.grants log (entry_of ev s)) ≡ one (g.grants log (entry_of ev r)) = ap one grants in
        let freed : one (g.frees log (entry_of ev s)) ≡ one (g.frees log (entry_of ev r)) = ap one frees in
        record {
          moves = d;
          holding = omega (arith, holding, same, grants_taken, grants_ended, no_grant, granted);
          waiting = omega (arith, waiting, releases_taken, releases_ended, no_release, freed);
          turn =
              ap (λ items. is_held key_cmp
              (cond (steps_tracker n ev.act) (step_calls log r.reply items ev.at (jitter_of (rules_at configs n).cooldown ev.seed) (list_any grants_peer r.puts) calls) calls) key) took
              ∙ (h.turn
              ∙ (ap (λ b. held_after (is_held key_cmp calls key) (cond (g.grants log (entry_of ev r)) (true ∷ []) (cond b (false ∷ []) []))) (sym frees)
              ∙ ap (λ b. held_after (is_held key_cmp calls key) (cond b (true ∷ []) (cond (g.frees log (entry_of ev s)) (false ∷ []) []))) (sym grants)));
          free = λ now. h.free (sym grants ∙ now);
          others = λ now. h.others (sym grants ∙ now);
          apart = λ now. frees ∙ h.apart (sym grants ∙ now);
        }
      where
        no_link : (link : ℕ) (side : Side) (i : Item) → puts_release n key (queue.Link link side, i) ≡ false
        no_link link side.Out i = refl
        no_link link side.In i = refl
