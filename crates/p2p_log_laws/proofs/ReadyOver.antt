-- Once a connection has ended, neither the word that it is ready waits nor its router's answer; so what waits of the two is known of each
-- connection.
use Rattle.std.proofs.Common.{◌≡◌, ℕ, ◌+◌, ◌≤◌, Bool, true, false, cond, List, [], ◌∷◌, ◌++◌, length, Option, Some, None, ◌⊎◌, inl, inr, refl, ap, sym, subst, ◌∙◌, arith, eqb-true}
use Rattle.std.specs.Prelude.{◌==◌, ◌&&◌, ◌||◌, not, count_by, flat_map, unwrap_or}
use Rattle.std.specs.List.{list_any}
use Rattle.std.proofs.lemmas.Bool.{and_parts, false≢true}
use Rattle.p2p_log.specs.declared.config.Config.{Config}
use Rattle.p2p_log.specs.declared.queue.Queue.{Queue}
use Rattle.p2p_log.specs.declared.queue.Queue.TheVariants as queue
use Rattle.p2p_log.specs.declared.item.Envelope.{Envelope}
use Rattle.p2p_log.specs.declared.entry.Entry.{Entry}
use Rattle.p2p_log.specs.declared.event.Event.{Event}
use Rattle.p2p_log.specs.Lines.{live, line}
use Rattle.p2p_log.proofs.Each.{Has, Has-after, Has-flat_map, Has-kept}
use Rattle.p2p_log_rules.specs.declared.row.Half.{Half}
use Rattle.p2p_log_rules.specs.declared.row.Row.{Row}
use Rattle.p2p_log_rules.specs.Connections.{is_done, begins_connection, runs, ends_connection, is_begun, has_run, is_over, is_running, is_ended, half_at}
use Rattle.p2p_log_rules.specs.Effect.{effect, entry_of, row}
use Rattle.p2p_log_rules.specs.Halves.{Spawned, makes_connection}
use Rattle.p2p_log_rules.specs.Handshakes.{handshakes_of}
use Rattle.p2p_log_rules.specs.Lawful.{IsLawful}
use Rattle.p2p_log_rules.specs.Moves.{Moves}
use Rattle.p2p_log_rules.specs.Spawning.{connections_of}
use Rattle.p2p_log_rules.specs.Stopping.{with_attempt, with_handshake, with_half, queues_at}
use Rattle.p2p_log_rules.specs.Tellings.{Telling, last_or}
use Rattle.p2p_log_rules.specs.Tellings as telling
use Rattle.p2p_log_rules.specs.Told.{told, attempts_in, made_in, connections_in}
use Rattle.p2p_log_rules.proofs.Channels.{IsStopOf}
use Rattle.p2p_log_rules.proofs.Connections.{steps_sender, begins_is, begin_of, end_of, is_begun-none, is_begun-append, has_run-append, is_ended-none, is_ended-append, half_at-longer, half_parts, is_live}
use Rattle.p2p_log_rules.proofs.Lawful.{IsLawful-append}
use Rattle.p2p_log_laws.specs.Grants.{one}
use Rattle.p2p_log_laws.proofs.EndHeard.{names_ready, tells_ready, puts_answer, each_tells, answers_told, heard_once}
use Rattle.p2p_log_laws.proofs.Ledger.{Told-end}
use Rattle.p2p_log_laws.proofs.Living.{IsOfLive, steps_live, end_row_is}
use Rattle.p2p_log_laws.proofs.Prefixes.{lawful_at_end}
use Rattle.p2p_log_laws.proofs.ReadyLines.{words_ready, answers_waiting, words, answers, words_there, answers_there, waits_once}
use Rattle.p2p_log_laws.proofs.Shapes.{row_shape}
use Rattle.p2p_log_laws.proofs.StopLeaves.{stop_empties}
use Rattle.p2p_log_laws.proofs.Weighing.{weight, weighed}

-- a connection that was made is among those that were
made_has : (n conn : ℕ) (ts : List Telling) (o : Option Spawned) (c : Spawned) → last_or o (makes_connection n conn) ts ≡ Some c → Has (flat_map (made_in n) ts) conn ⊎ (o ≡ Some c)
made_has n conn [] o c is = inr is
made_has n conn (t ∷ ts) o c is = elim (made_has n conn ts (unwrap_or (makes_connection n conn t) o) c is) [
  | inl later ↦ inl (Has-after (made_in n t) (flat_map (made_in n) ts) conn later)
  | inr now ↦ here t now
]
  where
    here : (u : Telling) → unwrap_or (makes_connection n conn u) o ≡ Some c → Has (made_in n u ++ flat_map (made_in n) ts) conn ⊎ (o ≡ Some c)
    here (telling.connection_made m j key link) now = by (m == n) (conn == j) refl now
      where
        by : (b d : Bool) → (conn == j) ≡ d → unwrap_or (cond (b && d) (Some (Some (record { key = key; link = link }))) None) o ≡ Some c
            → Has (cond b (j ∷ []) [] ++ flat_map (made_in n) ts) conn ⊎ (o ≡ Some c)
        by true true named now = inl (inl (sym (eqb-true conn j named)))
        by true false named now = inr now
        by false d named now = inr now
    here _ now = inr now

-- what ends with the stop of its node has its router's answer among the queues that are emptied
answer_emptied : (log : List Entry) (n conn : ℕ) (half : Half) → half_at log n conn ≡ Some half → is_ended log n conn ≡ false → Has (queues_at log n) (queue.RouterAnswer n conn)
unfolding is_ended connections_of
answer_emptied log n conn half at lives =
    let q : Queue = queue.RouterAnswer n conn in
    let attempts : List Queue = flat_map (with_attempt log n) (attempts_in (told log) n) in
    let handshakes : List Queue = flat_map (with_handshake log n) (handshakes_of log n) in
    let halves : List Queue = flat_map (λ c. with_half n c (half_at log n c)) (connections_in (told log) n) in
    let lasts : ℕ → Bool = λ c. not (list_any (is_over n c) (told log)) in
    let parts = half_parts log n conn half at in
    let stands : Has (connections_in (told log) n) conn = Has-kept lasts (flat_map (made_in n) (told log)) conn (ap not lives) (among (made_has n conn (told log) None parts.connection parts.made)) in
    let here : Has (with_half n conn (half_at log n conn)) q = subst (λ o. Has (with_half n conn o) q) (sym at) (inr (inr (inr (inr (inl refl))))) in
    inr (inr (inr (inr (inr (inr
    (Has-after attempts (handshakes ++ halves) q
    (Has-after handshakes halves q (Has-flat_map (λ c. with_half n c (half_at log n c)) (connections_in (told log) n) conn q stands here))))))))
  where
    among : {c : Spawned} → Has (flat_map (made_in n) (told log)) conn ⊎ (◌≡◌ {A = Option Spawned} None (Some c)) → Has (flat_map (made_in n) (told log)) conn
    among (inl has) = has
    among (inr none) = absurd (cc)

module _ (configs : List Config) (n conn : ℕ) where
  -- ---- what has begun has its half

  module _ (before : List Entry) (ev : Event) where
    abbrev r : Row
    r = row configs before ev.at ev.seed ev.act

    abbrev e : Entry
    e = entry_of ev r

    -- a half begins a connection that has not ended
    begins_live : begins_connection n conn before e ≡ true → (half : Half) × (half_at before n conn ≡ Some half) × (is_ended before n conn ≡ false)
    begins_live h =
        let begin = begin_of before e n conn h in
        by begin.1 (steps_live configs before ev n conn true begin.0)
      where
        by : is_done r.reply ≡ true → IsOfLive before n conn r → (half : Half) × (half_at before n conn ≡ Some half) × (is_ended before n conn ≡ false)
        by done (inl gone) = absurd (false≢true (ap (λ (k : Row). is_done k.reply) (sym gone) ∙ done))
        by done (inr live) = let l = is_live before n conn live.0 live.1 in (live.0, l.at, l.lives)

    begun_now : is_begun (before ++ e ∷ []) n conn ≡ true → (is_begun before n conn ≡ true) ⊎ (begins_connection n conn before e ≡ true)
    begun_now h = by (is_begun before n conn) refl (sym (is_begun-append before e n conn) ∙ h)
      where
        by : (b : Bool) → is_begun before n conn ≡ b → (b || begins_connection n conn before e) ≡ true → (is_begun before n conn ≡ true) ⊎ (begins_connection n conn before e ≡ true)
        by true is h = inl is
        by false is h = inr h

  abbrev HasHalf : List Entry → Type 0
  HasHalf log = is_begun log n conn ≡ true → (half : Half) × (half_at log n conn ≡ Some half)

  half_first : HasHalf []
  half_first h = absurd (false≢true (sym (is_begun-none n conn) ∙ h))

  half_more : (script : List Event) (before : List Entry) (ev : Event) → IsLawful configs script before → HasHalf before → HasHalf (before ++ effect configs before ev ∷ [])
  unfolding effect
  half_more script before ev lawful old h = longer (elim (begun_now before ev h) [
    | inl was ↦ old was
    | inr now ↦ let live = begins_live before ev now in (live.0, live.1)
  ])
    where
      longer : (half : Half) × (half_at before n conn ≡ Some half) → (half : Half) × (half_at (before ++ entry_of ev (row configs before ev.at ev.seed ev.act) ∷ []) n conn ≡ Some half)
      longer (half, at) = (half, half_at-longer before (entry_of ev (row configs before ev.at ev.seed ev.act) ∷ []) n conn half at)

  -- ---- what waits once it has ended

  abbrev IsOver : List Entry → Type 0
  IsOver log = is_ended log n conn ≡ true → words configs n conn log + answers configs n conn log ≡ 0

  over_first : IsOver []
  over_first h = absurd (false≢true (sym (is_ended-none n conn) ∙ h))

  module _ (script : List Event) (before : List Entry) (ev : Event) (lawful : IsLawful configs script before) where
    abbrev longer : List Entry
    longer = before ++ e before ev ∷ []

    still_lawful : IsLawful configs (script ++ ev ∷ []) longer
    unfolding effect
    still_lawful = IsLawful-append configs script before ev lawful

    -- what does not begin has nothing that waits, nor has what runs
    unbegun_over : is_begun longer n conn ≡ false → words configs n conn longer + answers configs n conn longer ≡ 0
    unbegun_over fresh =
        none (words configs n conn longer + answers configs n conn longer) (one (has_run longer n conn))
        (subst (λ b. (words configs n conn longer + answers configs n conn longer) + one (has_run longer n conn) ≤ one b) fresh (heard_once configs n conn (script ++ ev ∷ []) longer still_lawful))
      where
        none : (k ran : ℕ) → k + ran ≤ 0 → k ≡ 0
        none k ran le = omega (arith, le)

    ran_over : is_running before n conn ≡ true → words configs n conn longer + answers configs n conn longer ≡ 0
    ran_over ran =
        let run : has_run before n conn ≡ true = (and_parts (has_run before n conn) (not (is_ended before n conn)) ran).0 in
        let now : has_run longer n conn ≡ true = has_run-append before (e before ev) n conn ∙ ap (λ b. b || runs n conn before (e before ev)) run in
        none (words configs n conn longer + answers configs n conn longer) (is_begun longer n conn)
        (subst (λ b. (words configs n conn longer + answers configs n conn longer) + one b ≤ one (is_begun longer n conn)) now (heard_once configs n conn (script ++ ev ∷ []) longer still_lawful))
      where
        none : (k : ℕ) (begun : Bool) → k + 1 ≤ one begun → k ≡ 0
        none k true le = omega (arith, le)
        none k false le = omega (arith, le)

    -- a stop empties both queues
    stop_over : is_begun before n conn ≡ true → is_ended before n conn ≡ false → IsStopOf before (e before ev) n → words configs n conn longer + answers configs n conn longer ≡ 0
    unfolding effect
    stop_over begun lives stop =
        let half = lawful_at_end configs HasHalf half_first half_more script before lawful begun in
        let router : line longer (queue.Router n) ≡ [] = stop_empties configs before ev n stop (queue.Router n) (inl refl) in
        let answer : line longer (queue.RouterAnswer n conn) ≡ [] = stop_empties configs before ev n stop (queue.RouterAnswer n conn) (answer_emptied before n conn half.0 half.1 lives) in
        both (words configs n conn longer) (answers configs n conn longer)
        (words_there configs (script ++ ev ∷ []) longer still_lawful n conn ∙ ap (count_by (λ (x : Envelope). names_ready conn x.item)) router)
        (answers_there configs (script ++ ev ∷ []) longer still_lawful n conn ∙ ap length answer)
      where
        both : (a b : ℕ) → a ≡ 0 → b ≡ 0 → a + b ≡ 0
        both a b none also = omega (arith, none, also)

    -- what has ended before puts nothing
    past_over : is_begun longer n conn ≡ true → is_ended before n conn ≡ true → words configs n conn before + answers configs n conn before ≡ 0 → words configs n conn longer + answers configs n conn longer ≡ 0
    past_over begun over none =
        let m : Moves before (r before ev) = (row_shape configs before ev.at ev.seed ev.act).moves in
        let was : is_begun before n conn ≡ true = elim (begun_now before ev begun) [
          | inl is ↦ is
          | inr now ↦ absurd (false≢true (sym (begins_live before ev now).2 ∙ over))
        ] in
        let told = each_tells n conn before configs ev.at ev.seed ev.act (Told-end configs script before lawful).standing.fitting in
        nothing (words configs n conn before) (answers configs n conn before) (words configs n conn longer) (answers configs n conn longer)
        (weight (tells_ready n conn) m.taken) (weight (tells_ready n conn) m.ended) (weight (puts_answer n conn) m.taken + weight (puts_answer n conn) m.ended)
        (count_by (tells_ready n conn) (r before ev).puts) (count_by (puts_answer n conn) (r before ev).puts)
        none (weighed before ev (r before ev) m (tells_ready n conn)) (weighed before ev (r before ev) m (puts_answer n conn)) (answers_told n conn before configs ev)
        (at_once (is_begun before n conn) (steps_sender n conn ev.act && is_done (r before ev).reply) (count_by (tells_ready n conn) (r before ev).puts) was told)
      where
        at_once : (begun now : Bool) (k : ℕ) → begun ≡ true → one begun + k ≤ one (begun || now) → k ≡ 0
        at_once true now k is le = omega (arith, le)
        at_once false now k is le = absurd (false≢true is)

        nothing : (told answered told_after answered_after taken ended gone puts answer_puts : ℕ) → told + answered ≡ 0 → told_after + (taken + ended) ≡ told + puts → answered_after + gone ≡ answered + answer_puts
            → answer_puts ≤ taken → puts ≡ 0 → told_after + answered_after ≡ 0
        nothing told answered told_after answered_after taken ended gone puts answer_puts a b c d f = omega (arith, a, b, c, d, f)

    over_more : IsOver before → IsOver (before ++ effect configs before ev ∷ [])
    unfolding effect
    over_more old over = by (is_begun longer n conn) (is_ended before n conn) refl refl
      where
        ends_now : is_ended before n conn ≡ false → is_begun longer n conn ≡ true → words configs n conn longer + answers configs n conn longer ≡ 0
        ends_now lives begun = elim (end_of before (e before ev) n conn (sym (is_ended-append before (e before ev) n conn ∙ ap (λ b. b || ends_connection n conn before (e before ev)) lives) ∙ over)) [
          | inl end ↦ ran_over (end_row_is configs before ev n conn (Told-end configs script before lawful).standing.fitting end).ran
          | inr stopped ↦ elim (begun_now before ev begun) [
            | inl was ↦ stop_over was lives stopped.stop
            | inr now ↦ absurd (no_step stopped.stop now)
          ]
        ]
          where
            no_step : IsStopOf before (e before ev) n → begins_connection n conn before (e before ev) ≡ true → ⊥
            no_step stop now = false≢true (sym (begins_is before (e before ev) n conn ∙ ap (λ a. steps_sender n conn a && is_done (r before ev).reply) stop.acts) ∙ now)

        by : (begun ended : Bool) → is_begun longer n conn ≡ begun → is_ended before n conn ≡ ended → words configs n conn longer + answers configs n conn longer ≡ 0
        by false ended fresh was = unbegun_over fresh
        by true true begun was = past_over begun was (old was)
        by true false begun was = ends_now was begun

-- ---- of each connection

-- as many of the two wait as there are connections of this name that have begun, do not run and have not ended: one or none
pub waits_until_run : (configs : List Config) (script : List Event) (log : List Entry) → IsLawful configs script log → (n conn : ℕ)
    → words_ready log n conn + answers_waiting log n conn ≡ one (is_begun log n conn && not (has_run log n conn || is_ended log n conn))
waits_until_run configs script log lawful n conn = by (is_begun log n conn) (has_run log n conn) (is_ended log n conn) refl refl refl
  where
    all : ℕ
    all = words configs n conn log + answers configs n conn log

    lines : {k : ℕ} → all ≡ k → words_ready log n conn + answers_waiting log n conn ≡ k
    lines is =
        sym (ap (λ k. k + answers_waiting log n conn) (words_there configs script log lawful n conn))
        ∙ (sym (ap (λ k. words configs n conn log + k) (answers_there configs script log lawful n conn)) ∙ is)

    heard : all + one (has_run log n conn) ≤ one (is_begun log n conn)
    heard = heard_once configs n conn script log lawful

    fresh : (k ran : ℕ) → k + ran ≤ 0 → k ≡ 0
    fresh k ran le = omega (arith, le)

    ran_on : (k : ℕ) → k + 1 ≤ 1 → k ≡ 0
    ran_on k le = omega (arith, le)

    by : (begun ran ended : Bool) → is_begun log n conn ≡ begun → has_run log n conn ≡ ran → is_ended log n conn ≡ ended
        → words_ready log n conn + answers_waiting log n conn ≡ one (begun && not (ran || ended))
    by false ran ended begins runs_now ends = lines (fresh all (one (has_run log n conn)) (subst (λ b. all + one (has_run log n conn) ≤ one b) begins heard))
    by true true ended begins runs_now ends = lines (ran_on all (subst (λ b. all + one b ≤ 1) runs_now (subst (λ b. all + one (has_run log n conn) ≤ one b) begins heard)))
    by true false true begins runs_now ends = lines (lawful_at_end configs (IsOver configs n conn) (over_first configs n conn) (over_more configs n conn) script log lawful ends)
    by true false false begins runs_now ends = waits_once configs script log lawful n conn (record { begun = begins; lives = ends; waits = runs_now })
