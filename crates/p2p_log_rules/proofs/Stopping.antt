-- What the stop of a node leaves of its attempts and connections: none.
use Rattle.std.proofs.Common.{◌≡◌, ℕ, Bool, true, false, cond, List, [], ◌∷◌, ◌++◌, Option, Some, None, ◌⊎◌, inl, inr, refl, ap, sym, subst, ◌∙◌, arith, eqb-true}
use Rattle.std.specs.Prelude.{◌==◌, ◌&&◌, ◌||◌, not, flat_map, is_some, unwrap_or}
use Rattle.std.specs.List.{list_any}
use Rattle.std.specs.Option.{option_map}
use Rattle.std.proofs.lemmas.Bool.{false≢true}
use Rattle.std.proofs.lemmas.Bool.Decides.{nat_tests}
use Rattle.p2p_log.specs.declared.config.Config.{Config}
use Rattle.p2p_log.specs.declared.entry.Entry.{Entry}
use Rattle.p2p_log.proofs.Each.{Has, Has-after, Has-kept}
use Rattle.p2p_log_rules.specs.Attempting.{Attempt, DialRules, dial_rules_at, attempt_since, attempt_by_last, attempt_in, attempts_of}
use Rattle.p2p_log_rules.specs.Connections.{is_over, is_ended, live_connection}
use Rattle.p2p_log_rules.specs.Halves.{makes_connection}
use Rattle.p2p_log_rules.specs.Spawning.{Spawned, connections_of}
use Rattle.p2p_log_rules.specs.Tellings.{Telling, Last, last_told, last_or}
use Rattle.p2p_log_rules.specs.Tellings as telling
use Rattle.p2p_log_rules.specs.Told.{Begun, begun_as, ends, begins_attempt, attempts_in, made_in, connections_in, stop_tells, told}
use Rattle.p2p_log_rules.proofs.Attempts.{is_begun, begun_or, attempt_one, attempt_after, attempt_told, attempts_of-append}
use Rattle.p2p_log_rules.proofs.Channels.{IsStopOf, tells_stop}
use Rattle.p2p_log_rules.proofs.Bools.{or_true}
use Rattle.p2p_log_rules.proofs.Connections.{is_ended-append}
use Rattle.p2p_log_rules.proofs.Spawning.{connections_of-unmade}
use Rattle.p2p_log_rules.proofs.Standing.{stands_since}
use Rattle.p2p_log_rules.proofs.Steps.{steps_spawner}
use Rattle.p2p_log_rules.proofs.Stopped.{stop_attempt, stop_connection}
use Rattle.p2p_log_rules.proofs.Tellings.{or_left, or_right}
use Rattle.p2p_log_rules.proofs.Told.{stop_quiet}

-- ---- attempts

module _ (rules : DialRules) (n k : ℕ) where
  abbrev after : Telling → Option Attempt → Option Attempt
  after t o = attempt_after rules n k t o

  abbrev all_after : List Telling → Option Attempt → Option Attempt
  all_after us o = attempt_told rules n k us o

  -- where none begins, one that ends leaves none
  over : (t : Telling) (o : Option Attempt) → is_begun n k t ≡ false → ends n k t ≡ true → after t o ≡ None
  over t o none ended = by (begun_as n k t) (ends n k t) none ended
    where
      by : (p : Option Begun) (b : Bool) → is_some p ≡ false → b ≡ true → begun_or rules n k p (cond b None (option_map (attempt_one rules n k t) o)) ≡ None
      by None true none ended = refl
      by None false none ended = absurd (false≢true ended)
      by (Some p) b none ended = absurd (false≢true (sym none))

  nothing : (t : Telling) → is_begun n k t ≡ false → after t None ≡ None
  nothing t none = by (begun_as n k t) (ends n k t) none
    where
      by : (p : Option Begun) (b : Bool) → is_some p ≡ false → begun_or rules n k p (cond b None (option_map (attempt_one rules n k t) None)) ≡ None
      by None true none = refl
      by None false none = refl
      by (Some p) b none = absurd (false≢true (sym none))

  none_comes : (us : List Telling) → list_any (is_begun n k) us ≡ false → all_after us None ≡ None
  none_comes [] h = refl
  none_comes (t ∷ us) h = ap (all_after us) (nothing t (or_left (is_begun n k t) (list_any (is_begun n k) us) h)) ∙ none_comes us (or_right (is_begun n k t) (list_any (is_begun n k) us) h)

  none_stands : (us : List Telling) (o : Option Attempt) → list_any (is_begun n k) us ≡ false → list_any (ends n k) us ≡ true → all_after us o ≡ None
  none_stands [] o none ended = absurd (false≢true ended)
  none_stands (t ∷ us) o none ended = by (ends n k t) refl ended (λ later. none_stands us (after t o) (or_right (is_begun n k t) (list_any (is_begun n k) us) none) later)
    where
      by : (b : Bool) → ends n k t ≡ b → (b || list_any (ends n k) us) ≡ true → (list_any (ends n k) us ≡ true → all_after us (after t o) ≡ None) → all_after us (after t o) ≡ None
      by true is h then =
          ap (all_after us) (over t o (or_left (is_begun n k t) (list_any (is_begun n k) us) none) is) ∙ none_comes us (or_right (is_begun n k t) (list_any (is_begun n k) us) none)
      by false is h then = then h

  -- an attempt that stands is among those that have not ended
  begins_it : (t : Telling) (b : Begun) → begun_as n k t ≡ Some b → begins_attempt n t ≡ Some k
  begins_it (telling.attempt_begun m j key ingress at) b is = by (m == n) refl (k == j) refl is
    where
      by : (c : Bool) → (m == n) ≡ c → (d : Bool) → (k == j) ≡ d → cond (c && d) (Some (record { key = key; ingress = ingress; at = at })) None ≡ Some b → cond (m == n) (Some j) None ≡ Some k
      by true here true named is = ap (λ c. cond c (Some j) None) here ∙ ap (λ i. Some i) (sym (eqb-true k j named))
      by true here false named is = absurd (cc)
      by false here d named is = absurd (cc)
  begins_it _ b is = absurd (cc)

  stands_in : (ts : List Telling) (a : Attempt) → attempt_in n k rules ts ≡ Some a → Has (attempts_in ts n) k
  stands_in ts a is = by (last_told (begun_as n k) ts) refl is
    where
      by : (o : Option (Last Begun)) → last_told (begun_as n k) ts ≡ o → attempt_by_last n k rules o ≡ Some a → Has (attempts_in ts n) k
      by None last is = absurd (cc)
      by (Some l) last is = since (list_any (ends n k) l.since) refl is
        where
          since : (b : Bool) → list_any (ends n k) l.since ≡ b → cond b None (Some (attempt_since n k rules l.told l.since)) ≡ Some a → Has (attempts_in ts n) k
          since true over is = absurd (cc)
          since false lives is = stands_since (begins_attempt n) (ends n) (begun_as n k) k begins_it ts l last lives

-- none stands once its node has stopped
pub attempts_of-stopped : (configs : List Config) (log : List Entry) (e : Entry) (n : ℕ) → IsStopOf log e n → (k : ℕ) → attempts_of configs (log ++ e ∷ []) n k ≡ None
unfolding attempts_of
attempts_of-stopped configs log e n stop k =
    attempts_of-append configs log e n k
    ∙ (ap (λ us. attempt_told rules n k us (attempt_in n k rules (told log))) (tells_stop log e n stop) ∙ by (attempt_in n k rules (told log)) refl)
  where
    rules : DialRules
    rules = dial_rules_at configs n

    us : List Telling
    us = stop_tells (told log) log n

    none_begins : list_any (is_begun n k) us ≡ false
    none_begins = stop_quiet (is_begun n k) 0 0 (told log) log n (record { stops = refl; attempt = λ j. refl; handshake = λ h link. refl; connection = λ conn. refl; drops = λ link s. refl })

    here : (n k : ℕ) → ((n == n) && (k == k)) ≡ true
    here n k = grind (arith, nat_tests)

    by : (o : Option Attempt) → attempt_in n k rules (told log) ≡ o → attempt_told rules n k us o ≡ None
    by None is = none_comes rules n k us none_begins
    by (Some a) is = none_stands rules n k us (Some a) none_begins (stop_attempt (told log) log n (ends n k) k (stands_in rules n k (told log) a is) (here n k))

-- ---- connections

-- a connection that was made is among those that were
made_has : (n k : ℕ) (ts : List Telling) (o : Option Spawned) (c : Spawned) → last_or o (makes_connection n k) ts ≡ Some c → (Has (flat_map (made_in n) ts) k) ⊎ (o ≡ Some c)
made_has n k [] o c is = inr is
made_has n k (t ∷ ts) o c is = elim (made_has n k ts (unwrap_or (makes_connection n k t) o) c is) [
  | inl later ↦ inl (Has-after (made_in n t) (flat_map (made_in n) ts) k later)
  | inr now ↦ here t now
]
  where
    here : (u : Telling) → unwrap_or (makes_connection n k u) o ≡ Some c → (Has (made_in n u ++ flat_map (made_in n) ts) k) ⊎ (o ≡ Some c)
    here (telling.connection_made m j key link) now = by (m == n) refl (k == j) refl now
      where
        by : (b : Bool) → (m == n) ≡ b → (d : Bool) → (k == j) ≡ d → unwrap_or (cond (b && d) (Some (Some (record { key = key; link = link }))) None) o ≡ Some c
            → (Has (cond (m == n) (j ∷ []) [] ++ flat_map (made_in n) ts) k) ⊎ (o ≡ Some c)
        by true at true named now = inl (subst (λ b. Has (cond b (j ∷ []) [] ++ flat_map (made_in n) ts) k) (sym at) (inl (sym (eqb-true k j named))))
        by true at false named now = inr now
        by false at d named now = inr now
    here _ now = inr now

-- none lives once its node has stopped
pub live_connection-stopped : (log : List Entry) (e : Entry) (n : ℕ) → IsStopOf log e n → (k : ℕ) → live_connection (log ++ e ∷ []) n k ≡ None
unfolding is_ended connections_of
live_connection-stopped log e n stop k = by (is_ended log n k) refl (connections_of log n k) refl
  where
    us : List Telling
    us = stop_tells (told log) log n

    unmade : steps_spawner n e.event.act ≡ false
    unmade = ap (steps_spawner n) stop.acts

    now : is_ended (log ++ e ∷ []) n k ≡ (is_ended log n k || list_any (is_over n k) us)
    now = is_ended-append log e n k ∙ ap (λ ts. is_ended log n k || list_any (is_over n k) ts) (tells_stop log e n stop)

    here : (n k : ℕ) → ((n == n) && (k == k)) ≡ true
    here n k = grind (arith, nat_tests)

    gone : is_ended (log ++ e ∷ []) n k ≡ true → live_connection (log ++ e ∷ []) n k ≡ None
    gone is = ap (λ b. cond b None (connections_of (log ++ e ∷ []) n k)) is

    same_none : (b : Bool) → cond b None (connections_of (log ++ e ∷ []) n k) ≡ cond b None (connections_of log n k)
    same_none b = ap (λ o. cond b None o) (connections_of-unmade log e n unmade k)

    the_none : Option Spawned
    the_none = None

    neither : (b : Bool) → cond b None the_none ≡ the_none
    neither true = refl
    neither false = refl

    by : (b : Bool) → is_ended log n k ≡ b → (o : Option Spawned) → connections_of log n k ≡ o → live_connection (log ++ e ∷ []) n k ≡ None
    by true over o made = gone (now ∙ ap (λ b. b || list_any (is_over n k) us) over)
    by false lives None made = same_none (is_ended (log ++ e ∷ []) n k) ∙ (ap (λ o. cond (is_ended (log ++ e ∷ []) n k) None o) made ∙ neither (is_ended (log ++ e ∷ []) n k))
    by false lives (Some c) made =
        gone (now
        ∙ (ap (λ b. is_ended log n k || b) (stop_connection (told log) log n (is_over n k) k (among (made_has n k (told log) None c made)) (here n k)) ∙ or_true (is_ended log n k)))
      where
        among : (Has (flat_map (made_in n) (told log)) k) ⊎ (◌≡◌ {A = Option Spawned} None (Some c)) → Has (connections_in (told log) n) k
        among (inl has) = Has-kept (λ conn. not (list_any (is_over n conn) (told log))) (flat_map (made_in n) (told log)) k (ap not lives) has
        among (inr none) = absurd (cc)
