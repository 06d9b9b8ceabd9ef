-- Nothing runs at a node that has stopped: its stop ends each handshake and each attempt, and afterwards none begins, since its listener and its dialer do nothing any more.
use Rattle.std.proofs.Common.{◌≡◌, ℕ, Bool, true, false, cond, List, [], ◌∷◌, ◌++◌, length, ◌⊎◌, inl, inr, refl, ap, sym, ◌∙◌, eqb-true, Some, None}
use Rattle.std.specs.Prelude.{◌==◌, ◌&&◌, not}
use Rattle.std.proofs.lemmas.Bool.{false≢true}
use Rattle.p2p_tracker_calls.specs.declared.gates.Reply.TheVariants as gates
use Rattle.p2p_log.specs.declared.config.Config.{Config}
use Rattle.p2p_log.specs.declared.queue.Queue.TheVariants as queue
use Rattle.p2p_log.specs.declared.entry.Entry.{Entry}
use Rattle.p2p_log.specs.declared.entry.Reply.TheVariants as reply
use Rattle.p2p_log.specs.declared.event.Act.{Act}
use Rattle.p2p_log.specs.declared.event.Act.TheVariants as act
use Rattle.p2p_log.specs.declared.event.Event.{Event}
use Rattle.p2p_log.specs.Lines.{line}
use Rattle.p2p_log_rules.specs.declared.row.Row.{Row}
use Rattle.p2p_log_rules.specs.Attempting.{Attempt, dial_rules_at, attempts_of}
use Rattle.p2p_log_rules.specs.Dialing.{dials_of, dialer_turn}
use Rattle.p2p_log_rules.specs.Dropping.{listener_drops}
use Rattle.p2p_log_rules.specs.Effect.{effect, row, entry_of}
use Rattle.p2p_log_rules.specs.Facts.{stops, is_started, is_stopped, is_up, taken}
use Rattle.p2p_log_rules.specs.Handshakes.{handshakes_of, is_handshaking}
use Rattle.p2p_log_rules.specs.Lawful.{IsLawful}
use Rattle.p2p_log_rules.specs.Listening.{known_of, gate_rules_at, listener_turn, has_place}
use Rattle.p2p_log_rules.specs.Rows.{only}
use Rattle.p2p_log_rules.specs.Tellings.{Telling, last_or}
use Rattle.p2p_log_rules.specs.Tellings as telling
use Rattle.p2p_log_rules.specs.Told.{asks_list, answer_tells, tells, told}
use Rattle.p2p_log_rules.proofs.TellingKinds as kind
use Rattle.p2p_log_rules.proofs.Attempts.{is_begun, attempt_told, none_told, attempts_of-append}
use Rattle.p2p_log_rules.proofs.AttemptTellings.{tries, attempts_of-kept, attempts_of-new, attempts_of-old}
use Rattle.p2p_log_rules.proofs.Bools.{and_false}
use Rattle.p2p_log_rules.proofs.Channels.{IsStopOf, is_stopped-kept, is_stopped-none}
use Rattle.p2p_log_rules.proofs.Families.{telling_kind, kinds_of, has, are_apart, untold_of}
use Rattle.p2p_log_rules.proofs.Handshakes.{without_name, is_among, Begins, Ends, Stops, handshakes_now, handshakes_of-stopped}
use Rattle.p2p_log_rules.proofs.Stopping.{attempts_of-stopped}
use Rattle.p2p_log_laws.proofs.Prefixes.{at_end}
use Rattle.p2p_log_laws.proofs.Shape.{no_moves}
use Rattle.p2p_log_laws.proofs.Weighing.{taken_items}

-- ---- where none runs, none comes

module _ (log : List Entry) (e : Entry) (n : ℕ) where
  -- a handshake begins only where a listener admits
  no_handshake : handshakes_of log n ≡ [] → (e.event.act ≡ act.Listener n → e.reply ≡ reply.Gone) → handshakes_of (log ++ e ∷ []) n ≡ []
  no_handshake none gone = by (handshakes_now log e n)
    where
      by : (handshakes_of (log ++ e ∷ []) n ≡ handshakes_of log n) ⊎ (Begins log e n ⊎ (Ends log e n ⊎ Stops log e n)) → handshakes_of (log ++ e ∷ []) n ≡ []
      by (inl same) = same ∙ none
      by (inr (inl begins)) = absurd (let so : reply.Gone ≡ reply.Gates gates.Admitted = sym (gone begins.acts) ∙ begins.replied in cc)
      by (inr (inr (inl ends))) = ends.now ∙ ap (without_name ends.name) none
      by (inr (inr (inr stops))) = stops.now

begun_kinds : (n k : ℕ) (t : Telling) → has (kind.attempt_begun ∷ []) (telling_kind t) ≡ false → is_begun n k t ≡ false
begun_kinds n k (telling.attempt_begun m j key ingress at) h = cc
begun_kinds n k _ h = refl

module _ (configs : List Config) (log : List Entry) (e : Entry) (n k : ℕ) (none : attempts_of configs log n k ≡ None) where
  abbrev StillNone : Type 0
  StillNone = attempts_of configs (log ++ e ∷ []) n k ≡ None

  -- no act but a dialer's step begins an attempt
  unbegun : are_apart (kinds_of e.event.act) (kind.attempt_begun ∷ []) ≡ true → StillNone
  unbegun apart =
      attempts_of-append configs log e n k
      ∙ (ap (attempt_told (dial_rules_at configs n) n k (tells (told log) log e)) none
      ∙ none_told (dial_rules_at configs n) n k (tells (told log) log e) (untold_of (is_begun n k) (kind.attempt_begun ∷ []) (begun_kinds n k) (told log) log e apart))

  -- and that begins none where it takes nothing
  nothing_begun : e.event.act ≡ act.Dialer n → taken log e ≡ [] → StillNone
  nothing_begun acts nothing = by (k == length log) refl
    where
      by : (b : Bool) → (k == length log) ≡ b → StillNone
      by true is =
          ap (attempts_of configs (log ++ e ∷ []) n) (eqb-true k (length log) is)
          ∙ (attempts_of-new configs log e n acts
          ∙ ap (λ items. attempt_told (dial_rules_at configs n) n (length log) (answer_tells n (last_or 0 (asks_list n) (told log)) (length log) e.event.at e.event.seed items) None) nothing)
      by false other = attempts_of-old configs log e n n k acts other ∙ none

  no_attempt : (e.event.act ≡ act.Dialer n → taken log e ≡ []) → StillNone
  no_attempt takes_none = by e.event.act refl
    where
      by : (a : Act) → e.event.act ≡ a → StillNone
      by (act.Dialer m) acts = here (m == n) refl
        where
          here : (b : Bool) → (m == n) ≡ b → StillNone
          here true so = let own : e.event.act ≡ act.Dialer n = acts ∙ ap act.Dialer (eqb-true m n so) in nothing_begun own (takes_none own)
          here false so = attempts_of-kept configs log e n k (ap (tries n) acts ∙ so) ∙ none
      by a acts = unbegun (ap (λ b. are_apart (kinds_of b) (kind.attempt_begun ∷ [])) acts)

-- ---- the steps of a node that has stopped

module _ (configs : List Config) (log : List Entry) (ev : Event) (n : ℕ) (over : is_stopped log n ≡ true) where
  abbrev gone : Row
  gone = only reply.Gone

  down : is_up log n ≡ false
  unfolding is_up
  down = ap (λ b. is_started log n && not b) over ∙ and_false (is_started log n)

  listener_gone : ev.act ≡ act.Listener n → row configs log ev.at ev.seed ev.act ≡ gone
  unfolding row
  listener_gone acts =
      ap (row configs log ev.at ev.seed) acts
      ∙ ap (λ b. listener_drops log n (cond b
      (listener_turn (gate_rules_at configs n) (known_of configs log n) (has_place configs log n) n (length log) ev.at (line log (queue.Addresses n)) (line log (queue.Arrivals n))) gone)) down

  dialer_gone : ev.act ≡ act.Dialer n → row configs log ev.at ev.seed ev.act ≡ gone
  unfolding row
  dialer_gone acts =
      ap (row configs log ev.at ev.seed) acts ∙ ap (λ b. cond b (dialer_turn n ev.at ev.seed (dials_of configs log n) (line log (queue.Dialer n))) gone) down

  listener_replies : (effect configs log ev).event.act ≡ act.Listener n → (effect configs log ev).reply ≡ reply.Gone
  unfolding effect
  listener_replies acts = ap (λ (r : Row). r.reply) (listener_gone acts)

  dialer_takes : (effect configs log ev).event.act ≡ act.Dialer n → taken log (effect configs log ev) ≡ []
  unfolding effect
  dialer_takes acts = ap (λ r. taken log (entry_of ev r)) (dialer_gone acts) ∙ taken_items log ev gone (no_moves log gone refl refl)

-- ---- the entry after which a node has stopped that had not

stopped_now : (log : List Entry) (e : Entry) (n : ℕ) → is_stopped log n ≡ false → is_stopped (log ++ e ∷ []) n ≡ true → IsStopOf log e n
stopped_now log e n lasted over = by e.event.act refl
  where
    kept : stops n e.event.act ≡ false → IsStopOf log e n
    kept none = absurd (false≢true (sym (is_stopped-kept log e n none ∙ lasted) ∙ over))

    by : (a : Act) → e.event.act ≡ a → IsStopOf log e n
    by (act.Stop by_start m) acts = here (m == n) refl
      where
        here : (b : Bool) → (m == n) ≡ b → IsStopOf log e n
        here true so = record { by_start = by_start; acts = acts ∙ ap (act.Stop by_start) (eqb-true m n so); lasted = lasted }
        here false so = kept (ap (stops n) acts ∙ so)
    by a acts = kept (ap (stops n) acts)

-- ---- each log

module _ (configs : List Config) (n : ℕ) where
  -- once it has stopped, it has no handshake and no attempt
  abbrev Rests : List Entry → Type 0
  Rests log = is_stopped log n ≡ true → (handshakes_of log n ≡ []) × ((k : ℕ) → attempts_of configs log n k ≡ None)

  rests_first : Rests []
  rests_first over = absurd (false≢true (sym (is_stopped-none n) ∙ over))

  rests_more : (before : List Entry) (ev : Event) → Rests before → Rests (before ++ effect configs before ev ∷ [])
  rests_more before ev rests over = by (is_stopped before n) refl
    where
      e : Entry
      e = effect configs before ev

      by : (b : Bool) → is_stopped before n ≡ b → (handshakes_of (before ++ e ∷ []) n ≡ []) × ((k : ℕ) → attempts_of configs (before ++ e ∷ []) n k ≡ None)
      by true was = (
        no_handshake before e n (rests was).0 (listener_replies configs before ev n was),
        λ k. no_attempt configs before e n k ((rests was).1 k) (dialer_takes configs before ev n was),
      )
      by false lasted = let stop = stopped_now before e n lasted over in (handshakes_of-stopped before e n stop, attempts_of-stopped configs before e n stop)

  rests_at_end : (script : List Event) (log : List Entry) → IsLawful configs script log → Rests log
  rests_at_end script log lawful = at_end configs Rests rests_first rests_more script log lawful

-- no handshake runs at a node that has stopped
pub handshaking_lasts : (configs : List Config) (script : List Event) (log : List Entry) → IsLawful configs script log → (n h : ℕ) → is_handshaking log n h ≡ true → is_stopped log n ≡ false
handshaking_lasts configs script log lawful n h runs = by (is_stopped log n) refl
  where
    by : (b : Bool) → is_stopped log n ≡ b → is_stopped log n ≡ false
    by true over = absurd (false≢true (sym (ap (is_among h) (rests_at_end configs n script log lawful over).0) ∙ runs))
    by false lasts = lasts

-- nor an attempt
pub attempt_lasts : (configs : List Config) (script : List Event) (log : List Entry) → IsLawful configs script log → (n k : ℕ) (a : Attempt) → attempts_of configs log n k ≡ Some a → is_stopped log n ≡ false
attempt_lasts configs script log lawful n k a stands = by (is_stopped log n) refl
  where
    by : (b : Bool) → is_stopped log n ≡ b → is_stopped log n ≡ false
    by true over = let none : attempts_of configs log n k ≡ None = (rests_at_end configs n script log lawful over).1 k in absurd (cc)
    by false lasts = lasts
