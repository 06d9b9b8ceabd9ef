-- What holds of each handshake of a node, over a lawful log.
use Rattle.std.proofs.Common.{◌≡◌, ℕ, ◌+◌, ◌≤◌, Bool, true, false, cond, List, [], ◌∷◌, ◌++◌, refl, ap, subst, ◌∙◌, arith, eq-eqb}
use Rattle.std.specs.Prelude.{◌&&◌, not, count_by, filter}
use Rattle.p2p_base.specs.declared.key.Key.{Key}
use Rattle.p2p_log.specs.declared.config.Config.{Config}
use Rattle.p2p_log.specs.declared.queue.Queue.TheVariants as queue
use Rattle.p2p_log.specs.declared.item.Item.TheVariants as item
use Rattle.p2p_log.specs.declared.item.Envelope.{Envelope}
use Rattle.p2p_log.specs.declared.entry.Entry.{Entry}
use Rattle.p2p_log.specs.declared.event.Event.{Event}
use Rattle.p2p_log.specs.QueueCode.{same_queue}
use Rattle.p2p_log.specs.Lines.{name_of, stays, live, line}
use Rattle.p2p_log.proofs.Names.{AreApart-live_from}
use Rattle.p2p_log.proofs.Queues.{same_queue-refl}
use Rattle.p2p_log.proofs.Taken.{sum_by-first}
use Rattle.p2p_log_rules.specs.Effect.{effect}
use Rattle.p2p_log_rules.specs.Handshakes.{takes_acceptance, is_handshaking, is_finished}
use Rattle.p2p_log_rules.specs.Lawful.{IsLawful}
use Rattle.p2p_log_rules.proofs.Moves.{one_taken}
use Rattle.p2p_log_laws.specs.Grants.{one}
use Rattle.p2p_log_laws.specs.NodeGrants.{put_of}
use Rattle.p2p_log_laws.specs.OneAnswer.{answers, exchanges, is_asked, asks_for, waiting_asked, HasOneAnswer}
use Rattle.p2p_log_laws.proofs.Exchanges.{Over, over_first, over_more}
use Rattle.p2p_log_laws.proofs.OneAnswer.{Holds, holds_first, holds_next}
use Rattle.p2p_log_laws.proofs.OneAsked.{Asked, asked_first, asked_more}
use Rattle.p2p_log_laws.proofs.Prefixes.{at_end}
use Rattle.p2p_log_laws.proofs.Untold.{Untold, untold_first, untold_more}

module _ (configs : List Config) (n : ℕ) where
  pub record AreHandshakes (log : List Entry) : Type 0 where
    pub over : (name : ℕ) → Over n name log
    pub unaccepted : (name : ℕ) → Untold takes_acceptance refl configs n name log
    pub answered : (name : ℕ) → Holds answers refl configs n name log
    pub exchanged : (name : ℕ) → Holds exchanges refl configs n name log
    pub asked : (name : ℕ) → Asked configs n name log

  pub handshakes_first : AreHandshakes []
  handshakes_first = record {
    over = λ name. over_first n name;
    unaccepted = λ name. untold_first takes_acceptance refl configs n name;
    answered = λ name. holds_first answers refl configs n name;
    exchanged = λ name. holds_first exchanges refl configs n name;
    asked = λ name. asked_first configs n name;
  }

  pub handshakes_more : (log : List Entry) (ev : Event) → AreHandshakes log → AreHandshakes (log ++ effect configs log ev ∷ [])
  unfolding effect
  handshakes_more log ev h = record {
    over = λ name. over_more n name log (effect configs log ev) (h.over name);
    unaccepted = λ name. untold_more takes_acceptance refl configs n name log ev (h.unaccepted name);
    answered = λ name. holds_next answers refl configs n name log ev (h.over name) (h.unaccepted name) (h.answered name);
    exchanged = λ name. holds_next exchanges refl configs n name log ev (h.over name) (h.unaccepted name) (h.exchanged name);
    asked = λ name. asked_more configs n name log ev (h.answered name).one_waits (h.exchanged name).one_waits (h.asked name);
  }

  pub each_handshake : (script : List Event) (log : List Entry) → IsLawful configs script log → AreHandshakes log
  each_handshake script log lawful = at_end configs AreHandshakes handshakes_first handshakes_more script log lawful

  pub one_answer : (script : List Event) (log : List Entry) → IsLawful configs script log → (name : ℕ) → HasOneAnswer n name log
  one_answer script log lawful name =
      let all = each_handshake script log lawful in
      record { answered = (all.answered name).one_waits; exchanged = (all.exchanged name).one_waits; asked = all.asked name }

  -- ---- a question for a peer that the tracker is about to take is of a handshake that runs

  module _ (log : List Entry) (all : AreHandshakes log) (name : ℕ) (key : Key) (x : Envelope) (rest : List Envelope) (first : line log (queue.Tracker n) ≡ x ∷ rest) (is : x.item ≡ item.AskListen name key) where
    waits : waiting_asked n name log ≡ 1 + count_by (λ y. is_asked n name (put_of y)) (filter (stays (name_of x ∷ [])) (live log))
    unfolding line
    waits =
        let stood : x.queue ≡ queue.Tracker n = one_taken log (queue.Tracker n) x rest first in
        let here : is_asked n name (put_of x) ≡ true =
        ap (λ q. same_queue (queue.Tracker n) q && asks_for n name x.item) stood
        ∙ (ap (λ b. b && asks_for n name x.item) (same_queue-refl (queue.Tracker n)) ∙ (ap (asks_for n name) is ∙ eq-eqb name name refl))
        in
        sum_by-first (λ y. cond (is_asked n name (put_of y)) 1 0) (live log) (queue.Tracker n) x rest (AreApart-live_from 0 log) first
        ∙ ap (λ b. cond b 1 0 + count_by (λ y. is_asked n name (put_of y)) (filter (stays (name_of x ∷ [])) (live log))) here

    pub asker_runs : is_handshaking log n name ≡ true
    asker_runs = by (is_handshaking log n name) refl
      where
        never : (a b : ℕ) → a ≡ 1 + b → a + 1 ≤ 1 → ⊥
        never a b some le = omega (arith, some, le)

        by : (b : Bool) → is_handshaking log n name ≡ b → is_handshaking log n name ≡ true
        by true runs = runs
        by false gone =
            absurd (never (waiting_asked n name log) (count_by (λ y. is_asked n name (put_of y)) (filter (stays (name_of x ∷ [])) (live log))) waits
            (subst (λ b. waiting_asked n name log + one (not (b && is_finished log n name)) ≤ 1) gone (all.asked name)))
