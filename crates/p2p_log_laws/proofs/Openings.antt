-- A link over which keys are exchanged is one of the attempt that dialed it, which it answered.
use Rattle.std.proofs.Common.{◌≡◌, ℕ, Bool, true, false, cond, List, [], ◌∷◌, ◌++◌, length, Option, Some, None, ◌⊎◌, inl, inr, refl, ap, sym, subst, ◌∙◌, eqb-true}
use Rattle.std.specs.Prelude.{◌==◌}
use Rattle.std.proofs.lemmas.Option.{same_Some}
use Rattle.p2p_address.specs.declared.ip.SocketAddr.{SocketAddr}
use Rattle.p2p_log.specs.declared.config.Config.{Config}
use Rattle.p2p_log.specs.declared.queue.Queue.{Queue}
use Rattle.p2p_log.specs.declared.item.Item.{Item}
use Rattle.p2p_log.specs.declared.entry.Entry.{Entry}
use Rattle.p2p_log.specs.declared.entry.Reply.{Reply}
use Rattle.p2p_log.specs.declared.entry.Reply.TheVariants as reply
use Rattle.p2p_log.specs.declared.event.Act.{Act}
use Rattle.p2p_log.specs.declared.event.Act.TheVariants as act
use Rattle.p2p_log.specs.declared.event.Event.{Event}
use Rattle.p2p_log_rules.specs.declared.row.Opening.{Opening}
use Rattle.p2p_log_rules.specs.declared.row.Row.{Row}
use Rattle.p2p_log_rules.specs.Attempting.{Attempt, DialRules, dial_rules_at, attempts_of, connect_row}
use Rattle.p2p_log_rules.specs.Tellings as telling
use Rattle.p2p_log_rules.specs.Told.{done_tells, link_tells}
use Rattle.p2p_log_rules.proofs.Attempts.{attempt_told}
use Rattle.p2p_log_rules.proofs.AttemptTellings.{attempts_of-act, opened_told}
use Rattle.p2p_log_rules.specs.Effect.{effect, entry_of, row}
use Rattle.p2p_log_rules.specs.Links.{openings_of}
use Rattle.p2p_log_rules.proofs.Links.{Opens, opening_now}
use Rattle.p2p_log_laws.proofs.Linking.{IsAnswer, IsLinked, connect_is, links_now}
use Rattle.p2p_log_laws.proofs.Saying.{IsOpened, AreOpened, early_still, opened_still}
use Rattle.p2p_log_laws.proofs.StandingAttempts.{stands_before}

-- ---- one more entry

module _ (configs : List Config) (log : List Entry) (at seed : ℕ) where
  abbrev event : Act → Event
  event a = record { at = at; seed = seed; act = a }

  -- the dial was answered with a link where its listener was told too
  linked : (e n : ℕ) (from : SocketAddr) (to : ℕ) (r : Row) → IsAnswer configs log e n from to r → (x y : Queue × Item) (rest : List (Queue × Item)) → r.puts ≡ x ∷ y ∷ rest → IsLinked configs log e n from to r
  linked e n from to r (inl none) x y rest puts = absurd (let t : [] ≡ x ∷ y ∷ rest = sym none.1 ∙ puts in cc)
  linked e n from to r (inr (inl refused)) x y rest puts = absurd (let t = sym refused.1 ∙ puts in cc)
  linked e n from to r (inr (inr so)) x y rest puts = so

  module _ (o : Opening) (from : SocketAddr) where
    abbrev connects : Act
    connects = act.Connect o.attempt from o.node o.to

    -- it is told of its attempt that this event answered it
    opened_now : IsLinked configs log o.attempt o.node from o.to (row configs log at seed connects) → IsOpened configs (log ++ effect configs log (event connects) ∷ []) (length log) o
    unfolding effect row
    opened_now so =
        let r : Row = connect_row configs log o.attempt from o.node o.to in
        let a : Attempt = so.0.0 in
        let d : Entry = entry_of (event connects) r in
        let rules : DialRules = dial_rules_at configs o.node in
        let k : ℕ = length log in
        record {
          links = links_now configs log o.attempt o.node from o.to at seed r so;
          early = early_still configs log (event connects) o.attempt (stands_before configs o.node log o.attempt a so.0.1);
          answered = λ b stands.
              let told : attempts_of configs (log ++ d ∷ []) o.node o.attempt ≡ Some (record a { answer = Some k; link = Some k }) =
              attempts_of-act configs log d o.node o.attempt connects refl
              ∙ (ap (λ s. attempt_told rules o.node o.attempt (done_tells s (telling.dial_answered o.node o.attempt k ∷ link_tells o.node o.attempt k o.to r.puts)) (attempts_of configs log o.node o.attempt)) so.1
              ∙ (ap (λ puts. attempt_told rules o.node o.attempt (telling.dial_answered o.node o.attempt k ∷ link_tells o.node o.attempt k o.to puts) (attempts_of configs log o.node o.attempt)) so.2
              ∙ (ap (attempt_told rules o.node o.attempt (telling.dial_answered o.node o.attempt k ∷ telling.link_opened o.node o.attempt k o.to ∷ [])) so.0.1 ∙ opened_told rules o.node o.attempt k o.to a)))
              in
              ap (λ (c : Attempt). c.answer) (sym (same_Some (record a { answer = Some k; link = Some k }) b (sym told ∙ stands)));
        }

    new_opened : (a : Act) → a ≡ connects → (x y : Queue × Item) (rest : List (Queue × Item)) → (row configs log at seed a).puts ≡ x ∷ y ∷ rest
        → IsOpened configs (log ++ effect configs log (event a) ∷ []) (length log) o
    unfolding row
    new_opened a acts x y rest puts =
        subst (λ b. IsOpened configs (log ++ effect configs log (event b) ∷ []) (length log) o) (sym acts)
        (opened_now
        (linked o.attempt o.node from o.to (connect_row configs log o.attempt from o.node o.to) (connect_is configs log o.attempt o.node from o.to) x y rest
        (subst (λ b. (row configs log at seed b).puts ≡ x ∷ y ∷ rest) acts puts)))

pub are_opened : (configs : List Config) (log : List Entry) (ev : Event) → AreOpened configs log → AreOpened configs (log ++ effect configs log ev ∷ [])
unfolding effect
are_opened configs log ev opened link o is =
    let e : Entry = entry_of ev (row configs log ev.at ev.seed ev.act) in
    by (opening_now log e link o is)
  where
    by : (openings_of log link ≡ Some o) ⊎ Opens log (entry_of ev (row configs log ev.at ev.seed ev.act)) link o → IsOpened configs (log ++ effect configs log ev ∷ []) link o
    by (inl before) = opened_still configs log ev link o (opened link o before)
    by (inr new) =
        subst (λ k. IsOpened configs (log ++ effect configs log ev ∷ []) k o) (sym new.named)
        (new_opened configs log ev.at ev.seed o new.from ev.act new.acts new.one new.two new.rest new.puts)
