-- What is told to be granted is put.
use Rattle.std.proofs.Common.{◌≡◌, ℕ, Bool, true, false, List, refl, ap, sym, subst, ◌∙◌, eqb-true}
use Rattle.std.proofs.lemmas.Bool.{false≢true}
use Rattle.std.specs.Prelude.{◌==◌}
use Rattle.std.specs.List.{list_any}
use Rattle.p2p_base.specs.declared.key.Key.{Key}
use Rattle.p2p_tracker_calls.specs.Jitter.{jitter_of}
use Rattle.p2p_log.specs.declared.config.Config.{Config}
use Rattle.p2p_log.specs.declared.entry.Entry.{Entry}
use Rattle.p2p_log.specs.declared.event.Act.{Act}
use Rattle.p2p_log.specs.declared.event.Act.TheVariants as act
use Rattle.p2p_log.specs.declared.event.Event.{Event}
use Rattle.p2p_log_rules.specs.declared.row.Row.{Row}
use Rattle.p2p_log_rules.specs.Told.{tells, told}
use Rattle.p2p_log_rules.specs.Tracked.{called_tells}
use Rattle.p2p_log_rules.specs.Effect.{effect, entry_of, row}
use Rattle.p2p_log_rules.specs.Facts.{taken}
use Rattle.p2p_log_rules.specs.Tracking.{rules_at, grants_peer, calls_of}
use Rattle.p2p_log_rules.specs.TrackerRows as rows
use Rattle.p2p_log_laws.specs.NodeGrants.{puts_grant, tells_grant, granting}
use Rattle.p2p_log_laws.proofs.Granting.{grants_of, grants_elsewhere}
use Rattle.p2p_log_laws.proofs.TrackerGrants.{Step, tracker_steps}
use Rattle.p2p_log_laws.proofs.Weighing.{taken_items}
use Rattle.p2p_log_rules.proofs.Steps.{steps_tracker}

abbrev IsGrantPut : List Config → List Entry → Event → ℕ → Key → Act → Type 0
IsGrantPut configs log ev n key a =
    (granting configs n key).grants log (entry_of ev (row configs log ev.at ev.seed ev.act)) ≡ true → list_any (puts_grant n key) (row configs log ev.at ev.seed a).puts ≡ true

pub granted_is_put : (configs : List Config) (log : List Entry) (ev : Event) (n : ℕ) (key : Key) → (granting configs n key).grants log (effect configs log ev) ≡ true
    → list_any (puts_grant n key) (effect configs log ev).puts ≡ true
unfolding effect row tells
granted_is_put configs log ev n key = by ev.act refl
  where
    at_tracker : (m : ℕ) → ev.act ≡ act.Tracker m → (m == n) ≡ true → IsGrantPut configs log ev n key (act.Tracker m)
    at_tracker m is same h =
        let at_n : ev.act ≡ act.Tracker n = is ∙ ap act.Tracker (eqb-true m n same) in
        let r : Row = rows.tracker_row configs log n ev.at in
        let now : Event = record { at = ev.at; seed = ev.seed; act = act.Tracker n } in
        let step : Step n key (rules_at configs n) log ev.at ev.seed (jitter_of (rules_at configs n).cooldown ev.seed) (calls_of configs log n) r =
        tracker_steps n key configs log ev.at ev.seed (jitter_of (rules_at configs n).cooldown ev.seed)
        in
        let said : list_any (tells_grant n key) (tells (told log) log (entry_of now r)) ≡ true =
        subst (λ a. list_any (tells_grant n key) (tells (told log) log (entry_of (record { at = ev.at; seed = ev.seed; act = a }) (row configs log ev.at ev.seed a))) ≡ true) at_n h
        in
        subst (λ i. list_any (puts_grant n key) (rows.tracker_row configs log i ev.at).puts ≡ true) (sym (eqb-true m n same))
        (step.turned.granted
        ∙ (sym (grants_of n key log ev.at ev.seed r.reply (taken log (entry_of now r)) r.puts
        ∙ (ap (λ l. list_any (tells_grant n key) (called_tells log n ev.at ev.seed (list_any grants_peer r.puts) r.reply l)) (taken_items log now r step.moves) ∙ step.turned.says))
        ∙ said))

    elsewhere : steps_tracker n ev.act ≡ false → IsGrantPut configs log ev n key ev.act
    elsewhere other h = absurd (false≢true (sym (grants_elsewhere n key log (entry_of ev (row configs log ev.at ev.seed ev.act)) other) ∙ h))

    by : (a : Act) → ev.act ≡ a → IsGrantPut configs log ev n key ev.act
    by (act.Tracker m) is = steps (m == n) refl
      where
        steps : (b : Bool) → (m == n) ≡ b → IsGrantPut configs log ev n key ev.act
        steps true same = subst (IsGrantPut configs log ev n key) (sym is) (at_tracker m is same)
        steps false differ = elsewhere (ap (steps_tracker n) is ∙ differ)
    by a is = elsewhere (ap (steps_tracker n) is)
