-- What each entry shows that ends a copy.
use Rattle.std.proofs.Common.{◌≡◌, ℕ, List, take, Some, refl, ap, sym, subst, ◌∙◌}
use Rattle.std.specs.Prelude.{slice_get}
use Rattle.std.specs.List.{AllByRecursion as Each}
use Rattle.p2p_log.specs.declared.config.Config.{Config}
use Rattle.p2p_log.specs.declared.end.End.TheVariants as end
use Rattle.p2p_log.specs.declared.end.Outcome.TheVariants as outcome
use Rattle.p2p_log.specs.declared.entry.Entry.{Entry}
use Rattle.p2p_log.specs.declared.event.Event.{Event}
use Rattle.p2p_log_rules.specs.Effect.{effect}
use Rattle.p2p_log_rules.specs.Lawful.{IsLawful}
use Rattle.p2p_log.proofs.Each.{Has-get, Each-has}
use Rattle.p2p_log_laws.specs.Causes.{EachDropShowsItsCause}
use Rattle.p2p_log_laws.specs.Delivered.{IsRead, EachDeliveredIsRead}
use Rattle.p2p_log_laws.proofs.Ledger.{Told, Told-each, row_laws}
use Rattle.p2p_log_laws.proofs.Prefixes.{entry_due}
use Rattle.p2p_log_laws.proofs.Showing.{Standing, EndShows}
use Rattle.p2p_log_laws.proofs.Telling.{StandTells}
use Rattle.p2p_log_laws.proofs.Coming.{HasCome, has_come, can_read, reading_can}
use Rattle.p2p_log_laws.proofs.Puts.{IsPut, each_put}
use Rattle.p2p_log_rules.proofs.Moves.{one_taken, first_has}
use Rattle.p2p_log_laws.proofs.Fitting.{StandsFit}

effect_shows : (configs : List Config) (log : List Entry) (ev : Event) → Standing configs log
    → Each (EndShows configs log (effect configs log ev)) (effect configs log ev).ends
unfolding effect
effect_shows configs log ev stand = (row_laws configs log ev.at ev.seed ev.act stand.fitting).causes stand ev refl

-- what each has, the one at a place has
pub Each-get : {X : Type 0} (P : X → Type 0) (xs : List X) (i : ℕ) (x : X) → Each P xs → slice_get xs i ≡ Some x → P x
Each-get P xs i x h e = Each-has P xs x h (Has-get xs i x e)

module _ (configs : List Config) (script : List Event) (log : List Entry) (lawful : IsLawful configs script log) where
  end_shows : (n : ℕ) (e : Entry) → slice_get log n ≡ Some e → Each (EndShows configs (take n log) e) e.ends
  end_shows n e at =
      let due = entry_due configs script log lawful n e at in
      let told : Told configs (take n log) = Told-each configs script log lawful n in
      subst (λ (d : Entry). Each (EndShows configs (take n log) d) d.ends) (sym due.1) (effect_shows configs (take n log) due.0 told.standing)

  pub each_shown : EachDropShowsItsCause configs log
  each_shown n e i copy c at ended = Each-get (EndShows configs (take n log) e) e.ends i (end.Copy copy.0 copy.1 (outcome.Dropped c)) (end_shows n e at) ended

  -- each delivery is a reader's
  pub each_read : EachDeliveredIsRead configs log
  each_read n e i copy at ended = Each-get (EndShows configs (take n log) e) e.ends i (end.Copy copy.0 copy.1 outcome.Delivered) (end_shows n e at) ended

  -- what a reader takes had come
  pub read_came : (n : ℕ) (e : Entry) (copy : ℕ × ℕ) (r : IsRead configs (take n log) e copy) → HasCome configs (take n log) copy r.queue
  read_came n e copy r =
      let before = take n log in
      let told = Told-each configs script log lawful n in
      let stood : r.oldest.queue ≡ r.queue = one_taken before r.queue r.oldest r.later r.stood in
      let here : HasCome configs before copy r.oldest.queue =
      has_come configs before copy r.oldest (first_has (IsPut before) before r.queue r.oldest r.later (each_put before) r.stood)
      (first_has StandsFit before r.queue r.oldest r.later told.standing.fitting r.stood)
      (first_has (StandTells configs before) before r.queue r.oldest r.later told.standing.tells r.stood) r.carried
      (ap can_read stood ∙ reading_can configs before e.event.act r.queue r.reads)
      in
      subst (HasCome configs before copy) stood here
