-- What one more entry makes of each fact.
use Rattle.std.proofs.Common.{◌≡◌, ℕ, List, [], ◌∷◌, ◌++◌}
use Rattle.std.specs.Prelude.{◌||◌}
use Rattle.std.proofs.lemmas.List.{map-append}
use Rattle.p2p_log.specs.declared.config.Config.{Config}
use Rattle.p2p_log.specs.declared.event.Event.{Event}
use Rattle.p2p_log.specs.declared.entry.Entry.{Entry}
use Rattle.p2p_log_rules.specs.Facts.{events_of, starts, has_started, registers_at, registered}
pub use Rattle.p2p_log_rules.proofs.Taking.{list_any-last, history_from-append, state_from-append}
use Rattle.p2p_log_rules.proofs.Taking.{flat_map-last}

pub events_of-append : (log : List Entry) (e : Entry) → events_of (log ++ e ∷ []) ≡ events_of log ++ e.event ∷ []
events_of-append log e = map-append (λ (d : Entry). d.event) log (e ∷ [])

pub has_started-append : (events : List Event) (v : Event) (n : ℕ) → has_started (events ++ v ∷ []) n ≡ (has_started events n || starts n v.act)
unfolding has_started
has_started-append events v n = list_any-last (λ (w : Event). starts n w.act) events v

pub registered-append :
    (configs : List Config) (events : List Event) (v : Event) (n : ℕ)
    → registered configs (events ++ v ∷ []) n ≡ registered configs events n ++ registers_at configs n v.act
unfolding registered
registered-append configs events v n = flat_map-last (λ (w : Event). registers_at configs n w.act) events v
