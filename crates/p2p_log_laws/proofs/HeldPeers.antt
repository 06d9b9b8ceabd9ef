-- A key that a node's tracker holds is not the node's own.
use Rattle.std.proofs.Common.{◌≡◌, ℕ, Bool, true, false, cond, List, [], ◌∷◌, ◌++◌, length, refl, ap, sym, ◌∙◌, arith}
use Rattle.std.proofs.lemmas.Bool.{false≢true}
use Rattle.p2p_base.specs.declared.key.Key.{Key}
use Rattle.p2p_tracker_calls.specs.Blocks.{is_local}
use Rattle.p2p_tracker_calls.specs.Grants as calls
use Rattle.p2p_log.specs.declared.config.Config.{Config}
use Rattle.p2p_log.specs.declared.entry.Entry.{Entry}
use Rattle.p2p_log.specs.declared.event.Event.{Event}
use Rattle.p2p_log_rules.specs.declared.row.Row.{Row}
use Rattle.p2p_log_rules.specs.Effect.{effect, entry_of, row}
use Rattle.p2p_log_rules.specs.Lawful.{IsLawful}
use Rattle.p2p_log_rules.specs.Tracking.{key_cmp, rules_at, calls_of}
use Rattle.p2p_log_laws.specs.Grants.{Granting, held_after}
use Rattle.p2p_log_laws.specs.NodeGrants.{granting}
use Rattle.p2p_log_laws.proofs.FirstGrants.{Stand, stand_first, stand_more, first_grants}
use Rattle.p2p_log_laws.proofs.HeldCalls.{held_none}
use Rattle.p2p_log_rules.proofs.Calls.{calls_of-append}
use Rattle.p2p_log_laws.proofs.NodeWeighs.{each_turns}
use Rattle.p2p_log_laws.proofs.Weighs.{Turns}
use Rattle.p2p_log_laws.proofs.Prefixes.{at_end}

-- after a turn a key is held by the grant, or it was held before
others_next : (grants frees held own : Bool) → (grants ≡ true → own ≡ false) → (held ≡ true → own ≡ false)
    → held_after held (cond grants (true ∷ []) (cond frees (false ∷ []) [])) ≡ true → own ≡ false
others_next true frees held own granted before h = granted refl
others_next false true held own granted before h = absurd (false≢true h)
others_next false false held own granted before h = before h

module _ (configs : List Config) (n : ℕ) (key : Key) where
  abbrev g : Granting
  g = granting configs n key

  abbrev IsOthers : List Entry → Type 0
  IsOthers log = Stand configs n log × (calls.is_held key_cmp (calls_of configs log n) key ≡ true → is_local key_cmp (rules_at configs n) key ≡ false)

  others_first : IsOthers []
  others_first = (stand_first configs n, λ h. absurd (false≢true (sym (held_none configs n key) ∙ h)))

  others_more : (before : List Entry) (ev : Event) → IsOthers before → IsOthers (before ++ effect configs before ev ∷ [])
  unfolding effect
  others_more before ev (stand, others) = (
    stand_more configs n before ev stand,
    λ h.
        let r : Row = row configs before ev.at ev.seed ev.act in
        let e : Entry = entry_of ev r in
        let turn : Turns configs n key before ev r = each_turns configs n key before ev.at ev.seed stand.fitting (first_grants configs n key before stand) (stand.unended (length before) (omega arith)) ev.act in
        others_next (g.grants before e) (g.frees before e) (calls.is_held key_cmp (calls_of configs before n) key) (is_local key_cmp (rules_at configs n) key) turn.others others
        (sym turn.turn ∙ (ap (λ l. calls.is_held key_cmp l key) (sym (calls_of-append configs before e n)) ∙ h)),
  )

pub held_is_others : (configs : List Config) (script : List Event) (log : List Entry) → IsLawful configs script log → (n : ℕ) (key : Key)
    → calls.is_held key_cmp (calls_of configs log n) key ≡ true → is_local key_cmp (rules_at configs n) key ≡ false
held_is_others configs script log lawful n key = (at_end configs (IsOthers configs n key) (others_first configs n key) (others_more configs n key) script log lawful).1
