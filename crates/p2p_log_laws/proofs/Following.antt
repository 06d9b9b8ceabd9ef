-- A log whose entries follow one from another, each the effect of its event, is lawful.
use Rattle.std.proofs.Common.{◌≡◌, List, [], ◌∷◌, ◌++◌, sym, subst, append_assoc, append-nil}
use Rattle.p2p_log.specs.declared.config.Config.{Config}
use Rattle.p2p_log.specs.declared.entry.Entry.{Entry}
use Rattle.p2p_log.specs.declared.event.Event.{Event}
use Rattle.p2p_log_rules.specs.Effect.{effect}
use Rattle.p2p_log_rules.specs.Lawful.{IsLawful}
use Rattle.p2p_log_rules.proofs.Lawful.{IsLawful-nil, IsLawful-append}
use Rattle.p2p_log_laws.specs.Worked.{script_of}

-- each entry is the effect of its event, after the entries before it
abbrev pub Follow : List Config → List Entry → List Entry → Type 0
Follow configs before [] = Unit {0}
Follow configs before (e ∷ es) = (effect configs before e.event ≡ e) × Follow configs (before ++ e ∷ []) es

lawful_on :
    (configs : List Config) (script : List Event) (before es : List Entry)
    → IsLawful configs script before → Follow configs before es → IsLawful configs (script ++ script_of es) (before ++ es)
lawful_on configs script before [] lawful h =
    subst (λ s. IsLawful configs s (before ++ [])) (sym (append-nil script))
    (subst (IsLawful configs script) (sym (append-nil before)) lawful)
lawful_on configs script before (e ∷ es) lawful h =
    let one_more : IsLawful configs (script ++ e.event ∷ []) (before ++ e ∷ []) =
    subst (λ d. IsLawful configs (script ++ e.event ∷ []) (before ++ d ∷ [])) h.0 (IsLawful-append configs script before e.event lawful)
    in
    subst (λ s. IsLawful configs s (before ++ e ∷ es)) (append_assoc script (e.event ∷ []) (script_of es))
    (subst (IsLawful configs ((script ++ e.event ∷ []) ++ script_of es)) (append_assoc before (e ∷ []) es)
    (lawful_on configs (script ++ e.event ∷ []) (before ++ e ∷ []) es one_more h.1))

pub lawful_following : (configs : List Config) (log : List Entry) → Follow configs [] log → IsLawful configs (script_of log) log
lawful_following configs log h = lawful_on configs [] [] log (IsLawful-nil configs) h
