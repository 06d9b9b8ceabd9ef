-- What an entry tells, by its act, and what one more entry makes of what is looked for, and of what is collected, among all that was told.
use Rattle.std.proofs.Common.{◌≡◌, ℕ, Bool, true, false, List, [], ◌∷◌, ◌++◌, length, ap, ◌∙◌, append-nil}
use Rattle.std.specs.Prelude.{◌||◌, flat_map}
use Rattle.std.specs.List.{list_any}
use Rattle.std.proofs.lemmas.Grind.{flat_map-append}
use Rattle.std.proofs.lemmas.List.Folds.{list_any-append}
use Rattle.p2p_log_rules.proofs.Bools.{or_false}
use Rattle.p2p_log.specs.declared.entry.Entry.{Entry}
use Rattle.p2p_log.specs.declared.event.Act.{Act}
use Rattle.p2p_log_rules.specs.Taking.{taken}
use Rattle.p2p_log_rules.specs.Tellings.{Telling}
use Rattle.p2p_log_rules.specs.Told.{act_tells, tells, told}
use Rattle.p2p_log_rules.proofs.TellingKinds.{Kind}
use Rattle.p2p_log_rules.proofs.Families.{telling_kind, kinds_of, has, are_apart, untold_of}
use Rattle.p2p_log_rules.proofs.Ignoring.{flat_map-none}
use Rattle.p2p_log_rules.proofs.Tellings.{told-append}

pub tells_as : (ts : List Telling) (log : List Entry) (e : Entry) (a : Act) → e.event.act ≡ a → tells ts log e ≡ act_tells ts log (length log) e.event.at e.event.seed e.reply (taken log e) e.puts a
unfolding tells
tells_as ts log e a is = ap (λ b. act_tells ts log (length log) e.event.at e.event.seed e.reply (taken log e) e.puts b) is

-- an act that tells none of these kinds
abbrev pub TellsNone : List Entry → Entry → List Kind → Type 0
TellsNone log e js = are_apart (kinds_of e.event.act) js ≡ true

-- nothing is collected of what it tells
pub nothing_of : {X : Type 0} (js : List Kind) (f : Telling → List X) → ((t : Telling) → has js (telling_kind t) ≡ false → f t ≡ []) → (ts : List Telling) (log : List Entry) (e : Entry) → TellsNone log e js → flat_map f (tells ts log e) ≡ []
nothing_of js f all ts log e apart = flat_map-none (λ t. has js (telling_kind t)) f all (tells ts log e) (untold_of (λ t. has js (telling_kind t)) js (λ t h. h) ts log e apart)

module _ (log : List Entry) (e : Entry) where
  -- whether something is told
  pub found-append : (p : Telling → Bool) → list_any p (told (log ++ e ∷ [])) ≡ (list_any p (told log) || list_any p (tells (told log) log e))
  found-append p = ap (list_any p) (told-append log e) ∙ list_any-append p (told log) (tells (told log) log e)

  pub found-kept : (p : Telling → Bool) → list_any p (tells (told log) log e) ≡ false → list_any p (told (log ++ e ∷ [])) ≡ list_any p (told log)
  found-kept p none = found-append p ∙ (ap (λ b. list_any p (told log) || b) none ∙ or_false (list_any p (told log)))

  pub found-apart : (p : Telling → Bool) (js : List Kind) → ((t : Telling) → has js (telling_kind t) ≡ false → p t ≡ false) → TellsNone log e js → list_any p (told (log ++ e ∷ [])) ≡ list_any p (told log)
  found-apart p js all apart = found-kept p (untold_of p js all (told log) log e apart)

  -- what is collected of each telling
  module _ {X : Type 0} (f : Telling → List X) where
    pub collected-append : flat_map f (told (log ++ e ∷ [])) ≡ flat_map f (told log) ++ flat_map f (tells (told log) log e)
    collected-append = ap (flat_map f) (told-append log e) ∙ flat_map-append f (told log) (tells (told log) log e)

    pub collected-kept : flat_map f (tells (told log) log e) ≡ [] → flat_map f (told (log ++ e ∷ [])) ≡ flat_map f (told log)
    collected-kept none = collected-append ∙ (ap (λ l. flat_map f (told log) ++ l) none ∙ append-nil (flat_map f (told log)))

    pub collected-apart : (js : List Kind) → ((t : Telling) → has js (telling_kind t) ≡ false → f t ≡ []) → TellsNone log e js → flat_map f (told (log ++ e ∷ [])) ≡ flat_map f (told log)
    collected-apart js all apart = collected-kept (nothing_of js f all (told log) log e apart)
