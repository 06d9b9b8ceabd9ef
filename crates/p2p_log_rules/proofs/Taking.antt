-- What one more entry makes of a history, and of what stands.
use Rattle.std.proofs.Common.{◌≡◌, Bool, List, [], ◌∷◌, ◌++◌, ap, sym, ◌∙◌, append_assoc, append-nil}
use Rattle.std.specs.Prelude.{flat_map, ◌||◌}
use Rattle.std.specs.List.{list_any}
use Rattle.std.proofs.lemmas.List.Folds.{list_any-append}
use Rattle.std.proofs.lemmas.Grind.{flat_map-append}
use Rattle.p2p_log_rules.proofs.Bools.{or_false}
use Rattle.p2p_log.specs.declared.entry.Entry.{Entry}
use Rattle.p2p_log_rules.specs.Taking.{state_from, history_from}

pub list_any-last : {X : Type 0} (p : X → Bool) (xs : List X) (x : X) → list_any p (xs ++ x ∷ []) ≡ (list_any p xs || p x)
list_any-last p xs x = list_any-append p xs (x ∷ []) ∙ ap (λ b. list_any p xs || b) (or_false (p x))

pub flat_map-last : {X A : Type 0} (f : X → List A) (xs : List X) (x : X) → flat_map f (xs ++ x ∷ []) ≡ flat_map f xs ++ f x
flat_map-last f xs x = flat_map-append f xs (x ∷ []) ∙ ap (λ b. flat_map f xs ++ b) (append-nil (f x))

-- a history goes on by what its last entry adds, given those before it
pub history_from-append :
    {X : Type 0} (adds : List Entry → Entry → List X) (before es : List Entry) (e : Entry)
    → history_from adds before (es ++ e ∷ []) ≡ history_from adds before es ++ adds (before ++ es) e
unfolding history_from
history_from-append adds before [] e = append-nil (adds before e) ∙ ap (λ b. adds b e) (sym (append-nil before))
history_from-append adds before (d ∷ es) e =
    ap (λ r. adds before d ++ r)
    (history_from-append adds (before ++ d ∷ []) es e
    ∙ ap (λ b. history_from adds (before ++ d ∷ []) es ++ adds b e) (append_assoc before (d ∷ []) es))
    ∙ sym (append_assoc (adds before d) (history_from adds (before ++ d ∷ []) es) (adds (before ++ d ∷ es) e))

-- and so does what stands
pub state_from-append : {X : Type 0} (by : List Entry → Entry → X → X) (before es : List Entry) (e : Entry) (x : X) → state_from by before (es ++ e ∷ []) x ≡ by (before ++ es) e (state_from by before es x)
unfolding state_from
state_from-append by before [] e x = ap (λ b. by b e x) (sym (append-nil before))
state_from-append by before (d ∷ es) e x =
    state_from-append by (before ++ d ∷ []) es e (by before d x)
    ∙ ap (λ b. by b e (state_from by (before ++ d ∷ []) es (by before d x))) (append_assoc before (d ∷ []) es)
