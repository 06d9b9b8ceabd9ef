use Rattle.std.proofs.Common.{◌≡◌, ℕ, ◌<◌, ◌≤◌, List, [], ◌∷◌, length, get_or, map, ap, sym, ◌∙◌, arith, Bool, true}
use Rattle.std.specs.Cmp.Lexicographic.{pointwise}
use Rattle.std.specs.Prelude.{nat_eq}
use Rattle.std.proofs.lemmas.Slice.Eq.{bytes_eq-Decides}
use Rattle.p2p_sim.proofs.words.is_run.Goals as goal

-- a list of one word, under a function
map-one : {A : Type 0} (f : A → List ℕ) (words : List A) (word : A) → 1 ≤ length words → length words < 2 → word ≡ get_or words 0 word → map f words ≡ f word ∷ []
map-one f [] word more less is = absurd (omega arith)
map-one f (w ∷ []) word more less is = ap (λ v. f v ∷ []) (sym is)
map-one f (w ∷ v ∷ ws) word more less is = absurd (omega arith)

-- a test of the one word tests the list
one-tested : (ws : List (List ℕ)) (w text : List ℕ) (r : Bool) → ws ≡ w ∷ [] → r ≡ pointwise nat_eq w text → (r ≡ true → ws ≡ text ∷ []) × (ws ≡ text ∷ [] → r ≡ true)
one-tested ws w text r one tested =
    let d = bytes_eq-Decides w text in (
      λ t. one ∙ ap (λ v. v ∷ []) (d.0 (sym tested ∙ t)),
      λ e. let same : w ≡ text = cc in tested ∙ d.1 same,
    )

pub returns-in-len1 : goal.returns-in-len1
returns-in-len1 c = one-tested _ _ _ _ (map-one _ c.args.words.now c.word-item.result c.in-len1.len_at_least c.in-len1.len_below c.word-item.is ∙ ap (λ v. v ∷ []) (sym c.as_str.ensures.value)) c.eq.ensures
