-- Three words, and numbers that they spell.
use Rattle.std.proofs.Common.{◌≡◌, ℕ, ◌<◌, ◌≤◌, ◌^◌, List, [], ◌∷◌, length, codes, decimal, sym, ap, ◌∙◌, arith, slice_index_or}
use Rattle.std.proofs.lemmas.Fmt.{decimal_injective}
use Rattle.std.specs.Prelude.{String}
use Rattle.p2p_sim.specs.ScriptWords.{AsksScript}
use Rattle.p2p_sim.specs.ThreadWords.{AsksThreads}
use Rattle.p2p_sim.specs.Words.{Spells}

pub three_are : {X : Type 0} (ws : List X) (x y z : X) → 3 ≤ length ws → length ws ≤ 3 → x ≡ slice_index_or ws 0 x → y ≡ slice_index_or ws 1 y → z ≡ slice_index_or ws 2 z → ws ≡ x ∷ y ∷ z ∷ []
three_are [] x y z most least p q r = absurd (omega arith)
three_are (a ∷ []) x y z most least p q r = absurd (omega arith)
three_are (a ∷ b ∷ []) x y z most least p q r = absurd (omega arith)
three_are (a ∷ b ∷ c ∷ []) x y z most least p q r = cc (p, q, r)
three_are (a ∷ b ∷ c ∷ d ∷ ws) x y z most least p q r = absurd (omega arith)

-- words spell one pair of numbers
pub spell_same : {A : Type 0} (ws : List (String A)) (command : List ℕ) (n m k l : ℕ) → n < 2 ^ 64 → m < 2 ^ 64 → k < 2 ^ 64 → l < 2 ^ 64 → Spells ws command n m → Spells ws command k l → (n ≡ k) × (m ≡ l)
spell_same ws command n m k l a b c d one two =
    let says : command ∷ decimal n ∷ decimal m ∷ [] ≡ command ∷ decimal k ∷ decimal l ∷ [] = sym one ∙ two in
    let first : decimal n ≡ decimal k = cc (says) in
    let second : decimal m ≡ decimal l = cc (says) in
    (decimal_injective n k a c first, decimal_injective m l b d second)

-- the words ask for one pair of numbers
pub same_asked : {A : Type 0} (ws : List (String A)) (n m k l : ℕ) → AsksThreads ws n m → AsksThreads ws k l → (n ≡ k) × (m ≡ l)
same_asked ws n m k l one two =
    let a = one.within in
    let b = two.within in
    spell_same ws (codes "threads") n m k l (omega (arith, a.senders)) (omega (arith, a.messages)) (omega (arith, b.senders)) (omega (arith, b.messages)) one.says two.says

-- the words ask for one script
pub same_script : {A : Type 0} (ws : List (String A)) (n m k l : ℕ) → AsksScript ws n m → AsksScript ws k l → (n ≡ k) × (m ≡ l)
same_script ws n m k l one two =
    let a = one.within in
    let b = two.within in
    spell_same ws (codes "gen") n m k l (omega (arith, a.most)) one.fits (omega (arith, b.most)) two.fits one.says two.says

-- no words are those of two commands
pub not_both : {A : Type 0} (ws : List (String A)) (n m k l : ℕ) → AsksScript ws n m → AsksThreads ws k l → ⊥
not_both ws n m k l one two =
    let says : codes "gen" ∷ decimal n ∷ decimal m ∷ [] ≡ codes "threads" ∷ decimal k ∷ decimal l ∷ [] = sym one.says ∙ two.says in
    let first : codes "gen" ≡ codes "threads" = cc (says) in
    let lengths : 3 ≡ 7 = ap length first in
    absurd (omega (arith, lengths))
