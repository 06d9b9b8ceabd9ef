use Rattle.std.proofs.Common.{◌≡◌, ◌++◌, ◌∷◌, [], List, ℕ, zero, suc, ◌+◌, ◌<◌, length, take, get_or, add-one, sym, ap, ◌∙◌, subst, arith}
use Rattle.std.specs.List.Sorted.{IsStrictlySortedBy}
use Rattle.std.specs.Map.{keys_of, values_of}
use Rattle.p2p_tracker_directory.proofs.Keeping.{take-fits}
use Rattle.p2p_tracker_directory.proofs.directory.newcomers.copy_peers.Goals as goal

pair-suc : {P A : Type 0} (es : List (P × A)) (i : ℕ) (k : P) (a : A) → i < length es
    → k ≡ get_or (keys_of es) i k → a ≡ get_or (values_of es) i a → take (suc i) es ≡ take i es ++ (k, a) ∷ []
pair-suc [] i k a h e f = absurd (omega (arith, h))
pair-suc (x ∷ es) zero k a h e f = ap (λ y. (y, x.1) ∷ []) (sym e) ∙ ap (λ y. (k, y) ∷ []) (sym f)
pair-suc (x ∷ es) (suc i) k a h e f = ap (λ ys. x ∷ ys) (pair-suc es i k a (omega (arith, h)) e f)

-- one more entry
pair-more : {P A : Type 0} (es : List (P × A)) (i : ℕ) (k : P) (a : A) → i < length es
    → k ≡ get_or (keys_of es) i k → a ≡ get_or (values_of es) i a → take (i + 1) es ≡ take i es ++ (k, a) ∷ []
pair-more es i k a h e f = ap (λ n. take n es) (add-one i) ∙ pair-suc es i k a h e f

pub loop-place-preserved : goal.loop-place-preserved
loop-place-preserved g c =
    c.in_ok-add_copy.ensures ∙ (ap (λ es. es ++ (c.index-listed-place.result, c.index-addresses-place.result) ∷ []) c.loop-place.invariant
    ∙ sym (pair-more c.args.peers.now c.loop-place.place c.index-listed-place.result c.index-addresses-place.result
    (omega (arith, c.loop-place-test.true, c.len-place-end.ensures))
    (c.index-listed-place.is ∙ ap (λ ks. get_or ks c.loop-place.place c.index-listed-place.result) c.keys-listed.ensures.keys)
    (c.index-addresses-place.is ∙ ap (λ vs. get_or vs c.loop-place.place c.index-addresses-place.result) c.values-addresses.ensures)))

pub returns-clause-ordered : goal.returns-clause-ordered
returns-clause-ordered g c =
    let same : c.loop-place.copies.items ≡ c.args.peers.now =
    c.loop-place.invariant ∙ take-fits c.loop-place.place c.args.peers.now (omega (arith, c.loop-place-test.false, c.len-place-end.ensures)) in
    subst (IsStrictlySortedBy g.C.Ord.cmp) (c.keys-listed.ensures.keys ∙ sym (ap keys_of same)) c.keys-listed.ensures.sorted
