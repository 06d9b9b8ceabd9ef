-- The places in which infos are kept.
use Rattle.std.proofs.Common.{◌≡◌, Bool, true, false, cond, ◌||◌, List, [], ◌∷◌, ◌++◌, Option, Some, None, refl, ap, ◌∙◌}
use Rattle.std.proofs.lemmas.Bool.{false≢true}
use Rattle.std.proofs.lemmas.Cmp.{eq_by_cmp_equiv}
use Rattle.std.specs.Cmp.{IsTotalOrder}
use Rattle.std.specs.Map.{lookup}
use Rattle.std.specs.BTreeMap.{is_at}
use Rattle.std.specs.declared.cmp.Ordering.{Ordering}
use Rattle.std.specs.Option.{option_map}
use Rattle.p2p_discovery.specs.declared.info.Info.{Info}
use Rattle.p2p_tracker_calls.specs.Sets.{is_among}
use Rattle.p2p_discovery_directory.specs.Infos.{kept_by, kept_after}

-- an equal key finds the same
pub lookup-equal : {P X : Type 0} {cmp : P → P → Ordering} (o : IsTotalOrder cmp) (p q : P) → is_at (cmp p) q ≡ true → (es : List (P × X)) → lookup (is_at (cmp p)) es ≡ lookup (is_at (cmp q)) es
lookup-equal o p q e [] = refl
lookup-equal {cmp = cmp} o p q e (x ∷ es) =
    ap (λ b. cond b (Some x.1) (lookup (is_at (cmp p)) es)) ((eq_by_cmp_equiv o).congr p q x.0 e)
    ∙ ap (λ l. cond (is_at (cmp q) x.0) (Some x.1) l) (lookup-equal o p q e es)

either_or : (a b : Bool) {R : Type 0} → (a ≡ true → R) → (b ≡ true → R) → (a || b) ≡ true → R
either_or true b f g h = f refl
either_or false b f g h = g h

-- a key of a list with one more is one of the list, or that one
pub among-or : {P : Type 0} (cmp : P → P → Ordering) (xs : List P) (k q : P) {R : Type 0} → (is_among cmp xs q ≡ true → R) → (is_at (cmp k) q ≡ true → R) → is_among cmp (xs ++ k ∷ []) q ≡ true → R
among-or cmp [] k q f g h = either_or (is_at (cmp k) q) false g (λ e. absurd (false≢true e)) h
among-or cmp (x ∷ xs) k q f g h =
    either_or (is_at (cmp x) q) (is_among cmp (xs ++ k ∷ []) q) (λ e. f (first (is_at (cmp x) q) (is_among cmp xs q) e))
    (λ e. among-or cmp xs k q (λ i. f (last (is_at (cmp x) q) (is_among cmp xs q) i)) g e) h
  where
    first : (a b : Bool) → a ≡ true → (a || b) ≡ true
    first true b e = refl
    first false b e = absurd (false≢true e)

    last : (a b : Bool) → b ≡ true → (a || b) ≡ true
    last true b e = refl
    last false b e = e

-- what is kept at a place, told of one info and then of others
pub kept-more : {P : Type 0} (cmp : P → P → Ordering) (q : P) (i : Info P) (infos : List (Info P)) (x : Option (Option (Info P)))
    → option_map (kept_after cmp q infos) (option_map (kept_by cmp q i) x) ≡ option_map (kept_after cmp q (i ∷ infos)) x
unfolding kept_after
kept-more cmp q i infos None = refl
kept-more cmp q i infos (Some kept) = refl

pub kept-none : {P : Type 0} (cmp : P → P → Ordering) (q : P) (x : Option (Option (Info P))) → option_map (kept_after cmp q []) x ≡ x
unfolding kept_after
kept-none cmp q None = refl
kept-none cmp q (Some kept) = refl
