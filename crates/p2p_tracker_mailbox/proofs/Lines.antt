-- What is changed for one leaves what waits for the others.
use Rattle.std.proofs.Common.{◌≡◌, ℕ, Bool, true, false, cond, List, Option, Some, None, refl, sym, ap, ◌∙◌}
use Rattle.std.proofs.lemmas.Cmp.{eq_by_cmp_equiv, nat_cmp_total}
use Rattle.std.proofs.lemmas.Map.{lookup-set_value}
use Rattle.std.specs.Prelude.{is_some}
use Rattle.std.specs.Option.{option_map}
use Rattle.std.specs.Ordering.{nat_cmp, eq_by_cmp}
use Rattle.std.specs.BTreeMap.{is_at}
use Rattle.p2p_tracker_directory.proofs.Written.{lookup_same}
use Rattle.p2p_tracker_mailbox.specs.Lines.{Lines, line_of, replaced, with_line}

module _ {X : Type 0} where
  absent : (b : Bool) (f : List X → List X) (r : Option (List X)) → (b ≡ true → None ≡ r) → r ≡ cond b (option_map f r) r
  absent true f r h = sym (h refl) ∙ ap (option_map f) (h refl)
  absent false f r h = refl

  found : (b : Bool) (f : List X → List X) (line : List X) (r : Option (List X)) → (b ≡ true → Some line ≡ r) → cond b (Some (f line)) r ≡ cond b (option_map f r) r
  found true f line r h = ap (option_map f) (h refl)
  found false f line r h = refl

  -- what waits for the one of a number, once what waits for another was changed
  pub line_of-with_line : (lines : Lines X) (n q : ℕ) (f : List X → List X) → line_of (with_line lines n f) q ≡ cond (is_at (nat_cmp n) q) (option_map f (line_of lines q)) (line_of lines q)
  line_of-with_line lines n q f = at (line_of lines n) refl
    where
      at : (r : Option (List X)) → line_of lines n ≡ r → line_of (replaced r lines n f) q ≡ cond (is_at (nat_cmp n) q) (option_map f (line_of lines q)) (line_of lines q)
      at None e = absent (is_at (nat_cmp n) q) f (line_of lines q) (λ h. sym e ∙ lookup_same nat_cmp_total n q lines h)
      at (Some line) e =
          lookup-set_value {eq = eq_by_cmp nat_cmp} (eq_by_cmp_equiv nat_cmp_total) (is_at (nat_cmp n)) (λ x y h. (eq_by_cmp_equiv nat_cmp_total).congr n x y h) q (f line) lines (ap is_some e)
          ∙ found (is_at (nat_cmp n) q) f line (line_of lines q) (λ h. sym e ∙ lookup_same nat_cmp_total n q lines h)
