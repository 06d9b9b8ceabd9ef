-- What is found under a key once another key's record has changed.
use Rattle.std.proofs.Common.{◌≡◌, Bool, true, false, cond, List, [], ◌∷◌, Option, Some, None, refl, sym, ap, ◌∙◌}
use Rattle.std.proofs.lemmas.Cmp.{eq_by_cmp_equiv}
use Rattle.std.proofs.lemmas.Map.{lookup-set_value}
use Rattle.std.specs.Prelude.{is_some}
use Rattle.std.specs.Option.{option_map}
use Rattle.std.specs.Cmp.{IsTotalOrder}
use Rattle.std.specs.Ordering.{eq_by_cmp}
use Rattle.std.specs.Map.{lookup, set_value}
use Rattle.std.specs.BTreeMap.{is_at}
use Rattle.std.specs.declared.cmp.Ordering.{Ordering}
use Rattle.p2p_tracker_directory.specs.Tracked.{needed, is_unneeded_in}
use Rattle.p2p_tracker_directory.specs.Recorded.{Recorded, released, without_need, written}

module _ {P : Type 0} {cmp : P → P → Ordering} (o : IsTotalOrder cmp) where
  -- equal keys find the same
  pub lookup_same : {X : Type 0} (p q : P) (es : List (P × X)) → is_at (cmp p) q ≡ true → lookup (is_at (cmp p)) es ≡ lookup (is_at (cmp q)) es
  lookup_same p q [] h = refl
  lookup_same p q (e ∷ es) h =
      ap (λ b. cond b (Some e.1) (lookup (is_at (cmp p)) es)) ((eq_by_cmp_equiv o).congr p q e.0 h)
      ∙ ap (λ r. cond (is_at (cmp q) e.0) (Some e.1) r) (lookup_same p q es h)

  absent : (b : Bool) (f : Recorded → Recorded) (r : Option Recorded) → (b ≡ true → None ≡ r) → r ≡ cond b (option_map f r) r
  absent true f r h = sym (h refl) ∙ ap (option_map f) (h refl)
  absent false f r h = refl

  found : (b : Bool) (f : Recorded → Recorded) (s : Recorded) (r : Option Recorded) → (b ≡ true → Some s ≡ r) → cond b (Some (f s)) r ≡ cond b (option_map f r) r
  found true f s r h = ap (option_map f) (h refl)
  found false f s r h = refl

  pub lookup-written : (p q : P) (es : List (P × Recorded)) (f : Recorded → Recorded)
      → lookup (is_at (cmp q)) (written cmp (lookup (is_at (cmp p)) es) es p f) ≡ cond (is_at (cmp p) q) (option_map f (lookup (is_at (cmp q)) es)) (lookup (is_at (cmp q)) es)
  lookup-written p q es f = at (lookup (is_at (cmp p)) es) refl
    where
      at : (r : Option Recorded) → lookup (is_at (cmp p)) es ≡ r
          → lookup (is_at (cmp q)) (written cmp r es p f) ≡ cond (is_at (cmp p) q) (option_map f (lookup (is_at (cmp q)) es)) (lookup (is_at (cmp q)) es)
      at None e = absent (is_at (cmp p) q) f (lookup (is_at (cmp q)) es) (λ h. sym e ∙ lookup_same p q es h)
      at (Some s) e =
          lookup-set_value {eq = eq_by_cmp cmp} (eq_by_cmp_equiv o) (is_at (cmp p)) (λ x y h. (eq_by_cmp_equiv o).congr p x y h) q (f s) es (ap is_some e)
          ∙ found (is_at (cmp p) q) f s (lookup (is_at (cmp q)) es) (λ h. sym e ∙ lookup_same p q es h)

  -- a record that is found, and written anew
  pub written-found : (p : P) (es new : List (P × Recorded)) (r s : Recorded) (f : Recorded → Recorded) → Some r ≡ lookup (is_at (cmp p)) es → s ≡ f r
      → new ≡ set_value (is_at (cmp p)) es s → new ≡ written cmp (lookup (is_at (cmp p)) es) es p f
  written-found p es new r s f found_is s_is new_is = new_is ∙ (ap (set_value (is_at (cmp p)) es) s_is ∙ ap (λ x. written cmp x es p f) found_is)

  -- none is
  pub written-none : (p : P) (es new : List (P × Recorded)) (f : Recorded → Recorded) → None ≡ lookup (is_at (cmp p)) es → new ≡ es → new ≡ written cmp (lookup (is_at (cmp p)) es) es p f
  written-none p es new f none new_is = new_is ∙ ap (λ x. written cmp x es p f) none

  unchanged : (b : Bool) (h : Option Recorded → Option Recorded) → h None ≡ None → (r : Option Recorded) → (b ≡ true → r ≡ None) → r ≡ cond b (h r) r
  unchanged true h n r e = e refl ∙ (sym n ∙ ap h (sym (e refl)))
  unchanged false h n r e = refl

  pub none-changed : (p : P) (es new : List (P × Recorded)) (h : Option Recorded → Option Recorded) → h None ≡ None → None ≡ lookup (is_at (cmp p)) es → new ≡ es
      → (q : P) → lookup (is_at (cmp q)) new ≡ cond (is_at (cmp p) q) (h (lookup (is_at (cmp q)) es)) (lookup (is_at (cmp q)) es)
  none-changed p es new h n none new_is q = ap (lookup (is_at (cmp q))) new_is ∙ unchanged (is_at (cmp p) q) h n (lookup (is_at (cmp q)) es) (λ e. sym (lookup_same p q es e) ∙ sym none)

  forgotten : (b : Bool) (r : Option Recorded) → (b ≡ true → is_unneeded_in r ≡ true) → cond b None r ≡ cond b (needed r) r
  forgotten true None u = refl
  forgotten true (Some s) u = sym (ap (λ x. cond x None (Some s)) (u refl))
  forgotten false r u = refl

  kept : (b : Bool) (r : Option Recorded) → (b ≡ true → is_unneeded_in r ≡ false) → r ≡ cond b (needed r) r
  kept true None u = refl
  kept true (Some s) u = sym (ap (λ x. cond x None (Some s)) (u refl))
  kept false r u = refl

  -- the removal of a record that nothing needs
  pub lookup-forgotten : (p q : P) (es new : List (P × Recorded)) → is_unneeded_in (lookup (is_at (cmp p)) es) ≡ true
      → lookup (is_at (cmp q)) new ≡ cond (is_at (cmp p) q) None (lookup (is_at (cmp q)) es)
      → lookup (is_at (cmp q)) new ≡ cond (is_at (cmp p) q) (needed (lookup (is_at (cmp q)) es)) (lookup (is_at (cmp q)) es)
  lookup-forgotten p q es new u e = e ∙ forgotten (is_at (cmp p) q) (lookup (is_at (cmp q)) es) (λ b. ap is_unneeded_in (sym (lookup_same p q es b)) ∙ u)

  -- one that is needed, or none, stays
  pub lookup-needed : (p q : P) (es : List (P × Recorded)) → is_unneeded_in (lookup (is_at (cmp p)) es) ≡ false
      → lookup (is_at (cmp q)) es ≡ cond (is_at (cmp p) q) (needed (lookup (is_at (cmp q)) es)) (lookup (is_at (cmp q)) es)
  lookup-needed p q es u = kept (is_at (cmp p) q) (lookup (is_at (cmp q)) es) (λ b. ap is_unneeded_in (sym (lookup_same p q es b)) ∙ u)

  twice : (b : Bool) (m r : Option Recorded) → cond b (needed (cond b m r)) (cond b m r) ≡ cond b (needed m) r
  twice true m r = refl
  twice false m r = refl

  -- a change, after which the record goes where nothing needs it
  pub lookup-needed_written : (p q : P) (es mid new : List (P × Recorded)) (f : Recorded → Recorded) → mid ≡ written cmp (lookup (is_at (cmp p)) es) es p f
      → lookup (is_at (cmp q)) new ≡ cond (is_at (cmp p) q) (needed (lookup (is_at (cmp q)) mid)) (lookup (is_at (cmp q)) mid)
      → lookup (is_at (cmp q)) new ≡ cond (is_at (cmp p) q) (needed (option_map f (lookup (is_at (cmp q)) es))) (lookup (is_at (cmp q)) es)
  lookup-needed_written p q es mid new f w e =
      e ∙ ap (λ m. cond (is_at (cmp p) q) (needed m) m) (ap (lookup (is_at (cmp q))) w ∙ lookup-written p q es f)
      ∙ twice (is_at (cmp p) q) (option_map f (lookup (is_at (cmp q)) es)) (lookup (is_at (cmp q)) es)

  -- a release, after which the record goes where nothing needs it
  pub lookup-released : (p q : P) (es mid new : List (P × Recorded)) → mid ≡ written cmp (lookup (is_at (cmp p)) es) es p released
      → lookup (is_at (cmp q)) new ≡ cond (is_at (cmp p) q) (needed (lookup (is_at (cmp q)) mid)) (lookup (is_at (cmp q)) mid)
      → lookup (is_at (cmp q)) new ≡ cond (is_at (cmp p) q) (without_need (lookup (is_at (cmp q)) es)) (lookup (is_at (cmp q)) es)
  lookup-released p q es mid new w e =
      lookup-needed_written p q es mid new released w e ∙ ap (λ r. cond (is_at (cmp p) q) r (lookup (is_at (cmp q)) es)) (same (lookup (is_at (cmp q)) es))
    where
      same : (r : Option Recorded) → needed (option_map released r) ≡ without_need r
      same None = refl
      same (Some s) = refl
