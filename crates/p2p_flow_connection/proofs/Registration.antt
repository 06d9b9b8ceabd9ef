-- A registration that is taken back leaves nothing.
use Rattle.std.proofs.Common.{◌≡◌, ℕ, cond, List, [], ◌∷◌, Option, Some, None, refl, ap, sym, ◌∙◌}
use Rattle.std.specs.BTreeMap.{is_at, insert_entry}
use Rattle.std.specs.Cmp.{eq_by_cmp_equiv}
use Rattle.std.specs.Map.{lookup, remove_entry}
use Rattle.std.specs.Ordering.{nat_cmp, is_eq, match_ordering}
use Rattle.std.specs.declared.cmp.Ordering.{Ordering}
use Rattle.std.specs.declared.cmp.Ordering.TheVariants.{Less, Equal, Greater}
use Rattle.std.proofs.lemmas.Cmp.{nat_cmp_total}
use Rattle.p2p_flow_connection.specs.Arriving.{Arrived, mailbox_of, with_channel, without_channel}

module _ {X : Type 0} (k : ℕ) (x : X) where
  abbrev removed : List (ℕ × X) → List (ℕ × X)
  removed es = remove_entry (is_at (nat_cmp k)) es

  abbrev found : List (ℕ × X) → Option X
  found es = lookup (is_at (nat_cmp k)) es

  first_goes : (es : List (ℕ × X)) → removed ((k, x) ∷ es) ≡ es
  first_goes es = ap (λ b. cond b es ((k, x) ∷ removed es)) ((eq_by_cmp_equiv nat_cmp_total).refl k)

  at_entry : (o : Ordering) (e : ℕ × X) (es inserted : List (ℕ × X)) → nat_cmp k e.0 ≡ o → found (e ∷ es) ≡ None → (found es ≡ None → removed inserted ≡ es)
      → removed (match_ordering o ((k, x) ∷ e ∷ es) ((e.0, x) ∷ es) (e ∷ inserted)) ≡ e ∷ es
  at_entry Less e es inserted is none rest = first_goes (e ∷ es)
  at_entry Equal e es inserted is none rest = absurd (let some : Some e.1 ≡ None = sym (ap (λ o. cond (is_eq o) (Some e.1) (found es)) is) ∙ none in cc)
  at_entry Greater e es inserted is none rest =
      ap (λ o. cond (is_eq o) inserted (e ∷ removed inserted)) is
      ∙ ap (λ l. e ∷ l) (rest (sym (ap (λ o. cond (is_eq o) (Some e.1) (found es)) is) ∙ none))

  pub taken_back : (es : List (ℕ × X)) → found es ≡ None → removed (insert_entry nat_cmp es k x) ≡ es
  taken_back [] none = first_goes []
  taken_back (e ∷ es) none = at_entry (nat_cmp k e.0) e es (insert_entry nat_cmp es k x) refl none (taken_back es)

-- nothing is left of a registration that is taken back
pub registration_taken_back : {P : Type 0} (a : Arrived P) (channel places : ℕ) → mailbox_of a channel ≡ None → without_channel (with_channel a channel places) channel ≡ a
registration_taken_back a channel places none = ap (λ mailboxes. record { mailboxes = mailboxes; ended = a.ended }) (taken_back channel _ a.mailboxes none)
