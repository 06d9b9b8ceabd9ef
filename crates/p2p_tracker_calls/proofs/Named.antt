-- Lists of keys in order are told by who stands in them.
use Rattle.std.proofs.Common.{◌≡◌, Bool, true, false, cond, ◌&&◌, ◌||◌, List, [], ◌∷◌, Some, None, refl, sym, ap, ◌∙◌}
use Rattle.std.proofs.lemmas.Cmp.{eq_by_cmp_equiv}
use Rattle.std.proofs.lemmas.List.Kept.{IsStrictlySortedBy-filter}
use Rattle.std.proofs.lemmas.Map.Views.{any-filter_same}
use Rattle.std.specs.Cmp.{IsTotalOrder}
use Rattle.std.specs.List.{find, list_any}
use Rattle.std.specs.List.Sorted.{IsStrictlySortedBy}
use Rattle.std.specs.BTreeMap.{is_at}
use Rattle.std.specs.declared.cmp.Ordering.{Ordering}
use Rattle.p2p_base.proofs.SortedLists.{sorted-sorted_once, sorted_unique}
use Rattle.p2p_base.proofs.SortedRepeats.{any-sorted_once}
use Rattle.p2p_tracker_calls.specs.declared.call.Call.{Call}
use Rattle.p2p_tracker_calls.specs.Sets.{is_among}
use Rattle.p2p_tracker_calls.specs.Named.{all_names, named_keys, keys_where, EqualKeysAreOne}

and_implied : (a b : Bool) → (a ≡ true → b ≡ true) → (a && b) ≡ a
and_implied true b h = h refl
and_implied false b h = refl

module _ {P : Type 0} {cmp : P → P → Ordering} (o : IsTotalOrder cmp) where
  -- who stands in a list, asked from either side
  pub among-flip : (ks : List P) (q : P) → is_among cmp ks q ≡ list_any (is_at (cmp q)) ks
  among-flip [] q = refl
  among-flip (k ∷ ks) q = ap (λ b. b || is_among cmp ks q) ((eq_by_cmp_equiv o).symm k q) ∙ ap (λ b. is_at (cmp q) k || b) (among-flip ks q)

  pub sorted-named : (calls : List (Call P)) → IsStrictlySortedBy cmp (named_keys cmp calls)
  sorted-named calls = sorted-sorted_once o (all_names calls)

  pub among-named : (calls : List (Call P)) (q : P) → is_among cmp (named_keys cmp calls) q ≡ is_among cmp (all_names calls) q
  among-named calls q = among-flip (named_keys cmp calls) q ∙ (any-sorted_once o q (all_names calls) ∙ sym (among-flip (all_names calls) q))

  module _ (one : EqualKeysAreOne cmp) where
    find-one : (q : P) (ks : List P) → find (is_at (cmp q)) ks ≡ cond (list_any (is_at (cmp q)) ks) (Some q) None
    find-one q [] = refl
    find-one q (k ∷ ks) = at (is_at (cmp q) k) refl (find-one q ks)
      where
        at : (b : Bool) → is_at (cmp q) k ≡ b → find (is_at (cmp q)) ks ≡ cond (list_any (is_at (cmp q)) ks) (Some q) None
            → cond b (Some k) (find (is_at (cmp q)) ks) ≡ cond (b || list_any (is_at (cmp q)) ks) (Some q) None
        at true e h = ap (λ (x : P). Some x) (sym (one q k e))
        at false e h = h

    -- two lists in order in which the same keys stand are one
    pub same-keys : (xs ys : List P) → IsStrictlySortedBy cmp xs → IsStrictlySortedBy cmp ys → ((q : P) → is_among cmp xs q ≡ is_among cmp ys q) → xs ≡ ys
    same-keys xs ys s t h =
        sorted_unique o xs ys s t
        (λ q. find-one q xs ∙ (ap (λ b. cond b (Some q) None) (sym (among-flip xs q) ∙ (h q ∙ among-flip ys q)) ∙ sym (find-one q ys)))

    pub among-where : (test : P → Bool) (calls : List (Call P)) (q : P) → (test q ≡ true → is_among cmp (all_names calls) q ≡ true) → is_among cmp (keys_where cmp test calls) q ≡ test q
    among-where test calls q h =
        any-filter_same (λ p. is_at (cmp p) q) test (test q) (λ k e. ap test (one k q e)) (named_keys cmp calls)
        ∙ and_implied (test q) (is_among cmp (named_keys cmp calls) q) (λ t. among-named calls q ∙ h t)

    -- a list in order of exactly the keys of which a test holds, each of which is named
    pub keys-exact : (test : P → Bool) (calls : List (Call P)) (ks : List P) → IsStrictlySortedBy cmp ks → ((q : P) → is_among cmp ks q ≡ test q)
        → ((q : P) → test q ≡ true → is_among cmp (all_names calls) q ≡ true) → ks ≡ keys_where cmp test calls
    keys-exact test calls ks s h n =
        same-keys ks (keys_where cmp test calls) s (IsStrictlySortedBy-filter cmp test (named_keys cmp calls) (sorted-named calls))
        (λ q. h q ∙ sym (among-where test calls q (n q)))
