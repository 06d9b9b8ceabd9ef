-- Pairs that were sorted by their keys, and whose keys were then taken once.
use Rattle.std.proofs.Common.{◌≡◌, suc, ◌<◌, Bool, List, length, sym, ap, ◌∙◌, arith}
use Rattle.std.specs.Cmp.{IsTotalOrder}
use Rattle.std.specs.Ordering.{eq_by_cmp}
use Rattle.std.specs.List.{dedup, zip}
use Rattle.std.specs.List.Sorted.{IsStrictlySortedBy, IsSortedByKey, IsStableByKey}
use Rattle.std.specs.Map.{keys_of, values_of}
use Rattle.std.specs.declared.cmp.Ordering.{Ordering}
use Rattle.std.proofs.lemmas.Cmp.{on_total}
use Rattle.std.proofs.lemmas.List.Kept.{IsStrictlySortedBy-dedup}
use Rattle.p2p_base.specs.Sorted.{sorted_once, by_key}
use Rattle.p2p_base.proofs.MapParts.{keys_of-dedup, sorted_keys, dedup_whole, zip_parts}
use Rattle.p2p_base.proofs.SortedLists.{sorted_once-from_sort}

length_keys : {K V : Type 0} (es : List (K × V)) → length (keys_of es) ≡ length es
length_keys es = simp Rattle.std.proofs.Math.ListN.length-map

module _ {K V : Type 0} {cmp : K → K → Ordering} (o : IsTotalOrder cmp) {E : K → K → Bool} (tied : (x y : K) → E x y ≡ eq_by_cmp cmp x y)
    (xs ys : List (K × V)) (stable : IsStableByKey (λ (e : K × V). e.0) cmp xs ys) (sorted : IsSortedByKey (λ (e : K × V). e.0) cmp ys) where
  by_entries : dedup (λ a b. E a.0 b.0) ys ≡ sorted_once (by_key cmp) xs
  by_entries = sorted_once-from_sort (on_total (λ (e : K × V). e.0) o) (λ a b. tied a.0 b.0) xs ys stable sorted

  pub keys_ascend : IsStrictlySortedBy cmp (dedup E (keys_of ys))
  keys_ascend =
      rw (← keys_of-dedup E ys)
      (sorted_keys cmp (dedup (λ a b. E a.0 b.0) ys)
      (IsStrictlySortedBy-dedup (on_total (λ (e : K × V). e.0) o) (λ a b. tied a.0 b.0) ys sorted))

  pub keys_long : length (dedup E (keys_of ys)) ≡ length (sorted_once (by_key cmp) xs)
  keys_long = ap length (sym (keys_of-dedup E ys)) ∙ length_keys (dedup (λ a b. E a.0 b.0) ys) ∙ ap length by_entries

  -- where no key was taken out, the keys beside the values are the entries
  pub entries_whole : length ys < suc (length (dedup E (keys_of ys))) → zip (dedup E (keys_of ys)) (values_of ys) ≡ sorted_once (by_key cmp) xs
  entries_whole h =
      let keys : dedup E (keys_of ys) ≡ keys_of ys = dedup_whole E (keys_of ys) (omega (arith, length_keys ys)) in
      let entries : dedup (λ a b. E a.0 b.0) ys ≡ ys = dedup_whole (λ a b. E a.0 b.0) ys (omega (arith, keys_long, ap length by_entries)) in
      ap (λ ks. zip ks (values_of ys)) keys ∙ zip_parts ys ∙ sym entries ∙ by_entries

  module _ (ks rest : List K) (keys : ks ≡ keys_of ys) (taken : rest ≡ dedup E ks) where
    rest_is : rest ≡ dedup E (keys_of ys)
    rest_is = taken ∙ ap (dedup E) keys

    pub rest_ascends : IsStrictlySortedBy cmp rest
    rest_ascends = rw rest_is keys_ascend

    pub rest_long : length rest ≡ length (sorted_once (by_key cmp) xs)
    rest_long = ap length rest_is ∙ keys_long

    pub rest_whole : (vs : List V) → vs ≡ values_of ys → length ys < suc (length rest) → zip rest vs ≡ sorted_once (by_key cmp) xs
    rest_whole vs e h = rw (e, rest_is) (entries_whole (omega (arith, ap length rest_is)))
