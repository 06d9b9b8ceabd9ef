-- The peers of a set, each at one address: they stand in the order of their keys, and each stands once.
use Rattle.std.proofs.Common.{◌≡◌, true, false, List, [], ◌∷◌, length, sym, ap, ◌∙◌, arith}
use Rattle.std.specs.List.{AllByRecursion}
use Rattle.std.specs.List.Sorted.{IsStrictlySortedBy}
use Rattle.std.specs.Cmp.{IsTotalOrder}
use Rattle.std.specs.declared.cmp.Ordering.{Ordering}
use Rattle.std.specs.declared.cmp.Ordering.TheVariants.{Less}
use Rattle.p2p_base.specs.Sorted.{sorted_once, has_repeat, by_key}
use Rattle.p2p_base.proofs.SortedRepeats.{has_repeat-false}
use Rattle.p2p_address.specs.declared.peer.Address.{Address}
use Rattle.p2p_tracker_directory.proofs.Newcomers.{sorted_once-sorted}
use Rattle.p2p_discovery_directory.specs.AsLookup.{placed}

module _ {P : Type 0} (cmp : P → P → Ordering) where
  placed_above : (p : P) (keys : List P) → AllByRecursion (λ k. cmp p k ≡ Less) keys → AllByRecursion (λ e. cmp p e.0 ≡ Less) (placed keys)
  placed_above p [] a = tt
  placed_above p (k ∷ keys) a = (a.0, placed_above p keys a.1)

  placed_sorted : (keys : List P) → IsStrictlySortedBy cmp keys → IsStrictlySortedBy (by_key cmp) (placed keys)
  unfolding IsStrictlySortedBy
  placed_sorted [] s = tt
  placed_sorted (k ∷ keys) s = (placed_above k keys s.0, placed_sorted keys s.1)

  by_keys : IsTotalOrder cmp → IsTotalOrder (by_key {K = P} {V = Address} cmp)
  by_keys o = record { antisymm = λ x y. o.antisymm x.0 y.0; trans = λ x y z. o.trans x.0 y.0 z.0; congr = λ x y z. o.congr x.0 y.0 z.0 }

  -- they are a map as they stand
  pub placed-once : IsTotalOrder cmp → (keys : List P) → IsStrictlySortedBy cmp keys → sorted_once (by_key cmp) (placed keys) ≡ placed keys
  placed-once o keys s = sorted_once-sorted (by_keys o) (placed keys) (placed_sorted keys s)

  pub placed-repeats_none : IsTotalOrder cmp → (keys : List P) → IsStrictlySortedBy cmp keys → has_repeat (by_key cmp) (placed keys) ≡ false
  placed-repeats_none o keys s =
      let long : length (sorted_once (by_key cmp) (placed keys)) ≡ length (placed keys) = ap length (placed-once o keys s) in
      has_repeat-false (by_keys o) (placed keys) (omega (arith, long))

  pub placed-made : IsTotalOrder cmp → (keys : List P) → IsStrictlySortedBy cmp keys → (items made : List (P × Address)) → items ≡ placed keys → made ≡ sorted_once (by_key cmp) items → made ≡ placed keys
  placed-made o keys s items made e m = m ∙ ap (sorted_once (by_key cmp)) e ∙ placed-once o keys s

  pub placed-never : IsTotalOrder cmp → (keys : List P) → IsStrictlySortedBy cmp keys → (items : List (P × Address)) → items ≡ placed keys → has_repeat (by_key cmp) items ≡ true → false ≡ true
  placed-never o keys s items e r = sym (placed-repeats_none o keys s) ∙ sym (ap (has_repeat (by_key cmp)) e) ∙ r
