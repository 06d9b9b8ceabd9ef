-- What is put for one after another.
use Rattle.std.proofs.Common.{◌≡◌, ℕ, suc, ◌+◌, ◌<◌, List, [], ◌∷◌, ◌++◌, length, get_or, drop, sym, ap, ◌∙◌, add-one, drop-cons}
use Rattle.std.proofs.lemmas.List.{append_assoc}
use Rattle.std.specs.Map.{lookup, remove_entry}
use Rattle.std.specs.BTreeMap.{is_at}
use Rattle.std.specs.declared.cmp.Ordering.{Ordering}
use Rattle.p2p_flow.specs.declared.update.PeerSetUpdate.{PeerSetUpdate}
use Rattle.p2p_discovery_directory.specs.Putting.{updates_put, sets_put, kill_put, kills_put, without_keys}
use Rattle.p2p_discovery_directory.specs.declared.tracker.put.Put.{Put}
use Rattle.p2p_discovery_directory.specs.declared.tracker.put.Put.TheVariants as puts

left : {X : Type 0} (xs : List X) (i : ℕ) (x : X) → i < length xs → x ≡ get_or xs i x → drop i xs ≡ x ∷ drop (i + 1) xs
left xs i x h e = drop-cons xs i x h ∙ (ap (λ y. y ∷ drop (suc i) xs) (sym e) ∙ ap (λ n. x ∷ drop n xs) (sym (add-one i)))

-- keys that are killed one after another
module _ {P : Type 0} (cmp : P → P → Ordering) (ks : List P) (i : ℕ) (k : P) (cs ds : List (P × ℕ)) (h : i < length ks) (e : k ≡ get_or ks i k) (r : ds ≡ remove_entry (is_at (cmp k)) cs) where
  pub kills-next : (put more all : List (Put P)) → more ≡ put ++ kill_put k (lookup (is_at (cmp k)) cs)
      → put ++ kills_put cmp cs (drop i ks) ≡ all → more ++ kills_put cmp ds (drop (i + 1) ks) ≡ all
  kills-next put more all m so_far =
      ap (λ xs. xs ++ kills_put cmp ds (drop (i + 1) ks)) m
      ∙ (append_assoc put (kill_put k (lookup (is_at (cmp k)) cs)) (kills_put cmp ds (drop (i + 1) ks))
      ∙ (ap (λ es. put ++ (kill_put k (lookup (is_at (cmp k)) cs) ++ kills_put cmp es (drop (i + 1) ks))) r
      ∙ (ap (λ xs. put ++ kills_put cmp cs xs) (sym (left ks i k h e)) ∙ so_far)))

  pub without-next : (all : List (P × ℕ)) → without_keys cmp cs (drop i ks) ≡ all → without_keys cmp ds (drop (i + 1) ks) ≡ all
  without-next all so_far = ap (λ es. without_keys cmp es (drop (i + 1) ks)) r ∙ (ap (without_keys cmp cs) (sym (left ks i k h e)) ∙ so_far)

next-ticket : (ts : List ℕ) (i t : ℕ) → i < length ts → t ≡ get_or ts i 0 → drop i ts ≡ t ∷ drop (i + 1) ts
next-ticket ts i t h e = drop-cons ts i 0 h ∙ (ap (λ n. n ∷ drop (suc i) ts) (sym e) ∙ ap (λ n. t ∷ drop n ts) (sym (add-one i)))

-- subscriptions that are told one after another
module _ {P : Type 0} (ts : List ℕ) (i t : ℕ) (h : i < length ts) (e : t ≡ get_or ts i 0) where
  pub updates-next : (u : PeerSetUpdate P) (put more all : List (Put P)) → more ≡ put ++ puts.Update t u ∷ [] → put ++ updates_put (drop i ts) u ≡ all → more ++ updates_put (drop (i + 1) ts) u ≡ all
  updates-next u put more all m so_far =
      ap (λ xs. xs ++ updates_put (drop (i + 1) ts) u) m
      ∙ (append_assoc put (puts.Update t u ∷ []) (updates_put (drop (i + 1) ts) u) ∙ (ap (λ xs. put ++ updates_put xs u) (sym (next-ticket ts i t h e)) ∙ so_far))

  pub sets-next : (s : List P) (put more all : List (Put P)) → more ≡ put ++ puts.Blocked t s ∷ [] → put ++ sets_put (drop i ts) s ≡ all → more ++ sets_put (drop (i + 1) ts) s ≡ all
  sets-next s put more all m so_far =
      ap (λ xs. xs ++ sets_put (drop (i + 1) ts) s) m
      ∙ (append_assoc put (puts.Blocked t s ∷ []) (sets_put (drop (i + 1) ts) s) ∙ (ap (λ xs. put ++ sets_put xs s) (sym (next-ticket ts i t h e)) ∙ so_far))
