-- The keys of routes rise, so that a key whose route is removed has none, and each key has the route of its last `ready`, while it was not released.
use Rattle.std.proofs.Common.{◌≡◌, ℕ, ◌<◌, Bool, true, false, cond, List, [], ◌∷◌, refl, ap, sym, subst, ◌∙◌, arith, None, Some}
use Rattle.std.specs.Prelude.{◌==◌, ◌&&◌, unwrap_or}
use Rattle.std.specs.List.{AllByRecursion}
use Rattle.std.specs.declared.cmp.Ordering.{Ordering}
use Rattle.std.specs.declared.cmp.Ordering.TheVariants.{Less, Equal, Greater}
use Rattle.std.specs.Ordering.{nat_cmp, match_ordering}
use Rattle.std.specs.BTreeMap.{insert_entry, is_at}
use Rattle.std.specs.Map.{lookup, remove_entry}
use Rattle.std.proofs.lemmas.Bool.Decides.{nat_tests}
use Rattle.p2p_base.specs.declared.key.Key.{Key}
use Rattle.p2p_log.specs.declared.entry.Entry.{Entry}
use Rattle.p2p_log_rules.specs.Facts.{with_ready, without_key, routes_told, routes, routes_key, routed, route_to}
use Rattle.p2p_log_rules.specs.Tellings.{Telling, last_or}
use Rattle.p2p_log_rules.specs.Tellings as telling
use Rattle.p2p_log_rules.specs.Told.{told}

-- these keys are above this one
abbrev AreAbove : ℕ → List (ℕ × ℕ) → Type 0
AreAbove k es = AllByRecursion (λ (d : ℕ × ℕ). k < d.0) es

-- each key is below those after it
abbrev pub IsRising : List (ℕ × ℕ) → Type 0
IsRising [] = Unit {0}
IsRising (e ∷ es) = AreAbove e.0 es × IsRising es

above_lower : (j k : ℕ) (es : List (ℕ × ℕ)) → j < k → AreAbove k es → AreAbove j es
above_lower j k [] lt h = tt
above_lower j k (e ∷ es) lt h = (let f = h.0 in omega (arith, lt, f), above_lower j k es lt h.1)

abbrev inserted : Ordering → List (ℕ × ℕ) → ℕ × ℕ → ℕ → ℕ → List (ℕ × ℕ)
inserted o es e k c = match_ordering o ((k, c) ∷ e ∷ es) ((e.0, c) ∷ es) (e ∷ insert_entry nat_cmp es k c)

above_insert : (j k c : ℕ) (es : List (ℕ × ℕ)) → j < k → AreAbove j es → AreAbove j (insert_entry nat_cmp es k c)
above_insert j k c [] lt h = (lt, tt)
above_insert j k c (e ∷ es) lt h =
    elim (nat_cmp k e.0) as (λ o. AreAbove j (inserted o es e k c)) [
      | Less ↦ (lt, h)
      | Equal ↦ (h.0, h.1)
      | Greater ↦ (h.0, above_insert j k c es lt h.1)
    ]

less_by : (k e : ℕ) → nat_cmp k e ≡ Less → k < e
less_by k e h = grind (arith, nat_tests)

greater_by : (k e : ℕ) → nat_cmp k e ≡ Greater → e < k
greater_by k e h = grind (arith, nat_tests)

rising_insert : (k c : ℕ) (es : List (ℕ × ℕ)) → IsRising es → IsRising (insert_entry nat_cmp es k c)
rising_insert k c [] h = (tt, tt)
rising_insert k c (e ∷ es) h =
    (elim (nat_cmp k e.0) as (λ o. nat_cmp k e.0 ≡ o → IsRising (inserted o es e k c)) [
      | Less ↦ λ o. let lt = less_by k e.0 o in ((lt, above_lower k e.0 es lt h.0), h)
      | Equal ↦ λ o. (h.0, h.1)
      | Greater ↦ λ o. (above_insert e.0 k c es (greater_by k e.0 o) h.0, rising_insert k c es h.1)
    ]) refl

above_remove : (j k : ℕ) (es : List (ℕ × ℕ)) → AreAbove j es → AreAbove j (remove_entry (is_at (nat_cmp k)) es)
above_remove j k [] h = tt
above_remove j k (e ∷ es) h =
    elim (is_at (nat_cmp k) e.0) as (λ b. AreAbove j (cond b es (e ∷ remove_entry (is_at (nat_cmp k)) es))) [
      | true ↦ h.1
      | false ↦ (h.0, above_remove j k es h.1)
    ]

rising_remove : (k : ℕ) (es : List (ℕ × ℕ)) → IsRising es → IsRising (remove_entry (is_at (nat_cmp k)) es)
rising_remove k [] h = tt
rising_remove k (e ∷ es) h =
    elim (is_at (nat_cmp k) e.0) as (λ b. IsRising (cond b es (e ∷ remove_entry (is_at (nat_cmp k)) es))) [
      | true ↦ h.1
      | false ↦ (above_remove e.0 k es h.0, rising_remove k es h.1)
    ]

rising_told : (n : ℕ) (ts : List Telling) (rs : List (ℕ × ℕ)) → IsRising rs → IsRising (routes_told n rs ts)
rising_told n [] rs h = h
rising_told n (telling.ready_routed m conn key ∷ ts) rs h = rising_told n ts (cond (m == n) (with_ready rs conn key) rs) (by (m == n))
  where
    by : (b : Bool) → IsRising (cond b (with_ready rs conn key) rs)
    by true = rising_insert key.0 conn rs h
    by false = h
rising_told n (telling.release_routed m key ∷ ts) rs h = rising_told n ts (cond (m == n) (without_key rs key) rs) (by (m == n))
  where
    by : (b : Bool) → IsRising (cond b (without_key rs key) rs)
    by true = rising_remove key.0 rs h
    by false = h
rising_told n (t ∷ ts) rs h = rising_told n ts rs h

pub rising_routes : (log : List Entry) (n : ℕ) → IsRising (routes log n)
unfolding routes
rising_routes log n = rising_told n (told log) [] tt

-- a key below all has no route
none_above : (k : Key) (es : List (ℕ × ℕ)) → AreAbove k.0 es → route_to es k ≡ None
none_above k [] h = refl
none_above k (e ∷ es) h =
    let lt = h.0 in
    let other : (k.0 == e.0) ≡ false = grind (arith, nat_tests) in
    ap (λ b. cond b (Some e.1) (route_to es k)) other ∙ none_above k es h.1

is_route : (k : Key) (e : ℕ) → (k.0 == e) ≡ is_at (nat_cmp k.0) e
is_route k e = grind (arith, nat_tests)

at_route : (k : Key) (e : ℕ) → is_at (nat_cmp k.0) e ≡ true → e ≡ k.0
at_route k e h = grind (arith, nat_tests)

-- a key whose route is removed has none
pub route_removed : (k : Key) (es : List (ℕ × ℕ)) → IsRising es → route_to (remove_entry (is_at (nat_cmp k.0)) es) k ≡ None
route_removed k [] h = refl
route_removed k (e ∷ es) h =
    (elim (is_at (nat_cmp k.0) e.0) as (λ b. is_at (nat_cmp k.0) e.0 ≡ b → route_to (cond b es (e ∷ remove_entry (is_at (nat_cmp k.0)) es)) k ≡ None) [
      | true ↦ λ t. none_above k es (subst (λ j. AreAbove j es) (at_route k e.0 t) h.0)
      | false ↦ λ t. ap (λ b. cond b (Some e.1) (route_to (remove_entry (is_at (nat_cmp k.0)) es) k)) (is_route k e.0 ∙ t) ∙ route_removed k es h.1
    ]) refl

-- ---- the route of each key

same_key : (k : Key) (e : ℕ) → (k.0 == e) ≡ (e == k.0)
same_key k e = grind (arith, nat_tests)

-- a key has the route that is inserted for it, and any other the one that it had
route_inserted : (k : Key) (c : ℕ) (key : Key) (es : List (ℕ × ℕ)) → route_to (insert_entry nat_cmp es k.0 c) key ≡ cond (k.0 == key.0) (Some c) (route_to es key)
route_inserted k c key [] = ap (λ b. cond b (Some c) None) (same_key key k.0)
route_inserted k c key (e ∷ es) = by (route_inserted k c key es) (nat_cmp k.0 e.0) refl
  where
    apart : (a b c : ℕ) → nat_cmp a b ≡ Greater → (c == b) ≡ true → (a == c) ≡ false
    apart a b c h i = grind (arith, nat_tests)

    equal : (a b c : ℕ) → nat_cmp a b ≡ Equal → (c == b) ≡ (a == c)
    equal a b c h = grind (arith, nat_tests)

    inner : (b d : Bool) → (b ≡ true → d ≡ false) → cond b (Some e.1) (cond d (Some c) (route_to es key)) ≡ cond d (Some c) (cond b (Some e.1) (route_to es key))
    inner true true h = let none : true ≡ false = h refl in cc
    inner true false h = refl
    inner false d h = refl

    over : (b : Bool) → cond b (Some c) (route_to es key) ≡ cond b (Some c) (cond b (Some e.1) (route_to es key))
    over true = refl
    over false = refl

    by : route_to (insert_entry nat_cmp es k.0 c) key ≡ cond (k.0 == key.0) (Some c) (route_to es key) → (o : Ordering) → nat_cmp k.0 e.0 ≡ o → route_to (inserted o es e k.0 c) key ≡ cond (k.0 == key.0) (Some c) (cond (key.0 == e.0) (Some e.1) (route_to es key))
    by more Less h = ap (λ b. cond b (Some c) (cond (key.0 == e.0) (Some e.1) (route_to es key))) (same_key key k.0)
    by more Equal h =
        ap (λ b. cond b (Some c) (route_to es key)) (equal k.0 e.0 key.0 h)
        ∙ (over (k.0 == key.0) ∙ ap (λ b. cond (k.0 == key.0) (Some c) (cond b (Some e.1) (route_to es key))) (sym (equal k.0 e.0 key.0 h)))
    by more Greater h = ap (cond (key.0 == e.0) (Some e.1)) more ∙ inner (key.0 == e.0) (k.0 == key.0) (apart k.0 e.0 key.0 h)

-- no other key loses its route
route_others : (k key : Key) (es : List (ℕ × ℕ)) → (k.0 == key.0) ≡ false → route_to (remove_entry (is_at (nat_cmp k.0)) es) key ≡ route_to es key
route_others k key [] h = refl
route_others k key (e ∷ es) h = by (route_others k key es h) (is_at (nat_cmp k.0) e.0) refl
  where
    apart : (a b c : ℕ) → is_at (nat_cmp a) b ≡ true → (a == c) ≡ false → (c == b) ≡ false
    apart a b c i j = grind (arith, nat_tests)

    by : route_to (remove_entry (is_at (nat_cmp k.0)) es) key ≡ route_to es key → (b : Bool) → is_at (nat_cmp k.0) e.0 ≡ b → route_to (cond b es (e ∷ remove_entry (is_at (nat_cmp k.0)) es)) key ≡ cond (key.0 == e.0) (Some e.1) (route_to es key)
    by more true t = ap (λ b. cond b (Some e.1) (route_to es key)) (sym (apart k.0 e.0 key.0 t h))
    by more false t = ap (cond (key.0 == e.0) (Some e.1)) more

route_without : (k key : Key) (es : List (ℕ × ℕ)) → IsRising es → route_to (without_key es k) key ≡ cond (k.0 == key.0) None (route_to es key)
route_without k key es h = by (k.0 == key.0) refl
  where
    same : (a b : ℕ) → (a == b) ≡ true → b ≡ a
    same a b h = grind (arith, nat_tests)

    by : (b : Bool) → (k.0 == key.0) ≡ b → route_to (without_key es k) key ≡ cond b None (route_to es key)
    by true t = ap (λ j. lookup (λ i. j == i) (without_key es k)) (same k.0 key.0 t) ∙ route_removed k es h
    by false t = route_others k key es t

route_told : (n : ℕ) (key : Key) (ts : List Telling) (rs : List (ℕ × ℕ)) → IsRising rs → route_to (routes_told n rs ts) key ≡ last_or (route_to rs key) (routes_key n key) ts
route_told n key [] rs h = refl
route_told n key (telling.ready_routed m conn k ∷ ts) rs h =
    route_told n key ts (cond (m == n) (with_ready rs conn k) rs) (rising (m == n)) ∙ ap (λ o. last_or o (routes_key n key) ts) (by (m == n) (k.0 == key.0) refl)
  where
    rising : (b : Bool) → IsRising (cond b (with_ready rs conn k) rs)
    rising true = rising_insert k.0 conn rs h
    rising false = h

    by : (b c : Bool) → (k.0 == key.0) ≡ c → route_to (cond b (with_ready rs conn k) rs) key ≡ unwrap_or (cond (b && c) (Some (Some conn)) None) (route_to rs key)
    by false c is = refl
    by true true is = route_inserted k conn key rs ∙ ap (λ b. cond b (Some conn) (route_to rs key)) is
    by true false is = route_inserted k conn key rs ∙ ap (λ b. cond b (Some conn) (route_to rs key)) is
route_told n key (telling.release_routed m k ∷ ts) rs h =
    route_told n key ts (cond (m == n) (without_key rs k) rs) (rising (m == n)) ∙ ap (λ o. last_or o (routes_key n key) ts) (by (m == n) (k.0 == key.0) refl)
  where
    rising : (b : Bool) → IsRising (cond b (without_key rs k) rs)
    rising true = rising_remove k.0 rs h
    rising false = h

    by : (b c : Bool) → (k.0 == key.0) ≡ c → route_to (cond b (without_key rs k) rs) key ≡ unwrap_or (cond (b && c) (Some None) None) (route_to rs key)
    by false c is = refl
    by true true is = route_without k key rs h ∙ ap (λ b. cond b None (route_to rs key)) is
    by true false is = route_without k key rs h ∙ ap (λ b. cond b None (route_to rs key)) is
route_told n key (t ∷ ts) rs h = route_told n key ts rs h

-- a router's connection to a key is that of the key's last routed `ready` with no later routed release
pub route_to-routed : (log : List Entry) (n : ℕ) (key : Key) → route_to (routes log n) key ≡ routed log n key
unfolding routes routed
route_to-routed log n key = route_told n key (told log) [] tt
