-- The link of each key, once one was put.
use Rattle.std.proofs.Common.{◌≡◌, ℕ, Bool, true, false, cond, List, [], ◌∷◌, refl, ap, sym, ◌∙◌, arith, Option, Some, None}
use Rattle.std.specs.Prelude.{◌==◌}
use Rattle.std.specs.declared.cmp.Ordering.{Ordering}
use Rattle.std.specs.declared.cmp.Ordering.TheVariants.{Less, Equal, Greater}
use Rattle.std.specs.Ordering.{nat_cmp, is_eq, match_ordering}
use Rattle.std.specs.BTreeMap.{insert_entry, is_at}
use Rattle.std.specs.Map.{keys_of, remove_entry}
use Rattle.std.proofs.lemmas.Bool.Decides.{nat_tests}
use Rattle.p2p_base.specs.declared.key.Key.{Key}
use Rattle.p2p_router.specs.declared.link.Link.{Link}
use Rattle.p2p_router.specs.Routing.{link_of, with_link}
use Rattle.p2p_log_rules.specs.Facts.{route_to, keys_in}
use Rattle.p2p_net_router.specs.Items.{key_cmp}
use Rattle.p2p_net_router.specs.Holds.{routes_in}
use Rattle.p2p_net_router.proofs.Rings.{two_choices}
use Rattle.p2p_log_rules.proofs.Rising.{IsRising, route_removed}

is_key : (k e : Key) → is_at (key_cmp k) e ≡ (k.0 == e.0)
is_key k e = grind (arith, nat_tests)

as_key : (k e q : Key) → is_at (key_cmp k) e ≡ true → is_at (key_cmp q) e ≡ (k.0 == q.0)
as_key k e q h = grind (arith, nat_tests)

not_key : (k e q : Key) → is_at (key_cmp k) e ≡ false → is_at (key_cmp q) e ≡ true → (k.0 == q.0) ≡ false
not_key k e q h g = grind (arith, nat_tests)

same_twice : {X : Type 0} (b : Bool) (x y z : X) → cond b x z ≡ cond b x (cond b y z)
same_twice true x y z = refl
same_twice false x y z = refl

-- the link of each key, once that of a key was replaced
pub link_of-with_link :
    (links : List (Key × Link)) (k q : Key) (old new : Link) → link_of key_cmp links k ≡ Some old
    → link_of key_cmp (with_link key_cmp links k new) q ≡ cond (k.0 == q.0) (Some new) (link_of key_cmp links q)
link_of-with_link [] k q old new h = cc
link_of-with_link (e ∷ es) k q old new h =
    (elim (is_at (key_cmp k) e.0) as (λ b. is_at (key_cmp k) e.0 ≡ b → cond b (Some e.1) (link_of key_cmp es k) ≡ Some old → link_of key_cmp (cond b ((e.0, new) ∷ es) (e ∷ with_link key_cmp es k new)) q ≡ cond (k.0 == q.0) (Some new) (cond (is_at (key_cmp q) e.0) (Some e.1) (link_of key_cmp es q))) [
      | true ↦ λ t g.
          ap (λ b. cond b (Some new) (link_of key_cmp es q)) (as_key k e.0 q t)
          ∙ (same_twice (k.0 == q.0) (Some new) (Some e.1) (link_of key_cmp es q)
          ∙ ap (λ b. cond (k.0 == q.0) (Some new) (cond b (Some e.1) (link_of key_cmp es q))) (sym (as_key k e.0 q t)))
      | false ↦ λ t g.
          ap (λ r. cond (is_at (key_cmp q) e.0) (Some e.1) r) (link_of-with_link es k q old new g)
          ∙ two_choices (is_at (key_cmp q) e.0) (k.0 == q.0) (Some e.1) (Some new) (link_of key_cmp es q) (not_key k e.0 q t)
    ]) refl h

abbrev inserted : Ordering → List (Key × Link) → (Key × Link) → Key → Link → List (Key × Link)
inserted o es e k new = match_ordering o ((k, new) ∷ e ∷ es) ((e.0, new) ∷ es) (e ∷ insert_entry key_cmp es k new)

greater_not : (k e q : Key) → key_cmp k e ≡ Greater → is_at (key_cmp q) e ≡ true → (k.0 == q.0) ≡ false
greater_not k e q h g = not_key k e q (ap is_eq h) g

-- the link of each key, once one was put in
pub link_of-insert :
    (links : List (Key × Link)) (k q : Key) (new : Link)
    → link_of key_cmp (insert_entry key_cmp links k new) q ≡ cond (k.0 == q.0) (Some new) (link_of key_cmp links q)
link_of-insert [] k q new = ap (λ b. cond b (Some new) None) (grind (arith, nat_tests))
link_of-insert (e ∷ es) k q new =
    (elim (key_cmp k e.0) as (λ o. key_cmp k e.0 ≡ o → link_of key_cmp (inserted o es e k new) q ≡ cond (k.0 == q.0) (Some new) (cond (is_at (key_cmp q) e.0) (Some e.1) (link_of key_cmp es q))) [
      | Less ↦ λ o. ap (λ b. cond b (Some new) (cond (is_at (key_cmp q) e.0) (Some e.1) (link_of key_cmp es q))) (grind (arith, nat_tests))
      | Equal ↦ λ o.
          ap (λ b. cond b (Some new) (link_of key_cmp es q)) (as_key k e.0 q (ap is_eq o))
          ∙ (same_twice (k.0 == q.0) (Some new) (Some e.1) (link_of key_cmp es q)
          ∙ ap (λ b. cond (k.0 == q.0) (Some new) (cond b (Some e.1) (link_of key_cmp es q))) (sym (as_key k e.0 q (ap is_eq o))))
      | Greater ↦ λ o.
          ap (λ r. cond (is_at (key_cmp q) e.0) (Some e.1) r) (link_of-insert es k q new)
          ∙ two_choices (is_at (key_cmp q) e.0) (k.0 == q.0) (Some e.1) (Some new) (link_of key_cmp es q) (greater_not k e.0 q o)
    ]) refl

-- the connection of each key stays where a link keeps it
pub routes_in-with_link :
    (links : List (Key × Link)) (k : Key) (old new : Link) → link_of key_cmp links k ≡ Some old → new.conn ≡ old.conn
    → routes_in (with_link key_cmp links k new) ≡ routes_in links
routes_in-with_link [] k old new h same = refl
routes_in-with_link (e ∷ es) k old new h same =
    (elim (is_at (key_cmp k) e.0) as (λ b. cond b (Some e.1) (link_of key_cmp es k) ≡ Some old → routes_in (cond b ((e.0, new) ∷ es) (e ∷ with_link key_cmp es k new)) ≡ (e.0.0, e.1.conn) ∷ routes_in es) [
      | true ↦ λ g. let it : e.1 ≡ old = cc in ap (λ c. (e.0.0, c) ∷ routes_in es) (same ∙ sym (ap (λ (l : Link). l.conn) it))
      | false ↦ λ g. ap (λ r. (e.0.0, e.1.conn) ∷ r) (routes_in-with_link es k old new g same)
    ]) h

-- a link that is put in is a route that is put in
pub routes_in-insert :
    (links : List (Key × Link)) (k : Key) (new : Link) → routes_in (insert_entry key_cmp links k new) ≡ insert_entry nat_cmp (routes_in links) k.0 new.conn
routes_in-insert [] k new = refl
routes_in-insert (e ∷ es) k new =
    elim (key_cmp k e.0) as (λ o. routes_in (inserted o es e k new) ≡ match_ordering o ((k.0, new.conn) ∷ (e.0.0, e.1.conn) ∷ routes_in es) ((e.0.0, new.conn) ∷ routes_in es) ((e.0.0, e.1.conn) ∷ insert_entry nat_cmp (routes_in es) k.0 new.conn)) [
      | Less ↦ refl
      | Equal ↦ refl
      | Greater ↦ ap (λ r. (e.0.0, e.1.conn) ∷ r) (routes_in-insert es k new)
    ]

abbrev pub conn_in : Option Link → Option ℕ
conn_in None = None
conn_in (Some l) = Some l.conn

-- the route to a key is its link's connection
pub route_to-link : (links : List (Key × Link)) (k : Key) → route_to (routes_in links) k ≡ conn_in (link_of key_cmp links k)
route_to-link [] k = refl
route_to-link (e ∷ es) k =
    ap (λ b. cond b (Some e.1.conn) (route_to (routes_in es) k)) (sym (is_key k e.0))
    ∙ (elim (is_at (key_cmp k) e.0) as (λ b. cond b (Some e.1.conn) (route_to (routes_in es) k) ≡ conn_in (cond b (Some e.1) (link_of key_cmp es k))) [
      | true ↦ refl
      | false ↦ route_to-link es k
    ])

-- the keys of routes are those of the links
pub keys_in-links : (links : List (Key × Link)) → keys_in (routes_in links) ≡ keys_of links
keys_in-links [] = refl
keys_in-links (e ∷ es) = ap (λ r. e.0 ∷ r) (keys_in-links es)

-- ---- a link that is removed

-- the link of another key
pub link_of-other :
    (links : List (Key × Link)) (k q : Key) → (k.0 == q.0) ≡ false → link_of key_cmp (remove_entry (is_at (key_cmp k)) links) q ≡ link_of key_cmp links q
link_of-other [] k q other = refl
link_of-other (e ∷ es) k q other =
    (elim (is_at (key_cmp k) e.0) as (λ b. is_at (key_cmp k) e.0 ≡ b → link_of key_cmp (cond b es (e ∷ remove_entry (is_at (key_cmp k)) es)) q ≡ cond (is_at (key_cmp q) e.0) (Some e.1) (link_of key_cmp es q)) [
      | true ↦ λ t. sym (ap (λ b. cond b (Some e.1) (link_of key_cmp es q)) (as_key k e.0 q t ∙ other))
      | false ↦ λ t. ap (λ r. cond (is_at (key_cmp q) e.0) (Some e.1) r) (link_of-other es k q other)
    ]) refl

-- is a route that is removed
pub routes_in-remove : (links : List (Key × Link)) (k : Key) → routes_in (remove_entry (is_at (key_cmp k)) links) ≡ remove_entry (is_at (nat_cmp k.0)) (routes_in links)
routes_in-remove [] k = refl
routes_in-remove (e ∷ es) k =
    elim (is_at (key_cmp k) e.0) as (λ b. routes_in (cond b es (e ∷ remove_entry (is_at (key_cmp k)) es)) ≡ cond b (routes_in es) ((e.0.0, e.1.conn) ∷ remove_entry (is_at (nat_cmp k.0)) (routes_in es))) [
      | true ↦ refl
      | false ↦ ap (λ r. (e.0.0, e.1.conn) ∷ r) (routes_in-remove es k)
    ]

no_conn_in : (o : Option Link) → conn_in o ≡ None → o ≡ None
no_conn_in None h = refl
no_conn_in (Some l) h = cc

-- and its key has none, where the keys rise
pub link_of-removed : (links : List (Key × Link)) (k : Key) → IsRising (routes_in links) → link_of key_cmp (remove_entry (is_at (key_cmp k)) links) k ≡ None
link_of-removed links k h =
    no_conn_in (link_of key_cmp (remove_entry (is_at (key_cmp k)) links) k)
    (sym (route_to-link (remove_entry (is_at (key_cmp k)) links) k) ∙ (ap (λ r. route_to r k) (routes_in-remove links k) ∙ route_removed k (routes_in links) h))
