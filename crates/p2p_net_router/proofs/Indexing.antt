-- That the relay of each key is found by the connection of its link, once the links of a router changed and keep their connections.
use Rattle.std.proofs.Common.{◌≡◌, ℕ, ◌<◌, Bool, true, false, List, [], ◌∷◌, refl, ap, sym, subst, ◌∙◌, arith, Option, Some, None}
use Rattle.std.specs.Prelude.{◌==◌}
use Rattle.std.specs.List.{AllByRecursion}
use Rattle.std.specs.List.Sorted.{IsStrictlySortedBy}
use Rattle.std.specs.BTreeMap.{BTreeMap, get, is_at}
use Rattle.std.specs.Map.{keys_of}
use Rattle.std.specs.Ordering.{nat_cmp, is_eq}
use Rattle.std.specs.declared.cmp.Ordering.TheVariants.{Less}
use Rattle.std.proofs.lemmas.Bool.Decides.{nat_tests}
use Rattle.std.proofs.lemmas.Bool.{false≢true}
use Rattle.p2p_base.specs.declared.key.Key.{Key}
use Rattle.p2p_router.specs.Connections.{is_same, peer_in, IsIndexed}
use Rattle.p2p_router.specs.Routes.{Routes, new_routes}
use Rattle.p2p_router.specs.Routing.{link_of}
use Rattle.p2p_router.specs.declared.link.Link.{Link}
use Rattle.p2p_log_rules.specs.Facts.{route_to}
use Rattle.p2p_log_rules.proofs.Rising.{IsRising}
use Rattle.p2p_net_router.specs.Ends.{AreEnded}
use Rattle.p2p_net_router.specs.Holds.{routes_in}
use Rattle.p2p_net_router.specs.Items.{key_cmp}
use Rattle.p2p_net_router.specs.Sound.{IsInTurn}
use Rattle.p2p_net_router.proofs.Linking.{conn_in, route_to-link}

-- what is found by the connection of one link is found by that of another link with the same connection
found_by :
    (o : Option Link) (l : Link) (q : Key) (peers : List (ℕ × Key)) → conn_in o ≡ Some l.conn
    → ((m : Link) → o ≡ Some m → is_same key_cmp q (peer_in peers m.conn) ≡ true) → is_same key_cmp q (peer_in peers l.conn) ≡ true
found_by None l q peers h f = cc
found_by (Some m) l q peers h f =
    let e : m.conn ≡ l.conn = cc in
    subst (λ c. is_same key_cmp q (peer_in peers c) ≡ true) e (f m refl)

-- where each key keeps its connection, its relay is found as before
pub same_index :
    (old new : Routes Key) → routes_in new.links ≡ routes_in old.links → new.peers ≡ old.peers → IsIndexed key_cmp old → IsIndexed key_cmp new
same_index old new links peers indexed q l at =
    subst (λ (ps : List (ℕ × Key)). is_same key_cmp q (peer_in ps l.conn) ≡ true) (sym peers)
    (found_by (link_of key_cmp old.links q) l q old.peers
    (sym (route_to-link old.links q) ∙ (ap (λ rs. route_to rs q) (sym links) ∙ (route_to-link new.links q ∙ ap conn_in at)))
    (indexed q))

-- a router without links has none to find
pub none_indexed : (a : Routes Key) → a ≡ new_routes → IsIndexed key_cmp a
none_indexed a h q l at = absurd (let e : None ≡ Some l = sym (ap (λ (x : Routes Key). link_of key_cmp x.links q) h) ∙ at in cc)

-- ---- what a step needs for it

below : (j k : ℕ) → j < k → nat_cmp j k ≡ Less
below j k h = grind (arith, nat_tests)

all_below : (k : Key) (links : List (Key × Link)) → AllByRecursion (λ (d : ℕ × ℕ). k.0 < d.0) (routes_in links) → AllByRecursion (λ (j : Key). key_cmp k j ≡ Less) (keys_of links)
all_below k [] h = tt
all_below k (e ∷ es) h = (below k.0 e.0.0 h.0, all_below k es h.1)

-- keys whose routes rise are in order
pub rising_keys : (links : List (Key × Link)) → IsRising (routes_in links) → IsStrictlySortedBy key_cmp (keys_of links)
unfolding IsStrictlySortedBy
rising_keys [] h = tt
rising_keys (e ∷ es) h = (all_below e.0 es h.0, rising_keys es h.1)

same_number : (c : ℕ) → (c == c) ≡ true
same_number c = grind (arith, nat_tests)

pub is_number : (c d : ℕ) → is_eq (nat_cmp c d) ≡ (c == d)
is_number c d = grind (arith, nat_tests)

pub own_key : (k : Key) → is_at (key_cmp k) k ≡ true
own_key k = is_number k.0 k.0 ∙ same_number k.0

key_of : (q k : Key) → ◌≡◌ {A = Option Key} (Some q) (Some k) → q ≡ k
key_of q k h = cc

closed_not : (b c : Bool) → b ≡ true → c ≡ false → b ≡ c → ⊥
closed_not b c t f e = false≢true (sym f ∙ (sym e ∙ t))

-- a link over a connection that is known is that of the connection's key, of which nothing more is said
pub link_known :
    (size : ℕ) (peers : BTreeMap ℕ Key) (links : List (Key × Link)) (ended : ℕ → Bool) (conn : ℕ) (key : Key) → AreEnded ended peers links → get nat_cmp peers conn ≡ Some key
    → (q : Key) (m : Link) (said : List (Option ℕ)) → link_of key_cmp links q ≡ Some m → m.conn ≡ conn → IsInTurn size peers q (Some m) said → (q ≡ key) × (said ≡ [])
link_known size peers links ended conn key e known q m [] at over turn = (key_of q key (sym turn.1 ∙ (ap (get nat_cmp peers) over ∙ known)), refl)
link_known size peers links ended conn key e known q m (None ∷ said) at over turn =
    absurd (closed_not m.relay.high.closed (ended conn) turn.0.high_closed (e.known conn key known) ((e.relays q m at).high ∙ ap ended over))
link_known size peers links ended conn key e known q m (Some c ∷ said) at over turn = elim turn [ ]
