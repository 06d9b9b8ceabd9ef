-- The relay of a connection, found by its number.
use Rattle.std.proofs.Common.{◌≡◌, ℕ, Bool, true, false, cond, List, [], ◌∷◌, refl, ap, sym, subst, ◌∙◌, arith, Option, Some, None}
use Rattle.std.specs.Prelude.{◌==◌, is_some}
use Rattle.std.specs.Ordering.{nat_cmp}
use Rattle.std.proofs.lemmas.Bool.Decides.{nat_tests}
use Rattle.std.proofs.lemmas.Bool.{false≢true}
use Rattle.p2p_base.specs.declared.key.Key.{Key}
use Rattle.p2p_flow.specs.Lanes.{Lanes, closed_lanes}
use Rattle.p2p_wire.specs.declared.encoded.EncodedData.{EncodedData}
use Rattle.p2p_router.specs.Connections.{is_over, is_same, peer_in, peer_over, peer_at, relay_to, relay_at, with_relay_to, with_relay_at, IsIndexed}
use Rattle.p2p_router.specs.Routes.{Routes}
use Rattle.p2p_router.specs.Routing.{link_of, with_link, relay_over, relay_set}
use Rattle.p2p_router.specs.declared.link.Link.{Link}
use Rattle.p2p_log.specs.declared.config.Config.{Config}
use Rattle.p2p_log.specs.declared.entry.Entry.{Entry}
use Rattle.p2p_log.specs.declared.item.Envelope.{Envelope}
use Rattle.p2p_log_rules.specs.Connections.{is_ended}
use Rattle.p2p_log_rules.specs.Effect.{mailbox_size_at}
use Rattle.p2p_peer_shared.specs.Routing.{with_closed, relay_closed}
use Rattle.p2p_net_router.specs.Items.{key_cmp}
use Rattle.std.specs.BTreeMap.{get}
use Rattle.p2p_net_router.specs.Holds.{routes_in}
use Rattle.p2p_net_router.specs.Items.{messages_in}
use Rattle.p2p_net_router.specs.Sound.{IsSound, IsInTurn, said_of}
use Rattle.p2p_net_router.specs.Stands.{StandsOver}
use Rattle.p2p_net_router.specs.declared.router.Router.{Router}
use Rattle.p2p_net_router.proofs.Copying.{key_from}
use Rattle.p2p_net_router.proofs.Indexing.{is_number, same_index, link_known}
use Rattle.p2p_net_router.proofs.Linking.{routes_in-with_link}

same_number : (c : ℕ) → (c == c) ≡ true
same_number c = grind (arith, nat_tests)

module _ (a : Routes Key) (conn : ℕ) (key : Key) (l : Link) (indexed : IsIndexed key_cmp a) (at : link_of key_cmp a.links key ≡ Some l) (over : l.conn ≡ conn) where
  is_over_it : is_over conn (link_of key_cmp a.links key) ≡ true
  is_over_it = ap (is_over conn) at ∙ (ap (λ c. c == conn) over ∙ same_number conn)

  by : (o : Option Key) → is_same key_cmp key o ≡ true → peer_over key_cmp a.links conn o ≡ Some key
  by None h = absurd (false≢true h)
  by (Some q) h =
      subst (λ (k : Key). peer_over key_cmp a.links conn (Some k) ≡ Some key) (key_from key q (sym (is_number key.0 q.0) ∙ h))
      (ap (λ b. cond b (Some key) None) is_over_it)

  -- the key is the one that is connected over it
  pub peer_at-link : peer_at key_cmp a conn ≡ Some key
  peer_at-link = by (peer_in a.peers conn) (subst (λ c. is_same key_cmp key (peer_in a.peers c) ≡ true) over (indexed key l at))

  -- and the relay is its
  pub relay_at-link : relay_at key_cmp a conn ≡ Some l.relay
  relay_at-link = ap (relay_to key_cmp a.links) peer_at-link ∙ ap relay_over at

  pub with_relay_at-link : (w : Lanes EncodedData) → with_relay_at key_cmp a conn w ≡ record a { links = with_link key_cmp a.links key (record { conn = l.conn; relay = w }) }
  with_relay_at-link w =
      ap (λ o. record a { links = with_relay_to key_cmp a.links o w }) peer_at-link
      ∙ ap (λ (o : Option Link). record a { links = relay_set key_cmp o a.links key w }) at

  -- what a connection that ends makes of the router
  pub with_closed-link : with_closed key_cmp a conn ≡ record a { links = with_link key_cmp a.links key (record { conn = l.conn; relay = closed_lanes l.relay }) }
  with_closed-link = ap (relay_closed key_cmp a conn) relay_at-link ∙ with_relay_at-link (closed_lanes l.relay)

-- ---- a router with another relay, or a closed one, still finds all

set_routes : (o : Option Link) (links : List (Key × Link)) (q : Key) (w : Lanes EncodedData) → link_of key_cmp links q ≡ o → routes_in (relay_set key_cmp o links q w) ≡ routes_in links
set_routes None links q w at = refl
set_routes (Some l) links q w at = routes_in-with_link links q l (record { conn = l.conn; relay = w }) at refl

relayed_routes : (o : Option Key) (links : List (Key × Link)) (w : Lanes EncodedData) → routes_in (with_relay_to key_cmp links o w) ≡ routes_in links
relayed_routes None links w = refl
relayed_routes (Some q) links w = set_routes (link_of key_cmp links q) links q w refl

pub with_relay_at-indexed : (a : Routes Key) (conn : ℕ) (w : Lanes EncodedData) → IsIndexed key_cmp a → IsIndexed key_cmp (with_relay_at key_cmp a conn w)
with_relay_at-indexed a conn w indexed = same_index a (with_relay_at key_cmp a conn w) (relayed_routes (peer_at key_cmp a conn) a.links w) refl indexed

closed_indexed : (a : Routes Key) (conn : ℕ) (o : Option (Lanes EncodedData)) → IsIndexed key_cmp a → IsIndexed key_cmp (relay_closed key_cmp a conn o)
closed_indexed a conn None indexed = indexed
closed_indexed a conn (Some w) indexed = with_relay_at-indexed a conn (closed_lanes w) indexed

pub with_closed-indexed : (a : Routes Key) (conn : ℕ) → IsIndexed key_cmp a → IsIndexed key_cmp (with_closed key_cmp a conn)
with_closed-indexed a conn indexed = closed_indexed a conn (relay_at key_cmp a conn) indexed

-- ---- whether there is a relay

abbrev pub is_quiet : List (Option ℕ) → Bool
is_quiet [] = true
is_quiet (o ∷ said) = false

module _ (configs : List Config) (log : List Entry) (r : Router) (items : List Envelope) (conn : ℕ) (key : Key) (stands : StandsOver configs log r items) (known : get nat_cmp r.peers conn ≡ Some key) where
  abbrev size : ℕ
  size = mailbox_size_at configs r.number

  s : IsSound size r
  s = stands.holds.sound

  abbrev links : List (Key × Link)
  links = r.actor.links

  abbrev said : Key → List (Option ℕ)
  said k = said_of k (messages_in r.messenger.binding)

  -- a link over the connection is that of its key, and open
  its : (q : Key) (m : Link) (w : List (Option ℕ)) → link_of key_cmp links q ≡ Some m → m.conn ≡ conn → IsInTurn size r.peers q (Some m) w → (q ≡ key) × (w ≡ [])
  its q m w at over turn = link_known size r.peers links (is_ended log r.number) conn key stands.ended known q m w at over turn

  -- whoever is connected over it is its key
  connected : (q : Key) (o : Option Link) → link_of key_cmp links q ≡ o → is_over conn o ≡ true → (q ≡ key) × (said q ≡ [])
  connected q None at over = absurd (false≢true over)
  connected q (Some m) at over =
      its q m (said q) at (let h : m.conn ≡ conn = grind (arith, nat_tests) in h) (subst (λ o. IsInTurn size r.peers q o (said q)) at (s.turns q))

  something : {A : Type 0} (x : A) (xs : List A) → ◌≡◌ {A = List A} [] (x ∷ xs) → ⊥
  something x xs h = false≢true (sym (ap (λ l. elim l [ [] ↦ true | (y ∷ ys) ↦ false ]) h))

  none_over : (o : Option Key) (x : Option ℕ) (w : List (Option ℕ)) → said key ≡ x ∷ w → is_some (relay_to key_cmp links (peer_over key_cmp links conn o)) ≡ false
  none_over None x w told = refl
  none_over (Some q) x w told =
      (elim (is_over conn (link_of key_cmp links q)) as (λ b. is_over conn (link_of key_cmp links q) ≡ b → is_some (relay_to key_cmp links (cond b (Some q) None)) ≡ false) [
        | true ↦ λ t.
            let c = connected q (link_of key_cmp links q) refl t in
            absurd (something x w (sym c.1 ∙ (ap said c.0 ∙ told)))
        | false ↦ λ t. refl
      ]) refl

  some_over : (l : Option Link) → link_of key_cmp links key ≡ l → IsInTurn size r.peers key l [] → is_some (relay_at key_cmp r.actor conn) ≡ true
  some_over None at turn = absurd (turn conn known)
  some_over (Some l) at turn = ap (λ o. is_some o) (relay_at-link r.actor conn key l stands.indexed at (s.single key l.conn conn turn.1 known))

  by_said : (w : List (Option ℕ)) → said key ≡ w → is_some (relay_at key_cmp r.actor conn) ≡ is_quiet w
  by_said [] told = some_over (link_of key_cmp links key) refl (subst (IsInTurn size r.peers key (link_of key_cmp links key)) told (s.turns key))
  by_said (x ∷ w) told = none_over (peer_in r.actor.peers conn) x w told

  -- there is a relay for a connection that is known exactly where nothing more is said of its key
  pub has_relay-known : is_some (relay_at key_cmp r.actor conn) ≡ is_quiet (said key)
  has_relay-known = by_said (said key) refl
