-- The relay of each connected peer is found by its connection, as long as a connection is ready for one peer.
use Rattle.std.proofs.Common.{◌≡◌, ℕ, ◌==◌, Bool, true, false, cond, List, [], ◌∷◌, Option, Some, None, refl, sym, ap, ◌∙◌, subst, arith}
use Rattle.std.proofs.lemmas.Bool.{true≢false, false≢true}
use Rattle.std.proofs.lemmas.Bool.Decides.{nat_tests}
use Rattle.std.proofs.lemmas.Cmp.{eq_by_cmp_equiv, nat_cmp_total}
use Rattle.std.proofs.lemmas.Map.{lookup-remove_entry, lookup-set_value}
use Rattle.std.proofs.lemmas.Map.Keys.{IsDistinct-from_sorted}
use Rattle.std.specs.Cmp.{IsTotalOrder}
use Rattle.std.specs.List.Sorted.{IsStrictlySortedBy}
use Rattle.std.specs.BTreeMap.{is_at, insert_entry}
use Rattle.std.specs.Map.{keys_of, lookup, remove_entry}
use Rattle.std.specs.Option.{is_some}
use Rattle.std.specs.Ordering.{is_eq, match_ordering, nat_cmp}
use Rattle.std.specs.declared.cmp.Ordering.{Ordering}
use Rattle.std.specs.declared.cmp.Ordering.TheVariants.{Less, Equal, Greater}
use Rattle.p2p_wire.specs.declared.encoded.EncodedData.{EncodedData}
use Rattle.p2p_flow.specs.Lanes.{Lanes, sent_on}
use Rattle.p2p_router.specs.Connections.{is_over, peer_in, peer_over, relay_to, relay_at, without_conn, with_conn, is_same, StandAtLinks, IsOfOnePeer, IsIndexed}
use Rattle.p2p_router.specs.Messenger.{Desk}
use Rattle.p2p_router.specs.Routes.{Routes}
use Rattle.p2p_router.specs.Routing.{addressed, link_of, relay_over, put_over, copy_put, copies_put}
use Rattle.p2p_router.specs.Step.{links_after, peers_after, routes_on}
use Rattle.p2p_router.specs.declared.link.Link.{Link}
use Rattle.p2p_router.specs.declared.message.Message.{Message}
use Rattle.p2p_router.specs.declared.message.Message.TheVariants as message

twice : {X : Type 0} (b : Bool) (x y z : X) → cond b x z ≡ cond b x (cond b y z)
twice true x y z = refl
twice false x y z = refl

either_first : {X : Type 0} (b d : Bool) (x y z : X) → (d ≡ true → b ≡ false) → cond b x (cond d y z) ≡ cond d y (cond b x z)
either_first true true x y z h = absurd (true≢false (h refl))
either_first true false x y z h = refl
either_first false d x y z h = refl

-- a look-up elsewhere does not see what is removed
apart : {K X : Type 0} (test other : K → Bool) → ((k : K) → test k ≡ true → other k ≡ false) → (es : List (K × X)) → lookup other (remove_entry test es) ≡ lookup other es
apart test other h [] = refl
apart test other h (e ∷ es) = at (test e.0) refl (apart test other h es)
  where
    at : (b : Bool) → test e.0 ≡ b → lookup other (remove_entry test es) ≡ lookup other es → lookup other (cond b es (e ∷ remove_entry test es)) ≡ cond (other e.0) (Some e.1) (lookup other es)
    at true t i = ap (λ b. cond b (Some e.1) (lookup other es)) (sym (h e.0 t))
    at false t i = ap (λ r. cond (other e.0) (Some e.1) r) i

module _ {K : Type 0} {cmp : K → K → Ordering} (o : IsTotalOrder cmp) where
  -- equal keys are equal to the same keys
  alike : (q k x : K) → is_at (cmp q) k ≡ true → is_at (cmp q) x ≡ is_at (cmp k) x
  alike q k x h = (eq_by_cmp_equiv o).congr q k x h

  turned : (q k : K) → is_at (cmp q) k ≡ is_at (cmp k) q
  turned q k = (eq_by_cmp_equiv o).symm q k

module _ {K X : Type 0} {cmp : K → K → Ordering} (o : IsTotalOrder cmp) where
  alike_lookup : (q k : K) → is_at (cmp q) k ≡ true → (es : List (K × X)) → lookup (is_at (cmp q)) es ≡ lookup (is_at (cmp k)) es
  alike_lookup q k h [] = refl
  alike_lookup q k h (e ∷ es) =
      ap (λ b. cond b (Some e.1) (lookup (is_at (cmp q)) es)) (alike o q k e.0 h)
      ∙ ap (λ r. cond (is_at (cmp k) e.0) (Some e.1) r) (alike_lookup q k h es)

  lookup-insert_entry : (q k : K) (v : X) (es : List (K × X)) → lookup (is_at (cmp q)) (insert_entry cmp es k v) ≡ cond (is_at (cmp q) k) (Some v) (lookup (is_at (cmp q)) es)
  lookup-insert_entry q k v [] = refl
  lookup-insert_entry q k v (e ∷ es) = at (cmp k e.0) refl (lookup-insert_entry q k v es)
    where
      at : (r : Ordering) → cmp k e.0 ≡ r → lookup (is_at (cmp q)) (insert_entry cmp es k v) ≡ cond (is_at (cmp q) k) (Some v) (lookup (is_at (cmp q)) es)
          → lookup (is_at (cmp q)) (match_ordering r ((k, v) ∷ e ∷ es) ((e.0, v) ∷ es) (e ∷ insert_entry cmp es k v)) ≡ cond (is_at (cmp q) k) (Some v) (cond (is_at (cmp q) e.0) (Some e.1) (lookup (is_at (cmp q)) es))
      at Less h i = refl
      at Equal h i =
          let same = turned o q k ∙ (alike o k e.0 q (ap is_eq h) ∙ turned o e.0 q) in
          ap (λ b. cond b (Some v) (lookup (is_at (cmp q)) es)) (sym same)
          ∙ (twice (is_at (cmp q) k) (Some v) (Some e.1) (lookup (is_at (cmp q)) es)
          ∙ ap (λ b. cond (is_at (cmp q) k) (Some v) (cond b (Some e.1) (lookup (is_at (cmp q)) es))) same)
      at Greater h i =
          ap (λ r. cond (is_at (cmp q) e.0) (Some e.1) r) i
          ∙ either_first (is_at (cmp q) e.0) (is_at (cmp q) k) (Some e.1) (Some v) (lookup (is_at (cmp q)) es) (λ t. alike o q k e.0 t ∙ ap is_eq h)

own : (n : ℕ) → is_at (nat_cmp n) n ≡ true
own n = (eq_by_cmp_equiv nat_cmp_total).refl n

number : (n m : ℕ) → is_at (nat_cmp n) m ≡ true → n ≡ m
number n m h = grind (arith, nat_tests)

same_number : (n m : ℕ) → n ≡ m → (n == m) ≡ true
same_number n m h = grind (arith, nat_tests)

module _ {P : Type 0} {cmp : P → P → Ordering} (o : IsTotalOrder cmp) where
  one_peer : (p q : P) (r : Option P) → is_same cmp p r ≡ true → is_same cmp q r ≡ true → is_at (cmp q) p ≡ true
  one_peer p q None h g = absurd (false≢true h)
  one_peer p q (Some x) h g = alike o q x p g ∙ (turned o x p ∙ h)

  -- once the connection of one peer's link has no peer, the others are found
  kept-without : (links : List (P × Link)) (peers : List (ℕ × P)) → StandAtLinks cmp links peers → (p q : P) (l : Link) (r : Option Link) → link_of cmp links p ≡ r
      → is_at (cmp q) p ≡ false → link_of cmp links q ≡ Some l → is_same cmp q (peer_in (without_conn r peers) l.conn) ≡ true
  kept-without links peers ix p q l None e h g = ix q l g
  kept-without links peers ix p q l (Some k) e h g = at (is_at (nat_cmp k.conn) l.conn) refl
    where
      at : (b : Bool) → is_at (nat_cmp k.conn) l.conn ≡ b → is_same cmp q (peer_in (remove_entry (is_at (nat_cmp k.conn)) peers) l.conn) ≡ true
      at true t = absurd (true≢false (sym (one_peer p q (peer_in peers l.conn) (subst (λ n. is_same cmp p (peer_in peers n) ≡ true) (number k.conn l.conn t) (ix p k e)) (ix q l g)) ∙ h))
      at false t =
          ap (is_same cmp q) (apart (is_at (nat_cmp k.conn)) (is_at (nat_cmp l.conn)) (λ x s. turned nat_cmp_total l.conn x ∙ (sym (alike nat_cmp_total k.conn x l.conn s) ∙ t)) peers)
          ∙ ix q l g

  ready-kept : (links : List (P × Link)) (peers : List (ℕ × P)) → StandAtLinks cmp links peers → (p : P) (new : Link)
      → ((q : P) (l : Link) → link_of cmp links q ≡ Some l → l.conn ≡ new.conn → is_at (cmp q) p ≡ true)
      → StandAtLinks cmp (insert_entry cmp links p new) (with_conn (link_of cmp links p) peers new.conn p)
  ready-kept links peers ix p new one q l h = at (is_at (cmp q) p) refl (sym (lookup-insert_entry o q p new links) ∙ h)
    where
      rest : List (ℕ × P)
      rest = without_conn (link_of cmp links p) peers

      found : (c : ℕ) → peer_in (insert_entry nat_cmp rest new.conn p) c ≡ cond (is_at (nat_cmp c) new.conn) (Some p) (peer_in rest c)
      found c = lookup-insert_entry nat_cmp_total c new.conn p rest

      other : is_at (cmp q) p ≡ false → link_of cmp links q ≡ Some l → (b : Bool) → is_at (nat_cmp l.conn) new.conn ≡ b → is_same cmp q (cond b (Some p) (peer_in rest l.conn)) ≡ true
      other e g true t = one q l g (number l.conn new.conn t)
      other e g false t = kept-without links peers ix p q l (link_of cmp links p) refl e g

      at : (b : Bool) → is_at (cmp q) p ≡ b → cond b (Some new) (link_of cmp links q) ≡ Some l → is_same cmp q (peer_in (insert_entry nat_cmp rest new.conn p) l.conn) ≡ true
      at true e g =
          let it : new ≡ l = cc in
          subst (λ (k : Link). is_same cmp q (peer_in (insert_entry nat_cmp rest new.conn p) k.conn) ≡ true) it
          (ap (is_same cmp q) (found new.conn ∙ ap (λ b. cond b (Some p) (peer_in rest new.conn)) (own new.conn)) ∙ e)
      at false e g = ap (is_same cmp q) (found l.conn) ∙ other e g (is_at (nat_cmp l.conn) new.conn) refl

  release-kept : (links : List (P × Link)) (peers : List (ℕ × P)) → IsStrictlySortedBy cmp (keys_of links) → StandAtLinks cmp links peers → (p : P)
      → StandAtLinks cmp (remove_entry (is_at (cmp p)) links) (without_conn (link_of cmp links p) peers)
  release-kept links peers s ix p q l h =
      at (is_at (cmp p) q) refl (sym (lookup-remove_entry (eq_by_cmp_equiv o) (is_at (cmp p)) (λ x y t. alike o p x y t) q links (IsDistinct-from_sorted cmp (keys_of links) s)) ∙ h)
    where
      at : (b : Bool) → is_at (cmp p) q ≡ b → cond b None (link_of cmp links q) ≡ Some l → is_same cmp q (peer_in (without_conn (link_of cmp links p) peers) l.conn) ≡ true
      at true e g = absurd (false≢true (ap is_some g))
      at false e g = kept-without links peers ix p q l (link_of cmp links p) refl (turned o q p ∙ e) g

  put-kept : (links : List (P × Link)) (peers : List (ℕ × P)) → StandAtLinks cmp links peers → (p : P) (encoded : EncodedData) (priority : Bool) (r : Option Link) → link_of cmp links p ≡ r
      → StandAtLinks cmp (put_over cmp r links p encoded priority) peers
  put-kept links peers ix p encoded priority None e q l h = ix q l h
  put-kept links peers ix p encoded priority (Some k) e q l h =
      at (is_at (cmp p) q) refl (sym (lookup-set_value (eq_by_cmp_equiv o) (is_at (cmp p)) (λ x y t. alike o p x y t) q new links (ap is_some e)) ∙ h)
    where
      new : Link
      new = record { conn = k.conn; relay = sent_on k.relay encoded priority }

      at : (b : Bool) → is_at (cmp p) q ≡ b → cond b (Some new) (link_of cmp links q) ≡ Some l → is_same cmp q (peer_in peers l.conn) ≡ true
      at true t g =
          let it : new ≡ l = cc in
          subst (λ (x : Link). is_same cmp q (peer_in peers x.conn) ≡ true) it (ix q k (sym (alike_lookup o p q t links) ∙ e))
      at false t g = ix q l g

  content-kept : (links : List (P × Link)) (peers : List (ℕ × P)) → StandAtLinks cmp links peers → (encoded : EncodedData) (priority : Bool) (to : List P)
      → StandAtLinks cmp (copies_put cmp links encoded priority to) peers
  unfolding copies_put
  content-kept links peers ix encoded priority [] = ix
  content-kept links peers ix encoded priority (p ∷ ps) =
      content-kept (copy_put cmp links encoded priority p) peers (put-kept links peers ix p encoded priority (link_of cmp links p) refl) encoded priority ps

  step-kept : (r : Routes P) (m : Message P) → IsStrictlySortedBy cmp (keys_of r.links) → IsIndexed cmp r → IsOfOnePeer cmp r.links (Some m)
      → StandAtLinks cmp (links_after cmp r.links m) (peers_after cmp r.links r.peers m)
  step-kept r (message.Ready peer relay conn) s ix one = ready-kept r.links r.peers ix peer (record { conn = conn; relay = relay }) one
  step-kept r (message.Release peer) s ix one = release-kept r.links r.peers s ix peer
  step-kept r (message.Content recipients encoded priority) s ix one = content-kept r.links r.peers ix encoded priority (addressed r.links recipients)
  step-kept r (message.SubscribePeers subscription) s ix one = ix

  -- a router without links
  pub none-linked : StandAtLinks cmp [] []
  none-linked q l h = absurd (false≢true (ap is_some h))

  -- a step keeps the relays of all peers within reach of their connections
  pub stepped-kept : (r : Routes P) (d : Desk P) (m : Option (Message P)) → IsStrictlySortedBy cmp (keys_of r.links) → IsIndexed cmp r → IsOfOnePeer cmp r.links m → IsIndexed cmp (routes_on cmp r d m)
  stepped-kept r d None s ix one = ix
  stepped-kept r d (Some m) s ix one = step-kept r m s ix one

  -- the relay of a peer's link is that of the link's connection
  pub found-over : (r : Routes P) (conn : ℕ) → IsIndexed cmp r → (peer : P) (l : Link) → link_of cmp r.links peer ≡ Some l → l.conn ≡ conn → relay_at cmp r conn ≡ Some l.relay
  found-over r conn ix peer l h c = at (peer_in r.peers conn) (subst (λ n. is_same cmp peer (peer_in r.peers n) ≡ true) c (ix peer l h))
    where
      at : (x : Option P) → is_same cmp peer x ≡ true → relay_to cmp r.links (peer_over cmp r.links conn x) ≡ Some l.relay
      at None t = absurd (false≢true t)
      at (Some q) t =
          let there : link_of cmp r.links q ≡ Some l = sym (alike_lookup o peer q t r.links) ∙ h in
          ap (λ b. relay_to cmp r.links (cond b (Some q) None)) (ap (is_over conn) there ∙ same_number l.conn conn c)
          ∙ ap relay_over there

  -- the same of what was found
  pub answers-over : (r : Routes P) (conn : ℕ) (found : Option (Lanes EncodedData)) → found ≡ relay_at cmp r conn
      → IsIndexed cmp r → (peer : P) (l : Link) → link_of cmp r.links peer ≡ Some l → l.conn ≡ conn → found ≡ Some l.relay
  answers-over r conn found same ix peer l h c = same ∙ found-over r conn ix peer l h c
