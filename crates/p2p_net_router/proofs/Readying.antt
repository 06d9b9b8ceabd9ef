-- A connection that is ready is put into the links.
use Rattle.std.proofs.Common.{◌≡◌, ℕ, Bool, true, false, cond, List, [], ◌∷◌, ◌++◌, refl, ap, sym, subst, ◌∙◌, arith, Option, Some, None}
use Rattle.std.specs.Prelude.{◌==◌}
use Rattle.std.specs.BTreeMap.{BTreeMap, get, insert_entry}
use Rattle.std.specs.Ordering.{nat_cmp}
use Rattle.std.proofs.lemmas.Bool.Decides.{nat_tests}
use Rattle.p2p_base.specs.declared.key.Key.{Key}
use Rattle.p2p_flow.specs.Lanes.{empty_lanes}
use Rattle.p2p_router.specs.declared.link.Link.{Link}
use Rattle.p2p_router.specs.Routing.{link_of}
use Rattle.p2p_net_router.specs.Items.{key_cmp, link_with, link_to, frames_in, frames_of}
use Rattle.p2p_net_router.specs.Ends.{AreClosed, AreEnded}
use Rattle.p2p_net_router.specs.Sound.{IsInTurn}
use Rattle.p2p_net_router.proofs.Linking.{link_of-insert}
use Rattle.p2p_net_router.proofs.Copying.{key_from}
use Rattle.p2p_net_router.proofs.Turns.{IsFirstReady, first_ready}

same_key : (k : Key) → (k.0 == k.0) ≡ true
same_key k = grind (arith, nat_tests)

-- of a key whose connection is told of first nothing else is told, and it has no link
pub own_turn :
    (size : ℕ) (peers : BTreeMap ℕ Key) (links : List (Key × Link)) (k : Key) (conn : ℕ) (rest : List (Option ℕ))
    → IsInTurn size peers k (link_of key_cmp links k) (cond (k.0 == k.0) (Some conn ∷ []) [] ++ rest) → IsFirstReady peers k (link_of key_cmp links k) conn rest
own_turn size peers links k conn rest h =
    first_ready size peers k (link_of key_cmp links k) conn rest (subst (λ b. IsInTurn size peers k (link_of key_cmp links k) (cond b (Some conn ∷ []) [] ++ rest)) (same_key k) h)

turned : (k j : Key) → (j.0 == k.0) ≡ (k.0 == j.0)
turned k j = grind (arith, nat_tests)

-- each key is in turn, once the link of a connection was put in
pub turns_insert :
    (size : ℕ) (peers : BTreeMap ℕ Key) (links : List (Key × Link)) (k : Key) (conn : ℕ) (said : Key → List (Option ℕ)) → IsFirstReady peers k (link_of key_cmp links k) conn (said k)
    → ((j : Key) → IsInTurn size peers j (link_of key_cmp links j) (cond (j.0 == k.0) (Some conn ∷ []) [] ++ said j))
    → (j : Key) → IsInTurn size peers j (link_of key_cmp (insert_entry key_cmp links k (record { conn = conn; relay = empty_lanes size })) j) (said j)
turns_insert size peers links k conn said own all j =
    let new : Link = record { conn = conn; relay = empty_lanes size } in
    subst (λ o. IsInTurn size peers j o (said j)) (sym (link_of-insert links k j new))
    ((elim (k.0 == j.0) as (λ t. (k.0 == j.0) ≡ t → IsInTurn size peers j (cond t (Some new) (link_of key_cmp links j)) (said j)) [
      | true ↦ λ t.
          subst (λ (x : Key). IsInTurn size peers x (Some new) (said x)) (key_from k j t)
          (subst (IsInTurn size peers k (Some new)) (sym own.last) (record { high_size = refl; low_size = refl; high_open = refl; low_open = refl }, own.known))
      | false ↦ λ t. subst (λ b. IsInTurn size peers j (link_of key_cmp links j) (cond b (Some conn ∷ []) [] ++ said j)) (turned k j ∙ t) (all j)
    ]) refl)

-- its relay is open, and its connection has not ended
pub ends_insert :
    (size : ℕ) (ended : ℕ → Bool) (peers : BTreeMap ℕ Key) (links : List (Key × Link)) (k : Key) (conn : ℕ) → get nat_cmp peers conn ≡ Some k
    → AreEnded ended peers links → AreEnded ended peers (insert_entry key_cmp links k (record { conn = conn; relay = empty_lanes size }))
ends_insert size ended peers links k conn known h =
    let new : Link = record { conn = conn; relay = empty_lanes size } in
    record {
      relays = λ j l at.
          (elim (k.0 == j.0) as (λ t. (k.0 == j.0) ≡ t → cond t (Some new) (link_of key_cmp links j) ≡ Some l → AreClosed l.relay (ended l.conn)) [
            | true ↦ λ t e.
                let it : new ≡ l = cc in
                subst (λ (x : Link). AreClosed x.relay (ended x.conn)) it (record { high = sym (h.known conn k known); low = sym (h.known conn k known) })
            | false ↦ λ t e. h.relays j l e
          ]) refl (sym (link_of-insert links k j new) ∙ at);
      known = h.known;
    }

no_frames : (b : Bool) (size conn c : ℕ) → frames_in b (cond (c == conn) (Some (record { conn = c; relay = empty_lanes size })) None) ≡ []
no_frames true size conn c = elim (c == conn) as (λ t. frames_in true (cond t (Some (record { conn = c; relay = empty_lanes size })) None) ≡ []) [ true ↦ refl | false ↦ refl ]
no_frames false size conn c = elim (c == conn) as (λ t. frames_in false (cond t (Some (record { conn = c; relay = empty_lanes size })) None) ≡ []) [ true ↦ refl | false ↦ refl ]

frames_insert_at :
    (size : ℕ) (links : List (Key × Link)) (k : Key) (c : ℕ) (b : Bool) (conn : ℕ) (o : Option Key) → link_of key_cmp links k ≡ None
    → frames_in b (link_to (insert_entry key_cmp links k (record { conn = c; relay = empty_lanes size })) conn o) ≡ frames_in b (link_to links conn o)
frames_insert_at size links k c b conn None none = refl
frames_insert_at size links k c b conn (Some j) none =
    let new : Link = record { conn = c; relay = empty_lanes size } in
    ap (λ o. frames_in b (link_with conn o)) (link_of-insert links k j new)
    ∙ ((elim (k.0 == j.0) as (λ t. (k.0 == j.0) ≡ t → frames_in b (link_with conn (cond t (Some new) (link_of key_cmp links j))) ≡ frames_in b (link_with conn (link_of key_cmp links j))) [
      | true ↦ λ t. no_frames b size conn c ∙ sym (ap (λ o. frames_in b (link_with conn o)) (ap (link_of key_cmp links) (sym (key_from k j t)) ∙ none))
      | false ↦ λ t. refl
    ]) refl)

-- a link with an empty relay brings no frames
pub frames_insert :
    (size : ℕ) (peers : BTreeMap ℕ Key) (links : List (Key × Link)) (k : Key) (c : ℕ) (b : Bool) (conn : ℕ) → link_of key_cmp links k ≡ None
    → frames_of peers (insert_entry key_cmp links k (record { conn = c; relay = empty_lanes size })) b conn ≡ frames_of peers links b conn
frames_insert size peers links k c b conn none = frames_insert_at size links k c b conn (get nat_cmp peers conn) none
