-- A connection that was released is taken out of the links.
use Rattle.std.proofs.Common.{◌≡◌, ℕ, Bool, true, false, cond, List, [], ◌∷◌, ◌++◌, refl, ap, sym, subst, ◌∙◌, arith, Option, Some, None}
use Rattle.std.specs.Prelude.{◌==◌}
use Rattle.std.specs.BTreeMap.{BTreeMap, get, is_at}
use Rattle.std.specs.Map.{remove_entry}
use Rattle.std.specs.Ordering.{nat_cmp}
use Rattle.std.proofs.lemmas.Bool.Decides.{nat_tests}
use Rattle.p2p_base.specs.declared.key.Key.{Key}
use Rattle.p2p_router.specs.declared.link.Link.{Link}
use Rattle.p2p_router.specs.Routing.{link_of}
use Rattle.p2p_net_router.specs.Ends.{AreClosed, AreEnded}
use Rattle.p2p_net_router.specs.Holds.{routes_in}
use Rattle.p2p_net_router.specs.Items.{key_cmp, link_with, link_to, frames_in, frames_of}
use Rattle.p2p_net_router.specs.Sound.{IsInTurn}
use Rattle.p2p_net_router.proofs.Copying.{key_from}
use Rattle.p2p_net_router.proofs.Linking.{link_of-other, link_of-removed}
use Rattle.p2p_log_rules.proofs.Rising.{IsRising}
use Rattle.p2p_net_router.proofs.Turns.{IsFirstRelease, first_release, spent_lane, empty_link}

same_key : (k : Key) → (k.0 == k.0) ≡ true
same_key k = grind (arith, nat_tests)

turned : (k j : Key) → (j.0 == k.0) ≡ (k.0 == j.0)
turned k j = grind (arith, nat_tests)

-- the link of a key that is released first is closed
pub released_turn :
    (size : ℕ) (peers : BTreeMap ℕ Key) (links : List (Key × Link)) (k : Key) (rest : List (Option ℕ))
    → IsInTurn size peers k (link_of key_cmp links k) (cond (k.0 == k.0) (None ∷ []) [] ++ rest) → IsFirstRelease peers k (link_of key_cmp links k) rest
released_turn size peers links k rest h =
    first_release size peers k (link_of key_cmp links k) rest (subst (λ b. IsInTurn size peers k (link_of key_cmp links k) (cond b (None ∷ []) [] ++ rest)) (same_key k) h)

-- the link of each key, once that of one was removed
link_left :
    (links : List (Key × Link)) (k j : Key) (b : Bool) → IsRising (routes_in links) → (k.0 == j.0) ≡ b
    → link_of key_cmp (remove_entry (is_at (key_cmp k)) links) j ≡ cond b None (link_of key_cmp links j)
link_left links k j true rising t = ap (link_of key_cmp (remove_entry (is_at (key_cmp k)) links)) (sym (key_from k j t)) ∙ link_of-removed links k rising
link_left links k j false rising t = link_of-other links k j t

-- each key is in turn
pub turns_remove :
    (size : ℕ) (peers : BTreeMap ℕ Key) (links : List (Key × Link)) (k : Key) (said : Key → List (Option ℕ)) → IsRising (routes_in links) → IsFirstRelease peers k (link_of key_cmp links k) (said k)
    → ((j : Key) → IsInTurn size peers j (link_of key_cmp links j) (cond (j.0 == k.0) (None ∷ []) [] ++ said j))
    → (j : Key) → IsInTurn size peers j (link_of key_cmp (remove_entry (is_at (key_cmp k)) links) j) (said j)
turns_remove size peers links k said rising own all j =
    (elim (k.0 == j.0) as (λ t. (k.0 == j.0) ≡ t → IsInTurn size peers j (link_of key_cmp (remove_entry (is_at (key_cmp k)) links) j) (said j)) [
      | true ↦ λ t.
          subst (λ o. IsInTurn size peers j o (said j)) (sym (link_left links k j true rising t))
          (subst (λ (x : Key). IsInTurn size peers x None (said x)) (key_from k j t) own.awaited)
      | false ↦ λ t.
          subst (λ o. IsInTurn size peers j o (said j)) (sym (link_left links k j false rising t))
          (subst (λ b. IsInTurn size peers j (link_of key_cmp links j) (cond b (None ∷ []) [] ++ said j)) (turned k j ∙ t) (all j))
    ]) refl

-- the other relays are closed as before
pub ends_remove :
    (ended : ℕ → Bool) (peers : BTreeMap ℕ Key) (links : List (Key × Link)) (k : Key) → IsRising (routes_in links)
    → AreEnded ended peers links → AreEnded ended peers (remove_entry (is_at (key_cmp k)) links)
ends_remove ended peers links k rising h = record {
  relays = λ j l at.
      (elim (k.0 == j.0) as (λ t. (k.0 == j.0) ≡ t → AreClosed l.relay (ended l.conn)) [
        | true ↦ λ t. absurd (let e : None ≡ Some l = sym (link_left links k j true rising t) ∙ at in cc)
        | false ↦ λ t. h.relays j l (sym (link_left links k j false rising t) ∙ at)
      ]) refl;
  known = h.known;
}

frames_remove_at :
    (peers : BTreeMap ℕ Key) (links : List (Key × Link)) (k : Key) (rest : List (Option ℕ)) (b : Bool) (conn : ℕ) (o : Option Key) → IsRising (routes_in links) → IsFirstRelease peers k (link_of key_cmp links k) rest
    → frames_in b (link_to (remove_entry (is_at (key_cmp k)) links) conn o) ≡ frames_in b (link_to links conn o)
frames_remove_at peers links k rest b conn None rising own = refl
frames_remove_at peers links k rest b conn (Some j) rising own =
    (elim (k.0 == j.0) as (λ t. (k.0 == j.0) ≡ t → frames_in b (link_with conn (link_of key_cmp (remove_entry (is_at (key_cmp k)) links) j)) ≡ frames_in b (link_with conn (link_of key_cmp links j))) [
      | true ↦ λ t.
          ap (λ o. frames_in b (link_with conn o)) (link_left links k j true rising t)
          ∙ sym
          (ap (λ o. frames_in b (link_with conn o)) (ap (link_of key_cmp links) (sym (key_from k j t)) ∙ own.linked)
          ∙ empty_link own.link b conn (spent_lane own.link.relay b own.spent))
      | false ↦ λ t. ap (λ o. frames_in b (link_with conn o)) (link_left links k j false rising t)
    ]) refl

-- a closed link had no frames
pub frames_remove :
    (peers : BTreeMap ℕ Key) (links : List (Key × Link)) (k : Key) (rest : List (Option ℕ)) (b : Bool) (conn : ℕ) → IsRising (routes_in links) → IsFirstRelease peers k (link_of key_cmp links k) rest
    → frames_of peers (remove_entry (is_at (key_cmp k)) links) b conn ≡ frames_of peers links b conn
frames_remove peers links k rest b conn rising own = frames_remove_at peers links k rest b conn (get nat_cmp peers conn) rising own
