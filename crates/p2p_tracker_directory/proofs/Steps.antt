-- What one more call makes of a key's record.
use Rattle.std.proofs.Common.{◌≡◌, ℕ, Bool, true, false, cond, ◌&&◌, ◌||◌, not, List, [], ◌∷◌, Option, Some, None, refl, sym, ap, ◌∙◌}
use Rattle.std.proofs.lemmas.Bool.{false≢true}
use Rattle.std.specs.Prelude.{is_some, nat_lt}
use Rattle.std.specs.Option.{option_map, option_or}
use Rattle.std.specs.BTreeMap.{is_at}
use Rattle.std.specs.declared.cmp.Ordering.{Ordering}
use Rattle.p2p_address.specs.declared.peer.Address.{Address as PeerAddress}
use Rattle.p2p_tracker_calls.specs.declared.call.Call.{Call}
use Rattle.p2p_tracker_calls.specs.declared.call.Call.TheVariants as call
use Rattle.p2p_tracker_calls.specs.Rules.{Rules}
use Rattle.p2p_tracker_calls.specs.Sets.{accepted_sets, kept_sets, is_tracked, primary_sets, secondary_sets}
use Rattle.p2p_tracker_calls.specs.Grants.{Grant, grant_by, releases, held_by, is_held}
use Rattle.p2p_tracker_calls.specs.Blocks.{is_local}
use Rattle.p2p_tracker_calls.specs.Lives.{is_alive, given_by, address_of, last_grant, is_stale, is_connected, is_change, cool_after, next_after}
use Rattle.p2p_tracker_directory.specs.Recorded.{Recorded, without_need, is_inert, reserved_by, updated, connected}
use Rattle.p2p_tracker_directory.specs.Stands.{status_of, record_of}
use Rattle.p2p_tracker_directory.specs.declared.record.Address.TheVariants as address
use Rattle.p2p_tracker_directory.specs.declared.record.Status.TheVariants as status
use Rattle.p2p_tracker_directory.specs.declared.record.ReserveResult.TheVariants as answer
use Rattle.p2p_tracker_directory.proofs.Counts.{is_tracked-counts}

-- the records of a peer and of the own key, by what they hold
unfoldable pub peer : ℕ → Bool → Bool → ℕ → ℕ → Bool → Option Grant → PeerAddress → Recorded
peer cooldown held joined primary secondary stale g a = record {
  address = address.Known a;
  status = status_of held joined;
  primary = primary;
  secondary = secondary;
  is_stale = stale;
  cool = cool_after cooldown g;
  next_dial = next_after cooldown g;
}

unfoldable pub own : ℕ → ℕ → Recorded
own primary secondary = record {
  address = address.Myself;
  status = status.Inert;
  primary = primary;
  secondary = secondary;
  is_stale = false;
  cool = 0;
  next_dial = 0;
}

-- while a life goes on, its address and its last grant stay
still : (local alive : Bool) (a : Option PeerAddress) (g : Option Grant) (F : Option Grant → PeerAddress → Recorded) (r : Recorded)
    → (local ≡ false → alive ≡ is_some a)
    → cond local (Some r) (option_map (F (cond alive g None)) (cond (alive && not local) a None)) ≡ cond local (Some r) (option_map (F g) a)
still true alive a g F r h = refl
still false true a g F r h = refl
still false false None g F r h = refl
still false false (Some a) g F r h = absurd (false≢true (h refl))

-- a key that is alive has an address
has_address : (alive local : Bool) (given a : Option PeerAddress) → local ≡ false → (alive ≡ true → is_some a ≡ true)
    → alive ≡ is_some (cond (alive && not local) (option_or given a) None)
has_address alive true given a o h = absurd (false≢true (sym o))
has_address false false given a o h = refl
has_address true false None a o h = sym (h refl)
has_address true false (Some x) a o h = refl

still_held : (b tracked held : Bool) → (tracked || (not b && held)) ≡ true → (tracked || held) ≡ true
still_held b true held e = refl
still_held true false true e = refl
still_held true false false e = e
still_held false false held e = e

now_held : (b tracked held known : Bool) (g : Grant) → (b ≡ true → known ≡ true) → (tracked || held) ≡ known → (tracked || held_by (cond b (Some g) None) false held) ≡ true → known ≡ true
now_held true tracked held known g k h e = k refl
now_held false tracked held known g k h e = sym h ∙ e

-- a release
release_step : (b local tracked held : Bool) (cooldown n m : ℕ) (joined stale : Bool) (g : Option Grant) (a : Option PeerAddress)
    → tracked ≡ (nat_lt 0 n || nat_lt 0 m) → (local ≡ false → (tracked || held) ≡ is_some a)
    → cond local (Some (own n m)) (option_map (peer cooldown (not b && held) joined n m (cond b false stale) (cond (tracked || (not b && held)) g None)) (cond ((tracked || (not b && held)) && not local) a None))
    ≡ cond b (without_need (cond local (Some (own n m)) (option_map (peer cooldown held joined n m stale g) a))) (cond local (Some (own n m)) (option_map (peer cooldown held joined n m stale g) a))
unfolding peer own
release_step true true tracked held cooldown n m joined stale g a t h = refl
release_step true false true held cooldown n m joined stale g None t h = absurd (false≢true (sym (h refl)))
release_step true false true held cooldown n m joined stale g (Some a) t h =
    ap (λ x. cond (not x && true) None (Some (peer cooldown false joined n m false g a))) t
release_step true false false held cooldown n m joined stale g None t h = refl
release_step true false false held cooldown n m joined stale g (Some a) t h =
    ap (λ x. cond (not x && true) None (Some (peer cooldown false joined n m false g a))) t
release_step false local tracked held cooldown n m joined stale g a t h = still local (tracked || held) a g (peer cooldown held joined n m stale) (own n m) h

-- a grant
grant_step : (b local tracked held : Bool) (cooldown n m : ℕ) (joined stale : Bool) (g : Option Grant) (a : Option PeerAddress) (at jitter : ℕ)
    → (b ≡ true → local ≡ false) → (b ≡ true → stale ≡ false) → (local ≡ false → (tracked || held) ≡ is_some a)
    → cond local (Some (own n m)) (option_map (peer cooldown (held_by (cond b (Some (at, jitter)) None) false held) (cond (is_some {T = Grant} (cond b (Some (at, jitter)) None)) false joined) n m
    (cond (is_some {T = Grant} (cond b (Some (at, jitter)) None) || false) false stale)
    (cond (tracked || held_by (cond b (Some (at, jitter)) None) false held) (option_or (cond b (Some (at, jitter)) None) g) None))
    (cond ((tracked || held_by (cond b (Some (at, jitter)) None) false held) && not local) a None))
    ≡ cond b (option_map (λ r. reserved_by answer.Reserved r at cooldown jitter) (cond local (Some (own n m)) (option_map (peer cooldown held joined n m stale g) a))) (cond local (Some (own n m)) (option_map (peer cooldown held joined n m stale g) a))
unfolding peer own
grant_step true true tracked held cooldown n m joined stale g a at jitter o k h = absurd (false≢true (sym (o refl)))
grant_step true false true held cooldown n m joined stale g None at jitter o k h = refl
grant_step true false true held cooldown n m joined stale g (Some a) at jitter o k h = ap (λ x. Some (peer cooldown true false n m x (Some (at, jitter)) a)) (sym (k refl))
grant_step true false false held cooldown n m joined stale g None at jitter o k h = refl
grant_step true false false held cooldown n m joined stale g (Some a) at jitter o k h = ap (λ x. Some (peer cooldown true false n m x (Some (at, jitter)) a)) (sym (k refl))
grant_step false local tracked held cooldown n m joined stale g a at jitter o k h = still local (tracked || held) a g (peer cooldown held joined n m stale) (own n m) h

-- a change of the address
pub and_swap : (x held joined : Bool) → (x && held) ≡ (not (is_inert (status_of held joined)) && x)
and_swap true true true = refl
and_swap true true false = refl
and_swap true false joined = refl
and_swap false true true = refl
and_swap false true false = refl
and_swap false false joined = refl

update_some : (cooldown n m : ℕ) (held joined stale : Bool) (g : Option Grant) (a given : PeerAddress)
    → Some (peer cooldown held joined n m ((is_change (Some given) (Some a) && held) || stale) g given) ≡ Some (updated (peer cooldown held joined n m stale g a) given)
unfolding peer
update_some cooldown n m held joined stale g a given = ap (λ x. Some (peer cooldown held joined n m (x || stale) g given)) (and_swap (is_change (Some given) (Some a)) held joined)

update_step : (b local tracked held : Bool) (cooldown n m : ℕ) (joined stale : Bool) (g : Option Grant) (a : Option PeerAddress) (given : PeerAddress)
    → (local ≡ false → (tracked || held) ≡ is_some a)
    → cond local (Some (own n m)) (option_map (peer cooldown held joined n m ((is_change (cond b (Some given) None) a && held) || stale) (cond (tracked || held) g None))
    (cond ((tracked || held) && not local) (option_or (cond b (Some given) None) a) None))
    ≡ cond b (option_map (λ r. updated r given) (cond local (Some (own n m)) (option_map (peer cooldown held joined n m stale g) a))) (cond local (Some (own n m)) (option_map (peer cooldown held joined n m stale g) a))
unfolding own
update_step true true tracked held cooldown n m joined stale g a given h = refl
update_step true false true held cooldown n m joined stale g None given h = absurd (false≢true (sym (h refl)))
update_step true false true held cooldown n m joined stale g (Some a) given h = update_some cooldown n m held joined stale g a given
update_step true false false true cooldown n m joined stale g None given h = absurd (false≢true (sym (h refl)))
update_step true false false true cooldown n m joined stale g (Some a) given h = update_some cooldown n m true joined stale g a given
update_step true false false false cooldown n m joined stale g None given h = refl
update_step true false false false cooldown n m joined stale g (Some a) given h = absurd (false≢true (h refl))
update_step false local tracked held cooldown n m joined stale g a given h = still local (tracked || held) a g (peer cooldown held joined n m stale) (own n m) h

-- a connection of a reserved key
connect_step : (b local tracked held : Bool) (cooldown n m : ℕ) (joined stale : Bool) (g : Option Grant) (a : Option PeerAddress)
    → (b ≡ true → local ≡ false) → (b ≡ true → held ≡ true) → (b ≡ true → joined ≡ false) → (local ≡ false → (tracked || held) ≡ is_some a)
    → cond local (Some (own n m)) (option_map (peer cooldown held ((b && not stale) || joined) n m stale (cond (tracked || held) g None)) (cond ((tracked || held) && not local) a None))
    ≡ cond b (option_map connected (cond local (Some (own n m)) (option_map (peer cooldown held joined n m stale g) a))) (cond local (Some (own n m)) (option_map (peer cooldown held joined n m stale g) a))
unfolding peer own
connect_step true true tracked held cooldown n m joined stale g a o r j h = absurd (false≢true (sym (o refl)))
connect_step true false tracked false cooldown n m joined stale g a o r j h = absurd (false≢true (r refl))
connect_step true false tracked true cooldown n m true stale g a o r j h = absurd (false≢true (sym (j refl)))
connect_step true false true true cooldown n m false stale g None o r j h = refl
connect_step true false true true cooldown n m false true g (Some a) o r j h = refl
connect_step true false true true cooldown n m false false g (Some a) o r j h = refl
connect_step true false false true cooldown n m false stale g None o r j h = refl
connect_step true false false true cooldown n m false true g (Some a) o r j h = refl
connect_step true false false true cooldown n m false false g (Some a) o r j h = refl
connect_step false local tracked held cooldown n m joined stale g a o r j h = still local (tracked || held) a g (peer cooldown held joined n m stale) (own n m) h

held_still : (given : Option Grant) (released change stale held : Bool) → (stale ≡ true → held ≡ true)
    → cond (is_some given || released) false ((change && held) || stale) ≡ true → held_by given released held ≡ true
held_still (Some g) released change stale held h e = refl
held_still None true change stale held h e = absurd (false≢true e)
held_still None false true true true h e = refl
held_still None false true true false h e = h refl
held_still None false true false true h e = refl
held_still None false true false false h e = e
held_still None false false stale held h e = h e

module _ {P : Type 0} (cmp : P → P → Ordering) (rules : Rules P) where
  -- only a held key is stale
  pub stale-held : (calls : List (Call P)) (q : P) → is_stale cmp rules calls q ≡ true → is_held cmp calls q ≡ true
  unfolding is_stale is_held
  stale-held [] q e = absurd (false≢true e)
  stale-held (c ∷ calls) q e = held_still (grant_by cmp c q) (releases cmp c q) (is_change (given_by cmp c calls q) (address_of cmp rules calls q)) (is_stale cmp rules calls q) (is_held cmp calls q) (stale-held calls q) e

module _ {P : Type 0} (cmp : P → P → Ordering) (rules : Rules P) (calls : List (Call P)) (q : P) where
  -- another peer that is tracked or held has an address
  abbrev pub IsAddressed : Type 0
  IsAddressed = is_local cmp rules q ≡ false → is_alive cmp rules calls q ≡ is_some (address_of cmp rules calls q)

module _ {P : Type 0} (cmp : P → P → Ordering) (rules : Rules P) (calls : List (Call P)) (q : P) (h : IsAddressed cmp rules calls q) where
  pub record_of-block : (p : P) (t : ℕ) → record_of cmp rules (call.Block p t ∷ calls) q ≡ record_of cmp rules calls q
  unfolding record_of address_of last_grant is_stale is_connected is_held is_tracked primary_sets secondary_sets kept_sets accepted_sets peer own
  record_of-block p t =
      still (is_local cmp rules q) (is_alive cmp rules calls q) (address_of cmp rules calls q) (last_grant cmp rules calls q)
      (peer rules.cooldown (is_held cmp calls q) (is_connected cmp rules calls q) (primary_sets cmp rules calls q) (secondary_sets cmp rules calls q) (is_stale cmp rules calls q))
      (own (primary_sets cmp rules calls q) (secondary_sets cmp rules calls q)) h

  pub record_of-unblock : (t : ℕ) → record_of cmp rules (call.UnblockExpired t ∷ calls) q ≡ record_of cmp rules calls q
  unfolding record_of address_of last_grant is_stale is_connected is_held is_tracked primary_sets secondary_sets kept_sets accepted_sets peer own
  record_of-unblock t =
      still (is_local cmp rules q) (is_alive cmp rules calls q) (address_of cmp rules calls q) (last_grant cmp rules calls q)
      (peer rules.cooldown (is_held cmp calls q) (is_connected cmp rules calls q) (primary_sets cmp rules calls q) (secondary_sets cmp rules calls q) (is_stale cmp rules calls q))
      (own (primary_sets cmp rules calls q) (secondary_sets cmp rules calls q)) h

  pub record_of-refused_dial : (p : P) (t j : ℕ) → record_of cmp rules (call.Dial p t j false ∷ calls) q ≡ record_of cmp rules calls q
  unfolding record_of address_of last_grant is_stale is_connected is_held is_tracked primary_sets secondary_sets kept_sets accepted_sets peer own
  record_of-refused_dial p t j =
      still (is_local cmp rules q) (is_alive cmp rules calls q) (address_of cmp rules calls q) (last_grant cmp rules calls q)
      (peer rules.cooldown (is_held cmp calls q) (is_connected cmp rules calls q) (primary_sets cmp rules calls q) (secondary_sets cmp rules calls q) (is_stale cmp rules calls q))
      (own (primary_sets cmp rules calls q) (secondary_sets cmp rules calls q)) h

  pub record_of-refused_listen : (p : P) (t j : ℕ) → record_of cmp rules (call.Listen p t j false ∷ calls) q ≡ record_of cmp rules calls q
  unfolding record_of address_of last_grant is_stale is_connected is_held is_tracked primary_sets secondary_sets kept_sets accepted_sets peer own
  record_of-refused_listen p t j =
      still (is_local cmp rules q) (is_alive cmp rules calls q) (address_of cmp rules calls q) (last_grant cmp rules calls q)
      (peer rules.cooldown (is_held cmp calls q) (is_connected cmp rules calls q) (primary_sets cmp rules calls q) (secondary_sets cmp rules calls q) (is_stale cmp rules calls q))
      (own (primary_sets cmp rules calls q) (secondary_sets cmp rules calls q)) h

  pub record_of-dial : (p : P) (t j : ℕ) → (is_at (cmp p) q ≡ true → is_local cmp rules q ≡ false) → (is_at (cmp p) q ≡ true → is_stale cmp rules calls q ≡ false)
      → record_of cmp rules (call.Dial p t j true ∷ calls) q ≡ cond (is_at (cmp p) q) (option_map (λ r. reserved_by answer.Reserved r t rules.cooldown j) (record_of cmp rules calls q)) (record_of cmp rules calls q)
  unfolding record_of address_of last_grant is_stale is_connected is_held is_tracked primary_sets secondary_sets kept_sets accepted_sets peer own
  record_of-dial p t j o k =
      grant_step (is_at (cmp p) q) (is_local cmp rules q) (is_tracked cmp rules calls q) (is_held cmp calls q) rules.cooldown
      (primary_sets cmp rules calls q) (secondary_sets cmp rules calls q) (is_connected cmp rules calls q) (is_stale cmp rules calls q)
      (last_grant cmp rules calls q) (address_of cmp rules calls q) t j o k h

  pub record_of-listen : (p : P) (t j : ℕ) → (is_at (cmp p) q ≡ true → is_local cmp rules q ≡ false) → (is_at (cmp p) q ≡ true → is_stale cmp rules calls q ≡ false)
      → record_of cmp rules (call.Listen p t j true ∷ calls) q ≡ cond (is_at (cmp p) q) (option_map (λ r. reserved_by answer.Reserved r t rules.cooldown j) (record_of cmp rules calls q)) (record_of cmp rules calls q)
  unfolding record_of address_of last_grant is_stale is_connected is_held is_tracked primary_sets secondary_sets kept_sets accepted_sets peer own
  record_of-listen p t j o k =
      grant_step (is_at (cmp p) q) (is_local cmp rules q) (is_tracked cmp rules calls q) (is_held cmp calls q) rules.cooldown
      (primary_sets cmp rules calls q) (secondary_sets cmp rules calls q) (is_connected cmp rules calls q) (is_stale cmp rules calls q)
      (last_grant cmp rules calls q) (address_of cmp rules calls q) t j o k h

  pub record_of-release : (p : P) → record_of cmp rules (call.Release p ∷ calls) q ≡ cond (is_at (cmp p) q) (without_need (record_of cmp rules calls q)) (record_of cmp rules calls q)
  unfolding record_of address_of last_grant is_stale is_connected is_held is_tracked primary_sets secondary_sets kept_sets accepted_sets peer own
  record_of-release p =
      release_step (is_at (cmp p) q) (is_local cmp rules q) (is_tracked cmp rules calls q) (is_held cmp calls q) rules.cooldown
      (primary_sets cmp rules calls q) (secondary_sets cmp rules calls q) (is_connected cmp rules calls q) (is_stale cmp rules calls q)
      (last_grant cmp rules calls q) (address_of cmp rules calls q) (is_tracked-counts cmp rules calls q) h

  pub record_of-overwrite : (p : P) (given : PeerAddress)
      → record_of cmp rules (call.Overwrite p given ∷ calls) q ≡ cond (is_at (cmp p) q) (option_map (λ r. updated r given) (record_of cmp rules calls q)) (record_of cmp rules calls q)
  unfolding record_of address_of last_grant is_stale is_connected is_held is_tracked primary_sets secondary_sets kept_sets accepted_sets peer own
  record_of-overwrite p given =
      update_step (is_at (cmp p) q) (is_local cmp rules q) (is_tracked cmp rules calls q) (is_held cmp calls q) rules.cooldown
      (primary_sets cmp rules calls q) (secondary_sets cmp rules calls q) (is_connected cmp rules calls q) (is_stale cmp rules calls q)
      (last_grant cmp rules calls q) (address_of cmp rules calls q) given h

  pub record_of-connect : (p : P) (conn : ℕ) → (is_at (cmp p) q ≡ true → is_local cmp rules q ≡ false) → (is_at (cmp p) q ≡ true → is_held cmp calls q ≡ true)
      → (is_at (cmp p) q ≡ true → is_connected cmp rules calls q ≡ false)
      → record_of cmp rules (call.Connect p None conn ∷ calls) q ≡ cond (is_at (cmp p) q) (option_map connected (record_of cmp rules calls q)) (record_of cmp rules calls q)
  unfolding record_of address_of last_grant is_stale is_connected is_held is_tracked primary_sets secondary_sets kept_sets accepted_sets peer own
  record_of-connect p conn o r j =
      connect_step (is_at (cmp p) q) (is_local cmp rules q) (is_tracked cmp rules calls q) (is_held cmp calls q) rules.cooldown
      (primary_sets cmp rules calls q) (secondary_sets cmp rules calls q) (is_connected cmp rules calls q) (is_stale cmp rules calls q)
      (last_grant cmp rules calls q) (address_of cmp rules calls q) o r j h

  pub addressed-block : (p : P) (t : ℕ) → IsAddressed cmp rules (call.Block p t ∷ calls) q
  unfolding address_of is_held is_tracked kept_sets accepted_sets
  addressed-block p t = λ o. has_address (is_alive cmp rules calls q) (is_local cmp rules q) None (address_of cmp rules calls q) o (λ e. sym (h o) ∙ e)

  pub addressed-unblock : (t : ℕ) → IsAddressed cmp rules (call.UnblockExpired t ∷ calls) q
  unfolding address_of is_held is_tracked kept_sets accepted_sets
  addressed-unblock t = λ o. has_address (is_alive cmp rules calls q) (is_local cmp rules q) None (address_of cmp rules calls q) o (λ e. sym (h o) ∙ e)

  pub addressed-refused_dial : (p : P) (t j : ℕ) → IsAddressed cmp rules (call.Dial p t j false ∷ calls) q
  unfolding address_of is_held is_tracked kept_sets accepted_sets
  addressed-refused_dial p t j = λ o. has_address (is_alive cmp rules calls q) (is_local cmp rules q) None (address_of cmp rules calls q) o (λ e. sym (h o) ∙ e)

  pub addressed-refused_listen : (p : P) (t j : ℕ) → IsAddressed cmp rules (call.Listen p t j false ∷ calls) q
  unfolding address_of is_held is_tracked kept_sets accepted_sets
  addressed-refused_listen p t j = λ o. has_address (is_alive cmp rules calls q) (is_local cmp rules q) None (address_of cmp rules calls q) o (λ e. sym (h o) ∙ e)

  pub addressed-connect : (p : P) (at : Option ℕ) (conn : ℕ) → IsAddressed cmp rules (call.Connect p at conn ∷ calls) q
  unfolding address_of is_held is_tracked kept_sets accepted_sets
  addressed-connect p at conn = λ o. has_address (is_alive cmp rules calls q) (is_local cmp rules q) None (address_of cmp rules calls q) o (λ e. sym (h o) ∙ e)

  pub addressed-overwrite : (p : P) (given : PeerAddress) → IsAddressed cmp rules (call.Overwrite p given ∷ calls) q
  unfolding address_of is_held is_tracked kept_sets accepted_sets
  addressed-overwrite p given = λ o. has_address (is_alive cmp rules calls q) (is_local cmp rules q) (cond (is_at (cmp p) q) (Some given) None) (address_of cmp rules calls q) o (λ e. sym (h o) ∙ e)

  pub addressed-release : (p : P) → IsAddressed cmp rules (call.Release p ∷ calls) q
  unfolding address_of is_held is_tracked kept_sets accepted_sets
  addressed-release p = λ o. has_address (is_tracked cmp rules calls q || (not (is_at (cmp p) q) && is_held cmp calls q)) (is_local cmp rules q) None (address_of cmp rules calls q) o
      (λ e. sym (h o) ∙ still_held (is_at (cmp p) q) (is_tracked cmp rules calls q) (is_held cmp calls q) e)

  pub addressed-dial : (p : P) (t j : ℕ) → (is_at (cmp p) q ≡ true → is_some (address_of cmp rules calls q) ≡ true) → IsAddressed cmp rules (call.Dial p t j true ∷ calls) q
  unfolding address_of is_held is_tracked kept_sets accepted_sets
  addressed-dial p t j k = λ o. has_address (is_tracked cmp rules calls q || held_by (cond (is_at (cmp p) q) (Some (t, j)) None) false (is_held cmp calls q)) (is_local cmp rules q) None (address_of cmp rules calls q) o
      (now_held (is_at (cmp p) q) (is_tracked cmp rules calls q) (is_held cmp calls q) (is_some (address_of cmp rules calls q)) (t, j) k (h o))

  pub addressed-listen : (p : P) (t j : ℕ) → (is_at (cmp p) q ≡ true → is_some (address_of cmp rules calls q) ≡ true) → IsAddressed cmp rules (call.Listen p t j true ∷ calls) q
  unfolding address_of is_held is_tracked kept_sets accepted_sets
  addressed-listen p t j k = λ o. has_address (is_tracked cmp rules calls q || held_by (cond (is_at (cmp p) q) (Some (t, j)) None) false (is_held cmp calls q)) (is_local cmp rules q) None (address_of cmp rules calls q) o
      (now_held (is_at (cmp p) q) (is_tracked cmp rules calls q) (is_held cmp calls q) (is_some (address_of cmp rules calls q)) (t, j) k (h o))
