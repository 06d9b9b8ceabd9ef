-- What a key's record tells of the calls.
use Rattle.std.proofs.Common.{◌≡◌, ℕ, Bool, true, false, cond, ◌&&◌, ◌||◌, not, List, Option, Some, None, refl, sym, ap, ◌∙◌, subst}
use Rattle.std.proofs.lemmas.Bool.{false≢true}
use Rattle.std.specs.Prelude.{is_some, nat_lt}
use Rattle.std.specs.Option.{option_map, unwrap_or}
use Rattle.std.specs.declared.cmp.Ordering.{Ordering}
use Rattle.p2p_address.specs.declared.ip.IpAddr.{IpAddr}
use Rattle.p2p_address.specs.declared.peer.Address.{Address as PeerAddress}
use Rattle.p2p_tracker_calls.specs.declared.call.Call.{Call}
use Rattle.p2p_tracker_calls.specs.Rules.{Rules}
use Rattle.p2p_tracker_calls.specs.Sets.{is_tracked, is_primary, primary_sets, secondary_sets}
use Rattle.p2p_tracker_calls.specs.Grants.{Grant, is_held}
use Rattle.p2p_tracker_calls.specs.Blocks.{is_local, is_blocked}
use Rattle.p2p_tracker_calls.specs.Lives.{address_of, last_grant, is_stale, is_connected, is_eligible, cool_after}
use Rattle.p2p_tracker_calls.specs.Allows as facts
use Rattle.p2p_tracker_directory.specs.Recorded.{Recorded, is_inert, is_acceptable, is_eligible_in, is_acceptable_in, may_dial_in, may_listen_in}
use Rattle.p2p_tracker_directory.specs.Stands.{status_of, record_of}
use Rattle.p2p_tracker_directory.proofs.Counts.{is_tracked-counts, is_primary-count}
use Rattle.p2p_tracker_directory.proofs.Steps.{own, peer, IsAddressed}

eligible_step : (local tracked held blocked : Bool) (cooldown n m : ℕ) (joined stale : Bool) (g : Option Grant) (a : Option PeerAddress)
    → tracked ≡ (nat_lt 0 n || nat_lt 0 m) → (local ≡ false → (tracked || held) ≡ is_some a)
    → (not local && tracked && not blocked) ≡ (is_eligible_in (cond local (Some (own n m)) (option_map (peer cooldown held joined n m stale g) a)) && not blocked)
unfolding peer own
eligible_step true tracked held blocked cooldown n m joined stale g a t h = refl
eligible_step false tracked held blocked cooldown n m joined stale g (Some a) t h = ap (λ x. x && not blocked) t
eligible_step false true held blocked cooldown n m joined stale g None t h = absurd (false≢true (sym (h refl)))
eligible_step false false held blocked cooldown n m joined stale g None t h = refl

turned : (x blocked held joined y : Bool) → (((x && not blocked) && not held) && y) ≡ ((x && is_inert (status_of held joined) && y) && not blocked)
turned false blocked held joined y = refl
turned true true true true y = refl
turned true true true false y = refl
turned true false true true y = refl
turned true false true false y = refl
turned true true false joined true = refl
turned true true false joined false = refl
turned true false false joined true = refl
turned true false false joined false = refl

last : (a b c : Bool) → ((a && b) && c) ≡ ((a && c) && b)
last false b c = refl
last true false false = refl
last true false true = refl
last true true false = refl
last true true true = refl

acceptable_step : (local tracked held blocked : Bool) (cooldown n m : ℕ) (joined stale : Bool) (g : Option Grant) (a : Option PeerAddress) (source : IpAddr) (bypass : Bool)
    → tracked ≡ (nat_lt 0 n || nat_lt 0 m) → (local ≡ false → (tracked || held) ≡ is_some a)
    → (((not local && tracked && not blocked) && not held) && (bypass || facts.dials_from source a))
    ≡ (is_acceptable_in (cond local (Some (own n m)) (option_map (peer cooldown held joined n m stale g) a)) source bypass && not blocked)
unfolding peer own
acceptable_step true tracked held blocked cooldown n m joined stale g a source bypass t h = refl
acceptable_step false tracked held blocked cooldown n m joined stale g (Some a) source bypass t h =
    ap (λ x. ((x && not blocked) && not held) && (bypass || facts.dials_from source (Some a))) t
    ∙ turned (nat_lt 0 n || nat_lt 0 m) blocked held joined (bypass || facts.dials_from source (Some a))
acceptable_step false true held blocked cooldown n m joined stale g None source bypass t h = absurd (false≢true (sym (h refl)))
acceptable_step false false held blocked cooldown n m joined stale g None source bypass t h = refl

dial_turned : (tracked x blocked held joined c primary p v : Bool) → tracked ≡ x → primary ≡ p
    → (((tracked && not blocked) && not held) && c && primary && v) ≡ ((x && is_inert (status_of held joined) && c && p && v) && not blocked)
dial_turned tracked x blocked held joined c primary p v t e =
    ap (λ z. ((z && not blocked) && not held) && c && primary && v) t
    ∙ (ap (λ z. ((x && not blocked) && not held) && c && z && v) e
    ∙ (ap (λ z. z && p && v) (turned x blocked held joined c)
    ∙ (ap (λ z. z && v) (last (x && is_inert (status_of held joined) && c) (not blocked) p)
    ∙ last (x && is_inert (status_of held joined) && c && p) (not blocked) v)))

dial_step : (local tracked held blocked primary : Bool) (cooldown n m : ℕ) (joined stale : Bool) (g : Option Grant) (a : Option PeerAddress) (now : ℕ) (private dns : Bool)
    → tracked ≡ (nat_lt 0 n || nat_lt 0 m) → primary ≡ nat_lt 0 n → (local ≡ false → (tracked || held) ≡ is_some a)
    → (((not local && tracked && not blocked) && not held) && not (nat_lt now (cool_after cooldown g)) && primary && facts.has_valid_ingress private dns a)
    ≡ (may_dial_in (cond local (Some (own n m)) (option_map (peer cooldown held joined n m stale g) a)) now private dns && not blocked)
unfolding peer own
dial_step true tracked held blocked primary cooldown n m joined stale g a now private dns t p h = refl
dial_step false tracked held blocked primary cooldown n m joined stale g (Some a) now private dns t p h =
    dial_turned tracked (nat_lt 0 n || nat_lt 0 m) blocked held joined (not (nat_lt now (cool_after cooldown g))) primary (nat_lt 0 n) (facts.has_valid_ingress private dns (Some a)) t p
dial_step false true held blocked primary cooldown n m joined stale g None now private dns t p h = absurd (false≢true (sym (h refl)))
dial_step false false held blocked primary cooldown n m joined stale g None now private dns t p h = refl

listen_step : (r : Option Recorded) (source : IpAddr) (now : ℕ) (bypass blocked : Bool) (cool : ℕ) (allowed : Bool)
    → allowed ≡ (is_acceptable_in r source bypass && not blocked) → ((s : Recorded) → r ≡ Some s → is_acceptable s source bypass ≡ true → s.cool ≡ cool)
    → (allowed && not (nat_lt now cool)) ≡ (may_listen_in r source now bypass && not blocked)
listen_step None source now bypass blocked cool allowed e c = ap (λ x. x && not (nat_lt now cool)) e
listen_step (Some s) source now bypass blocked cool allowed e c =
    ap (λ x. x && not (nat_lt now cool)) e ∙ last (is_acceptable s source bypass) (not blocked) (not (nat_lt now cool))
    ∙ at (is_acceptable s source bypass) refl
  where
    at : (b : Bool) → is_acceptable s source bypass ≡ b → ((b && not (nat_lt now cool)) && not blocked) ≡ ((b && not (nat_lt now s.cool)) && not blocked)
    at false f = refl
    at true f = ap (λ (x : ℕ). not (nat_lt now x) && not blocked) (sym (c s refl f))

cool_step : (local : Bool) (cooldown : ℕ) (held joined : Bool) (n m : ℕ) (stale : Bool) (g : Option Grant) (a : Option PeerAddress) (source : IpAddr) (bypass : Bool) (s : Recorded)
    → cond local (Some (own n m)) (option_map (peer cooldown held joined n m stale g) a) ≡ Some s → is_acceptable s source bypass ≡ true → s.cool ≡ cool_after cooldown g
unfolding peer own
cool_step true cooldown held joined n m stale g a source bypass s e f =
    absurd (false≢true (subst (λ (r : Recorded). is_acceptable r source bypass ≡ true) (sym (ap (λ o. unwrap_or o s) e)) f))
cool_step false cooldown held joined n m stale g None source bypass s e f = absurd (false≢true (ap is_some e))
cool_step false cooldown held joined n m stale g (Some a) source bypass s e f = sym (ap (λ o. (unwrap_or o s).cool) e)

module _ {P : Type 0} (cmp : P → P → Ordering) (rules : Rules P) (calls : List (Call P)) (q : P) (h : IsAddressed cmp rules calls q) where
  pub eligible-record : (t : ℕ) → is_eligible cmp rules calls q t ≡ (is_eligible_in (record_of cmp rules calls q) && not (is_blocked cmp rules calls q t))
  unfolding record_of peer own
  eligible-record t =
      eligible_step (is_local cmp rules q) (is_tracked cmp rules calls q) (is_held cmp calls q) (is_blocked cmp rules calls q t) rules.cooldown
      (primary_sets cmp rules calls q) (secondary_sets cmp rules calls q) (is_connected cmp rules calls q) (is_stale cmp rules calls q)
      (last_grant cmp rules calls q) (address_of cmp rules calls q) (is_tracked-counts cmp rules calls q) h

  pub acceptable-record : (source : IpAddr) (t : ℕ) → facts.is_acceptable cmp rules calls q source t ≡ (is_acceptable_in (record_of cmp rules calls q) source rules.bypass && not (is_blocked cmp rules calls q t))
  unfolding record_of peer own
  acceptable-record source t =
      acceptable_step (is_local cmp rules q) (is_tracked cmp rules calls q) (is_held cmp calls q) (is_blocked cmp rules calls q t) rules.cooldown
      (primary_sets cmp rules calls q) (secondary_sets cmp rules calls q) (is_connected cmp rules calls q) (is_stale cmp rules calls q)
      (last_grant cmp rules calls q) (address_of cmp rules calls q) source rules.bypass (is_tracked-counts cmp rules calls q) h

  pub dial-record : (t : ℕ) → facts.allows_dial cmp rules calls q t ≡ (may_dial_in (record_of cmp rules calls q) t rules.private rules.dns && not (is_blocked cmp rules calls q t))
  unfolding record_of peer own
  dial-record t =
      dial_step (is_local cmp rules q) (is_tracked cmp rules calls q) (is_held cmp calls q) (is_blocked cmp rules calls q t) (is_primary cmp rules calls q) rules.cooldown
      (primary_sets cmp rules calls q) (secondary_sets cmp rules calls q) (is_connected cmp rules calls q) (is_stale cmp rules calls q)
      (last_grant cmp rules calls q) (address_of cmp rules calls q) t rules.private rules.dns (is_tracked-counts cmp rules calls q) (is_primary-count cmp rules calls q) h

  pub listen-record : (source : IpAddr) (t : ℕ) → facts.allows_listen cmp rules calls q source t ≡ (may_listen_in (record_of cmp rules calls q) source t rules.bypass && not (is_blocked cmp rules calls q t))
  unfolding record_of peer own
  listen-record source t =
      listen_step (record_of cmp rules calls q) source t rules.bypass (is_blocked cmp rules calls q t) (cool_after rules.cooldown (last_grant cmp rules calls q))
      (facts.is_acceptable cmp rules calls q source t) (acceptable-record source t)
      (λ s. cool_step (is_local cmp rules q) rules.cooldown (is_held cmp calls q) (is_connected cmp rules calls q)
      (primary_sets cmp rules calls q) (secondary_sets cmp rules calls q) (is_stale cmp rules calls q)
      (last_grant cmp rules calls q) (address_of cmp rules calls q) source rules.bypass s)
