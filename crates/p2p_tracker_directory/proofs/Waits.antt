-- Of whom a directory has a record, and from when a peer is listed for a dial, by the calls.
use Rattle.std.proofs.Common.{◌≡◌, ℕ, Bool, true, false, cond, ◌&&◌, ◌||◌, not, List, Option, Some, None, refl, sym, ap, ◌∙◌}
use Rattle.std.proofs.lemmas.Bool.{false≢true}
use Rattle.std.specs.Prelude.{is_some, nat_lt}
use Rattle.std.specs.Option.{option_map}
use Rattle.std.specs.Map.{lookup}
use Rattle.std.specs.BTreeMap.{is_at}
use Rattle.std.specs.declared.cmp.Ordering.{Ordering}
use Rattle.p2p_address.specs.declared.peer.Address.{Address as PeerAddress}
use Rattle.p2p_tracker_calls.specs.declared.call.Call.{Call}
use Rattle.p2p_tracker_calls.specs.Sets.{is_primary, primary_sets, secondary_sets}
use Rattle.p2p_tracker_calls.specs.Grants.{Grant, is_held}
use Rattle.p2p_tracker_calls.specs.Blocks.{is_local}
use Rattle.p2p_tracker_calls.specs.Lives.{is_alive, address_of, last_grant, is_stale, is_connected, next_after}
use Rattle.p2p_tracker_directory.specs.Recorded.{Recorded, is_inert}
use Rattle.p2p_tracker_directory.specs.Stands.{Kept, StandsFor, status_of, record_of}
use Rattle.p2p_tracker_directory.specs.Waiting.{waits_from_in, next_dial_of}
use Rattle.p2p_tracker_directory.proofs.Counts.{is_tracked-counts, is_primary-count}
use Rattle.p2p_tracker_directory.proofs.Steps.{own, peer}

recorded_step : (local alive : Bool) (r : Recorded) (f : PeerAddress → Recorded) (a : Option PeerAddress) → (local ≡ false → alive ≡ is_some a)
    → is_some (cond local (Some r) (option_map f a)) ≡ (local || alive)
recorded_step true alive r f a h = refl
recorded_step false alive r f None h = sym (h refl)
recorded_step false alive r f (Some x) h = sym (h refl)

unheld : (held joined : Bool) → is_inert (status_of held joined) ≡ not held
unheld true true = refl
unheld true false = refl
unheld false joined = refl

-- a key that is in no set is primary in none
unprimary : (n m : Bool) (held : Bool) → ((n || m) || held) ≡ false → n ≡ false
unprimary true m held e = absurd (false≢true (sym e))
unprimary false m held e = refl

waits_step : (local held primary : Bool) (cooldown n m : ℕ) (joined stale : Bool) (g : Option Grant) (a : Option PeerAddress)
    → primary ≡ nat_lt 0 n → (local ≡ false → ((nat_lt 0 n || nat_lt 0 m) || held) ≡ is_some a)
    → waits_from_in (cond local (Some (own n m)) (option_map (peer cooldown held joined n m stale g) a)) ≡ cond (not local && primary && not held) (Some (next_after cooldown g)) None
unfolding peer own
waits_step true held primary cooldown n m joined stale g a p h = refl
waits_step false held primary cooldown n m joined stale g (Some a) p h =
    ap (λ b. cond (nat_lt 0 n && b) (Some (next_after cooldown g)) None) (unheld held joined)
    ∙ ap (λ b. cond (b && not held) (Some (next_after cooldown g)) None) (sym p)
waits_step false held primary cooldown n m joined stale g None p h =
    ap (λ b. cond (b && not held) (Some (next_after cooldown g)) None) (sym (p ∙ unprimary (nat_lt 0 n) (nat_lt 0 m) held (h refl)))

module _ {P : Type 0} {cmp : P → P → Ordering} {kept : Kept P} {calls : List (Call P)} (s : StandsFor cmp kept calls) (q : P) where
  pub recorded-known : is_some (lookup (is_at (cmp q)) kept.records) ≡ (is_local cmp kept.rules q || is_alive cmp kept.rules calls q)
  unfolding record_of peer own
  recorded-known =
      ap is_some (s.records q)
      ∙ recorded_step (is_local cmp kept.rules q) (is_alive cmp kept.rules calls q) (own (primary_sets cmp kept.rules calls q) (secondary_sets cmp kept.rules calls q))
      (peer kept.rules.cooldown (is_held cmp calls q) (is_connected cmp kept.rules calls q) (primary_sets cmp kept.rules calls q) (secondary_sets cmp kept.rules calls q) (is_stale cmp kept.rules calls q) (last_grant cmp kept.rules calls q))
      (address_of cmp kept.rules calls q) (s.addressed q)

  pub waits-known : waits_from_in (lookup (is_at (cmp q)) kept.records) ≡ next_dial_of cmp kept.rules calls q
  unfolding record_of peer own
  waits-known =
      ap waits_from_in (s.records q)
      ∙ waits_step (is_local cmp kept.rules q) (is_held cmp calls q) (is_primary cmp kept.rules calls q) kept.rules.cooldown (primary_sets cmp kept.rules calls q) (secondary_sets cmp kept.rules calls q)
      (is_connected cmp kept.rules calls q) (is_stale cmp kept.rules calls q) (last_grant cmp kept.rules calls q) (address_of cmp kept.rules calls q) (is_primary-count cmp kept.rules calls q)
      (λ other. ap (λ b. b || is_held cmp calls q) (sym (is_tracked-counts cmp kept.rules calls q)) ∙ s.addressed q other)
