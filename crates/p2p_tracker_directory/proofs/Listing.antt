-- Who stands in what a directory lists, as the calls tell.
use Rattle.std.proofs.Common.{◌≡◌, ℕ, Bool, true, false, cond, ◌&&◌, ◌||◌, not, List, [], ◌∷◌, Option, Some, None, refl, sym, ap, ◌∙◌}
use Rattle.std.proofs.lemmas.Bool.{false≢true}
use Rattle.std.specs.Prelude.{is_some, nat_lt}
use Rattle.std.specs.List.{filter}
use Rattle.std.specs.List.Sorted.{IsStrictlySortedBy}
use Rattle.std.specs.Option.{option_map}
use Rattle.std.specs.Cmp.{IsTotalOrder}
use Rattle.std.specs.Map.{keys_of}
use Rattle.std.specs.declared.cmp.Ordering.{Ordering}
use Rattle.p2p_base.specs.Sorted.{sorted_once}
use Rattle.p2p_address.specs.declared.peer.Address.{Address as PeerAddress}
use Rattle.p2p_tracker_calls.specs.declared.call.Call.{Call}
use Rattle.p2p_tracker_calls.specs.Sets.{PeerSet, latest_index, is_among, is_tracked, is_primary, primary_sets, secondary_sets}
use Rattle.p2p_tracker_calls.specs.Peers.{newest_of}
use Rattle.p2p_tracker_calls.specs.Grants.{Grant, is_held}
use Rattle.p2p_tracker_calls.specs.Blocks.{is_local, lasts_at, is_blocked}
use Rattle.p2p_tracker_calls.specs.Lives.{address_of, last_grant, is_stale, is_connected}
use Rattle.p2p_tracker_directory.specs.Stands.{Kept, StandsFor, record_of}
use Rattle.p2p_tracker_directory.specs.Tracked.{passes}
use Rattle.p2p_tracker_directory.proofs.Counts.{is_tracked-counts, is_primary-count}
use Rattle.p2p_tracker_directory.proofs.Entries.{among-kept}
use Rattle.p2p_tracker_directory.proofs.Steps.{own, peer}
use Rattle.p2p_tracker_directory.proofs.Tracking.{or_false}

unlisted : (n m : ℕ) (held : Bool) → ((nat_lt 0 n || nat_lt 0 m) || held) ≡ false → (false ≡ nat_lt 0 n) × (false ≡ nat_lt 0 m)
unlisted n m held e = let both = or_false (nat_lt 0 n) (nat_lt 0 m) (or_false (nat_lt 0 n || nat_lt 0 m) held e).0 in (sym both.0, sym both.1)

primary_step : (local held : Bool) (cooldown n m : ℕ) (joined stale : Bool) (g : Option Grant) (a : Option PeerAddress)
    → (local ≡ false → ((nat_lt 0 n || nat_lt 0 m) || held) ≡ is_some a)
    → passes (λ r. nat_lt 0 r.primary) (cond local (Some (own n m)) (option_map (peer cooldown held joined n m stale g) a)) ≡ nat_lt 0 n
unfolding own peer
primary_step true held cooldown n m joined stale g a h = refl
primary_step false held cooldown n m joined stale g (Some a) h = refl
primary_step false held cooldown n m joined stale g None h = (unlisted n m held (h refl)).0

others : (a b : Bool) → (not a && b) ≡ ((a || b) && not a)
others true b = refl
others false true = refl
others false false = refl

unlisted_other : (a b held : Bool) → ((a || b) || held) ≡ false → false ≡ ((a || b) && not a)
unlisted_other true b held e = refl
unlisted_other false true held e = absurd (false≢true (sym e))
unlisted_other false false held e = refl

secondary_step : (local held : Bool) (cooldown n m : ℕ) (joined stale : Bool) (g : Option Grant) (a : Option PeerAddress)
    → (local ≡ false → ((nat_lt 0 n || nat_lt 0 m) || held) ≡ is_some a)
    → passes (λ r. not (nat_lt 0 r.primary) && nat_lt 0 r.secondary) (cond local (Some (own n m)) (option_map (peer cooldown held joined n m stale g) a))
    ≡ ((nat_lt 0 n || nat_lt 0 m) && not (nat_lt 0 n))
unfolding own peer
secondary_step true held cooldown n m joined stale g a h = others (nat_lt 0 n) (nat_lt 0 m)
secondary_step false held cooldown n m joined stale g (Some a) h = others (nat_lt 0 n) (nat_lt 0 m)
secondary_step false held cooldown n m joined stale g None h = unlisted_other (nat_lt 0 n) (nat_lt 0 m) held (h refl)

passes-lasts : (t : ℕ) (b : Option ℕ) → passes (λ end. nat_lt t end) b ≡ lasts_at b t
passes-lasts t None = refl
passes-lasts t (Some end) = refl

module _ {P : Type 0} {cmp : P → P → Ordering} (o : IsTotalOrder cmp) {kept : Kept P} {calls : List (Call P)} (s : StandsFor cmp kept calls) where
  module _ (ordered : IsStrictlySortedBy cmp (keys_of kept.records)) (k : List P) (q : P) where
    pub primary-kept : k ≡ sorted_once cmp (keys_of (filter (λ e. nat_lt 0 e.1.primary) kept.records)) → is_among cmp k q ≡ is_primary cmp kept.rules calls q
    unfolding record_of peer own
    primary-kept e =
        among-kept o (λ p r. nat_lt 0 r.primary) q kept.records k ordered (λ p r h. refl) e
        ∙ (ap (passes (λ r. nat_lt 0 r.primary)) (s.records q)
        ∙ (primary_step (is_local cmp kept.rules q) (is_held cmp calls q) kept.rules.cooldown (primary_sets cmp kept.rules calls q) (secondary_sets cmp kept.rules calls q)
        (is_connected cmp kept.rules calls q) (is_stale cmp kept.rules calls q) (last_grant cmp kept.rules calls q) (address_of cmp kept.rules calls q)
        (λ l. ap (λ b. b || is_held cmp calls q) (sym (is_tracked-counts cmp kept.rules calls q)) ∙ s.addressed q l)
        ∙ sym (is_primary-count cmp kept.rules calls q)))

    pub secondary-kept : k ≡ sorted_once cmp (keys_of (filter (λ e. not (nat_lt 0 e.1.primary) && nat_lt 0 e.1.secondary) kept.records))
        → is_among cmp k q ≡ (is_tracked cmp kept.rules calls q && not (is_primary cmp kept.rules calls q))
    unfolding record_of peer own
    secondary-kept e =
        among-kept o (λ p r. not (nat_lt 0 r.primary) && nat_lt 0 r.secondary) q kept.records k ordered (λ p r h. refl) e
        ∙ (ap (passes (λ r. not (nat_lt 0 r.primary) && nat_lt 0 r.secondary)) (s.records q)
        ∙ (secondary_step (is_local cmp kept.rules q) (is_held cmp calls q) kept.rules.cooldown (primary_sets cmp kept.rules calls q) (secondary_sets cmp kept.rules calls q)
        (is_connected cmp kept.rules calls q) (is_stale cmp kept.rules calls q) (last_grant cmp kept.rules calls q) (address_of cmp kept.rules calls q)
        (λ l. ap (λ b. b || is_held cmp calls q) (sym (is_tracked-counts cmp kept.rules calls q)) ∙ s.addressed q l)
        ∙ sym (ap (λ b. b && not (is_primary cmp kept.rules calls q)) (is_tracked-counts cmp kept.rules calls q)
        ∙ ap (λ b. (nat_lt 0 (primary_sets cmp kept.rules calls q) || nat_lt 0 (secondary_sets cmp kept.rules calls q)) && not b) (is_primary-count cmp kept.rules calls q))))

  pub blocked-kept : (k : List P) (q : P) (t : ℕ) → k ≡ sorted_once cmp (keys_of (filter (λ e. nat_lt t e.1) kept.blocks)) → is_among cmp k q ≡ is_blocked cmp kept.rules calls q t
  blocked-kept k q t e =
      among-kept o (λ p end. nat_lt t end) q kept.blocks k s.ordered (λ p end h. refl) e
      ∙ (ap (passes (λ end. nat_lt t end)) (s.blocks q) ∙ passes-lasts t _)

-- the newest set's index
pub newest-index : {P : Type 0} (sets : List (PeerSet P)) (x : PeerSet P) → Some x ≡ newest_of sets → Some x.index ≡ latest_index sets
newest-index {P} [] x h = absurd (false≢true (sym (ap is_some h)))
newest-index {P} (y ∷ ys) x h = ap (option_map (λ (s : PeerSet P). s.index)) h
