-- What a peer set makes of a key's record.
use Rattle.std.proofs.Common.{◌≡◌, ℕ, ◌+◌, ◌-◌, Bool, true, false, cond, ◌&&◌, ◌||◌, not, Option, Some, None, refl, sym, ap, ◌∙◌, arith}
use Rattle.std.proofs.lemmas.Bool.{false≢true, lt-ltb, ltb-true, ltb-false}
use Rattle.std.specs.Prelude.{is_some, nat_lt}
use Rattle.std.specs.Option.{option_map, option_or}
use Rattle.p2p_address.specs.declared.peer.Address.{Address as PeerAddress}
use Rattle.p2p_tracker_calls.specs.Grants.{Grant}
use Rattle.p2p_tracker_calls.specs.Lives.{is_change}
use Rattle.p2p_tracker_directory.specs.Recorded.{Recorded, is_inert}
use Rattle.p2p_tracker_directory.specs.Stands.{status_of}
use Rattle.p2p_tracker_directory.specs.Tracked.{one_if, enrolled, retired}
use Rattle.p2p_tracker_directory.proofs.Steps.{own, peer, and_swap}

-- nothing was counted
none_of : (n m : ℕ) → (nat_lt 0 n || nat_lt 0 m) ≡ false → (n ≡ 0) × (m ≡ 0)
none_of n m e = at (nat_lt 0 n) refl e
  where
    at : (b : Bool) → nat_lt 0 n ≡ b → (b || nat_lt 0 m) ≡ false → (n ≡ 0) × (m ≡ 0)
    at true f h = absurd (false≢true (sym h))
    at false f h = let first = ltb-false 0 n f in let second = ltb-false 0 m h in (omega arith, omega arith)

-- who was in a set and leaves none, or comes into one, is in a set
stays_in : (n m : ℕ) (p s : Bool) → (nat_lt 0 n || nat_lt 0 m) ≡ true → (nat_lt 0 (n + one_if p) || nat_lt 0 (m + one_if s)) ≡ true
stays_in n m p s e = at (nat_lt 0 n) refl e
  where
    right : (b : Bool) → (b || true) ≡ true
    right true = refl
    right false = refl

    at : (b : Bool) → nat_lt 0 n ≡ b → (b || nat_lt 0 m) ≡ true → (nat_lt 0 (n + one_if p) || nat_lt 0 (m + one_if s)) ≡ true
    at true f h = let first = ltb-true 0 n f in ap (λ b. b || nat_lt 0 (m + one_if s)) (lt-ltb 0 (n + one_if p) (omega arith))
    at false f h = let second = ltb-true 0 m h in ap (λ b. nat_lt 0 (n + one_if p) || b) (lt-ltb 0 (m + one_if s) (omega arith)) ∙ right (nat_lt 0 (n + one_if p))

comes_in : (p s : Bool) → (p || s) ≡ true → (nat_lt 0 (0 + one_if p) || nat_lt 0 (0 + one_if s)) ≡ true
comes_in true s e = refl
comes_in false true e = refl
comes_in false false e = absurd (false≢true e)

-- the own key's record only counts
own_enrolled : (n m : ℕ) (given : Option PeerAddress) (p s : Bool) → enrolled (Some (own n m)) given p s ≡ Some (own (n + one_if p) (m + one_if s))
unfolding own
own_enrolled n m None p s = refl
own_enrolled n m (Some a) p s = refl

minus_none : (n : ℕ) → n ≡ n - one_if false
minus_none n = omega arith

own_retired : (n m : ℕ) (p s : Bool) → retired (Some (own n m)) p s ≡ Some (own (n - one_if p) (m - one_if s))
unfolding own
own_retired n m true s = refl
own_retired n m false true = refl
own_retired n m false false = ap (λ x. Some (own x m)) (minus_none n) ∙ ap (λ x. Some (own (n - one_if false) x)) (minus_none m)

peer_enrolled : (cooldown n m : ℕ) (held joined stale : Bool) (g : Option Grant) (a : PeerAddress) (given : Option PeerAddress) (p s : Bool)
    → enrolled (Some (peer cooldown held joined n m stale g a)) given p s
    ≡ option_map (peer cooldown held joined (n + one_if p) (m + one_if s) ((is_change given (Some a) && held) || stale) g) (option_or given (Some a))
unfolding peer
peer_enrolled cooldown n m held joined stale g a None p s = refl
peer_enrolled cooldown n m held joined stale g a (Some b) p s =
    ap (λ x. Some (peer cooldown held joined (n + one_if p) (m + one_if s) (x || stale) g b)) (sym (and_swap (is_change (Some b) (Some a)) held joined))

pub needed_if : (x held joined : Bool) (r : Recorded) → cond (not x && is_inert (status_of held joined)) None (Some r) ≡ cond (x || held) (Some r) None
needed_if true held joined r = refl
needed_if false true true r = refl
needed_if false true false r = refl
needed_if false false joined r = refl

peer_retired : (cooldown n m : ℕ) (held joined stale : Bool) (g : Option Grant) (a : PeerAddress) (p s : Bool)
    → ((nat_lt 0 n || nat_lt 0 m) || held) ≡ true
    → retired (Some (peer cooldown held joined n m stale g a)) p s
    ≡ cond ((nat_lt 0 (n - one_if p) || nat_lt 0 (m - one_if s)) || held) (Some (peer cooldown held joined (n - one_if p) (m - one_if s) stale g a)) None
unfolding peer
peer_retired cooldown n m held joined stale g a true s h =
    needed_if (nat_lt 0 (n - 1) || nat_lt 0 (m - one_if s)) held joined (peer cooldown held joined (n - 1) (m - one_if s) stale g a)
peer_retired cooldown n m held joined stale g a false true h =
    needed_if (nat_lt 0 (n - 0) || nat_lt 0 (m - 1)) held joined (peer cooldown held joined (n - 0) (m - 1) stale g a)
peer_retired cooldown n m held joined stale g a false false h =
    sym (ap (λ b. cond b (Some (peer cooldown held joined n m stale g a)) None) h)
    ∙ ap (λ x. cond ((nat_lt 0 x || nat_lt 0 m) || held) (Some (peer cooldown held joined x m stale g a)) None) (minus_none n)
    ∙ ap (λ x. cond ((nat_lt 0 (n - one_if false) || nat_lt 0 x) || held) (Some (peer cooldown held joined (n - one_if false) x stale g a)) None) (minus_none m)

pub or_false : (a b : Bool) → (a || b) ≡ false → (a ≡ false) × (b ≡ false)
or_false true b e = absurd (false≢true (sym e))
or_false false b e = (refl, e)

or_right : (a b : Bool) → b ≡ true → (a || b) ≡ true
or_right true b e = refl
or_right false b e = e

still_alive : (n m : ℕ) (held p s : Bool) → ((nat_lt 0 n || nat_lt 0 m) || held) ≡ true → ((nat_lt 0 (n + one_if p) || nat_lt 0 (m + one_if s)) || held) ≡ true
still_alive n m held p s e = at (nat_lt 0 n || nat_lt 0 m) refl e
  where
    at : (b : Bool) → (nat_lt 0 n || nat_lt 0 m) ≡ b → (b || held) ≡ true → ((nat_lt 0 (n + one_if p) || nat_lt 0 (m + one_if s)) || held) ≡ true
    at true f h = ap (λ b. b || held) (stays_in n m p s f)
    at false f h = or_right (nat_lt 0 (n + one_if p) || nat_lt 0 (m + one_if s)) held h

nobody : (b : Bool) (F : PeerAddress → Recorded) → None ≡ option_map F (cond b None None)
nobody true F = refl
nobody false F = refl

newcomer : (cooldown n m : ℕ) (joined stale : Bool) (g : Option Grant) (b : PeerAddress) (p s : Bool) → n ≡ 0 → m ≡ 0 → stale ≡ false → g ≡ None
    → enrolled None (Some b) p s ≡ Some (peer cooldown false joined (n + one_if p) (m + one_if s) stale g b)
unfolding peer
newcomer cooldown n m joined stale g b p s en em es eg =
    ap (λ x. Some (peer cooldown false joined (x + one_if p) (0 + one_if s) false None b)) (sym en)
    ∙ ap (λ x. Some (peer cooldown false joined (n + one_if p) (x + one_if s) false None b)) (sym em)
    ∙ ap (λ x. Some (peer cooldown false joined (n + one_if p) (m + one_if s) x None b)) (sym es)
    ∙ ap (λ x. Some (peer cooldown false joined (n + one_if p) (m + one_if s) stale x b)) (sym eg)

unmarked : (stale held : Bool) → (stale ≡ true → held ≡ true) → held ≡ false → stale ≡ false
unmarked true held h e = sym (h refl) ∙ e
unmarked false held h e = refl

-- a record without a life, and the one that a set begins
begun : (cooldown n m : ℕ) (held joined stale : Bool) (g : Option Grant) (given : Option PeerAddress) (p s : Bool)
    → ((nat_lt 0 n || nat_lt 0 m) || held) ≡ false → (((nat_lt 0 n || nat_lt 0 m) || held) ≡ false → g ≡ None) → (stale ≡ true → held ≡ true) → is_some given ≡ (p || s)
    → enrolled None given p s
    ≡ option_map (peer cooldown held joined (n + one_if p) (m + one_if s) ((is_change given None && held) || stale) (cond ((nat_lt 0 (n + one_if p) || nat_lt 0 (m + one_if s)) || held) g None))
    (cond (((nat_lt 0 (n + one_if p) || nat_lt 0 (m + one_if s)) || held) && true) (option_or given None) None)
begun cooldown n m held joined stale g None p s d k t i =
    nobody (((nat_lt 0 (n + one_if p) || nat_lt 0 (m + one_if s)) || held) && true)
    (peer cooldown held joined (n + one_if p) (m + one_if s) ((false && held) || stale) (cond ((nat_lt 0 (n + one_if p) || nat_lt 0 (m + one_if s)) || held) g None))
begun cooldown n m true joined stale g (Some b) p s d k t i = absurd (false≢true (sym (or_false (nat_lt 0 n || nat_lt 0 m) true d).1))
begun cooldown n m false joined stale g (Some b) p s d k t i =
    let counts = none_of n m (or_false (nat_lt 0 n || nat_lt 0 m) false d).0 in
    let alive : ((nat_lt 0 (n + one_if p) || nat_lt 0 (m + one_if s)) || false) ≡ true =
    ap (λ x. (nat_lt 0 (x + one_if p) || nat_lt 0 (m + one_if s)) || false) counts.0 ∙ (ap (λ x. (nat_lt 0 (0 + one_if p) || nat_lt 0 (x + one_if s)) || false) counts.1
    ∙ ap (λ x. x || false) (comes_in p s (sym i))) in
    newcomer cooldown n m joined stale g b p s counts.0 counts.1 (unmarked stale false t refl) (k d)
    ∙ sym (ap (λ x. option_map (peer cooldown false joined (n + one_if p) (m + one_if s) stale (cond x g None)) (cond (x && true) (Some b) None)) alive)

-- a set that is new
pub enrol_step : (local held : Bool) (cooldown n m : ℕ) (joined stale : Bool) (g : Option Grant) (a given : Option PeerAddress) (p s : Bool)
    → (local ≡ false → ((nat_lt 0 n || nat_lt 0 m) || held) ≡ is_some a) → (((nat_lt 0 n || nat_lt 0 m) || held) ≡ false → g ≡ None)
    → (stale ≡ true → held ≡ true) → is_some given ≡ (p || s)
    → enrolled (cond local (Some (own n m)) (option_map (peer cooldown held joined n m stale g) a)) given p s
    ≡ cond local (Some (own (n + one_if p) (m + one_if s)))
    (option_map (peer cooldown held joined (n + one_if p) (m + one_if s) ((is_change given a && held) || stale) (cond ((nat_lt 0 (n + one_if p) || nat_lt 0 (m + one_if s)) || held) g None))
    (cond (((nat_lt 0 (n + one_if p) || nat_lt 0 (m + one_if s)) || held) && not local) (option_or given a) None))
enrol_step true held cooldown n m joined stale g a given p s h k t i = own_enrolled n m given p s
enrol_step false held cooldown n m joined stale g (Some a) given p s h k t i =
    peer_enrolled cooldown n m held joined stale g a given p s
    ∙ sym (ap (λ x. option_map (peer cooldown held joined (n + one_if p) (m + one_if s) ((is_change given (Some a) && held) || stale) (cond x g None)) (cond (x && true) (option_or given (Some a)) None))
    (still_alive n m held p s (h refl)))
enrol_step false held cooldown n m joined stale g None given p s h k t i = begun cooldown n m held joined stale g given p s (h refl) k t i

left_alive : (alive : Bool) (F : Option Grant → PeerAddress → Recorded) (g : Option Grant) (a : PeerAddress)
    → cond alive (Some (F g a)) None ≡ option_map (F (cond alive g None)) (cond (alive && true) (Some a) None)
left_alive true F g a = refl
left_alive false F g a = refl

-- a set that is kept no longer
pub retire_step : (local held : Bool) (cooldown n m : ℕ) (joined stale : Bool) (g : Option Grant) (a : Option PeerAddress) (p s : Bool)
    → (local ≡ false → ((nat_lt 0 n || nat_lt 0 m) || held) ≡ is_some a)
    → retired (cond local (Some (own n m)) (option_map (peer cooldown held joined n m stale g) a)) p s
    ≡ cond local (Some (own (n - one_if p) (m - one_if s)))
    (option_map (peer cooldown held joined (n - one_if p) (m - one_if s) stale (cond ((nat_lt 0 (n - one_if p) || nat_lt 0 (m - one_if s)) || held) g None))
    (cond (((nat_lt 0 (n - one_if p) || nat_lt 0 (m - one_if s)) || held) && not local) a None))
retire_step true held cooldown n m joined stale g a p s h = own_retired n m p s
retire_step false held cooldown n m joined stale g (Some a) p s h =
    peer_retired cooldown n m held joined stale g a p s (h refl)
    ∙ left_alive ((nat_lt 0 (n - one_if p) || nat_lt 0 (m - one_if s)) || held) (peer cooldown held joined (n - one_if p) (m - one_if s) stale) g a
retire_step false held cooldown n m joined stale g None p s h =
    nobody (((nat_lt 0 (n - one_if p) || nat_lt 0 (m - one_if s)) || held) && true)
    (peer cooldown held joined (n - one_if p) (m - one_if s) stale (cond ((nat_lt 0 (n - one_if p) || nat_lt 0 (m - one_if s)) || held) g None))
