-- The sets that are kept once one more is accepted, and what that makes of a key's record.
use Rattle.std.proofs.Common.{◌≡◌, ℕ, zero, suc, ◌+◌, ◌-◌, ◌≤◌, Bool, true, false, cond, ◌&&◌, ◌||◌, not, List, [], ◌∷◌, ◌++◌, length, take, Option, Some, None, refl, sym, ap, ◌∙◌, subst, arith}
use Rattle.std.proofs.lemmas.Bool.{false≢true, lt-ltb, ltb-true}
use Rattle.std.proofs.Math.Seq.{take-append_seam}
use Rattle.std.specs.Prelude.{is_some, nat_lt}
use Rattle.std.specs.Option.{option_map, option_or}
use Rattle.std.specs.Map.{lookup}
use Rattle.std.specs.BTreeMap.{is_at}
use Rattle.std.proofs.lemmas.Map.Made.{is_some-lookup}
use Rattle.std.specs.declared.cmp.Ordering.{Ordering}
use Rattle.p2p_address.specs.declared.peer.Address.{Address as PeerAddress}
use Rattle.p2p_tracker_calls.specs.declared.call.Call.{Call}
use Rattle.p2p_tracker_calls.specs.declared.call.Call.TheVariants as call
use Rattle.p2p_tracker_calls.specs.Rules.{Rules}
use Rattle.p2p_tracker_calls.specs.Sets.{PeerSet, how_many, is_above, set_of, only_secondary, is_primary_in, is_secondary_in, accepted_sets, kept_sets, is_tracked, primary_sets, secondary_sets}
use Rattle.p2p_tracker_calls.specs.Grants.{Grant, is_held}
use Rattle.p2p_tracker_calls.specs.Blocks.{is_local}
use Rattle.p2p_tracker_calls.specs.Lives.{is_alive, given_by, address_of, last_grant, is_stale, is_connected, is_change}
use Rattle.p2p_tracker_directory.specs.Recorded.{Recorded}
use Rattle.p2p_tracker_directory.specs.Tracked.{one_if, enrolled, retired}
use Rattle.p2p_tracker_directory.specs.Stands.{record_of}
use Rattle.p2p_tracker_directory.proofs.Counts.{is_tracked-counts}
use Rattle.p2p_tracker_directory.proofs.Steps.{own, peer, IsAddressed, stale-held}
use Rattle.p2p_tracker_directory.proofs.Tracking.{enrol_step, retire_step}

module _ {X : Type 0} where
  take_less : (n : ℕ) (xs : List X) → take n (take (suc n) xs) ≡ take n xs
  take_less zero xs = refl
  take_less (suc n) [] = refl
  take_less (suc n) (x ∷ xs) = ap (λ ys. x ∷ ys) (take_less n xs)

  -- what is kept no longer says nothing of what is kept after one more
  pub take-push : (n : ℕ) (x : X) (xs : List X) → take n (x ∷ take n xs) ≡ take n (x ∷ xs)
  take-push zero x xs = refl
  take-push (suc n) x xs = ap (λ ys. x ∷ ys) (take_less n xs)

  -- there is room for one more
  pub take-fits : (n : ℕ) (xs : List X) → length xs ≤ n → take n xs ≡ xs
  take-fits zero [] h = refl
  take-fits zero (x ∷ xs) h = absurd (omega (arith, h))
  take-fits (suc n) [] h = refl
  take-fits (suc n) (x ∷ xs) h = ap (λ ys. x ∷ ys) (take-fits n xs (omega (arith, h)))

  -- there is none, and the last goes
  pub take-init : (n : ℕ) (xs : List X) (last : X) → length xs ≡ n → take n (xs ++ last ∷ []) ≡ xs
  take-init n xs last h = subst (λ k. take k (xs ++ last ∷ []) ≡ xs) h (take-append_seam xs (last ∷ []))

  pub how_many-push : (test : X → Bool) (x : X) (xs : List X) → how_many test (x ∷ xs) ≡ how_many test xs + one_if (test x)
  unfolding how_many
  how_many-push test x xs = at (test x)
    where
      at : (b : Bool) → cond b (suc (how_many test xs)) (how_many test xs) ≡ how_many test xs + one_if b
      at true = omega arith
      at false = omega arith

  pub how_many-last : (test : X → Bool) (xs : List X) (last : X) → how_many test (xs ++ last ∷ []) ≡ how_many test xs + one_if (test last)
  how_many-last test [] last = how_many-push test last []
  how_many-last test (x ∷ xs) last =
      how_many-push test x (xs ++ last ∷ []) ∙ (ap (λ k. k + one_if (test x)) (how_many-last test xs last)
      ∙ (turned (how_many test xs) (one_if (test last)) (one_if (test x)) ∙ ap (λ k. k + one_if (test last)) (sym (how_many-push test x xs))))
    where
      turned : (a b c : ℕ) → (a + b) + c ≡ (a + c) + b
      turned a b c = omega arith

  -- a count is at most the number of sets
  pub how_many-least : (test : X → Bool) (xs : List X) → how_many test xs ≤ length xs
  unfolding how_many
  how_many-least test [] = omega arith
  how_many-least test (x ∷ xs) = at (test x) (how_many-least test xs)
    where
      at : (b : Bool) → how_many test xs ≤ length xs → cond b (suc (how_many test xs)) (how_many test xs) ≤ length (x ∷ xs)
      at true least = omega (arith, least)
      at false least = omega (arith, least)

  -- a count over the sets that are kept, where there was room for one more
  pub how_many-fits : (test : X → Bool) (n : ℕ) (x : X) (xs : List X) → length (x ∷ xs) ≤ n → how_many test (take n (x ∷ xs)) ≡ (how_many test xs + one_if (test x)) - one_if false
  how_many-fits test n x xs h = ap (how_many test) (take-fits n (x ∷ xs) h) ∙ (how_many-push test x xs ∙ less (how_many test xs + one_if (test x)))
    where
      less : (k : ℕ) → k ≡ k - 0
      less k = omega arith

  -- and where the last one went
  pub how_many-over : (test : X → Bool) (n : ℕ) (x : X) (xs rest : List X) (last : X) → x ∷ xs ≡ rest ++ last ∷ [] → length rest ≡ n
      → how_many test (take n (x ∷ xs)) ≡ (how_many test xs + one_if (test x)) - one_if (test last)
  how_many-over test n x xs rest last e h =
      ap (λ ys. how_many test (take n ys)) e ∙ (ap (how_many test) (take-init n rest last h)
      ∙ less (how_many test xs + one_if (test x)) (how_many test rest) (one_if (test last)) (sym (how_many-push test x xs) ∙ (ap (how_many test) e ∙ how_many-last test rest last)))
    where
      less : (a b c : ℕ) → a ≡ b + c → b ≡ a - c
      less a b c k = omega (arith, k)

within : (held : Bool) (n m k l : ℕ) (p s : Bool) → (((nat_lt 0 (n - k) || nat_lt 0 (m - l)) || held) ≡ true) → ((nat_lt 0 n || nat_lt 0 m) || held) ≡ true
within held n m k l p s e = at (nat_lt 0 (n - k)) (nat_lt 0 (m - l)) refl refl e
  where
    right : (a b : Bool) → b ≡ true → (a || b) ≡ true
    right true b h = refl
    right false b h = h

    at : (a b : Bool) → nat_lt 0 (n - k) ≡ a → nat_lt 0 (m - l) ≡ b → ((a || b) || held) ≡ true → ((nat_lt 0 n || nat_lt 0 m) || held) ≡ true
    at true b f g h = let less = ltb-true 0 (n - k) f in ap (λ x. (x || nat_lt 0 m) || held) (lt-ltb 0 n (omega (arith, less)))
    at false true f g h = let less = ltb-true 0 (m - l) g in ap (λ x. x || held) (right (nat_lt 0 n) (nat_lt 0 m) (lt-ltb 0 m (omega (arith, less))))
    at false false f g h = right (nat_lt 0 n || nat_lt 0 m) held h

-- who is tracked or held after a set has an address before or by it
told_some : (held : Bool) (n m : ℕ) (p s : Bool) (a given : Option PeerAddress) → ((nat_lt 0 n || nat_lt 0 m) || held) ≡ is_some a → is_some given ≡ (p || s)
    → ((nat_lt 0 (n + one_if p) || nat_lt 0 (m + one_if s)) || held) ≡ true → is_some (option_or given a) ≡ true
told_some held n m p s a (Some b) h i e = refl
told_some held n m true s a None h i e = absurd (false≢true i)
told_some held n m false true a None h i e = absurd (false≢true i)
told_some held n m false false a None h i e =
    sym h ∙ (ap (λ x. (nat_lt 0 x || nat_lt 0 m) || held) (plus n) ∙ ap (λ x. (nat_lt 0 (n + 0) || nat_lt 0 x) || held) (plus m) ∙ e)
  where
    plus : (k : ℕ) → k ≡ k + 0
    plus k = omega arith

told_alive : (alive local : Bool) (x : Option PeerAddress) → local ≡ false → (alive ≡ true → is_some x ≡ true) → alive ≡ is_some (cond (alive && not local) x None)
told_alive alive true x o h = absurd (false≢true (sym o))
told_alive false false x o h = refl
told_alive true false x o h = sym (h refl)

once : (local before after : Bool) (F : Option Grant → PeerAddress → Recorded) (r : Recorded) (g : Option Grant) (x : Option PeerAddress) → (after ≡ true → before ≡ true)
    → cond local (Some r) (option_map (F (cond after (cond before g None) None)) (cond (after && not local) (cond (before && not local) x None) None))
    ≡ cond local (Some r) (option_map (F (cond after g None)) (cond (after && not local) x None))
once true before after F r g x h = refl
once false before false F r g x h = refl
once false true true F r g x h = refl
once false false true F r g x h = absurd (false≢true (h refl))

-- the record law of a set over plain variables: the new set first, and then the one that is kept no longer
track_step : (local tracked held : Bool) (cooldown n m n2 m2 : ℕ) (joined stale : Bool) (g : Option Grant) (a given : Option PeerAddress) (p s ep es : Bool)
    → (local ≡ false → ((nat_lt 0 n || nat_lt 0 m) || held) ≡ is_some a) → (((nat_lt 0 n || nat_lt 0 m) || held) ≡ false → g ≡ None)
    → (stale ≡ true → held ≡ true) → is_some given ≡ (p || s)
    → n2 ≡ (n + one_if p) - one_if ep → m2 ≡ (m + one_if s) - one_if es → tracked ≡ (nat_lt 0 n2 || nat_lt 0 m2)
    → cond local (Some (own n2 m2)) (option_map (peer cooldown held joined n2 m2 ((is_change given a && held) || stale) (cond (tracked || held) g None))
    (cond ((tracked || held) && not local) (option_or given a) None))
    ≡ retired (enrolled (cond local (Some (own n m)) (option_map (peer cooldown held joined n m stale g) a)) given p s) ep es
track_step local tracked held cooldown n m n2 m2 joined stale g a given p s ep es h k t i en em et =
    let F : ℕ → ℕ → Option Grant → PeerAddress → Recorded = λ x y z w. peer cooldown held joined x y ((is_change given a && held) || stale) z w in
    let after : ℕ → ℕ → Bool = λ x y. (nat_lt 0 x || nat_lt 0 y) || held in
    let before : Bool = (nat_lt 0 (n + one_if p) || nat_lt 0 (m + one_if s)) || held in
    ap (λ b. cond local (Some (own n2 m2)) (option_map (F n2 m2 (cond (b || held) g None)) (cond ((b || held) && not local) (option_or given a) None))) et
    ∙ (ap (λ x. cond local (Some (own x m2)) (option_map (F x m2 (cond (after x m2) g None)) (cond (after x m2 && not local) (option_or given a) None))) en
    ∙ (ap (λ x. cond local (Some (own ((n + one_if p) - one_if ep) x)) (option_map (F ((n + one_if p) - one_if ep) x (cond (after ((n + one_if p) - one_if ep) x) g None)) (cond (after ((n + one_if p) - one_if ep) x && not local) (option_or given a) None))) em
    ∙ sym (ap (λ r. retired r ep es) (enrol_step local held cooldown n m joined stale g a given p s h k t i)
    ∙ (retire_step local held cooldown (n + one_if p) (m + one_if s) joined ((is_change given a && held) || stale) (cond before g None) (cond (before && not local) (option_or given a) None) ep es
    (λ o. told_alive before local (option_or given a) o (told_some held n m p s a given (h o) i))
    ∙ once local before (after ((n + one_if p) - one_if ep) ((m + one_if s) - one_if es)) (F ((n + one_if p) - one_if ep) ((m + one_if s) - one_if es)) (own ((n + one_if p) - one_if ep) ((m + one_if s) - one_if es)) g (option_or given a)
    (within held (n + one_if p) (m + one_if s) (one_if ep) (one_if es) p s)))))

some_or : {X : Type 0} (a b : Option X) → is_some (option_or a b) ≡ (is_some a || is_some b)
some_or None b = refl
some_or (Some x) b = refl

dead_grant : (alive : Bool) (g : Option Grant) → alive ≡ false → cond alive g None ≡ None
dead_grant true g e = absurd (false≢true (sym e))
dead_grant false g e = refl

module _ {P : Type 0} (cmp : P → P → Ordering) (rules : Rules P) where
  -- who is neither tracked nor held has no grant
  pub last_grant-dead : (calls : List (Call P)) (q : P) → is_alive cmp rules calls q ≡ false → last_grant cmp rules calls q ≡ None
  unfolding last_grant
  last_grant-dead [] q e = refl
  last_grant-dead (c ∷ calls) q e = dead_grant (is_alive cmp rules (c ∷ calls) q) _ e

module _ {P : Type 0} (cmp : P → P → Ordering) (rules : Rules P) (calls : List (Call P)) (index : ℕ) (primary secondary : List (P × PeerAddress)) where
  -- an accepted set comes before those that were kept, of which the last may go
  pub kept_sets-track : is_above index (accepted_sets cmp calls) ≡ true
      → kept_sets cmp rules (call.Track index primary secondary ∷ calls) ≡ take rules.max_sets (set_of cmp index primary secondary ∷ kept_sets cmp rules calls)
  unfolding kept_sets accepted_sets
  kept_sets-track e =
      ap (λ b. take rules.max_sets (cond b (set_of cmp index primary secondary ∷ accepted_sets cmp calls) (accepted_sets cmp calls))) e
      ∙ sym (take-push rules.max_sets (set_of cmp index primary secondary) (accepted_sets cmp calls))

  -- one that isn't accepted changes none of them
  pub kept_sets-refused : is_above index (accepted_sets cmp calls) ≡ false → kept_sets cmp rules (call.Track index primary secondary ∷ calls) ≡ kept_sets cmp rules calls
  unfolding kept_sets accepted_sets
  kept_sets-refused e = ap (λ b. take rules.max_sets (cond b (set_of cmp index primary secondary ∷ accepted_sets cmp calls) (accepted_sets cmp calls))) e

  module _ (q : P) (h : IsAddressed cmp rules calls q) where
    -- the key's record once the set is kept, and the one of the roles `ep` and `es` no longer
    pub record_of-track : (p s ep es : Bool) → is_some (given_by cmp (call.Track index primary secondary) calls q) ≡ (p || s)
        → primary_sets cmp rules (call.Track index primary secondary ∷ calls) q ≡ (primary_sets cmp rules calls q + one_if p) - one_if ep
        → secondary_sets cmp rules (call.Track index primary secondary ∷ calls) q ≡ (secondary_sets cmp rules calls q + one_if s) - one_if es
        → record_of cmp rules (call.Track index primary secondary ∷ calls) q
        ≡ retired (enrolled (record_of cmp rules calls q) (given_by cmp (call.Track index primary secondary) calls q) p s) ep es
    unfolding record_of address_of last_grant is_stale is_connected is_held peer own
    record_of-track p s ep es i en em =
        track_step (is_local cmp rules q) (is_tracked cmp rules (call.Track index primary secondary ∷ calls) q) (is_held cmp calls q) rules.cooldown
        (primary_sets cmp rules calls q) (secondary_sets cmp rules calls q)
        (primary_sets cmp rules (call.Track index primary secondary ∷ calls) q) (secondary_sets cmp rules (call.Track index primary secondary ∷ calls) q)
        (is_connected cmp rules calls q) (is_stale cmp rules calls q) (last_grant cmp rules calls q) (address_of cmp rules calls q)
        (given_by cmp (call.Track index primary secondary) calls q) p s ep es
        (λ o. ap (λ b. b || is_held cmp calls q) (sym (is_tracked-counts cmp rules calls q)) ∙ h o)
        (λ e. last_grant-dead cmp rules calls q (ap (λ b. b || is_held cmp calls q) (is_tracked-counts cmp rules calls q) ∙ e))
        (stale-held cmp rules calls q) i en em (is_tracked-counts cmp rules (call.Track index primary secondary ∷ calls) q)

    -- another peer that is tracked or held then has an address
    pub addressed-track : (p s ep es : Bool) → is_some (given_by cmp (call.Track index primary secondary) calls q) ≡ (p || s)
        → primary_sets cmp rules (call.Track index primary secondary ∷ calls) q ≡ (primary_sets cmp rules calls q + one_if p) - one_if ep
        → secondary_sets cmp rules (call.Track index primary secondary ∷ calls) q ≡ (secondary_sets cmp rules calls q + one_if s) - one_if es
        → IsAddressed cmp rules (call.Track index primary secondary ∷ calls) q
    unfolding address_of is_held
    addressed-track p s ep es i en em = λ o.
        let n = primary_sets cmp rules calls q in
        let m = secondary_sets cmp rules calls q in
        told_alive (is_tracked cmp rules (call.Track index primary secondary ∷ calls) q || is_held cmp calls q) (is_local cmp rules q)
        (option_or (given_by cmp (call.Track index primary secondary) calls q) (address_of cmp rules calls q)) o
        (λ e. told_some (is_held cmp calls q) n m p s (address_of cmp rules calls q) (given_by cmp (call.Track index primary secondary) calls q)
        (ap (λ b. b || is_held cmp calls q) (sym (is_tracked-counts cmp rules calls q)) ∙ h o) i
        (within (is_held cmp calls q) (n + one_if p) (m + one_if s) (one_if ep) (one_if es) p s
        (sym (ap (λ b. b || is_held cmp calls q) (is_tracked-counts cmp rules (call.Track index primary secondary ∷ calls) q
        ∙ (ap (λ x. nat_lt 0 x || nat_lt 0 (secondary_sets cmp rules (call.Track index primary secondary ∷ calls) q)) en
        ∙ ap (λ x. nat_lt 0 ((n + one_if p) - one_if ep) || nat_lt 0 x) em))) ∙ e)))

  -- an accepted set gives an address to exactly those who stand in it
  pub given_by-roles : (q : P) → is_above index (accepted_sets cmp calls) ≡ true
      → is_some (given_by cmp (call.Track index primary secondary) calls q)
      ≡ (is_primary_in cmp q (set_of cmp index primary secondary) || is_secondary_in cmp q (set_of cmp index primary secondary))
  given_by-roles q e =
      ap (λ b. is_some (cond b (option_or (lookup (λ p. is_at (cmp p) q) primary) (lookup (λ p. is_at (cmp p) q) (only_secondary cmp primary secondary))) None)) e
      ∙ (some_or (lookup (λ p. is_at (cmp p) q) primary) (lookup (λ p. is_at (cmp p) q) (only_secondary cmp primary secondary))
      ∙ (ap (λ b. b || is_some (lookup (λ p. is_at (cmp p) q) (only_secondary cmp primary secondary))) (is_some-lookup (λ p. is_at (cmp p) q) primary)
      ∙ ap (λ b. is_primary_in cmp q (set_of cmp index primary secondary) || b) (is_some-lookup (λ p. is_at (cmp p) q) (only_secondary cmp primary secondary))))

  -- how the counts change where there is room for the set
  pub primary_sets-fits : (q : P) → is_above index (accepted_sets cmp calls) ≡ true → length (set_of cmp index primary secondary ∷ kept_sets cmp rules calls) ≤ rules.max_sets
      → primary_sets cmp rules (call.Track index primary secondary ∷ calls) q
      ≡ (primary_sets cmp rules calls q + one_if (is_primary_in cmp q (set_of cmp index primary secondary))) - one_if false
  unfolding primary_sets
  primary_sets-fits q e h =
      ap (how_many (is_primary_in cmp q)) (kept_sets-track e)
      ∙ how_many-fits (is_primary_in cmp q) rules.max_sets (set_of cmp index primary secondary) (kept_sets cmp rules calls) h

  pub secondary_sets-fits : (q : P) → is_above index (accepted_sets cmp calls) ≡ true → length (set_of cmp index primary secondary ∷ kept_sets cmp rules calls) ≤ rules.max_sets
      → secondary_sets cmp rules (call.Track index primary secondary ∷ calls) q
      ≡ (secondary_sets cmp rules calls q + one_if (is_secondary_in cmp q (set_of cmp index primary secondary))) - one_if false
  unfolding secondary_sets
  secondary_sets-fits q e h =
      ap (how_many (is_secondary_in cmp q)) (kept_sets-track e)
      ∙ how_many-fits (is_secondary_in cmp q) rules.max_sets (set_of cmp index primary secondary) (kept_sets cmp rules calls) h

  -- and where the last one goes
  pub primary_sets-over : (q : P) (rest : List (PeerSet P)) (last : PeerSet P) → is_above index (accepted_sets cmp calls) ≡ true
      → set_of cmp index primary secondary ∷ kept_sets cmp rules calls ≡ rest ++ last ∷ [] → length rest ≡ rules.max_sets
      → primary_sets cmp rules (call.Track index primary secondary ∷ calls) q
      ≡ (primary_sets cmp rules calls q + one_if (is_primary_in cmp q (set_of cmp index primary secondary))) - one_if (is_primary_in cmp q last)
  unfolding primary_sets
  primary_sets-over q rest last e k h =
      ap (how_many (is_primary_in cmp q)) (kept_sets-track e)
      ∙ how_many-over (is_primary_in cmp q) rules.max_sets (set_of cmp index primary secondary) (kept_sets cmp rules calls) rest last k h

  pub secondary_sets-over : (q : P) (rest : List (PeerSet P)) (last : PeerSet P) → is_above index (accepted_sets cmp calls) ≡ true
      → set_of cmp index primary secondary ∷ kept_sets cmp rules calls ≡ rest ++ last ∷ [] → length rest ≡ rules.max_sets
      → secondary_sets cmp rules (call.Track index primary secondary ∷ calls) q
      ≡ (secondary_sets cmp rules calls q + one_if (is_secondary_in cmp q (set_of cmp index primary secondary))) - one_if (is_secondary_in cmp q last)
  unfolding secondary_sets
  secondary_sets-over q rest last e k h =
      ap (how_many (is_secondary_in cmp q)) (kept_sets-track e)
      ∙ how_many-over (is_secondary_in cmp q) rules.max_sets (set_of cmp index primary secondary) (kept_sets cmp rules calls) rest last k h
