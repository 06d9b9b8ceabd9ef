-- Of whom a fact holds is named by a call.
use Rattle.std.proofs.Common.{◌≡◌, ℕ, zero, suc, ◌+◌, Bool, true, false, cond, ◌&&◌, ◌||◌, not, List, [], ◌∷◌, ◌++◌, take, Option, Some, None, refl, ◌∙◌}
use Rattle.std.proofs.lemmas.Bool.{false≢true}
use Rattle.std.proofs.lemmas.List.Folds.{list_any-append}
use Rattle.std.specs.Prelude.{is_some, nat_lt}
use Rattle.std.specs.List.{list_any, filter}
use Rattle.std.specs.Map.{keys_of}
use Rattle.std.specs.BTreeMap.{is_at}
use Rattle.std.specs.declared.cmp.Ordering.{Ordering}
use Rattle.p2p_address.specs.declared.peer.Address.{Address}
use Rattle.p2p_tracker_calls.specs.declared.call.Call.{Call}
use Rattle.p2p_tracker_calls.specs.declared.call.Call.TheVariants as call
use Rattle.p2p_tracker_calls.specs.Rules.{Rules}
use Rattle.p2p_tracker_calls.specs.Sets.{PeerSet, is_above, is_among, only_secondary, set_of, accepted_sets, is_primary_in, is_secondary_in, kept_sets, is_tracked, is_primary}
use Rattle.p2p_tracker_calls.specs.Grants.{Grant, grant_by, releases, held_by, is_held}
use Rattle.p2p_tracker_calls.specs.Blocks.{lasts_at, is_over, is_local, block_by, block_of, is_blocked}
use Rattle.p2p_tracker_calls.specs.Lives.{is_alive, address_of, is_eligible, next_dial}
use Rattle.p2p_tracker_calls.specs.Allows.{has_valid_ingress}
use Rattle.p2p_tracker_calls.specs.Lists.{is_dialable, is_target, next_query}
use Rattle.p2p_tracker_calls.specs.Kills.{is_killed}
use Rattle.p2p_tracker_calls.specs.Named.{names, all_names}
use Rattle.p2p_tracker_calls.proofs.Alternating.{first_of, last_of}
use Rattle.p2p_tracker_calls.proofs.Eligible.{either}

or_first : (a b : Bool) → a ≡ true → (a || b) ≡ true
or_first true b h = refl
or_first false b h = absurd (false≢true h)

or_last : (a b : Bool) → b ≡ true → (a || b) ≡ true
or_last true b h = refl
or_last false b h = h

module _ {X : Type 0} (test : X → Bool) where
  any_append_first : (xs ys : List X) → list_any test xs ≡ true → list_any test (xs ++ ys) ≡ true
  any_append_first xs ys h = list_any-append test xs ys ∙ or_first (list_any test xs) (list_any test ys) h

  any_append_last : (xs ys : List X) → list_any test ys ≡ true → list_any test (xs ++ ys) ≡ true
  any_append_last xs ys h = list_any-append test xs ys ∙ or_last (list_any test xs) (list_any test ys) h

  any_take : (n : ℕ) (xs : List X) → list_any test (take n xs) ≡ true → list_any test xs ≡ true
  any_take zero xs h = absurd (false≢true h)
  any_take (suc n) [] h = h
  any_take (suc n) (x ∷ xs) h = either (test x) (list_any test (take n xs)) h (or_first (test x) (list_any test xs)) (λ k. or_last (test x) (list_any test xs) (any_take n xs k))

module _ {P A : Type 0} (test : P → Bool) (passing : P × A → Bool) where
  any_keys_filter : (es : List (P × A)) → list_any test (keys_of (filter passing es)) ≡ true → list_any test (keys_of es) ≡ true
  any_keys_filter [] h = h
  any_keys_filter (e ∷ es) h = at (passing e) h (any_keys_filter es)
    where
      at : (b : Bool) → list_any test (keys_of (cond b (e ∷ filter passing es) (filter passing es))) ≡ true
          → (list_any test (keys_of (filter passing es)) ≡ true → list_any test (keys_of es) ≡ true) → (test e.0 || list_any test (keys_of es)) ≡ true
      at true g i = either (test e.0) (list_any test (keys_of (filter passing es))) g (or_first (test e.0) (list_any test (keys_of es))) (λ k. or_last (test e.0) (list_any test (keys_of es)) (i k))
      at false g i = or_last (test e.0) (list_any test (keys_of es)) (i g)

module _ {P : Type 0} (cmp : P → P → Ordering) (q : P) where
  named_now : (c : Call P) (calls : List (Call P)) → is_among cmp (names c) q ≡ true → is_among cmp (all_names (c ∷ calls)) q ≡ true
  unfolding all_names
  named_now c calls h = any_append_first (λ p. is_at (cmp p) q) (names c) (all_names calls) h

  named_before : (c : Call P) (calls : List (Call P)) → is_among cmp (all_names calls) q ≡ true → is_among cmp (all_names (c ∷ calls)) q ≡ true
  unfolding all_names
  named_before c calls h = any_append_last (λ p. is_at (cmp p) q) (names c) (all_names calls) h

  -- a key that one call alone names
  alone : (p : P) → is_at (cmp p) q ≡ true → is_among cmp (p ∷ []) q ≡ true
  alone p h = or_first (is_at (cmp p) q) false h

  is_in : PeerSet P → Bool
  is_in s = is_primary_in cmp q s || is_secondary_in cmp q s

  named_in_set : (index : ℕ) (primary secondary : List (P × Address)) (calls : List (Call P)) → is_in (set_of cmp index primary secondary) ≡ true
      → is_among cmp (all_names (call.Track index primary secondary ∷ calls)) q ≡ true
  unfolding is_in
  named_in_set index primary secondary calls h = named_now (call.Track index primary secondary) calls
      (either (is_among cmp (keys_of primary) q) (is_among cmp (keys_of (only_secondary cmp primary secondary)) q) h
      (any_append_first (λ p. is_at (cmp p) q) (keys_of primary) (keys_of secondary))
      (λ k. any_append_last (λ p. is_at (cmp p) q) (keys_of primary) (keys_of secondary)
      (any_keys_filter (λ p. is_at (cmp p) q) (λ e. not (list_any (is_at (cmp e.0)) (keys_of primary))) secondary k)))

  once_accepted : (index : ℕ) (primary secondary : List (P × Address)) (calls : List (Call P)) (b : Bool)
      → list_any is_in (cond b (set_of cmp index primary secondary ∷ accepted_sets cmp calls) (accepted_sets cmp calls)) ≡ true
      → (list_any is_in (accepted_sets cmp calls) ≡ true → is_among cmp (all_names calls) q ≡ true)
      → is_among cmp (all_names (call.Track index primary secondary ∷ calls)) q ≡ true
  once_accepted index primary secondary calls true g i = either (is_in (set_of cmp index primary secondary)) (list_any is_in (accepted_sets cmp calls)) g
      (named_in_set index primary secondary calls) (λ k. named_before (call.Track index primary secondary) calls (i k))
  once_accepted index primary secondary calls false g i = named_before (call.Track index primary secondary) calls (i g)

  accepted-named : (calls : List (Call P)) → list_any is_in (accepted_sets cmp calls) ≡ true → is_among cmp (all_names calls) q ≡ true
  unfolding accepted_sets
  accepted-named [] h = absurd (false≢true h)
  accepted-named (call.Track index primary secondary ∷ calls) h =
      once_accepted index primary secondary calls (is_above index (accepted_sets cmp calls)) h (accepted-named calls)
  accepted-named (call.Overwrite p address ∷ calls) h = named_before (call.Overwrite p address) calls (accepted-named calls h)
  accepted-named (call.Block p at ∷ calls) h = named_before (call.Block p at) calls (accepted-named calls h)
  accepted-named (call.UnblockExpired at ∷ calls) h = named_before (call.UnblockExpired at) calls (accepted-named calls h)
  accepted-named (call.Dial p at jitter granted ∷ calls) h = named_before (call.Dial p at jitter granted) calls (accepted-named calls h)
  accepted-named (call.Listen p at jitter granted ∷ calls) h = named_before (call.Listen p at jitter granted) calls (accepted-named calls h)
  accepted-named (call.Connect p at conn ∷ calls) h = named_before (call.Connect p at conn) calls (accepted-named calls h)
  accepted-named (call.Release p ∷ calls) h = named_before (call.Release p) calls (accepted-named calls h)

  given : (x : Grant) (g b : Bool) → is_some (cond (g && b) (Some x) None) ≡ true → b ≡ true
  given x true true k = refl
  given x true false k = absurd (false≢true k)
  given x false b k = absurd (false≢true k)

  -- what a call grants the key names it
  grant-named : (c : Call P) (calls : List (Call P)) → is_some (grant_by cmp c q) ≡ true → is_among cmp (all_names (c ∷ calls)) q ≡ true
  grant-named (call.Dial p at jitter granted) calls h = named_now (call.Dial p at jitter granted) calls (alone p (given (at, jitter) granted (is_at (cmp p) q) h))
  grant-named (call.Listen p at jitter granted) calls h = named_now (call.Listen p at jitter granted) calls (alone p (given (at, jitter) granted (is_at (cmp p) q) h))
  grant-named (call.Track index primary secondary) calls h = absurd (false≢true h)
  grant-named (call.Overwrite p address) calls h = absurd (false≢true h)
  grant-named (call.Block p at) calls h = absurd (false≢true h)
  grant-named (call.UnblockExpired at) calls h = absurd (false≢true h)
  grant-named (call.Connect p at conn) calls h = absurd (false≢true h)
  grant-named (call.Release p) calls h = absurd (false≢true h)

  held_from : {Q : Type 0} (g : Option Grant) (released before : Bool) → held_by g released before ≡ true → (is_some g ≡ true → Q) → (before ≡ true → Q) → Q
  held_from (Some g) released before h f k = f refl
  held_from None true before h f k = absurd (false≢true h)
  held_from None false before h f k = k h

  pub held-named : (calls : List (Call P)) → is_held cmp calls q ≡ true → is_among cmp (all_names calls) q ≡ true
  unfolding is_held
  held-named [] h = absurd (false≢true h)
  held-named (c ∷ calls) h = held_from (grant_by cmp c q) (releases cmp c q) (is_held cmp calls q) h (grant-named c calls) (λ k. named_before c calls (held-named calls k))

module _ {P : Type 0} (cmp : P → P → Ordering) (rules : Rules P) (q : P) where
  pub tracked-named : (calls : List (Call P)) → is_tracked cmp rules calls q ≡ true → is_among cmp (all_names calls) q ≡ true
  unfolding is_tracked kept_sets is_in
  tracked-named calls h = accepted-named cmp q calls (any_take (is_in cmp q) rules.max_sets (accepted_sets cmp calls) h)

  primary_in : (sets : List (PeerSet P)) → list_any (is_primary_in cmp q) sets ≡ true → list_any (λ s. is_primary_in cmp q s || is_secondary_in cmp q s) sets ≡ true
  primary_in [] h = h
  primary_in (s ∷ sets) h = either (is_primary_in cmp q s) (list_any (is_primary_in cmp q) sets) h
      (λ k. or_first (is_primary_in cmp q s || is_secondary_in cmp q s) (list_any (λ x. is_primary_in cmp q x || is_secondary_in cmp q x) sets) (or_first (is_primary_in cmp q s) (is_secondary_in cmp q s) k))
      (λ k. or_last (is_primary_in cmp q s || is_secondary_in cmp q s) (list_any (λ x. is_primary_in cmp q x || is_secondary_in cmp q x) sets) (primary_in sets k))

  pub primary-named : (calls : List (Call P)) → is_primary cmp rules calls q ≡ true → is_among cmp (all_names calls) q ≡ true
  unfolding is_tracked is_primary
  primary-named calls h = tracked-named calls (primary_in (kept_sets cmp rules calls) h)

  block_from : (c : Call P) (calls : List (Call P)) (end : Option ℕ) → is_some (block_by cmp rules c q end) ≡ true
      → (is_some end ≡ true → is_among cmp (all_names calls) q ≡ true) → is_among cmp (all_names (c ∷ calls)) q ≡ true
  block_from (call.Block p at) calls end h k = turn (is_at (cmp p) q) (not (is_local cmp rules q)) (not (lasts_at end at)) refl h
    where
      turn : (b l t : Bool) → is_at (cmp p) q ≡ b → is_some (cond ((b && l) && t) (Some (at + rules.block_duration)) end) ≡ true → is_among cmp (all_names (call.Block p at ∷ calls)) q ≡ true
      turn true l t e g = named_now cmp q (call.Block p at) calls (alone cmp q p e)
      turn false l t e g = named_before cmp q (call.Block p at) calls (k g)
  block_from (call.UnblockExpired at) calls end h k = named_before cmp q (call.UnblockExpired at) calls (k (turn (lasts_at end at) h))
    where
      turn : (b : Bool) → is_some (cond b end None) ≡ true → is_some end ≡ true
      turn true g = g
      turn false g = absurd (false≢true g)
  block_from (call.Track index primary secondary) calls end h k = named_before cmp q (call.Track index primary secondary) calls (k h)
  block_from (call.Overwrite p address) calls end h k = named_before cmp q (call.Overwrite p address) calls (k h)
  block_from (call.Dial p at jitter granted) calls end h k = named_before cmp q (call.Dial p at jitter granted) calls (k h)
  block_from (call.Listen p at jitter granted) calls end h k = named_before cmp q (call.Listen p at jitter granted) calls (k h)
  block_from (call.Connect p at conn) calls end h k = named_before cmp q (call.Connect p at conn) calls (k h)
  block_from (call.Release p) calls end h k = named_before cmp q (call.Release p) calls (k h)

  block-named : (calls : List (Call P)) → is_some (block_of cmp rules calls q) ≡ true → is_among cmp (all_names calls) q ≡ true
  unfolding block_of
  block-named [] h = absurd (false≢true h)
  block-named (c ∷ calls) h = block_from c calls (block_of cmp rules calls q) h (block-named calls)

  lasting : (end : Option ℕ) (t : ℕ) → lasts_at end t ≡ true → is_some end ≡ true
  lasting None t h = h
  lasting (Some end) t h = refl

  over : (end : Option ℕ) (t : ℕ) → is_over end t ≡ true → is_some end ≡ true
  over None t h = h
  over (Some end) t h = refl

  pub blocked-named : (calls : List (Call P)) (t : ℕ) → is_blocked cmp rules calls q t ≡ true → is_among cmp (all_names calls) q ≡ true
  blocked-named calls t h = block-named calls (lasting (block_of cmp rules calls q) t h)

  pub due-named : (calls : List (Call P)) (t : ℕ) → is_over (block_of cmp rules calls q) t ≡ true → is_among cmp (all_names calls) q ≡ true
  due-named calls t h = block-named calls (over (block_of cmp rules calls q) t h)

  pub alive-named : (calls : List (Call P)) → is_alive cmp rules calls q ≡ true → is_among cmp (all_names calls) q ≡ true
  alive-named calls h = either (is_tracked cmp rules calls q) (is_held cmp calls q) h (tracked-named calls) (held-named cmp q calls)

  pub eligible-named : (calls : List (Call P)) (t : ℕ) → is_eligible cmp rules calls q t ≡ true → is_among cmp (all_names calls) q ≡ true
  eligible-named calls t h = tracked-named calls
      (last_of (not (is_local cmp rules q)) (is_tracked cmp rules calls q) (first_of (not (is_local cmp rules q) && is_tracked cmp rules calls q) (not (is_blocked cmp rules calls q t)) h))

  target-named : (calls : List (Call P)) → is_target cmp rules calls q ≡ true → is_among cmp (all_names calls) q ≡ true
  target-named calls h = primary-named calls
      (last_of (not (is_local cmp rules q)) (is_primary cmp rules calls q)
      (first_of (not (is_local cmp rules q) && is_primary cmp rules calls q) (not (is_held cmp calls q))
      (first_of (not (is_local cmp rules q) && is_primary cmp rules calls q && not (is_held cmp calls q)) (has_valid_ingress rules.private rules.dns (address_of cmp rules calls q)) h)))

module _ {P : Type 0} (cmp : P → P → Ordering) (rules : Rules P) (q : P) where
  pub dialable-named : (calls : List (Call P)) (t : ℕ) → is_dialable cmp rules calls q t ≡ true → is_among cmp (all_names calls) q ≡ true
  dialable-named calls t h = target-named cmp rules q calls
      (first_of (is_target cmp rules calls q) (not (is_blocked cmp rules calls q t))
      (first_of (is_target cmp rules calls q && not (is_blocked cmp rules calls q t)) (not (nat_lt t (next_dial cmp rules calls q))) h))

  query_from : {Q : Type 0} (blocked other alive target waits : Bool) (end : Option ℕ) (n : ℕ)
      → is_some (cond blocked (cond (other && alive) end None) (cond (target && waits) (Some n) None)) ≡ true → (alive ≡ true → Q) → (target ≡ true → Q) → Q
  query_from true true true target waits end n h f g = f refl
  query_from true true false target waits end n h f g = absurd (false≢true h)
  query_from true false alive target waits end n h f g = absurd (false≢true h)
  query_from false other alive true waits end n h f g = g refl
  query_from false other alive false waits end n h f g = absurd (false≢true h)

  pub query-named : (calls : List (Call P)) (t : ℕ) → is_some (next_query cmp rules calls q t) ≡ true → is_among cmp (all_names calls) q ≡ true
  query-named calls t h =
      query_from (is_blocked cmp rules calls q t) (not (is_local cmp rules q)) (is_alive cmp rules calls q) (is_target cmp rules calls q) (nat_lt t (next_dial cmp rules calls q))
      (block_of cmp rules calls q) (next_dial cmp rules calls q) h (alive-named cmp rules q calls) (target-named cmp rules q calls)

  pub killed-named : (index : ℕ) (primary secondary : List (P × Address)) (calls : List (Call P)) → is_killed cmp rules index primary secondary calls q ≡ true
      → is_among cmp (all_names calls) q ≡ true
  killed-named index primary secondary calls h = held-named cmp q calls
      (last_of (not (is_local cmp rules q)) (is_held cmp calls q) (first_of (not (is_local cmp rules q) && is_held cmp calls q) _ h))
