-- A key whose connection is kept is eligible and not stale.
use Rattle.std.proofs.Common.{◌≡◌, ℕ, ◌+◌, ◌≤◌, Bool, true, false, cond, ◌&&◌, ◌||◌, not, List, [], ◌∷◌, Option, Some, None, refl, sym, ap, ◌∙◌, arith}
use Rattle.std.proofs.lemmas.Bool.{false≢true}
use Rattle.std.proofs.lemmas.Bool.Decides.{nat_tests}
use Rattle.std.specs.Prelude.{nat_lt, is_some}
use Rattle.std.specs.Option.{option_or}
use Rattle.std.specs.BTreeMap.{is_at}
use Rattle.std.specs.declared.cmp.Ordering.{Ordering}
use Rattle.p2p_tracker_calls.specs.declared.call.Call.{Call}
use Rattle.p2p_tracker_calls.specs.declared.call.Call.TheVariants as call
use Rattle.p2p_tracker_calls.specs.Rules.{Rules}
use Rattle.p2p_tracker_calls.specs.Sets.{is_tracked}
use Rattle.p2p_tracker_calls.specs.Grants.{Grant, grant_by, releases, held_by, is_held}
use Rattle.p2p_tracker_calls.specs.Blocks.{lasts_at, is_local, block_by, block_of, is_blocked}
use Rattle.p2p_tracker_calls.specs.Lives.{is_stale, is_eligible, accepts, connects}
use Rattle.p2p_tracker_calls.specs.Keeping.{blocks, ends_connection, begun_by, kept_of, is_kept, connects_by, all_connect_by}
use Rattle.p2p_tracker_calls.proofs.Alternating.{both, first_of, last_of, not_true}

some_if : (b : Bool) (n : ℕ) → is_some (cond b (Some n) None) ≡ b
some_if true n = refl
some_if false n = refl

some_unless : (ends : Bool) (a b : Option ℕ) → is_some (cond ends None (option_or a b)) ≡ ((is_some a || is_some b) && not ends)
some_unless true None None = refl
some_unless true None (Some n) = refl
some_unless true (Some n) b = refl
some_unless false None None = refl
some_unless false None (Some n) = refl
some_unless false (Some n) b = refl

unless_same : (ends : Bool) (o : Option ℕ) → is_some (cond ends None o) ≡ true → cond ends None o ≡ o
unless_same true o h = absurd (false≢true h)
unless_same false o h = refl

if_some : (a o : Option ℕ) → (is_some a ≡ true → a ≡ o) → a ≡ cond (is_some a) o None
if_some None o h = refl
if_some (Some n) o h = h refl

pub either : {Q : Type 0} (a b : Bool) → (a || b) ≡ true → (a ≡ true → Q) → (b ≡ true → Q) → Q
either true b h f g = f refl
either false b h f g = g h

neither_first : (a b : Bool) → (a || b) ≡ false → a ≡ false
neither_first true b h = h
neither_first false b h = refl

neither_last : (a b : Bool) → (a || b) ≡ false → b ≡ false
neither_last true b h = absurd (false≢true (sym h))
neither_last false b h = h

not_false : (a : Bool) → not a ≡ false → a ≡ true
not_false true h = refl
not_false false h = sym h

less_again : (t now end : ℕ) → not (nat_lt now t) ≡ true → nat_lt t end ≡ false → nat_lt now end ≡ false
less_again t now end h e = grind (arith, nat_tests)

-- a block that has ended at a moment has ended at each later one
lasts_less : (end : Option ℕ) (t now : ℕ) → not (nat_lt now t) ≡ true → lasts_at end t ≡ false → lasts_at end now ≡ false
lasts_less None t now h e = refl
lasts_less (Some end) t now h e = less_again t now end h e

-- what unblocking leaves has ended where it had
lasts_unblocked : (end : Option ℕ) (b : Bool) (now : ℕ) → lasts_at end now ≡ false → lasts_at (cond b end None) now ≡ false
lasts_unblocked end true now h = h
lasts_unblocked end false now h = refl

held_by_true : (grant : Option Grant) (released held : Bool) → released ≡ false → held ≡ true → held_by grant released held ≡ true
held_by_true (Some g) released held r h = refl
held_by_true None true held r h = absurd (false≢true (sym r))
held_by_true None false held r h = h

come_later : (t now later : ℕ) → now ≤ later → not (nat_lt now t) ≡ true → not (nat_lt later t) ≡ true
come_later t now later h e = grind (arith, nat_tests)

module _ {P : Type 0} where
  connects_later : (c : Call P) (now later : ℕ) → now ≤ later → connects_by now c ≡ true → connects_by later c ≡ true
  connects_later (call.Connect p (Some t) conn) now later h b = come_later t now later h b
  connects_later (call.Connect p None conn) now later h b = absurd (false≢true b)
  connects_later (call.Track index primary secondary) now later h b = refl
  connects_later (call.Overwrite p address) now later h b = refl
  connects_later (call.Block p at) now later h b = refl
  connects_later (call.UnblockExpired at) now later h b = refl
  connects_later (call.Dial p at jitter granted) now later h b = refl
  connects_later (call.Listen p at jitter granted) now later h b = refl
  connects_later (call.Release p) now later h b = refl

  -- connects that have come have come at each later moment too
  pub all_connect_by-later : (calls : List (Call P)) (now later : ℕ) → now ≤ later → all_connect_by now calls ≡ true → all_connect_by later calls ≡ true
  all_connect_by-later [] now later h b = refl
  all_connect_by-later (c ∷ calls) now later h b =
      both (connects_by later c) (all_connect_by later calls) (connects_later c now later h (first_of (connects_by now c) (all_connect_by now calls) b))
      (all_connect_by-later calls now later h (last_of (connects_by now c) (all_connect_by now calls) b))

module _ {P : Type 0} (cmp : P → P → Ordering) (rules : Rules P) where
  -- a call that doesn't block the key lets a block that has ended stay so
  lasts_by : (c : Call P) (end : Option ℕ) (q : P) (now : ℕ) → blocks cmp c q ≡ false → lasts_at end now ≡ false → lasts_at (block_by cmp rules c q end) now ≡ false
  lasts_by (call.Block p at) end q now b h = ap (λ x. lasts_at (cond (x && not (is_local cmp rules q) && not (lasts_at end at)) (Some (at + rules.block_duration)) end) now) b ∙ h
  lasts_by (call.UnblockExpired at) end q now b h = lasts_unblocked end (lasts_at end at) now h
  lasts_by (call.Track index primary secondary) end q now b h = h
  lasts_by (call.Overwrite p address) end q now b h = h
  lasts_by (call.Dial p at jitter granted) end q now b h = h
  lasts_by (call.Listen p at jitter granted) end q now b h = h
  lasts_by (call.Connect p at conn) end q now b h = h
  lasts_by (call.Release p) end q now b h = h

  -- the key of a connect that is accepted at a moment is eligible then
  eligible_then : (t : ℕ) (calls : List (Call P)) (p q : P) → (is_at (cmp p) q && accepts cmp rules calls q (Some t)) ≡ true → is_eligible cmp rules calls q t ≡ true
  eligible_then t calls p q h = first_of (is_eligible cmp rules calls q t) (not (is_stale cmp rules calls q)) (last_of (is_at (cmp p) q) (accepts cmp rules calls q (Some t)) h)

  unblocked_then : (t : ℕ) (calls : List (Call P)) (q : P) → is_eligible cmp rules calls q t ≡ true → is_blocked cmp rules calls q t ≡ false
  unblocked_then t calls q h = not_true (is_blocked cmp rules calls q t) (last_of (not (is_local cmp rules q) && is_tracked cmp rules calls q) (not (is_blocked cmp rules calls q t)) h)

  other_then : (t : ℕ) (calls : List (Call P)) (q : P) → is_eligible cmp rules calls q t ≡ true → not (is_local cmp rules q) ≡ true
  other_then t calls q h = first_of (not (is_local cmp rules q)) (is_tracked cmp rules calls q) (first_of (not (is_local cmp rules q) && is_tracked cmp rules calls q) (not (is_blocked cmp rules calls q t)) h)

  -- a connect that was accepted by now is of another's key, which isn't blocked now
  unblocked_by : (c : Call P) (calls : List (Call P)) (q : P) (now : ℕ) → connects_by now c ≡ true → connects cmp rules c calls q ≡ true → lasts_at (block_by cmp rules c q (block_of cmp rules calls q)) now ≡ false
  unblocked_by (call.Connect p (Some t) conn) calls q now b h = lasts_less (block_of cmp rules calls q) t now b (unblocked_then t calls q (eligible_then t calls p q h))
  unblocked_by (call.Connect p None conn) calls q now b h = absurd (false≢true b)
  unblocked_by (call.Track index primary secondary) calls q now b h = absurd (false≢true h)
  unblocked_by (call.Overwrite p address) calls q now b h = absurd (false≢true h)
  unblocked_by (call.Block p at) calls q now b h = absurd (false≢true h)
  unblocked_by (call.UnblockExpired at) calls q now b h = absurd (false≢true h)
  unblocked_by (call.Dial p at jitter granted) calls q now b h = absurd (false≢true h)
  unblocked_by (call.Listen p at jitter granted) calls q now b h = absurd (false≢true h)
  unblocked_by (call.Release p) calls q now b h = absurd (false≢true h)

  other_by : (c : Call P) (calls : List (Call P)) (q : P) (now : ℕ) → connects_by now c ≡ true → connects cmp rules c calls q ≡ true → not (is_local cmp rules q) ≡ true
  other_by (call.Connect p (Some t) conn) calls q now b h = other_then t calls q (eligible_then t calls p q h)
  other_by (call.Connect p None conn) calls q now b h = absurd (false≢true b)
  other_by (call.Track index primary secondary) calls q now b h = absurd (false≢true h)
  other_by (call.Overwrite p address) calls q now b h = absurd (false≢true h)
  other_by (call.Block p at) calls q now b h = absurd (false≢true h)
  other_by (call.UnblockExpired at) calls q now b h = absurd (false≢true h)
  other_by (call.Dial p at jitter granted) calls q now b h = absurd (false≢true h)
  other_by (call.Listen p at jitter granted) calls q now b h = absurd (false≢true h)
  other_by (call.Release p) calls q now b h = absurd (false≢true h)

  begins-connects : (c : Call P) (calls : List (Call P)) (q : P) → is_some (begun_by cmp rules c calls q) ≡ connects cmp rules c calls q
  begins-connects (call.Connect p at conn) calls q = some_if (is_at (cmp p) q && accepts cmp rules calls q at) conn
  begins-connects (call.Track index primary secondary) calls q = refl
  begins-connects (call.Overwrite p address) calls q = refl
  begins-connects (call.Block p at) calls q = refl
  begins-connects (call.UnblockExpired at) calls q = refl
  begins-connects (call.Dial p at jitter granted) calls q = refl
  begins-connects (call.Listen p at jitter granted) calls q = refl
  begins-connects (call.Release p) calls q = refl

  -- one is kept where the call begins one or one was, and the call ends none
  pub is_kept-more : (c : Call P) (calls : List (Call P)) (q : P)
      → is_kept cmp rules (c ∷ calls) q ≡ ((connects cmp rules c calls q || is_kept cmp rules calls q) && not (ends_connection cmp rules c calls q))
  unfolding kept_of
  is_kept-more c calls q =
      some_unless (ends_connection cmp rules c calls q) (begun_by cmp rules c calls q) (kept_of cmp rules calls q)
      ∙ ap (λ b. (b || is_kept cmp rules calls q) && not (ends_connection cmp rules c calls q)) (begins-connects c calls q)

  pub kept_of-more : (c : Call P) (calls : List (Call P)) (q : P)
      → kept_of cmp rules (c ∷ calls) q ≡ cond (is_kept cmp rules (c ∷ calls) q) (option_or (begun_by cmp rules c calls q) (kept_of cmp rules calls q)) None
  unfolding kept_of
  kept_of-more c calls q = if_some (cond (ends_connection cmp rules c calls q) None (option_or (begun_by cmp rules c calls q) (kept_of cmp rules calls q)))
      (option_or (begun_by cmp rules c calls q) (kept_of cmp rules calls q)) (unless_same (ends_connection cmp rules c calls q) (option_or (begun_by cmp rules c calls q) (kept_of cmp rules calls q)))

  module _ (c : Call P) (calls : List (Call P)) (q : P) (h : is_kept cmp rules (c ∷ calls) q ≡ true) where
    -- what is so after a call that leaves a connection kept
    kept_or : (connects cmp rules c calls q || is_kept cmp rules calls q) ≡ true
    kept_or = first_of (connects cmp rules c calls q || is_kept cmp rules calls q) (not (ends_connection cmp rules c calls q)) (sym (is_kept-more c calls q) ∙ h)

    goes_on : ends_connection cmp rules c calls q ≡ false
    goes_on = not_true (ends_connection cmp rules c calls q)
        (last_of (connects cmp rules c calls q || is_kept cmp rules calls q) (not (ends_connection cmp rules c calls q)) (sym (is_kept-more c calls q) ∙ h))

    still_tracked : is_tracked cmp rules (c ∷ calls) q ≡ true
    still_tracked = not_false (is_tracked cmp rules (c ∷ calls) q)
        (neither_last (releases cmp c q || blocks cmp c q || is_stale cmp rules (c ∷ calls) q) (not (is_tracked cmp rules (c ∷ calls) q)) goes_on)

    fresh : (releases cmp c q || blocks cmp c q || is_stale cmp rules (c ∷ calls) q) ≡ false
    fresh = neither_first (releases cmp c q || blocks cmp c q || is_stale cmp rules (c ∷ calls) q) (not (is_tracked cmp rules (c ∷ calls) q)) goes_on

    still_fresh : is_stale cmp rules (c ∷ calls) q ≡ false
    still_fresh = neither_last (releases cmp c q || blocks cmp c q) (is_stale cmp rules (c ∷ calls) q) fresh

    no_release : releases cmp c q ≡ false
    no_release = neither_first (releases cmp c q) (blocks cmp c q) (neither_first (releases cmp c q || blocks cmp c q) (is_stale cmp rules (c ∷ calls) q) fresh)

    -- a key that was held before is held after it too
    pub still_held : is_held cmp calls q ≡ true → is_held cmp (c ∷ calls) q ≡ true
    unfolding is_held
    still_held held = held_by_true (grant_by cmp c q) (releases cmp c q) (is_held cmp calls q) no_release held

    pub held_or : (is_kept cmp rules calls q ≡ true → is_held cmp calls q ≡ true) → (connects cmp rules c calls q ≡ true → is_held cmp calls q ≡ true) → is_held cmp (c ∷ calls) q ≡ true
    held_or before connecting = still_held (either (connects cmp rules c calls q) (is_kept cmp rules calls q) kept_or connecting before)

    no_block : blocks cmp c q ≡ false
    no_block = neither_last (releases cmp c q) (blocks cmp c q) (neither_first (releases cmp c q || blocks cmp c q) (is_stale cmp rules (c ∷ calls) q) fresh)

  pub tracked-is_kept : (calls : List (Call P)) (q : P) → is_kept cmp rules calls q ≡ true → is_tracked cmp rules calls q ≡ true
  unfolding kept_of
  tracked-is_kept [] q h = absurd (false≢true h)
  tracked-is_kept (c ∷ calls) q h = still_tracked c calls q h

  pub not_stale-is_kept : (calls : List (Call P)) (q : P) → is_kept cmp rules calls q ≡ true → is_stale cmp rules calls q ≡ false
  unfolding kept_of
  not_stale-is_kept [] q h = absurd (false≢true h)
  not_stale-is_kept (c ∷ calls) q h = still_fresh c calls q h

  pub unblocked-is_kept : (calls : List (Call P)) (q : P) (now : ℕ) → all_connect_by now calls ≡ true → is_kept cmp rules calls q ≡ true → is_blocked cmp rules calls q now ≡ false
  unfolding block_of kept_of
  unblocked-is_kept [] q now b h = refl
  unblocked-is_kept (c ∷ calls) q now b h =
      either (connects cmp rules c calls q) (is_kept cmp rules calls q) (kept_or c calls q h)
      (unblocked_by c calls q now (first_of (connects_by now c) (all_connect_by now calls) b))
      (λ k. lasts_by c (block_of cmp rules calls q) q now (no_block c calls q h) (unblocked-is_kept calls q now (last_of (connects_by now c) (all_connect_by now calls) b) k))

  pub other-is_kept : (calls : List (Call P)) (q : P) (now : ℕ) → all_connect_by now calls ≡ true → is_kept cmp rules calls q ≡ true → not (is_local cmp rules q) ≡ true
  unfolding kept_of
  other-is_kept [] q now b h = absurd (false≢true h)
  other-is_kept (c ∷ calls) q now b h =
      either (connects cmp rules c calls q) (is_kept cmp rules calls q) (kept_or c calls q h)
      (other_by c calls q now (first_of (connects_by now c) (all_connect_by now calls) b))
      (other-is_kept calls q now (last_of (connects_by now c) (all_connect_by now calls) b))

  pub is_eligible-is_kept : (calls : List (Call P)) (q : P) (now : ℕ) → all_connect_by now calls ≡ true → is_kept cmp rules calls q ≡ true → is_eligible cmp rules calls q now ≡ true
  is_eligible-is_kept calls q now b h =
      both (not (is_local cmp rules q) && is_tracked cmp rules calls q) (not (is_blocked cmp rules calls q now))
      (both (not (is_local cmp rules q)) (is_tracked cmp rules calls q) (other-is_kept calls q now b h) (tracked-is_kept calls q h))
      (ap not (unblocked-is_kept calls q now b h))
