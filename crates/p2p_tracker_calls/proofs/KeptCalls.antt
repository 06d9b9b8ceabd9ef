-- What one more call makes of a key whose connection is kept.
use Rattle.std.proofs.Common.{◌≡◌, ℕ, zero, suc, Bool, true, false, cond, ◌&&◌, ◌||◌, not, List, [], ◌∷◌, take, drop, Option, Some, None, refl, sym, ap, ◌∙◌}
use Rattle.std.proofs.lemmas.Bool.{false≢true}
use Rattle.std.proofs.lemmas.List.{take-append-drop}
use Rattle.std.proofs.lemmas.List.Folds.{list_any-append}
use Rattle.std.specs.Prelude.{is_some}
use Rattle.std.specs.Option.{option_or}
use Rattle.std.specs.List.{list_any}
use Rattle.std.specs.Map.{lookup}
use Rattle.std.specs.BTreeMap.{is_at}
use Rattle.std.specs.declared.cmp.Ordering.{Ordering}
use Rattle.p2p_address.specs.declared.peer.Address.{Address}
use Rattle.p2p_tracker_calls.specs.declared.call.Call.{Call}
use Rattle.p2p_tracker_calls.specs.declared.call.Call.TheVariants as call
use Rattle.p2p_tracker_calls.specs.Rules.{Rules}
use Rattle.p2p_tracker_calls.specs.Sets.{is_above, only_secondary, set_of, accepted_sets, is_primary_in, is_secondary_in, kept_sets, is_tracked}
use Rattle.p2p_tracker_calls.specs.Grants.{grant_by, releases, is_held}
use Rattle.p2p_tracker_calls.specs.Blocks.{is_local, is_blocked}
use Rattle.p2p_tracker_calls.specs.Lives.{same_address, is_change, given_by, address_of, is_stale, is_eligible, accepts, connects, is_other_than}
use Rattle.p2p_tracker_calls.specs.Kills.{is_evicted}
use Rattle.p2p_tracker_calls.specs.Keeping.{blocks, is_kept}
use Rattle.p2p_tracker_calls.specs.KeptAfter.{IsLeft, IsLeftByDial, IsLeftByListen, IsLeftByUnblock, IsKeptByConnect, IsEndedByRelease, IsEndedByBlock, IsKeptByTrack, IsKeptByOverwrite, IsLeftByRefusedTrack, IsEndedByKill, IsEndedByChange, IsHeldWhileKept, IsKeptAfter}
use Rattle.p2p_tracker_calls.proofs.Alternating.{first_of, last_of, not_true}
use Rattle.p2p_tracker_calls.proofs.Eligible.{either, is_kept-more, kept_of-more, held_or, tracked-is_kept, not_stale-is_kept}

and_false : (b : Bool) → (b && false) ≡ false
and_false true = refl
and_false false = refl

-- in the laws of one more call a kept key (`kept`) is not stale and is tracked
left_step : (kept stale tracked : Bool) → (kept ≡ true → stale ≡ false) → (kept ≡ true → tracked ≡ true) → (kept && not (stale || not tracked)) ≡ kept
left_step true stale tracked h k = ap (λ b. not (b || not tracked)) (h refl) ∙ ap (λ b. not (not b)) (k refl)
left_step false stale tracked h k = refl

left_by : (joins releases blocks stale tracked kept was was_tracked : Bool) → joins ≡ false → releases ≡ false → blocks ≡ false → stale ≡ was → tracked ≡ was_tracked
    → (kept ≡ true → was ≡ false) → (kept ≡ true → was_tracked ≡ true) → ((joins || kept) && not (((releases || blocks) || stale) || not tracked)) ≡ kept
left_by true releases blocks stale tracked kept was was_tracked e f g i j h k = absurd (false≢true (sym e))
left_by false true blocks stale tracked kept was was_tracked e f g i j h k = absurd (false≢true (sym f))
left_by false false true stale tracked kept was was_tracked e f g i j h k = absurd (false≢true (sym g))
left_by false false false stale tracked kept was was_tracked e f g i j h k = left_step kept stale tracked (λ x. i ∙ h x) (λ x. j ∙ k x)

never_stale : (fresh stale : Bool) → stale ≡ false → cond fresh false stale ≡ false
never_stale true stale h = refl
never_stale false stale h = h

release_step : (b kept stale tracked : Bool) → (kept ≡ true → stale ≡ false) → (kept ≡ true → tracked ≡ true)
    → (kept && not (((b || false) || cond b false stale) || not tracked)) ≡ (not b && kept)
release_step true kept stale tracked h k = and_false kept
release_step false kept stale tracked h k = left_step kept stale tracked h k

block_step : (b kept stale tracked : Bool) → (kept ≡ true → stale ≡ false) → (kept ≡ true → tracked ≡ true) → (kept && not ((b || stale) || not tracked)) ≡ (not b && kept)
block_step true kept stale tracked h k = and_false kept
block_step false kept stale tracked h k = left_step kept stale tracked h k

not_not : (b : Bool) → not (not b) ≡ b
not_not true = refl
not_not false = refl

track_step : (kept stale tracked : Bool) → (kept && not (stale || not tracked)) ≡ ((kept && not stale) && tracked)
track_step true true tracked = refl
track_step true false tracked = not_not tracked
track_step false stale tracked = refl

overwrite_step : (kept stale tracked : Bool) → (kept ≡ true → tracked ≡ true) → (kept && not (stale || not tracked)) ≡ (kept && not stale)
overwrite_step true true tracked k = refl
overwrite_step true false tracked k = not_not tracked ∙ k refl
overwrite_step false stale tracked k = refl

killed_where : (change evicted stale tracked : Bool) → stale ≡ change → (tracked ≡ false → evicted ≡ true) → (not stale && tracked) ≡ not (change || (evicted && (stale || not tracked)))
killed_where true evicted true tracked e h = refl
killed_where true evicted false tracked e h = absurd (false≢true e)
killed_where false evicted true tracked e h = absurd (false≢true (sym e))
killed_where false evicted false true e h = sym (ap not (and_false evicted))
killed_where false true false false e h = refl
killed_where false false false false e h = absurd (false≢true (h refl))

changed_alone : (change : Bool) → ((change && true) || false) ≡ change
changed_alone true = refl
changed_alone false = refl

kill_step : (local held kept change was evicted stale tracked : Bool) → local ≡ false → held ≡ true → kept ≡ true → was ≡ false → stale ≡ ((change && held) || was)
    → (tracked ≡ false → evicted ≡ true) → ((kept && not stale) && tracked) ≡ not ((not local && held) && (change || (evicted && (stale || not tracked))))
kill_step true held kept change was evicted stale tracked o r j w e h = absurd (false≢true (sym o))
kill_step false false kept change was evicted stale tracked o r j w e h = absurd (false≢true r)
kill_step false true false change was evicted stale tracked o r j w e h = absurd (false≢true j)
kill_step false true true change true evicted stale tracked o r j w e h = absurd (false≢true (sym w))
kill_step false true true change false evicted stale tracked o r j w e h = killed_where change evicted stale tracked (e ∙ changed_alone change) h

changed_where : (other : Bool) → not ((other && true) || false) ≡ not other
changed_where true = refl
changed_where false = refl

change_step : (local held kept was b : Bool) (a : Option Address) (given : Address) → kept ≡ true → held ≡ true → local ≡ false → was ≡ false → is_some a ≡ true
    → (kept && not ((is_change (cond b (Some given) None) a && held) || was)) ≡ not (b && (not local && is_other_than a given))
change_step true held kept was b a given j r o w s = absurd (false≢true (sym o))
change_step false false kept was b a given j r o w s = absurd (false≢true r)
change_step false true false was b a given j r o w s = absurd (false≢true j)
change_step false true true true b a given j r o w s = absurd (false≢true (sym w))
change_step false true true false b None given j r o w s = absurd (false≢true s)
change_step false true true false true (Some a) given j r o w s = changed_where (not (same_address a given))
change_step false true true false false (Some a) given j r o w s = refl

or_last : (a b : Bool) → b ≡ true → (a || b) ≡ true
or_last true b h = refl
or_last false b h = h

module _ {X : Type 0} where
  take_fewer : (n : ℕ) (xs : List X) → take n (take (suc n) xs) ≡ take n xs
  take_fewer zero xs = refl
  take_fewer (suc n) [] = refl
  take_fewer (suc n) (x ∷ xs) = ap (λ ys. x ∷ ys) (take_fewer n xs)

  take_pushed : (n : ℕ) (x : X) (xs : List X) → take n (x ∷ take n xs) ≡ take n (x ∷ xs)
  take_pushed zero x xs = refl
  take_pushed (suc n) x xs = ap (λ ys. x ∷ ys) (take_fewer n xs)

  -- what passes among the first ones, and once one more stands before them no longer, is among those that fall out
  any_fallen : (test : X → Bool) (n : ℕ) (x : X) (xs : List X) → list_any test (take n xs) ≡ true → list_any test (take n (x ∷ xs)) ≡ false → list_any test (drop n (x ∷ take n xs)) ≡ true
  any_fallen test n x xs h k =
      ap (λ b. b || list_any test (drop n (x ∷ take n xs))) (sym (ap (list_any test) (take_pushed n x xs) ∙ k))
      ∙ (sym (list_any-append test (take n (x ∷ take n xs)) (drop n (x ∷ take n xs)))
      ∙ (ap (list_any test) (take-append-drop n (x ∷ take n xs)) ∙ or_last (test x) (list_any test (take n xs)) h))

module _ {P : Type 0} (cmp : P → P → Ordering) (rules : Rules P) (calls : List (Call P)) (q : P) where
  fresh : is_kept cmp rules calls q ≡ true → is_stale cmp rules calls q ≡ false
  fresh = not_stale-is_kept cmp rules calls q

  tracked : is_kept cmp rules calls q ≡ true → is_tracked cmp rules calls q ≡ true
  tracked = tracked-is_kept cmp rules calls q

  pub kept-left : IsLeft cmp rules calls q
  kept-left c e f g i j =
      is_kept-more cmp rules c calls q
      ∙ left_by (connects cmp rules c calls q) (releases cmp c q) (blocks cmp c q) (is_stale cmp rules (c ∷ calls) q) (is_tracked cmp rules (c ∷ calls) q) (is_kept cmp rules calls q)
      (is_stale cmp rules calls q) (is_tracked cmp rules calls q) e f g i j fresh tracked

  pub kept-dial : IsLeftByDial cmp rules calls q
  unfolding is_stale is_tracked kept_sets accepted_sets
  kept-dial p t jitter granted =
      is_kept-more cmp rules (call.Dial p t jitter granted) calls q
      ∙ left_step (is_kept cmp rules calls q) (is_stale cmp rules (call.Dial p t jitter granted ∷ calls) q) (is_tracked cmp rules calls q)
      (λ h. never_stale (is_some (grant_by cmp (call.Dial p t jitter granted) q) || false) (is_stale cmp rules calls q) (fresh h)) tracked

  pub kept-listen : IsLeftByListen cmp rules calls q
  unfolding is_stale is_tracked kept_sets accepted_sets
  kept-listen p t jitter granted =
      is_kept-more cmp rules (call.Listen p t jitter granted) calls q
      ∙ left_step (is_kept cmp rules calls q) (is_stale cmp rules (call.Listen p t jitter granted ∷ calls) q) (is_tracked cmp rules calls q)
      (λ h. never_stale (is_some (grant_by cmp (call.Listen p t jitter granted) q) || false) (is_stale cmp rules calls q) (fresh h)) tracked

  pub kept-unblock : IsLeftByUnblock cmp rules calls q
  unfolding is_stale is_tracked kept_sets accepted_sets
  kept-unblock t =
      is_kept-more cmp rules (call.UnblockExpired t) calls q
      ∙ left_step (is_kept cmp rules calls q) (is_stale cmp rules calls q) (is_tracked cmp rules calls q) fresh tracked

  accepted_tracked : (b : Bool) (t : ℕ) → (b && accepts cmp rules calls q (Some t)) ≡ true → is_tracked cmp rules calls q ≡ true
  accepted_tracked b t h =
      last_of (not (is_local cmp rules q)) (is_tracked cmp rules calls q)
      (first_of (not (is_local cmp rules q) && is_tracked cmp rules calls q) (not (is_blocked cmp rules calls q t))
      (first_of (is_eligible cmp rules calls q t) (not (is_stale cmp rules calls q)) (last_of b (accepts cmp rules calls q (Some t)) h)))

  accepted_fresh : (b : Bool) (t : ℕ) → (b && accepts cmp rules calls q (Some t)) ≡ true → is_stale cmp rules calls q ≡ false
  accepted_fresh b t h = not_true (is_stale cmp rules calls q) (last_of (is_eligible cmp rules calls q t) (not (is_stale cmp rules calls q)) (last_of b (accepts cmp rules calls q (Some t)) h))

  pub kept-connect : IsKeptByConnect cmp rules calls q
  unfolding is_stale is_tracked kept_sets accepted_sets
  kept-connect p t conn =
      is_kept-more cmp rules (call.Connect p (Some t) conn) calls q
      ∙ left_step ((is_at (cmp p) q && accepts cmp rules calls q (Some t)) || is_kept cmp rules calls q) (is_stale cmp rules calls q) (is_tracked cmp rules calls q)
      (λ h. either (is_at (cmp p) q && accepts cmp rules calls q (Some t)) (is_kept cmp rules calls q) h (accepted_fresh (is_at (cmp p) q) t) fresh)
      (λ h. either (is_at (cmp p) q && accepts cmp rules calls q (Some t)) (is_kept cmp rules calls q) h (accepted_tracked (is_at (cmp p) q) t) tracked)

  pub kept-release : IsEndedByRelease cmp rules calls q
  unfolding is_stale is_tracked kept_sets accepted_sets
  kept-release p =
      is_kept-more cmp rules (call.Release p) calls q
      ∙ release_step (is_at (cmp p) q) (is_kept cmp rules calls q) (is_stale cmp rules calls q) (is_tracked cmp rules calls q) fresh tracked

  pub kept-block : IsEndedByBlock cmp rules calls q
  unfolding is_stale is_tracked kept_sets accepted_sets
  kept-block p t =
      is_kept-more cmp rules (call.Block p t) calls q
      ∙ block_step (is_at (cmp p) q) (is_kept cmp rules calls q) (is_stale cmp rules calls q) (is_tracked cmp rules calls q) fresh tracked

  pub kept-track : IsKeptByTrack cmp rules calls q
  kept-track index primary secondary =
      is_kept-more cmp rules (call.Track index primary secondary) calls q
      ∙ track_step (is_kept cmp rules calls q) (is_stale cmp rules (call.Track index primary secondary ∷ calls) q) (is_tracked cmp rules (call.Track index primary secondary ∷ calls) q)

  pub kept-overwrite : IsKeptByOverwrite cmp rules calls q
  unfolding is_tracked kept_sets accepted_sets
  kept-overwrite p address =
      is_kept-more cmp rules (call.Overwrite p address) calls q
      ∙ overwrite_step (is_kept cmp rules calls q) (is_stale cmp rules (call.Overwrite p address ∷ calls) q) (is_tracked cmp rules calls q) tracked

  module _ (index : ℕ) (primary secondary : List (P × Address)) where
    stale_track : is_stale cmp rules (call.Track index primary secondary ∷ calls) q
        ≡ ((is_change (given_by cmp (call.Track index primary secondary) calls q) (address_of cmp rules calls q) && is_held cmp calls q) || is_stale cmp rules calls q)
    unfolding is_stale
    stale_track = refl

    tracked_track : (above : Bool) → is_above index (accepted_sets cmp calls) ≡ above → is_tracked cmp rules (call.Track index primary secondary ∷ calls) q
        ≡ list_any (λ s. is_primary_in cmp q s || is_secondary_in cmp q s) (take rules.max_sets (cond above (set_of cmp index primary secondary ∷ accepted_sets cmp calls) (accepted_sets cmp calls)))
    unfolding is_tracked kept_sets accepted_sets
    tracked_track above e =
        ap (λ b. list_any (λ s. is_primary_in cmp q s || is_secondary_in cmp q s) (take rules.max_sets (cond b (set_of cmp index primary secondary ∷ accepted_sets cmp calls) (accepted_sets cmp calls)))) e

    tracked_is : is_tracked cmp rules calls q ≡ list_any (λ s. is_primary_in cmp q s || is_secondary_in cmp q s) (take rules.max_sets (accepted_sets cmp calls))
    unfolding is_tracked kept_sets
    tracked_is = refl

    evicted_is : is_evicted cmp rules index primary secondary calls q
        ≡ list_any (λ s. is_primary_in cmp q s || is_secondary_in cmp q s) (drop rules.max_sets (set_of cmp index primary secondary ∷ take rules.max_sets (accepted_sets cmp calls)))
    unfolding kept_sets
    evicted_is = refl

    given_refused : is_above index (accepted_sets cmp calls) ≡ false → given_by cmp (call.Track index primary secondary) calls q ≡ None
    given_refused e =
        ap (λ b. cond b (option_or (lookup (λ p. is_at (cmp p) q) primary) (lookup (λ p. is_at (cmp p) q) (only_secondary cmp primary secondary))) None) e

  pub kept-refused : IsLeftByRefusedTrack cmp rules calls q
  kept-refused index primary secondary e =
      is_kept-more cmp rules (call.Track index primary secondary) calls q
      ∙ left_by false false false (is_stale cmp rules (call.Track index primary secondary ∷ calls) q) (is_tracked cmp rules (call.Track index primary secondary ∷ calls) q) (is_kept cmp rules calls q)
      (is_stale cmp rules calls q) (is_tracked cmp rules calls q) refl refl refl
      (stale_track index primary secondary ∙ ap (λ g. (is_change g (address_of cmp rules calls q) && is_held cmp calls q) || is_stale cmp rules calls q) (given_refused index primary secondary e))
      (tracked_track index primary secondary false e ∙ sym (tracked_is index primary secondary)) fresh tracked

  pub kept-kill : IsEndedByKill cmp rules calls q
  kept-kill index primary secondary e j r o =
      kept-track index primary secondary
      ∙ kill_step (is_local cmp rules q) (is_held cmp calls q) (is_kept cmp rules calls q) (is_change (given_by cmp (call.Track index primary secondary) calls q) (address_of cmp rules calls q))
      (is_stale cmp rules calls q) (is_evicted cmp rules index primary secondary calls q) (is_stale cmp rules (call.Track index primary secondary ∷ calls) q)
      (is_tracked cmp rules (call.Track index primary secondary ∷ calls) q) o r j (fresh j) (stale_track index primary secondary)
      (λ n. evicted_is index primary secondary ∙ any_fallen (λ s. is_primary_in cmp q s || is_secondary_in cmp q s) rules.max_sets (set_of cmp index primary secondary) (accepted_sets cmp calls)
      (sym (tracked_is index primary secondary) ∙ tracked j) (sym (tracked_track index primary secondary true e) ∙ n))

  pub kept-change : IsEndedByChange cmp rules calls q
  unfolding is_stale
  kept-change p address j r o s =
      kept-overwrite p address
      ∙ change_step (is_local cmp rules q) (is_held cmp calls q) (is_kept cmp rules calls q) (is_stale cmp rules calls q) (is_at (cmp p) q) (address_of cmp rules calls q) address j r o (fresh j) s

  held-kept : IsHeldWhileKept cmp rules calls q
  held-kept c before connecting h = held_or cmp rules c calls q h before connecting

  pub kept-after : IsKeptAfter cmp rules calls q
  kept-after = record {
    begun = λ c. kept_of-more cmp rules c calls q;
    left = kept-left;
    dial = kept-dial;
    listen = kept-listen;
    unblock = kept-unblock;
    connect = kept-connect;
    release = kept-release;
    block = kept-block;
    track = kept-track;
    overwrite = kept-overwrite;
    refused = kept-refused;
    kill = kept-kill;
    change = kept-change;
    held = held-kept;
  }
