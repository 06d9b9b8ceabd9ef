-- The rings of the subscriptions, once a list was put for some of them.
use Rattle.std.proofs.Common.{◌≡◌, ℕ, zero, suc, ◌<◌, ◌≤◌, Bool, true, false, cond, List, [], ◌∷◌, ◌++◌, length, drop, refl, ap, sym, subst, ◌∙◌, arith, if◌then◌else◌}
use Rattle.std.specs.Prelude.{nat_lt, slice_index_or, slice_set, ◌==◌, ◌||◌, not, filter}
use Rattle.std.specs.List.{list_any, AllByRecursion}
use Rattle.std.proofs.Math.ListN.{length-set}
use Rattle.std.proofs.lemmas.Bool.Decides.{nat_tests}
use Rattle.std.proofs.lemmas.Bool.{false≢true}
use Rattle.p2p_base.specs.Queue.{Queue, pushed_on, without_oldest, empty_queue}
use Rattle.p2p_base.specs.declared.key.Key.{Key}
use Rattle.p2p_router.specs.Messenger.{Desk, lists_of, told_one, told_all, is_heard}
use Rattle.p2p_net_router.specs.Items.{channel_of, lists_in}
use Rattle.p2p_net_router.specs.Sound.{IsRing, AreDistinct}

pushed_items :
    {T : Type 0} (xs : List T) (x : T) (capacity : ℕ) (closed : Bool) → capacity ≡ 1 → closed ≡ false → length xs ≤ 1
    → (if closed then xs else (if nat_lt (length xs) capacity then xs ++ x ∷ [] else drop 1 xs ++ x ∷ [])) ≡ x ∷ []
pushed_items [] x capacity closed one unclosed le =
    ap (λ b. if b then [] else (if nat_lt 0 capacity then x ∷ [] else x ∷ [])) unclosed ∙ ap (λ k. if nat_lt 0 k then x ∷ [] else x ∷ []) one
pushed_items (y ∷ []) x capacity closed one unclosed le =
    ap (λ b. if b then y ∷ [] else (if nat_lt 1 capacity then y ∷ x ∷ [] else x ∷ [])) unclosed ∙ ap (λ k. if nat_lt 1 k then y ∷ x ∷ [] else x ∷ []) one
pushed_items (y ∷ z ∷ xs) x capacity closed one unclosed le = absurd (omega arith)

-- a ring has the list that was put last
pub ring_pushed : (l : Queue (List Key)) (keys : List Key) → IsRing l → (pushed_on l keys).items ≡ keys ∷ []
ring_pushed l keys h = pushed_items l.items keys l.capacity l.closed h.one h.unclosed h.within

pub IsRing-pushed : (l : Queue (List Key)) (keys : List Key) → IsRing l → IsRing (pushed_on l keys)
IsRing-pushed l keys h = record {
  one = h.one;
  within = let e = ap length (ring_pushed l keys h) in omega (arith, e);
  unclosed = h.unclosed;
}

fewer : {T : Type 0} (xs : List T) → length xs ≤ 1 → length (drop 1 xs) ≤ 1
fewer [] le = omega arith
fewer (x ∷ xs) le = omega (arith, le)

-- a ring of which the list was taken
pub IsRing-popped : (l : Queue (List Key)) → IsRing l → IsRing (without_oldest l)
IsRing-popped l h = record { one = h.one; within = fewer l.items h.within; unclosed = h.unclosed }

-- what holds of all, holds of one, and of all once one was set
pub AllByRecursion-at : {X : Type 0} (P : X → Type 0) (xs : List X) (i : ℕ) (d : X) → AllByRecursion P xs → i < length xs → P (slice_index_or xs i d)
AllByRecursion-at P [] i d h lt = absurd (omega arith)
AllByRecursion-at P (x ∷ xs) zero d h lt = h.0
AllByRecursion-at P (x ∷ xs) (suc i) d h lt = AllByRecursion-at P xs i d h.1 (omega arith)

pub AllByRecursion-set : {X : Type 0} (P : X → Type 0) (xs : List X) (i : ℕ) (v : X) → AllByRecursion P xs → P v → AllByRecursion P (slice_set xs i v)
AllByRecursion-set P [] i v h p = tt
AllByRecursion-set P (x ∷ xs) zero v h p = (p, h.1)
AllByRecursion-set P (x ∷ xs) (suc i) v h p = (h.0, AllByRecursion-set P xs i v h.1 p)

pub none_at : (p : ℕ → Bool) (ks : List ℕ) (i : ℕ) → list_any p ks ≡ false → i < length ks → p (channel_of ks i) ≡ false
none_at p [] i h lt = absurd (omega arith)
none_at p (k ∷ ks) zero h lt = (elim (p k) as (λ b. (b || list_any p ks) ≡ false → b ≡ false) [ true ↦ λ e. e | false ↦ λ e. refl ]) h
none_at p (k ∷ ks) (suc i) h lt = none_at p ks i ((elim (p k) as (λ b. (b || list_any p ks) ≡ false → list_any p ks ≡ false) [ true ↦ λ e. absurd (false≢true (sym e)) | false ↦ λ e. e ]) h) (omega arith)

-- two choices, of which one at most is taken
pub two_choices : {X : Type 0} (b d : Bool) (x y z : X) → (b ≡ true → d ≡ false) → cond b x (cond d y z) ≡ cond d y (cond b x z)
two_choices true true x y z h = absurd (false≢true (sym (h refl)))
two_choices true false x y z h = refl
two_choices false d x y z h = refl

-- the lists of each channel, once one ring was set
pub lists_in-set :
    (channels : List ℕ) (lists : List (Queue (List Key))) (s : ℕ) (l : Queue (List Key)) (c : ℕ)
    → s < length lists → length channels ≡ length lists → AreDistinct channels
    → lists_in channels (slice_set lists s l) c ≡ cond (channel_of channels s == c) l.items (lists_in channels lists c)
lists_in-set [] [] s l c lt long distinct = absurd (omega arith)
lists_in-set [] (m ∷ ms) s l c lt long distinct = absurd (omega arith)
lists_in-set (k ∷ ks) [] s l c lt long distinct = absurd (omega arith)
lists_in-set (k ∷ ks) (m ∷ ms) zero l c lt long distinct =
    elim (k == c) as (λ b. cond b l.items (lists_in ks ms c) ≡ cond b l.items (cond b m.items (lists_in ks ms c))) [ true ↦ refl | false ↦ refl ]
lists_in-set (k ∷ ks) (m ∷ ms) (suc s) l c lt long distinct =
    let le : s < length ks = omega (arith, long) in
    let other : (k == channel_of ks s) ≡ false = none_at (λ d. k == d) ks s distinct.0 le in
    ap (λ x. cond (k == c) m.items x) (lists_in-set ks ms s l c (omega arith) (omega (arith, long)) distinct.1)
    ∙ two_choices (k == c) (channel_of ks s == c) m.items l.items (lists_in ks ms c) (λ e. grind (arith, nat_tests))

-- the lists of each channel are those of its subscription
pub lists_in-at :
    (channels : List ℕ) (lists : List (Queue (List Key))) (s c : ℕ)
    → length channels ≡ length lists → AreDistinct channels → s < length channels → channel_of channels s ≡ c
    → lists_in channels lists c ≡ (slice_index_or lists s (empty_queue 1)).items
lists_in-at [] ls s c long distinct lt at = absurd (omega arith)
lists_in-at (k ∷ ks) [] s c long distinct lt at = absurd (omega (arith, long))
lists_in-at (k ∷ ks) (l ∷ ls) zero c long distinct lt at =
    let own : (k == c) ≡ true = grind (arith, nat_tests) in
    ap (λ b. cond b l.items (lists_in ks ls c)) own
lists_in-at (k ∷ ks) (l ∷ ls) (suc s) c long distinct lt at =
    let le : s < length ks = omega arith in
    let other : (k == c) ≡ false = ap (λ d. k == d) (sym at) ∙ none_at (λ d. k == d) ks s distinct.0 le in
    ap (λ b. cond b l.items (lists_in ks ls c)) other ∙ lists_in-at ks ls s c (omega (arith, long)) distinct.1 le at

-- a channel without a subscription has none
pub lists_in-none : (channels : List ℕ) (lists : List (Queue (List Key))) (c : ℕ) → list_any (λ d. d == c) channels ≡ false → lists_in channels lists c ≡ []
lists_in-none [] ls c h = refl
lists_in-none (k ∷ ks) [] c h = refl
lists_in-none (k ∷ ks) (l ∷ ls) c h =
    (elim (k == c) as (λ b. (b || list_any (λ d. d == c) ks) ≡ false → cond b l.items (lists_in ks ls c) ≡ []) [
      | true ↦ λ e. absurd (false≢true (sym e))
      | false ↦ λ e. lists_in-none ks ls c e
    ]) h

-- whether one of these subscriptions is the channel's
abbrev pub tells : List ℕ → List ℕ → ℕ → Bool
tells channels ss c = list_any (λ s. channel_of channels s == c) ss

told_more : {X : Type 0} (b t : Bool) (x y : X) → cond t x (cond b x y) ≡ cond (b || t) x y
told_more true true x y = refl
told_more true false x y = refl
told_more false t x y = refl

-- what a messenger has once a list was put for each of these subscriptions
pub record IsTold (channels : List ℕ) (old new : Desk Key) (keys : List Key) (ss : List ℕ) : Type 0 where
  pub binding : new.binding ≡ old.binding
  pub waiting : new.waiting ≡ old.waiting
  pub long : length new.lists ≡ length old.lists
  pub rings : AllByRecursion IsRing new.lists
  pub lists : (c : ℕ) → lists_in channels new.lists c ≡ cond (tells channels ss c) (keys ∷ []) (lists_in channels old.lists c)

pub told_all-told :
    (channels : List ℕ) (d : Desk Key) (keys : List Key) (ss : List ℕ)
    → AllByRecursion (λ s. s < length d.lists) ss → AllByRecursion IsRing d.lists → length channels ≡ length d.lists → AreDistinct channels
    → IsTold channels d (told_all d keys ss) keys ss
unfolding told_all
told_all-told channels d keys [] within rings long distinct = record { binding = refl; waiting = refl; long = refl; rings = rings; lists = λ c. refl }
told_all-told channels d keys (s ∷ ss) within rings long distinct =
    let ring : IsRing (lists_of d s) = AllByRecursion-at IsRing d.lists s (empty_queue 1) rings within.0 in
    let e = told_one d keys s in
    let same : length e.lists ≡ length d.lists = length-set d.lists s (pushed_on (lists_of d s) keys) in
    let ih = told_all-told channels e keys ss
    (subst (λ k. AllByRecursion (λ s. s < k) ss) (sym same) within.1)
    (AllByRecursion-set IsRing d.lists s (pushed_on (lists_of d s) keys) rings (IsRing-pushed (lists_of d s) keys ring))
    (long ∙ sym same) distinct
    in
    record {
      binding = ih.binding;
      waiting = ih.waiting;
      long = ih.long ∙ same;
      rings = ih.rings;
      lists = λ c.
          ih.lists c
          ∙ (ap (λ l. cond (tells channels ss c) (keys ∷ []) l)
          (lists_in-set channels d.lists s (pushed_on (lists_of d s) keys) c within.0 long distinct
          ∙ ap (λ l. cond (channel_of channels s == c) l (lists_in channels d.lists c)) (ring_pushed (lists_of d s) keys ring))
          ∙ told_more (channel_of channels s == c) (tells channels ss c) (keys ∷ []) (lists_in channels d.lists c));
    }

open_at : (lists : List (Queue (List Key))) (s : ℕ) → AllByRecursion IsRing lists → s < length lists → is_heard lists s ≡ true
open_at [] s rings lt = absurd (omega arith)
open_at (l ∷ ls) zero rings lt = ap (λ b. not b) rings.0.unclosed
open_at (l ∷ ls) (suc s) rings lt = open_at ls s rings.1 (omega arith)

-- every receiver is there
pub heard_all :
    (lists : List (Queue (List Key))) (ss : List ℕ) → AllByRecursion (λ s. s < length lists) ss → AllByRecursion IsRing lists
    → filter (is_heard lists) ss ≡ ss
heard_all lists [] within rings = refl
heard_all lists (s ∷ ss) within rings =
    ap (λ b. cond b (s ∷ filter (is_heard lists) ss) (filter (is_heard lists) ss)) (open_at lists s rings within.0) ∙ ap (λ l. s ∷ l) (heard_all lists ss within.1 rings)
