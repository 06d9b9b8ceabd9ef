-- What one more entry tells, and what it makes of what is asked of what was told.
use Rattle.std.proofs.Common.{◌≡◌, ℕ, suc, ◌≤◌, length, subst, arith, length-append, Bool, true, false, List, [], ◌∷◌, ◌++◌, refl, ap, sym, ◌∙◌, append_assoc, append-nil, Option, Some, None}
use Rattle.std.specs.Prelude.{◌||◌, unwrap_or}
use Rattle.std.specs.List.{list_any}
use Rattle.std.proofs.lemmas.List.Folds.{list_any-append}
use Rattle.p2p_log.specs.declared.entry.Entry.{Entry}
use Rattle.p2p_log.specs.declared.entry.Reply.{Reply}
use Rattle.p2p_log.specs.declared.entry.Reply.TheVariants as reply
use Rattle.p2p_log_rules.specs.Taking.{state_from}
use Rattle.p2p_log_rules.specs.Tellings.{Telling, Last, or_last, last_told, last_or, or_new, first_or, any_or, least_by, least_or}
use Rattle.p2p_log_rules.specs.Told.{when, done_tells, tells, told_by, told}
use Rattle.p2p_log_rules.proofs.Taking.{state_from-append}

pub told-append : (log : List Entry) (e : Entry) → told (log ++ e ∷ []) ≡ told log ++ tells (told log) log e
unfolding told
told-append log e = state_from-append told_by [] log e []

-- ---- words, after one telling more

pub last_or-append : {X : Type 0} (x : X) (pick : Telling → Option X) (ts us : List Telling) → last_or x pick (ts ++ us) ≡ last_or (last_or x pick ts) pick us
last_or-append x pick [] us = refl
last_or-append x pick (t ∷ ts) us = last_or-append (unwrap_or (pick t) x) pick ts us

pub first_or-append : {X : Type 0} (o : Option X) (pick : Telling → Option X) (ts us : List Telling) → first_or o pick (ts ++ us) ≡ first_or (first_or o pick ts) pick us
first_or-append o pick [] us = refl
first_or-append o pick (t ∷ ts) us = first_or-append (or_new (pick t) o) pick ts us

pub any_or-append : (b : Bool) (test : Telling → Bool) (ts us : List Telling) → any_or b test (ts ++ us) ≡ any_or (any_or b test ts) test us
any_or-append b test [] us = refl
any_or-append b test (t ∷ ts) us = any_or-append (test t || b) test ts us

pub least_or-append : (x : ℕ) (pick : Telling → Option ℕ) (ts us : List Telling) → least_or x pick (ts ++ us) ≡ least_or (least_or x pick ts) pick us
least_or-append x pick [] us = refl
least_or-append x pick (t ∷ ts) us = least_or-append (least_by (pick t) x) pick ts us

abbrev pub with_last : {X : Type 0} → Option X → Telling → Option (Last X) → Option (Last X)
with_last (Some x) t o = Some (record { told = x; since = [] })
with_last None t None = None
with_last None t (Some l) = Some (record { told = l.told; since = l.since ++ t ∷ [] })

pub last_told-one : {X : Type 0} (pick : Telling → Option X) (ts : List Telling) (t : Telling) → last_told pick (ts ++ t ∷ []) ≡ with_last (pick t) t (last_told pick ts)
unfolding last_told
last_told-one pick [] t = by (pick t)
  where
    by : {X : Type 0} (o : Option X) → or_last None o [] ≡ with_last o t None
    by None = refl
    by (Some x) = refl
last_told-one pick (u ∷ us) t = ap (λ o. or_last o (pick u) (us ++ t ∷ [])) (last_told-one pick us t) ∙ by (pick t) (last_told pick us) (pick u)
  where
    by : {X : Type 0} (new : Option X) (o : Option (Last X)) (p : Option X) → or_last (with_last new t o) p (us ++ t ∷ []) ≡ with_last new t (or_last o p us)
    by (Some x) o p = refl
    by None (Some l) p = refl
    by None None None = refl
    by None None (Some x) = refl

-- ---- what tells nothing of a thing

-- what is read off tellings, and one telling more that is not about its thing leaves alone
abbrev pub Ignores : {X : Type 0} → (Telling → Bool) → (List Telling → X) → Type 0
Ignores about f = (ts : List Telling) (t : Telling) → about t ≡ false → f (ts ++ t ∷ []) ≡ f ts

pub or_left : (a b : Bool) → (a || b) ≡ false → a ≡ false
or_left false b h = refl
or_left true b h = h

pub or_right : (a b : Bool) → (a || b) ≡ false → b ≡ false
or_right false b h = h
or_right true b h = absurd (none h)
  where
    none : true ≡ false → ⊥
    none e = cc

-- then so do any number of them
pub ignored : {X : Type 0} (about : Telling → Bool) (f : List Telling → X) → Ignores about f → (ts us : List Telling) → list_any about us ≡ false → f (ts ++ us) ≡ f ts
ignored about f one ts [] h = ap f (append-nil ts)
ignored about f one ts (u ∷ us) h =
    ap f (sym (append_assoc ts (u ∷ []) us))
    ∙ (ignored about f one (ts ++ u ∷ []) us (or_right (about u) (list_any about us) h) ∙ one ts u (or_left (about u) (list_any about us) h))

-- an entry that tells nothing of a thing leaves alone what is read off a log of it
pub untold : {X : Type 0} (about : Telling → Bool) (f : List Telling → X) → Ignores about f → (log : List Entry) (e : Entry) → list_any about (tells (told log) log e) ≡ false
    → f (told (log ++ e ∷ [])) ≡ f (told log)
untold about f one log e none = ap f (told-append log e) ∙ ignored about f one (told log) (tells (told log) log e) none

-- ---- what tells nothing, by its form

pub append_quiet : (about : Telling → Bool) (ts us : List Telling) → list_any about ts ≡ false → list_any about us ≡ false → list_any about (ts ++ us) ≡ false
append_quiet about ts us h k = list_any-append about ts us ∙ (ap (λ b. b || list_any about us) h ∙ k)

pub when_quiet : (about : Telling → Bool) (b : Bool) (ts : List Telling) → list_any about ts ≡ false → list_any about (when b ts) ≡ false
when_quiet about true ts h = h
when_quiet about false ts h = refl

pub done_quiet : (about : Telling → Bool) (r : Reply) (ts : List Telling) → list_any about ts ≡ false → list_any about (done_tells r ts) ≡ false
done_quiet about reply.Ok ts h = h
done_quiet about _ ts h = refl

-- ---- what takes its name from the entry that begins it: there is none of a later name

module _ {X : Type 0} (f : List Telling → ℕ → Option X) (none : (k : ℕ) → f [] k ≡ None)
    (each : (before : List Entry) (e : Entry) (ts : List Telling) (k : ℕ) → suc (length before) ≤ k → f ts k ≡ None → f (ts ++ tells ts before e) k ≡ None) where
  late_from : (before es : List Entry) (ts : List Telling) → ((k : ℕ) → length before ≤ k → f ts k ≡ None) → (k : ℕ) → length (before ++ es) ≤ k → f (state_from told_by before es ts) k ≡ None
  unfolding state_from
  late_from before [] ts all k past = all k (subst (λ l. length l ≤ k) (append-nil before) past)
  late_from before (e ∷ es) ts all k past =
      late_from (before ++ e ∷ []) es (ts ++ tells ts before e) (λ j later. each before e ts j (more before e j later) (all j (less (length before) j (more before e j later)))) k
      (subst (λ l. length l ≤ k) (sym (append_assoc before (e ∷ []) es)) past)
    where
      more : (before : List Entry) (e : Entry) (k : ℕ) → length (before ++ e ∷ []) ≤ k → suc (length before) ≤ k
      more before e k past = let longer = length-append before (e ∷ []) in omega (arith, longer, past)

      less : (m k : ℕ) → suc m ≤ k → m ≤ k
      less m k h = omega (arith, h)

  pub late_told : (log : List Entry) (k : ℕ) → length log ≤ k → f (told log) k ≡ None
  unfolding told
  late_told log k past = late_from [] log [] (λ j h. none j) k past
