-- What one more entry makes of the accepted sends.
use Rattle.std.proofs.Common.{◌≡◌, ℕ, zero, suc, Bool, true, false, cond, List, [], ◌∷◌, ◌++◌, length, Option, Some, None, refl, ap, ◌∙◌, arith}
use Rattle.std.specs.Prelude.{◌==◌, nat_lt, slice_get}
use Rattle.std.proofs.lemmas.Bool.Decides.{nat_tests}
use Rattle.p2p_log.specs.declared.entry.Entry.{Entry}
use Rattle.p2p_log.specs.Sending.{Sending, sending_of, sending_in, sending_at}
use Rattle.p2p_log.proofs.Places.{slice_get-append, slice_get-seam}

pub get_longer : {X : Type 0} (xs ys : List X) (n : ℕ) (x : X) → slice_get xs n ≡ Some x → slice_get (xs ++ ys) n ≡ Some x
get_longer [] ys n x h = absurd (cc)
get_longer (y ∷ xs) ys zero x h = h
get_longer (y ∷ xs) ys (suc n) x h = get_longer xs ys n x h

-- what was sent stays so
pub sending_at-longer : (log more : List Entry) (n : ℕ) (s : Sending) → sending_at log n ≡ Some s → sending_at (log ++ more) n ≡ Some s
unfolding sending_at
sending_at-longer log more n s h = go (slice_get log n) refl h
  where
    go : (o : Option Entry) → slice_get log n ≡ o → sending_in o ≡ Some s → sending_in (slice_get (log ++ more) n) ≡ Some s
    go None e k = absurd (cc)
    go (Some d) e k = ap sending_in (get_longer log more n d e) ∙ k

-- an entry after these
pub sending_at-at : (log : List Entry) (e : Entry) (more : List Entry) → sending_at (log ++ e ∷ more) (length log) ≡ sending_of e.event.act e.reply
unfolding sending_at
sending_at-at log e more = ap sending_in (slice_get-seam log e more)

pub sending_at-last : (log : List Entry) (e : Entry) → sending_at (log ++ e ∷ []) (length log) ≡ sending_of e.event.act e.reply
sending_at-last log e = sending_at-at log e []

-- each entry, with one more
pub sending_at-append : (log : List Entry) (e : Entry) (n : ℕ)
    → sending_at (log ++ e ∷ []) n ≡ cond (nat_lt n (length log)) (sending_at log n) (cond (n == length log) (sending_of e.event.act e.reply) None)
unfolding sending_at
sending_at-append log e n = ap sending_in (slice_get-append log e n) ∙ go (nat_lt n (length log)) (slice_get log n) (n == length log)
  where
    go : (b : Bool) (o : Option Entry) (last : Bool)
        → sending_in (cond b o (cond last (Some e) None)) ≡ cond b (sending_in o) (cond last (sending_of e.event.act e.reply) None)
    go true o last = refl
    go false o true = refl
    go false o false = refl

-- past the end nothing is sent
pub sending_at-past : (log : List Entry) (n : ℕ) → nat_lt n (length log) ≡ false → sending_at log n ≡ None
unfolding sending_at
sending_at-past log n h = ap sending_in (past log n h)
  where
    past : (xs : List Entry) (n : ℕ) → nat_lt n (length xs) ≡ false → slice_get xs n ≡ None
    past [] n h = refl
    past (x ∷ xs) zero h = absurd (grind (arith, nat_tests))
    past (x ∷ xs) (suc n) h = past xs n (grind (arith, nat_tests))
