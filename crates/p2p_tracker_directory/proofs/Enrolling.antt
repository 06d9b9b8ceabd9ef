-- What the steps of a `track` make of a key's record, one after another.
use Rattle.std.proofs.Common.{◌≡◌, ℕ, ◌+◌, ◌-◌, ◌^◌, ◌<◌, Bool, true, false, cond, ◌&&◌, ◌||◌, not, Option, Some, None, refl, sym, ap, ◌∙◌, arith}
use Rattle.std.proofs.lemmas.Bool.{false≢true, lt-ltb, ltb-true, ltb-false}
use Rattle.std.specs.Prelude.{is_some, nat_lt}
use Rattle.std.specs.Option.{option_map, option_or}
use Rattle.p2p_address.specs.declared.peer.Address.{Address as PeerAddress}
use Rattle.p2p_tracker_directory.specs.Recorded.{Recorded, is_myself, is_inert, is_deletable, updated}
use Rattle.p2p_tracker_directory.specs.Tracked.{counted, discounted, enrolled, retired, if_needed, needed, blanked, swept, one_more, joined, parted, enters, leaves}

plus_none : (n : ℕ) → n + 0 ≡ n
plus_none n = omega arith

less_none : (n : ℕ) → n - 0 ≡ n
less_none n = omega arith

pub counted-none : (r : Recorded) → counted r false false ≡ r
counted-none r = ap (λ x. record r { primary = x; secondary = r.secondary + 0 }) (plus_none r.primary) ∙ ap (λ x. record r { secondary = x }) (plus_none r.secondary)

-- a set that isn't accepted leaves the record
pub retired-none : (r : Option Recorded) → retired r false false ≡ r
retired-none None = refl
retired-none (Some r) = refl

pub enrolled-none : (r : Option Recorded) → enrolled r None false false ≡ r
enrolled-none None = refl
enrolled-none (Some r) = ap (λ s. Some s) (counted-none r)

-- the counts of a record have room for one more
unfoldable pub HasRoom : Option Recorded → Type 0
HasRoom r = (s : Recorded) → r ≡ Some s → (s.primary < 2 ^ 64 - 1) × (s.secondary < 2 ^ 64 - 1)

one_more-below : (n : ℕ) → n < 2 ^ 64 - 1 → one_more n ≡ n + 1
one_more-below n h = ap (λ b. cond b (n + 1) n) (lt-ltb n (2 ^ 64 - 1) h)

joined-primary : (r : Recorded) → r.primary < 2 ^ 64 - 1 → joined true r ≡ counted r true false
joined-primary r h =
    ap (λ x. record r { primary = x }) (one_more-below r.primary h) ∙ ap (λ x. record r { primary = r.primary + 1; secondary = x }) (sym (plus_none r.secondary))

joined-secondary : (r : Recorded) → r.secondary < 2 ^ 64 - 1 → joined false r ≡ counted r false true
joined-secondary r h =
    ap (λ x. record r { secondary = x }) (one_more-below r.secondary h) ∙ ap (λ x. record r { primary = x; secondary = r.secondary + 1 }) (sym (plus_none r.primary))

-- blank records, and then the peers of each role: no peer has both
pub enters-blanked : (r : Option Recorded) (a b : Option PeerAddress) → HasRoom r → (is_some b ≡ true → a ≡ None)
    → enters false b (enters true a (blanked (is_some b) (blanked (is_some a) r))) ≡ enrolled r (option_or a b) (is_some a) (is_some b)
unfolding HasRoom
enters-blanked r (Some a) (Some b) room one = absurd (false≢true (sym (ap is_some (one refl))))
enters-blanked None (Some a) None room one = refl
enters-blanked None None (Some b) room one = refl
enters-blanked None None None room one = refl
enters-blanked (Some r) (Some a) None room one = ap (λ s. Some s) (joined-primary (updated r a) (room r refl).0)
enters-blanked (Some r) None (Some b) room one = ap (λ s. Some s) (joined-secondary (updated r b) (room r refl).1)
enters-blanked (Some r) None None room one = ap (λ s. Some s) (sym (counted-none r))

parted-primary : (r : Recorded) → parted true r ≡ discounted r true false
parted-primary r = ap (λ x. record r { primary = r.primary - 1; secondary = x }) (sym (less_none r.secondary))

parted-secondary : (r : Recorded) → parted false r ≡ discounted r false true
parted-secondary r = ap (λ x. record r { primary = x; secondary = r.secondary - 1 }) (sym (less_none r.primary))

none_less : (n : ℕ) → nat_lt 0 n ≡ false → nat_lt 0 (n - 1) ≡ false
none_less n e = at (nat_lt 0 (n - 1)) refl
  where
    at : (b : Bool) → nat_lt 0 (n - 1) ≡ b → b ≡ false
    at true h = let least = ltb-false 0 n e in let more = ltb-true 0 (n - 1) h in absurd (omega (arith, least, more))
    at false h = refl

less_needed : (m a b c i : Bool) → (b ≡ false → c ≡ false) → (not m && not (a || b) && i) ≡ true → (not m && not (a || c) && i) ≡ true
less_needed true a b c i h e = e
less_needed false true b c i h e = e
less_needed false false true c i h e = absurd (false≢true e)
less_needed false false false c i h e = ap (λ x. not x && i) (h refl) ∙ e

-- what nothing needs isn't needed after one set less
deletable-parted : (r : Recorded) → is_deletable r ≡ true → is_deletable (parted false r) ≡ true
deletable-parted r = less_needed (is_myself r.address) (nat_lt 0 r.primary) (nat_lt 0 r.secondary) (nat_lt 0 (r.secondary - 1)) (is_inert r.status) (none_less r.secondary)

after_both : (b : Bool) (r : Recorded) → (b ≡ true → is_deletable (parted false r) ≡ true) → needed (option_map (parted false) (cond b None (Some r))) ≡ if_needed (parted false r)
after_both true r h = sym (ap (λ b. cond b None (Some (parted false r))) (h refl))
after_both false r h = refl

-- the set that is kept no longer, one role after the other
pub leaves-both : (r : Option Recorded) (p s : Bool) → leaves false s (leaves true p r) ≡ retired r p s
leaves-both None true true = refl
leaves-both None true false = refl
leaves-both None false true = refl
leaves-both None false false = refl
leaves-both (Some r) true true = after_both (is_deletable (parted true r)) (parted true r) (deletable-parted (parted true r))
leaves-both (Some r) true false = ap if_needed (parted-primary r)
leaves-both (Some r) false true = ap if_needed (parted-secondary r)
leaves-both (Some r) false false = refl

-- the peers of two roles are swept in either order
pub swept-swap : (p s : Bool) (r : Option Recorded) → swept p (swept s r) ≡ swept s (swept p r)
swept-swap true true r = refl
swept-swap true false r = refl
swept-swap false s r = refl

-- a record that was made for a peer is swept with it
pub swept-blanked : (p s : Bool) (r : Option Recorded) → swept p (swept s (blanked p r)) ≡ swept p (swept s r)
swept-blanked true true None = refl
swept-blanked true false None = refl
swept-blanked false s None = refl
swept-blanked p s (Some r) = refl
