-- What is left where the line of a queue was taken: nothing there, and every other line.
use Rattle.std.proofs.Common.{◌≡◌, ℕ, true, false, List, [], ◌∷◌, inl, inr, map, refl, ap, ◌∙◌}
use Rattle.std.specs.Prelude.{filter, not, ◌||◌}
use Rattle.std.specs.List.{list_any}
use Rattle.p2p_log.specs.declared.queue.Queue.{Queue}
use Rattle.p2p_log.specs.declared.item.Envelope.{Envelope}
use Rattle.p2p_log.specs.Apart.{AreApart}
use Rattle.p2p_log.specs.Lines.{name_of, same_name, stays, stands_in}
use Rattle.p2p_log.specs.QueueCode.{same_queue}
use Rattle.p2p_log.proofs.Each.{Has, Each-from_has}
use Rattle.p2p_log.proofs.Filters.{filter-none, filter-swap}
use Rattle.p2p_log.proofs.Names.{AreApart-filter, same_name-refl}
use Rattle.p2p_log.proofs.Taken.{other_left}
use Rattle.p2p_log_rules.proofs.Bools.{or_true}

-- these items without those
abbrev pub left : List Envelope → List Envelope → List Envelope
left gone items = filter (stays (map name_of gone)) items

-- and without all that stand in a queue
abbrev pub without : Queue → List Envelope → List Envelope
without q items = left (filter (stands_in q) items) items

named_any : (name : ℕ × ℕ) (ys : List Envelope) (y : Envelope) → Has ys y → name_of y ≡ name → list_any (same_name name) (map name_of ys) ≡ true
named_any name [] y h e = absurd h
named_any name (z ∷ ys) y h e = elim h [
  | inl is ↦ ap (λ b. b || list_any (same_name name) (map name_of ys)) (ap (same_name name) (ap name_of is ∙ e) ∙ same_name-refl name)
  | inr l ↦ ap (λ b. same_name name (name_of z) || b) (named_any name ys y l e) ∙ or_true (same_name name (name_of z))
]

all_gone : (ys : List Envelope) → left ys ys ≡ []
all_gone ys =
    filter-none (stays (map name_of ys)) ys
    (Each-from_has (λ (y : Envelope). stays (map name_of ys) y ≡ false) ys (λ y h. ap not (named_any (name_of y) ys y h refl)))

-- nothing is left there
pub line_gone : (xs : List Envelope) (q : Queue) → filter (stands_in q) (without q xs) ≡ []
line_gone xs q = filter-swap (stands_in q) (stays (map name_of (filter (stands_in q) xs))) xs ∙ all_gone (filter (stands_in q) xs)

-- and another line stays
pub line_kept : (q p : Queue) (xs : List Envelope) → AreApart xs → same_queue q p ≡ false → filter (stands_in p) (without q xs) ≡ filter (stands_in p) xs
line_kept q p xs apart differ = other_left xs q p apart differ

pub AreApart-without : (q : Queue) (xs : List Envelope) → AreApart xs → AreApart (without q xs)
AreApart-without q xs apart = AreApart-filter (stays (map name_of (filter (stands_in q) xs))) xs apart
