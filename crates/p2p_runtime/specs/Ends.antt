-- One end of a link in memory.
use Rattle.std.specs.Prelude.{◌≡◌, ℕ, Bool, ◌&&◌, ◌||◌, List, ◌==◌, length}

-- the frames that wait here and those written here; whether the link is cut, and whether the other end is gone; how often a call failed
pub record End : Type 0 where
  pub waiting : List (List ℕ)
  pub in_flight : List (List ℕ)
  pub cut : Bool
  pub alone : Bool
  pub faults : ℕ

-- a write fails on a cut link, and where the other end is gone
abbrev pub write_breaks : End → Bool
write_breaks e = e.cut || e.alone

-- a read fails on a cut link, and where the other end is gone and nothing waits
abbrev pub read_breaks : End → Bool
read_breaks e = e.cut || (e.alone && (length e.waiting == 0))

-- the link is cut in both or in neither, and likewise the other end gone
abbrev pub KeepsEnd : End → End → Type 0
KeepsEnd old new = (new.cut ≡ old.cut) × (new.alone ≡ old.alone)
