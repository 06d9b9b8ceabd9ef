-- What is drawn from the words of a generator.
use Rattle.std.specs.Prelude.{ℕ, zero, suc, ◌+◌, ◌-◌, ◌*◌, ◌%◌, ◌^◌, List, length}
use Rattle.std.specs.List.{swap}
use Rattle.rand_core.specs.Pcg32Seed.{pcg32_seed}
use Rattle.rand_pcg.specs.Lcg.{Lcg}
use Rattle.rand_pcg.specs.Pcg.{pcg32, pcg32_of_seed}

-- the generator of a seed
unfoldable pub seeded : ℕ → Lcg
seeded seed = pcg32_of_seed (pcg32_seed 16 seed)

-- the next two words of 32 bits as one number, the first one low, and the generator after them
unfoldable pub two_words : Lcg → ℕ × Lcg
two_words g = ((pcg32 g).0 + (pcg32 (pcg32 g).1).0 * 2 ^ 32, (pcg32 (pcg32 g).1).1)

-- a number up to `most`, and the generator after it
abbrev pub drawn : ℕ → Lcg → ℕ × Lcg
drawn most g = ((two_words g).0 % (most + 1), (two_words g).1)

module _ {T : Type 0} where
  -- the list after the exchanges at the places from the given one down to 1, and the generator after them
  unfoldable pub exchanged : ℕ → List T → Lcg → List T × Lcg
  exchanged zero xs g = (xs, g)
  exchanged (suc i) xs g = exchanged i (swap xs (suc i) (drawn (suc i) g).0) (drawn (suc i) g).1

  -- the list with its elements in a drawn order, and the generator after it
  abbrev pub shuffled : List T → Lcg → List T × Lcg
  shuffled xs g = exchanged (length xs - 1) xs g
