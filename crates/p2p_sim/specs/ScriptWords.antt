-- The words of the command `gen`.
use Rattle.std.specs.Prelude.{ℕ, ◌≤◌, ◌<◌, ◌^◌, List, codes, String}
use Rattle.p2p_sim.specs.Words.{Spells}

-- a script may have so many events
pub record IsLength (count : ℕ) : Type 0 where
  pub least : 1 ≤ count
  pub most : count ≤ 100000

-- the words are `gen`, the number of events and the seed
pub record AsksScript {A : Type 0} (words : List (String A)) (count seed : ℕ) : Type 0 where
  pub says : Spells words (codes "gen") count seed
  pub within : IsLength count
  pub fits : seed < 2 ^ 64
