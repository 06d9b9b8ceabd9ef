-- The words of the program.
use Rattle.std.specs.Prelude.{ℕ, List, String}
use Rattle.p2p_sim.specs.ScriptWords.{AsksScript}
use Rattle.p2p_sim.specs.ThreadWords.{AsksThreads}

-- the words aren't those of `threads`
abbrev pub AsksNoThreads : {A : Type 0} → List (String A) → Type 0
AsksNoThreads words = (n m : ℕ) → ¬ AsksThreads words n m

-- the words aren't those of `gen`
abbrev pub AsksNoScript : {A : Type 0} → List (String A) → Type 0
AsksNoScript words = (count seed : ℕ) → ¬ AsksScript words count seed
