-- The words of the command `threads`.
use Rattle.std.specs.Prelude.{ℕ, ◌*◌, ◌≤◌, List, codes, String}
use Rattle.p2p_sim.specs.Words.{Spells}

-- so many senders, and so many messages of each, are within their bounds
pub record AreWithin (n m : ℕ) : Type 0 where
  pub some_senders : 1 ≤ n
  pub senders : n ≤ 64
  pub some_messages : 1 ≤ m
  pub messages : m ≤ 10000
  pub all : n * m ≤ 65536

-- the words are `threads`, the number of senders and the number of messages of each
pub record AsksThreads {A : Type 0} (words : List (String A)) (n m : ℕ) : Type 0 where
  pub says : Spells words (codes "threads") n m
  pub within : AreWithin n m
