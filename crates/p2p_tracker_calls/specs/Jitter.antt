-- How long after its cooldown a peer that is granted is listed for a dial.
use Rattle.std.specs.Prelude.{ℕ, ◌/◌}
use Rattle.p2p_runtime.specs.Draws.{seeded, drawn}

-- the jitter of a grant that is drawn from the seed: at most half the cooldown
abbrev pub jitter_of : ℕ → ℕ → ℕ
jitter_of cooldown seed = (drawn (cooldown / 2) (seeded seed)).0
