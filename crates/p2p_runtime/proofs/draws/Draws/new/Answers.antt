use Rattle.p2p_runtime.specs.Draws.{seeded}
use Rattle.p2p_runtime.proofs.draws.Draws.new.Goals as goal

pub returns : goal.returns
unfolding seeded
returns c = c.seed_from_u64.ensures
