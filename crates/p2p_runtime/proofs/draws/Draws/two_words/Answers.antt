use Rattle.std.proofs.Common.{ap, ℕ}
use Rattle.rand_pcg.specs.Lcg.{Lcg}
use Rattle.p2p_runtime.specs.Draws.{two_words}
use Rattle.p2p_runtime.proofs.draws.Draws.two_words.Goals as goal

pub returns-clause-value : goal.returns-clause-value
unfolding two_words
returns-clause-value c = rw (← c.self.view_is) (ap (λ (p : ℕ × Lcg). p.0) c.next_u64_via_u32.ensures)

pub returns-clause-after : goal.returns-clause-after
unfolding two_words
returns-clause-after c = rw (← c.self.view_is) (ap (λ (p : ℕ × Lcg). p.1) c.next_u64_via_u32.ensures)
