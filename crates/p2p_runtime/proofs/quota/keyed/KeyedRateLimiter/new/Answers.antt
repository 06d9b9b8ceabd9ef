use Rattle.p2p_runtime.proofs.QuotaEach.{new_each}
use Rattle.p2p_runtime.proofs.quota.keyed.KeyedRateLimiter.new.Goals as goal

pub returns-clause-empty : goal.returns-clause-empty
returns-clause-empty g c = new_each g.K.Ord.cmp c.args.quota c.new.result.entries c.new.ensures.empty
