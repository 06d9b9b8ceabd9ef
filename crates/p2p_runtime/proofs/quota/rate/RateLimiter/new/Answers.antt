use Rattle.p2p_runtime.proofs.QuotaChecks.{new_stands}
use Rattle.p2p_runtime.proofs.quota.rate.RateLimiter.new.Goals as goal

pub returns-clause-empty : goal.returns-clause-empty
returns-clause-empty c = new_stands c.args.quota
