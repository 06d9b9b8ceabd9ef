-- Both ways out are the laws of `QuotaChecks` at the limiter's fields.
use Rattle.std.proofs.Common.{sym}
use Rattle.std.proofs.lemmas.Result.{err_from_is_err_and}
use Rattle.p2p_runtime.proofs.QuotaChecks.{passed_call, refused_call}
use Rattle.p2p_runtime.proofs.quota.rate.RateLimiter.check.Goals as goal

pub returns-in_err-self-inside-clause-law : goal.returns-in_err-self-inside-clause-law
returns-in_err-self-inside-clause-law c = λ past latest stands.
    let refused = refused_call _ _ _ _ _ _ _ c.self.view_is c.self.invariant.0 c.max-self-inside.ensures c.in_err-self-inside.ensures past latest stands in
    let left = err_from_is_err_and c.from_residual.result c.from_residual.ensures.1 in
    rw left.1 (sym refused.0)

pub returns-in_err-self-inside-clause-retry : goal.returns-in_err-self-inside-clause-retry
returns-in_err-self-inside-clause-retry c = λ past latest stands.
    let refused = refused_call _ _ _ _ _ _ _ c.self.view_is c.self.invariant.0 c.max-self-inside.ensures c.in_err-self-inside.ensures past latest stands in
    let left = err_from_is_err_and c.from_residual.result c.from_residual.ensures.1 in
    rw (left.1, left.2) refused.1

pub returns-in_err-self-inside-clause-refused : goal.returns-in_err-self-inside-clause-refused
returns-in_err-self-inside-clause-refused c = λ past latest stands.
    let refused = refused_call _ _ _ _ _ _ _ c.self.view_is c.self.invariant.0 c.max-self-inside.ensures c.in_err-self-inside.ensures past latest stands in
    let left = err_from_is_err_and c.from_residual.result c.from_residual.ensures.1 in
    rw left.1 refused.2

pub returns-clause-law : goal.returns-clause-law
returns-clause-law c = λ past latest stands.
    sym (passed_call _ _ _ _ _ _ _ c.self.view_is c.self.invariant.0 c.max-self-inside.ensures c.in_ok-self-inside.ensures past latest stands).0

pub returns-clause-admitted : goal.returns-clause-admitted
returns-clause-admitted c = λ past latest stands.
    (passed_call _ _ _ _ _ _ _ c.self.view_is c.self.invariant.0 c.max-self-inside.ensures c.in_ok-self-inside.ensures past latest stands).1
