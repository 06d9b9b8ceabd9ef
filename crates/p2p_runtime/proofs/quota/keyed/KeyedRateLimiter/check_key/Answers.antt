-- Both ways out are the laws of `QuotaEach` at the limiter's fields.
use Rattle.std.proofs.Common.{sym, ap, ◌∙◌, unwrap_or}
use Rattle.p2p_runtime.proofs.QuotaEach.{passed_key_call, refused_key_call}
use Rattle.p2p_runtime.proofs.quota.keyed.KeyedRateLimiter.check_key.Goals as goal

pub returns-in_ok-insert-in-Ok-clause-law : goal.returns-in_ok-insert-in-Ok-clause-law
returns-in_ok-insert-in-Ok-clause-law g c = λ past latest stands.
    sym (passed_key_call g.K.Ord.cmp g.met.K.Ord.total _ _ _ _ _ _ _ _ _ _ c.self.view_is c.self.invariant.0 c.max-at.ensures (c.unwrap_or-arrival.ensures ∙ ap (λ found. unwrap_or found 0) (c.copied.ensures ∙ c.get.ensures.value)) c.in-Ok.ensures c.in_ok-insert-in-Ok.ensures.updates.0 past latest stands).0

pub returns-in_ok-insert-in-Ok-clause-admitted : goal.returns-in_ok-insert-in-Ok-clause-admitted
returns-in_ok-insert-in-Ok-clause-admitted g c = λ past latest stands.
    (passed_key_call g.K.Ord.cmp g.met.K.Ord.total _ _ _ _ _ _ _ _ _ _ c.self.view_is c.self.invariant.0 c.max-at.ensures (c.unwrap_or-arrival.ensures ∙ ap (λ found. unwrap_or found 0) (c.copied.ensures ∙ c.get.ensures.value)) c.in-Ok.ensures c.in_ok-insert-in-Ok.ensures.updates.0 past latest stands).1

pub returns-in-Err-clause-law : goal.returns-in-Err-clause-law
returns-in-Err-clause-law g c = λ past latest stands.
    sym (refused_key_call g.K.Ord.cmp g.met.K.Ord.total _ _ _ _ _ _ _ _ _ c.self.view_is c.self.invariant.0 c.max-at.ensures (c.unwrap_or-arrival.ensures ∙ ap (λ found. unwrap_or found 0) (c.copied.ensures ∙ c.get.ensures.value)) c.in-Err.ensures past latest stands).0

pub returns-in-Err-clause-retry : goal.returns-in-Err-clause-retry
returns-in-Err-clause-retry g c = λ past latest stands.
    (refused_key_call g.K.Ord.cmp g.met.K.Ord.total _ _ _ _ _ _ _ _ _ c.self.view_is c.self.invariant.0 c.max-at.ensures (c.unwrap_or-arrival.ensures ∙ ap (λ found. unwrap_or found 0) (c.copied.ensures ∙ c.get.ensures.value)) c.in-Err.ensures past latest stands).1

pub returns-in-Err-clause-refused : goal.returns-in-Err-clause-refused
returns-in-Err-clause-refused g c = λ past latest stands.
    (refused_key_call g.K.Ord.cmp g.met.K.Ord.total _ _ _ _ _ _ _ _ _ c.self.view_is c.self.invariant.0 c.max-at.ensures (c.unwrap_or-arrival.ensures ∙ ap (λ found. unwrap_or found 0) (c.copied.ensures ∙ c.get.ensures.value)) c.in-Err.ensures past latest stands).2
