-- `retain` leaves a filter of the entries, and the laws of `QuotaEach` say what that leaves for each key.
use Rattle.std.proofs.Common.{◌≡◌, nat_lt, filter, rules}
use Rattle.std.proofs.lemmas.Map.Made.{filter_same_pairs}
use Rattle.p2p_runtime.proofs.QuotaEach.{near_after, recent_after, stands_after}
use Rattle.p2p_runtime.proofs.quota.keyed.KeyedRateLimiter.retain_recent.Goals as goal

pub invariant_of-self : goal.invariant_of-self
invariant_of-self g c =
    let left : c.retain.new.self.entries ≡ filter (λ e. nat_lt c.self.inside.latest e.1) c.self.inside.arrivals.entries = filter_same_pairs _ _ _ (λ k v b w f' t. search rules) _ _ c.retain.ensures.filtered in
    (c.self.invariant.0, near_after g.K.Ord.cmp g.met.K.Ord.total c.self.inside.quota _ _ c.self.inside.latest c.retain.ensures.was_ordered left c.self.invariant.1)

pub returns-clause-same : goal.returns-clause-same
returns-clause-same g c =
    let left : c.retain.new.self.entries ≡ filter (λ e. nat_lt c.self.inside.latest e.1) c.self.inside.arrivals.entries = filter_same_pairs _ _ _ (λ k v b w f' t. search rules) _ _ c.retain.ensures.filtered in
    stands_after g.K.Ord.cmp g.met.K.Ord.total c.self.inside.quota _ _ c.self.inside.latest c.retain.ensures.was_ordered left c.args.self.now c.self.view_is

pub returns-clause-forgets : goal.returns-clause-forgets
returns-clause-forgets g c =
    let left : c.retain.new.self.entries ≡ filter (λ e. nat_lt c.self.inside.latest e.1) c.self.inside.arrivals.entries = filter_same_pairs _ _ _ (λ k v b w f' t. search rules) _ _ c.retain.ensures.filtered in
    recent_after g.K.Ord.cmp g.met.K.Ord.total c.self.inside.quota _ _ c.self.inside.latest c.retain.ensures.was_ordered left
