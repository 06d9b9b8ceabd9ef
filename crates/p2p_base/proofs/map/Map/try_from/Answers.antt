use Rattle.std.proofs.Common.{◌<◌, suc, length, arith, rules}
use Rattle.std.proofs.lemmas.Cmp.{on_total}
use Rattle.std.proofs.lemmas.List.Filters.{dedup_is}
use Rattle.std.proofs.lemmas.List.Sorted.{answers_always}
use Rattle.p2p_base.specs.Sorted.{sorted_once, by_key}
use Rattle.p2p_base.proofs.MapMade.{rest_ascends, rest_long, rest_whole}
use Rattle.p2p_base.proofs.SortedRepeats.{has_repeat-false, has_repeat-true}
use Rattle.p2p_base.proofs.map.Map.try_from.Goals as goal

pub of_ascending-keys-requires : goal.of_ascending-keys-requires
of_ascending-keys-requires g c =
    rest_ascends g.met.P.Ord.total g.met.P.Ord.matches_eq c.args.pairs.items c.sort_by_key.new.self.items
    (c.in_ok-sort_by_key.ensures.stable (λ e. e.0) (answers_always _ _ _ (λ a r q k. search rules)))
    (c.in_ok-sort_by_key.ensures.sorted (λ e. e.0) (answers_always _ _ _ (λ a r q k. search rules)))
    c.in_ok-keys.keys.items c.dedup.new.self.items c.in_ok-keys.ensures.keys
    (dedup_is g.P.PartialEq.eq c.in_ok-keys.keys.items _ c.dedup.ensures.filtered)

pub returns-then-len-given-clause-duplicate : goal.returns-then-len-given-clause-duplicate
returns-then-len-given-clause-duplicate g c =
    let long = rest_long g.met.P.Ord.total g.met.P.Ord.matches_eq c.args.pairs.items c.sort_by_key.new.self.items
    (c.in_ok-sort_by_key.ensures.stable (λ e. e.0) (answers_always _ _ _ (λ a r q k. search rules)))
    (c.in_ok-sort_by_key.ensures.sorted (λ e. e.0) (answers_always _ _ _ (λ a r q k. search rules)))
    c.in_ok-keys.keys.items c.dedup.new.self.items c.in_ok-keys.ensures.keys
    (dedup_is g.P.PartialEq.eq c.in_ok-keys.keys.items _ c.dedup.ensures.filtered) in
    let shorter : length (sorted_once (by_key g.P.Ord.cmp) c.args.pairs.items) < length c.args.pairs.items =
    omega (arith, long, c.in_ok-sort_by_key.ensures.len, c.if-len-given.true) in
    λ _. has_repeat-true (on_total (λ e. e.0) g.met.P.Ord.total) c.args.pairs.items shorter

pub returns-clause-ok : goal.returns-clause-ok
returns-clause-ok g c =
    rw c.of_ascending-keys.ensures
    (rest_whole g.met.P.Ord.total g.met.P.Ord.matches_eq c.args.pairs.items c.sort_by_key.new.self.items
    (c.in_ok-sort_by_key.ensures.stable (λ e. e.0) (answers_always _ _ _ (λ a r q k. search rules)))
    (c.in_ok-sort_by_key.ensures.sorted (λ e. e.0) (answers_always _ _ _ (λ a r q k. search rules)))
    c.in_ok-keys.keys.items c.dedup.new.self.items c.in_ok-keys.ensures.keys
    (dedup_is g.P.PartialEq.eq c.in_ok-keys.keys.items _ c.dedup.ensures.filtered)
    c.in_ok-keys.values.items c.in_ok-keys.ensures.values (omega (arith, c.if-len-given.false)))

pub returns-clause-distinct : goal.returns-clause-distinct
returns-clause-distinct g c =
    let long = rest_long g.met.P.Ord.total g.met.P.Ord.matches_eq c.args.pairs.items c.sort_by_key.new.self.items
    (c.in_ok-sort_by_key.ensures.stable (λ e. e.0) (answers_always _ _ _ (λ a r q k. search rules)))
    (c.in_ok-sort_by_key.ensures.sorted (λ e. e.0) (answers_always _ _ _ (λ a r q k. search rules)))
    c.in_ok-keys.keys.items c.dedup.new.self.items c.in_ok-keys.ensures.keys
    (dedup_is g.P.PartialEq.eq c.in_ok-keys.keys.items _ c.dedup.ensures.filtered) in
    let as_long : length c.args.pairs.items < suc (length (sorted_once (by_key g.P.Ord.cmp) c.args.pairs.items)) =
    omega (arith, long, c.in_ok-sort_by_key.ensures.len, c.if-len-given.false) in
    has_repeat-false (on_total (λ e. e.0) g.met.P.Ord.total) c.args.pairs.items as_long
