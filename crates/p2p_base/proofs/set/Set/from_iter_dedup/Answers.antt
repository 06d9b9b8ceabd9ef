use Rattle.std.proofs.Common.{◌∙◌}
use Rattle.std.proofs.lemmas.List.Filters.{dedup_is}
use Rattle.p2p_base.proofs.SortedLists.{sorted-sorted_once, sorted_once-from_sort}
use Rattle.p2p_base.proofs.set.Set.from_iter_dedup.Goals as goal

pub returns : goal.returns
returns g c =
    dedup_is g.P.PartialEq.eq c.sort.new.self.items _ c.dedup.ensures.filtered
    ∙ sorted_once-from_sort g.met.P.Ord.total g.met.P.Ord.matches_eq _ _ c.in_ok-sort.ensures.stable c.in_ok-sort.ensures.sorted

pub invariant_of-result : goal.invariant_of-result
invariant_of-result g c = rw (returns g c) (sorted-sorted_once g.met.P.Ord.total c.args.keys.items)
