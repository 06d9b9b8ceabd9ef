use Rattle.std.proofs.Common.{◌<◌, suc, length, arith, ap}
use Rattle.p2p_base.specs.Sorted.{sorted_once}
use Rattle.p2p_base.proofs.SortedRepeats.{has_repeat-false, has_repeat-true}
use Rattle.p2p_base.proofs.set.Set.try_from.Goals as goal

pub returns-then-len-given-clause-duplicate : goal.returns-then-len-given-clause-duplicate
returns-then-len-given-clause-duplicate g c =
    let shorter : length (sorted_once g.P.Ord.cmp c.args.keys.items) < length c.args.keys.items = omega (arith, ap length c.in_ok-set.ensures) in
    λ _. has_repeat-true g.met.P.Ord.total c.args.keys.items shorter

pub returns-clause-distinct : goal.returns-clause-distinct
returns-clause-distinct g c =
    let as_long : length c.args.keys.items < suc (length (sorted_once g.P.Ord.cmp c.args.keys.items)) = omega (arith, ap length c.in_ok-set.ensures) in
    has_repeat-false g.met.P.Ord.total c.args.keys.items as_long
