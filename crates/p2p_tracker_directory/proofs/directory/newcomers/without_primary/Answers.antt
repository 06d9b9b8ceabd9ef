use Rattle.std.proofs.Common.{rules, sym, not, subst}
use Rattle.std.proofs.lemmas.Fn.{filter_same}
use Rattle.std.specs.List.{list_any}
use Rattle.std.specs.List.Sorted.{IsStrictlySortedBy}
use Rattle.std.specs.Map.{keys_of}
use Rattle.std.specs.BTreeMap.{is_at}
use Rattle.p2p_tracker_directory.proofs.Newcomers.{sorted-only_secondary}
use Rattle.p2p_tracker_directory.proofs.directory.newcomers.without_primary.Goals as goal

pub returns-clause-same : goal.returns-clause-same
returns-clause-same g c = filter_same _ (λ e. not (list_any (is_at (g.C.Ord.cmp e.0)) (keys_of c.args.primary.now))) _ (λ x b q k. search rules) _ _ c.retain.ensures.filtered

pub returns-clause-ordered : goal.returns-clause-ordered
returns-clause-ordered g c =
    subst (λ es. IsStrictlySortedBy g.C.Ord.cmp (keys_of es)) (sym (returns-clause-same g c)) (sorted-only_secondary g.C.Ord.cmp c.args.primary.now c.args.secondary.now.items c.requires)
