use Rattle.std.proofs.Common.{◌≡◌, rules, ap, ◌∙◌}
use Rattle.std.proofs.lemmas.Fn.{filter_same}
use Rattle.std.proofs.lemmas.Result.{IfOk-weaker}
use Rattle.std.specs.List.{filter}
use Rattle.std.specs.BTreeMap.{is_at}
use Rattle.std.specs.Option.{option_copied}
use Rattle.p2p_base.specs.Sorted.{sorted_once}
use Rattle.p2p_tracker_directory.specs.Tracked.{is_killed_where, candidates}
use Rattle.p2p_tracker_directory.proofs.directory.kills.killed.Goals as goal

pub returns : goal.returns
returns g c =
    let kept : c.retain.new.self.items ≡ filter (λ q. is_killed_where (is_at (g.C.Ord.cmp q)) c.args.records.now.entries c.args.primary.now c.args.secondary.now c.args.set.now (option_copied c.args.fallen))
    (candidates c.args.set.now (option_copied c.args.fallen)) =
    filter_same _ (λ q. is_killed_where (is_at (g.C.Ord.cmp q)) c.args.records.now.entries c.args.primary.now c.args.secondary.now c.args.set.now (option_copied c.args.fallen)) _ (λ x b q k. search rules) _ _ c.retain.ensures.filtered
    ∙ ap (filter (λ q. is_killed_where (is_at (g.C.Ord.cmp q)) c.args.records.now.entries c.args.primary.now c.args.secondary.now c.args.set.now (option_copied c.args.fallen))) c.in_ok-keys.ensures in
    IfOk-weaker c.from_iter_dedup.result (λ k. k ≡ sorted_once g.C.Ord.cmp c.retain.new.self.items)
    (λ k. k ≡ sorted_once g.C.Ord.cmp (filter (λ q. is_killed_where (is_at (g.C.Ord.cmp q)) c.args.records.now.entries c.args.primary.now c.args.secondary.now c.args.set.now (option_copied c.args.fallen))
    (candidates c.args.set.now (option_copied c.args.fallen)))) (λ k e. e ∙ ap (sorted_once g.C.Ord.cmp) kept) c.from_iter_dedup.ensures
