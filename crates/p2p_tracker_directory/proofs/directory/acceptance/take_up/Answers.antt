use Rattle.std.proofs.Common.{false, ap, ◌∙◌}
use Rattle.std.specs.Map.{lookup}
use Rattle.std.specs.BTreeMap.{is_at}
use Rattle.p2p_tracker_directory.specs.Tracked.{enters}
use Rattle.p2p_tracker_directory.proofs.directory.acceptance.take_up.Goals as goal

pub returns-clause-records : goal.returns-clause-records
returns-clause-records g c = λ q. c.enrol-2.ensures.each q ∙ ap (enters false (lookup (λ p. is_at (g.C.Ord.cmp p) q) c.args.newcomers.secondary.items)) (c.enrol.ensures.each q)
