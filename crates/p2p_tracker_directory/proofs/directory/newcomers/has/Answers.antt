use Rattle.std.proofs.Common.{ap, ◌∙◌}
use Rattle.std.specs.Prelude.{is_some}
use Rattle.std.specs.BTreeMap.{is_at}
use Rattle.std.specs.Map.{keys_of}
use Rattle.p2p_tracker_directory.proofs.Newcomers.{is_some-position}
use Rattle.p2p_tracker_directory.proofs.directory.newcomers.has.Goals as goal

pub returns : goal.returns
returns g c = c.is_some.ensures ∙ (ap is_some c.position.ensures ∙ is_some-position (is_at (g.C.Ord.cmp c.args.key.now)) (keys_of c.args.peers.now))
