use Rattle.std.proofs.Common.{◌∙◌, ap, true, cond, Bool}
use Rattle.p2p_sim_report.specs.Found.{has}
use Rattle.p2p_sim_report.proofs.Names.{same_name-is_at, cond-or}
use Rattle.p2p_log.specs.Lines.{same_name}
use Rattle.p2p_sim_report.proofs.found.add.Goals as goal

pub returns : goal.returns
unfolding has
returns c =
    λ other.
    let before = has c.args.set.now other in
    let added : Bool → Bool = λ b. cond b true before in
    c.in_ok-insert.ensures.updates.0 other ∙ ap added (same_name-is_at c.args.name other) ∙ cond-or (same_name other c.args.name) before
