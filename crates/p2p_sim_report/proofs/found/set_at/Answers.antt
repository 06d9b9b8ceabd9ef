use Rattle.std.proofs.Common.{◌∙◌, ap, cond, Bool, Some}
use Rattle.p2p_sim_report.specs.Found.{value_of}
use Rattle.p2p_sim_report.proofs.Names.{same_name-is_at}
use Rattle.p2p_sim_report.proofs.found.set_at.Goals as goal

pub returns : goal.returns
unfolding value_of
returns g c =
    λ other.
    c.in_ok-insert.ensures.updates.0 other
    ∙ ap (λ (b : Bool). cond b (Some c.args.value) (value_of c.args.map.now other)) (same_name-is_at c.args.name other)
