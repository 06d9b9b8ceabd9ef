use Rattle.std.proofs.Common.{◌≡◌, None, ◌∙◌, sym, ap, ap₂, subst, arith}
use Rattle.p2p_log_laws.specs.Accounted.{IsAccounted}
use Rattle.p2p_sim_report.specs.ReportText.{report_text}
use Rattle.p2p_sim.specs.Judged.{tree_or_refusal, tree_judged}
use Rattle.p2p_sim.specs.Network.{HasRunScript, fault_of, tree_refusal, refusal_of}
use Rattle.p2p_sim.proofs.network.NetworkProgram.run.Goals as goal

pub returns-in-Ok-clause-ok : goal.returns-in-Ok-clause-ok
returns-in-Ok-clause-ok c =
    let configs = c.in_ok-configs.configs in
    let script = c.in_ok-configs.script in
    let world = c.in_ok-world.world in
    let says = c.in_ok-configs.ensures.says in
    let ran : HasRunScript configs script world =
    subst (λ l. HasRunScript configs l world) c.as_slice-2.ensures
    (subst (λ l. HasRunScript l c.as_slice-2.result.now world) c.as_slice.ensures c.in_ok-world.ensures.ran)
    in
    let accepted : refusal_of says.0 ≡ None = ap tree_refusal says.2 ∙ (ap₂ fault_of (sym c.as_slice.ensures) (sym c.as_slice-2.ensures) ∙ c.in_ok-world.ensures.valid) in (
      says.0,
      says.1,
      accepted,
      record {
        script = (configs, script);
        says = says.2;
        ran = ran;
        reports = c.in-Ok.ensures ∙ ap report_text c.report.ensures;
        accounted = subst (λ l. IsAccounted l world.log) c.as_slice.ensures c.in_ok-world.ensures.accounted;
      },
    )

pub returns-in_err-world-clause-fault : goal.returns-in_err-world-clause-fault
returns-in_err-world-clause-fault c f e =
    let says = c.in_ok-configs.ensures.says in
    let refused = ap tree_refusal says.2 ∙ (ap₂ fault_of (sym c.as_slice.ensures) (sym c.as_slice-2.ensures) ∙ c.run_script.ensures.fault f (grind arith)) in
    ap (tree_judged refusal_of) says.1 ∙ ap (tree_or_refusal says.0) refused
