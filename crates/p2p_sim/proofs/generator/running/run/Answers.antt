use Rattle.std.proofs.Common.{◌∙◌, ap, subst}
use Rattle.p2p_log_laws.specs.Accounted.{IsAccounted}
use Rattle.p2p_sim_report.specs.SummaryText.{summary_text}
use Rattle.p2p_sim_script.specs.Generated.{generated_configs}
use Rattle.p2p_sim.specs.Network.{HasRunScript}
use Rattle.p2p_sim.proofs.generator.running.run.Goals as goal

pub returns-clause-ran : goal.returns-clause-ran
returns-clause-ran c =
    let world = c.in-Ok.world in
    let configs = c.as_slice.ensures ∙ c.in_ok-configs.ensures.configs in
    let script = c.as_slice-2.ensures ∙ c.in_ok-configs.ensures.script in
    record {
      ran =
          subst (λ l. HasRunScript generated_configs l world) script
          (subst (λ l. HasRunScript l c.as_slice-2.result.now world) configs c.in-Ok.ensures.ran);
      sums = c.in_ok-text.ensures ∙ ap summary_text c.report.ensures;
      accounted = subst (λ l. IsAccounted l world.log) configs c.in-Ok.ensures.accounted;
    }
