use Rattle.std.proofs.Common.{◌-◌, ◌++◌, take, ap, ◌∙◌, List}
use Rattle.p2p_log.specs.declared.event.Event.{Event}
use Rattle.p2p_runtime.specs.Draws.{seeded}
use Rattle.p2p_sim_script.specs.Generated.{drawn_from, generated_events}
use Rattle.p2p_sim_script.proofs.generator.generated.generated_script.Goals as goal

pub returns-clause-script : goal.returns-clause-script
unfolding generated_events
returns-clause-script c =
    let first = c.truncate.ensures.items ∙ ap (take c.args.count) c.in_ok-script.ensures in
    c.new.ensures ∙ (c.in_ok-put_drawn.ensures ∙ ap (λ (es : List Event). es ++ drawn_from 96 (c.args.count - 96) (seeded c.args.seed)) first)
