use Rattle.std.proofs.Common.{rules, ◌≡◌, ◌-◌, [], ◌∷◌, ◌++◌, arith, ap, ◌∙◌}
use Rattle.p2p_runtime.specs.Draws.{seeded}
use Rattle.p2p_sim_script.specs.Generated.{event_at, drawn_from}
use Rattle.p2p_sim_script.proofs.Drawing.{draw-more}
use Rattle.p2p_sim_script.proofs.generator.drawn.put_drawn.Goals as goal

pub loop-n-preserved : goal.loop-n-preserved
loop-n-preserved c =
    let all = c.args.script.now.items ++ drawn_from 96 (c.args.count - 96) (seeded c.args.seed) in
    let pushed : c.push.new.self.items ≡ c.loop-n.script.items ++ c.event.result ∷ [] = search rules in
    record {
      script =
          draw-more c.loop-n.script.items c.push.new.self.items all c.loop-n.n c.args.count c.random_range-a.result c.random_range-c.result
          c.loop-n.draws c.random_range-a.new.self c.random_range-c.new.self c.event.result c.loop-n-test.true
          c.random_range-a.ensures.value c.random_range-a.ensures.after c.random_range-c.ensures.value c.random_range-c.ensures.after
          (c.event.ensures ∙ ap (event_at c.loop-n.n) c.in_ok-act.ensures) pushed c.loop-n.invariant.script;
      from = omega (arith, c.loop-n.invariant.from);
    }
