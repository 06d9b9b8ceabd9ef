use Rattle.std.proofs.Common.{rules, ◌≡◌, ◌+◌, [], ◌∷◌, ◌++◌, length, arith, length-append}
use Rattle.p2p_sim_script.proofs.Events.{put-more}
use Rattle.p2p_sim_script.proofs.generator.beginning.put_acts.Goals as goal

pub loop-act-preserved : goal.loop-act-preserved
loop-act-preserved c =
    let acts = c.loop-act.yielded in
    let act = c.in-Some.act in
    let longer = length-append acts (act ∷ []) in
    let pushed : c.push.new.self.items ≡ c.loop-act.script.items ++ c.event.result ∷ [] = search rules in
    record {
      script = put-more c.args.script.now.items c.loop-act.script.items c.push.new.self.items c.args.first c.loop-act.n acts act c.event.result c.loop-act.invariant.script c.loop-act.invariant.next c.event.ensures pushed;
      next = omega (arith, longer, c.loop-act.invariant.next);
    }
