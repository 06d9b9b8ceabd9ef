use Rattle.std.proofs.Common.{ℕ, subst}
use Rattle.p2p_sim.specs.Summed.{HasGenerated}
use Rattle.p2p_sim.proofs.Spelling.{same_script}
use Rattle.p2p_sim.proofs.top.sim.Goals as goal

pub returns-in-Some-clause-generated : goal.returns-in-Some-clause-generated
returns-in-Some-clause-generated g c = λ n m asks.
    let held = g.K.Sink.bytes_held c.args.sink.now in
    let now = g.K.Sink.bytes_held c.summarize.new.sink in
    let left = c.summarize.new.end in
    let said = c.summarize.result in
    let same = same_script c.args.words.now c.in-Some.count c.in-Some.seed n m c.in-Some.ensures.some asks in
    subst (λ (k : ℕ). HasGenerated k m said held now left) same.0 (subst (λ (l : ℕ). HasGenerated c.in-Some.count l said held now left) same.1 c.summarize.ensures.generated)
