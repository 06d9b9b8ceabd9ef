use Rattle.std.proofs.Common.{ℕ, subst, refl}
use Rattle.p2p_sim.specs.Outcomes.{HasWritten}
use Rattle.p2p_threads.specs.ThreadText.{thread_text}
use Rattle.p2p_sim.proofs.Spelling.{same_asked, not_both}
use Rattle.p2p_sim.proofs.commands.p2p_sim.Goals as goal

pub returns-in-Some-clause-threads : goal.returns-in-Some-clause-threads
returns-in-Some-clause-threads g c = λ n m asks.
    let held = g.K.Sink.bytes_held c.args.sink.now in
    let now = g.K.Sink.bytes_held c.thread_report.new.sink in
    let said = c.thread_report.result in
    let same = same_asked c.args.words.now c.in-Some.n c.in-Some.m n m c.in-Some.ensures.some asks in
    let written = subst (λ (l : ℕ). HasWritten (thread_text c.in-Some.n l) said held now) same.1 c.thread_report.ensures.written in
    (subst (λ (k : ℕ). HasWritten (thread_text k m) said held now) same.0 written, refl)

-- the words of `threads` ask for no script
pub returns-in-Some-clause-generated : goal.returns-in-Some-clause-generated
returns-in-Some-clause-generated g c = λ n m asks. absurd (not_both c.args.words.now n m c.in-Some.n c.in-Some.m asks c.in-Some.ensures.some)
