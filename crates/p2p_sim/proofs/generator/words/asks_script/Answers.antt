use Rattle.std.proofs.Common.{◌≡◌, true, false, codes, sym, ◌∙◌, arith, subst}
use Rattle.p2p_sim.specs.ScriptWords.{IsLength}
use Rattle.p2p_sim.proofs.Spelling.{spell_same}
use Rattle.p2p_sim.proofs.generator.words.asks_script.Goals as goal

pub returns-in_default-clause-none : goal.returns-in_default-clause-none
returns-in_default-clause-none c = λ n m asks.
    let within = asks.within in c.in_default.ensures.none n m (omega (arith, within.most)) asks.fits asks.says

pub returns-then-not-is_length-clause-none : goal.returns-then-not-is_length-clause-none
returns-then-not-is_length-clause-none c = λ n m asks.
    let within = asks.within in
    let fits = c.in-Some.ensures.fits in
    let same = spell_same c.args.words.now (codes "gen") n m c.in-Some.count c.in-Some.seed (omega (arith, within.most)) asks.fits fits.0 fits.1 asks.says c.in-Some.ensures.some in
    let yes = c.is_length.ensures.1 (subst IsLength same.0 within) in
    let no : true ≡ false = sym yes ∙ c.if-not-is_length.true in
    absurd (cc (no))
