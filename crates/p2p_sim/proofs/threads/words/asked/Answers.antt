use Rattle.std.proofs.Common.{◌≡◌, ℕ, true, false, codes, sym, ◌∙◌, arith, subst}
use Rattle.p2p_sim.specs.ThreadWords.{AreWithin}
use Rattle.p2p_sim.proofs.Spelling.{spell_same}
use Rattle.p2p_sim.proofs.threads.words.asked.Goals as goal

pub returns-then-not-is_within-clause-none : goal.returns-then-not-is_within-clause-none
returns-then-not-is_within-clause-none c = λ n m asks.
    let within = asks.within in
    let fits = c.in-Some.ensures.fits in
    let same = spell_same c.args.words.now (codes "threads") n m c.in-Some.n c.in-Some.m (omega (arith, within.senders)) (omega (arith, within.messages)) fits.0 fits.1 asks.says c.in-Some.ensures.some in
    let moved = subst (λ (k : ℕ). AreWithin k c.in-Some.m) same.0 (subst (λ (l : ℕ). AreWithin n l) same.1 within) in
    let yes = c.is_within.ensures.1 moved in
    let no : true ≡ false = sym yes ∙ c.if-not-is_within.true in
    absurd (cc (no))
