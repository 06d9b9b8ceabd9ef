use Rattle.std.proofs.Common.{◌≡◌, ◌<◌, ◌^◌, ℕ, decimal, Ok, Err, Bool, true, false, not, List, nat_eq, sym, ap, ◌∙◌, subst, arith}
use Rattle.std.proofs.lemmas.Fmt.{parse-decimal}
use Rattle.std.proofs.lemmas.Cmp.{nat_list_eq_equiv}
use Rattle.std.specs.Cmp.Lexicographic.{pointwise}
use Rattle.p2p_sim.proofs.words.number_of.Goals as goal

pub returns-in_default-clause-none : goal.returns-in_default-clause-none
returns-in_default-clause-none c = λ n small is.
    let parsed : c.parse.result ≡ Ok n = parse-decimal 64 n c.args.word.now c.parse.result small (omega arith) is c.parse.ensures.value.0 in
    absurd (cc (parsed, c.in_default.is))

pub returns-then-ne-clause-none : goal.returns-then-ne-clause-none
returns-then-ne-clause-none c = λ n small is.
    let parsed : c.parse.result ≡ Ok n = parse-decimal 64 n c.args.word.now c.parse.result small (omega arith) is c.parse.ensures.value.0 in
    let same : c.in-Ok.number ≡ n = cc (parsed, c.in-Ok.is) in
    let text : c.format.result.now ≡ c.args.word.now = c.format.ensures.text ∙ (ap decimal same ∙ sym is) in
    let equal : pointwise nat_eq c.format.result.now c.args.word.now ≡ true = subst (λ (w : List ℕ). pointwise nat_eq c.format.result.now w ≡ true) text (nat_list_eq_equiv.refl c.format.result.now) in
    let no : true ≡ false = c.if-ne.ensures ∙ ap not equal in absurd (cc (no))
