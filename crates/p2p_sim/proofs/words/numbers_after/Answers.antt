use Rattle.std.proofs.Common.{rules, ◌≡◌, ℕ, List, [], ◌∷◌, length, map, decimal, true, false, not, nat_eq, sym, ap, ◌∙◌, subst, arith}
use Rattle.std.specs.String.{string_bytes}
use Rattle.std.proofs.lemmas.Cmp.{nat_list_eq_equiv}
use Rattle.std.specs.Cmp.Lexicographic.{pointwise}
use Rattle.p2p_sim.proofs.Spelling.{three_are}
use Rattle.p2p_sim.proofs.words.numbers_after.Goals as goal

pub returns-then-ne-clause-none : goal.returns-then-ne-clause-none
returns-then-ne-clause-none c = λ n m small small2 says.
    let three = three_are c.args.words.now c.name-item.result c.first-item.result c.second-item.result (omega (arith, c.in-len3.len_at_least)) (omega (arith, c.in-len3.len_below)) c.name-item.is c.first-item.is c.second-item.is in
    let all : map string_bytes (c.name-item.result ∷ c.first-item.result ∷ c.second-item.result ∷ []) ≡ c.args.command.now ∷ decimal n ∷ decimal m ∷ [] = ap (map string_bytes) (sym three) ∙ says in
    let name : string_bytes c.name-item.result ≡ c.args.command.now = cc (all) in
    let text : c.as_str.result.now ≡ c.args.command.now = c.as_str.ensures.value ∙ name in
    let equal : pointwise nat_eq c.as_str.result.now c.args.command.now ≡ true = subst (λ (w : List ℕ). pointwise nat_eq c.as_str.result.now w ≡ true) text (nat_list_eq_equiv.refl c.as_str.result.now) in
    let no : true ≡ false = c.if-ne.ensures ∙ ap not equal in absurd (cc (no))

pub returns-clause-some : goal.returns-clause-some
returns-clause-some c =
    let three = three_are c.args.words.now c.name-item.result c.first-item.result c.second-item.result (omega (arith, c.in-len3.len_at_least)) (omega (arith, c.in-len3.len_below)) c.name-item.is c.first-item.is c.second-item.is in
    let same : c.as_str.result.now ≡ c.args.command.now = search rules in
    let name : string_bytes c.name-item.result ≡ c.args.command.now = sym c.as_str.ensures.value ∙ same in
    let first : string_bytes c.first-item.result ≡ decimal c.in-Some.n = sym c.as_str-2.ensures.value ∙ c.in-Some.ensures.some in
    let second : string_bytes c.second-item.result ≡ decimal c.in-Some-number_of.m = sym c.as_str-3.ensures.value ∙ c.in-Some-number_of.ensures.some in
    ap (map string_bytes) three ∙ cc (name, first, second)
