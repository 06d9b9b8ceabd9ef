use Rattle.std.proofs.Common.{◌≡◌, ◌+◌, ◌-◌, [], ◌∷◌, ◌++◌, take, true, false, sym, ap, ◌∙◌, arith}
use Rattle.std.proofs.lemmas.List.{take_more}
use Rattle.std.specs.Str.{bytes_eq}
use Rattle.serde_json.specs.Find.{get_member}
use Rattle.p2p_sim_script.specs.View.{members_view}
use Rattle.p2p_sim_script.proofs.Views.{find-here, find-before}
use Rattle.p2p_sim_script.proofs.value.find.Goals as goal

pub returns-then-eq : goal.returns-then-eq
returns-then-eq c =
    let xs = c.args.members.now in
    let i = c.members.left - 1 in
    let m = c.index-members-left.result in
    let name = c.args.name.now in
    let next : c.members.left ≡ i + 1 = omega arith in
    let front : take c.members.left xs ≡ take i xs ++ m ∷ [] = ap (λ k. take k xs) next ∙ take_more xs i m (omega arith) ∙ ap (λ y. take i xs ++ y ∷ []) (sym c.index-members-left.is) in
    let same : bytes_eq m.0.now name ≡ true = grind arith in
    sym (c.members.invariant.0 ∙ ap (λ ys. get_member name (members_view ys)) front ∙ find-here name (take i xs) m same)

pub members-preserved : goal.members-preserved
members-preserved c =
    let xs = c.args.members.now in
    let i = c.members.left - 1 in
    let m = c.index-members-left.result in
    let name = c.args.name.now in
    let next : c.members.left ≡ i + 1 = omega arith in
    let front : take c.members.left xs ≡ take i xs ++ m ∷ [] = ap (λ k. take k xs) next ∙ take_more xs i m (omega arith) ∙ ap (λ y. take i xs ++ y ∷ []) (sym c.index-members-left.is) in
    let other : bytes_eq m.0.now name ≡ false = grind arith in
    (c.members.invariant.0 ∙ ap (λ ys. get_member name (members_view ys)) front ∙ find-before name (take i xs) m other, omega arith)
