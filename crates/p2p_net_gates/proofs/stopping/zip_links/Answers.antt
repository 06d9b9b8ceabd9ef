use Rattle.std.proofs.Common.{◌≡◌, ℕ, List, [], ◌∷◌, ◌++◌, refl, ap, sym, ◌∙◌, append-nil, arith}
use Rattle.std.proofs.lemmas.List.{nil_from_length}
use Rattle.p2p_net_gates.specs.Stopping.{zipped}
use Rattle.p2p_net_gates.proofs.stopping.zip_links.Goals as goal

-- no arrival is left
none_left : (names : List (ℕ × ℕ)) → zipped names [] ≡ []
none_left [] = refl
none_left (name ∷ names) = refl

pub returns : goal.returns
returns c =
    let left = c.loop-arrival.arrival-iterator.rest.items in
    let counted = c.loop-arrival.arrival-iterator.rest.ok.0 in
    let end = c.in-None.ensures.steps.0 in
    let none : left ≡ [] = nil_from_length left (omega (arith, counted, end)) in
    sym (append-nil c.loop-arrival.all)
    ∙ (ap (λ l. c.loop-arrival.all ++ l) (sym (none_left c.loop-arrival.names) ∙ ap (zipped c.loop-arrival.names) (sym none)) ∙ c.loop-arrival.invariant)
