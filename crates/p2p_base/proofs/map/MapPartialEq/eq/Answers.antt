use Rattle.std.proofs.Common.{◌∙◌}
use Rattle.std.specs.Cmp.Lexicographic.{pointwise}
use Rattle.p2p_base.proofs.MapPairs.{pointwise-zip, first_answers, second_answers}
use Rattle.p2p_base.proofs.map.MapPartialEq.eq.Goals as goal

pub returns-then-eq : goal.returns-then-eq
returns-then-eq g c =
    rw (← c.self.view_is, ← c.other.view_is)
    (second_answers (pointwise g.P.PartialEq.eq c.self.inside.keys c.other.inside.keys) (pointwise g.V.PartialEq.eq c.self.inside.values.items c.other.inside.values.items) _ _
    c.if-eq.ensures (c.eq-then-eq.ensures ∙ rw (c.as_slice.ensures.value, c.as_slice-then-eq.ensures.value))
    (pointwise-zip g.P.PartialEq.eq g.V.PartialEq.eq c.self.inside.keys c.other.inside.keys c.self.inside.values.items c.other.inside.values.items c.self.invariant c.other.invariant))

pub returns-else-eq : goal.returns-else-eq
returns-else-eq g c =
    rw (← c.self.view_is, ← c.other.view_is)
    (first_answers (pointwise g.P.PartialEq.eq c.self.inside.keys c.other.inside.keys) (pointwise g.V.PartialEq.eq c.self.inside.values.items c.other.inside.values.items) _ _
    c.if-eq.ensures c.eq.ensures
    (pointwise-zip g.P.PartialEq.eq g.V.PartialEq.eq c.self.inside.keys c.other.inside.keys c.self.inside.values.items c.other.inside.values.items c.self.invariant c.other.invariant))
