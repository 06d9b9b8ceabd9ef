use Rattle.std.proofs.Common.{Some, sym, ◌∙◌, ap}
use Rattle.std.specs.BTreeMap.{is_at}
use Rattle.p2p_base.specs.Moments.{soonest}
use Rattle.p2p_base.proofs.MomentLeast.{entry_from_parts, moment_of_first, soonest_is_first, none_queued, empty_from, least_each}
use Rattle.p2p_base.proofs.priority_set.PrioritySet.peek.Goals as goal

pub returns-in_default-clause-value : goal.returns-in_default-clause-value
returns-in_default-clause-value g c =
    let empty = none_queued g.met.P.Ord.total c.self.inside.queue c.self.inside.moments c.self.invariant
    (empty_from c.self.inside.queue.keys c.in_default.ensures.variant.1) in
    ap soonest (sym empty ∙ c.self.view_is)

pub returns-in-Some-get_key_value-clause-value : goal.returns-in-Some-get_key_value-clause-value
returns-in-Some-get_key_value-clause-value g c =
    let first = soonest_is_first g.met.P.Ord.total c.self.inside.queue c.self.inside.moments c.self.invariant c.in-Some.field-0.now.1 c.in-Some.field-0.now.0
    c.in-Some.ensures.member c.in-Some.ensures.least in
    entry_from_parts (is_at (g.P.Ord.cmp c.in-Some.field-0.now.1)) c.self.inside.moments.entries
    (Some (c.in-Some-get_key_value.key.now, c.in-Some-get_key_value.at.now)) c.in-Some-get_key_value.ensures.key c.in-Some-get_key_value.ensures.value
    ∙ sym first ∙ ap soonest c.self.view_is

pub returns-in-None : goal.returns-in-None
returns-in-None g c =
    let some = moment_of_first g.met.P.Ord.total c.self.inside.queue c.self.inside.moments c.self.invariant c.in-Some.field-0.now.1 c.in-Some.field-0.now.0
    c.in-Some.ensures.member c.in-Some.ensures.least in
    let none = c.in-None.ensures.value in
    absurd (cc)

pub returns-in-Some-get_key_value-clause-least : goal.returns-in-Some-get_key_value-clause-least
returns-in-Some-get_key_value-clause-least g c =
    least_each (λ q. is_at (g.P.Ord.cmp q)) c.args.self.now (Some (c.in-Some-get_key_value.key.now, c.in-Some-get_key_value.at.now)) (returns-in-Some-get_key_value-clause-value g c)
