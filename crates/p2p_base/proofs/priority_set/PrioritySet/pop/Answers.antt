use Rattle.std.proofs.Common.{sym, ◌∙◌, ap}
use Rattle.std.specs.BTreeMap.{is_at}
use Rattle.p2p_base.specs.Moments.{soonest, without}
use Rattle.p2p_base.proofs.MomentSteps.{Mirrors-taken}
use Rattle.p2p_base.proofs.MomentLeast.{entry_from_parts, moment_of_first, soonest_is_first, without_first, none_queued, empty_from, least_each}
use Rattle.p2p_base.proofs.priority_set.PrioritySet.pop.Goals as goal

pub returns-in_default-clause-value : goal.returns-in_default-clause-value
returns-in_default-clause-value g c =
    let empty = none_queued g.met.P.Ord.total c.self.inside.queue c.self.inside.moments c.self.invariant
    (empty_from c.self.inside.queue.keys c.in_default.ensures.variant.1) in
    ap soonest (sym empty ∙ c.self.view_is)

pub returns-in_default-clause-after : goal.returns-in_default-clause-after
returns-in_default-clause-after g c =
    let empty = none_queued g.met.P.Ord.total c.self.inside.queue c.self.inside.moments c.self.invariant
    (empty_from c.self.inside.queue.keys c.in_default.ensures.variant.1) in
    empty ∙ ap (λ es. without g.P.Ord.cmp (soonest es) es) (sym empty ∙ c.self.view_is)

pub invariant_of-self-2 : goal.invariant_of-self-2
invariant_of-self-2 g c =
    let had = moment_of_first g.met.P.Ord.total c.self.inside.queue c.self.inside.moments c.self.invariant c.in-Some.first.1 c.in-Some.first.0
    c.in-Some.ensures.member c.in-Some.ensures.least in
    Mirrors-taken g.met.P.Ord.total c.self.inside.queue c.self.inside.moments c.self.invariant c.in-Some.first.1 c.pop_first.new.self c.remove_entry.new.self
    c.remove_entry.ensures.ordered c.in-Some.first.0 c.in-Some.ensures.updates c.remove_entry.ensures.updates had

pub returns-clause-value : goal.returns-clause-value
returns-clause-value g c =
    let first = soonest_is_first g.met.P.Ord.total c.self.inside.queue c.self.inside.moments c.self.invariant c.in-Some.first.1 c.in-Some.first.0
    c.in-Some.ensures.member c.in-Some.ensures.least in
    entry_from_parts (is_at (g.P.Ord.cmp c.in-Some.first.1)) c.self.inside.moments.entries c.remove_entry.result c.remove_entry.ensures.key c.remove_entry.ensures.value
    ∙ sym first ∙ ap soonest c.self.view_is

pub returns-clause-after : goal.returns-clause-after
returns-clause-after g c =
    c.remove_entry.ensures.entries
    ∙ without_first g.met.P.Ord.total c.self.inside.queue c.self.inside.moments c.self.invariant c.in-Some.first.1 c.in-Some.first.0
    c.in-Some.ensures.member c.in-Some.ensures.least
    ∙ ap (λ es. without g.P.Ord.cmp (soonest es) es) c.self.view_is

pub returns-clause-least : goal.returns-clause-least
returns-clause-least g c = least_each (λ q. is_at (g.P.Ord.cmp q)) c.args.self.now c.remove_entry.result (returns-clause-value g c)
