use Rattle.std.proofs.Common.{take, drop, length, length-append, sym, ap, ◌∙◌, arith, subst}
use Rattle.std.specs.List.Sorted.{IsStrictlySortedBy}
use Rattle.p2p_tracker_calls.specs.Sets.{how_many}
use Rattle.p2p_tracker_directory.specs.Linked.{listed}
use Rattle.p2p_tracker_directory.specs.Placed.{by_place, is_passed}
use Rattle.p2p_tracker_directory.specs.declared.places.mark.Mark.TheVariants as mark
use Rattle.p2p_tracker_directory.proofs.Moves.{is-there, isnt-there, take-none, take-found, take-one, take-less, some-link, sorted-without}
use Rattle.p2p_tracker_directory.proofs.places.Places.take.Goals as goal

pub returns-then-end-at-clause-found : goal.returns-then-end-at-clause-found
returns-then-end-at-clause-found g c =
    sym (isnt-there g.met.A.Ord.total g.met.K.Ord.total c.args.self.now
    (subst (IsStrictlySortedBy (by_place g.A.Ord.cmp g.K.Ord.cmp)) c.self.view_is c.self.invariant) c.args.place c.args.key c.rank-at.result
    (c.rank-at.ensures.rank c.self.invariant ∙ ap (how_many (is_passed g.A.Ord.cmp g.K.Ord.cmp (mark.Before c.args.place c.args.key))) c.self.view_is) c.rank-end.result
    (c.rank-end.ensures.rank c.self.invariant ∙ ap (how_many (is_passed g.A.Ord.cmp g.K.Ord.cmp (mark.Upto c.args.place c.args.key))) c.self.view_is) (omega (arith, c.if-end-at.true)))

pub returns-then-end-at-clause-others : goal.returns-then-end-at-clause-others
returns-then-end-at-clause-others g c =
    take-none g.met.A.Ord.total g.met.K.Ord.total c.args.self.now
    (subst (IsStrictlySortedBy (by_place g.A.Ord.cmp g.K.Ord.cmp)) c.self.view_is c.self.invariant) c.args.place c.args.key c.rank-at.result
    (c.rank-at.ensures.rank c.self.invariant ∙ ap (how_many (is_passed g.A.Ord.cmp g.K.Ord.cmp (mark.Before c.args.place c.args.key))) c.self.view_is) c.rank-end.result
    (c.rank-end.ensures.rank c.self.invariant ∙ ap (how_many (is_passed g.A.Ord.cmp g.K.Ord.cmp (mark.Upto c.args.place c.args.key))) c.self.view_is) (omega (arith, c.if-end-at.true))

pub join-requires : goal.join-requires
join-requires g c =
    let less = take-less g.met.A.Ord.total g.met.K.Ord.total c.args.self.now
    (subst (IsStrictlySortedBy (by_place g.A.Ord.cmp g.K.Ord.cmp)) c.self.view_is c.self.invariant) c.args.place c.args.key c.rank-at.result
    (c.rank-at.ensures.rank c.self.invariant ∙ ap (how_many (is_passed g.A.Ord.cmp g.K.Ord.cmp (mark.Before c.args.place c.args.key))) c.self.view_is) c.rank-end.result
    (c.rank-end.ensures.rank c.self.invariant ∙ ap (how_many (is_passed g.A.Ord.cmp g.K.Ord.cmp (mark.Upto c.args.place c.args.key))) c.self.view_is) (omega (arith, c.if-end-at.false))
    (listed c.cut-first.result.0) (listed c.cut-first.result.1) (listed c.cut-found.result.0) (listed c.cut-found.result.1) (listed c.cut-first.result.0)
    (c.cut-first.ensures.first ∙ (ap (λ x. take c.rank-at.result (listed x)) c.take.ensures.value ∙ ap (take c.rank-at.result) c.self.view_is))
    (c.cut-first.ensures.others ∙ (ap (λ x. drop c.rank-at.result (listed x)) c.take.ensures.value ∙ ap (drop c.rank-at.result) c.self.view_is)) c.cut-found.ensures.first c.cut-found.ensures.others in
    let view = ap length c.self.view_is in
    omega (arith, less, view, c.rank-at.ensures.fits)

pub returns-clause-others : goal.returns-clause-others
returns-clause-others g c =
    take-found g.met.A.Ord.total g.met.K.Ord.total c.args.self.now
    (subst (IsStrictlySortedBy (by_place g.A.Ord.cmp g.K.Ord.cmp)) c.self.view_is c.self.invariant) c.args.place c.args.key c.rank-at.result
    (c.rank-at.ensures.rank c.self.invariant ∙ ap (how_many (is_passed g.A.Ord.cmp g.K.Ord.cmp (mark.Before c.args.place c.args.key))) c.self.view_is) c.rank-end.result
    (c.rank-end.ensures.rank c.self.invariant ∙ ap (how_many (is_passed g.A.Ord.cmp g.K.Ord.cmp (mark.Upto c.args.place c.args.key))) c.self.view_is) (omega (arith, c.if-end-at.false))
    (listed c.cut-first.result.0) (listed c.cut-first.result.1) (listed c.cut-found.result.0) (listed c.cut-found.result.1) (listed c.join.result)
    (c.cut-first.ensures.first ∙ (ap (λ x. take c.rank-at.result (listed x)) c.take.ensures.value ∙ ap (take c.rank-at.result) c.self.view_is))
    (c.cut-first.ensures.others ∙ (ap (λ x. drop c.rank-at.result (listed x)) c.take.ensures.value ∙ ap (drop c.rank-at.result) c.self.view_is)) c.cut-found.ensures.first c.cut-found.ensures.others c.join.ensures

pub invariant_of-self : goal.invariant_of-self
invariant_of-self g c =
    sorted-without g.A.Ord.cmp g.K.Ord.cmp c.args.self.now (listed c.join.result) (c.args.place, c.args.key) (subst (IsStrictlySortedBy (by_place g.A.Ord.cmp g.K.Ord.cmp)) c.self.view_is c.self.invariant)
    (take-found g.met.A.Ord.total g.met.K.Ord.total c.args.self.now
    (subst (IsStrictlySortedBy (by_place g.A.Ord.cmp g.K.Ord.cmp)) c.self.view_is c.self.invariant) c.args.place c.args.key c.rank-at.result
    (c.rank-at.ensures.rank c.self.invariant ∙ ap (how_many (is_passed g.A.Ord.cmp g.K.Ord.cmp (mark.Before c.args.place c.args.key))) c.self.view_is) c.rank-end.result
    (c.rank-end.ensures.rank c.self.invariant ∙ ap (how_many (is_passed g.A.Ord.cmp g.K.Ord.cmp (mark.Upto c.args.place c.args.key))) c.self.view_is) (omega (arith, c.if-end-at.false))
    (listed c.cut-first.result.0) (listed c.cut-first.result.1) (listed c.cut-found.result.0) (listed c.cut-found.result.1) (listed c.join.result)
    (c.cut-first.ensures.first ∙ (ap (λ x. take c.rank-at.result (listed x)) c.take.ensures.value ∙ ap (take c.rank-at.result) c.self.view_is))
    (c.cut-first.ensures.others ∙ (ap (λ x. drop c.rank-at.result (listed x)) c.take.ensures.value ∙ ap (drop c.rank-at.result) c.self.view_is)) c.cut-found.ensures.first c.cut-found.ensures.others c.join.ensures)

pub returns-clause-found : goal.returns-clause-found
returns-clause-found g c =
    some-link c.cut-found.result.0 (take-one g.met.A.Ord.total g.met.K.Ord.total c.args.self.now
    (subst (IsStrictlySortedBy (by_place g.A.Ord.cmp g.K.Ord.cmp)) c.self.view_is c.self.invariant) c.args.place c.args.key c.rank-at.result
    (c.rank-at.ensures.rank c.self.invariant ∙ ap (how_many (is_passed g.A.Ord.cmp g.K.Ord.cmp (mark.Before c.args.place c.args.key))) c.self.view_is) c.rank-end.result
    (c.rank-end.ensures.rank c.self.invariant ∙ ap (how_many (is_passed g.A.Ord.cmp g.K.Ord.cmp (mark.Upto c.args.place c.args.key))) c.self.view_is) (omega (arith, c.if-end-at.false))
    (listed c.cut-first.result.0) (listed c.cut-first.result.1) (listed c.cut-found.result.0) (listed c.cut-found.result.1) (listed c.join.result)
    (c.cut-first.ensures.first ∙ (ap (λ x. take c.rank-at.result (listed x)) c.take.ensures.value ∙ ap (take c.rank-at.result) c.self.view_is))
    (c.cut-first.ensures.others ∙ (ap (λ x. drop c.rank-at.result (listed x)) c.take.ensures.value ∙ ap (drop c.rank-at.result) c.self.view_is)) c.cut-found.ensures.first c.cut-found.ensures.others)
    ∙ sym (is-there g.met.A.Ord.total g.met.K.Ord.total c.args.self.now
    (subst (IsStrictlySortedBy (by_place g.A.Ord.cmp g.K.Ord.cmp)) c.self.view_is c.self.invariant) c.args.place c.args.key c.rank-at.result
    (c.rank-at.ensures.rank c.self.invariant ∙ ap (how_many (is_passed g.A.Ord.cmp g.K.Ord.cmp (mark.Before c.args.place c.args.key))) c.self.view_is) c.rank-end.result
    (c.rank-end.ensures.rank c.self.invariant ∙ ap (how_many (is_passed g.A.Ord.cmp g.K.Ord.cmp (mark.Upto c.args.place c.args.key))) c.self.view_is) (omega (arith, c.if-end-at.false)))

pub returns-clause-less : goal.returns-clause-less
returns-clause-less g c = λ there.
    let less = take-less g.met.A.Ord.total g.met.K.Ord.total c.args.self.now
    (subst (IsStrictlySortedBy (by_place g.A.Ord.cmp g.K.Ord.cmp)) c.self.view_is c.self.invariant) c.args.place c.args.key c.rank-at.result
    (c.rank-at.ensures.rank c.self.invariant ∙ ap (how_many (is_passed g.A.Ord.cmp g.K.Ord.cmp (mark.Before c.args.place c.args.key))) c.self.view_is) c.rank-end.result
    (c.rank-end.ensures.rank c.self.invariant ∙ ap (how_many (is_passed g.A.Ord.cmp g.K.Ord.cmp (mark.Upto c.args.place c.args.key))) c.self.view_is) (omega (arith, c.if-end-at.false))
    (listed c.cut-first.result.0) (listed c.cut-first.result.1) (listed c.cut-found.result.0) (listed c.cut-found.result.1) (listed c.join.result)
    (c.cut-first.ensures.first ∙ (ap (λ x. take c.rank-at.result (listed x)) c.take.ensures.value ∙ ap (take c.rank-at.result) c.self.view_is))
    (c.cut-first.ensures.others ∙ (ap (λ x. drop c.rank-at.result (listed x)) c.take.ensures.value ∙ ap (drop c.rank-at.result) c.self.view_is)) c.cut-found.ensures.first c.cut-found.ensures.others in
    let joined = ap length c.join.ensures in
    let both = length-append (listed c.cut-first.result.0) (listed c.cut-found.result.1) in
    omega (arith, less, joined, both)
