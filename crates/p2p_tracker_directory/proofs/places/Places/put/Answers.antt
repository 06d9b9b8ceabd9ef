use Rattle.std.proofs.Common.{take, drop, ap, ◌∙◌, arith, subst}
use Rattle.std.specs.List.Sorted.{IsStrictlySortedBy}
use Rattle.p2p_tracker_calls.specs.Sets.{how_many}
use Rattle.p2p_tracker_directory.specs.Linked.{listed}
use Rattle.p2p_tracker_directory.specs.Placed.{by_place, is_passed}
use Rattle.p2p_tracker_directory.specs.declared.places.mark.Mark.TheVariants as mark
use Rattle.p2p_tracker_directory.proofs.Moves.{put-found, put-new, put-more, sorted-put}
use Rattle.p2p_tracker_directory.proofs.places.Places.put.Goals as goal

pub returns-then-end-at : goal.returns-then-end-at
returns-then-end-at g c =
    put-found g.met.A.Ord.total g.met.K.Ord.total c.args.self.now
    (subst (IsStrictlySortedBy (by_place g.A.Ord.cmp g.K.Ord.cmp)) c.self.view_is c.self.invariant) c.args.place c.args.key c.rank-at.result
    (c.rank-at.ensures.rank c.self.invariant ∙ ap (how_many (is_passed g.A.Ord.cmp g.K.Ord.cmp (mark.Before c.args.place c.args.key))) c.self.view_is) c.rank-end.result
    (c.rank-end.ensures.rank c.self.invariant ∙ ap (how_many (is_passed g.A.Ord.cmp g.K.Ord.cmp (mark.Upto c.args.place c.args.key))) c.self.view_is) (omega (arith, c.if-end-at.true))

pub join-requires-2 : goal.join-requires-2
join-requires-2 g c =
    let more = put-more g.met.A.Ord.total g.met.K.Ord.total c.args.self.now
    (subst (IsStrictlySortedBy (by_place g.A.Ord.cmp g.K.Ord.cmp)) c.self.view_is c.self.invariant) c.args.place c.args.key c.rank-at.result
    (c.rank-at.ensures.rank c.self.invariant ∙ ap (how_many (is_passed g.A.Ord.cmp g.K.Ord.cmp (mark.Before c.args.place c.args.key))) c.self.view_is) c.rank-end.result
    (c.rank-end.ensures.rank c.self.invariant ∙ ap (how_many (is_passed g.A.Ord.cmp g.K.Ord.cmp (mark.Upto c.args.place c.args.key))) c.self.view_is)
    (listed c.cut-first.result.0) (listed c.cut-first.result.1) c.args.node.value (listed c.join.result)
    (c.cut-first.ensures.first ∙ (ap (λ x. take c.rank-at.result (listed x)) c.take.ensures.value ∙ ap (take c.rank-at.result) c.self.view_is))
    (c.cut-first.ensures.others ∙ (ap (λ x. drop c.rank-at.result (listed x)) c.take.ensures.value ∙ ap (drop c.rank-at.result) c.self.view_is)) c.requires.alone c.join.ensures in
    omega (arith, more, c.requires.fits)

pub returns : goal.returns
returns g c =
    put-new g.met.A.Ord.total g.met.K.Ord.total c.args.self.now
    (subst (IsStrictlySortedBy (by_place g.A.Ord.cmp g.K.Ord.cmp)) c.self.view_is c.self.invariant) c.args.place c.args.key c.rank-at.result
    (c.rank-at.ensures.rank c.self.invariant ∙ ap (how_many (is_passed g.A.Ord.cmp g.K.Ord.cmp (mark.Before c.args.place c.args.key))) c.self.view_is) c.rank-end.result
    (c.rank-end.ensures.rank c.self.invariant ∙ ap (how_many (is_passed g.A.Ord.cmp g.K.Ord.cmp (mark.Upto c.args.place c.args.key))) c.self.view_is) (omega (arith, c.if-end-at.false))
    (listed c.cut-first.result.0) (listed c.cut-first.result.1) c.args.node.value (listed c.join.result) (listed c.join-2.result)
    (c.cut-first.ensures.first ∙ (ap (λ x. take c.rank-at.result (listed x)) c.take.ensures.value ∙ ap (take c.rank-at.result) c.self.view_is))
    (c.cut-first.ensures.others ∙ (ap (λ x. drop c.rank-at.result (listed x)) c.take.ensures.value ∙ ap (drop c.rank-at.result) c.self.view_is)) c.requires.alone c.join.ensures c.join-2.ensures

pub invariant_of-self : goal.invariant_of-self
invariant_of-self g c =
    sorted-put g.met.A.Ord.total g.met.K.Ord.total c.args.self.now (listed c.join-2.result) (c.args.place, c.args.key) (subst (IsStrictlySortedBy (by_place g.A.Ord.cmp g.K.Ord.cmp)) c.self.view_is c.self.invariant)
    (put-new g.met.A.Ord.total g.met.K.Ord.total c.args.self.now
    (subst (IsStrictlySortedBy (by_place g.A.Ord.cmp g.K.Ord.cmp)) c.self.view_is c.self.invariant) c.args.place c.args.key c.rank-at.result
    (c.rank-at.ensures.rank c.self.invariant ∙ ap (how_many (is_passed g.A.Ord.cmp g.K.Ord.cmp (mark.Before c.args.place c.args.key))) c.self.view_is) c.rank-end.result
    (c.rank-end.ensures.rank c.self.invariant ∙ ap (how_many (is_passed g.A.Ord.cmp g.K.Ord.cmp (mark.Upto c.args.place c.args.key))) c.self.view_is) (omega (arith, c.if-end-at.false))
    (listed c.cut-first.result.0) (listed c.cut-first.result.1) c.args.node.value (listed c.join.result) (listed c.join-2.result)
    (c.cut-first.ensures.first ∙ (ap (λ x. take c.rank-at.result (listed x)) c.take.ensures.value ∙ ap (take c.rank-at.result) c.self.view_is))
    (c.cut-first.ensures.others ∙ (ap (λ x. drop c.rank-at.result (listed x)) c.take.ensures.value ∙ ap (drop c.rank-at.result) c.self.view_is)) c.requires.alone c.join.ensures c.join-2.ensures)
