use Rattle.std.proofs.Common.{ap, ◌∙◌, arith}
use Rattle.p2p_tracker_calls.specs.Sets.{how_many}
use Rattle.p2p_tracker_directory.specs.Placed.{is_passed}
use Rattle.p2p_tracker_directory.specs.declared.places.mark.Mark.TheVariants as mark
use Rattle.p2p_tracker_directory.proofs.Marks.{through-parts}
use Rattle.p2p_tracker_directory.proofs.places.Places.count.Goals as goal

pub overflow_sub-result : goal.overflow_sub-result
overflow_sub-result g c =
    let parts = through-parts g.K.Ord.cmp g.met.A.Ord.total c.args.place c.args.self.now in
    let below = c.rank.ensures.rank c.self.invariant ∙ ap (how_many (is_passed g.A.Ord.cmp g.K.Ord.cmp (mark.Below c.args.place))) c.self.view_is in
    omega (arith, parts, c.through.ensures.rank, below)

pub returns : goal.returns
returns g c =
    let parts = through-parts g.K.Ord.cmp g.met.A.Ord.total c.args.place c.args.self.now in
    let below = c.rank.ensures.rank c.self.invariant ∙ ap (how_many (is_passed g.A.Ord.cmp g.K.Ord.cmp (mark.Below c.args.place))) c.self.view_is in
    omega (arith, parts, c.through.ensures.rank, below)
