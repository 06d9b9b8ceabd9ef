use Rattle.std.proofs.Common.{sym, ap, ◌∙◌}
use Rattle.p2p_tracker_calls.specs.Sets.{how_many}
use Rattle.p2p_tracker_directory.specs.Linked.{listed}
use Rattle.p2p_tracker_directory.specs.Placed.{is_passed}
use Rattle.p2p_tracker_directory.proofs.Marks.{rank-right, rank-left}
use Rattle.p2p_tracker_directory.proofs.places.node.+rank.Goals as goal

pub returns-in_default-clause-rank : goal.returns-in_default-clause-rank
unfolding how_many
returns-in_default-clause-rank g t c = λ s. sym (ap (λ x. how_many (is_passed g.A.Ord.cmp g.K.Ord.cmp c.args.mark.now) (listed x)) c.in_default.is)

pub returns-then-is_passed-clause-rank : goal.returns-then-is_passed-clause-rank
returns-then-is_passed-clause-rank g t c = λ s.
    rank-right g.met.A.Ord.total g.met.K.Ord.total c.args.mark.now (listed c.args.link.now) (listed c.node.inside.left) (listed c.node.inside.right) c.node.inside.item
    (ap listed c.in-Some.is ∙ sym (c.node.view_is ∙ c.deref-node.ensures)) s (sym c.is_passed.ensures ∙ c.if-is_passed.true)
    c.count-all.result c.count.result c.rank.result c.count-all.ensures c.count.ensures c.rank.ensures.rank

pub returns-clause-rank : goal.returns-clause-rank
returns-clause-rank g t c = λ s.
    rank-left g.met.A.Ord.total g.met.K.Ord.total c.args.mark.now (listed c.args.link.now) (listed c.node.inside.left) (listed c.node.inside.right) c.node.inside.item
    (ap listed c.in-Some.is ∙ sym (c.node.view_is ∙ c.deref-node.ensures)) s (sym c.is_passed.ensures ∙ c.if-is_passed.false) c.rank-2.result c.rank-2.ensures.rank
