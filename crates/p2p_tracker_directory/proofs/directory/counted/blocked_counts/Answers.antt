use Rattle.std.proofs.Common.{◌∙◌}
use Rattle.p2p_tracker_directory.proofs.AddressCounts.{counted-none, counted-one, counted-all}
use Rattle.p2p_tracker_directory.proofs.directory.counted.blocked_counts.Goals as goal

pub loop-peer-init : goal.loop-peer-init
loop-peer-init g c = counted-none g.C.Ord.cmp c.args.records.now.entries c.args.now c.new-counts.result.entries _ c.args.blocks.now c.new-counts.ensures.empty (c.into_iter-peer-iterator.ensures.into_iter_gives ∙ c.iter-peer-items.ensures)

pub loop-peer-preserved : goal.loop-peer-preserved
loop-peer-preserved g c =
    counted-one g.C.Ord.cmp c.args.records.now.entries c.args.now c.loop-peer.counts.entries c.count_in-is_counted.new.counts.entries c.loop-peer.peer-iterator c.next.new.self c.args.blocks.now
    (c.in-Some.peer.now, c.in-Some.end.now) c.blocked_source.result c.in-Some.ensures.steps c.blocked_source.ensures (c.count_in-is_counted.ensures c.if-not-is_counted.false) c.loop-peer.invariant

pub returns : goal.returns
returns g c = counted-all g.C.Ord.cmp c.args.records.now.entries c.args.now c.loop-peer.counts.entries c.loop-peer.peer-iterator c.args.blocks.now c.in-None.ensures.steps.0 c.loop-peer.invariant
