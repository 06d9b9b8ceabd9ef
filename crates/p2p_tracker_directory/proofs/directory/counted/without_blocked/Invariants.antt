use Rattle.std.proofs.Common.{◌≡◌, ◌-◌}
use Rattle.p2p_tracker_calls.specs.Sets.{how_many}
use Rattle.p2p_tracker_directory.specs.Indexed.{is_blocked_from}
use Rattle.p2p_tracker_directory.proofs.directory.counted.without_blocked.Given as goal

abbrev pub invariant-loop-peer : goal.invariant-loop-peer
invariant-loop-peer g l =
    l.left - how_many (is_blocked_from g.C.Ord.cmp l.records.entries l.ip l.now) l.peer-iterator
    ≡ l.count - how_many (is_blocked_from g.C.Ord.cmp l.records.entries l.ip l.now) l.blocks
