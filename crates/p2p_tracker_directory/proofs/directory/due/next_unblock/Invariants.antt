use Rattle.std.proofs.Common.{◌≡◌}
use Rattle.std.specs.Map.{lookup}
use Rattle.std.specs.BTreeMap.{is_at}
use Rattle.p2p_tracker_calls.specs.DialList.{earlier, earliest}
use Rattle.p2p_tracker_directory.specs.Indexed.{unblock_at}
use Rattle.p2p_tracker_directory.proofs.directory.due.next_unblock.Given as goal

abbrev pub invariant-loop-peer : goal.invariant-loop-peer
invariant-loop-peer g l =
    earlier l.next (earliest (λ b. unblock_at (lookup (is_at (g.C.Ord.cmp b.0)) l.records.entries) b.1 l.now) l.peer-iterator)
    ≡ earliest (λ b. unblock_at (lookup (is_at (g.C.Ord.cmp b.0)) l.records.entries) b.1 l.now) l.blocks
