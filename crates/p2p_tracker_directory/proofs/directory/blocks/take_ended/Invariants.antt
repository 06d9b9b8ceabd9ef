use Rattle.std.proofs.Common.{◌≡◌, false, length}
use Rattle.p2p_base.specs.Moments.{soonest}
use Rattle.p2p_tracker_directory.specs.Stands.{ends_by}
use Rattle.std.specs.List.Sorted.{IsStrictlySortedBy}
use Rattle.std.specs.Map.{keys_of, lookup}
use Rattle.std.specs.BTreeMap.{is_at}
use Rattle.p2p_tracker_calls.specs.Blocks.{unless_ended}
use Rattle.p2p_tracker_directory.proofs.directory.blocks.take_ended.Given as goal

abbrev pub invariant-loop-blocks : goal.invariant-loop-blocks
invariant-loop-blocks g l = record {
  ordered : IsStrictlySortedBy g.C.Ord.cmp (keys_of l.initial.blocks) → IsStrictlySortedBy g.C.Ord.cmp (keys_of l.blocks);
  each : IsStrictlySortedBy g.C.Ord.cmp (keys_of l.initial.blocks)
      → (q : g.row.C.Denot) → unless_ended (lookup (is_at (g.C.Ord.cmp q)) l.blocks) l.now ≡ unless_ended (lookup (is_at (g.C.Ord.cmp q)) l.initial.blocks) l.now;
  kept : ends_by (soonest l.initial.blocks) l.now ≡ false → l.blocks ≡ l.initial.blocks;
}

abbrev pub decreases-loop-blocks : goal.decreases-loop-blocks
decreases-loop-blocks g l = length l.blocks
