use Rattle.std.proofs.Common.{◌≡◌, ◌&&◌, drop}
use Rattle.std.specs.Prelude.{nat_lt}
use Rattle.std.specs.List.{find}
use Rattle.std.specs.Option.{option_map}
use Rattle.std.specs.Map.{lookup}
use Rattle.std.specs.BTreeMap.{is_at}
use Rattle.p2p_tracker_directory.specs.Indexed.{timed, waits}
use Rattle.p2p_tracker_directory.proofs.directory.due.next_due.Given as goal

abbrev pub invariant-loop-place : goal.invariant-loop-place
invariant-loop-place g l =
    option_map (λ e. e.0) (find (λ e. nat_lt l.now e.0 && waits (lookup (is_at (g.C.Ord.cmp e.1)) l.records.entries) (lookup (is_at (g.C.Ord.cmp e.1)) l.blocks) l.now) (timed (drop l.place l.queue)))
    ≡ option_map (λ e. e.0) (find (λ e. nat_lt l.now e.0 && waits (lookup (is_at (g.C.Ord.cmp e.1)) l.records.entries) (lookup (is_at (g.C.Ord.cmp e.1)) l.blocks) l.now) (timed l.queue))
