use Rattle.std.proofs.Common.{◌&&◌, Some, ap, sym, ◌∙◌, arith}
use Rattle.std.specs.Prelude.{nat_lt}
use Rattle.std.specs.Option.{option_map}
use Rattle.std.specs.Map.{lookup}
use Rattle.std.specs.BTreeMap.{is_at}
use Rattle.std.specs.Ordering.{nat_cmp}
use Rattle.p2p_tracker_calls.specs.Sets.{how_many}
use Rattle.p2p_tracker_directory.specs.Placed.{is_passed}
use Rattle.p2p_tracker_directory.specs.declared.places.mark.Mark.TheVariants as mark
use Rattle.p2p_tracker_directory.specs.Indexed.{waits}
use Rattle.p2p_tracker_directory.proofs.Timed.{find-late, next-here, next-behind, next-none}
use Rattle.p2p_tracker_directory.proofs.directory.due.next_due.Goals as goal

pub loop-place-init : goal.loop-place-init
loop-place-init g c =
    ap (option_map (λ e. e.0)) (find-late g.met.C.Ord.total c.args.queue.now c.through-first.ensures.ordered c.args.now (λ e. nat_lt c.args.now e.0 && waits (lookup (is_at (g.C.Ord.cmp e.1)) c.args.records.now.entries) (lookup (is_at (g.C.Ord.cmp e.1)) c.args.blocks.now) c.args.now)
    (λ e h. ap (λ b. b && waits (lookup (is_at (g.C.Ord.cmp e.1)) c.args.records.now.entries) (lookup (is_at (g.C.Ord.cmp e.1)) c.args.blocks.now) c.args.now) h)
    c.through-first.result (c.through-first.ensures.rank ∙ ap (λ t. how_many (is_passed nat_cmp g.C.Ord.cmp (mark.Through (Some t))) c.args.queue.now) c.from.ensures))

pub loop-place-preserved : goal.loop-place-preserved
loop-place-preserved g c =
    next-behind (λ e. nat_lt c.args.now e.0 && waits (lookup (is_at (g.C.Ord.cmp e.1)) c.args.records.now.entries) (lookup (is_at (g.C.Ord.cmp e.1)) c.args.blocks.now) c.args.now)
    c.args.queue.now c.loop-place.place _ (sym c.in_default.is ∙ c.waits_at.ensures) c.loop-place.invariant

pub returns-in-Some : goal.returns-in-Some
returns-in-Some g c =
    next-here (λ e. nat_lt c.args.now e.0 && waits (lookup (is_at (g.C.Ord.cmp e.1)) c.args.records.now.entries) (lookup (is_at (g.C.Ord.cmp e.1)) c.args.blocks.now) c.args.now)
    c.args.queue.now c.loop-place.place c.in-Some.moment _ (sym c.in-Some.is ∙ c.waits_at.ensures) c.loop-place.invariant

pub returns : goal.returns
returns g c =
    next-none (λ e. nat_lt c.args.now e.0 && waits (lookup (is_at (g.C.Ord.cmp e.1)) c.args.records.now.entries) (lookup (is_at (g.C.Ord.cmp e.1)) c.args.blocks.now) c.args.now)
    c.args.queue.now c.loop-place.place _ (omega (arith, c.len-end.ensures.len, c.loop-place-test.false)) c.loop-place.invariant
