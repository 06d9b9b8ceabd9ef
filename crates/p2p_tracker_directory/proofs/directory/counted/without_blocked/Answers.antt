use Rattle.std.proofs.Common.{◌-◌, sym, ap, ◌∙◌}
use Rattle.std.specs.Prelude.{nat_lt}
use Rattle.std.specs.Map.{lookup}
use Rattle.std.specs.BTreeMap.{is_at}
use Rattle.p2p_tracker_calls.specs.Sets.{how_many}
use Rattle.p2p_tracker_directory.specs.Indexed.{source_in, is_from, is_blocked_from}
use Rattle.p2p_tracker_directory.proofs.AddressCounts.{from-cond, less-passed, less-passed_over, none-off}
use Rattle.p2p_tracker_directory.proofs.directory.counted.without_blocked.Goals as goal

pub loop-peer-preserved-then-is_from : goal.loop-peer-preserved-then-is_from
loop-peer-preserved-then-is_from g c =
    ap (λ n. n - how_many (is_blocked_from g.C.Ord.cmp c.args.records.now.entries c.args.ip.now c.args.now) c.next.new.self) c.saturating_sub-left.ensures
    ∙ less-passed (is_blocked_from g.C.Ord.cmp c.args.records.now.entries c.args.ip.now c.args.now) c.loop-peer.peer-iterator c.next.new.self (c.in-Some.peer.now, c.in-Some.end.now) c.loop-peer.left _
    c.in-Some.ensures.steps
    (sym (from-cond c.args.ip.now (nat_lt c.args.now c.in-Some.end.now) (source_in (lookup (is_at (g.C.Ord.cmp c.in-Some.peer.now)) c.args.records.now.entries)))
    ∙ (ap (is_from c.args.ip.now) (sym c.blocked_source.ensures) ∙ (sym c.is_from.ensures ∙ c.if-is_from.true)))
    c.loop-peer.invariant

pub loop-peer-preserved : goal.loop-peer-preserved
loop-peer-preserved g c =
    less-passed_over (is_blocked_from g.C.Ord.cmp c.args.records.now.entries c.args.ip.now c.args.now) c.loop-peer.peer-iterator c.next.new.self (c.in-Some.peer.now, c.in-Some.end.now) c.loop-peer.left _
    c.in-Some.ensures.steps
    (sym (from-cond c.args.ip.now (nat_lt c.args.now c.in-Some.end.now) (source_in (lookup (is_at (g.C.Ord.cmp c.in-Some.peer.now)) c.args.records.now.entries)))
    ∙ (ap (is_from c.args.ip.now) (sym c.blocked_source.ensures) ∙ (sym c.is_from.ensures ∙ c.if-is_from.false)))
    c.loop-peer.invariant

pub returns : goal.returns
returns g c =
    none-off (is_blocked_from g.C.Ord.cmp c.args.records.now.entries c.args.ip.now c.args.now) c.loop-peer.peer-iterator c.loop-peer.left _ c.in-None.ensures.steps.0 c.loop-peer.invariant
