use Rattle.std.proofs.Common.{◌++◌, ◌+◌, cond, Some, None, drop, ap, sym, ◌∙◌, arith, filter_map}
use Rattle.std.specs.Prelude.{nat_lt}
use Rattle.std.specs.BTreeMap.{is_at}
use Rattle.std.specs.Ordering.{nat_cmp}
use Rattle.p2p_tracker_calls.specs.Sets.{how_many}
use Rattle.p2p_tracker_directory.specs.Placed.{is_passed}
use Rattle.p2p_tracker_directory.specs.declared.places.mark.Mark.TheVariants as mark
use Rattle.p2p_tracker_directory.specs.Indexed.{timed, due_key}
use Rattle.p2p_tracker_directory.proofs.Timed.{timed-first, due-more, due-over, due-all}
use Rattle.p2p_tracker_directory.proofs.directory.due.due_peers.Goals as goal
use Rattle.p2p_tracker_directory.proofs.directory.due.due_peers.Goals.{in-Some+in_ok-push, in_default}

pub loop-place-init : goal.loop-place-init
loop-place-init g c =
    ap (λ ys. ys ++ filter_map (λ e. cond (nat_lt c.args.now e.0) None (due_key (is_at (g.C.Ord.cmp e.1)) c.args.records.now.entries c.args.blocks.now c.args.now c.args.cfg.now.allow_private_ips c.args.cfg.now.allow_dns)) (timed (drop c.through-first.result c.args.queue.now))) c.new-peers.ensures.items
    ∙ ap (filter_map (λ e. cond (nat_lt c.args.now e.0) None (due_key (is_at (g.C.Ord.cmp e.1)) c.args.records.now.entries c.args.blocks.now c.args.now c.args.cfg.now.allow_private_ips c.args.cfg.now.allow_dns))) (timed-first g.met.C.Ord.total c.args.queue.now c.through-first.ensures.ordered c.through-first.result c.through-first.ensures.rank)

pub loop-place-preserved : goal.loop-place-preserved
loop-place-preserved g c =
    elim c.match-due_at.branch [
      | in-Some+in_ok-push w ↦ due-more (λ e. cond (nat_lt c.args.now e.0) None (due_key (is_at (g.C.Ord.cmp e.1)) c.args.records.now.entries c.args.blocks.now c.args.now c.args.cfg.now.allow_private_ips c.args.cfg.now.allow_dns))
          c.args.queue.now c.loop-place.place w.in-Some.key c.loop-place.peers.items c.match-due_at.peers.items _ (sym w.in-Some.is ∙ c.due_at.ensures)
          (ap (λ v. v.items) w.peers-is ∙ w.in_ok-push.ensures.items) c.loop-place.invariant
      | in_default w ↦ ap (λ v. v.items ++ filter_map (λ e. cond (nat_lt c.args.now e.0) None (due_key (is_at (g.C.Ord.cmp e.1)) c.args.records.now.entries c.args.blocks.now c.args.now c.args.cfg.now.allow_private_ips c.args.cfg.now.allow_dns)) (timed (drop (c.loop-place.place + 1) c.args.queue.now))) w.peers-is
          ∙ due-over (λ e. cond (nat_lt c.args.now e.0) None (due_key (is_at (g.C.Ord.cmp e.1)) c.args.records.now.entries c.args.blocks.now c.args.now c.args.cfg.now.allow_private_ips c.args.cfg.now.allow_dns))
          c.args.queue.now c.loop-place.place c.loop-place.peers.items _ (sym w.in_default.is ∙ c.due_at.ensures) c.loop-place.invariant
    ]

pub returns : goal.returns
returns g c =
    due-all g.met.C.Ord.total c.args.queue.now c.through-first.ensures.ordered c.args.now (λ q. due_key (is_at (g.C.Ord.cmp q)) c.args.records.now.entries c.args.blocks.now c.args.now c.args.cfg.now.allow_private_ips c.args.cfg.now.allow_dns) c.loop-place.place c.loop-place.peers.items _
    (
    let end = c.through-end.ensures.rank ∙ ap (λ t. how_many (is_passed nat_cmp g.C.Ord.cmp (mark.Through (Some t))) c.args.queue.now) c.from.ensures in
    omega (arith, end, c.loop-place-test.false)) c.loop-place.invariant
