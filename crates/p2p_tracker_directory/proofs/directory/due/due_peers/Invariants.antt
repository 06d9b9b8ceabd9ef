use Rattle.std.proofs.Common.{◌≡◌, ◌++◌, cond, None, drop, filter_map}
use Rattle.std.specs.Prelude.{nat_lt}
use Rattle.std.specs.BTreeMap.{is_at}
use Rattle.p2p_tracker_directory.specs.Indexed.{timed, due_key}
use Rattle.p2p_tracker_directory.proofs.directory.due.due_peers.Given as goal

abbrev pub invariant-loop-place : goal.invariant-loop-place
invariant-loop-place g l =
    l.peers.items ++ filter_map (λ e. cond (nat_lt l.now e.0) None (due_key (is_at (g.C.Ord.cmp e.1)) l.records.entries l.blocks l.now l.cfg.allow_private_ips l.cfg.allow_dns)) (timed (drop l.place l.queue))
    ≡ filter_map (λ e. cond (nat_lt l.now e.0) None (due_key (is_at (g.C.Ord.cmp e.1)) l.records.entries l.blocks l.now l.cfg.allow_private_ips l.cfg.allow_dns)) (timed l.queue)
