use Rattle.std.proofs.Common.{◌≡◌, [], ◌++◌, take, drop}
use Rattle.std.specs.Prelude.{count_by}
use Rattle.p2p_log.specs.declared.queue.Queue.{Queue}
use Rattle.p2p_log_rules.specs.TrackerRows.{rings_of}
use Rattle.p2p_net_queues.specs.Board.{held}
use Rattle.p2p_net_tracker.specs.Telling.{lost}
use Rattle.p2p_net_tracker.proofs.Rings.{is_same}
use Rattle.p2p_net_tracker.proofs.telling.overwrite.Given as goal

-- what the rings of the items so far lost
abbrev pub invariant-loop-put : goal.invariant-loop-put
invariant-loop-put l = record {
  row : l.row ≡ record l.initial.row { ends = l.initial.row.ends ++ lost (held l.initial.told) [] (rings_of (take l.put-index l.puts)) };
  told : (q : Queue) → held l.told q ≡ drop (count_by (is_same q) (rings_of (take l.put-index l.puts))) (held l.initial.told q);
}
