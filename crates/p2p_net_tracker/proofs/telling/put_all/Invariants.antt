use Rattle.std.proofs.Common.{◌≡◌, ◌++◌, length}
use Rattle.std.specs.Prelude.{filter}
use Rattle.p2p_log.specs.declared.queue.Queue.{Queue}
use Rattle.p2p_log.specs.Lines.{placed, stands_in}
use Rattle.p2p_net_queues.specs.Board.{held}
use Rattle.p2p_net_tracker.proofs.telling.put_all.Given as goal

-- what is put so far, and then the rest
abbrev pub invariant-loop-put : goal.invariant-loop-put
invariant-loop-put l = record {
  row : record l.row { puts = l.row.puts ++ l.put-iterator.rest.items } ≡ record l.initial.row { puts = l.initial.row.puts ++ l.fn.puts };
  told : (q : Queue) → held l.told q ++ filter (stands_in q) (placed l.turn.entry (length l.row.puts) l.put-iterator.rest.items)
      ≡ held l.initial.told q ++ filter (stands_in q) (placed l.turn.entry (length l.initial.row.puts) l.fn.puts);
}
