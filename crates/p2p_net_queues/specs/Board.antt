-- What a board holds.
use Rattle.std.specs.Prelude.{List, [], Option, Some, None}
use Rattle.std.specs.declared.collections.VecDeque.{VecDeque}
use Rattle.std.specs.declared.alloc.Global.{Global}
use Rattle.std.specs.BTreeMap.{get}
use Rattle.p2p_log.specs.QueueOrder.{queue_cmp}
use Rattle.p2p_log.specs.declared.queue.Queue.{Queue}
use Rattle.p2p_net_queues.specs.declared.board.Board.{Board}

module _ {T : Type 0} where
  -- the items of a line, where there is one
  abbrev pub items_in : Option (VecDeque T Global) → List T
  items_in None = []
  items_in (Some line) = line.items

  -- what stands in a queue
  abbrev pub held : Board T → Queue → List T
  held board q = items_in (get queue_cmp board.lines q)
