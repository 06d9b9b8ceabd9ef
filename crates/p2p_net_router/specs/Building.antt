-- The names of a router while a row is built.
use Rattle.std.specs.Prelude.{ℕ, List, ◌++◌}
use Rattle.p2p_log.specs.declared.queue.Queue.{Queue}
use Rattle.p2p_log.specs.declared.queue.Queue.TheVariants as queue
use Rattle.p2p_log.specs.declared.item.Item.{Item}
use Rattle.p2p_log.specs.declared.item.Item.TheVariants as item
use Rattle.p2p_log.specs.declared.item.Envelope.{Envelope}
use Rattle.p2p_log_rules.specs.declared.row.Row.{Row}
use Rattle.p2p_log.specs.Lines.{placed}
use Rattle.p2p_net_queues.specs.declared.board.Board.{Board}
use Rattle.p2p_net_queues.specs.Board.{held}
use Rattle.p2p_net_router.specs.Names.{Agrees, label}
use Rattle.p2p_net_router.specs.declared.name.Name.{Name}

-- the subscription of a channel
abbrev pub subscription : ℕ → ℕ → Queue × Item
subscription n c = (queue.Router n, item.Subscribe c)

-- the names are those of these items, and then of what the row puts so far, as the puts of this entry
abbrev pub NamesBuild : ℕ → Board Name → List Envelope → ℕ → Row → Type 0
NamesBuild n names items entry row = Agrees n label (held names) (items ++ placed entry 0 row.puts)
