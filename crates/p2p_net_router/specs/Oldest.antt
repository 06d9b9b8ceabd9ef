-- The message that a router takes, by the names of what stands in its queues.
use Rattle.std.specs.Prelude.{◌≡◌, ℕ, List, [], ◌∷◌, ◌++◌, map, filter, Option, Some, None}
use Rattle.p2p_base.specs.declared.key.Key.{Key}
use Rattle.p2p_log.specs.declared.queue.Queue.{Queue}
use Rattle.p2p_log.specs.declared.queue.Queue.TheVariants as queue
use Rattle.p2p_log.specs.declared.item.Item.{Item}
use Rattle.p2p_log.specs.declared.item.Envelope.{Envelope}
use Rattle.p2p_log.specs.declared.entry.Reply.TheVariants as reply
use Rattle.p2p_log_rules.specs.declared.row.Row.{Row}
use Rattle.p2p_log.specs.Lines.{name_of, stays, stands_in}
use Rattle.p2p_log_rules.specs.Effect.{peers_put, peers_ends}
use Rattle.p2p_log.specs.Apart.{AreApart}
use Rattle.p2p_net_queues.specs.declared.board.Board.{Board}
use Rattle.p2p_net_queues.specs.Board.{held}
use Rattle.p2p_net_router.specs.Names.{Agrees, label}
use Rattle.p2p_net_router.specs.declared.name.Name.{Name}

-- of these items, which have these names, this one is the oldest message of the node's router
pub record IsOldest (n : ℕ) (names : Board Name) (items : List Envelope) (x : Envelope) (rest : List Envelope) : Type 0 where
  pub apart : AreApart items
  pub first : filter (stands_in (queue.Router n)) items ≡ x ∷ rest
  pub agree : Agrees n label (held names) items

-- the items without the one that was taken
abbrev pub without : Envelope → List Envelope → List Envelope
without x items = filter (stays (name_of x ∷ [])) items

-- the send of a tag
abbrev pub send_of : Option (ℕ × ℕ) → ℕ
send_of None = 0
send_of (Some tag) = tag.0

abbrev pub send_named : Option Name → ℕ
send_named None = 0
send_named (Some name) = send_of name.tag

-- the row of a step that took this item, and put these items and then a list of peers for these channels
abbrev pub told_row : ℕ → Envelope → List Envelope → List (Queue × Item) → List Key → List ℕ → Row
told_row n x items puts keys cs = record {
  reply = reply.Ok;
  takes = name_of x ∷ [];
  puts = puts ++ map (peers_put n keys) cs;
  ends = peers_ends (without x items) n cs;
}
