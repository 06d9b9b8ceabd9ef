-- The row of a step, by what the actor answered.
use Rattle.std.specs.Prelude.{◌≡◌, ℕ, List, [], ◌∷◌, ◌++◌, map, filter, flat_map, Option, Some, None}
use Rattle.p2p_base.specs.declared.key.Key.{Key}
use Rattle.p2p_log.specs.declared.queue.Queue.{Queue}
use Rattle.p2p_log.specs.declared.queue.Queue.TheVariants as queue
use Rattle.p2p_log.specs.declared.item.Item.{Item}
use Rattle.p2p_log.specs.declared.item.Item.TheVariants as item
use Rattle.p2p_log.specs.declared.item.Envelope.{Envelope}
use Rattle.p2p_log.specs.declared.entry.Reply.{Reply}
use Rattle.p2p_log.specs.declared.entry.Reply.TheVariants as reply
use Rattle.p2p_log_rules.specs.declared.row.Row.{Row}
use Rattle.p2p_log.specs.Lines.{name_of, stays, ended_item}
use Rattle.p2p_log_rules.specs.Effect.{only, peers_put, peers_ends}
use Rattle.p2p_net_queues.specs.declared.board.Board.{Board}
use Rattle.p2p_net_queues.specs.Board.{held}
use Rattle.p2p_log_rules.specs.Rows.{taken_row}
use Rattle.p2p_router.specs.declared.stepped.Stepped.{Stepped}
use Rattle.p2p_router.specs.declared.stepped.Stepped.TheVariants as stepped
use Rattle.p2p_net_router.specs.Copies.{copies_spread}
use Rattle.p2p_net_router.specs.Items.{channel_of}
use Rattle.p2p_net_router.specs.Holds.{after}
use Rattle.p2p_net_router.specs.Names.{Agrees, label, tag_of}
use Rattle.p2p_net_router.specs.Oldest.{IsOldest, send_of, told_row}
use Rattle.p2p_net_router.specs.Relays.{with_spread}
use Rattle.p2p_net_router.specs.declared.name.Name.{Name}

-- the answer of a connection, where one was answered
abbrev pub answers_put : ℕ → Option ℕ → List (Queue × Item)
answers_put n None = []
answers_put n (Some conn) = (queue.RouterAnswer n conn, item.RouterAnswer) ∷ []

-- the items without the lists of these channels
abbrev pub listless : ℕ → List ℕ → List Envelope → List Envelope
listless n cs items = filter (stays (flat_map ended_item (peers_ends items n cs))) items

-- the row that over these items ends the lists of these channels, and puts these items and then a list of peers for each channel
abbrev pub with_lists : Row → List Envelope → ℕ → List (Queue × Item) → List Key → List ℕ → Row
with_lists r items n puts keys cs =
    record { reply = r.reply; takes = r.takes; puts = (r.puts ++ puts) ++ map (peers_put n keys) cs; ends = r.ends ++ peers_ends items n cs }

-- what a step replies
abbrev pub reply_to : Stepped Key → Reply
reply_to stepped.Idle = reply.Idle
reply_to (stepped.Ready peer conn replaced told) = reply.Ok
reply_to (stepped.Release peer told) = reply.Ok
reply_to (stepped.Content encoded copies) = reply.Ok
reply_to (stepped.SubscribePeers subscription told) = reply.Ok

-- the row of a step that took this item, where it took one
abbrev pub stepped_row : ℕ → List ℕ → Stepped Key → Envelope → List Envelope → Row
stepped_row n channels stepped.Idle x items = only reply.Idle
stepped_row n channels (stepped.Ready peer conn replaced told) x items = told_row n x items (answers_put n (Some conn)) told.peers (map (channel_of channels) told.subscriptions)
stepped_row n channels (stepped.Release peer told) x items = told_row n x items (answers_put n None) told.peers (map (channel_of channels) told.subscriptions)
stepped_row n channels (stepped.Content encoded copies) x items =
    with_spread (taken_row (name_of x)) (copies_spread n (send_of (tag_of x.item)) 0 encoded.payload copies (record { puts = []; ends = [] }))
stepped_row n channels (stepped.SubscribePeers subscription told) x items = told_row n x items (answers_put n None) told.peers (map (channel_of channels) told.subscriptions)

-- the row and the new names are those of the step with this answer
pub record IsNoted (n entry : ℕ) (channels : List ℕ) (old new : Board Name) (s : Stepped Key) (row : Row) : Type 0 where
  pub idle : s ≡ stepped.Idle → (row ≡ only reply.Idle) × (new ≡ old)
  pub row_is : (items : List Envelope) (x : Envelope) (rest : List Envelope) → IsOldest n old items x rest → row ≡ stepped_row n channels s x items
  pub names : (items : List Envelope) (x : Envelope) (rest : List Envelope) → IsOldest n old items x rest → Agrees n label (held new) (after entry row items)
