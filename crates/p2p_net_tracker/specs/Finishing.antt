-- What a handshake of a node's listener is told of its exchange of keys, as values.
use Rattle.std.specs.Prelude.{ℕ, Bool}
use Rattle.p2p_log.specs.declared.queue.Queue.{Queue}
use Rattle.p2p_log.specs.declared.queue.Queue.TheVariants as queue
use Rattle.p2p_log.specs.declared.item.Item.{Item}
use Rattle.p2p_log.specs.declared.item.Item.TheVariants as item
use Rattle.p2p_log.specs.declared.item.Envelope.{Envelope}

-- to the handshake h of the node n, as a put
abbrev pub finished_put : ℕ → ℕ → Bool → Queue × Item
finished_put n h ok = (queue.Handshake n h, item.Finished ok)

-- and as what waits in its queue, where the entry k put it at this place
abbrev pub told_finished : ℕ → ℕ → Bool → ℕ → ℕ → Envelope
told_finished n h ok k place = record { entry = k; place = place; queue = queue.Handshake n h; item = item.Finished ok }
