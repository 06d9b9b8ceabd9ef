-- Which acts hand messages to readers, from which queues, and what readers are told.
use Rattle.std.specs.Prelude.{ℕ, Bool, true, false, List, Option, Some, None}
use Rattle.p2p_log.specs.declared.config.Config.{Config}
use Rattle.p2p_log.specs.declared.queue.Queue.{Queue}
use Rattle.p2p_log.specs.declared.queue.Queue.TheVariants as queue
use Rattle.p2p_log.specs.declared.item.Item.{Item}
use Rattle.p2p_log.specs.declared.item.Item.TheVariants as item
use Rattle.p2p_log.specs.declared.entry.Entry.{Entry}
use Rattle.p2p_log.specs.declared.entry.Reply.{Reply}
use Rattle.p2p_log.specs.declared.entry.Reply.TheVariants as reply
use Rattle.p2p_log.specs.declared.event.Act.{Act}
use Rattle.p2p_log.specs.declared.event.Act.TheVariants as act

-- the queue from which an act reads, given the configurations and the entries before it: the one place that knows which acts
-- read
abbrev pub reading_of : List Config → List Entry → Act → Option Queue
reading_of configs before (act.Recv c n) = Some (queue.Channel n c)
reading_of configs before _ = None

-- what a reader of this queue is given of the bytes that were sent: all of them
abbrev pub given : Queue → List ℕ → List ℕ
given _ bytes = bytes

-- what a reader of this queue is told of an item there
abbrev pub told_of_reading : Queue → Item → Reply
told_of_reading q (item.Message bytes copy from) = reply.Message (given q bytes) from
told_of_reading q _ = reply.Pending

-- whether a reply tells of an item that was read
abbrev pub is_read : Reply → Bool
is_read (reply.Message bytes from) = true
is_read _ = false
