-- What becomes of the message of a delivery where its reader is dropped, before it comes and once it waits.
use Rattle.std.specs.Prelude.{List, [], ◌∷◌, take}
use Rattle.p2p_log.specs.declared.end.Cause.TheVariants as cause
use Rattle.p2p_log.specs.declared.end.End.TheVariants as end
use Rattle.p2p_log.specs.declared.end.Outcome.TheVariants as outcome
use Rattle.p2p_log.specs.declared.entry.Entry.{Entry}
use Rattle.p2p_log.specs.declared.entry.Reply.TheVariants as reply
use Rattle.p2p_log.specs.declared.event.Act.TheVariants as act
use Rattle.p2p_log_laws.specs.PlainPath.{delivery}
use Rattle.p2p_log_laws.specs.Worked.{entry}

-- entries 0 to 39: the message waits for its reader
abbrev pub message_waits : List Entry
message_waits = take 40 delivery

-- entry 40: the reader is dropped, and the message ends with its copy
abbrev pub message_left : Entry
message_left = entry (act.Close 7 1) reply.Ok [] [] (end.Item 39 0 ∷ end.Copy 36 0 (outcome.Dropped cause.ReceiverClosed) ∷ [])

-- entry 41: it is dropped once
abbrev pub closed_once : Entry
closed_once = entry (act.Close 7 1) reply.Gone [] [] []

-- entry 41: nobody reads there
abbrev pub nobody_reads : Entry
nobody_reads = entry (act.Recv 7 1) reply.Gone [] [] []

-- entries 0 to 38: the message is on its way
abbrev pub message_comes : List Entry
message_comes = take 39 delivery

-- entry 39: the reader is dropped before it comes
abbrev pub reader_leaves : Entry
reader_leaves = entry (act.Close 7 1) reply.Ok [] [] []

-- entry 40: it comes too late
abbrev pub message_late : Entry
message_late = entry (act.RecvStep 25 1) reply.Ok ((38, 0) ∷ []) [] (end.Copy 36 0 (outcome.Dropped cause.ReceiverClosed) ∷ [])
