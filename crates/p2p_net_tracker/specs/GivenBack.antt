-- Which side a reservation is of that is given back, by the log: that of the entry that gives it back.
use Rattle.std.specs.Prelude.{◌≡◌, ℕ, List, take, Option, Some, None, slice_get}
use Rattle.std.specs.Option.{option_map}
use Rattle.p2p_base.specs.declared.key.Key.{Key}
use Rattle.p2p_tracker_directory.specs.declared.metadata.Metadata.{Metadata}
use Rattle.p2p_tracker_directory.specs.declared.metadata.Metadata.TheVariants as metadata
use Rattle.p2p_tracker_mailbox.specs.declared.message.Message.{Message}
use Rattle.p2p_tracker_mailbox.specs.declared.message.Message.TheVariants as message
use Rattle.p2p_log.specs.declared.queue.Side.{Side}
use Rattle.p2p_log.specs.declared.queue.Side.TheVariants as side
use Rattle.p2p_log.specs.declared.entry.Entry.{Entry}
use Rattle.p2p_log_rules.specs.declared.row.Half.{Half}
use Rattle.p2p_log_rules.specs.Halves.{half_in}
use Rattle.p2p_log_rules.specs.Tellings.{Telling, first_or}
use Rattle.p2p_log_rules.specs.Tellings as telling
use Rattle.p2p_log_rules.specs.Told.{tells, told}

-- the direction in which a node writes, or would, to the peer whose reservation goes with what is told after these: out where an attempt
-- ends, which dialed it, and in where a handshake does; and where a connection does, that of its half
abbrev pub side_freed : List Telling → Telling → Option Side
side_freed ts (telling.attempt_ended n k) = Some side.Out
side_freed ts (telling.handshake_ended n h link) = Some side.In
side_freed ts (telling.connection_ended n conn) = option_map (λ (half : Half). half.writes) (half_in ts n conn)
side_freed ts _ = None

-- as an entry tells it after this log
abbrev pub side_freed_by : List Entry → Entry → Option Side
side_freed_by before e = first_or None (side_freed (told before)) (tells (told before) before e)

-- as the entry of this name tells it
abbrev pub side_freed_at : List Entry → ℕ → Option Side
side_freed_at log k = elim (slice_get log k) [ None ↦ None | Some e ↦ side_freed_by (take k log) e ]

-- the reservation is of that side: the dialer's, or the listener's
abbrev pub IsOfSide : Option Side → Metadata Key → Type 0
IsOfSide s (metadata.Dialer key) = s ≡ Some side.Out
IsOfSide s (metadata.Listener key) = s ≡ Some side.In

-- what the message gives back, if it does, is of the side that the entry of this name tells
abbrev pub IsGivenBack : List Entry → ℕ → Message Key → Type 0
IsGivenBack log k (message.Release reserved) = IsOfSide (side_freed_at log k) reserved
IsGivenBack log k _ = Unit {0}
