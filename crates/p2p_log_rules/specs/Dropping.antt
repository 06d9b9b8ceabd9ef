-- Which ends of links were dropped, by the log, and what a step of an attempt, of a handshake or of a listener comes to that drops one.
use Rattle.std.specs.Prelude.{ℕ, Bool, true, false, ◌==◌, ◌&&◌, cond, List, [], ◌∷◌, ◌++◌, map, flat_map, take, Option, Some, None}
use Rattle.std.specs.List.{list_any}
use Rattle.std.specs.Option.{option_map}
use Rattle.p2p_log.specs.declared.config.Config.{Config}
use Rattle.p2p_log.specs.declared.queue.Queue.TheVariants as queue
use Rattle.p2p_log.specs.declared.queue.Side.{Side}
use Rattle.p2p_log.specs.declared.queue.Side.TheVariants as side
use Rattle.p2p_log.specs.declared.item.Item.{Item}
use Rattle.p2p_log.specs.declared.item.Envelope.{Envelope}
use Rattle.p2p_log.specs.declared.end.Cause.TheVariants as cause
use Rattle.p2p_log.specs.declared.entry.Entry.{Entry}
use Rattle.p2p_log.specs.Drained.{all_end}
use Rattle.p2p_log.specs.Lines.{line}
use Rattle.p2p_log_rules.specs.declared.row.Half.{Half}
use Rattle.p2p_log_rules.specs.declared.row.Row.{Row}
use Rattle.p2p_log_rules.specs.Attempting.{attempt_row}
use Rattle.p2p_log_rules.specs.Handshakes.{came_over}
use Rattle.p2p_log_rules.specs.Handshaking.{handshake_row}
use Rattle.p2p_log_rules.specs.Listening.{listener_row}
use Rattle.p2p_log_rules.specs.Puts.{gave_up, broke_off, turns_away, arrival_link}
use Rattle.p2p_log_rules.specs.Tellings.{Telling}
use Rattle.p2p_log_rules.specs.Tellings as telling
use Rattle.p2p_log_rules.specs.Told.{tells, told, link_in}

-- an end of a link, by the direction in which it writes
abbrev pub LinkEnd : Type 0
LinkEnd = ℕ × Side

abbrev pub other_side : Side → Side
other_side side.Out = side.In
other_side side.In = side.Out

-- ---- which ends were dropped

abbrev pub is_side : Side → Side → Bool
is_side side.Out side.Out = true
is_side side.In side.In = true
is_side _ _ = false

-- whether it is told of this end that it was dropped
abbrev pub drops : ℕ → Side → Telling → Bool
drops link s (telling.end_dropped e t) = (link == e) && is_side s t
drops link s _ = false

-- whether the end of a link that writes in this direction was dropped, by what had it
unfoldable pub is_dropped : List Entry → ℕ → Side → Bool
is_dropped log link s = list_any (drops link s) (told log)

-- the ends that these tell of, in order
abbrev pub drop_in : Telling → List LinkEnd
drop_in (telling.end_dropped link s) = (link, s) ∷ []
drop_in _ = []

abbrev pub drops_in : List Telling → List LinkEnd
drops_in ts = flat_map drop_in ts

-- the ends that an entry drops
abbrev pub drops_of : List Entry → Entry → List LinkEnd
drops_of log e = drops_in (tells (told log) log e)

-- the end that an attempt has, where its dial was answered with a link
abbrev pub dialing_end : List Entry → ℕ → ℕ → Option LinkEnd
dialing_end log n k = option_map (λ link. (link, side.Out)) (link_in (told log) n k)

-- the listening end of a link over which a peer came
abbrev pub listening_end : Option ℕ → Option LinkEnd
listening_end o = option_map (λ link. (link, side.In)) o

-- that of an arrival
abbrev pub arrival_end : List Item → Option LinkEnd
arrival_end items = listening_end (arrival_link items)

-- that of the oldest of these
abbrev pub oldest_end : List Envelope → Option LinkEnd
oldest_end [] = None
oldest_end (x ∷ xs) = arrival_end (x.item ∷ [])

-- that of the oldest at a node's listener
abbrev pub arriving_end : List Entry → ℕ → Option LinkEnd
arriving_end log n = oldest_end (line log (queue.Arrivals n))

abbrev pub half_end : Option Half → Option LinkEnd
half_end o = option_map (λ (half : Half). (half.link, half.writes)) o

-- ---- what ends with an end

-- the frames in flight towards this end
abbrev pub frames_towards : List Entry → LinkEnd → List Envelope
frames_towards log e = line log (queue.Link e.0 (other_side e.1))

-- a row that drops this end too: the frames in flight towards it end, and their copies
abbrev pub dropping : List Entry → Option LinkEnd → Row → Row
dropping log None r = r
dropping log (Some e) r = record r { ends = r.ends ++ all_end cause.ConnectionEnded (frames_towards log e) }

-- ---- the steps of attempts, handshakes and listeners

-- an attempt that ends without a connection drops its end
abbrev pub attempt_drops : List Entry → ℕ → ℕ → Row → Row
attempt_drops log e n r = dropping log (cond (gave_up r.puts) (dialing_end log n e) None) r

abbrev pub attempt_step_row : List Config → List Entry → ℕ → ℕ → ℕ → ℕ → Row
attempt_step_row configs log e n at seed = attempt_drops log e n (attempt_row configs log e n at seed)

-- and so does a handshake, by what it took
abbrev pub handshake_drops : List Entry → Option ℕ → List Envelope → Row → Row
handshake_drops log link waiting r =
    dropping log (cond (broke_off r.reply (map (λ x. x.item) (take 1 waiting)) r.puts) (listening_end link) None) r

abbrev pub handshake_step_row : List Config → List Entry → ℕ → ℕ → ℕ → Row
handshake_step_row configs log name n at =
    handshake_drops log (came_over log name) (line log (queue.Handshake n name)) (handshake_row configs log name n at)

-- and a listener that of an arrival that it turns away
abbrev pub listener_drops : List Entry → ℕ → Row → Row
listener_drops log n r = dropping log (cond (turns_away r.reply) (arriving_end log n) None) r

abbrev pub listener_step_row : List Config → List Entry → ℕ → ℕ → Row
listener_step_row configs log n at = listener_drops log n (listener_row configs log n at)
