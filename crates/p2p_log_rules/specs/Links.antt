-- The links, by what was told: between whom keys are exchanged, what has their listening ends, and the row of the end of an exchange.
use Rattle.std.specs.Prelude.{ℕ, ◌==◌, ◌&&◌, Bool, true, false, not, cond, List, [], ◌∷◌, ◌++◌, Option, Some, None, is_some}
use Rattle.std.specs.Option.{option_map}
use Rattle.p2p_base.specs.declared.key.Key.{Key}
use Rattle.p2p_log.specs.declared.config.Config.{Config}
use Rattle.p2p_log.specs.declared.queue.Queue.{Queue}
use Rattle.p2p_log.specs.declared.queue.Queue.TheVariants as queue
use Rattle.p2p_log.specs.declared.item.Item.{Item}
use Rattle.p2p_log.specs.declared.item.Item.TheVariants as item
use Rattle.p2p_log.specs.declared.entry.Entry.{Entry}
use Rattle.p2p_log.specs.declared.entry.Reply.TheVariants as reply
use Rattle.p2p_log_rules.specs.declared.row.Row.{Row}
use Rattle.p2p_log_rules.specs.declared.row.Opening.{Opening}
use Rattle.p2p_log_rules.specs.declared.row.ListeningEnd.{ListeningEnd}
use Rattle.p2p_log_rules.specs.declared.row.ListeningEnd.TheVariants as listening
use Rattle.p2p_log_rules.specs.Attempting.{Attempt, attempts_of}
use Rattle.p2p_log_rules.specs.Cutting.{is_cut}
use Rattle.p2p_log_rules.specs.Facts.{key_at}
use Rattle.p2p_log_rules.specs.Handshakes.{is_accepted}
use Rattle.p2p_log_rules.specs.Rows.{only}
use Rattle.p2p_log_rules.specs.Tellings.{Telling, last_or}
use Rattle.p2p_log_rules.specs.Tellings as telling
use Rattle.p2p_log_rules.specs.Told.{told, is_link}

-- ---- between whom keys are exchanged

-- a link that was opened, until the exchange over it ended
abbrev pub opens_exchange : ℕ → Telling → Option (Option Opening)
opens_exchange link (telling.link_opened m j l to) = cond (link == l) (Some (Some (record { node = m; attempt = j; to = to }))) None
opens_exchange link (telling.exchange_ended l) = cond (link == l) (Some None) None
opens_exchange link _ = None

-- the links over which keys are exchanged, by the events that made them
unfoldable pub openings_of : List Entry → ℕ → Option Opening
openings_of log link = last_or None (opens_exchange link) (told log)

-- ---- what has their listening ends

-- an arrival that waits, then the handshake that its listener began with it, and nothing once that ended, or its node stopped
abbrev pub has_listening : ℕ → ℕ → Telling → Option (Option ListeningEnd)
has_listening n link (telling.link_opened m j l to) = cond ((to == n) && (link == l)) (Some (Some listening.Arriving)) None
has_listening n link (telling.arrival_taken m l handshake) = cond ((m == n) && (link == l)) (Some (option_map listening.Handshake handshake)) None
has_listening n link (telling.handshake_ended m h l) = cond ((m == n) && is_link link l) (Some None) None
has_listening n link (telling.node_stopped m) = cond (m == n) (Some None) None
has_listening n link _ = None

-- what has the listening ends of the links that lead to a node, by the events that made them
unfoldable pub listening_ends_of : List Entry → ℕ → ℕ → Option ListeningEnd
listening_ends_of log n link = last_or None (has_listening n link) (told log)

-- ---- the end of an exchange

-- whether this key is the one that was dialed
abbrev pub is_dialed : Key → Option Key → Bool
is_dialed key None = false
is_dialed key (Some dialed) = dialed.0 == key.0

-- whether the handshake at the listening end took that its peer may connect
abbrev pub accepts_peer : List Entry → ℕ → Option ListeningEnd → Bool
accepts_peer log n (Some (listening.Handshake h)) = is_accepted log n h
accepts_peer log n _ = false

-- whether keys were exchanged, by whether both ends stand over a link that was not cut, whether it is said so and the key is the one that was dialed, and whether the
-- listening side has accepted: it waits for that
abbrev pub exchanged : Bool → Bool → Bool → Option Bool
exchanged false agree accepted = Some false
exchanged true false accepted = Some false
exchanged true true true = Some true
exchanged true true false = None

-- an attempt that stands is told, and so is a handshake, but no arrival
abbrev pub dialing_puts : ℕ → ℕ → Bool → Option Attempt → List (Queue × Item)
dialing_puts n e ok None = []
dialing_puts n e ok (Some a) = (queue.Attempt n e, item.Finished ok) ∷ []

abbrev pub listening_puts : ℕ → Bool → Option ListeningEnd → List (Queue × Item)
listening_puts n ok (Some (listening.Handshake h)) = (queue.Handshake n h, item.Finished ok) ∷ []
listening_puts n ok _ = []

abbrev pub finished_row : Opening → Option Attempt → Option ListeningEnd → Option Bool → Row
finished_row o dialing listening None = only reply.Pending
finished_row o dialing listening (Some ok) =
    record { reply = reply.Ok; takes = []; puts = dialing_puts o.node o.attempt ok dialing ++ listening_puts o.to ok listening; ends = [] }

-- whether both ends stand and the link was not cut, and what is said of the keys agrees with them, by the key that was dialed
abbrev pub verdict : List Config → List Entry → Bool → ℕ → Bool → Option Key → Option ListeningEnd → Option Bool
verdict configs log ok to cut dialed listening =
    exchanged ((is_some dialed && is_some listening) && not cut) (ok && is_dialed (key_at configs to) dialed) (accepts_peer log to listening)

abbrev pub finish_by : List Config → List Entry → Bool → Bool → Opening → Option Attempt → Option ListeningEnd → Row
finish_by configs log ok cut o dialing listening =
    finished_row o dialing listening (verdict configs log ok o.to cut (option_map (λ (a : Attempt). a.key) dialing) listening)

-- the exchange over a link ends, once
abbrev pub finish_row : List Config → List Entry → ℕ → Bool → Row
finish_row configs log link ok = elim (openings_of log link) [
  | None ↦ only reply.Gone
  | Some o ↦ finish_by configs log ok (is_cut log link) o (attempts_of configs log o.node o.attempt) (listening_ends_of log o.to link)
]
