-- What the stop of a node makes of its dialer and of its listener, and what is left of the dialer between its steps.
use Rattle.std.specs.Prelude.{◌≡◌, ℕ, true, List, [], ◌∷◌, ◌++◌, map, filter, Option, Some, None}
use Rattle.p2p_base.specs.declared.key.Key.{Key}
use Rattle.p2p_gates.specs.Handshaking.{Handshaking}
use Rattle.p2p_gates.specs.declared.arrival.Arrival.{Arrival}
use Rattle.p2p_log.specs.declared.config.Config.{Config}
use Rattle.p2p_log.specs.declared.queue.Queue.TheVariants as queue
use Rattle.p2p_log.specs.declared.item.Envelope.{Envelope}
use Rattle.p2p_log.specs.declared.entry.Entry.{Entry}
use Rattle.p2p_log.specs.Lines.{name_of, stands_in, line}
use Rattle.p2p_log_rules.specs.declared.row.Row.{Row}
use Rattle.p2p_log_rules.specs.Handshakes.{handshakes_of}
use Rattle.p2p_log_rules.specs.Links.{listening_ends_of}
use Rattle.p2p_log_rules.specs.Listening.{known_of}
use Rattle.p2p_net_queues.specs.Rows.{item_ends}
use Rattle.p2p_net_queues.specs.Tables as table
use Rattle.p2p_net_gates.specs.Handshaking.{freed_if}
use Rattle.p2p_net_gates.specs.ListenerStands.{TellsNothing}
use Rattle.p2p_net_gates.specs.declared.attempt.RunningAttempt.{RunningAttempt}
use Rattle.p2p_net_gates.specs.declared.dialing.Dialing.{Dialing}
use Rattle.p2p_net_gates.specs.declared.listening.Listening.{Listening}
use Rattle.p2p_net_gates.specs.declared.stopping.Stopped.{Stopped}

-- ---- attempts

-- the first of these attempts stops, and what waits for it ends
abbrev pub StopsFirst : List (ℕ × RunningAttempt) → List (ℕ × RunningAttempt) → Row → Row → Option Stopped → Type 0
StopsFirst [] new row after o = (o ≡ None) × ((new ≡ []) × (after ≡ row))
StopsFirst ((k, a) ∷ rest) new row after o =
    (o ≡ Some (record { name = k; link = a.link })) × ((new ≡ rest) × (after ≡ record row { ends = row.ends ++ item_ends a.names }))

-- the names of what waits for an attempt
abbrev pub waiting_names : Option RunningAttempt → List (ℕ × ℕ)
waiting_names None = []
waiting_names (Some a) = a.names

-- what waits for the attempts agrees with the items that are left
pub record DialerLeft (n : ℕ) (d : Dialing) (items : List Envelope) : Type 0 where
  pub names : (k : ℕ) → waiting_names (table.at d.attempts k) ≡ map name_of (filter (stands_in (queue.Attempt n k)) items)

-- ---- arrivals and handshakes

-- a link, with the name of its arrival, where there is one
abbrev pub paired : Option (ℕ × ℕ) → ℕ → List ((ℕ × ℕ) × ℕ)
paired None link = []
paired (Some name) link = (name, link) ∷ []

-- each of these names with the link of the arrival of its place, as long as both last
abbrev pub zipped : List (ℕ × ℕ) → List (Arrival Key) → List ((ℕ × ℕ) × ℕ)
zipped [] arrivals = []
zipped (name ∷ names) [] = []
zipped (name ∷ names) (a ∷ arrivals) = (name, a.link) ∷ zipped names arrivals

-- the first of these handshakes stops, and its place is free
abbrev pub StopsHandshake : List (ℕ × Handshaking Key) → Listening → Listening → Option Stopped → Type 0
StopsHandshake [] old new o = (o ≡ None) × (new ≡ record old { handshakes = [] })
StopsHandshake ((k, h) ∷ rest) old new o =
    (o ≡ Some (record { name = k; link = Some h.arrival.link })) × (new ≡ record old { actor = freed_if true old.actor; handshakes = rest })

-- ---- once all has stopped

-- nobody waits at it, nothing runs, and each place is free
abbrev pub emptied : Listening → Listening
emptied l = record {
  actor = record l.actor { arrivals = []; places = record { held = 0; max = l.actor.places.max } };
  names = [];
  handshakes = [];
  ends = [];
}

-- an entry that leaves a listener nothing but what its gates go by
pub record StopsListener (configs : List Config) (log : List Entry) (e : Entry) (n : ℕ) : Type 0 where
  pub known : known_of configs (log ++ e ∷ []) n ≡ known_of configs log n
  pub handshakes : handshakes_of (log ++ e ∷ []) n ≡ []
  pub arrivals : line (log ++ e ∷ []) (queue.Arrivals n) ≡ []
  pub tells : (k : ℕ) → TellsNothing log e n k
  pub ends : (k : ℕ) → listening_ends_of (log ++ e ∷ []) n k ≡ None
