-- When the listener of a node stands for a log.
use Rattle.std.specs.Prelude.{◌≡◌, ◌≤◌, ℕ, Bool, true, false, List, ◌∷◌, [], ◌++◌, map, length, Option, Some, None}
use Rattle.p2p_base.specs.declared.key.Key.{Key}
use Rattle.p2p_gates.specs.Gates.{rules_of}
use Rattle.p2p_gates.specs.Handshaking.{Handshaking}
use Rattle.p2p_gates.specs.Listening.{StandsFor}
use Rattle.p2p_gates.specs.declared.arrival.Arrival.{Arrival}
use Rattle.p2p_log.specs.declared.config.Config.{Config}
use Rattle.p2p_log.specs.declared.queue.Queue.TheVariants as queue
use Rattle.p2p_log.specs.declared.item.Item.{Item}
use Rattle.p2p_log.specs.declared.item.Item.TheVariants as item
use Rattle.p2p_log.specs.declared.entry.Entry.{Entry}
use Rattle.p2p_log.specs.Lines.{name_of, line}
use Rattle.p2p_log_rules.specs.Attempting.{dial_rules_at}
use Rattle.p2p_log_rules.specs.Handshakes.{Handshake, handshake_at, handshakes_of, is_handshaking, is_accepted, is_finished}
use Rattle.p2p_log_rules.specs.Handshaking.{handshake_deadline}
use Rattle.p2p_log_rules.specs.Links.{listening_ends_of}
use Rattle.p2p_log_rules.specs.Listening.{gate_rules_at, most_handshakes_at, known_of}
use Rattle.p2p_net_queues.specs.Tables as table
use Rattle.p2p_net_gates.specs.Listening.{EndsAre}
use Rattle.p2p_net_gates.specs.declared.listening.Listening.{Listening}

-- an arrival, as the item that waits for the listener
abbrev pub arrival_item : Arrival Key → Item
arrival_item a = item.Arrival a.from a.key a.link

-- ---- a handshake

-- what the log tells of a handshake: until when its keys may be exchanged, whether it took that its peer may connect and that its keys were
-- exchanged, and what began it
pub record HandshakeFacts : Type 0 where
  pub until : Option ℕ
  pub accepted : Bool
  pub finished : Bool
  pub began : Option Handshake

abbrev pub facts_of : List Config → List Entry → ℕ → ℕ → HandshakeFacts
facts_of configs log n name = record {
  until = handshake_deadline configs log name n;
  accepted = is_accepted log n name;
  finished = is_finished log n name;
  began = handshake_at log name;
}

-- what begins a handshake is an arrival, at a moment
abbrev pub begun_by : Arrival Key → ℕ → Handshake
begun_by a at = record { source = a.from.ip; key = a.key; link = a.link; at = at }

-- the handshake of this name, of which the log tells this, and which has not ended
pub record IsRunning (f : HandshakeFacts) (k : ℕ) (h : Handshaking Key) : Type 0 where
  pub name : h.name ≡ k
  pub deadline : f.until ≡ Some h.deadline
  pub accepted : h.is_accepted ≡ f.accepted
  pub finished : h.is_finished ≡ f.finished
  -- its peer is the one that arrived
  pub at : ℕ
  pub began : f.began ≡ Some (begun_by h.arrival at)
  pub runs : h.has_ended ≡ false
  pub works : h.has_failed ≡ false

-- there is a handshake where one runs
abbrev pub HandshakeIs : HandshakeFacts → ℕ → Bool → Option (Handshaking Key) → Type 0
HandshakeIs f name runs None = runs ≡ false
HandshakeIs f name runs (Some h) = (runs ≡ true) × IsRunning f name h

-- nothing was told to a handshake of this name, neither that its peer may connect nor that its keys were exchanged
abbrev pub IsUntold : List Entry → ℕ → ℕ → Type 0
IsUntold log n name = (is_accepted log n name ≡ false) × (is_finished log n name ≡ false)

pub record ListenerStands (configs : List Config) (log : List Entry) (n : ℕ) (l : Listening) : Type 0 where
  -- what waits for it is its line
  pub names : l.names ≡ map name_of (line log (queue.Arrivals n))
  pub items : map (λ x. x.item) (line log (queue.Arrivals n)) ≡ map arrival_item l.actor.arrivals
  -- its gates are those of the configuration, and go by what the log tells
  pub rules : rules_of l.actor ≡ gate_rules_at configs n
  pub known : StandsFor l.actor (known_of configs log n)
  -- each handshake that has not ended holds a place
  pub places : l.actor.places ≡ record { held = length (handshakes_of log n); max = most_handshakes_at configs n }
  pub works : l.actor.has_failed ≡ false
  -- and it is kept, until its deadline at the longest
  pub timeout : l.actor.handshake_timeout ≡ (dial_rules_at configs n).handshake_timeout
  pub handshakes : (k : ℕ) → HandshakeIs (facts_of configs log n k) k (is_handshaking log n k) (table.at l.handshakes k)
  -- one that has yet to begin was told nothing
  pub untold : (k : ℕ) → length log ≤ k → IsUntold log n k
  -- what has the listening end of each link that leads here
  pub ends : EndsAre (listening_ends_of log n) l.ends

-- ---- an entry that leaves it alone

-- an entry that tells a handshake nothing of its peer or of its keys
abbrev pub TellsNothing : List Entry → Entry → ℕ → ℕ → Type 0
TellsNothing log e n name =
    (is_accepted (log ++ e ∷ []) n name ≡ is_accepted log n name) × (is_finished (log ++ e ∷ []) n name ≡ is_finished log n name)

pub record LeavesListener (configs : List Config) (log : List Entry) (e : Entry) (n : ℕ) : Type 0 where
  pub known : known_of configs (log ++ e ∷ []) n ≡ known_of configs log n
  pub handshakes : handshakes_of (log ++ e ∷ []) n ≡ handshakes_of log n
  pub arrivals : line (log ++ e ∷ []) (queue.Arrivals n) ≡ line log (queue.Arrivals n)
  pub tells : (k : ℕ) → TellsNothing log e n k
  pub ends : (k : ℕ) → listening_ends_of (log ++ e ∷ []) n k ≡ listening_ends_of log n k
