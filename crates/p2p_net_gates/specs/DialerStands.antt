-- When the dialer of a node stands for a log.
use Rattle.std.specs.Prelude.{◌≡◌, ◌==◌, ℕ, Bool, false, cond, map, List, [], ◌∷◌, ◌++◌, Option, Some, None, slice_get}
use Rattle.p2p_base.specs.declared.key.Key.{Key}
use Rattle.p2p_tracker_directory.specs.declared.metadata.Metadata.{Metadata}
use Rattle.p2p_tracker_directory.specs.declared.metadata.Metadata.TheVariants as metadata
use Rattle.p2p_gates.specs.Dialing.{Dialing as Actor}
use Rattle.p2p_gates.specs.declared.attempt.item.AttemptItem.{AttemptItem}
use Rattle.p2p_gates.specs.declared.attempt.item.AttemptItem.TheVariants as told
use Rattle.p2p_gates.specs.declared.config.Config.{Config as Gates}
use Rattle.p2p_log.specs.declared.config.Config.{Config}
use Rattle.p2p_log.specs.declared.queue.Queue.TheVariants as queue
use Rattle.p2p_log.specs.declared.item.Item.{Item}
use Rattle.p2p_log.specs.declared.item.Item.TheVariants as item
use Rattle.p2p_log.specs.declared.item.Envelope.{Envelope}
use Rattle.p2p_log.specs.declared.entry.Entry.{Entry}
use Rattle.p2p_log.specs.declared.event.Act.{Act}
use Rattle.p2p_log.specs.declared.event.Act.TheVariants as act
use Rattle.p2p_log.specs.Lines.{name_of, line}
use Rattle.p2p_log_rules.specs.Attempting.{Attempt, attempts_of}
use Rattle.p2p_log_rules.specs.Facts.{turns, is_up}
use Rattle.p2p_log_rules.specs.Dialing.{Dials, dials_of}
use Rattle.p2p_net_queues.specs.Tables as table
use Rattle.p2p_net_gates.specs.Dialing.{gates_of}
use Rattle.p2p_net_gates.specs.declared.attempt.RunningAttempt.{RunningAttempt}
use Rattle.p2p_net_gates.specs.declared.dialing.Dialing.{Dialing}

abbrev pub no_gates : Gates
no_gates = record {
  allow_private_ips = false;
  bypass_ip_check = false;
  max_concurrent_handshakes = 0;
  allowed_handshake_rate_per_ip = record { burst = 0; period = 0 };
  allowed_handshake_rate_per_subnet = record { burst = 0; period = 0 };
  handshake_timeout = 0;
  dial_timeout = 0;
  dial_frequency = 0;
  peer_connection_cooldown = 0;
}

-- what the gates of a node are told
abbrev pub gates_at : List Config → ℕ → Gates
gates_at configs n = elim (slice_get configs n) [ None ↦ no_gates | Some c ↦ gates_of c ]

-- the dialer of which this stands
abbrev pub actor_of : Gates → Dials → Actor Key
actor_of gates d = record { cfg = gates; peers = d.peers; deadline = d.deadline; asked_at = d.asked_at; is_asking = d.is_asking; has_failed = false }

-- the item as the attempt is told it
abbrev pub told_item : Item → AttemptItem
told_item (item.Resolved addresses) = told.Addresses addresses
told_item item.Linked = told.Linked
told_item (item.Finished ok) = told.Finished ok
told_item _ = told.Refused

-- the attempt of this name of which this stands, by this reservation and with these that wait for it
abbrev pub attempt_of : Gates → ℕ → Metadata Key → Attempt → List Envelope → RunningAttempt
attempt_of gates name reserved a waiting = record {
  actor = record {
    name = name;
    reserved = Some reserved;
    ingress = a.ingress;
    address = a.address;
    deadline = a.deadline;
    items = map (λ x. told_item x.item) waiting;
    allow_private_ips = gates.allow_private_ips;
    handshake_timeout = gates.handshake_timeout;
    has_failed = false;
  };
  names = map name_of waiting;
  is_resolved = a.is_resolved;
  answer = a.answer;
  link = a.link;
}

-- the attempt of this name stands for what is said of it, by the dialer's reservation of its key; where there is none, nothing waits for it
abbrev pub AttemptStands : Gates → ℕ → Option RunningAttempt → Option Attempt → List Envelope → Type 0
AttemptStands gates name None None waiting = waiting ≡ []
AttemptStands gates name (Some r) (Some a) waiting = (m : Metadata Key) × (m ≡ metadata.Dialer a.key) × (r ≡ attempt_of gates name m a waiting)
AttemptStands gates name _ _ waiting = ⊥

pub record DialerStands (configs : List Config) (log : List Entry) (n : ℕ) (d : Dialing) : Type 0 where
  pub actor : d.actor ≡ cond (is_up log n) (Some (actor_of (gates_at configs n) (dials_of configs log n))) None
  pub attempts : (k : ℕ) → AttemptStands (gates_at configs n) k (table.at d.attempts k) (attempts_of configs log n k) (line log (queue.Attempt n k))

-- whether an act is of the node's dialer, or of an attempt of it
abbrev pub is_of_dialer : ℕ → Act → Bool
is_of_dialer n (act.Dialer m) = m == n
is_of_dialer n (act.Attempt e m) = m == n
is_of_dialer n (act.Resolve addresses e m) = m == n
is_of_dialer n (act.Connect e from m to) = m == n
is_of_dialer n (act.Refuse e m) = m == n
is_of_dialer n _ = false

-- an entry that leaves it alone
pub record LeavesDialer (configs : List Config) (log : List Entry) (e : Entry) (n : ℕ) : Type 0 where
  pub no_turn : turns n e.event.act ≡ false
  pub dials : dials_of configs (log ++ e ∷ []) n ≡ dials_of configs log n
  pub tries : (k : ℕ) → attempts_of configs (log ++ e ∷ []) n k ≡ attempts_of configs log n k
  pub lines : (k : ℕ) → line (log ++ e ∷ []) (queue.Attempt n k) ≡ line log (queue.Attempt n k)
