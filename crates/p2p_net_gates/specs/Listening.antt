-- The listener of a node as values: what it is made with, and what a step of it comes to.
use Rattle.std.specs.Prelude.{◌≡◌, ℕ, List, [], ◌∷◌, ◌++◌, drop, Option, Some, None, slice_get}
use Rattle.std.specs.BTreeMap.{insert_entry}
use Rattle.std.specs.Ordering.{nat_cmp}
use Rattle.p2p_base.specs.declared.key.Key.{Key}
use Rattle.p2p_address.specs.declared.ip.SocketAddr.{SocketAddr}
use Rattle.p2p_tracker_mailbox.specs.declared.mailbox.Mailbox.{Mailbox}
use Rattle.p2p_tracker_calls.specs.Gates.{Known, nothing_known}
use Rattle.p2p_tracker_calls.specs.declared.gates.Reply.{Reply}
use Rattle.p2p_tracker_calls.specs.declared.gates.Reply.TheVariants as gates
use Rattle.p2p_gates.specs.Handshaking.{Handshaking}
use Rattle.p2p_gates.specs.Listening.{StandsFor, new_listener, with_arrival, with_rest}
use Rattle.p2p_gates.specs.ListenerTurns.{listener_turn}
use Rattle.p2p_gates.specs.Quotas.{KeepsRates}
use Rattle.p2p_gates.specs.declared.config.Config.{Config as Gates}
use Rattle.p2p_gates.specs.declared.stepped.Outcome.{Outcome}
use Rattle.p2p_gates.specs.declared.stepped.Outcome.TheVariants as outcome
use Rattle.p2p_gates.specs.declared.stepped.Put.{Put}
use Rattle.p2p_gates.specs.declared.stepped.Put.TheVariants as put
use Rattle.p2p_gates.specs.declared.stepped.Stepped.{Stepped}
use Rattle.p2p_gates.specs.declared.stepped.Stepped.TheVariants as stepped
use Rattle.p2p_log.specs.declared.item.Item.{Item}
use Rattle.p2p_log.specs.declared.item.Item.TheVariants as item
use Rattle.p2p_log_rules.specs.declared.row.ListeningEnd.{ListeningEnd}
use Rattle.p2p_log_rules.specs.declared.row.ListeningEnd.TheVariants as listening
use Rattle.p2p_net_queues.specs.Tables as table
use Rattle.p2p_net_gates.specs.declared.listening.Listening.{Listening}
use Rattle.p2p_net_gates.specs.declared.listening.Took.{Took}
use Rattle.p2p_net_gates.specs.declared.listening.Took.TheVariants as took
use Rattle.p2p_log_rules.specs.Facts.{with_named}

-- a listener that was made with this, at which nobody has arrived
pub record IsNew (cfg : Gates) (l : Listening) : Type 0 where
  pub actor : l.actor ≡ new_listener cfg l.actor.quotas
  pub stands : StandsFor l.actor nothing_known
  pub ip_rate : l.actor.quotas.addresses.rate ≡ cfg.allowed_handshake_rate_per_ip
  pub subnet_rate : l.actor.quotas.subnets.rate ≡ cfg.allowed_handshake_rate_per_subnet
  pub names : l.names ≡ []
  pub handshakes : l.handshakes ≡ []
  pub ends : l.ends ≡ []

-- a peer with this key has arrived from an address over the link k, as the put of this place: it has the listening end of that link
abbrev pub arrived : ℕ → ℕ → SocketAddr → Key → Listening → Listening
arrived k place from key l = record l {
  actor = with_arrival l.actor (record { from = from; key = key; link = k });
  names = l.names ++ (k, place) ∷ [];
  ends = insert_entry nat_cmp l.ends k listening.Arriving;
}

-- what the gates told, where an arrival was taken
abbrev pub told_in : Outcome Key → Option Reply
told_in (outcome.Refused link r) = Some r
told_in (outcome.Admitted h) = Some gates.Admitted
told_in _ = None

-- the link of an arrival that a gate refused
abbrev pub refused_in : Outcome Key → Option ℕ
refused_in (outcome.Refused link r) = Some link
refused_in _ = None

-- what it asked, as an item
abbrev pub asked_item : Option (Put Key) → Option Item
asked_item (Some (put.Acceptable key source handshake)) = Some (item.AskAcceptable handshake key)
asked_item (Some (put.Listen key source handshake)) = Some (item.AskListen handshake key)
asked_item _ = None

-- what it took, by what the gates told, by the link of the arrival that they refused, and by the name of its oldest arrival
abbrev pub took_of : Option Reply → Option ℕ → Option (Put Key) → Option (ℕ × ℕ) → Option Took
took_of None refused p name = Some took.Update
took_of (Some told) refused p None = None
took_of (Some told) refused p (Some name) = Some (took.Arrival name told refused (asked_item p))

abbrev pub took_by : Stepped Key → Option (ℕ × ℕ) → Option Took
took_by stepped.Idle name = None
took_by (stepped.Served took p left o) name = took_of (told_in o) (refused_in o) p name

-- the names of the arrivals that still wait
abbrev pub names_left : Option Reply → List (ℕ × ℕ) → List (ℕ × ℕ)
names_left None names = names
names_left (Some told) names = drop 1 names

abbrev pub names_after : Stepped Key → List (ℕ × ℕ) → List (ℕ × ℕ)
names_after stepped.Idle names = names
names_after (stepped.Served took p left o) names = names_left (told_in o) names

-- the handshakes, with the one that a step began
abbrev pub begun_by : Outcome Key → ℕ → List (ℕ × Handshaking Key) → List (ℕ × Handshaking Key)
begun_by (outcome.Admitted h) name handshakes = insert_entry nat_cmp handshakes name h
begun_by _ name handshakes = handshakes

abbrev pub handshakes_after : Stepped Key → ℕ → List (ℕ × Handshaking Key) → List (ℕ × Handshaking Key)
handshakes_after stepped.Idle name handshakes = handshakes
handshakes_after (stepped.Served took p left o) name handshakes = begun_by o name handshakes

-- these have the listening ends of the links, by the links' names
abbrev pub EndsAre : (ℕ → Option ListeningEnd) → List (ℕ × ListeningEnd) → Type 0
EndsAre has ends = (k : ℕ) → table.at ends k ≡ has k

-- once a step of this name came to this: nothing has the end of an arrival that was refused, and a handshake that of one that was admitted
abbrev pub changed_ends : Outcome Key → ℕ → (ℕ → Option ListeningEnd) → ℕ → Option ListeningEnd
changed_ends (outcome.Refused link r) name ends k = with_named link None ends k
changed_ends (outcome.Admitted h) name ends k = with_named h.arrival.link (Some (listening.Handshake name)) ends k
changed_ends _ name ends k = ends k

abbrev pub ends_after : Stepped Key → ℕ → (ℕ → Option ListeningEnd) → ℕ → Option ListeningEnd
ends_after stepped.Idle name ends k = ends k
ends_after (stepped.Served took p left o) name ends k = changed_ends o name ends k

-- a step of the listener at a moment, whatever its gates go by
pub record Steps (name at : ℕ) (old new : Listening) (way after : Mailbox Key) (o : Option Took) : Type 0 where
  pub took : (k : Known) → StandsFor old.actor k → o ≡ took_by (listener_turn old.actor k way name at).stepped (slice_get old.names 0)
  pub names : (k : Known) → StandsFor old.actor k → new.names ≡ names_after (listener_turn old.actor k way name at).stepped old.names
  pub handshakes : (k : Known) → StandsFor old.actor k → new.handshakes ≡ handshakes_after (listener_turn old.actor k way name at).stepped name old.handshakes
  pub ends : (k : Known) → StandsFor old.actor k → EndsAre (ends_after (listener_turn old.actor k way name at).stepped name (table.at old.ends)) new.ends
  pub stands : (k : Known) → StandsFor old.actor k → StandsFor new.actor (listener_turn old.actor k way name at).known
  pub arrivals : (k : Known) → StandsFor old.actor k → new.actor.arrivals ≡ (listener_turn old.actor k way name at).arrivals
  pub places : (k : Known) → StandsFor old.actor k → new.actor.places ≡ (listener_turn old.actor k way name at).places
  pub mailbox : (k : Known) → StandsFor old.actor k → after ≡ (listener_turn old.actor k way name at).way
  pub rest : new.actor ≡ with_rest old.actor new.actor
  pub rates : KeepsRates old.actor.quotas new.actor.quotas
