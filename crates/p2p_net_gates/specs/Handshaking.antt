-- A step of a handshake of a node's listener, and what it is told of its keys, as values.
use Rattle.std.specs.Prelude.{◌≡◌, ◌-◌, ℕ, Bool, true, false, cond, Option, Some, None}
use Rattle.p2p_base.specs.declared.key.Key.{Key}
use Rattle.p2p_runtime.specs.QuotaPlaces.{Places}
use Rattle.p2p_tracker_directory.specs.declared.metadata.Metadata.{Metadata}
use Rattle.p2p_tracker_mailbox.specs.Mailboxes.{with_item_in}
use Rattle.p2p_tracker_mailbox.specs.declared.answer.HandshakeItem.TheVariants as shake
use Rattle.p2p_tracker_mailbox.specs.declared.mailbox.Mailbox.{Mailbox}
use Rattle.p2p_gates.specs.Handshaking.{Handshaking}
use Rattle.p2p_gates.specs.HandshakeTurns.{handshake_turn}
use Rattle.p2p_gates.specs.Listening.{Listening as Actor}
use Rattle.p2p_gates.specs.Stepping.{Turn, is_item}
use Rattle.p2p_gates.specs.declared.stepped.Outcome.{Outcome}
use Rattle.p2p_gates.specs.declared.stepped.Outcome.TheVariants as outcome
use Rattle.p2p_gates.specs.declared.stepped.Stepped.{Stepped}
use Rattle.p2p_gates.specs.declared.stepped.Stepped.TheVariants as stepped
use Rattle.p2p_log_rules.specs.declared.row.ListeningEnd.{ListeningEnd}
use Rattle.p2p_log_rules.specs.Facts.{with_named}
use Rattle.p2p_net_queues.specs.Tables as table
use Rattle.p2p_net_queues.specs.Tables.{AreBut}
use Rattle.p2p_net_gates.specs.Listening.{asked_item, EndsAre}
use Rattle.p2p_net_gates.specs.declared.listening.Listening.{Listening}
use Rattle.p2p_net_gates.specs.declared.handshake.HandshakeStep.{HandshakeStep}
use Rattle.p2p_net_gates.specs.declared.handshake.HandshakeStep.TheVariants as handshake

-- the link and the reservation by which a connection is to be made
abbrev pub ready_over : ℕ → Outcome Key → Option (ℕ × Metadata Key)
ready_over link (outcome.Ready reserved) = Some (link, reserved)
ready_over link _ = None

-- what was done, by the link over which the peer came and by whether the handshake has ended then
abbrev pub served_by : Stepped Key → ℕ → Bool → HandshakeStep
served_by stepped.Idle link ended = handshake.Idle
served_by (stepped.Served took p left o) link ended = handshake.Served (is_item took) ended (asked_item p) (ready_over link o)

-- a place less is held
abbrev pub one_freed : Places → Places
one_freed p = record { held = p.held - 1; max = p.max }

-- the place of a handshake that has ended is free
abbrev pub freed_if : Bool → Actor Key → Actor Key
freed_if true l = record l { places = one_freed l.places }
freed_if false l = l

abbrev pub unless_ended : Handshaking Key → Option (Handshaking Key)
unless_ended h = cond h.has_ended None (Some h)

-- what has the listening ends of the links, once the handshake may have ended that had that of this one
abbrev pub ends_left : Bool → ℕ → (ℕ → Option ListeningEnd) → ℕ → Option ListeningEnd
ends_left true link ends k = with_named link None ends k
ends_left false link ends k = ends k

-- what a turn of the handshake of this name makes of the listener, and of its tracker's mailbox
pub record TurnsHandshake (turn : Turn (Handshaking Key) Key) (name : ℕ) (old new : Listening) (after : Mailbox Key) (s : HandshakeStep) : Type 0 where
  pub did : s ≡ served_by turn.stepped turn.actor.arrival.link turn.actor.has_ended
  pub rest : new ≡ record old { actor = freed_if turn.actor.has_ended old.actor; handshakes = new.handshakes; ends = new.ends }
  pub others : AreBut name (unless_ended turn.actor) old.handshakes new.handshakes
  pub ends : EndsAre (ends_left turn.actor.has_ended turn.actor.arrival.link (table.at old.ends)) new.ends
  pub mailbox : after ≡ turn.way

-- where there is none of this name, nothing changes
pub record LeavesHandshakes (name : ℕ) (old new : Listening) (way after : Mailbox Key) (s : HandshakeStep) : Type 0 where
  pub did : s ≡ handshake.Gone
  pub rest : new ≡ record old { handshakes = new.handshakes }
  pub others : AreBut name None old.handshakes new.handshakes
  pub mailbox : after ≡ way

-- a step, by the handshake of this name
abbrev pub StepsHandshake : Option (Handshaking Key) → ℕ → ℕ → Listening → Listening → Mailbox Key → Mailbox Key → HandshakeStep → Type 0
StepsHandshake None name at old new way after s = LeavesHandshakes name old new way after s
StepsHandshake (Some h) name at old new way after s = TurnsHandshake (handshake_turn h way at) name old new after s

-- whether a handshake is kept that took that its peer may connect
abbrev pub is_accepting : Option (Handshaking Key) → Bool
is_accepting None = false
is_accepting (Some h) = h.is_accepted

-- the link over which the peer of a handshake came
abbrev pub link_over : Handshaking Key → ℕ
link_over h = h.arrival.link

-- the mailbox once a handshake that is kept was told whether its keys were exchanged
abbrev pub finished_in : Option (Handshaking Key) → Bool → Mailbox Key → Mailbox Key
finished_in None ok way = way
finished_in (Some h) ok way = with_item_in way h.name (shake.Finished ok)
