-- The dialer of a node as values: what it is made with, and what a step of it comes to.
use Rattle.std.specs.Prelude.{◌≡◌, ℕ, Bool, true, false, List, [], Option, Some, None}
use Rattle.std.specs.BTreeMap.{insert_entry}
use Rattle.std.specs.Ordering.{nat_cmp}
use Rattle.p2p_base.specs.declared.key.Key.{Key}
use Rattle.p2p_tracker_mailbox.specs.declared.mailbox.Mailbox.{Mailbox}
use Rattle.p2p_gates.specs.Dialing.{Dialing as Dials, new_dialer}
use Rattle.p2p_gates.specs.DialerTurns.{dialer_turn}
use Rattle.p2p_gates.specs.Stepping.{Turn}
use Rattle.p2p_gates.specs.declared.config.Config.{Config as Gates}
use Rattle.p2p_gates.specs.declared.stepped.Input.{Input}
use Rattle.p2p_gates.specs.declared.stepped.Input.TheVariants as input
use Rattle.p2p_gates.specs.declared.stepped.Outcome.{Outcome}
use Rattle.p2p_gates.specs.declared.stepped.Outcome.TheVariants as outcome
use Rattle.p2p_gates.specs.declared.stepped.Put.{Put}
use Rattle.p2p_gates.specs.declared.stepped.Put.TheVariants as put
use Rattle.p2p_gates.specs.declared.stepped.Stepped.{Stepped}
use Rattle.p2p_gates.specs.declared.stepped.Stepped.TheVariants as stepped
use Rattle.p2p_log.specs.declared.config.Config.{Config}
use Rattle.p2p_log.specs.declared.item.Item.{Item}
use Rattle.p2p_log.specs.declared.item.Item.TheVariants as item
use Rattle.p2p_net_gates.specs.Attempts.{running}
use Rattle.p2p_net_gates.specs.declared.attempt.RunningAttempt.{RunningAttempt}
use Rattle.p2p_net_gates.specs.declared.dialing.Dialed.{Dialed}
use Rattle.p2p_net_gates.specs.declared.dialing.Dialing.{Dialing}

-- what the gates of a node are told
abbrev pub gates_of : Config → Gates
gates_of c = record {
  allow_private_ips = c.allow_private_ips;
  bypass_ip_check = c.bypass_ip_check;
  max_concurrent_handshakes = c.max_concurrent_handshakes;
  allowed_handshake_rate_per_ip = record { burst = c.allowed_handshake_rate_per_ip.burst; period = c.allowed_handshake_rate_per_ip.period };
  allowed_handshake_rate_per_subnet = record { burst = c.allowed_handshake_rate_per_subnet.burst; period = c.allowed_handshake_rate_per_subnet.period };
  handshake_timeout = c.handshake_timeout;
  dial_timeout = c.dial_timeout;
  dial_frequency = c.dial_frequency;
  peer_connection_cooldown = c.peer_connection_cooldown;
}

abbrev pub no_dialing : Dialing
no_dialing = record { actor = None; attempts = [] }

abbrev pub started : Config → ℕ → Dialing → Dialing
started c at d = record d { actor = Some (new_dialer (gates_of c) at) }

-- what it asked, as an item
abbrev pub asked_item : Option (Put Key) → Option Item
asked_item (Some put.Dialable) = Some item.AskDialable
asked_item (Some (put.Dial k)) = Some (item.AskDial k)
asked_item _ = None

abbrev pub is_answer : Input → Bool
is_answer input.Answer = true
is_answer _ = false

-- the attempts, with the one that a step of this name began
abbrev pub begun_by : Outcome Key → ℕ → List (ℕ × RunningAttempt) → List (ℕ × RunningAttempt)
begun_by (outcome.Dialed a) name attempts = insert_entry nat_cmp attempts name (running a)
begun_by _ name attempts = attempts

abbrev pub attempts_after : Stepped Key → ℕ → List (ℕ × RunningAttempt) → List (ℕ × RunningAttempt)
attempts_after stepped.Idle name attempts = attempts
attempts_after (stepped.Served took p left o) name attempts = begun_by o name attempts

-- what it did
abbrev pub dialed_by : Stepped Key → Option Dialed
dialed_by stepped.Idle = None
dialed_by (stepped.Served took p left o) = Some (record { took = is_answer took; asked = asked_item p })

-- what a turn of the actor makes of it, and of its tracker's mailbox
abbrev pub TurnsBy : Turn (Dials Key) Key → ℕ → Dialing → Dialing → Mailbox Key → Option Dialed → Type 0
TurnsBy turn name old new after o =
    (o ≡ dialed_by turn.stepped) × ((new ≡ record { actor = Some turn.actor; attempts = attempts_after turn.stepped name old.attempts }) × (after ≡ turn.way))

-- a step, by whether there is a dialer
abbrev pub Steps : Option (Dials Key) → ℕ → ℕ → ℕ → Dialing → Dialing → Mailbox Key → Mailbox Key → Option Dialed → Type 0
Steps None name at seed old new way after o = (o ≡ None) × ((new ≡ old) × (after ≡ way))
Steps (Some d) name at seed old new way after o = TurnsBy (dialer_turn d way name at seed) name old new after o
