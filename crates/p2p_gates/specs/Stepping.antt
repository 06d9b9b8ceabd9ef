-- What the steps of the gates have in common: what they answer, and what they put into the tracker's mailbox.
use Rattle.std.specs.Prelude.{Bool, true, false, Option, Some, None}
use Rattle.p2p_tracker_mailbox.specs.Mailboxes.{with_message_in}
use Rattle.p2p_tracker_mailbox.specs.declared.mailbox.Mailbox.{Mailbox}
use Rattle.p2p_tracker_mailbox.specs.declared.message.Message.{Message}
use Rattle.p2p_tracker_mailbox.specs.declared.message.Message.TheVariants as message
use Rattle.p2p_gates.specs.declared.stepped.Input.{Input}
use Rattle.p2p_gates.specs.declared.stepped.Input.TheVariants as input
use Rattle.p2p_gates.specs.declared.stepped.Left.TheVariants as left
use Rattle.p2p_gates.specs.declared.stepped.Outcome.TheVariants as outcome
use Rattle.p2p_gates.specs.declared.stepped.Put.{Put}
use Rattle.p2p_gates.specs.declared.stepped.Put.TheVariants as put
use Rattle.p2p_gates.specs.declared.stepped.Stepped.{Stepped}
use Rattle.p2p_gates.specs.declared.stepped.Stepped.TheVariants as stepped

-- an item that waited was taken
abbrev pub is_item : Input → Bool
is_item input.Item = true
is_item _ = false

-- a turn of an actor: what its step answers, and what it and the tracker's mailbox are then
pub record Turn (A P : Type 0) : Type 0 where
  pub stepped : Stepped P
  pub actor : A
  pub way : Mailbox P

module _ {P : Type 0} where
  -- this was taken and that put, and what was stepped goes on
  abbrev pub gone_on : Input → Option (Put P) → Stepped P
  gone_on took p = stepped.Served took p left.Nothing outcome.GoesOn

  -- the message that a step puts
  abbrev pub message_of : Put P → Message P
  message_of put.Dialable = message.Dialable
  message_of (put.Dial k) = message.Dial k
  message_of (put.Acceptable k source h) = message.Acceptable k source h
  message_of (put.Listen k source h) = message.Listen k source h
  message_of (put.Release m) = message.Release m

  -- the mailbox once a step has put a message
  abbrev pub with_put : Put P → Mailbox P → Mailbox P
  with_put p m = with_message_in m (message_of p)

module _ {A P : Type 0} where
  -- no input was ready, and nothing changes
  abbrev pub idle_turn : A → Mailbox P → Turn A P
  idle_turn a m = record { stepped = stepped.Idle; actor = a; way = m }

  -- an input was taken, and the actor goes on
  abbrev pub goes_on : Input → A → Mailbox P → Turn A P
  goes_on took a m = record { stepped = gone_on took None; actor = a; way = m }

  -- an input was taken, and the actor puts a message and goes on
  abbrev pub asks : Input → Put P → A → Mailbox P → Turn A P
  asks took p a m = record { stepped = gone_on took (Some p); actor = a; way = with_put p m }
