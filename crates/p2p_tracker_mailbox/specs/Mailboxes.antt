-- The tracker's mailbox as contracts see it, and what its calls leave.
use Rattle.std.specs.Prelude.{ℕ, Bool, [], None, is_some}
use Rattle.p2p_tracker_mailbox.specs.Desk.{Desk, new_desk, with_message, ended}
use Rattle.p2p_tracker_mailbox.specs.Lines.{line_of, with_item}
use Rattle.p2p_tracker_mailbox.specs.declared.answer.HandshakeItem.{HandshakeItem}
use Rattle.p2p_tracker_mailbox.specs.declared.mailbox.Mailbox.{Mailbox}
use Rattle.p2p_tracker_mailbox.specs.declared.message.Message.{Message}

module _ {P : Type 0} where
  abbrev pub new_mailbox : ℕ → Mailbox P
  new_mailbox size = record { desk = new_desk size; dialer = []; handshakes = []; heard = None }

  -- with this desk in place of its own
  abbrev pub with_desk : Mailbox P → Desk P → Mailbox P
  with_desk m d = record { desk = d; dialer = m.dialer; handshakes = m.handshakes; heard = m.heard }

  -- after a message was put last
  abbrev pub with_message_in : Mailbox P → Message P → Mailbox P
  with_message_in m x = with_desk m (with_message m.desk x)

  -- whether the handshake of a number runs
  abbrev pub runs_in : Mailbox P → ℕ → Bool
  runs_in m h = is_some (line_of m.handshakes h)

  -- after an item was put last for the handshake of a number, if it runs
  abbrev pub with_item_in : Mailbox P → ℕ → HandshakeItem P → Mailbox P
  with_item_in m h x = record { desk = m.desk; dialer = m.dialer; handshakes = with_item m.handshakes h x; heard = m.heard }

  -- once the tracker has ended: what waits for those who asked by an oracle stays
  abbrev pub closed_mailbox : Mailbox P → Mailbox P
  closed_mailbox m = record { desk = ended m.desk; dialer = []; handshakes = []; heard = None }
