-- The turns of a handshake: its oldest item first, and then its deadline.
use Rattle.std.specs.Prelude.{ℕ, Bool, true, false, cond, not, ◌&&◌, nat_le, drop, Option, Some, None}
use Rattle.p2p_tracker_mailbox.specs.Lines.{line_of, first_of, with_line, ended}
use Rattle.p2p_tracker_mailbox.specs.declared.answer.HandshakeItem.{HandshakeItem}
use Rattle.p2p_tracker_mailbox.specs.declared.answer.HandshakeItem.TheVariants as shake
use Rattle.p2p_tracker_mailbox.specs.declared.mailbox.Mailbox.{Mailbox}
use Rattle.p2p_gates.specs.Handshaking.{Handshaking}
use Rattle.p2p_gates.specs.Stepping.{Turn, idle_turn, goes_on, asks}
use Rattle.p2p_gates.specs.declared.stepped.Input.{Input}
use Rattle.p2p_gates.specs.declared.stepped.Input.TheVariants as input
use Rattle.p2p_gates.specs.declared.stepped.Left.TheVariants as left
use Rattle.p2p_gates.specs.declared.stepped.Outcome.{Outcome}
use Rattle.p2p_gates.specs.declared.stepped.Outcome.TheVariants as outcome
use Rattle.p2p_gates.specs.declared.stepped.Put.TheVariants as put
use Rattle.p2p_gates.specs.declared.stepped.Stepped.TheVariants as stepped

module _ {P : Type 0} where
  -- the mailbox once the oldest item of a handshake was taken
  abbrev pub without_item : Mailbox P → ℕ → Mailbox P
  without_item m h = record m { handshakes = with_line m.handshakes h (drop 1) }

  -- the mailbox once a handshake has ended
  abbrev pub without_handshake : Mailbox P → ℕ → Mailbox P
  without_handshake m h = record m { handshakes = ended m.handshakes h }

  -- its keys were not exchanged in time
  abbrev pub is_due : Handshaking P → ℕ → Bool
  is_due h now = not h.is_finished && nat_le h.deadline now

  -- it ends, and what waits for it is dropped
  abbrev pub ends : Input → Outcome P → Handshaking P → Mailbox P → Turn (Handshaking P) P
  ends took o h m = record {
    stepped = stepped.Served took None (left.Handshake (line_of m.handshakes h.name)) o;
    actor = record h { has_ended = true };
    way = without_handshake m h.name;
  }

  -- an item was taken: a peer that may connect is accepted, one whose keys were exchanged is asked for, and one that is
  -- granted is ready
  abbrev pub item_turn : HandshakeItem P → Handshaking P → Mailbox P → Turn (Handshaking P) P
  item_turn (shake.Acceptable true) h m = goes_on input.Item (record h { is_accepted = true }) m
  item_turn (shake.Acceptable false) h m = ends input.Item outcome.Ended h m
  item_turn (shake.Finished true) h m =
      asks input.Item (put.Listen h.arrival.key h.arrival.from.ip h.name) (record h { is_finished = true }) m
  item_turn (shake.Finished false) h m = ends input.Item outcome.Ended h m
  item_turn (shake.Listen (Some reserved)) h m = ends input.Item (outcome.Ready reserved) h m
  item_turn (shake.Listen None) h m = ends input.Item outcome.Ended h m

  -- the oldest item is taken, and without one the deadline may have come
  abbrev pub line_turn : Option (HandshakeItem P) → Handshaking P → Mailbox P → ℕ → Turn (Handshaking P) P
  line_turn (Some item) h m now = item_turn item h (without_item m h.name)
  line_turn None h m now = cond (is_due h now) (ends input.Deadline outcome.Ended h m) (idle_turn h m)

  -- the turn of a handshake at the moment `now`: one that has ended has no input
  abbrev pub handshake_turn : Handshaking P → Mailbox P → ℕ → Turn (Handshaking P) P
  handshake_turn h m now = cond h.has_ended (idle_turn h m) (line_turn (first_of (line_of m.handshakes h.name)) h m now)
