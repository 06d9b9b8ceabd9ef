-- The turns of a dialer: the oldest answer first, and then its deadline.
use Rattle.std.specs.Prelude.{ℕ, ◌+◌, ◌-◌, Bool, true, false, cond, not, ◌&&◌, nat_le, min, max, take, drop, List, [], ◌∷◌, length, slice_get, Option, Some, None, unwrap_or}
use Rattle.p2p_runtime.specs.Draws.{seeded, shuffled}
use Rattle.p2p_tracker_directory.specs.declared.directory.dials.Dialable.{Dialable}
use Rattle.p2p_tracker_mailbox.specs.declared.answer.DialerAnswer.{DialerAnswer}
use Rattle.p2p_tracker_mailbox.specs.declared.answer.DialerAnswer.TheVariants as answer
use Rattle.p2p_tracker_mailbox.specs.declared.mailbox.Mailbox.{Mailbox}
use Rattle.p2p_gates.specs.Attempting.{Attempting, new_attempt}
use Rattle.p2p_gates.specs.Dialing.{Dialing}
use Rattle.p2p_gates.specs.Stepping.{Turn, idle_turn, goes_on, asks}
use Rattle.p2p_gates.specs.declared.config.Config.{Config}
use Rattle.p2p_gates.specs.declared.stepped.Input.{Input}
use Rattle.p2p_gates.specs.declared.stepped.Input.TheVariants as input
use Rattle.p2p_gates.specs.declared.stepped.Left.TheVariants as left
use Rattle.p2p_gates.specs.declared.stepped.Outcome.TheVariants as outcome
use Rattle.p2p_gates.specs.declared.stepped.Put.TheVariants as put
use Rattle.p2p_gates.specs.declared.stepped.Stepped.{Stepped}
use Rattle.p2p_gates.specs.declared.stepped.Stepped.TheVariants as stepped

-- the deadline after a dial at the moment `now`
abbrev pub after_dial : Config → ℕ → ℕ
after_dial cfg now = now + cfg.dial_frequency

-- the latest deadline without anyone to dial, once that was asked at the moment `asked`
abbrev pub latest_query : Config → ℕ → ℕ
latest_query cfg asked = max (asked + cfg.peer_connection_cooldown) (after_dial cfg asked)

-- the deadline without anyone to dial: the moment from which there may be more, or else the latest one, and within both
-- bounds
abbrev pub next_query : Config → ℕ → Option ℕ → ℕ
next_query cfg asked next =
    min (max (unwrap_or next (asked + cfg.peer_connection_cooldown)) (after_dial cfg asked)) (latest_query cfg asked)

module _ {P : Type 0} where
  -- the deadline once it was told whom to dial, which it had asked at the moment `asked`
  abbrev pub next_deadline : Config → ℕ → List P → Option ℕ → ℕ
  next_deadline cfg asked [] next = next_query cfg asked next
  next_deadline cfg asked (k ∷ ks) next = after_dial cfg asked

  -- whom it dials next
  abbrev pub last_peer : List P → Option P
  last_peer ks = slice_get ks (length ks - 1)

  abbrev pub without_last : List P → List P
  without_last ks = take (length ks - 1) ks

  -- it asks for a peer, and without one waits for its deadline
  abbrev pub asks_for : Option P → Input → Dialing P → Mailbox P → Turn (Dialing P) P
  asks_for None took d m = goes_on took (record d { is_asking = false }) m
  asks_for (Some k) took d m = asks took (put.Dial k) (record d { peers = without_last d.peers; is_asking = true }) m

  -- it asks for the last peer of its list
  abbrev pub dials_next : Input → Dialing P → Mailbox P → Turn (Dialing P) P
  dials_next took d m = asks_for (last_peer d.peers) took d m

  -- once it was told whom to dial: the list in an order that is drawn from the seed
  abbrev pub with_peers : Dialable P → ℕ → Dialing P → Dialing P
  with_peers list seed d = record d {
    peers = (shuffled list.peers (seeded seed)).0;
    deadline = next_deadline d.cfg d.asked_at list.peers list.next_query_at;
  }

  -- what a step answers that took a grant
  abbrev pub begun : Attempting P → Stepped P
  begun a = stepped.Served input.Answer None left.Nothing (outcome.Dialed a)

  -- an answer was taken: a grant begins an attempt, and after any other it asks for the next peer
  abbrev pub answer_turn : DialerAnswer P → Dialing P → Mailbox P → ℕ → ℕ → ℕ → Turn (Dialing P) P
  answer_turn (answer.Dialable list) d m name now seed = dials_next input.Answer (with_peers list seed d) m
  answer_turn (answer.Dial None) d m name now seed = dials_next input.Answer d m
  answer_turn (answer.Dial (Some grant)) d m name now seed = record {
    stepped = begun (new_attempt name grant.0 grant.1 d.cfg now);
    actor = record d { is_asking = false };
    way = m;
  }

  -- it dials the next peer, and without one asks whom to dial
  abbrev pub asks_whom : List P → Dialing P → Mailbox P → ℕ → Turn (Dialing P) P
  asks_whom [] d m now = asks input.Deadline put.Dialable (record d { asked_at = now; is_asking = true }) m
  asks_whom (k ∷ ks) d m now = dials_next input.Deadline (record d { deadline = after_dial d.cfg now }) m

  -- it waits for no answer, and its deadline has come
  abbrev pub is_due : Dialing P → ℕ → Bool
  is_due d now = not d.is_asking && nat_le d.deadline now

  -- nothing waits for it, and its deadline may have come
  abbrev pub waits : Dialing P → Mailbox P → ℕ → Turn (Dialing P) P
  waits d m now = cond (is_due d now) (asks_whom d.peers d m now) (idle_turn d m)

  -- the oldest answer is taken, and without one the deadline may have come
  abbrev pub line_turn : Option (DialerAnswer P) → Dialing P → Mailbox P → ℕ → ℕ → ℕ → Turn (Dialing P) P
  line_turn (Some a) d m name now seed = answer_turn a d (record m { dialer = drop 1 m.dialer }) name now seed
  line_turn None d m name now seed = waits d m now

  -- the turn of a dialer at the moment `now`, which names an attempt that begins
  abbrev pub dialer_turn : Dialing P → Mailbox P → ℕ → ℕ → ℕ → Turn (Dialing P) P
  dialer_turn d m name now seed = line_turn (slice_get m.dialer 0) d m name now seed
