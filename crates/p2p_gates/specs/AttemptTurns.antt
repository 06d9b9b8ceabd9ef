-- The turns of an attempt: its oldest item first, and then its deadline.
use Rattle.std.specs.Prelude.{ℕ, ◌+◌, ◌-◌, Bool, true, false, cond, ◌||◌, nat_le, min, drop, List, [], ◌∷◌, ◌++◌, length, slice_get, Option, Some, None, is_some}
use Rattle.std.specs.List.{filter}
use Rattle.p2p_address.specs.Addresses.{is_global}
use Rattle.p2p_address.specs.declared.ip.SocketAddr.{SocketAddr}
use Rattle.p2p_runtime.specs.Draws.{seeded, drawn}
use Rattle.p2p_tracker_directory.specs.declared.metadata.Metadata.{Metadata}
use Rattle.p2p_tracker_mailbox.specs.declared.mailbox.Mailbox.{Mailbox}
use Rattle.p2p_gates.specs.Attempting.{Attempting}
use Rattle.p2p_gates.specs.Stepping.{Turn, idle_turn, goes_on, with_put}
use Rattle.p2p_gates.specs.declared.attempt.item.AttemptItem.{AttemptItem}
use Rattle.p2p_gates.specs.declared.attempt.item.AttemptItem.TheVariants as item
use Rattle.p2p_gates.specs.declared.stepped.Input.{Input}
use Rattle.p2p_gates.specs.declared.stepped.Input.TheVariants as input
use Rattle.p2p_gates.specs.declared.stepped.Left.TheVariants as left
use Rattle.p2p_gates.specs.declared.stepped.Outcome.TheVariants as outcome
use Rattle.p2p_gates.specs.declared.stepped.Put.TheVariants as put
use Rattle.p2p_gates.specs.declared.stepped.Stepped.{Stepped}
use Rattle.p2p_gates.specs.declared.stepped.Stepped.TheVariants as stepped

-- the addresses that may be dialed, in order
abbrev pub may_be_dialed : Bool → List SocketAddr → List SocketAddr
may_be_dialed private addresses = filter (λ s. private || is_global s.ip) addresses

-- the one of them that is drawn from the seed, if there is one
abbrev pub chosen : List SocketAddr → ℕ → Option SocketAddr
chosen addresses seed = slice_get addresses (drawn (length addresses - 1) (seeded seed)).0

module _ {P : Type 0} where
  -- once an item was put last for it; one that has ended drops it
  abbrev pub with_item : Attempting P → AttemptItem → Attempting P
  with_item a x = cond (is_some a.reserved) (record a { items = a.items ++ x ∷ [] }) a

  -- once it has ended, nothing waits for it
  abbrev pub without_reservation : Attempting P → Attempting P
  without_reservation a = record a { reserved = None; items = [] }

  abbrev pub ended_by : Option (Metadata P) → Attempting P → Attempting P
  ended_by None a = a
  ended_by (Some reserved) a = without_reservation a

  -- it ends with its reservation, and what waits for it is dropped
  abbrev pub ready_by : Option (Metadata P) → List AttemptItem → Stepped P
  ready_by None items = stepped.Idle
  ready_by (Some reserved) items = stepped.Served input.Item None (left.Attempt items) (outcome.Ready reserved)

  -- it ends without a connection: it gives its reservation back, and what waits for it is dropped
  abbrev pub gives_up : Option (Metadata P) → Input → Attempting P → Mailbox P → Turn (Attempting P) P
  gives_up None took a m = idle_turn a m
  gives_up (Some reserved) took a m = record {
    stepped = stepped.Served took (Some (put.Release reserved)) (left.Attempt a.items) outcome.Ended;
    actor = without_reservation a;
    way = with_put (put.Release reserved) m;
  }

  -- it dials this address, and ends where there is none
  abbrev pub dials : Option SocketAddr → Attempting P → Mailbox P → Turn (Attempting P) P
  dials None a m = gives_up a.reserved input.Item a m
  dials (Some s) a m = goes_on input.Item (record a { address = Some s }) m

  -- it chooses its address, and keeps one that it has
  abbrev pub resolves : Option SocketAddr → List SocketAddr → Attempting P → Mailbox P → ℕ → Turn (Attempting P) P
  resolves (Some s) addresses a m seed = goes_on input.Item a m
  resolves None addresses a m seed = dials (chosen (may_be_dialed a.allow_private_ips addresses) seed) a m

  -- once it was linked at the moment `now`, it waits no longer than for the keys to be exchanged
  abbrev pub linked_at : ℕ → Attempting P → Attempting P
  linked_at now a = record a { deadline = min a.deadline (now + a.handshake_timeout) }

  -- an item was taken
  abbrev pub item_turn : AttemptItem → Attempting P → Mailbox P → ℕ → ℕ → Turn (Attempting P) P
  item_turn (item.Addresses addresses) a m now seed = resolves a.address addresses a m seed
  item_turn item.Linked a m now seed = goes_on input.Item (linked_at now a) m
  item_turn item.Refused a m now seed = gives_up a.reserved input.Item a m
  item_turn (item.Finished true) a m now seed =
      record { stepped = ready_by a.reserved a.items; actor = ended_by a.reserved a; way = m }
  item_turn (item.Finished false) a m now seed = gives_up a.reserved input.Item a m

  -- nothing waits for it, and its deadline may have come
  abbrev pub waits : Attempting P → Mailbox P → ℕ → Turn (Attempting P) P
  waits a m now = cond (nat_le a.deadline now) (gives_up a.reserved input.Deadline a m) (idle_turn a m)

  -- the oldest item is taken, and without one the deadline may have come
  abbrev pub line_turn : Option AttemptItem → Attempting P → Mailbox P → ℕ → ℕ → Turn (Attempting P) P
  line_turn (Some x) a m now seed = item_turn x (record a { items = drop 1 a.items }) m now seed
  line_turn None a m now seed = waits a m now

  -- the turn of an attempt at the moment `now`: one that has ended has no input
  abbrev pub attempt_turn : Attempting P → Mailbox P → ℕ → ℕ → Turn (Attempting P) P
  attempt_turn a m now seed = cond (is_some a.reserved) (line_turn (slice_get a.items 0) a m now seed) (idle_turn a m)
