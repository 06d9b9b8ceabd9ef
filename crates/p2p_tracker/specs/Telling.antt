-- What a step of the tracker puts, and what that makes of the mailbox.
use Rattle.std.specs.Prelude.{ℕ, Bool, true, false, List, [], ◌∷◌, ◌++◌, Option, Some, None, slice_index_or, slice_set}
use Rattle.std.specs.Map.{lookup, remove_entry}
use Rattle.std.specs.BTreeMap.{is_at}
use Rattle.std.specs.declared.cmp.Ordering.{Ordering}
use Rattle.p2p_flow.specs.declared.update.PeerSetUpdate.{PeerSetUpdate}
use Rattle.p2p_tracker_mailbox.specs.Desk.{with_update, with_set, answered_at}
use Rattle.p2p_tracker_mailbox.specs.Mailboxes.{with_desk, with_item_in}
use Rattle.p2p_tracker_mailbox.specs.declared.answer.DialerAnswer.TheVariants as dialer
use Rattle.p2p_tracker_mailbox.specs.declared.answer.HandshakeItem.TheVariants as shake
use Rattle.p2p_tracker_mailbox.specs.declared.mailbox.Mailbox.{Mailbox}
use Rattle.p2p_tracker.specs.declared.stepped.Put.{Put}
use Rattle.p2p_tracker.specs.declared.stepped.Put.TheVariants as put

abbrev pub has_any : {X : Type 0} → List X → Bool
has_any [] = false
has_any (x ∷ xs) = true

module _ {P : Type 0} where
  -- the mailbox once this was put
  abbrev pub after_put : Put P → Mailbox P → Mailbox P
  after_put (put.Kill peer conn) m = m
  after_put (put.Listenable addresses dropped) m = record m { heard = Some addresses }
  after_put (put.Update ticket update) m = with_desk m (with_update m.desk ticket update)
  after_put (put.Blocked ticket blocked dropped) m = with_desk m (with_set m.desk ticket blocked)
  after_put (put.PeerSet ticket peers) m = with_desk m (answered_at m.desk ticket peers)
  after_put (put.Dialable list) m = record m { dialer = m.dialer ++ dialer.Dialable list ∷ [] }
  after_put (put.Dial grant) m = record m { dialer = m.dialer ++ dialer.Dial grant ∷ [] }
  after_put (put.Acceptable handshake acceptable) m = with_item_in m handshake (shake.Acceptable acceptable)
  after_put (put.Listen handshake grant) m = with_item_in m handshake (shake.Listen grant)

  -- the mailbox once all of it was put, in order
  abbrev pub after_puts : List (Put P) → Mailbox P → Mailbox P
  after_puts [] m = m
  after_puts (p ∷ ps) m = after_puts ps (after_put p m)

  -- the kill of a key, if a connection of it is kept
  abbrev pub kill_put : P → Option ℕ → List (Put P)
  kill_put k None = []
  kill_put k (Some conn) = put.Kill k conn ∷ []

  module _ (cmp : P → P → Ordering) where
    -- the kills of keys, of which these connections are kept, in their order
    abbrev pub kills_put : List (P × ℕ) → List P → List (Put P)
    kills_put controls [] = []
    kills_put controls (k ∷ ks) = kill_put k (lookup (is_at (cmp k)) controls) ++ kills_put (remove_entry (is_at (cmp k)) controls) ks

    -- the connections that are kept then
    abbrev pub without_keys : List (P × ℕ) → List P → List (P × ℕ)
    without_keys controls [] = controls
    without_keys controls (k ∷ ks) = without_keys (remove_entry (is_at (cmp k)) controls) ks

  -- the update for each of these subscriptions
  abbrev pub updates_put : List ℕ → PeerSetUpdate P → List (Put P)
  updates_put [] u = []
  updates_put (t ∷ ts) u = put.Update t u ∷ updates_put ts u

  -- the same, if there is an update
  abbrev pub told_of_sets : List ℕ → Option (PeerSetUpdate P) → List (Put P)
  told_of_sets ts None = []
  told_of_sets ts (Some u) = updates_put ts u

  -- the set of blocked keys for each of these subscriptions, with the one that waited and makes way for it
  abbrev pub sets_put : List (Option (List P)) → List ℕ → List P → List (Put P)
  sets_put waiting [] s = []
  sets_put waiting (t ∷ ts) s = put.Blocked t s (slice_index_or waiting t None) ∷ sets_put (slice_set waiting t (Some s)) ts s
