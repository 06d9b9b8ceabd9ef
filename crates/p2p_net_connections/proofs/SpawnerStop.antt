-- The spawner's mailbox of a node while the node stops, the end of a link that goes with each message, and the mailbox once it has.
use Rattle.std.proofs.Common.{◌≡◌, ℕ, zero, suc, false, cond, List, [], ◌∷◌, ◌++◌, map, drop, refl, ap, sym, subst, ◌∙◌, eq-eqb, Option, Some, None}
use Rattle.std.specs.Prelude.{filter, slice_get}
use Rattle.std.specs.Option.{option_map}
use Rattle.p2p_base.specs.Queue.{oldest}
use Rattle.p2p_base.specs.declared.key.Key.{Key}
use Rattle.p2p_tracker_directory.specs.declared.metadata.Metadata.{Metadata}
use Rattle.p2p_tracker_directory.specs.declared.metadata.Metadata.TheVariants as metadata
use Rattle.p2p_lookup.specs.declared.spawner.message.Message.{Message}
use Rattle.p2p_lookup.specs.declared.spawner.message.Message.TheVariants as asked
use Rattle.p2p_log.specs.declared.config.Config.{Config}
use Rattle.p2p_log.specs.declared.queue.Queue.{Queue}
use Rattle.p2p_log.specs.declared.queue.Queue.TheVariants as queue
use Rattle.p2p_log.specs.declared.queue.Side.TheVariants as side
use Rattle.p2p_log.specs.declared.item.Item.{Item}
use Rattle.p2p_log.specs.declared.item.Item.TheVariants as item
use Rattle.p2p_log.specs.declared.item.Envelope.{Envelope}
use Rattle.p2p_log.specs.declared.entry.Entry.{Entry}
use Rattle.p2p_log.specs.Apart.{AreApart}
use Rattle.p2p_log.specs.Lines.{name_of, live, line, stays, stands_in}
use Rattle.p2p_log.specs.QueueCode.{same_queue}
use Rattle.p2p_log.proofs.Queues.{same_queue-sym}
use Rattle.p2p_log_rules.specs.Dialed.{dialer_of}
use Rattle.p2p_log_rules.specs.Dropping.{LinkEnd, half_end}
use Rattle.p2p_log_rules.specs.Halves.{Spawned, side_at, half_over}
use Rattle.p2p_log_rules.specs.Told.{told, half_to_be}
use Rattle.p2p_log_rules.proofs.Left.{line_gone, line_kept}
use Rattle.p2p_net_queues.specs.Matching.{Match}
use Rattle.p2p_net_queues.proofs.Matching.{Match-rest}
use Rattle.p2p_net_connections.specs.Dialing.{IsReservedOver}
use Rattle.p2p_net_connections.specs.Spawner.{taken_by, without_first}
use Rattle.p2p_net_connections.specs.SpawnerStands.{IsSpawn, SpawnerStands}
use Rattle.p2p_net_connections.specs.Stopping.{message_by, SpawnerLeft, SpawnsLeft, reserved_side, asked_end}
use Rattle.p2p_net_connections.specs.declared.spawner.Spawning.{Spawning}

-- ---- the names, by what is left

-- at first all that stands in queues
pub spawner_left_of : (configs : List Config) (log : List Entry) (n : ℕ) (s : Spawning) → SpawnerStands configs log n s → SpawnerLeft n s (live log)
unfolding line
spawner_left_of configs log n s h = record { names = h.names }

-- the line of another queue ends
pub spawner_left_other : (n : ℕ) (s : Spawning) (q : Queue) (items : List Envelope) → same_queue (queue.Spawner n) q ≡ false → AreApart items → SpawnerLeft n s items
    → SpawnerLeft n s (filter (stays (map name_of (filter (stands_in q) items))) items)
spawner_left_other n s q items other apart h = record {
  names = h.names ∙ ap (map name_of) (sym (line_kept q (queue.Spawner n) items apart (same_queue-sym q (queue.Spawner n) ∙ other)));
}

-- and its own, once no message waits
pub spawner_left_none : (n : ℕ) (s : Spawning) (items : List Envelope) → s.names ≡ []
    → SpawnerLeft n s (filter (stays (map name_of (filter (stands_in (queue.Spawner n)) items))) items)
spawner_left_none n s items none = record { names = none ∙ ap (map name_of) (sym (line_gone items (queue.Spawner n))) }

-- ---- the end of the link of a message

-- a reservation over a link is of the side on which its node is, by who dialed the link
reserved_at : (log : List Entry) (n link : ℕ) (m : Metadata Key) → IsReservedOver log n link m → (d : ℕ) × (dialer_of log link ≡ Some d) × (side_at n d ≡ reserved_side m)
reserved_at log n link (metadata.Dialer key) h = (n, h, ap (λ b. cond b side.Out side.In) (eq-eqb n n refl))
reserved_at log n link (metadata.Listener key) h = (h.0, h.1, ap (λ b. cond b side.Out side.In) h.2)

-- somebody dialed the link of a message, and by that its end is told
pub spawn_dialed : (log : List Entry) (n : ℕ) (i : Item) (m : Message Key) → IsSpawn log n i m → (d : ℕ) × (dialer_of log (asked_end m).0 ≡ Some d) × (side_at n d ≡ (asked_end m).1)
spawn_dialed log n (item.Spawn key link) m h =
    subst (λ w. (d : ℕ) × (dialer_of log (asked_end w).0 ≡ Some d) × (side_at n d ≡ (asked_end w).1)) (sym h.2) (reserved_at log n link h.0 h.3)
spawn_dialed log n _ m h = absurd h

-- it is the end that the half has which is to be made of it
pub spawn_end : (log : List Entry) (n : ℕ) (i : Item) (m : Message Key) → IsSpawn log n i m → half_end (half_to_be (told log) n i) ≡ Some (asked_end m)
spawn_end log n (item.Spawn key link) m h =
    let at = reserved_at log n link h.0 h.3 in
    let c : Spawned = record { key = key; link = link } in
    ap (λ o. half_end (option_map (half_over n c) o)) at.1
    ∙ (ap (λ s. Some (link, s)) at.2 ∙ ap (λ w. Some (asked_end w)) (sym h.2))
spawn_end log n _ m h = absurd h

-- ---- by position

pub spawned_at : (configs : List Config) (log : List Entry) (n : ℕ) (s : Spawning) → SpawnerStands configs log n s → (i : ℕ) (name : ℕ × ℕ) (m : Message Key) → slice_get s.names i ≡ Some name → slice_get s.mailbox.items i ≡ Some m
    → (x : Envelope) × (slice_get (line log (queue.Spawner n)) i ≡ Some x) × (name ≡ name_of x) × IsSpawn log n x.item m
spawned_at configs log n s h i name m named sent = by (line log (queue.Spawner n)) s.mailbox.items i h.messages (ap (λ l. slice_get l i) (sym h.names) ∙ named) sent
  where
    by : (xs : List Envelope) (ms : List (Message Key)) (i : ℕ) → Match (λ x w. IsSpawn log n x.item w) xs ms → slice_get (map name_of xs) i ≡ Some name → slice_get ms i ≡ Some m
        → (x : Envelope) × (slice_get xs i ≡ Some x) × (name ≡ name_of x) × IsSpawn log n x.item m
    by [] ms i match at sent = absurd (cc)
    by (x ∷ xs) [] i match at sent = absurd match
    by (x ∷ xs) (w ∷ ms) zero match at sent = let same : w ≡ m = cc in (x, refl, cc, subst (λ v. IsSpawn log n x.item v) same match.0)
    by (x ∷ xs) (w ∷ ms) (suc i) match at sent = by xs ms i match.1 at sent

-- all of them, in order
pub spawner_ends : (configs : List Config) (log : List Entry) (n : ℕ) (s : Spawning) → SpawnerStands configs log n s
    → map (λ x. half_end (half_to_be (told log) n x.item)) (line log (queue.Spawner n)) ≡ map (λ m. Some (asked_end m)) s.mailbox.items
spawner_ends configs log n s h = by (line log (queue.Spawner n)) s.mailbox.items h.messages
  where
    by : (xs : List Envelope) (ms : List (Message Key)) → Match (λ x w. IsSpawn log n x.item w) xs ms → map (λ (x : Envelope). half_end (half_to_be (told log) n x.item)) xs ≡ map (λ (m : Message Key). Some (asked_end m)) ms
    by [] [] match = refl
    by (x ∷ xs) (m ∷ ms) match = ap (λ o. o ∷ map (λ (x : Envelope). half_end (half_to_be (told log) n x.item)) xs) (spawn_end log n x.item m match.0) ∙ ap (λ l. Some (asked_end m) ∷ l) (by xs ms match.1)
    by [] (m ∷ ms) match = absurd match
    by (x ∷ xs) [] match = absurd match

-- ---- one after another

pub spawns_left_of : (configs : List Config) (log : List Entry) (n : ℕ) (s : Spawning) → SpawnerStands configs log n s → SpawnsLeft log n (line log (queue.Spawner n)) s
spawns_left_of configs log n s h = record { names = h.names; messages = h.messages }

-- what is taken next: the name of the oldest, and the link of its end
pub record StopsNext (log : List Entry) (n : ℕ) (x : Envelope) (o : Option ((ℕ × ℕ) × ℕ)) : Type 0 where
  pub end : LinkEnd
  pub dialer : ℕ
  pub taken : o ≡ Some (name_of x, end.0)
  pub to_be : half_end (half_to_be (told log) n x.item) ≡ Some end
  pub dialed : dialer_of log end.0 ≡ Some dialer
  pub side_is : side_at n dialer ≡ end.1

pub spawns_next : (log : List Entry) (n : ℕ) (x : Envelope) (xs : List Envelope) (s : Spawning) → SpawnsLeft log n (x ∷ xs) s
    → StopsNext log n x (message_by (taken_by (slice_get s.names 0) (oldest s.mailbox)))
spawns_next log n x xs s h = by s.mailbox.items refl h.messages
  where
    by : (ms : List (Message Key)) → s.mailbox.items ≡ ms → Match (λ y m. IsSpawn log n y.item m) (x ∷ xs) ms → StopsNext log n x (message_by (taken_by (slice_get s.names 0) (oldest s.mailbox)))
    by [] are match = absurd match
    by (m ∷ ms) are match = record {
      end = asked_end m;
      dialer = (spawn_dialed log n x.item m match.0).0;
      taken = ap (λ l. message_by (taken_by (slice_get l 0) (oldest s.mailbox))) h.names ∙ (ap (λ l. message_by (taken_by (Some (name_of x)) (slice_get l 0))) are ∙ named m);
      to_be = spawn_end log n x.item m match.0;
      dialed = (spawn_dialed log n x.item m match.0).1;
      side_is = (spawn_dialed log n x.item m match.0).2;
    }
      where
        named : (w : Message Key) → message_by (taken_by (Some (name_of x)) (Some w)) ≡ Some (name_of x, (asked_end w).0)
        named (asked.Spawn peer link reserved) = refl

pub spawns_rest : (log : List Entry) (n : ℕ) (x : Envelope) (xs : List Envelope) (s : Spawning) → SpawnsLeft log n (x ∷ xs) s → SpawnsLeft log n xs (without_first s)
spawns_rest log n x xs s h = record {
  names = ap (drop 1) h.names;
  messages = Match-rest (λ (y : Envelope) (m : Message Key). IsSpawn log n y.item m) x xs s.mailbox.items h.messages;
}

-- none is taken where none waits
pub spawns_none : (log : List Entry) (n : ℕ) (s : Spawning) → SpawnsLeft log n [] s → message_by (taken_by (slice_get s.names 0) (oldest s.mailbox)) ≡ None
spawns_none log n s h = ap (λ l. message_by (taken_by (slice_get l 0) (oldest s.mailbox))) h.names

-- and then the mailbox is empty
pub spawns_over : (log : List Entry) (n : ℕ) (xs : List Envelope) (s : Spawning) → SpawnsLeft log n xs s → message_by (taken_by (slice_get s.names 0) (oldest s.mailbox)) ≡ None
    → (xs ≡ []) × (s.names ≡ []) × (s.mailbox.items ≡ [])
spawns_over log n [] s h none = (refl, h.names, empty s.mailbox.items h.messages)
  where
    empty : (ms : List (Message Key)) → Match (λ (y : Envelope) m. IsSpawn log n y.item m) [] ms → ms ≡ []
    empty [] match = refl
    empty (m ∷ ms) match = absurd match
spawns_over log n (x ∷ xs) s h none = let next : StopsNext log n x (message_by (taken_by (slice_get s.names 0) (oldest s.mailbox))) = spawns_next log n x xs s h in absurd (some_none (name_of x, next.end.0) (sym next.taken ∙ none))
  where
    some_none : (v : (ℕ × ℕ) × ℕ) → Some v ≡ None → ⊥
    some_none v e = cc

-- ---- the mailbox once the node has stopped

pub spawner_stopped : (configs : List Config) (log : List Entry) (e : Entry) (n : ℕ) (s new : Spawning) → SpawnerStands configs log n s → new.names ≡ [] → new.mailbox.items ≡ []
    → new.mailbox.capacity ≡ s.mailbox.capacity → new.mailbox.closed ≡ s.mailbox.closed → line (log ++ e ∷ []) (queue.Spawner n) ≡ [] → SpawnerStands configs (log ++ e ∷ []) n new
spawner_stopped configs log e n s new h no_names no_messages size closed none = record {
  names = no_names ∙ ap (map name_of) (sym none);
  messages =
      subst (λ (l : List Envelope). Match (λ x m. IsSpawn (log ++ e ∷ []) n x.item m) l new.mailbox.items) (sym none)
      (subst (λ (ms : List (Message Key)). Match (λ (x : Envelope) m. IsSpawn (log ++ e ∷ []) n x.item m) [] ms) (sym no_messages) tt);
  is_open = closed ∙ h.is_open;
  size = size ∙ h.size;
}
