-- The spawner's mailbox of a node after one more entry.
use Rattle.std.proofs.Common.{◌≡◌, ℕ, Bool, false, List, [], ◌∷◌, ◌++◌, map, length, refl, ap, sym, subst, ◌∙◌, arith, Option, Some, None}
use Rattle.std.specs.Prelude.{slice_get, drop, nat_le, nat_lt, not, ◌||◌}
use Rattle.std.proofs.lemmas.Bool.Decides.{nat_tests}
use Rattle.std.proofs.lemmas.List.{map-append}
use Rattle.p2p_base.specs.declared.key.Key.{Key}
use Rattle.p2p_tracker_directory.specs.Reserved.{peer_of}
use Rattle.p2p_tracker_directory.specs.declared.metadata.Metadata.{Metadata}
use Rattle.p2p_lookup.specs.Spawning.{spawn_of}
use Rattle.p2p_lookup.specs.declared.spawner.message.Message.{Message}
use Rattle.p2p_log.specs.declared.config.Config.{Config}
use Rattle.p2p_log.specs.declared.queue.Queue.{Queue}
use Rattle.p2p_log.specs.declared.queue.Queue.TheVariants as queue
use Rattle.p2p_log.specs.declared.item.Item.{Item}
use Rattle.p2p_log.specs.declared.item.Item.TheVariants as item
use Rattle.p2p_log.specs.declared.item.Envelope.{Envelope}
use Rattle.p2p_log.specs.declared.entry.Entry.{Entry}
use Rattle.p2p_log.specs.Lines.{name_of, live_from, line}
use Rattle.p2p_log_rules.specs.Rows.{mailbox_size_at, is_spawner_full}
use Rattle.p2p_net_queues.proofs.Matching.{Match-weaker, Match-last, Match-long, Match-drop}
use Rattle.p2p_net_connections.specs.Spawner.{no_spawning, refuses, spawned, taken_by, without_first}
use Rattle.p2p_net_queues.specs.Matching.{Match}
use Rattle.p2p_net_connections.specs.Dialing.{IsReservedOver}
use Rattle.p2p_net_connections.specs.SpawnerStands.{IsSpawn, SpawnerStands}
use Rattle.p2p_net_connections.specs.declared.spawner.Spawning.{Spawning}
use Rattle.p2p_net_connections.specs.declared.spawner.Taken.{Taken}
use Rattle.p2p_base.specs.Queue.{oldest}
use Rattle.p2p_net_connections.proofs.Dialing.{reserved_over-longer}

-- ---- a node that is new

none_waits : (q : Queue) → line [] q ≡ []
unfolding line live_from
none_waits q = refl

pub spawner_new : (configs : List Config) (n : ℕ) (c : Config) → slice_get configs n ≡ Some c → SpawnerStands configs [] n (no_spawning c.mailbox_size)
spawner_new configs n c is = record {
  names = ap (map name_of) (sym (none_waits (queue.Spawner n)));
  messages = subst (λ (l : List Envelope). Match (λ x m. IsSpawn [] n x.item m) l []) (sym (none_waits (queue.Spawner n))) tt;
  is_open = refl;
  size = sym (ap (λ (o : Option Config). elim o [ None ↦ 0 | Some d ↦ d.mailbox_size ]) is);
}

-- ---- a longer log

spawn-longer : (log more : List Entry) (n : ℕ) (i : Item) (m : Message Key) → IsSpawn log n i m → IsSpawn (log ++ more) n i m
spawn-longer log more n (item.Spawn key link) m h = (h.0, h.1, h.2, reserved_over-longer log more n link h.0 h.3)
spawn-longer log more n _ m h = absurd h

-- what waits stays what it was
spawns-longer : (log more : List Entry) (n : ℕ) (xs : List Envelope) (ms : List (Message Key)) → Match (λ x m. IsSpawn log n x.item m) xs ms → Match (λ x m. IsSpawn (log ++ more) n x.item m) xs ms
spawns-longer log more n = Match-weaker (λ (x : Envelope) m. IsSpawn log n x.item m) (λ (x : Envelope) m. IsSpawn (log ++ more) n x.item m) (λ x m h. spawn-longer log more n x.item m h)

-- ---- an entry that leaves it alone

pub spawner_kept : (configs : List Config) (log : List Entry) (e : Entry) (n : ℕ) (s : Spawning) → SpawnerStands configs log n s
    → line (log ++ e ∷ []) (queue.Spawner n) ≡ line log (queue.Spawner n) → SpawnerStands configs (log ++ e ∷ []) n s
spawner_kept configs log e n s h same = record {
  names = h.names ∙ ap (map name_of) (sym same);
  messages = subst (λ (l : List Envelope). Match (λ x m. IsSpawn (log ++ e ∷ []) n x.item m) l s.mailbox.items) (sym same)
      (spawns-longer log (e ∷ []) n (line log (queue.Spawner n)) s.mailbox.items h.messages);
  is_open = h.is_open;
  size = h.size;
}

-- ---- one that asks for a connection

full : (closed : Bool) (held size waiting most : ℕ) → closed ≡ false → held ≡ waiting → size ≡ most → (closed || not (nat_lt held size)) ≡ nat_le most waiting
full closed held size waiting most is_open as_many same = grind (arith, nat_tests)

-- it refuses where it is full
pub spawner_refuses : (configs : List Config) (log : List Entry) (n : ℕ) (s : Spawning) → SpawnerStands configs log n s → refuses s ≡ is_spawner_full configs log n
spawner_refuses configs log n s h =
    full s.mailbox.closed (length s.mailbox.items) s.mailbox.capacity (length (line log (queue.Spawner n))) (mailbox_size_at configs n) h.is_open
    (sym (Match-long (λ (x : Envelope) (m : Message Key). IsSpawn log n x.item m) (line log (queue.Spawner n)) s.mailbox.items h.messages)) h.size

-- the message waits behind the others
pub spawner_more : (configs : List Config) (log : List Entry) (e : Entry) (n link : ℕ) (key : Key) (m : Metadata Key) (s : Spawning) → SpawnerStands configs log n s → peer_of m ≡ key → IsReservedOver log n link m
    → line (log ++ e ∷ []) (queue.Spawner n) ≡ line log (queue.Spawner n) ++ record { entry = length log; place = 0; queue = queue.Spawner n; item = item.Spawn key link } ∷ []
    → SpawnerStands configs (log ++ e ∷ []) n (spawned false (length log) link m s)
spawner_more configs log e n link key m s h peer side more =
    let before : List Envelope = line log (queue.Spawner n) in
    let x : Envelope = record { entry = length log; place = 0; queue = queue.Spawner n; item = item.Spawn key link } in
    record {
      names = ap (λ l. l ++ (length log, 0) ∷ []) h.names ∙ (sym (map-append name_of before (x ∷ [])) ∙ ap (map name_of) (sym more));
      messages = subst (λ (l : List Envelope). Match (λ y w. IsSpawn (log ++ e ∷ []) n y.item w) l (s.mailbox.items ++ spawn_of link m ∷ [])) (sym more)
          (Match-last (λ (y : Envelope) (w : Message Key). IsSpawn (log ++ e ∷ []) n y.item w) before s.mailbox.items x (spawn_of link m)
          (spawns-longer log (e ∷ []) n before s.mailbox.items h.messages) (m, peer, refl, reserved_over-longer log (e ∷ []) n link m side));
      is_open = h.is_open;
      size = h.size;
    }

-- ---- one that takes a message

-- the others wait on
pub spawner_less : (configs : List Config) (log : List Entry) (e : Entry) (n : ℕ) (s : Spawning) → SpawnerStands configs log n s
    → line (log ++ e ∷ []) (queue.Spawner n) ≡ drop 1 (line log (queue.Spawner n)) → SpawnerStands configs (log ++ e ∷ []) n (without_first s)
spawner_less configs log e n s h less = record {
  names = ap (drop 1) h.names ∙ (sym (map-drop name_of (line log (queue.Spawner n))) ∙ ap (map name_of) (sym less));
  messages = subst (λ (l : List Envelope). Match (λ x m. IsSpawn (log ++ e ∷ []) n x.item m) l (drop 1 s.mailbox.items)) (sym less)
      (Match-drop (λ (x : Envelope) (m : Message Key). IsSpawn (log ++ e ∷ []) n x.item m) (line log (queue.Spawner n)) s.mailbox.items
      (spawns-longer log (e ∷ []) n (line log (queue.Spawner n)) s.mailbox.items h.messages));
  is_open = h.is_open;
  size = h.size;
}
  where
    map-drop : (f : Envelope → ℕ × ℕ) (xs : List Envelope) → map f (drop 1 xs) ≡ drop 1 (map f xs)
    map-drop f [] = refl
    map-drop f (x ∷ xs) = refl

-- what is taken: the oldest message, by the name of its item
pub record TakesFirst (log : List Entry) (n : ℕ) (x : Envelope) (t : Taken) : Type 0 where
  pub name : t.name ≡ name_of x
  pub item : x.item ≡ item.Spawn (peer_of t.reservation) t.link
  pub side : IsReservedOver log n t.link t.reservation

pub spawner_takes : (configs : List Config) (log : List Entry) (n : ℕ) (s : Spawning) (x : Envelope) (rest : List Envelope) → SpawnerStands configs log n s → line log (queue.Spawner n) ≡ x ∷ rest
    → (t : Taken) × ((taken_by (slice_get s.names 0) (oldest s.mailbox) ≡ Some t) × TakesFirst log n x t)
spawner_takes configs log n s x rest h first = by x.item refl s.mailbox.items refl (subst (λ (l : List Envelope). Match (λ y m. IsSpawn log n y.item m) l s.mailbox.items) first h.messages)
  where
    named : slice_get s.names 0 ≡ Some (name_of x)
    named = ap (λ l. slice_get l 0) (h.names ∙ ap (map name_of) first)

    by : (i : Item) → x.item ≡ i → (ms : List (Message Key)) → s.mailbox.items ≡ ms → Match (λ y m. IsSpawn log n y.item m) (x ∷ rest) ms
        → (t : Taken) × ((taken_by (slice_get s.names 0) (oldest s.mailbox) ≡ Some t) × TakesFirst log n x t)
    by i is [] are match = absurd match
    by (item.Spawn key link) is (m ∷ ms) are match =
        let spawn : IsSpawn log n (item.Spawn key link) m = subst (λ j. IsSpawn log n j m) is match.0 in
        let t : Taken = record { name = name_of x; link = link; reservation = spawn.0 } in (
          t,
          (
            ap (λ o. taken_by o (oldest s.mailbox)) named ∙ (ap (λ l. taken_by (Some (name_of x)) (slice_get l 0)) are ∙ ap (λ w. taken_by (Some (name_of x)) (Some w)) spawn.2),
            record { name = refl; item = is ∙ ap (λ k. item.Spawn k link) (sym spawn.1); side = spawn.3 },
          ),
        )
    by i is (m ∷ ms) are match = absurd (subst (λ j. IsSpawn log n j m) is match.0)

pub spawner_empty : (configs : List Config) (log : List Entry) (n : ℕ) (s : Spawning) → SpawnerStands configs log n s → line log (queue.Spawner n) ≡ []
    → taken_by (slice_get s.names 0) (oldest s.mailbox) ≡ None
spawner_empty configs log n s h none = ap (λ o. taken_by o (oldest s.mailbox)) (ap (λ l. slice_get l 0) (h.names ∙ ap (map name_of) none))
