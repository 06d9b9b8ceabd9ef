-- A step of a node's spawner makes a connection of the oldest message of its mailbox.
use Rattle.std.proofs.Common.{◌≡◌, ℕ, Bool, true, false, cond, List, [], ◌∷◌, ◌++◌, length, refl, ap, sym, subst, ◌∙◌, append-nil, eq-eqb, eqb-true, Some, None, Option}
use Rattle.std.specs.Prelude.{◌==◌, drop}
use Rattle.p2p_tracker_directory.specs.Reserved.{peer_of}
use Rattle.p2p_log.specs.declared.config.Config.{Config}
use Rattle.p2p_log.specs.declared.queue.Queue.{Queue}
use Rattle.p2p_log.specs.declared.queue.Queue.TheVariants as queue
use Rattle.p2p_log.specs.declared.item.Item.{Item}
use Rattle.p2p_log.specs.declared.item.Envelope.{Envelope}
use Rattle.p2p_log.specs.declared.entry.Entry.{Entry}
use Rattle.p2p_log.specs.declared.entry.Reply.TheVariants as reply
use Rattle.p2p_log.specs.declared.event.Event.{Event}
use Rattle.p2p_log.specs.declared.event.Act.{Act}
use Rattle.p2p_log.specs.declared.event.Act.TheVariants as act
use Rattle.p2p_log.specs.QueueCode.{same_queue}
use Rattle.p2p_log.specs.Lines.{line}
use Rattle.p2p_log.proofs.Queues.{same_queue-refl}
use Rattle.p2p_log_rules.specs.declared.row.Row.{Row}
use Rattle.p2p_log_rules.specs.Effect.{entry_of, effect, row}
use Rattle.p2p_log_rules.specs.Facts.{is_up, taken, with_named, with_begun}
use Rattle.p2p_log_rules.specs.Pings.{ping_frequency_at}
use Rattle.p2p_log_rules.specs.Rows.{only, takes_oldest, taken_row}
use Rattle.p2p_log_rules.specs.Spawning.{Spawned, spawned_of, connections_of}
use Rattle.p2p_log_rules.proofs.Spawning.{connections_of-acted}
use Rattle.p2p_net_queues.proofs.Going.{line-taken}
use Rattle.p2p_net_connections.specs.Stands.{ConnectionsStand}
use Rattle.p2p_net_connections.proofs.Spawned.{connections_spawned}
use Rattle.p2p_net_links.specs.Stands.{LinksStand}
use Rattle.p2p_net_links.specs.declared.links.Links.{Links}
use Rattle.p2p_net_connections.specs.SpawnerStands.{SpawnerStands}
use Rattle.p2p_net_connections.specs.declared.spawner.Taken.{Taken}
use Rattle.p2p_net_connections.proofs.SpawnerChanges.{TakesFirst, spawner_less, spawner_takes, spawner_empty}
use Rattle.p2p_net_connecting.specs.Steps.{SpawnsBy, SpawnerStepsBy}
use Rattle.p2p_net_node.specs.Places as place
use Rattle.p2p_net_node.specs.Ready.{is_node_up}
use Rattle.p2p_net_node.specs.Stands.{NodeStands}
use Rattle.p2p_net_node.specs.declared.node.Node.{Node}
use Rattle.p2p_net_node.proofs.EachPart.{with_parts, each_part-made, not_among}
use Rattle.p2p_net_node.proofs.Frames.{begins_unsent, links_kept}
use Rattle.p2p_net_node.proofs.Receivers.{receives_apart}
use Rattle.p2p_net_node.proofs.Readying.{started_is}
use Rattle.p2p_net_node.proofs.Performing.{asked, Performs, IsStill, line-still, part_still, stays_performs}
use Rattle.p2p_net_tracker.proofs.StepFacts.{first_taken}
use Rattle.p2p_log_rules.specs.Connections.{is_begun, is_ended, live_connection}
use Rattle.p2p_log_rules.proofs.Connections.{is_ended-kept, ends_untold}

-- a connection of a new name is one of those that live
live_named : (log : List Entry) (n conn : ℕ) (c : Spawned) → is_ended log n (length log) ≡ false
    → cond (is_ended log n conn) None (with_named (length log) (Some c) (connections_of log n) conn) ≡ with_named (length log) (Some c) (live_connection log n) conn
live_named log n conn c fresh = by (conn == length log) refl
  where
    by : (b : Bool) → (conn == length log) ≡ b → cond (is_ended log n conn) None (cond b (Some c) (connections_of log n conn)) ≡ cond b (Some c) (live_connection log n conn)
    by true is = ap (λ e. cond e None (Some c)) (ap (is_ended log n) (eqb-true conn (length log) is) ∙ fresh)
    by false is = refl

module _ (configs : List Config) (log : List Entry) (moment seed n : ℕ) (x y : Node) (l ls : Links) (r : Row) (s : NodeStands configs log n x) (t : LinksStand configs log l) (kept : ls ≡ l)
    (fresh : is_ended log n (length log) ≡ false) (unbegun : is_begun log n (length log) ≡ false) where
  abbrev a : Act
  a = act.Spawner n

  abbrev ev : Event
  ev = asked moment seed a

  abbrev q : Queue
  q = queue.Spawner n

  abbrev waits : List Envelope
  waits = line log q

  abbrev Done : Type 0
  Done = Performs configs log ev n y ls r

  abbrev e : Row → Entry
  e due = entry_of ev due

  abbrev both : List place.Part
  both = place.spawner ∷ place.connections ∷ []

  spawns : SpawnerStands configs log n x.spawning
  spawns = s.each place.spawner

  connects : ConnectionsStand configs log n x.connections
  connects = s.each place.connections

  row_up : is_up log n ≡ true → row configs log moment seed a ≡ takes_oldest waits
  unfolding row
  row_up up = ap (λ b. cond b (takes_oldest waits) (only reply.Gone)) up

  row_down : is_up log n ≡ false → row configs log moment seed a ≡ only reply.Gone
  unfolding row
  row_down down = ap (λ b. cond b (takes_oldest waits) (only reply.Gone)) down

  effect_is : (due : Row) → row configs log moment seed a ≡ due → e due ≡ effect configs log ev
  unfolding effect
  effect_is due is = ap (entry_of ev) (sym is)

  gone : is_up log n ≡ false → (r ≡ only reply.Gone) → y ≡ x → Done
  gone down is same = stays_performs configs log ev n x y l ls r reply.Gone s t (row_down down) refl is same kept

  -- what it comes to, where the two parts stand for the log with the entry
  performs : (due : Row) → row configs log moment seed a ≡ due → r ≡ due → y ≡ with_parts both x y
      → SpawnerStands configs (log ++ e due ∷ []) n y.spawning → ConnectionsStand configs (log ++ e due ∷ []) n y.connections → Done
  performs due is done parts spawner connections =
      let same : e due ≡ effect configs log ev = effect_is due is in
      record {
        row_is = done ∙ sym is;
        node =
            each_part-made configs log ev n x y both s parts (λ p out. not_among both p n n out) (λ makes. unbegun) refl (
              subst (λ (d : Entry). SpawnerStands configs (log ++ d ∷ []) n y.spawning) same spawner,
              (subst (λ (d : Entry). ConnectionsStand configs (log ++ d ∷ []) n y.connections) same connections, tt),
            );
        linked = subst (LinksStand configs (log ++ effect configs log ev ∷ [])) (sym kept) (links_kept configs log ev l t refl);
      }

  idle : is_up log n ≡ true → waits ≡ [] → SpawnsBy None (length log) x y r → Done
  idle up none d =
      let due : Row = only reply.Idle in
      let is : row configs log moment seed a ≡ due = row_up up ∙ ap takes_oldest none in
      let still : IsStill (e due) reply.Idle = record { reply = refl; takes = refl; puts = refl; ends = refl } in
      performs due is d.0 (subst (λ z. z ≡ with_parts both x z) (sym d.1) refl)
      (subst (SpawnerStands configs (log ++ e due ∷ []) n) (sym (ap (λ (z : Node). z.spawning) d.1))
      (spawner_less configs log (e due) n x.spawning spawns (line-still log (e due) reply.Idle q still ∙ (none ∙ sym (ap (drop 1) none)))))
      (subst (ConnectionsStand configs (log ++ e due ∷ []) n) (sym (ap (λ (z : Node). z.connections) d.1)) (part_still place.connections configs log (e due) n x a reply.Idle connects refl refl still))

  -- what is taken makes a connection
  spawn : is_up log n ≡ true → (z : Envelope) (zs : List Envelope) → waits ≡ z ∷ zs → (w : Taken) → TakesFirst log n z w → SpawnsBy (Some w) (length log) x y r → Done
  spawn up z zs first w takes d =
      let due : Row = takes_oldest (z ∷ zs) in
      let is : row configs log moment seed a ≡ due = row_up up ∙ ap takes_oldest first in
      let took : taken log (e due) ≡ z.item ∷ [] = first_taken log (e due) q z zs first refl in
      let left : line (log ++ e due ∷ []) q ≡ drop 1 waits =
      line-taken log (e due) q z zs q first refl
      ∙ (append-nil (cond (same_queue q q) zs waits) ∙ (ap (λ b. cond b zs waits) (same_queue-refl q) ∙ sym (ap (drop 1) first)))
      in
      let c : Spawned = record { key = peer_of w.reservation; link = w.link } in
      let made : (conn : ℕ) → live_connection (log ++ e due ∷ []) n conn ≡ with_named (length log) (Some c) (live_connection log n) conn =
      λ conn.
      ap (λ b. cond b None (connections_of (log ++ e due ∷ []) n conn)) (is_ended-kept log (e due) n conn (ends_untold log (e due) n conn a refl refl))
      ∙ (ap (λ o. cond (is_ended log n conn) None o)
      (connections_of-acted log (e due) n true (eq-eqb n n refl) conn
      ∙ ap (λ (items : List Item). with_begun (spawned_of items) (length log) (connections_of log n) conn) (took ∙ ap (λ i. i ∷ []) takes.item))
      ∙ live_named log n conn c fresh)
      in
      let paced : x.config.ping_frequency ≡ ping_frequency_at configs n = sym (ap (λ (o : Option Config). elim o [ None ↦ 0 | Some k ↦ k.ping_frequency ]) s.own.config) in
      performs due is (d.0 ∙ ap taken_row takes.name) (subst (λ z. z ≡ with_parts both x z) (sym d.1) refl)
      (subst (SpawnerStands configs (log ++ e due ∷ []) n) (sym (ap (λ (z : Node). z.spawning) d.1)) (spawner_less configs log (e due) n x.spawning spawns left))
      (subst (ConnectionsStand configs (log ++ e due ∷ []) n) (sym (ap (λ (z : Node). z.connections) d.1))
      (connections_spawned configs log (e due) n w.link x.config.ping_frequency w.reservation x.connections connects paced made takes.side (begins_unsent log (e due) n a refl (λ conn. refl))
      (receives_apart configs log (e due) n a refl (λ conn. refl) (λ conn. line-taken log (e due) q z zs (queue.Held n conn) first refl ∙ append-nil (line log (queue.Held n conn))))
      (λ conn. line-taken log (e due) q z zs (queue.RouterAnswer n conn) first refl ∙ append-nil (line log (queue.RouterAnswer n conn)))))

  by_line : is_up log n ≡ true → (xs : List Envelope) → waits ≡ xs → SpawnerStepsBy true (length log) x y r → Done
  by_line up [] none d = idle up none (subst (λ o. SpawnsBy o (length log) x y r) (spawner_empty configs log n x.spawning spawns none) d)
  by_line up (z ∷ zs) first d =
      let took = spawner_takes configs log n x.spawning z zs spawns first in
      spawn up z zs first took.0 took.1.1 (subst (λ o. SpawnsBy o (length log) x y r) took.1.0 d)

pub spawner_performs : (configs : List Config) (log : List Entry) (moment seed n : ℕ) (x y : Node) (l ls : Links) (r : Row) → NodeStands configs log n x → LinksStand configs log l → is_ended log n (length log) ≡ false
    → is_begun log n (length log) ≡ false → SpawnerStepsBy (is_node_up x) (length log) x y r → ls ≡ l → Performs configs log (asked moment seed (act.Spawner n)) n y ls r
spawner_performs configs log moment seed n x y l ls r s t fresh unbegun d kept = by (is_node_up x) (sym (started_is configs log n x s)) d
  where
    by : (b : Bool) → is_up log n ≡ b → SpawnerStepsBy b (length log) x y r → Performs configs log (asked moment seed (act.Spawner n)) n y ls r
    by true up d = by_line configs log moment seed n x y l ls r s t kept fresh unbegun up (line log (queue.Spawner n)) refl d
    by false down d = gone configs log moment seed n x y l ls r s t kept fresh unbegun down d.0 d.1
