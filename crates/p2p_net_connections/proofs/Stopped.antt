-- The connections of a node and its spawner's mailbox while the node stops, and once it has.
use Rattle.std.proofs.Common.{◌≡◌, ℕ, ◌+◌, Bool, true, false, cond, List, [], ◌∷◌, ◌++◌, map, length, refl, ap, sym, subst, ◌∙◌, arith, length-append, None}
use Rattle.std.specs.Prelude.{◌&&◌, not, filter, is_some}
use Rattle.std.specs.BTreeMap.{is_at}
use Rattle.std.specs.Ordering.{nat_cmp}
use Rattle.p2p_log.specs.declared.config.Config.{Config}
use Rattle.p2p_log.specs.declared.queue.Queue.{Queue}
use Rattle.p2p_log.specs.declared.queue.Queue.TheVariants as queue
use Rattle.p2p_log.specs.declared.item.Envelope.{Envelope}
use Rattle.p2p_log.specs.declared.entry.Entry.{Entry}
use Rattle.p2p_log.specs.declared.event.Act.TheVariants as act
use Rattle.p2p_log.specs.Apart.{AreApart}
use Rattle.p2p_log.specs.Lines.{name_of, live, line, stays, stands_in}
use Rattle.p2p_log.specs.QueueCode.{same_queue}
use Rattle.p2p_log.proofs.QueueNames.{queue_from_same}
use Rattle.p2p_log.proofs.Queues.{same_queue-sym}
use Rattle.p2p_log_rules.specs.Connections.{begins_connection, is_begun, has_run, live_connection, is_end}
use Rattle.p2p_log_rules.specs.Facts.{taken}
use Rattle.p2p_log_rules.specs.Metering.{pings, limit_at, admitted_by, admitted}
use Rattle.p2p_log_rules.specs.Pings.{last_pinged}
use Rattle.p2p_log_rules.proofs.Channels.{IsStopOf}
use Rattle.p2p_log_rules.proofs.Connections.{steps_receiver, begins_act}
use Rattle.p2p_log_rules.proofs.Left.{without, line_gone, line_kept}
use Rattle.p2p_log_rules.proofs.Metering.{admits_one, admitted_is}
use Rattle.p2p_log_rules.proofs.Stopping.{live_connection-stopped}
use Rattle.p2p_net_queues.specs.Tables.{at, waiting, cleared_at}
use Rattle.p2p_net_queues.proofs.Meters.{admitted-kept}
use Rattle.p2p_net_queues.proofs.Tables.{waiting-cleared_at}
use Rattle.p2p_net_connections.specs.Connections.{runs_on, pinged_on, spawned_on}
use Rattle.p2p_net_connections.specs.Dialing.{IsConnectedBy}
use Rattle.p2p_net_connections.specs.Pinging.{CountsPingsOf}
use Rattle.p2p_net_connections.specs.Stands.{ConnectionsStand}
use Rattle.p2p_net_connections.specs.Stopping.{ConnectionsLeft}
use Rattle.p2p_net_connections.specs.declared.connections.Connection.{Connection}
use Rattle.p2p_net_connections.specs.declared.connections.Connections.{Connections}
use Rattle.p2p_net_connections.specs.declared.connections.Stage.{Stage}
use Rattle.p2p_net_connections.proofs.Changes.{begun-kept, idle-kept, same_ready, same_held}
use Rattle.p2p_net_connections.proofs.Pings.{pinged-kept}

-- ---- what waits for the connections, by what is left

-- at first all that stands in queues
pub connections_left_of : (configs : List Config) (log : List Entry) (n : ℕ) (cs : Connections) → ConnectionsStand configs log n cs → ConnectionsLeft n cs (live log)
unfolding line
connections_left_of configs log n cs s = record { answers = s.waits; held = s.holds }

-- the line of a queue ends, and what waits in another
other_waits : (w : List (ℕ × List Envelope)) (p q : Queue) (k : ℕ) (items : List Envelope) → same_queue p q ≡ false → AreApart items → waiting w k ≡ filter (stands_in p) items
    → waiting w k ≡ filter (stands_in p) (without q items)
other_waits w p q k items other apart is = is ∙ sym (line_kept q p items apart (same_queue-sym q p ∙ other))

pub connections_left_other : (n : ℕ) (cs : Connections) (q : Queue) (items : List Envelope) → ((conn : ℕ) → same_queue (queue.RouterAnswer n conn) q ≡ false) → ((conn : ℕ) → same_queue (queue.Held n conn) q ≡ false)
    → AreApart items → ConnectionsLeft n cs items → ConnectionsLeft n cs (filter (stays (map name_of (filter (stands_in q) items))) items)
connections_left_other n cs q items not_ready not_held apart h = record {
  answers = λ conn. other_waits cs.answers (queue.RouterAnswer n conn) q conn items (not_ready conn) apart (h.answers conn);
  held = λ conn. other_waits cs.held (queue.Held n conn) q conn items (not_held conn) apart (h.held conn);
}

-- a connection goes, or how far it is
pub connections_left_same : (n : ℕ) (cs new : Connections) (items : List Envelope) → new.answers ≡ cs.answers → new.held ≡ cs.held → ConnectionsLeft n cs items → ConnectionsLeft n new items
connections_left_same n cs new items answers held h = record {
  answers = λ conn. ap (λ w. waiting w conn) answers ∙ h.answers conn;
  held = λ conn. ap (λ w. waiting w conn) held ∙ h.held conn;
}

-- what waits for one key is cleared, and its line is taken
cleared_waits : (queue_of : ℕ → Queue) → ((c d : ℕ) → is_at (nat_cmp c) d ≡ same_queue (queue_of c) (queue_of d)) → (w : List (ℕ × List Envelope)) (k : ℕ) (items : List Envelope) → AreApart items
    → ((j : ℕ) → waiting w j ≡ filter (stands_in (queue_of j)) items) → (j : ℕ) → waiting (cleared_at w k) j ≡ filter (stands_in (queue_of j)) (without (queue_of k) items)
cleared_waits queue_of same w k items apart is j =
    waiting-cleared_at k j w ∙ (ap (λ b. cond b [] (waiting w j)) (same j k) ∙ by (same_queue (queue_of j) (queue_of k)) refl)
  where
    by : (b : Bool) → same_queue (queue_of j) (queue_of k) ≡ b → cond b [] (waiting w j) ≡ filter (stands_in (queue_of j)) (without (queue_of k) items)
    by true here = sym (ap (λ q. filter (stands_in q) (without (queue_of k) items)) (sym (queue_from_same (queue_of j) (queue_of k) here)) ∙ line_gone items (queue_of k))
    by false other = other_waits w (queue_of j) (queue_of k) j items other apart (is j)

-- so with what waits for the quotas of one, and with its answers
pub held_left : (n conn : ℕ) (cs : Connections) (items : List Envelope) → AreApart items → ConnectionsLeft n cs items
    → ConnectionsLeft n (record cs { held = cleared_at cs.held conn }) (filter (stays (map name_of (filter (stands_in (queue.Held n conn)) items))) items)
held_left n conn cs items apart h = record {
  answers = λ c. other_waits cs.answers (queue.RouterAnswer n c) (queue.Held n conn) c items (kinds n c conn) apart (h.answers c);
  held = cleared_waits (queue.Held n) (same_held n) cs.held conn items apart h.held;
}
  where
    kinds : (n c d : ℕ) → same_queue (queue.RouterAnswer n c) (queue.Held n d) ≡ false
    kinds n c d = refl

pub answers_left : (n conn : ℕ) (cs : Connections) (items : List Envelope) → AreApart items → ConnectionsLeft n cs items
    → ConnectionsLeft n (record cs { answers = cleared_at cs.answers conn }) (filter (stays (map name_of (filter (stands_in (queue.RouterAnswer n conn)) items))) items)
answers_left n conn cs items apart h = record {
  answers = cleared_waits (queue.RouterAnswer n) (same_ready n) cs.answers conn items apart h.answers;
  held = λ c. other_waits cs.held (queue.Held n c) (queue.RouterAnswer n conn) c items (kinds n c conn) apart (h.held c);
}
  where
    kinds : (n c d : ℕ) → same_queue (queue.Held n c) (queue.RouterAnswer n d) ≡ false
    kinds n c d = refl

-- ---- the connections once the node has stopped

-- an entry after which none of them lives, and in which none begins and none admits a ping
pub record StopsConnections (configs : List Config) (log : List Entry) (e : Entry) (n : ℕ) : Type 0 where
  pub gone : (conn : ℕ) → live_connection (log ++ e ∷ []) n conn ≡ None
  pub begun : (conn : ℕ) → is_begun (log ++ e ∷ []) n conn ≡ is_begun log n conn
  pub running : (conn : ℕ) → has_run (log ++ e ∷ []) n conn ≡ has_run log n conn
  pub pinged : (conn : ℕ) → last_pinged configs (log ++ e ∷ []) n conn ≡ last_pinged configs log n conn
  pub admits : (conn : ℕ) → admitted configs (log ++ e ∷ []) n conn pings ≡ admitted configs log n conn pings

-- so the stop of their node is one
pub stops_connections : (configs : List Config) (log : List Entry) (e : Entry) (n : ℕ) → IsStopOf log e n → StopsConnections configs log e n
stops_connections configs log e n stop = record {
  gone = live_connection-stopped log e n stop;
  begun = λ conn. begun-kept log e n conn (none conn);
  running = λ conn. idle-kept log e n conn (none conn);
  pinged = λ conn. pinged-kept configs log e n conn (none conn);
  admits = λ conn. admitted-kept configs log e n conn pings (no_ping conn);
}
  where
    none : (conn : ℕ) → begins_connection n conn log e ≡ false
    none conn = begins_act log e n conn (act.Stop stop.by_start n) stop.acts

    no_ping : (conn : ℕ) → admitted_by (limit_at configs n) n conn pings log e ≡ []
    no_ping conn =
        admitted_is (limit_at configs n) n conn pings log e
        ∙ ap (λ a. cond (steps_receiver n conn a && not (is_end e.reply) && admits_one (limit_at configs n) pings (taken log e) e.puts) (e.event.at ∷ []) []) stop.acts

pub connections_stopped : (configs : List Config) (log : List Entry) (e : Entry) (n : ℕ) (cs new : Connections) → ConnectionsStand configs log n cs → new.spawned ≡ [] → new.stages ≡ cs.stages
    → ConnectionsLeft n new (live (log ++ e ∷ [])) → StopsConnections configs log e n → ConnectionsStand configs (log ++ e ∷ []) n new
unfolding line
connections_stopped configs log e n cs new s none stages left stops = record {
  spawned = λ conn. ap (λ (m : List (ℕ × Connection)). spawned_on (at m conn)) none ∙ sym (stops.gone conn);
  reserved = λ conn. subst (λ (m : List (ℕ × Connection)). IsConnectedBy (log ++ e ∷ []) n (at m conn)) (sym none) tt;
  begun = λ conn. ap (λ (m : List (ℕ × Stage)). is_some (at m conn)) stages ∙ (s.begun conn ∙ sym (stops.begun conn));
  running = λ conn. ap (λ (m : List (ℕ × Stage)). runs_on (at m conn)) stages ∙ (s.running conn ∙ sym (stops.running conn));
  pinged = λ conn. ap (λ (m : List (ℕ × Stage)). pinged_on (at m conn)) stages ∙ (s.pinged conn ∙ sym (stops.pinged conn));
  waits = left.answers;
  holds = left.held;
  counts = λ conn. subst (λ (m : List (ℕ × Connection)). CountsPingsOf configs (log ++ e ∷ []) n conn (at m conn)) (sym none) tt;
  unmade = λ conn late. stops.admits conn ∙ s.unmade conn (let more : length (log ++ e ∷ []) ≡ length log + 1 = length-append log (e ∷ []) in omega arith);
}
