-- The connections of a node with one more that its spawner made.
use Rattle.std.proofs.Common.{◌≡◌, ℕ, Bool, true, false, cond, List, [], ◌∷◌, ◌++◌, length, refl, ap, sym, subst, ◌∙◌, arith, eqb-true, Option, Some}
use Rattle.std.specs.Prelude.{◌==◌}
use Rattle.p2p_base.specs.declared.key.Key.{Key}
use Rattle.p2p_tracker_directory.specs.Reserved.{peer_of}
use Rattle.p2p_tracker_directory.specs.declared.metadata.Metadata.{Metadata}
use Rattle.p2p_log.specs.declared.config.Config.{Config}
use Rattle.p2p_log.specs.declared.queue.Queue.TheVariants as queue
use Rattle.p2p_log.specs.declared.entry.Entry.{Entry}
use Rattle.p2p_log.specs.Lines.{line}
use Rattle.p2p_log_rules.specs.Facts.{with_named}
use Rattle.p2p_log_rules.specs.Connections.{live_connection}
use Rattle.p2p_log_rules.specs.Metering.{pings, admitted}
use Rattle.p2p_log_rules.specs.Pings.{ping_frequency_at}
use Rattle.p2p_log_rules.specs.Spawning.{Spawned}
use Rattle.p2p_log_rules.proofs.Metering.{admitted-kept}
use Rattle.p2p_net_queues.specs.Tables.{at}
use Rattle.p2p_net_queues.proofs.Tables.{at-inserted}
use Rattle.p2p_net_connections.specs.Connections.{spawned_on, new_connection, spawned_with}
use Rattle.p2p_net_connections.specs.Dialing.{IsReservedOver, IsConnectedBy}
use Rattle.p2p_net_connections.specs.Pinging.{CountsPingsOf}
use Rattle.p2p_net_connections.specs.Stands.{ConnectionsStand, BeginsNone, ReceivesNone}
use Rattle.p2p_net_connections.specs.declared.connections.Connection.{Connection}
use Rattle.p2p_net_connections.specs.declared.connections.Connections.{Connections}
use Rattle.p2p_net_connections.proofs.Changes.{begun-kept, idle-kept, holds_kept, pings_kept, unmade_kept}
use Rattle.p2p_net_connections.proofs.Dialing.{reserved_over-longer, connected_by-longer, connected_by-cond}
use Rattle.p2p_net_connections.proofs.PingCounts.{counts_cond, counts_new}
use Rattle.p2p_net_connections.proofs.Pings.{pinged-kept}

on_cond : (b : Bool) (c : Connection) (o : Option Connection) → spawned_on (cond b (Some c) o) ≡ cond b (spawned_on (Some c)) (spawned_on o)
on_cond true c o = refl
on_cond false c o = refl

-- an entry in which its spawner makes one, over this link and by this reservation
pub connections_spawned :
    (configs : List Config) (log : List Entry) (e : Entry) (n link frequency : ℕ) (m : Metadata Key) (cs : Connections) → ConnectionsStand configs log n cs → frequency ≡ ping_frequency_at configs n
    → ((conn : ℕ) → live_connection (log ++ e ∷ []) n conn ≡ with_named (length log) (Some (record { key = peer_of m; link = link })) (live_connection log n) conn)
    → IsReservedOver log n link m → BeginsNone log e n → ReceivesNone configs log e n → ((conn : ℕ) → line (log ++ e ∷ []) (queue.RouterAnswer n conn) ≡ line log (queue.RouterAnswer n conn))
    → ConnectionsStand configs (log ++ e ∷ []) n (spawned_with (length log) link m frequency cs)
connections_spawned configs log e n link frequency m cs s paced made side none receives lines = record {
  spawned = λ conn.
      ap spawned_on (at-inserted (length log) conn new cs.spawned)
      ∙ (on_cond (conn == length log) new (at cs.spawned conn)
      ∙ (ap (λ (o : Option Spawned). cond (conn == length log) (Some (record { key = peer_of m; link = link })) o) (s.spawned conn) ∙ sym (made conn)));
  reserved = λ conn.
      subst (IsConnectedBy (log ++ e ∷ []) n) (sym (at-inserted (length log) conn new cs.spawned))
      (connected_by-cond (log ++ e ∷ []) n (conn == length log) (Some new) (at cs.spawned conn)
      (reserved_over-longer log (e ∷ []) n link m side) (connected_by-longer log (e ∷ []) n (at cs.spawned conn) (s.reserved conn)));
  begun = λ conn. s.begun conn ∙ sym (begun-kept log e n conn (none conn));
  running = λ conn. s.running conn ∙ sym (idle-kept log e n conn (none conn));
  pinged = λ conn. s.pinged conn ∙ sym (pinged-kept configs log e n conn (none conn));
  waits = λ conn. s.waits conn ∙ sym (lines conn);
  holds = holds_kept configs log e n cs s receives;
  counts = λ conn.
      subst (CountsPingsOf configs (log ++ e ∷ []) n conn) (sym (at-inserted (length log) conn new cs.spawned))
      (counts_cond configs (log ++ e ∷ []) n conn (conn == length log) (Some new) (at cs.spawned conn) (λ here. counts_new configs (log ++ e ∷ []) n conn frequency paced (admits_none conn here))
      (pings_kept configs log e n cs s receives.no_ping conn));
  unmade = unmade_kept configs log e n cs s receives.no_ping;
}
  where
    new : Connection
    new = new_connection link m frequency

    -- nothing came over it yet
    admits_none : (conn : ℕ) → (conn == length log) ≡ true → admitted configs (log ++ e ∷ []) n conn pings ≡ []
    admits_none conn here =
        let is : conn ≡ length log = eqb-true conn (length log) here in
        admitted-kept configs log e n conn pings (receives.no_ping conn) ∙ s.unmade conn (omega arith)
