-- When the connections of a node stand for a log.
use Rattle.std.specs.Prelude.{◌≡◌, ◌≤◌, ℕ, false, List, [], ◌∷◌, ◌++◌, length, is_some}
use Rattle.p2p_log.specs.declared.config.Config.{Config}
use Rattle.p2p_log.specs.declared.queue.Queue.TheVariants as queue
use Rattle.p2p_log.specs.declared.entry.Entry.{Entry}
use Rattle.p2p_log.specs.Lines.{line}
use Rattle.p2p_log_rules.specs.Connections.{begins_connection, is_begun, has_run, live_connection}
use Rattle.p2p_log_rules.specs.Metering.{pings, limit_at, admitted_by, admitted}
use Rattle.p2p_log_rules.specs.Pings.{last_pinged}
use Rattle.p2p_net_queues.specs.Lines.{HoldsLines}
use Rattle.p2p_net_queues.specs.Tables.{at}
use Rattle.p2p_net_connections.specs.Connections.{runs_on, pinged_on, spawned_on}
use Rattle.p2p_net_connections.specs.Dialing.{IsConnectedBy}
use Rattle.p2p_net_connections.specs.Pinging.{CountsPingsOf}
use Rattle.p2p_net_connections.specs.declared.connections.Connections.{Connections}

pub record ConnectionsStand (configs : List Config) (log : List Entry) (n : ℕ) (cs : Connections) : Type 0 where
  pub spawned : (conn : ℕ) → spawned_on (at cs.spawned conn) ≡ live_connection log n conn
  pub reserved : (conn : ℕ) → IsConnectedBy log n (at cs.spawned conn)
  pub begun : (conn : ℕ) → is_some (at cs.stages conn) ≡ is_begun log n conn
  pub running : (conn : ℕ) → runs_on (at cs.stages conn) ≡ has_run log n conn
  pub pinged : (conn : ℕ) → pinged_on (at cs.stages conn) ≡ last_pinged configs log n conn
  pub waits : HoldsLines (queue.RouterAnswer n) log cs.answers
  -- what waits for their quotas
  pub holds : HoldsLines (queue.Held n) log cs.held
  pub counts : (conn : ℕ) → CountsPingsOf configs log n conn (at cs.spawned conn)
  -- nothing came over one of a later name
  pub unmade : (conn : ℕ) → length log ≤ conn → admitted configs log n conn pings ≡ []

-- an entry in which its spawner makes no connection, and none ends
abbrev pub SpawnsNone : List Entry → Entry → ℕ → Type 0
SpawnsNone log e n = (conn : ℕ) → live_connection (log ++ e ∷ []) n conn ≡ live_connection log n conn

-- an entry in which none of them begins or pings, and none takes an answer
abbrev pub BeginsNone : List Entry → Entry → ℕ → Type 0
BeginsNone log e n = (conn : ℕ) → begins_connection n conn log e ≡ false

-- an entry that leaves alone what waits for their quotas, and in which none admits a ping
pub record ReceivesNone (configs : List Config) (log : List Entry) (e : Entry) (n : ℕ) : Type 0 where
  pub held : (conn : ℕ) → line (log ++ e ∷ []) (queue.Held n conn) ≡ line log (queue.Held n conn)
  pub no_ping : (conn : ℕ) → admitted_by (limit_at configs n) n conn pings log e ≡ []

-- an entry that leaves them alone
pub record LeavesConnections (configs : List Config) (log : List Entry) (e : Entry) (n : ℕ) : Type 0 where
  pub spawns : SpawnsNone log e n
  pub begins : BeginsNone log e n
  pub receives : ReceivesNone configs log e n
  pub lines : (conn : ℕ) → line (log ++ e ∷ []) (queue.RouterAnswer n conn) ≡ line log (queue.RouterAnswer n conn)
