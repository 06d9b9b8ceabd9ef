-- The connections of a node as values: what each call makes of them.
use Rattle.std.specs.Prelude.{ℕ, ◌+◌, Bool, true, false, cond, List, [], ◌∷◌, Option, Some, None, slice_get, is_ok}
use Rattle.std.specs.BTreeMap.{is_at, insert_entry}
use Rattle.std.specs.Map.{set_value}
use Rattle.std.specs.Ordering.{nat_cmp}
use Rattle.p2p_base.specs.declared.key.Key.{Key}
use Rattle.p2p_tracker_directory.specs.Reserved.{peer_of}
use Rattle.p2p_tracker_directory.specs.declared.metadata.Metadata.{Metadata}
use Rattle.p2p_log.specs.declared.queue.Queue.{Queue}
use Rattle.p2p_log.specs.declared.queue.Queue.TheVariants as queue
use Rattle.p2p_log.specs.QueueCode.{detail_of, same_queue}
use Rattle.p2p_log.specs.declared.item.Item.{Item}
use Rattle.p2p_log.specs.declared.item.Envelope.{Envelope}
use Rattle.p2p_log_rules.specs.Connections.{is_answer}
use Rattle.p2p_log_rules.specs.Spawning.{Spawned}
use Rattle.p2p_peer_shared.specs.Beginning.{half_rate}
use Rattle.p2p_runtime.specs.QuotaCheck.{rate_answer, after_rate}
use Rattle.p2p_runtime.specs.QuotaKept.{Kept}
use Rattle.p2p_runtime.specs.QuotaLaw.{Rate}
use Rattle.p2p_net_queues.specs.Tables.{at, waiting, pushed_at, popped_at}
use Rattle.p2p_net_connections.specs.declared.connections.Connection.{Connection}
use Rattle.p2p_net_connections.specs.declared.connections.Connections.{Connections}
use Rattle.p2p_net_connections.specs.declared.connections.Stage.{Stage}
use Rattle.p2p_net_connections.specs.declared.connections.Stage.TheVariants as stage

abbrev pub no_connections : Connections
no_connections = record { spawned = []; stages = []; answers = []; held = [] }

-- whether a connection at this stage runs
abbrev pub runs_on : Option Stage → Bool
runs_on (Some (stage.Running pinged)) = true
runs_on _ = false

-- the moment from which a connection at this stage counts to its next ping
abbrev pub pinged_on : Option Stage → Option ℕ
pinged_on (Some (stage.Running pinged)) = Some pinged
pinged_on _ = None

-- a connection that the spawner made, as the log has it
abbrev pub spawned_on : Option Connection → Option Spawned
spawned_on None = None
spawned_on (Some c) = Some (record { key = peer_of c.reservation; link = c.link })

-- what is kept of a quota that has admitted nothing
abbrev pub fresh : Rate → Kept
fresh quota = record { rate = quota; arrival = 0; latest = 0 }

-- a connection that was just made, of a node that pings so often
abbrev pub new_connection : ℕ → Metadata Key → ℕ → Connection
new_connection link reservation frequency = record { link = link; reservation = reservation; pings = fresh (half_rate frequency) }

abbrev pub spawned_with : ℕ → ℕ → Metadata Key → ℕ → Connections → Connections
spawned_with conn link reservation frequency cs = record cs { spawned = insert_entry nat_cmp cs.spawned conn (new_connection link reservation frequency) }

-- whether a queue is of the answers to a connection of the node
abbrev pub is_answer_to : ℕ → Queue → Bool
is_answer_to n q = same_queue (queue.RouterAnswer n (detail_of q)) q

-- the answers with one put more, where it is for a connection of the node
abbrev pub answered_in : ℕ → ℕ → ℕ → Queue → Item → List (ℕ × List Envelope) → List (ℕ × List Envelope)
answered_in entry n place q i answers =
    cond (is_answer_to n q) (pushed_at answers (detail_of q) (record { entry = entry; place = place; queue = q; item = i })) answers

abbrev pub answered_by : ℕ → ℕ → ℕ → Queue × Item → List (ℕ × List Envelope) → List (ℕ × List Envelope)
answered_by entry n place x answers = answered_in entry n place x.0 x.1 answers

-- the answers with the puts of an entry, from this place on
abbrev pub answered : ℕ → ℕ → ℕ → List (Queue × Item) → List (ℕ × List Envelope) → List (ℕ × List Envelope)
answered entry n place [] answers = answers
answered entry n place (x ∷ xs) answers = answered entry n (place + 1) xs (answered_by entry n place x answers)

-- a connection has begun
abbrev pub begun_with : ℕ → Connections → Connections
begun_with conn cs = record cs { stages = insert_entry nat_cmp cs.stages conn stage.Begun }

-- the name of what stands first, and whether it is the router's answer
abbrev pub named_answer : Option Envelope → Option ((ℕ × ℕ) × Bool)
named_answer None = None
named_answer (Some x) = Some ((x.entry, x.place), is_answer x.item)

-- the stages, once this was taken for a connection at this moment
abbrev pub stages_with : Option Envelope → ℕ → ℕ → List (ℕ × Stage) → List (ℕ × Stage)
stages_with None conn now stages = stages
stages_with (Some x) conn now stages = cond (is_answer x.item) (insert_entry nat_cmp stages conn (stage.Running now)) stages

-- the first answer of a connection was taken
abbrev pub without_answer : ℕ → ℕ → Connections → Connections
without_answer conn now cs = record cs { stages = stages_with (slice_get (waiting cs.answers conn) 0) conn now cs.stages; answers = popped_at cs.answers conn }

-- a connection pinged at this moment, where one was due
abbrev pub pinged_with : Bool → ℕ → ℕ → Connections → Connections
pinged_with true conn now cs = record cs { stages = insert_entry nat_cmp cs.stages conn (stage.Running now) }
pinged_with false conn now cs = cs

-- ---- what waits for the quotas of a connection

-- an item more is held for a connection, as the put of this entry at this place
abbrev pub held_with : ℕ → ℕ → ℕ → ℕ → Item → Connections → Connections
held_with entry place n conn i cs =
    record cs { held = pushed_at cs.held conn (record { entry = entry; place = place; queue = queue.Held n conn; item = i }) }

-- the oldest that is held for a connection, less
abbrev pub without_held : ℕ → Connections → Connections
without_held conn cs = record cs { held = popped_at cs.held conn }

-- ---- the quota of the pings of a connection

abbrev pub ping_passes : Option Connection → ℕ → Bool
ping_passes None now = false
ping_passes (Some c) now = is_ok (rate_answer c.pings now)

-- whether a connection admits one more ping at a moment
abbrev pub may_ping : Connections → ℕ → ℕ → Bool
may_ping cs conn now = ping_passes (at cs.spawned conn) now

abbrev pub metered : ℕ → Connection → Connection
metered now c = record c { pings = after_rate c.pings now }

abbrev pub metered_on : Option Connection → ℕ → ℕ → List (ℕ × Connection) → List (ℕ × Connection)
metered_on None conn now m = m
metered_on (Some c) conn now m = set_value (is_at (nat_cmp conn)) m (metered now c)

-- the connections once that was asked
abbrev pub ping_metered : ℕ → ℕ → Connections → Connections
ping_metered conn now cs = record cs { spawned = metered_on (at cs.spawned conn) conn now cs.spawned }
