-- The spawner, and what its mailbox answers to one who asks for a connection.
use Rattle.std.specs.Prelude.{ℕ, Bool, false}
use Rattle.p2p_base.specs.Queue.{Queue, enqueue_answer, enqueued}
use Rattle.p2p_base.specs.declared.outcome.Sent.{Sent}
use Rattle.p2p_base.specs.declared.outcome.Sent.TheVariants as sent
use Rattle.p2p_base.specs.declared.policy.Keep.TheVariants.{Refuse}
use Rattle.p2p_tracker_directory.specs.Reserved.{peer_of}
use Rattle.p2p_tracker_directory.specs.declared.metadata.Metadata.{Metadata}
use Rattle.p2p_lookup.specs.declared.spawner.message.Message.{Message}
use Rattle.p2p_lookup.specs.declared.spawner.message.Message.TheVariants as message
use Rattle.p2p_lookup.specs.declared.peer.config.Config.{Config}

-- the sizes and quotas of its connections, and whether a step found no memory
pub record Spawner : Type 0 where
  pub cfg : Config
  pub failed : Bool

abbrev pub new_spawner : Config → Spawner
new_spawner cfg = record { cfg = cfg; failed = false }

module _ {P : Type 0} where
  -- the message that asks for a connection over a link
  abbrev pub spawn_of : ℕ → Metadata P → Message P
  spawn_of connection reservation = message.Spawn (peer_of reservation) connection reservation

  abbrev pub reservation_of : Message P → Metadata P
  reservation_of (message.Spawn peer connection reservation) = reservation

  -- a refused reservation is handed back
  abbrev pub handed_back : Sent (Message P) → Sent (Metadata P)
  handed_back sent.Ok = sent.Ok
  handed_back sent.Backoff = sent.Backoff
  handed_back (sent.Rejected m) = sent.Rejected (reservation_of m)
  handed_back (sent.Closed m) = sent.Closed (reservation_of m)

  abbrev pub spawn_answer : Queue (Message P) → ℕ → Metadata P → Sent (Metadata P)
  spawn_answer q connection reservation = handed_back (enqueue_answer Refuse q (spawn_of connection reservation))

  abbrev pub with_spawn : Queue (Message P) → ℕ → Metadata P → Queue (Message P)
  with_spawn q connection reservation = enqueued Refuse q (spawn_of connection reservation)
