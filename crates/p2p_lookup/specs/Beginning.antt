-- A new connection.
use Rattle.std.specs.Prelude.{◌≡◌, ℕ, false, Option, Some, None}
use Rattle.p2p_base.specs.Queue.{empty_queue}
use Rattle.p2p_flow_connection.specs.Intake.{Intake}
use Rattle.p2p_flow_connection.specs.Limiting.{fresh}
use Rattle.p2p_peer_shared.specs.Beginning.{half_rate, IsEmptyInbox}
use Rattle.p2p_tracker_directory.specs.declared.metadata.Metadata.{Metadata}
use Rattle.p2p_lookup.specs.Connection.{Connection}
use Rattle.p2p_lookup.specs.declared.peer.config.Config.{Config}
use Rattle.p2p_lookup.specs.declared.peer.config.Limits.{Limits}
use Rattle.p2p_lookup.specs.declared.peer.live.Stage.TheVariants as stage
use Rattle.p2p_lookup.specs.declared.spawner.message.Message.{Message}
use Rattle.p2p_lookup.specs.declared.spawner.message.Message.TheVariants as message
use Rattle.p2p_lookup.specs.declared.spawner.stepped.Stepped.{Stepped}
use Rattle.p2p_lookup.specs.declared.spawner.stepped.Stepped.TheVariants as stepped

abbrev pub limits_of : Config → Limits
limits_of cfg = record {
  mailbox_size = cfg.mailbox_size;
  send_batch_size = cfg.send_batch_size;
  ping_frequency = cfg.ping_frequency;
  max_message_size = cfg.max_message_size;
}

-- a connection that hasn't begun, with this number and reservation
pub record IsNew {P : Type 0} (cfg : Config) (conn : ℕ) (reservation : Metadata P) (c : Connection P) : Type 0 where
  pub inbox : Intake P
  pub empty : IsEmptyInbox cfg.channels inbox
  pub is : c ≡ record {
    conn = conn;
    limits = limits_of cfg;
    control = empty_queue cfg.mailbox_size;
    live = Some (record {
      reservation = reservation;
      stage = stage.New;
      inbox = inbox;
      pings = fresh (half_rate cfg.ping_frequency);
      holds_ping = false;
    });
    failed = false;
  }

-- ---- the spawner

module _ {P : Type 0} (cfg : Config) (name : ℕ) where
  -- a message is answered by a new connection of that name, over the link and for the reservation that it brings
  abbrev pub IsSpawned : Option (Message P) → Stepped P → Type 0
  IsSpawned None stepped.Idle = Unit {0}
  IsSpawned None (stepped.Spawned connection actor) = ⊥
  IsSpawned (Some m) stepped.Idle = ⊥
  IsSpawned (Some (message.Spawn peer connection reservation)) (stepped.Spawned link actor) =
      (link ≡ connection) × IsNew cfg name reservation actor
