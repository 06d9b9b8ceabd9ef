-- A new connection.
use Rattle.std.specs.Prelude.{◌≡◌, ℕ, false, Some, None}
use Rattle.p2p_base.specs.Queue.{empty_queue}
use Rattle.p2p_flow_connection.specs.Intake.{Intake}
use Rattle.p2p_peer_shared.specs.Beginning.{half_rate, IsEmptyInbox}
use Rattle.p2p_discovery_directory.specs.declared.metadata.Metadata.{Metadata}
use Rattle.p2p_discovery_peer.specs.Connection.{Connection}
use Rattle.p2p_discovery_peer.specs.Sparing.{spares_first}
use Rattle.p2p_discovery_peer.specs.declared.peer.config.Config.{Config}
use Rattle.p2p_discovery_peer.specs.declared.peer.config.Limits.{Limits}
use Rattle.p2p_discovery_peer.specs.declared.peer.live.Stage.TheVariants as stage

abbrev pub limits_of : Config → Limits
limits_of cfg = record {
  mailbox_size = cfg.mailbox_size;
  send_batch_size = cfg.send_batch_size;
  gossip_bit_vec_frequency = cfg.gossip_bit_vec_frequency;
  payload = record {
    max_bit_vec = cfg.max_peers_per_set;
    max_peers = cfg.peer_gossip_max_count;
    max_data_length = cfg.max_message_size;
  };
}

-- a connection that hasn't begun, with this number and reservation
pub record IsNew {P : Type 0} (cfg : Config) (conn : ℕ) (reservation : Metadata P) (c : Connection P) : Type 0 where
  pub inbox : Intake P
  pub empty : IsEmptyInbox cfg.channels inbox
  pub is : c ≡ record {
    conn = conn;
    limits = limits_of cfg;
    control = empty_queue cfg.mailbox_size;
    live = Some (record {
      reservation = reservation;
      stage = stage.New;
      is_greeted = false;
      inbox = inbox;
      bit_vecs = spares_first (half_rate cfg.gossip_bit_vec_frequency);
      peers = spares_first (half_rate cfg.gossip_bit_vec_frequency);
      held = None;
    });
    failed = false;
  }
