-- What a node is made with, and what a start makes of what waits for its tracker.
use Rattle.std.specs.Prelude.{◌≡◌, ℕ, Bool, if◌then◌else◌, List, []}
use Rattle.std.specs.declared.cmp.Ordering.{Ordering}
use Rattle.p2p_runtime.specs.QuotaLaw.{Rate}
use Rattle.p2p_discovery.specs.Verifying.{Believed}
use Rattle.p2p_discovery_directory.specs.Asking.{Way, closed_way}
use Rattle.p2p_discovery_directory.specs.declared.tracker.config.Config.{Config as TrackerConfig}
use Rattle.p2p_discovery_peer.specs.declared.network.Network.{Network}
use Rattle.p2p_discovery_peer.specs.Sizing.{max_retained}
use Rattle.p2p_discovery_peer.specs.declared.config.Config.{Config}
use Rattle.p2p_discovery_peer.specs.declared.peer.config.Config.{Config as ConnectionConfig}
use Rattle.p2p_flow_senders.specs.Registering.{Registered}

module _ {P : Type 0} where
  -- which infos a node of this configuration believes
  abbrev pub believed_by : Config P → Believed P
  believed_by c = record { me = c.public_key; max_count = c.peer_gossip_max_count; bound = c.synchrony_bound; namespace = c.namespace }

  -- what its tracker is told
  abbrev pub tracked_by : Config P → TrackerConfig P
  tracked_by c = record {
    public_key = c.public_key;
    namespace = c.namespace;
    dialable = c.dialable;
    mailbox_size = c.mailbox_size;
    max_peers_per_set = c.max_peers_per_set;
    tracked_peer_sets = c.tracked_peer_sets;
    peer_connection_cooldown = c.peer_connection_cooldown;
    peer_gossip_max_count = c.peer_gossip_max_count;
    allow_private_ips = c.allow_private_ips;
    allow_dns = c.allow_dns;
    bypass_ip_check = c.bypass_ip_check;
    block_duration = c.block_duration;
  }

  -- its channels before the first is registered
  abbrev pub no_channels : (P → P → Ordering) → Config P → Registered
  no_channels cmp c = record { max_size = c.max_message_size; max_peers = max_retained cmp c; quotas = [] }

  -- what its connections are made with, and these channels
  abbrev pub connections_of : Config P → List (ℕ × Rate) → ConnectionConfig
  connections_of c channels = record {
    channels = channels;
    mailbox_size = c.mailbox_size;
    send_batch_size = c.send_batch_size;
    gossip_bit_vec_frequency = c.gossip_bit_vec_frequency;
    max_peers_per_set = c.max_peers_per_set;
    peer_gossip_max_count = c.peer_gossip_max_count;
    max_message_size = c.max_message_size;
  }

  -- what a start makes of what waits for its tracker: a start that doesn't bind ends it
  abbrev pub asked_from : Bool → Way P → Way P
  asked_from bind w = if bind then w else closed_way w

-- what no registration changes of a node, nor its start: what it is made of, its tracker, and which infos it believes
pub record IsSameNode {P D : Type 0} (before after : Network P D) : Type 0 where
  pub cfg : after.cfg ≡ before.cfg
  pub tracker : after.tracker ≡ before.tracker
  pub infos : after.infos ≡ before.infos
