-- What the parts of a node are told, and what a start makes of what waits for its tracker.
use Rattle.std.specs.Prelude.{◌≡◌, ℕ, Bool, if◌then◌else◌, List, []}
use Rattle.p2p_runtime.specs.QuotaLaw.{Rate}
use Rattle.p2p_flow_senders.specs.Registering.{Registered}
use Rattle.p2p_gates.specs.Listening.{Listening, StandsFor, new_listener}
use Rattle.p2p_gates.specs.declared.config.Config.{Config as GatesConfig}
use Rattle.p2p_lookup.specs.declared.peer.config.Config.{Config as ConnectionConfig}
use Rattle.p2p_tracker.specs.declared.config.Config.{Config as TrackerConfig}
use Rattle.p2p_tracker_calls.specs.Gates.{nothing_known}
use Rattle.p2p_tracker_mailbox.specs.Mailboxes.{closed_mailbox}
use Rattle.p2p_tracker_mailbox.specs.declared.mailbox.Mailbox.{Mailbox}
use Rattle.p2p_lookup.specs.Sizing.{max_retained}
use Rattle.p2p_lookup.specs.declared.config.Config.{Config}
use Rattle.p2p_lookup.specs.declared.network.Network.{Network}

module _ {P : Type 0} where
  -- what its tracker is told
  abbrev pub tracked_by : Config P → TrackerConfig P
  tracked_by c = record {
    public_key = c.public_key;
    mailbox_size = c.mailbox_size;
    max_peers_per_set = c.max_peers_per_set;
    tracked_peer_sets = c.tracked_peer_sets;
    peer_connection_cooldown = c.peer_connection_cooldown;
    allow_private_ips = c.allow_private_ips;
    allow_dns = c.allow_dns;
    bypass_ip_check = c.bypass_ip_check;
    block_duration = c.block_duration;
  }

  -- what its listener and its dialer are told
  abbrev pub gated_by : Config P → GatesConfig
  gated_by c = record {
    allow_private_ips = c.allow_private_ips;
    bypass_ip_check = c.bypass_ip_check;
    max_concurrent_handshakes = c.max_concurrent_handshakes;
    allowed_handshake_rate_per_ip = c.allowed_handshake_rate_per_ip;
    allowed_handshake_rate_per_subnet = c.allowed_handshake_rate_per_subnet;
    handshake_timeout = c.handshake_timeout;
    dial_timeout = c.dial_timeout;
    dial_frequency = c.dial_frequency;
    peer_connection_cooldown = c.peer_connection_cooldown;
  }

  -- what its connections are made with, and these channels
  abbrev pub connections_of : Config P → List (ℕ × Rate) → ConnectionConfig
  connections_of c channels = record {
    channels = channels;
    mailbox_size = c.mailbox_size;
    send_batch_size = c.send_batch_size;
    ping_frequency = c.ping_frequency;
    max_message_size = c.max_message_size;
  }

  -- its channels before the first is registered
  abbrev pub no_channels : Config P → Registered
  no_channels c = record { max_size = c.max_message_size; max_peers = max_retained c; quotas = [] }

  -- what a start makes of what waits for its tracker: a start that doesn't bind ends it
  abbrev pub asked_from : Bool → Mailbox P → Mailbox P
  asked_from bind w = if bind then w else closed_mailbox w

-- a listener that was told this, and of no address yet, and for which nobody has arrived
pub record IsNewListener {P : Type 0} (cfg : GatesConfig) (l : Listening P) : Type 0 where
  pub is : l ≡ new_listener cfg l.quotas
  pub stands : StandsFor l nothing_known
  pub ip_rate : l.quotas.addresses.rate ≡ cfg.allowed_handshake_rate_per_ip
  pub subnet_rate : l.quotas.subnets.rate ≡ cfg.allowed_handshake_rate_per_subnet

-- what no registration changes of a node, nor its start: what it is made of, and its tracker
pub record IsSameNode {P : Type 0} (before after : Network P) : Type 0 where
  pub cfg : after.cfg ≡ before.cfg
  pub tracker : after.tracker ≡ before.tracker
