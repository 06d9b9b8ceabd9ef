-- What the presets of a configuration give.
use Rattle.std.specs.Prelude.{ℕ, true, false, List}
use Rattle.p2p_address.specs.declared.ip.SocketAddr.{SocketAddr}
use Rattle.p2p_runtime.specs.QuotaLaw.{rate_of}
use Rattle.p2p_lookup.specs.declared.config.Config.{Config}

-- times are in nanoseconds, and a preset leaves open who and where the node is, and three sizes
module _ {P : Type 0} where
  -- for peers anywhere
  abbrev pub recommended : P → List ℕ → SocketAddr → ℕ → ℕ → ℕ → Config P
  recommended key namespace listen peers bytes messages = record {
    public_key = key;
    namespace = namespace;
    listen = listen;
    allow_private_ips = false;
    allow_dns = true;
    bypass_ip_check = false;
    max_message_size = bytes;
    max_peers_per_set = peers;
    mailbox_size = messages;
    send_batch_size = 8;
    handshake_timeout = 5000000000;
    dial_timeout = 15000000000;
    peer_connection_cooldown = 60000000000;
    max_concurrent_handshakes = 512;
    allowed_handshake_rate_per_ip = rate_of 1 5000000000;
    allowed_handshake_rate_per_subnet = rate_of 64 15625000;
    ping_frequency = 50000000000;
    dial_frequency = 1000000000;
    tracked_peer_sets = 4;
    block_duration = 14400000000000;
  }

  -- for peers that are near
  abbrev pub local : P → List ℕ → SocketAddr → ℕ → ℕ → ℕ → Config P
  local key namespace listen peers bytes messages = record {
    public_key = key;
    namespace = namespace;
    listen = listen;
    allow_private_ips = true;
    allow_dns = true;
    bypass_ip_check = false;
    max_message_size = bytes;
    max_peers_per_set = peers;
    mailbox_size = messages;
    send_batch_size = 8;
    handshake_timeout = 5000000000;
    dial_timeout = 15000000000;
    peer_connection_cooldown = 1000000000;
    max_concurrent_handshakes = 1024;
    allowed_handshake_rate_per_ip = rate_of 16 62500000;
    allowed_handshake_rate_per_subnet = rate_of 128 7812500;
    ping_frequency = 5000000000;
    dial_frequency = 500000000;
    tracked_peer_sets = 4;
    block_duration = 3600000000000;
  }
