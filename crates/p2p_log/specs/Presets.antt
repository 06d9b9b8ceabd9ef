-- What the presets of a configuration give.
use Rattle.std.specs.Prelude.{ℕ, true, false}
use Rattle.p2p_base.specs.declared.key.Key.{Key}
use Rattle.p2p_log.specs.declared.config.Config.{Config}

-- for peers anywhere; times are in nanoseconds, and a preset leaves open the key and three sizes
abbrev pub recommended : Key → ℕ → ℕ → ℕ → Config
recommended key peers bytes messages = record {
  public_key = key;
  max_peers_per_set = peers;
  max_message_size = bytes;
  mailbox_size = messages;
  tracked_peer_sets = 4;
  send_batch_size = 8;
  ping_frequency = 50000000000;
  allow_private_ips = false;
  allow_dns = true;
  bypass_ip_check = false;
  peer_connection_cooldown = 60000000000;
  block_duration = 14400000000000;
  max_concurrent_handshakes = 512;
  allowed_handshake_rate_per_ip = record { burst = 1; period = 5000000000 };
  allowed_handshake_rate_per_subnet = record { burst = 64; period = 15625000 };
  handshake_timeout = 5000000000;
  dial_timeout = 15000000000;
  dial_frequency = 1000000000;
}

-- for peers that are near
abbrev pub local : Key → ℕ → ℕ → ℕ → Config
local key peers bytes messages = record {
  public_key = key;
  max_peers_per_set = peers;
  max_message_size = bytes;
  mailbox_size = messages;
  tracked_peer_sets = 4;
  send_batch_size = 8;
  ping_frequency = 5000000000;
  allow_private_ips = true;
  allow_dns = true;
  bypass_ip_check = false;
  peer_connection_cooldown = 1000000000;
  block_duration = 3600000000000;
  max_concurrent_handshakes = 1024;
  allowed_handshake_rate_per_ip = record { burst = 16; period = 62500000 };
  allowed_handshake_rate_per_subnet = record { burst = 128; period = 7812500 };
  handshake_timeout = 5000000000;
  dial_timeout = 15000000000;
  dial_frequency = 500000000;
}
