-- The form of a node's configuration.
use Prim.Native.String.{String as Name}
use Rattle.std.specs.Prelude.{◌-◌, ◌^◌, List, [], ◌∷◌, Option, Some}
use Rattle.serde_json.specs.Data.{Data}
use Rattle.serde_json.specs.Find.{as_bool}
use Rattle.p2p_log.specs.declared.config.Config.{Config}
use Rattle.p2p_sim_script.specs.Tree.{◌>>=◌, ◌>>◌, absent_or, field, only, whole, within}
use Rattle.p2p_sim_script.specs.Parts.{key_of, rate_of}
use Rattle.p2p_sim_script.specs.Presets.{preset_of, preset_config}

abbrev pub names : List Name
names =
    "key" ∷ "preset" ∷ "max_peers_per_set" ∷ "max_message_size" ∷ "mailbox_size"
    ∷ "tracked_peer_sets" ∷ "send_batch_size" ∷ "ping_frequency" ∷ "allow_private_ips" ∷ "allow_dns" ∷ "bypass_ip_check"
    ∷ "peer_connection_cooldown" ∷ "block_duration"
    ∷ "max_concurrent_handshakes" ∷ "allowed_handshake_rate_per_ip" ∷ "allowed_handshake_rate_per_subnet"
    ∷ "handshake_timeout" ∷ "dial_timeout" ∷ "dial_frequency" ∷ []

-- what has to be there, and all else as the preset gives it
abbrev pub named_of : Data → Option Config
named_of d = do
  key ← field "key" key_of d
  preset ← field "preset" preset_of d
  peers ← field "max_peers_per_set" (within 1 (2 ^ 64 - 1)) d
  bytes ← field "max_message_size" (within 0 (2 ^ 32 - 1)) d
  messages ← field "mailbox_size" (within 1 (2 ^ 64 - 1)) d
  Some (preset_config preset key peers bytes messages)

-- this configuration with what is said of peer sets, batches, pings, addresses and blocks, where it is said
abbrev pub with_peers : Config → Data → Option Config
with_peers base d = do
  sets ← absent_or base.tracked_peer_sets "tracked_peer_sets" (within 1 (2 ^ 64 - 1)) d
  batch ← absent_or base.send_batch_size "send_batch_size" (within 1 (2 ^ 64 - 1)) d
  ping ← absent_or base.ping_frequency "ping_frequency" whole d
  private ← absent_or base.allow_private_ips "allow_private_ips" as_bool d
  dns ← absent_or base.allow_dns "allow_dns" as_bool d
  bypass ← absent_or base.bypass_ip_check "bypass_ip_check" as_bool d
  cooldown ← absent_or base.peer_connection_cooldown "peer_connection_cooldown" whole d
  block ← absent_or base.block_duration "block_duration" whole d
  Some (record base {
    tracked_peer_sets = sets;
    send_batch_size = batch;
    ping_frequency = ping;
    allow_private_ips = private;
    allow_dns = dns;
    bypass_ip_check = bypass;
    peer_connection_cooldown = cooldown;
    block_duration = block;
  })

-- this configuration with what is said of dials and handshakes, where it is said
abbrev pub with_dials : Config → Data → Option Config
with_dials base d = do
  handshakes ← absent_or base.max_concurrent_handshakes "max_concurrent_handshakes" (within 1 (2 ^ 32 - 1)) d
  ip ← absent_or base.allowed_handshake_rate_per_ip "allowed_handshake_rate_per_ip" rate_of d
  subnet ← absent_or base.allowed_handshake_rate_per_subnet "allowed_handshake_rate_per_subnet" rate_of d
  handshake ← absent_or base.handshake_timeout "handshake_timeout" whole d
  dial ← absent_or base.dial_timeout "dial_timeout" whole d
  frequency ← absent_or base.dial_frequency "dial_frequency" whole d
  Some (record base {
    max_concurrent_handshakes = handshakes;
    allowed_handshake_rate_per_ip = ip;
    allowed_handshake_rate_per_subnet = subnet;
    handshake_timeout = handshake;
    dial_timeout = dial;
    dial_frequency = frequency;
  })

-- what may be absent the preset gives
abbrev pub config_of : Data → Option Config
config_of d = do
  only names d
  named ← named_of d
  config ← with_peers named d
  with_dials config d
