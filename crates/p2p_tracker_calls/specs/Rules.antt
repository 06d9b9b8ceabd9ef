-- What a directory is told when it is made.
use Rattle.std.specs.Prelude.{ℕ, Bool}
use Rattle.p2p_tracker_calls.specs.declared.config.Config.{Config}

-- the own key; how many sets are kept; the nanoseconds between two grants of a peer and those of a block; whether private addresses
-- and names may be dialed; and whether the address that a peer dials from is left untested
pub record Rules (P : Type 0) : Type 0 where
  pub local : P
  pub max_sets : ℕ
  pub cooldown : ℕ
  pub block_duration : ℕ
  pub private : Bool
  pub dns : Bool
  pub bypass : Bool

-- the rules of the directory of the node with this key
abbrev pub rules_of : {P : Type 0} → P → Config → Rules P
rules_of local cfg = record {
  local = local;
  max_sets = cfg.max_sets;
  cooldown = cfg.peer_connection_cooldown;
  block_duration = cfg.block_duration;
  private = cfg.allow_private_ips;
  dns = cfg.allow_dns;
  bypass = cfg.bypass_ip_check;
}
