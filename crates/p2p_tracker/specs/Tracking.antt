-- A tracker as contracts see it.
use Rattle.std.specs.Prelude.{ℕ, Bool, false, List, []}
use Rattle.p2p_tracker_calls.specs.Rules.{Rules, rules_of}
use Rattle.p2p_tracker_directory.specs.Stands.{Kept}
use Rattle.p2p_tracker.specs.declared.config.Config.{Config}

-- its directory, the nanoseconds between two grants of a peer, the subscriptions to peer sets and those to the blocked keys, in order,
-- the connection that is kept for each key, and whether it has failed
pub record Tracking (P : Type 0) : Type 0 where
  pub directory : Kept P
  pub cooldown : ℕ
  pub updates : List ℕ
  pub sets : List ℕ
  pub controls : List (P × ℕ)
  pub has_failed : Bool

-- a new tracker with this directory
abbrev pub new_tracking : {P : Type 0} → Kept P → ℕ → Tracking P
new_tracking d cooldown = record { directory = d; cooldown = cooldown; updates = []; sets = []; controls = []; has_failed = false }

-- the rules of its directory
abbrev pub rules_for : {P : Type 0} → Config P → Rules P
rules_for cfg = rules_of cfg.public_key (record {
  allow_private_ips = cfg.allow_private_ips;
  allow_dns = cfg.allow_dns;
  bypass_ip_check = cfg.bypass_ip_check;
  max_sets = cfg.tracked_peer_sets;
  peer_connection_cooldown = cfg.peer_connection_cooldown;
  block_duration = cfg.block_duration;
})
