-- What stands of a node's tracker, by the log: the calls of its directory, and who subscribed.
use Rattle.std.specs.Prelude.{ℕ, false, ◌==◌, cond, List, [], ◌∷◌, map, flat_map, reverse, Some, None, slice_get}
use Rattle.p2p_address.specs.declared.peer.Address.{Address}
use Rattle.p2p_base.specs.declared.key.Key.{Key}
use Rattle.p2p_tracker_calls.specs.declared.call.Call.{Call}
use Rattle.p2p_tracker_calls.specs.declared.call.Call.TheVariants as call
use Rattle.p2p_tracker_calls.specs.Jitter.{jitter_of}
use Rattle.p2p_tracker_calls.specs.Rules.{Rules}
use Rattle.p2p_log.specs.declared.config.Config.{Config}
use Rattle.p2p_log.specs.declared.entry.Entry.{Entry}
use Rattle.p2p_log_rules.specs.Tellings.{Telling}
use Rattle.p2p_log_rules.specs.Tellings as telling
use Rattle.p2p_log_rules.specs.Told.{told}
pub use Rattle.p2p_log_rules.specs.Quotas.{key_cmp}
pub use Rattle.p2p_log_rules.specs.Tracked.{asked_by, grants_peer}

-- what a node's tracker is made with
abbrev pub tracker_rules_of : Config → Rules Key
tracker_rules_of c = record {
  local = c.public_key;
  max_sets = c.tracked_peer_sets;
  cooldown = c.peer_connection_cooldown;
  block_duration = c.block_duration;
  private = c.allow_private_ips;
  dns = c.allow_dns;
  bypass = c.bypass_ip_check;
}

abbrev pub no_rules : Rules Key
no_rules = record { local = record { 0 = 0 }; max_sets = 0; cooldown = 0; block_duration = 0; private = false; dns = false; bypass = false }

abbrev pub rules_at : List Config → ℕ → Rules Key
rules_at configs n = elim (slice_get configs n) [ None ↦ no_rules | Some c ↦ tracker_rules_of c ]

-- ---- the calls of its directory

-- what a telling calls at a node's tracker, whose jitters are drawn by this cooldown: a call, or one for each key in their order
abbrev pub called : ℕ → ℕ → Telling → List (Call Key)
called cooldown n (telling.blocks_ended m at) = cond (m == n) (call.UnblockExpired at ∷ []) []
called cooldown n (telling.set_asked m index primary secondary) = cond (m == n) (call.Track index primary secondary ∷ []) []
called cooldown n (telling.addresses_asked m peers) = cond (m == n) (map (λ (p : Key × Address). call.Overwrite p.0 p.1) peers) []
called cooldown n (telling.block_asked m at key) = cond (m == n) (call.Block key at ∷ []) []
called cooldown n (telling.connection_heard m at conn key) = cond (m == n) (call.Connect key (Some at) conn ∷ []) []
called cooldown n (telling.dial_weighed m at seed key granted) = cond (m == n) (call.Dial key at (jitter_of cooldown seed) granted ∷ []) []
called cooldown n (telling.listen_weighed m at seed key granted) = cond (m == n) (call.Listen key at (jitter_of cooldown seed) granted ∷ []) []
called cooldown n (telling.release_heard m key) = cond (m == n) (call.Release key ∷ []) []
called cooldown n _ = []

-- the calls of the directory of a node's tracker, the newest first
unfoldable pub calls_of : List Config → List Entry → ℕ → List (Call Key)
calls_of configs log n = reverse (flat_map (called (rules_at configs n).cooldown n) (told log))

-- ---- who subscribed, in the order in which the tracker took it

abbrev pub wants_sets : ℕ → Telling → List ℕ
wants_sets n (telling.sets_wanted m e) = cond (m == n) (e ∷ []) []
wants_sets n _ = []

abbrev pub wants_blocks : ℕ → Telling → List ℕ
wants_blocks n (telling.blocks_wanted m e) = cond (m == n) (e ∷ []) []
wants_blocks n _ = []

-- the subscriptions to peer sets
unfoldable pub update_subscriptions : List Entry → ℕ → List ℕ
update_subscriptions log n = flat_map (wants_sets n) (told log)

-- the subscriptions to the blocked keys
unfoldable pub blocked_subscriptions : List Entry → ℕ → List ℕ
blocked_subscriptions log n = flat_map (wants_blocks n) (told log)
