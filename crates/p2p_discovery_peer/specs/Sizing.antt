-- How large what a node keeps is, and whether a node can be made of a configuration.
use Rattle.std.specs.Prelude.{ℕ, ◌+◌, ◌*◌, ◌^◌, Bool, ◌&&◌, ◌||◌, cond, nat_le, nat_lt, List, [], ◌∷◌}
use Rattle.std.specs.List.{list_any}
use Rattle.std.specs.BTreeMap.{is_at}
use Rattle.std.specs.declared.cmp.Ordering.{Ordering}
use Rattle.p2p_address.specs.declared.peer.Ingress.{Ingress}
use Rattle.p2p_discovery.specs.GossipSize.{gossip_size}
use Rattle.p2p_peer_shared.specs.Sizing.{sizes_fit}
use Rattle.p2p_peer_shared.specs.declared.network.sizes.Sizes.{Sizes}
use Rattle.p2p_discovery_peer.specs.declared.config.Config.{Config}

module _ {P : Type 0} (cmp : P → P → Ordering) where
  -- the key is of one of these bootstrappers
  abbrev pub recurs : P → List (P × Ingress) → Bool
  recurs k bs = list_any (λ b. is_at (cmp k) b.0) bs

  -- the key is the own one, or of one of these
  abbrev pub is_met : P → P → List (P × Ingress) → Bool
  is_met own k bs = is_at (cmp own) k || recurs k bs

  -- how often the key of one counts, which these follow: of equal keys the last counts
  abbrev pub times_counted : P → P → List (P × Ingress) → ℕ
  times_counted own k bs = cond (is_met own k bs) 0 1

  -- how many keys these bootstrappers have, the own one left out
  abbrev pub remote_count : P → List (P × Ingress) → ℕ
  remote_count own [] = 0
  remote_count own (b ∷ bs) = times_counted own b.0 bs + remote_count own bs

  -- how many peers are retained at most
  abbrev pub max_retained : Config P → ℕ
  max_retained c = c.max_peers_per_set * c.tracked_peer_sets + remote_count c.public_key c.bootstrappers

-- its sizes and counts
abbrev pub sizes_of : {P : Type 0} → Config P → Sizes
sizes_of c = record {
  max_peers_per_set = c.max_peers_per_set;
  mailbox_size = c.mailbox_size;
  tracked_peer_sets = c.tracked_peer_sets;
  send_batch_size = c.send_batch_size;
  max_concurrent_handshakes = c.max_concurrent_handshakes;
  max_message_size = c.max_message_size;
}

-- they fit, a link takes what peers, whose keys have so many bytes, tell of each other, and the retained peers can be counted
abbrev pub fits : {P : Type 0} → ℕ → (P → P → Ordering) → Config P → Bool
fits size cmp c = sizes_fit (sizes_of c) && (nat_le (gossip_size size c.max_peers_per_set c.peer_gossip_max_count) 16777216 && nat_lt (max_retained cmp c) (2 ^ 64))
