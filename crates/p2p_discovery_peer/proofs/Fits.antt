-- What a configuration that fits has.
use Rattle.std.proofs.Common.{◌≡◌, ℕ, ◌*◌, ◌^◌, ◌≤◌, true, arith}
use Rattle.std.proofs.Math.Nat.{one-le-mul}
use Rattle.std.specs.Prelude.{nat_lt, nat_le, ◌&&◌}
use Rattle.std.proofs.lemmas.Bool.{and_parts}
use Rattle.std.specs.declared.cmp.Ordering.{Ordering}
use Rattle.p2p_discovery.specs.GossipSize.{gossip_size}
use Rattle.p2p_peer_shared.specs.Sizing.{sizes_fit}
use Rattle.p2p_peer_shared.proofs.Fits.{one_peer, one_set}
use Rattle.p2p_discovery_peer.specs.declared.config.Config.{Config}
use Rattle.p2p_discovery_peer.specs.Sizing.{fits, sizes_of, max_retained}

module _ {P : Type 0} (size : ℕ) (cmp : P → P → Ordering) (c : Config P) (fit : fits size cmp c ≡ true) where
  -- its sizes fit
  pub in_sizes : sizes_fit (sizes_of c) ≡ true
  in_sizes = (and_parts (sizes_fit (sizes_of c)) (nat_le (gossip_size size c.max_peers_per_set c.peer_gossip_max_count) 16777216 && nat_lt (max_retained cmp c) (2 ^ 64)) fit).0

  -- it retains a peer at least
  pub some_peer : 1 ≤ max_retained cmp c
  some_peer =
      let in_sets : 1 ≤ c.max_peers_per_set * c.tracked_peer_sets = one-le-mul (one_peer (sizes_of c) in_sizes) (one_set (sizes_of c) in_sizes) in
      omega (arith)
