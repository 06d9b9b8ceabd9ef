-- How large what a node keeps is, and whether a node can be made of a configuration.
use Rattle.std.specs.Prelude.{ℕ, ◌*◌, ◌^◌, Bool, ◌&&◌, nat_lt}
use Rattle.p2p_peer_shared.specs.Sizing.{sizes_fit}
use Rattle.p2p_peer_shared.specs.declared.network.sizes.Sizes.{Sizes}
use Rattle.p2p_lookup.specs.declared.config.Config.{Config}

module _ {P : Type 0} where
  -- how many peers are retained at most
  abbrev pub max_retained : Config P → ℕ
  max_retained c = c.max_peers_per_set * c.tracked_peer_sets

  -- its sizes and counts
  abbrev pub sizes_of : Config P → Sizes
  sizes_of c = record {
    max_peers_per_set = c.max_peers_per_set;
    mailbox_size = c.mailbox_size;
    tracked_peer_sets = c.tracked_peer_sets;
    send_batch_size = c.send_batch_size;
    max_concurrent_handshakes = c.max_concurrent_handshakes;
    max_message_size = c.max_message_size;
  }

  -- they fit, and the retained peers can be counted
  abbrev pub fits : Config P → Bool
  fits c = sizes_fit (sizes_of c) && nat_lt (max_retained c) (2 ^ 64)
