-- Whether a node can be made of a configuration.
use Rattle.std.specs.Prelude.{Bool, ◌&&◌, nat_le, nat_lt}
use Rattle.p2p_peer_shared.specs.declared.network.sizes.Sizes.{Sizes}

-- sizes and counts are 1 or more, and a link takes the messages
abbrev pub sizes_fit : Sizes → Bool
sizes_fit s =
    ((nat_lt 0 s.max_peers_per_set && nat_lt 0 s.mailbox_size) && (nat_lt 0 s.tracked_peer_sets && nat_lt 0 s.send_batch_size))
    && (nat_lt 0 s.max_concurrent_handshakes && nat_le s.max_message_size 16777200)
