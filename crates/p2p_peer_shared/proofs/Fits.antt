-- What sizes that fit have.
use Rattle.std.proofs.Common.{◌≡◌, ◌≤◌, true, arith}
use Rattle.std.specs.Prelude.{nat_lt, nat_le, ◌&&◌}
use Rattle.std.proofs.lemmas.Bool.{and_parts}
use Rattle.std.proofs.lemmas.Bool.Decides.{nat_tests}
use Rattle.p2p_peer_shared.specs.Sizing.{sizes_fit}
use Rattle.p2p_peer_shared.specs.declared.network.sizes.Sizes.{Sizes}

module _ (s : Sizes) (fit : sizes_fit s ≡ true) where
  four : ((nat_lt 0 s.max_peers_per_set && nat_lt 0 s.mailbox_size) && (nat_lt 0 s.tracked_peer_sets && nat_lt 0 s.send_batch_size)) ≡ true
  four =
      (and_parts ((nat_lt 0 s.max_peers_per_set && nat_lt 0 s.mailbox_size) && (nat_lt 0 s.tracked_peer_sets && nat_lt 0 s.send_batch_size))
      (nat_lt 0 s.max_concurrent_handshakes && nat_le s.max_message_size 16777200) fit).0

  first_two : (nat_lt 0 s.max_peers_per_set ≡ true) × (nat_lt 0 s.mailbox_size ≡ true)
  first_two =
      and_parts (nat_lt 0 s.max_peers_per_set) (nat_lt 0 s.mailbox_size)
      (and_parts (nat_lt 0 s.max_peers_per_set && nat_lt 0 s.mailbox_size) (nat_lt 0 s.tracked_peer_sets && nat_lt 0 s.send_batch_size) four).0

  last_two : (nat_lt 0 s.tracked_peer_sets ≡ true) × (nat_lt 0 s.send_batch_size ≡ true)
  last_two =
      and_parts (nat_lt 0 s.tracked_peer_sets) (nat_lt 0 s.send_batch_size)
      (and_parts (nat_lt 0 s.max_peers_per_set && nat_lt 0 s.mailbox_size) (nat_lt 0 s.tracked_peer_sets && nat_lt 0 s.send_batch_size) four).1

  pub one_peer : 1 ≤ s.max_peers_per_set
  one_peer = let some = first_two.0 in grind (arith, nat_tests)

  pub one_message : 1 ≤ s.mailbox_size
  one_message = let some = first_two.1 in grind (arith, nat_tests)

  pub one_set : 1 ≤ s.tracked_peer_sets
  one_set = let some = last_two.0 in grind (arith, nat_tests)

  pub one_frame : 1 ≤ s.send_batch_size
  one_frame = let some = last_two.1 in grind (arith, nat_tests)
