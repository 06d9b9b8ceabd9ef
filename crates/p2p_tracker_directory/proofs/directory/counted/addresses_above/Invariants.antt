use Rattle.std.proofs.Common.{◌≡◌, ℕ, ◌++◌, ◌&&◌, ◌||◌}
use Rattle.std.specs.Prelude.{nat_lt}
use Rattle.std.specs.List.{filter}
use Rattle.std.specs.Map.{keys_of}
use Rattle.p2p_address.specs.Addresses.{is_global}
use Rattle.p2p_address.specs.declared.ip.IpAddr.{IpAddr}
use Rattle.p2p_tracker_calls.specs.Heard.{ip_cmp}
use Rattle.p2p_tracker_directory.specs.Indexed.{Tallies}
use Rattle.p2p_tracker_directory.proofs.directory.counted.addresses_above.Given as goal

abbrev pub invariant-loop-ip : goal.invariant-loop-ip
invariant-loop-ip l =
    (n : IpAddr → ℕ) → Tallies ip_cmp l.off.entries n
    → l.found.items ++ keys_of (filter (λ e. nat_lt (n e.0) e.1 && (l.private || is_global e.0)) l.ip-iterator)
    ≡ keys_of (filter (λ e. nat_lt (n e.0) e.1 && (l.private || is_global e.0)) l.counts.entries)
