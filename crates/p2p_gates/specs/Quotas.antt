-- The quotas of addresses and of subnets: what they keep, and the arrivals that it stands for.
use Rattle.std.specs.Prelude.{◌≡◌, ℕ, ◌+◌, ◌<◌, nat_lt, Bool, true, false, cond, IfSome}
use Rattle.std.specs.BTreeMap.{is_at}
use Rattle.p2p_address.specs.Addresses.{subnet_of}
use Rattle.p2p_address.specs.declared.ip.IpAddr.{IpAddr}
use Rattle.p2p_runtime.specs.QuotaKeys.{KeptByKey, StandsForEach, found_arrival}
use Rattle.p2p_tracker_calls.specs.Heard.{ip_cmp}
use Rattle.p2p_tracker_calls.specs.Quotas.{Rates, Passed}

-- what is kept for addresses and for subnets, and how many arrivals were counted since the last pruning
pub record Quotas : Type 0 where
  pub addresses : KeptByKey IpAddr
  pub subnets : KeptByKey IpAddr
  pub counted : ℕ

-- how often peers may connect by them
abbrev pub rates_of : Quotas → Rates
rates_of q = record { address = q.addresses.rate; subnet = q.subnets.rate }

-- what is kept stands for the arrivals that passed, and for the latest moment at which one was asked
pub record StandsFor (q : Quotas) (p : Passed) (latest : ℕ) : Type 0 where
  pub addresses : StandsForEach ip_cmp q.addresses p.addresses latest
  pub subnets : StandsForEach ip_cmp q.subnets p.subnets latest

-- more arrivals were counted than may be, so what no longer matters is forgotten before the next one
abbrev pub is_pruned : ℕ → Bool
is_pruned counted = nat_lt 16384 counted

-- the count after the next arrival
abbrev pub counted_after : ℕ → ℕ
counted_after counted = cond (is_pruned counted) 1 (counted + 1)

-- the quotas allow what they allowed
pub record KeepsRates (old new : Quotas) : Type 0 where
  pub addresses : new.addresses.rate ≡ old.addresses.rate
  pub subnets : new.subnets.rate ≡ old.subnets.rate

-- a quota once an arrival was held against it at this key: of every other key it keeps what it kept, and where it was pruned first, only
-- what still mattered at the latest moment so far
pub record IsHeld (pruned : Bool) (old new : KeptByKey IpAddr) (key : IpAddr) : Type 0 where
  pub stays : pruned ≡ false → (ip : IpAddr) → is_at (ip_cmp key) ip ≡ false
      → found_arrival ip_cmp new ip ≡ found_arrival ip_cmp old ip
  pub matters : pruned ≡ true → (ip : IpAddr) → is_at (ip_cmp key) ip ≡ false
      → IfSome (found_arrival ip_cmp new ip) (λ arrival. old.latest < arrival)

-- an arrival from this address was counted, and held against both quotas
pub record IsCounted (old new : Quotas) (ip : IpAddr) : Type 0 where
  pub counted : new.counted ≡ counted_after old.counted
  pub addresses : IsHeld (is_pruned old.counted) old.addresses new.addresses ip
  pub subnets : IsHeld (is_pruned old.counted) old.subnets new.subnets (subnet_of ip)
