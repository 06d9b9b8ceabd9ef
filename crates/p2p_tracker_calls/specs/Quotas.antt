-- The quotas of addresses and of subnets, and the arrivals that passed them.
use Rattle.std.specs.Prelude.{ℕ, Bool, cond, not, List, []}
use Rattle.p2p_address.specs.Addresses.{subnet_of}
use Rattle.p2p_address.specs.declared.ip.IpAddr.{IpAddr}
use Rattle.p2p_runtime.specs.QuotaKeys.{with_admission}
use Rattle.p2p_runtime.specs.QuotaLaw.{Rate, admits}
use Rattle.p2p_tracker_calls.specs.Heard.{ip_cmp}

-- how often peers may connect from one address, and from one subnet
pub record Rates : Type 0 where
  pub address : Rate
  pub subnet : Rate

-- for each address and each subnet, the moments of the arrivals from it that its quota let pass
pub record Passed : Type 0 where
  pub addresses : IpAddr → List ℕ
  pub subnets : IpAddr → List ℕ

-- none has passed
abbrev pub none_passed : Passed
none_passed = record { addresses = λ ip. []; subnets = λ ip. [] }

-- the quota of an address or of a subnet refuses an arrival at a moment
abbrev pub refuses : Rate → (IpAddr → List ℕ) → IpAddr → ℕ → Bool
refuses rate past ip at = not (admits rate (past ip) at)

-- after an arrival was held against that quota: one that it refuses isn't charged
abbrev pub charged : Rate → (IpAddr → List ℕ) → IpAddr → ℕ → IpAddr → List ℕ
charged rate past ip at = cond (admits rate (past ip) at) (with_admission ip_cmp past ip at) past

-- whether the quota of its address refuses an arrival, and whether that of its subnet does
abbrev pub verdict : Rates → Passed → IpAddr → ℕ → Bool × Bool
verdict rates p ip at = (refuses rates.address p.addresses ip at, refuses rates.subnet p.subnets (subnet_of ip) at)

-- after an arrival was held against both: each is charged where it doesn't refuse, whatever the other does
abbrev pub passed_after : Rates → Passed → IpAddr → ℕ → Passed
passed_after rates p ip at = record {
  addresses = charged rates.address p.addresses ip at;
  subnets = charged rates.subnet p.subnets (subnet_of ip) at;
}
