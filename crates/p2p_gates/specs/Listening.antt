-- A listener as contracts see it.
use Rattle.std.specs.Prelude.{◌≡◌, ℕ, Bool, false, List, [], ◌∷◌, ◌++◌}
use Rattle.p2p_address.specs.declared.ip.IpAddr.{IpAddr}
use Rattle.p2p_runtime.specs.QuotaPlaces.{Places}
use Rattle.p2p_tracker_calls.specs.Gates.{Known, is_registered}
use Rattle.p2p_gates.specs.Quotas as quotas
use Rattle.p2p_gates.specs.Quotas.{Quotas}
use Rattle.p2p_gates.specs.declared.arrival.Arrival.{Arrival}
use Rattle.p2p_gates.specs.declared.config.Config.{Config}

-- whether addresses that aren't global may connect, and those that aren't registered; how long a handshake waits; the
-- arrivals that wait, the oldest first; the registered addresses, in order; the quotas; the places of handshakes; and
-- whether a step of it has failed
pub record Listening (P : Type 0) : Type 0 where
  pub allow_private_ips : Bool
  pub bypass_ip_check : Bool
  pub handshake_timeout : ℕ
  pub arrivals : List (Arrival P)
  pub registered : List IpAddr
  pub quotas : Quotas
  pub places : Places
  pub has_failed : Bool

-- a new listener, with these quotas
abbrev pub new_listener : {P : Type 0} → Config → Quotas → Listening P
new_listener cfg q = record {
  allow_private_ips = cfg.allow_private_ips;
  bypass_ip_check = cfg.bypass_ip_check;
  handshake_timeout = cfg.handshake_timeout;
  arrivals = [];
  registered = [];
  quotas = q;
  places = record { held = 0; max = cfg.max_concurrent_handshakes };
  has_failed = false;
}

-- after an arrival was put last
abbrev pub with_arrival : {P : Type 0} → Listening P → Arrival P → Listening P
with_arrival l a = record l { arrivals = l.arrivals ++ a ∷ [] }

-- what a step leaves as it was, beside what it may change
abbrev pub with_rest : {P : Type 0} → Listening P → Listening P → Listening P
with_rest l new = record l {
  arrivals = new.arrivals;
  registered = new.registered;
  quotas = new.quotas;
  places = new.places;
}

-- a listener stands for what its gates go by
pub record StandsFor {P : Type 0} (l : Listening P) (k : Known) : Type 0 where
  pub addresses : (ip : IpAddr) → is_registered l.registered ip ≡ is_registered k.addresses ip
  pub passed : quotas.StandsFor l.quotas k.passed k.latest
