-- What the gates of a listener go by, and what an arrival makes of it.
use Rattle.std.specs.Prelude.{ℕ, Bool, ◌+◌, nat_lt}
use Rattle.p2p_address.specs.declared.ip.IpAddr.{IpAddr}
use Rattle.p2p_runtime.specs.QuotaPlaces.{Places}
use Rattle.p2p_tracker_calls.specs.Gates as gates
use Rattle.p2p_tracker_calls.specs.Gates.{GateRules, Known}
use Rattle.p2p_tracker_calls.specs.declared.gates.Reply.{Reply}
use Rattle.p2p_tracker_calls.specs.declared.gates.Reply.TheVariants as reply
use Rattle.p2p_gates.specs.Listening.{Listening}
use Rattle.p2p_gates.specs.Quotas.{rates_of}

-- a place is free
abbrev pub has_place : Places → Bool
has_place p = nat_lt p.held p.max

-- once a place was taken for an arrival that was told this: one that isn't admitted takes none
abbrev pub places_after : Reply → Places → Places
places_after reply.Admitted p = record { held = p.held + 1; max = p.max }
places_after _ p = p

module _ {P : Type 0} (l : Listening P) where
  -- the rules of its gates
  abbrev pub rules_of : GateRules
  rules_of = record {
    allow_private_ips = l.allow_private_ips;
    bypass_ip_check = l.bypass_ip_check;
    rates = rates_of l.quotas;
  }

module _ {P : Type 0} (l : Listening P) where
  -- what an arrival from this address is told at the moment `now`
  abbrev pub reply_to : Known → IpAddr → ℕ → Reply
  reply_to k ip now = gates.reply_to (rules_of l) k (has_place l.places) ip now

  -- what its gates go by afterwards
  abbrev pub known_after : Known → IpAddr → ℕ → Known
  known_after k ip now = gates.known_after (rules_of l) k ip now
