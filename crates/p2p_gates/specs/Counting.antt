-- Which arrivals a listener holds against its quotas: the one that its step takes, where no gate before them refuses it.
use Rattle.std.specs.Prelude.{◌≡◌, List, slice_get, Option, Some, None}
use Rattle.p2p_address.specs.declared.ip.IpAddr.{IpAddr}
use Rattle.p2p_tracker_calls.specs.Gates.{turned_away}
use Rattle.p2p_tracker_calls.specs.declared.gates.Reply.{Reply}
use Rattle.p2p_tracker_mailbox.specs.declared.mailbox.Mailbox.{Mailbox}
use Rattle.p2p_gates.specs.Gates.{rules_of}
use Rattle.p2p_gates.specs.Listening.{Listening}
use Rattle.p2p_gates.specs.Quotas.{Quotas, IsCounted}
use Rattle.p2p_gates.specs.declared.arrival.Arrival.{Arrival}

module _ {P : Type 0} (l : Listening P) (new : Quotas) where
  -- by what the first gate before the quotas says of an arrival from this address
  abbrev pub CountsUnless : Option Reply → IpAddr → Type 0
  CountsUnless (Some r) ip = new ≡ l.quotas
  CountsUnless None ip = IsCounted l.quotas new ip

  abbrev pub CountsFrom : IpAddr → Type 0
  CountsFrom ip = CountsUnless (turned_away (rules_of l) l.registered ip) ip

  -- by the oldest arrival, if there is one
  abbrev pub CountsOldest : Option (Arrival P) → Type 0
  CountsOldest (Some a) = CountsFrom a.from.ip
  CountsOldest None = new ≡ l.quotas

  -- by the update that waits, if one does
  abbrev pub CountsAfter : Option (List IpAddr) → Type 0
  CountsAfter (Some addresses) = new ≡ l.quotas
  CountsAfter None = CountsOldest (slice_get l.arrivals 0)

-- the quotas after a step
abbrev pub Counts : {P : Type 0} → Listening P → Mailbox P → Quotas → Type 0
Counts l m new = CountsAfter l new m.heard
