-- The turns of a listener: an update first, and then its oldest arrival.
use Rattle.std.specs.Prelude.{ℕ, Bool, true, false, drop, List, slice_get, Option, Some, None}
use Rattle.p2p_address.specs.declared.ip.IpAddr.{IpAddr}
use Rattle.p2p_runtime.specs.QuotaPlaces.{Places}
use Rattle.p2p_tracker_mailbox.specs.Lines.{begun}
use Rattle.p2p_tracker_mailbox.specs.declared.mailbox.Mailbox.{Mailbox}
use Rattle.p2p_gates.specs.Gates.{reply_to, known_after, places_after}
use Rattle.p2p_gates.specs.Handshaking.{new_handshake}
use Rattle.p2p_tracker_calls.specs.Gates.{Known}
use Rattle.p2p_gates.specs.Listening.{Listening}
use Rattle.p2p_gates.specs.Stepping.{gone_on, with_put}
use Rattle.p2p_gates.specs.declared.arrival.Arrival.{Arrival}
use Rattle.p2p_tracker_calls.specs.declared.gates.Reply.{Reply}
use Rattle.p2p_tracker_calls.specs.declared.gates.Reply.TheVariants as reply
use Rattle.p2p_gates.specs.declared.stepped.Input.TheVariants as input
use Rattle.p2p_gates.specs.declared.stepped.Left.TheVariants as left
use Rattle.p2p_gates.specs.declared.stepped.Outcome.{Outcome}
use Rattle.p2p_gates.specs.declared.stepped.Outcome.TheVariants as outcome
use Rattle.p2p_gates.specs.declared.stepped.Put.{Put}
use Rattle.p2p_gates.specs.declared.stepped.Put.TheVariants as put
use Rattle.p2p_gates.specs.declared.stepped.Stepped.{Stepped}
use Rattle.p2p_gates.specs.declared.stepped.Stepped.TheVariants as stepped

module _ {P : Type 0} where
  -- an admitted arrival asks whether the peer may connect, for its handshake
  abbrev pub asks_for : ℕ → Arrival P → Put P
  asks_for name a = put.Acceptable a.key a.from.ip name

  -- what a step answers that took an arrival over this link, which a gate refuses for this reason
  abbrev pub refused_over : ℕ → Reply → Stepped P
  refused_over link r = stepped.Served input.Arrival None left.Nothing (outcome.Refused link r)

  -- what a step answers that took an arrival, which was told this
  abbrev pub stepped_by : Reply → ℕ → Arrival P → ℕ → ℕ → Stepped P
  stepped_by reply.Admitted name a timeout now = stepped.Served input.Arrival (Some (asks_for name a)) left.Nothing
      (outcome.Admitted (new_handshake name a timeout now))
  stepped_by r name a timeout now = refused_over a.link r

  -- the mailbox after that: the handshake of an admitted arrival has begun, and its question is put
  abbrev pub way_by : Reply → ℕ → Arrival P → Mailbox P → Mailbox P
  way_by reply.Admitted name a m = with_put (asks_for name a) (record m { handshakes = begun m.handshakes name })
  way_by r name a m = m

module _ {P : Type 0} where
  -- a handshake begins
  abbrev pub is_admitted : Outcome P → Bool
  is_admitted (outcome.Admitted h) = true
  is_admitted _ = false

  -- a step began a handshake
  abbrev pub begins : Stepped P → Bool
  begins stepped.Idle = false
  begins (stepped.Served took p dropped o) = is_admitted o

-- a turn of a listener: what its step answers, the arrivals that still wait, the places of handshakes, what its gates
-- go by, and the tracker's mailbox then
pub record ListenerTurn (P : Type 0) : Type 0 where
  pub stepped : Stepped P
  pub arrivals : List (Arrival P)
  pub places : Places
  pub known : Known
  pub way : Mailbox P

module _ {P : Type 0} (l : Listening P) (k : Known) (m : Mailbox P) (name now : ℕ) where
  -- an arrival that waits no more is told this
  abbrev pub passed_turn : Reply → Arrival P → ListenerTurn P
  passed_turn r a = record {
    stepped = stepped_by r name a l.handshake_timeout now;
    arrivals = l.arrivals;
    places = places_after r l.places;
    known = known_after l k a.from.ip now;
    way = way_by r name a m;
  }

  -- an arrival was taken, which is told this
  abbrev pub arrival_turn : Reply → Arrival P → ListenerTurn P
  arrival_turn r a = record (passed_turn r a) { arrivals = drop 1 l.arrivals }

  -- the oldest arrival is taken, if there is one
  abbrev pub line_turn : Option (Arrival P) → ListenerTurn P
  line_turn (Some a) = arrival_turn (reply_to l k a.from.ip now) a
  line_turn None = record { stepped = stepped.Idle; arrivals = l.arrivals; places = l.places; known = k; way = m }

  -- the turn where no update waits
  abbrev pub receive_turn : ListenerTurn P
  receive_turn = line_turn (slice_get l.arrivals 0)

  -- an update is taken, if one waits
  abbrev pub update_turn : Option (List IpAddr) → ListenerTurn P
  update_turn (Some addresses) = record {
    stepped = gone_on input.Update None;
    arrivals = l.arrivals;
    places = l.places;
    known = record k { addresses = addresses };
    way = record m { heard = None };
  }
  update_turn None = receive_turn

-- the turn of a listener at the moment `now`
abbrev pub listener_turn : {P : Type 0} → Listening P → Known → Mailbox P → ℕ → ℕ → ListenerTurn P
listener_turn l k m name now = update_turn l k m name now m.heard
