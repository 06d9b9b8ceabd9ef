-- What a step of a listener comes to, whatever its gates go by.
use Rattle.std.specs.Prelude.{◌≡◌, ℕ, ◌<◌, true, slice_get}
use Rattle.p2p_tracker_mailbox.specs.declared.mailbox.Mailbox.{Mailbox}
use Rattle.p2p_tracker_calls.specs.Gates.{Known}
use Rattle.p2p_gates.specs.Counting.{Counts, CountsFrom, CountsOldest}
use Rattle.p2p_gates.specs.Gates.{reply_to}
use Rattle.p2p_gates.specs.Listening.{Listening, StandsFor, with_rest}
use Rattle.p2p_gates.specs.ListenerTurns.{ListenerTurn, begins, passed_turn, receive_turn, listener_turn}
use Rattle.p2p_gates.specs.Quotas.{Quotas, KeepsRates}
use Rattle.p2p_gates.specs.declared.arrival.Arrival.{Arrival}
use Rattle.p2p_gates.specs.declared.stepped.Stepped.{Stepped}

module _ {P : Type 0} where
  -- a step made this turn, and its listener stands for what the gates go by then
  pub record IsTurned (t : ListenerTurn P) (s : Stepped P) (new : Listening P) (left : Mailbox P) : Type 0 where
    pub answer : s ≡ t.stepped
    pub stands : StandsFor new t.known
    pub arrivals : new.arrivals ≡ t.arrivals
    pub places : new.places ≡ t.places
    pub way : left ≡ t.way

  -- a step made the turn of whatever its gates go by, and its quotas count what `CountsTo` says. A handshake that it began
  -- has a place, and the quotas allow what they allowed
  pub record StepsBy (turn : Known → ListenerTurn P) (CountsTo : Quotas → Type 0) (l : Listening P) (s : Stepped P)
      (new : Listening P) (left : Mailbox P) : Type 0 where
    pub turned : (k : Known) → StandsFor l k → IsTurned (turn k) s new left
    pub placed : begins s ≡ true → 0 < new.places.held
    pub rest : new ≡ with_rest l new
    pub rates : KeepsRates l.quotas new.quotas
    pub quotas : CountsTo new.quotas

module _ {P : Type 0} (l : Listening P) (m : Mailbox P) (name now : ℕ) where
  -- an arrival was taken through the gates that waits no more
  abbrev pub Passes : Arrival P → Stepped P → Listening P → Mailbox P → Type 0
  Passes a = StepsBy (λ k. passed_turn l k m name now (reply_to l k a.from.ip now) a) (λ q. CountsFrom l q a.from.ip) l

  -- the oldest arrival was, if there is one
  abbrev pub Receives : Stepped P → Listening P → Mailbox P → Type 0
  Receives = StepsBy (λ k. receive_turn l k m name now) (λ q. CountsOldest l q (slice_get l.arrivals 0)) l

  -- what a step comes to
  abbrev pub IsStepOf : Stepped P → Listening P → Mailbox P → Type 0
  IsStepOf = StepsBy (λ k. listener_turn l k m name now) (λ q. Counts l m q) l
