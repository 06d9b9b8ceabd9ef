-- A relay as contracts see it, and what its calls answer and leave.
use Rattle.std.specs.Prelude.{ℕ, Bool, if◌then◌else◌, refl}
use Rattle.std.specs.Coded.{Coded, code_by, coded×}
use Rattle.p2p_base.specs.Queue.{Queue, queue_code, empty_queue, enqueue_answer, enqueued, keeps, closed_queue}
use Rattle.p2p_base.specs.declared.policy.Keep.TheVariants.{Refuse}
use Rattle.p2p_base.specs.declared.outcome.Sent.{Sent}

-- the messages with priority, and those without
pub record Lanes (T : Type 0) : Type 0 where
  pub high : Queue T
  pub low : Queue T

module _ {T : Type 0} where
  abbrev pub lanes_code : Coded T → Coded (Lanes T)
  lanes_code c = code_by (Queue T × Queue T) (coded× (queue_code c) (queue_code c)) (λ l. (l.high, l.low)) (λ p. record { high = p.0; low = p.1 }) (λ _. refl)

  abbrev pub empty_lanes : ℕ → Lanes T
  empty_lanes n = record { high = empty_queue n; low = empty_queue n }

  -- the lane of a message with this priority
  abbrev pub lane : Lanes T → Bool → Queue T
  lane l priority = if priority then l.high else l.low

  -- the lanes with that one replaced
  abbrev pub with_lane : Lanes T → Bool → Queue T → Lanes T
  with_lane l priority q = record { high = if priority then q else l.high; low = if priority then l.low else q }

  -- what `send` answers to a message: a full lane refuses it
  abbrev pub send_answer : Lanes T → T → Bool → Sent T
  send_answer l message priority = enqueue_answer Refuse (lane l priority) message

  -- the relay after `send` of a message
  abbrev pub sent_on : Lanes T → T → Bool → Lanes T
  sent_on l message priority = with_lane l priority (enqueued Refuse (lane l priority) message)

  -- `send` keeps a message
  abbrev pub takes_in : Lanes T → Bool → Bool
  takes_in l priority = keeps Refuse (lane l priority)

  -- the relay once it is closed: it holds nothing
  abbrev pub closed_lanes : Lanes T → Lanes T
  closed_lanes l = record { high = closed_queue l.high; low = closed_queue l.low }
