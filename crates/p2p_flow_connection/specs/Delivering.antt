-- What becomes of a message that came over a connection: its channel's quota decides, and then its channel's mailbox.
use Rattle.std.specs.Prelude.{◌≡◌, ℕ, max, Bool, true, false, List, [], ◌∷◌, ◌++◌, Option, Some, None, is_ok}
use Rattle.std.specs.BTreeMap.{is_at}
use Rattle.std.specs.Map.{lookup, set_value}
use Rattle.std.specs.Ordering.{nat_cmp}
use Rattle.p2p_base.specs.declared.outcome.Sent.{Sent}
use Rattle.p2p_base.specs.declared.outcome.Sent.TheVariants as sent
use Rattle.p2p_runtime.specs.QuotaLaw.{admits}
use Rattle.p2p_runtime.specs.QuotaKept.{Kept, StandsFor}
use Rattle.p2p_runtime.specs.QuotaCheck.{rate_answer, after_rate}
use Rattle.p2p_wire.specs.declared.frame.Data.{Data}
use Rattle.p2p_flow_connection.specs.Arriving.{Arrived, arrival_answer, with_arrival}
use Rattle.p2p_flow_connection.specs.Intake.{Intake}
use Rattle.p2p_flow_connection.specs.declared.delivered.Delivered.{Delivered}
use Rattle.p2p_flow_connection.specs.declared.delivered.Delivered.TheVariants as delivered

-- ---- the quota of a channel

-- what is kept for a channel, if it has a quota
abbrev pub limiter_in : List (ℕ × Kept) → ℕ → Option Kept
limiter_in limiters channel = lookup (is_at (nat_cmp channel)) limiters

-- whether the quota admits a message at the moment `now`; `None` where there is no quota
abbrev pub verdict_of : Option Kept → ℕ → Option Bool
verdict_of None now = None
verdict_of (Some kept) now = Some (is_ok (rate_answer kept now))

-- what is kept after that
abbrev pub limiter_after : Option Kept → ℕ → Option Kept
limiter_after None now = None
limiter_after (Some kept) now = Some (after_rate kept now)

abbrev pub checked : Option Kept → List (ℕ × Kept) → ℕ → ℕ → List (ℕ × Kept)
checked None limiters channel now = limiters
checked (Some kept) limiters channel now = set_value (is_at (nat_cmp channel)) limiters (after_rate kept now)

-- what is kept for the channels after the check of one
abbrev pub checked_in : List (ℕ × Kept) → ℕ → ℕ → List (ℕ × Kept)
checked_in limiters channel now = checked (limiter_in limiters channel) limiters channel now

-- ---- by the law of a quota

-- what is kept, if there is a quota, stands for the admissions `past`, and for the latest moment
abbrev pub StandsAt : Option Kept → List ℕ → ℕ → Type 0
StandsAt None past latest = Unit {0}
StandsAt (Some kept) past latest = StandsFor kept past latest

-- what the law says of a message at the moment `at`
abbrev pub law_of : Option Kept → List ℕ → ℕ → Option Bool
law_of None past at = None
law_of (Some kept) past at = Some (admits kept.rate past at)

-- the admissions after that: a message that isn't admitted takes no cell
abbrev pub past_after : Option Bool → List ℕ → ℕ → List ℕ
past_after None past at = past
past_after (Some false) past at = past
past_after (Some true) past at = past ++ at ∷ []

-- the law decides, and what is kept then stands for the admissions after that
pub record IsByLaw (before after : Option Kept) (past : List ℕ) (latest now : ℕ) : Type 0 where
  pub verdict : verdict_of before now ≡ law_of before past (max latest now)
  pub stands : StandsAt after (past_after (law_of before past (max latest now)) past (max latest now)) (max latest now)

-- ---- a message

module _ {P : Type 0} where
  -- the message with its sender, as its channel's mailbox takes it
  abbrev pub arrival_of : P → Data → P × List ℕ
  arrival_of from message = (from, message.message)

  abbrev pub delivered_as : Sent (P × List ℕ) → Delivered P
  delivered_as sent.Ok = delivered.Kept
  delivered_as sent.Backoff = delivered.Kept
  delivered_as (sent.Rejected message) = delivered.MailboxFull message
  delivered_as (sent.Closed message) = delivered.Closed message

  -- what is answered, by the quota and by what the mailbox answers
  abbrev pub delivered_by : Option Bool → Sent (P × List ℕ) → Delivered P
  delivered_by None answer = delivered.InvalidChannel
  delivered_by (Some false) answer = delivered.Held
  delivered_by (Some true) answer = delivered_as answer

  -- what is held then
  abbrev pub held_by : Option Bool → P → Data → Option (P × Data)
  held_by None from message = None
  held_by (Some false) from message = Some (from, message)
  held_by (Some true) from message = None

  -- the mailboxes then
  abbrev pub arrived_by : Option Bool → Arrived P → P → Data → Arrived P
  arrived_by None a from message = a
  arrived_by (Some false) a from message = a
  arrived_by (Some true) a from message = with_arrival a message.channel (arrival_of from message)

  -- ---- a message at an inbox

  abbrev pub limiter_of : Intake P → ℕ → Option Kept
  limiter_of i channel = limiter_in i.limiters channel

  abbrev pub verdict_at : Intake P → Data → ℕ → Option Bool
  verdict_at i message now = verdict_of (limiter_of i message.channel) now

  abbrev pub deliver_answer : Intake P → Arrived P → P → Data → ℕ → Delivered P
  deliver_answer i a from message now = delivered_by (verdict_at i message now) (arrival_answer a message.channel (arrival_of from message))

  abbrev pub after_deliver : Intake P → P → Data → ℕ → Intake P
  after_deliver i from message now = record {
    channels = i.channels;
    limiters = checked_in i.limiters message.channel now;
    held = held_by (verdict_at i message now) from message;
  }

  abbrev pub arrived_after : Intake P → Arrived P → P → Data → ℕ → Arrived P
  arrived_after i a from message now = arrived_by (verdict_at i message now) a from message
