-- What is sent on a subchannel.
use Rattle.std.specs.Prelude.{ℕ, List, ◌++◌, Option, Some, None, Result, Ok, Err}
use Rattle.p2p_base.specs.declared.outcome.Unreliable.{Unreliable}
use Rattle.p2p_base.specs.declared.outcome.Unreliable.TheVariants.{Rejected}
use Rattle.p2p_flow_senders.specs.declared.send_error.SendError.{SendError}
use Rattle.p2p_flow_senders.specs.declared.send_error.SendError.TheVariants as send_error
use Rattle.p2p_wire.specs.Varint.{spelling}

-- a sender's name on a subchannel
pub record OnSubchannel (S : Type 0) : Type 0 where
  pub sender : S
  pub subchannel : ℕ

-- what a check gave, and the subchannel that a message for these goes on, if it was set
pub record Chosen (C : Type 0) : Type 0 where
  pub subchannel : Option ℕ
  pub checked : C

-- a payload on a subchannel: its prefix, and then the payload
abbrev pub prefixed : ℕ → List ℕ → List ℕ
prefixed s payload = spelling s ++ payload

-- why a message is refused, by its subchannel and by why the wrapped sender refuses what it is handed
abbrev pub refusal_on : Option ℕ → (List ℕ → Option SendError) → List ℕ → Option SendError
refusal_on None refusal message = Some send_error.NoSubchannel
refusal_on (Some s) refusal message = refusal (prefixed s message)

-- what is handed on of a message, by its subchannel and by what the wrapped sender hands on
abbrev pub content_on : Option ℕ → (List ℕ → List ℕ) → List ℕ → List ℕ
content_on None content message = content message
content_on (Some s) content message = content (prefixed s message)

-- what a send answers, by its check and by what is told of its content
abbrev pub outcome_by : {K : Type 0} → (List K → Unreliable) → Result (List K) ℕ → Unreliable
outcome_by told (Ok keys) = told keys
outcome_by told (Err at) = Rejected
