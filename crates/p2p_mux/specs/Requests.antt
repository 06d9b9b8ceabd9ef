-- Requests to register subchannels, and what their answers are.
use Rattle.std.specs.Prelude.{ℕ, Bool, true, false, List, Option, Some, None, Result, Ok, Err, slice_get, slice_set}
use Rattle.p2p_flow.specs.declared.plain.Polled.{Polled}
use Rattle.p2p_flow.specs.declared.plain.Polled.TheVariants as polled
use Rattle.p2p_mux.specs.declared.error.Error.{Error}
use Rattle.p2p_mux.specs.declared.error.Error.TheVariants as error
use Rattle.p2p_mux.specs.declared.request.Answer.{Answer}
use Rattle.p2p_mux.specs.declared.request.Answer.TheVariants as answer
use Rattle.p2p_mux.specs.declared.request.Request.{Request}

-- what became of a request; one that was never made has no answer to give
abbrev pub answer_of : Option Request → Answer
answer_of None = answer.Taken
answer_of (Some r) = r.answer

-- it has an answer to give, now or later
abbrev pub is_open : Answer → Bool
is_open answer.Awaited = true
is_open answer.Registered = true
is_open answer.Refused = true
is_open answer.Taken = false

abbrev pub made_by : Answer → ℕ → Option ℕ
made_by answer.Registered subchannel = Some subchannel
made_by answer.Awaited subchannel = None
made_by answer.Refused subchannel = None
made_by answer.Taken subchannel = None

-- the subchannel whose route a request made, if it made one whose answer wasn't taken
abbrev pub route_made : Option Request → Option ℕ
route_made None = None
route_made (Some r) = made_by r.answer r.subchannel

abbrev pub answered : Option Request → List Request → ℕ → Answer → List Request
answered None requests n a = requests
answered (Some r) requests n a = slice_set requests n (record { subchannel = r.subchannel; answer = a })

-- the requests once this became of the one of a number
abbrev pub with_answer : List Request → ℕ → Answer → List Request
with_answer requests n a = answered (slice_get requests n) requests n a

-- what asking for the answer gives: the subchannel, if it was registered; whether the muxer has ended decides of a
-- request that it didn't take
abbrev pub answer_given : Bool → Answer → ℕ → Result (Polled ℕ) Error
answer_given has_ended answer.Registered subchannel = Ok (polled.Ready subchannel)
answer_given has_ended answer.Refused subchannel = Err (error.AlreadyRegistered subchannel)
answer_given true answer.Awaited subchannel = Err error.Closed
answer_given false answer.Awaited subchannel = Ok polled.Pending
answer_given has_ended answer.Taken subchannel = Ok polled.Pending

abbrev pub given_answer : Bool → Option Request → Result (Polled ℕ) Error
given_answer has_ended None = Ok polled.Pending
given_answer has_ended (Some r) = answer_given has_ended r.answer r.subchannel

-- what became of the request once its answer was asked for
abbrev pub answer_left : Bool → Answer → Answer
answer_left true a = answer.Taken
answer_left false answer.Awaited = answer.Awaited
answer_left false answer.Registered = answer.Taken
answer_left false answer.Refused = answer.Taken
answer_left false answer.Taken = answer.Taken
