-- What the first ready input of each actor is, by the log.
use Rattle.std.specs.Prelude.{ℕ, Bool, true, false, not, ◌&&◌, cond, nat_le, nat_lt, List, [], ◌∷◌, Option, Some, None}
use Rattle.p2p_log.specs.declared.config.Config.{Config}
use Rattle.p2p_log.specs.declared.queue.Queue.{Queue}
use Rattle.p2p_log.specs.declared.queue.Queue.TheVariants as queue
use Rattle.p2p_log.specs.declared.item.Item.{Item}
use Rattle.p2p_log.specs.declared.item.Item.TheVariants as item
use Rattle.p2p_log.specs.declared.item.Envelope.{Envelope}
use Rattle.p2p_log.specs.declared.entry.Entry.{Entry}
use Rattle.p2p_log.specs.declared.entry.Reply.TheVariants as reply
use Rattle.p2p_log.specs.declared.event.Act.{Act}
use Rattle.p2p_log.specs.declared.event.Act.TheVariants as act
use Rattle.p2p_log.specs.Lines.{line}
use Rattle.p2p_log_rules.specs.declared.row.Half.{Half}
use Rattle.p2p_log_rules.specs.declared.row.Row.{Row}
use Rattle.p2p_log_rules.specs.Attempting.{Attempt, attempts_of}
use Rattle.p2p_log_rules.specs.Connections.{live_half, is_begun, is_running}
use Rattle.p2p_log_rules.specs.Cutting.{is_broken}
use Rattle.p2p_log_rules.specs.Dialing.{dials_of}
use Rattle.p2p_log_rules.specs.Dropping.{other_side}
use Rattle.p2p_log_rules.specs.Effect.{batch_size_at}
use Rattle.p2p_log_rules.specs.Facts.{channels, capacity_in, is_up}
use Rattle.p2p_log_rules.specs.Handshakes.{is_handshaking, is_finished}
use Rattle.p2p_log_rules.specs.Handshaking.{handshake_deadline, is_due}
use Rattle.p2p_log_rules.specs.Metering.{pings, messages, may_pass}
use Rattle.p2p_log_rules.specs.Pings.{ping_is_due}
use Rattle.p2p_log_rules.specs.Rows.{only}
use Rattle.p2p_log_rules.specs.TrackerPuts.{is_some_of}
use Rattle.p2p_log_rules.specs.Tracking.{key_cmp, rules_at, calls_of}
use Rattle.p2p_tracker_calls.specs.BlockedKeys.{due_keys}

pub data Actor : Type 0 where
  tracker : (node : ℕ) → Actor
  router : (node : ℕ) → Actor
  spawner : (node : ℕ) → Actor
  dialer : (node : ℕ) → Actor
  listener : (node : ℕ) → Actor
  attempt : (node attempt : ℕ) → Actor
  handshake : (node handshake : ℕ) → Actor
  sender : (node conn : ℕ) → Actor
  receiver : (node conn : ℕ) → Actor

-- the actor whose step an act is
abbrev pub actor_of : Act → Option Actor
actor_of (act.Tracker n) = Some (tracker n)
actor_of (act.Router n) = Some (router n)
actor_of (act.Spawner n) = Some (spawner n)
actor_of (act.Dialer n) = Some (dialer n)
actor_of (act.Listener n) = Some (listener n)
actor_of (act.Attempt k n) = Some (attempt n k)
actor_of (act.Handshake h n) = Some (handshake n h)
actor_of (act.SendStep conn n) = Some (sender n conn)
actor_of (act.RecvStep conn n) = Some (receiver n conn)
actor_of _ = None

pub data Input : Type 0 where
  -- the oldest item of a queue's line, and those that wait behind it
  takes : (from : Queue) (x : Envelope) (rest : List Envelope) → Input
  -- what is due: a deadline, a ping, or the end of a block
  due : Input
  -- a connection that has not begun
  begins : Input
  -- the other end of its link was dropped, or its link was cut
  fault : Input

-- the first of these that is ready
abbrev pub first_of : List (Option Input) → Option Input
first_of [] = None
first_of (None ∷ inputs) = first_of inputs
first_of (Some i ∷ inputs) = Some i

abbrev pub ready : Bool → Input → Option Input
ready b i = cond b (Some i) None

abbrev pub oldest_of : Queue → List Envelope → Option Input
oldest_of q [] = None
oldest_of q (x ∷ rest) = Some (takes q x rest)

-- the oldest item of a queue
abbrev pub oldest : List Entry → Queue → Option Input
oldest log q = oldest_of q (line log q)

-- these, where it is so
abbrev pub only_where : Bool → List (Option Input) → List (Option Input)
only_where b inputs = cond b inputs []

-- the deadline of an attempt has come
abbrev pub attempt_due : Option Attempt → ℕ → Bool
attempt_due None at = false
attempt_due (Some a) at = nat_le a.deadline at

-- the quota of what is held admits it now
abbrev pub is_admitted : List Config → List Entry → ℕ → ℕ → ℕ → Item → Bool
is_admitted configs log n conn at (item.Held c bytes copy) =
    elim (capacity_in (channels configs log n) c) [ None ↦ false | Some capacity ↦ may_pass configs log n conn at (messages c) ]
is_admitted configs log n conn at item.Ping = may_pass configs log n conn at pings
is_admitted configs log n conn at _ = false

-- a frame over its link, or that none will come
abbrev pub link_inputs : List Entry → Option Half → List (Option Input)
link_inputs log None = []
link_inputs log (Some half) =
    oldest log (queue.Link half.link (other_side half.writes)) ∷ ready (is_broken log half.link (other_side half.writes)) fault ∷ []

-- what is held, once its quota admits it; with nothing held, what comes over its link
abbrev pub held_inputs : (Item → Bool) → Queue → List Envelope → List (Option Input) → List (Option Input)
held_inputs admits q [] inputs = inputs
held_inputs admits q (x ∷ rest) inputs = ready (admits x.item) (takes q x rest) ∷ []

-- its inputs in order, each where it is ready
abbrev pub inputs : List Config → List Entry → ℕ → Actor → List (Option Input)
inputs configs log at (tracker n) = ready (is_some_of (due_keys key_cmp (rules_at configs n) (calls_of configs log n) at)) due ∷ oldest log (queue.Tracker n) ∷ []
inputs configs log at (router n) = oldest log (queue.Router n) ∷ []
inputs configs log at (spawner n) = oldest log (queue.Spawner n) ∷ []
inputs configs log at (dialer n) = oldest log (queue.Dialer n) ∷ ready (not (dials_of configs log n).is_asking && nat_le (dials_of configs log n).deadline at) due ∷ []
inputs configs log at (listener n) = oldest log (queue.Addresses n) ∷ oldest log (queue.Arrivals n) ∷ []
inputs configs log at (attempt n k) = oldest log (queue.Attempt n k) ∷ ready (attempt_due (attempts_of configs log n k) at) due ∷ []
inputs configs log at (handshake n h) = oldest log (queue.Handshake n h) ∷ ready (is_due (handshake_deadline configs log h n) at (is_finished log n h)) due ∷ []
-- one that runs has taken its router's answer; a batch has at least one message
inputs configs log at (sender n conn) =
    cond (is_begun log n conn)
    (cond (is_running log n conn)
    (ready (ping_is_due configs log n conn at) due
    ∷ only_where (nat_lt 0 (batch_size_at configs n)) (oldest log (queue.Control n conn) ∷ oldest log (queue.High n conn) ∷ oldest log (queue.Low n conn) ∷ []))
    (oldest log (queue.RouterAnswer n conn) ∷ []))
    (Some begins ∷ [])
inputs configs log at (receiver n conn) =
    only_where (is_running log n conn) (held_inputs (is_admitted configs log n conn at) (queue.Held n conn) (line log (queue.Held n conn)) (link_inputs log (live_half log n conn)))

abbrev pub stands : Option Attempt → Bool
stands None = false
stands (Some a) = true

abbrev pub has_half : Option Half → Bool
has_half None = false
has_half (Some half) = true

-- whether it acts: what has ended, or never came about, has no input
abbrev pub acts : List Config → List Entry → Actor → Bool
acts configs log (tracker n) = is_up log n
acts configs log (router n) = is_up log n
acts configs log (spawner n) = is_up log n
acts configs log (dialer n) = is_up log n
acts configs log (listener n) = is_up log n
acts configs log (attempt n k) = stands (attempts_of configs log n k)
acts configs log (handshake n h) = is_handshaking log n h
acts configs log (sender n conn) = is_up log n && has_half (live_half log n conn)
acts configs log (receiver n conn) = is_up log n && has_half (live_half log n conn)

abbrev pub first_input : List Config → List Entry → ℕ → Actor → Option Input
first_input configs log at a = first_of (inputs configs log at a)

-- ---- a step, by its first input

-- it is idle where no input is ready
abbrev pub by_input : (Input → Row) → Option Input → Row
by_input serve None = only reply.Idle
by_input serve (Some i) = serve i

-- and gone where it does not act
abbrev pub step_row : List Config → List Entry → ℕ → Actor → (Input → Row) → Row
step_row configs log at a serve = cond (acts configs log a) (by_input serve (first_input configs log at a)) (only reply.Gone)
