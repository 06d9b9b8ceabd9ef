-- What a step that takes a message leaves in the queues: one of them has one message more, or none has.
use Rattle.std.specs.Prelude.{◌≡◌, ℕ, false, cond, List, [], ◌∷◌, ◌++◌, Option, Some, None, Result, Ok, Err, slice_get}
use Rattle.std.specs.BTreeMap.{is_at}
use Rattle.std.specs.Ordering.{nat_cmp}
use Rattle.p2p_base.specs.Queue.{Queue}
use Rattle.p2p_flow.specs.declared.plain.Polled.{Polled}
use Rattle.p2p_flow.specs.declared.plain.Polled.TheVariants as polled
use Rattle.p2p_wire.specs.Varint.{u64_at}
use Rattle.p2p_wire.specs.declared.error.CodecError.{CodecError}
use Rattle.p2p_mux.specs.Muxed.{Muxed, route_in}
use Rattle.p2p_mux.specs.declared.routes.Route.{Route}
use Rattle.p2p_mux.specs.declared.stepped.MuxStepped.{MuxStepped}
use Rattle.p2p_mux.specs.declared.stepped.MuxStepped.TheVariants as stepped

abbrev pub messages_of : {P : Type 0} → Option (Route P) → List (P × List ℕ)
messages_of None = []
messages_of (Some r) = r.messages.items

abbrev pub items_of : {X : Type 0} → Option (Queue X) → List X
items_of None = []
items_of (Some b) = b.items

-- the bytes after a prefix
abbrev pub payload_of : Result (ℕ × List ℕ) CodecError → List ℕ
payload_of (Ok (s, payload)) = payload
payload_of (Err e) = []

-- the answer tells the queue, or the cause
abbrev pub IsPlace : MuxStepped → Type 0
IsPlace (stepped.Routed n t) = Unit {0}
IsPlace (stepped.BackedUp t) = Unit {0}
IsPlace (stepped.Dropped c) = Unit {0}
IsPlace stepped.Idle = ⊥
IsPlace stepped.Ended = ⊥
IsPlace (stepped.Registered n t) = ⊥
IsPlace (stepped.Refused n t) = ⊥
IsPlace (stepped.GivenUp n t) = ⊥
IsPlace (stepped.Deregistered t) = ⊥

module _ {P : Type 0} where
  -- the messages that wait for a subchannel, the oldest first
  abbrev pub messages_on : Muxed P → ℕ → List (P × List ℕ)
  messages_on q s = messages_of (route_in q.routes s)

  -- the message without its prefix
  abbrev pub without_prefix : P × List ℕ → P × List ℕ
  without_prefix m = (m.0, payload_of (u64_at m.1))

  -- what such a step adds for a subchannel, by what it answers
  abbrev pub added_on : MuxStepped → P × List ℕ → ℕ → List (P × List ℕ)
  added_on (stepped.Routed n t) m s = cond (is_at (nat_cmp t) s) (without_prefix m ∷ []) []
  added_on (stepped.BackedUp t) m s = []
  added_on (stepped.Dropped c) m s = []
  added_on stepped.Idle m s = []
  added_on stepped.Ended m s = []
  added_on (stepped.Registered n t) m s = []
  added_on (stepped.Refused n t) m s = []
  added_on (stepped.GivenUp n t) m s = []
  added_on (stepped.Deregistered t) m s = []

  -- what it adds for the backup
  abbrev pub added_to_backup : MuxStepped → P × List ℕ → List (ℕ × (P × List ℕ))
  added_to_backup (stepped.BackedUp t) m = (t, without_prefix m) ∷ []
  added_to_backup (stepped.Routed n t) m = []
  added_to_backup (stepped.Dropped c) m = []
  added_to_backup stepped.Idle m = []
  added_to_backup stepped.Ended m = []
  added_to_backup (stepped.Registered n t) m = []
  added_to_backup (stepped.Refused n t) m = []
  added_to_backup (stepped.GivenUp n t) m = []
  added_to_backup (stepped.Deregistered t) m = []

  -- a step takes this message: the muxer hasn't ended and was asked nothing, and its receiver gives it
  abbrev pub TakesMessage : {E : Type 0} → Muxed P → Result (Polled (P × List ℕ)) E → P × List ℕ → Type 0
  TakesMessage q received m =
      (q.ended ≡ false) × (slice_get q.control 0 ≡ None) × (received ≡ Ok (polled.Ready m))

  -- a message that was taken went without its prefix to one queue, or to none where the answer tells the cause
  pub record IsPassed (s : MuxStepped) (m : P × List ℕ) (old new : Muxed P) : Type 0 where
    pub place : IsPlace s
    pub routes : (t : ℕ) → messages_on new t ≡ messages_on old t ++ added_on s m t
    pub backup : items_of new.backup ≡ items_of old.backup ++ added_to_backup s m
