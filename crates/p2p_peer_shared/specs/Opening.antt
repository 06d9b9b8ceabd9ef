-- What the registration of a channel answers, and what a start makes of where a network sends and receives.
use Rattle.std.specs.Prelude.{ℕ, ◌+◌, ◌^◌, Bool, true, ◌&&◌, cond, nat_lt, if◌then◌else◌, List, Option, Some, is_some}
use Rattle.std.specs.List.Sorted.{IsPermutation, IsSortedByKey}
use Rattle.std.specs.Ordering.{nat_cmp}
use Rattle.p2p_base.specs.Queue.{empty_queue}
use Rattle.p2p_runtime.specs.QuotaLaw.{Rate}
use Rattle.p2p_flow_connection.specs.Arriving.{Arrived, mailbox_of}
use Rattle.p2p_flow_senders.specs.Limits.{Limits, with_messenger}
use Rattle.p2p_flow_senders.specs.Registering.{Registered, register_refusal, places_in}
use Rattle.p2p_flow_senders.specs.declared.register_error.RegisterError.{RegisterError}
use Rattle.p2p_flow_senders.specs.declared.register_error.RegisterError.TheVariants as register_error
use Rattle.p2p_router.specs.Messenger.{Desk, is_unbound, bound_to, shut}

-- how many messages the router's mailbox holds: so many, and the places of all channels
abbrev pub router_places : ℕ → Registered → ℕ
router_places mailbox_size channels = mailbox_size + places_in channels.max_peers channels.quotas

-- these are the channels that were registered, in order of their numbers
pub record AreInOrder (registered channels : List (ℕ × Rate)) : Type 0 where
  pub same : IsPermutation registered channels
  pub ordered : IsSortedByKey (λ q. q.0) nat_cmp channels

module _ {P : Type 0} where
  -- why a channel isn't registered, if it isn't: one that has a mailbox is registered already
  abbrev pub refusal_in : Arrived P → Registered → ℕ → Rate → Option RegisterError
  refusal_in arrived channels channel rate =
      cond (is_some (mailbox_of arrived channel)) (Some (register_error.DuplicateChannel channel)) (register_refusal channels channel rate)

  -- the places of the router's mailbox can be counted, and the messenger waits for it
  abbrev pub can_open : ℕ → Registered → Desk P → Bool
  can_open mailbox_size channels messenger = nat_lt (router_places mailbox_size channels) (2 ^ 64) && is_unbound messenger.binding

  -- what a start makes of where senders send, whose router has a mailbox of so many places: a start that doesn't bind ends it
  abbrev pub opened : Bool → ℕ → Limits P (Desk P) → Limits P (Desk P)
  opened bind places w = with_messenger w (if bind then bound_to w.messenger (empty_queue places) else shut w.messenger)

  -- and of where receivers receive
  abbrev pub received_from : Bool → Arrived P → Arrived P
  received_from bind a = if bind then a else record a { ended = true }
