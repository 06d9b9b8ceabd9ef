-- The channels of a node, and what the registration of one answers.
use Rattle.std.specs.Prelude.{◌≡◌, ℕ, ◌+◌, ◌*◌, ◌^◌, ◌==◌, Bool, List, [], ◌∷◌, Option, Some, None, nat_lt, cond}
use Rattle.std.specs.List.{list_any}
use Rattle.p2p_runtime.specs.QuotaLaw.{Rate}
use Rattle.p2p_flow_senders.specs.declared.register_error.RegisterError.{RegisterError}
use Rattle.p2p_flow_senders.specs.declared.register_error.RegisterError.TheVariants as register_error

-- the longest message, the most peers, and the quota of each channel, in order of registration
pub record Registered : Type 0 where
  pub max_size : ℕ
  pub max_peers : ℕ
  pub quotas : List (ℕ × Rate)

-- how many messages a channel's mailbox holds: the burst of each peer
abbrev pub places_of : ℕ → Rate → ℕ
places_of max_peers rate = max_peers * rate.burst

-- how many the mailboxes of all channels hold
abbrev pub places_in : ℕ → List (ℕ × Rate) → ℕ
places_in max_peers [] = 0
places_in max_peers (channel ∷ channels) = places_of max_peers channel.1 + places_in max_peers channels

abbrev pub has_channel : List (ℕ × Rate) → ℕ → Bool
has_channel quotas channel = list_any (λ q. q.0 == channel) quotas

-- a sum, where it is within 64 bits
abbrev pub within : ℕ → Option ℕ
within n = cond (nat_lt n (2 ^ 64)) (Some n) None

-- why a channel isn't registered, if it isn't: it is registered already, or the places pass 64 bits
abbrev pub refusal_of : ℕ → List (ℕ × Rate) → ℕ → Rate → Option RegisterError
refusal_of max_peers quotas channel rate =
    cond (has_channel quotas channel) (Some (register_error.DuplicateChannel channel))
    (cond (nat_lt (places_of max_peers rate + places_in max_peers quotas) (2 ^ 64)) None
    (Some (register_error.CapacityOverflow max_peers rate.burst)))

abbrev pub register_refusal : Registered → ℕ → Rate → Option RegisterError
register_refusal c channel rate = refusal_of c.max_peers c.quotas channel rate

-- the error is want of memory, or the refusal that is due
abbrev pub IsRegisterCause : Option RegisterError → RegisterError → Type 0
IsRegisterCause due register_error.Memory = Unit {0}
IsRegisterCause due (register_error.DuplicateChannel channel) = due ≡ Some (register_error.DuplicateChannel channel)
IsRegisterCause due (register_error.CapacityOverflow bound burst) =
    due ≡ Some (register_error.CapacityOverflow bound burst)
