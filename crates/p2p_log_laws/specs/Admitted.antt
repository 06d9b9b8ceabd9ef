-- For whom messages are accepted, by the quotas of their channels.
use Rattle.std.specs.Prelude.{◌≡◌, ◌⊎◌, ◌<◌, ℕ, Bool, true, nat_lt, nat_le, List, [], length, take, Some, None, slice_get}
use Rattle.p2p_log.specs.declared.config.Config.{Config}
use Rattle.p2p_log.specs.declared.queue.Queue.TheVariants as queue
use Rattle.p2p_log.specs.declared.entry.Entry.{Entry}
use Rattle.p2p_log.specs.declared.event.Act.TheVariants as act
use Rattle.p2p_log.specs.declared.event.Recipients.{Recipients}
use Rattle.p2p_log.specs.Copies.{accepted}
use Rattle.p2p_log.specs.Lines.{line}
use Rattle.p2p_log_rules.specs.Admitting.{offered, keys_admitted}
use Rattle.p2p_log_rules.specs.Checking.{Check, check_of}
use Rattle.p2p_log_rules.specs.Effect.{limit_at, router_capacity}
use Rattle.p2p_log_rules.specs.Facts.{is_stopped, channels, capacity_in}

-- why a node takes no such message in, whomever it is for
pub data IsTurnedAway (configs : List Config) (before : List Entry) (n : ℕ) (bytes : List ℕ) : Type 0 where
  TooLong : nat_lt (limit_at configs n) (length bytes) ≡ true → IsTurnedAway configs before n bytes
  MailboxFull : nat_le (router_capacity configs before n) (length (line before (queue.Router n))) ≡ true → IsTurnedAway configs before n bytes
  Stopped : is_stopped before n ≡ true → IsTurnedAway configs before n bytes

-- why a message of a node is for nobody, whatever its quota admits
abbrev pub IsRefused : List Config → List Entry → ℕ → ℕ → List ℕ → Type 0
IsRefused configs before n channel bytes = (capacity_in (channels configs before n) channel ≡ None) ⊎ IsTurnedAway configs before n bytes

-- each send is accepted for exactly those of the keys that it is offered to that its channel's quota admits at its moment, in their
-- order, or for nobody where it is refused
abbrev pub EachIsAdmitted : List Config → List Entry → Type 0
EachIsAdmitted configs log =
    (k n channel : ℕ) (e : Entry) (bytes : List ℕ) (priority : Bool) (to : Recipients)
    → slice_get log k ≡ Some e → e.event.act ≡ act.Send bytes channel n priority to
    → (accepted log k ≡ keys_admitted (take k log) n channel e.event.at (offered (take k log) n channel to))
    ⊎ ((accepted log k ≡ []) × IsRefused configs (take k log) n channel bytes)

-- a check that waits for its message is the entry of its name, and has exactly those of the keys that it was asked for that its
-- channel's quota admitted at its moment, in their order
pub record IsCheckOf (log : List Entry) (name : ℕ) (c : Check) : Type 0 where
  pub entry : Entry
  pub here : slice_get log name ≡ Some entry
  pub to : Recipients
  pub asks : entry.event.act ≡ act.Check c.channel c.node to
  pub admitted : c.keys ≡ keys_admitted (take name log) c.node c.channel entry.event.at (offered (take name log) c.node c.channel to)

abbrev pub ChecksAreAdmitted : List Entry → Type 0
ChecksAreAdmitted log = (name : ℕ) (c : Check) → check_of log name ≡ Some c → IsCheckOf log name c

-- a message to those whom a check admitted is accepted for exactly these, or for nobody where it is turned away, or where the check
-- waits no more
abbrev pub EachIsChecked : List Config → List Entry → Type 0
EachIsChecked configs log =
    (k check : ℕ) (e : Entry) (bytes : List ℕ) (priority : Bool)
    → slice_get log k ≡ Some e → e.event.act ≡ act.SendChecked bytes check priority
    → ((c : Check) × (check_of (take k log) check ≡ Some c)
    × ((accepted log k ≡ c.keys) ⊎ ((accepted log k ≡ []) × IsTurnedAway configs (take k log) c.node bytes)))
    ⊎ ((accepted log k ≡ []) × (check_of (take k log) check ≡ None))

-- no two messages are accepted for what one check admitted
abbrev pub ChecksAreSpentOnce : List Entry → Type 0
ChecksAreSpentOnce log =
    (j k check : ℕ) (d e : Entry) (said more : List ℕ) (one other : Bool)
    → check < j → j < k → slice_get log j ≡ Some d → d.event.act ≡ act.SendChecked said check one
    → slice_get log k ≡ Some e → e.event.act ≡ act.SendChecked more check other → accepted log k ≡ []
