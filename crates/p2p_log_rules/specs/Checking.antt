-- What a check admitted, which waits for one message: by the log.
use Rattle.std.specs.Prelude.{ℕ, Bool, false, ◌==◌, cond, List, Option, Some, None}
use Rattle.std.specs.List.{list_any}
use Rattle.p2p_base.specs.declared.key.Key.{Key}
use Rattle.p2p_log.specs.declared.entry.Entry.{Entry}
use Rattle.p2p_log_rules.specs.declared.row.Checked.{Checked}
use Rattle.p2p_log_rules.specs.Tellings.{Telling, Last, last_told}
use Rattle.p2p_log_rules.specs.Tellings as telling
use Rattle.p2p_log_rules.specs.Told.{told}

-- a check that was made: at which node and on which channel, and whom it admitted
pub record Check : Type 0 where
  pub node : ℕ
  pub channel : ℕ
  pub keys : List Key

-- the one of this name
abbrev pub makes_check : ℕ → Telling → Option Check
makes_check check (telling.check_made n k c keys) = cond (check == k) (Some (record { node = n; channel = c; keys = keys })) None
makes_check check _ = None

abbrev pub spends : ℕ → Telling → Bool
spends check (telling.check_spent k) = check == k
spends check _ = false

abbrev pub unspent : ℕ → Option (Last Check) → Option Check
unspent check None = None
unspent check (Some l) = cond (list_any (spends check) l.since) None (Some l.told)

abbrev pub check_in : List Telling → ℕ → Option Check
check_in ts check = unspent check (last_told (makes_check check) ts)

-- the check of this name, until a message is asked for by it
unfoldable pub check_of : List Entry → ℕ → Option Check
check_of log check = check_in (told log) check

-- what it admitted, where it was made at this node
abbrev pub admitted_at : ℕ → Option Check → Option Checked
admitted_at n None = None
admitted_at n (Some c) = cond (c.node == n) (Some (record { channel = c.channel; keys = c.keys })) None

abbrev pub checked_at : List Entry → ℕ → ℕ → Option Checked
checked_at log n check = admitted_at n (check_of log check)
