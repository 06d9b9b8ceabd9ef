-- What the checks of a node admitted that waits for a message, after one more entry.
use Rattle.std.proofs.Common.{◌≡◌, ℕ, List, [], ◌∷◌, ◌++◌, Option, Some, ap, sym, ◌∙◌, cond}
use Rattle.std.specs.Prelude.{◌==◌}
use Rattle.std.specs.BTreeMap.{insert_entry}
use Rattle.std.specs.Ordering.{nat_cmp}
use Rattle.p2p_log.specs.declared.entry.Entry.{Entry}
use Rattle.p2p_log_rules.specs.Checking.{admitted_at, checked_at}
use Rattle.p2p_log_rules.specs.declared.row.Checked.{Checked}
use Rattle.p2p_log_rules.proofs.Checks.{check_of-none}
use Rattle.p2p_net_queues.specs.Tables.{at, AreBut}
use Rattle.p2p_net_queues.proofs.Tables.{at-inserted}
use Rattle.p2p_net_channels.specs.Channels.{no_channels}

-- no channels, and no log
pub checks_new : (n name : ℕ) → at no_channels.checks name ≡ checked_at [] n name
checks_new n name = sym (ap (admitted_at n) (check_of-none name))

module _ (log : List Entry) (e : Entry) (n : ℕ) (m : List (ℕ × Checked)) (stands : (name : ℕ) → at m name ≡ checked_at log n name) where
  -- an entry that leaves each of them alone
  pub checks_kept : ((name : ℕ) → checked_at (log ++ e ∷ []) n name ≡ checked_at log n name) → (name : ℕ) → at m name ≡ checked_at (log ++ e ∷ []) n name
  checks_kept same name = stands name ∙ sym (same name)

  -- one that gives one of them this in its place
  pub checks_changed : (check : ℕ) (now : Option Checked) (new : List (ℕ × Checked)) → AreBut check now m new
      → ((name : ℕ) → checked_at (log ++ e ∷ []) n name ≡ cond (name == check) now (checked_at log n name)) → (name : ℕ) → at new name ≡ checked_at (log ++ e ∷ []) n name
  checks_changed check now new but is name = but name ∙ (ap (λ o. cond (name == check) now o) (stands name) ∙ sym (is name))

  -- one in which a check admits
  pub checks_begun : (check : ℕ) (v : Checked) → ((name : ℕ) → checked_at (log ++ e ∷ []) n name ≡ cond (name == check) (Some v) (checked_at log n name))
      → (name : ℕ) → at (insert_entry nat_cmp m check v) name ≡ checked_at (log ++ e ∷ []) n name
  checks_begun check v = checks_changed check (Some v) (insert_entry nat_cmp m check v) (λ name. at-inserted check name v m)
