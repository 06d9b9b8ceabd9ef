-- Each copy of an accepted send has one end, and nothing else has one.
use Rattle.std.proofs.Common.{◌≡◌, ℕ, ◌+◌, ◌<◌, ◌≤◌, List, ◌∙◌, arith}
use Rattle.std.specs.Prelude.{nat_lt}
use Rattle.std.proofs.lemmas.Bool.Decides.{nat_tests}
use Rattle.p2p_log.specs.declared.config.Config.{Config}
use Rattle.p2p_log.specs.declared.event.Event.{Event}
use Rattle.p2p_log.specs.declared.entry.Entry.{Entry}
use Rattle.p2p_log_rules.specs.Lawful.{IsLawful}
use Rattle.p2p_log_laws.specs.OneEnd.{EachEndsOnce, EachHasOneEnd, NothingElseEnds}
use Rattle.p2p_log_laws.proofs.Ledger.{Told-end}
use Rattle.p2p_log_laws.proofs.Spreading.{one}

within : (p n : ℕ) → p < n → one (nat_lt p n) ≡ 1
within p n h = grind (arith, nat_tests)

past : (p n : ℕ) → n ≤ p → one (nat_lt p n) ≡ 0
past p n h = grind (arith, nat_tests)

sum_none : (a b : ℕ) → a + b ≡ 0 → (a ≡ 0) × (b ≡ 0)
sum_none a b h = (omega arith, omega arith)

module _ (configs : List Config) (script : List Event) (log : List Entry) (lawful : IsLawful configs script log) where
  pub each_ends_once : EachEndsOnce log
  each_ends_once copy = (Told-end configs script log lawful).balance copy

  pub each_has_one_end : EachHasOneEnd log
  each_has_one_end copy h = each_ends_once copy ∙ within copy.1 _ h

  pub nothing_else_ends : NothingElseEnds log
  nothing_else_ends copy h = sum_none _ _ (each_ends_once copy ∙ past copy.1 _ h)
