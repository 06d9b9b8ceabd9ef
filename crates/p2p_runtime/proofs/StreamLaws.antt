-- A count of faults over several calls.
use Rattle.std.proofs.Common.{ℕ, ◌<◌, ◌≤◌, inl, inr, ⊎_elim, arith}
use Rattle.std.proofs.lemmas.Bool.{cases_lt}
use Rattle.p2p_runtime.specs.Streams.{Rose}

-- it rose, and later calls don't lower it
pub Rose-then : (a b c : ℕ) → Rose a b → b ≤ c → Rose a c
Rose-then a b c (inl h) k = inl (omega arith)
Rose-then a b c (inr h) k = inr h

-- it rose after calls that don't lower it
pub Rose-before : (a b c : ℕ) → a ≤ b → Rose b c → b ≤ c → Rose a c
Rose-before a b c h (inl r) k = inl (omega arith)
Rose-before a b c h (inr r) k = ⊎_elim (λ (l : a < b). inl (omega arith)) (λ (l : b ≤ a). inr (omega arith)) (cases_lt a b)
