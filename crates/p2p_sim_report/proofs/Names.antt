-- Names compare as equal exactly where they are the same.
use Rattle.std.proofs.Common.{◌≡◌, ℕ, Bool, true, false, ◌||◌, cond, sym, refl, arith, eqb}
use Rattle.std.specs.BTreeMap.{is_at}
use Rattle.std.specs.Ordering.{is_eq, nat_cmp}
use Rattle.std.specs.Cmp.{both_tied}
use Rattle.p2p_log.specs.Lines.{same_name}
use Rattle.p2p_sim_report.specs.Found.{name_cmp}

tied : (m n : ℕ) → eqb n m ≡ is_eq (nat_cmp m n)
tied m n = grind arith

pub same_name-is_at : (a b : ℕ × ℕ) → is_at (name_cmp a) b ≡ same_name b a
same_name-is_at a b = sym (both_tied (eqb b.0 a.0) (eqb b.1 a.1) (nat_cmp a.0 b.0) (nat_cmp a.1 b.1) (tied a.0 b.0) (tied a.1 b.1))

pub cond-or : (b c : Bool) → cond b true c ≡ (b || c)
cond-or true c = refl
cond-or false c = refl
