-- What the quotas stand for, in the order by which they are kept and in that by which addresses are told.
use Rattle.std.proofs.Common.{◌≡◌, ℕ, Bool, true, false, cond, not, List, Result, Ok, Err, sym, ap, ◌∙◌, subst}
use Rattle.std.specs.Prelude.{is_ok, OnOk, OnErr}
use Rattle.std.specs.declared.cmp.Ordering.{Ordering}
use Rattle.p2p_address.specs.Addresses.{subnet_of}
use Rattle.p2p_address.specs.contracts.ip.IpAddrOrd.TheImpl.{ghosts}
use Rattle.p2p_address.specs.declared.ip.IpAddr.{IpAddr}
use Rattle.p2p_runtime.specs.QuotaKeys.{KeptByKey, StandsForEach, with_admission}
use Rattle.p2p_runtime.specs.QuotaLaw.{Rate, admits}
use Rattle.p2p_tracker_calls.specs.Heard.{ip_cmp}
use Rattle.p2p_tracker_calls.specs.Quotas.{Passed, refuses, charged, verdict}
use Rattle.p2p_gates.specs.Quotas.{Quotas, KeepsRates, rates_of}
use Rattle.p2p_gates.proofs.Orders.{derived-is}

pub negated : (a b : Bool) → b ≡ not a → a ≡ not b
negated true b e = ap not (sym e)
negated false b e = ap not (sym e)

pub to-told : (kept : KeptByKey IpAddr) (past : IpAddr → List ℕ) (latest : ℕ)
    → StandsForEach ghosts.cmp kept past latest → StandsForEach ip_cmp kept past latest
to-told kept past latest s =
    subst (λ (cmp : IpAddr → IpAddr → Ordering). StandsForEach cmp kept past latest) derived-is s

pub to-kept : (kept : KeptByKey IpAddr) (past : IpAddr → List ℕ) (latest : ℕ)
    → StandsForEach ip_cmp kept past latest → StandsForEach ghosts.cmp kept past latest
to-kept kept past latest s =
    subst (λ (cmp : IpAddr → IpAddr → Ordering). StandsForEach cmp kept past latest) (sym derived-is) s

by_answer : (answer : Result (Unit {0}) ℕ) (b : Bool) (A B : IpAddr → List ℕ) (P : (IpAddr → List ℕ) → Type 0)
    → is_ok answer ≡ b → OnOk answer (P A) → OnErr answer (P B) → P (cond b A B)
by_answer (Ok u) b A B P e h k = subst (λ (x : Bool). P (cond x A B)) e h
by_answer (Err from) b A B P e h k = subst (λ (x : Bool). P (cond x A B)) e k

-- after a check, by its answer
pub charged-stands : (new : KeptByKey IpAddr) (rate : Rate) (past : IpAddr → List ℕ) (ip : IpAddr) (at : ℕ)
    (answer : Result (Unit {0}) ℕ)
    → is_ok answer ≡ admits rate (past ip) at
    → OnOk answer (StandsForEach ghosts.cmp new (with_admission ghosts.cmp past ip at) at)
    → OnErr answer (StandsForEach ghosts.cmp new past at)
    → StandsForEach ip_cmp new (charged rate past ip at) at
charged-stands new rate past ip at answer e h k =
    let admitted = admits rate (past ip) at in
    subst
    (λ (cmp : IpAddr → IpAddr → Ordering). StandsForEach cmp new (cond admitted (with_admission cmp past ip at) past) at)
    derived-is
    (by_answer answer admitted (with_admission ghosts.cmp past ip at) past
    (λ (q : IpAddr → List ℕ). StandsForEach ghosts.cmp new q at) e h k)

-- the verdict by the rates that the quotas had before the arrival was counted
pub verdict-counted : (q r : Quotas) (p : Passed) (ip subnet : IpAddr) (at : ℕ) (a b : Bool) → KeepsRates q r
    → subnet ≡ subnet_of ip
    → a ≡ refuses r.addresses.rate p.addresses ip at
    → b ≡ refuses r.subnets.rate p.subnets subnet at
    → let told : Bool × Bool = (a, b) in told ≡ verdict (rates_of q) p ip at
verdict-counted q r p ip subnet at a b rates s e f =
    let first : a ≡ refuses q.addresses.rate p.addresses ip at =
    e ∙ ap (λ (x : Rate). refuses x p.addresses ip at) rates.addresses in
    let second : b ≡ refuses q.subnets.rate p.subnets (subnet_of ip) at =
    f
    ∙ (ap (λ (x : Rate). refuses x p.subnets subnet at) rates.subnets
    ∙ ap (λ (x : IpAddr). refuses q.subnets.rate p.subnets x at) s) in
    λ i. (first i, second i)
