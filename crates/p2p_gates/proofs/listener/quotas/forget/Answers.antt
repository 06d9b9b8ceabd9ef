use Rattle.std.proofs.Common.{subst}
use Rattle.std.specs.declared.cmp.Ordering.{Ordering}
use Rattle.p2p_address.specs.declared.ip.IpAddr.{IpAddr}
use Rattle.p2p_runtime.specs.QuotaKeys.{KeepsOnlyRecent}
use Rattle.p2p_gates.proofs.Charged.{to-kept, to-told}
use Rattle.p2p_gates.proofs.Orders.{derived-is}
use Rattle.p2p_gates.proofs.listener.quotas.forget.Goals as goal

pub returns-clause-stands : goal.returns-clause-stands
returns-clause-stands c = λ past latest s. to-told c.retain_recent.new.self past latest
    (c.retain_recent.ensures.same past latest (to-kept c.args.limiter.now past latest s))

pub returns-clause-forgets : goal.returns-clause-forgets
returns-clause-forgets c =
    subst (λ (cmp : IpAddr → IpAddr → Ordering). KeepsOnlyRecent cmp c.retain_recent.new.self) derived-is
    c.retain_recent.ensures.forgets
