use Rattle.std.proofs.Common.{sym, subst}
use Rattle.p2p_gates.specs.Quotas.{Quotas, StandsFor}
use Rattle.p2p_gates.proofs.listener.quotas.Quotas.count.Goals as goal

pub returns-clause-stands : goal.returns-clause-stands
returns-clause-stands c = λ p latest s.
    let kept = subst (λ (q : Quotas). StandsFor q p latest) (sym c.self.view_is) s in
    record {
      addresses = c.forget.ensures.stands p.addresses latest kept.addresses;
      subnets = c.forget-2.ensures.stands p.subnets latest kept.subnets;
    }
