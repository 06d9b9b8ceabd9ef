use Rattle.std.proofs.Common.{◌≡◌, max, true, sym, ap, subst, ◌∙◌}
use Rattle.p2p_address.specs.declared.ip.IpAddr.{IpAddr}
use Rattle.p2p_runtime.specs.QuotaKeys.{StandsForEach, KeepsOnlyRecent}
use Rattle.p2p_runtime.specs.QuotaLaw.{Rate}
use Rattle.p2p_tracker_calls.specs.Heard.{ip_cmp}
use Rattle.p2p_tracker_calls.specs.Quotas.{charged}
use Rattle.p2p_gates.specs.Quotas.{Quotas, StandsFor, KeepsRates, is_pruned}
use Rattle.p2p_gates.proofs.Charged.{verdict-counted}
use Rattle.p2p_gates.proofs.Counted.{counted_held}
use Rattle.p2p_gates.proofs.listener.quotas.Quotas.check.Goals as goal

pub returns-clause-answer : goal.returns-clause-answer
returns-clause-answer c = λ p latest s.
    let counted = subst (λ (q : Quotas). StandsFor q p latest) (sym c.self.view_is) (c.count.ensures.stands p latest s) in
    let rates = subst (λ (q : Quotas). KeepsRates c.args.self.now q) (sym c.self.view_is) c.count.ensures.rates in
    let Counted : Quotas = record {
      addresses = c.self.inside.addresses;
      subnets = c.self.inside.subnets;
      counted = c.self.inside.counted;
    } in
    verdict-counted c.args.self.now Counted p c.args.ip.now c.subnet.result (max latest c.args.now)
    c.in_ok-address.address c.in_ok-subnet.subnet rates c.subnet.ensures
    (c.in_ok-address.ensures.answer p.addresses latest counted.addresses)
    (c.in_ok-subnet.ensures.answer p.subnets latest counted.subnets)

pub returns-clause-stands : goal.returns-clause-stands
returns-clause-stands c = λ p latest s.
    let counted = subst (λ (q : Quotas). StandsFor q p latest) (sym c.self.view_is) (c.count.ensures.stands p latest s) in
    let rates = subst (λ (q : Quotas). KeepsRates c.args.self.now q) (sym c.self.view_is) c.count.ensures.rates in
    record {
      addresses =
          subst (λ (r : Rate). StandsForEach ip_cmp c.refuses.new.limiter (charged r p.addresses c.args.ip.now
          (max latest c.args.now)) (max latest c.args.now)) rates.addresses
          (c.in_ok-address.ensures.stands p.addresses latest counted.addresses);
      subnets =
          subst (λ (ip : IpAddr). StandsForEach ip_cmp c.refuses-2.new.limiter
          (charged c.args.self.now.subnets.rate p.subnets ip (max latest c.args.now))
          (max latest c.args.now)) c.subnet.ensures
          (subst (λ (r : Rate). StandsForEach ip_cmp c.refuses-2.new.limiter (charged r p.subnets c.subnet.result
          (max latest c.args.now)) (max latest c.args.now)) rates.subnets
          (c.in_ok-subnet.ensures.stands p.subnets latest counted.subnets));
    }

pub returns-clause-held : goal.returns-clause-held
returns-clause-held c =
    let old = c.args.self.now in
    let view = c.self.view_is in
    let Mid : Quotas = record {
      addresses = c.self.inside.addresses;
      subnets = c.self.inside.subnets;
      counted = c.self.inside.counted;
    } in
    counted_held old Mid c.refuses.new.limiter c.refuses-2.new.limiter c.args.ip.now c.subnet.result
    (ap (λ (q : Quotas). q.counted) view ∙ c.count.ensures.counted)
    (λ no. view ∙ c.count.ensures.unpruned no)
    (subst (λ (q : Quotas). is_pruned old.counted ≡ true → KeepsOnlyRecent ip_cmp q.addresses) (sym view) c.count.ensures.addresses)
    (subst (λ (q : Quotas). is_pruned old.counted ≡ true → KeepsOnlyRecent ip_cmp q.subnets) (sym view) c.count.ensures.subnets)
    (ap (λ (q : Quotas). q.addresses.latest) view ∙ c.count.ensures.latest_address)
    (ap (λ (q : Quotas). q.subnets.latest) view ∙ c.count.ensures.latest_subnet)
    c.subnet.ensures c.in_ok-address.ensures.others c.in_ok-subnet.ensures.others
