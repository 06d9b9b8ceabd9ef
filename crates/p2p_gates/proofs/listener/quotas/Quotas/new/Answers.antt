use Rattle.std.proofs.Common.{[]}
use Rattle.p2p_gates.proofs.Charged.{to-told}
use Rattle.p2p_gates.proofs.listener.quotas.Quotas.new.Goals as goal

pub returns-clause-stands : goal.returns-clause-stands
returns-clause-stands c = record {
  addresses = to-told c.new.result (λ ip. []) 0 c.new.ensures.empty;
  subnets = to-told c.new-2.result (λ ip. []) 0 c.new-2.ensures.empty;
}
