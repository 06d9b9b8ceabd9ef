use Rattle.p2p_gates.proofs.Orders.{made-is_registered}
use Rattle.p2p_gates.proofs.listener.in_order.Goals as goal

pub returns : goal.returns
returns c = λ ip. made-is_registered _ c.args.addresses.now ip (c.in_ok-set_of.ensures.0 ip)
