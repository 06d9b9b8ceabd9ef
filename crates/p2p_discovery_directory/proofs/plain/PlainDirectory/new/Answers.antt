use Rattle.std.proofs.Common.{ap, subst, sym}
use Rattle.p2p_discovery_directory.specs.Plain.{Represents, IsPlain}
use Rattle.p2p_discovery_directory.proofs.Known.{held-first}
use Rattle.p2p_discovery_directory.proofs.Representing.{plain_of, represents-first, plain-first}
use Rattle.p2p_discovery_directory.proofs.plain.PlainDirectory.new.Goals as goal

pub returns-clause-stands : goal.returns-clause-stands
returns-clause-stands g c =
    subst (λ l. Represents g.P.Ord.cmp (plain_of c.in_ok-peers.peers c.args.own l) _) (sym c.new.ensures.empty) (represents-first c.in_ok-peers.peers c.args.own c.in_ok-peers.ensures.stands)

pub returns-clause-none_held : goal.returns-clause-none_held
returns-clause-none_held g c = held-first c.in_ok-peers.ensures.stands

pub invariant_of-result : goal.invariant_of-result
invariant_of-result g c =
    subst (λ l. IsPlain g.P.Ord.cmp (plain_of c.in_ok-peers.peers c.args.own l)) (sym c.new.ensures.empty)
    (plain-first c.in_ok-peers.peers c.args.own c.in_ok-peers.ensures.stands (ap (λ r. r.bypass) c.in_ok-peers.ensures.rules))
