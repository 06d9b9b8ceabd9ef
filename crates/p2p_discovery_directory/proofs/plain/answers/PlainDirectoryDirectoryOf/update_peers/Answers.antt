use Rattle.std.proofs.Common.{◌≡◌, ◌∷◌, refl, sym, subst}
use Rattle.p2p_discovery_directory.specs.declared.call.Call.TheVariants as call
use Rattle.p2p_discovery_directory.specs.Plain.{Represents, SameTerms}
use Rattle.p2p_discovery_directory.proofs.Forgetting.{told-update, plain-update}
use Rattle.p2p_discovery_directory.proofs.Representing.{plain_of}
use Rattle.p2p_discovery_directory.proofs.plain.answers.PlainDirectoryDirectoryOf.update_peers.Goals as goal

pub returns-clause-terms : goal.returns-clause-terms
returns-clause-terms g c = subst (λ k. SameTerms k (plain_of c.self.inside.peers c.self.inside.own c.take_up_each.new.places.entries)) c.self.view_is (record { rules = refl; own = refl })

pub returns-clause-stands : goal.returns-clause-stands
returns-clause-stands g c = λ calls s.
    told-update c.args.infos.items c.take_up_each.new.places.entries c.take_up_each.ensures c.self.invariant calls (subst (λ k. Represents g.P.Ord.cmp k calls) (sym c.self.view_is) s)

pub invariant_of-self : goal.invariant_of-self
invariant_of-self g c = plain-update c.args.infos.items c.take_up_each.new.places.entries c.take_up_each.ensures c.self.invariant
