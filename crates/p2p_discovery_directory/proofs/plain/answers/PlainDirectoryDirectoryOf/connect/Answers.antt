use Rattle.std.proofs.Common.{◌≡◌, true, ◌&&◌, not, ◌∷◌, refl, sym, subst}
use Rattle.std.specs.BTreeMap.{is_at}
use Rattle.p2p_discovery_directory.specs.declared.call.Call.TheVariants as call
use Rattle.p2p_discovery_directory.specs.AsLookup.{lookup_calls}
use Rattle.p2p_discovery_directory.specs.Plain.{Represents, SameTerms}
use Rattle.p2p_discovery_directory.specs.Tests.{holds, reserves}
use Rattle.p2p_discovery_directory.proofs.Representing.{plain_of, represents-quiet}
use Rattle.p2p_discovery_directory.proofs.Settled.{as-connect, plain-connect, held-after_connect, reserved-after_connect}
use Rattle.p2p_discovery_directory.proofs.plain.answers.PlainDirectoryDirectoryOf.connect.Goals as goal

pub connect-requires : goal.connect-requires
connect-requires g c = subst (λ k. reserves g.P.Ord.cmp k.peers c.args.peer.now ≡ true) (sym c.self.view_is) c.requires

pub returns-clause-terms : goal.returns-clause-terms
returns-clause-terms g c = subst (λ k. SameTerms k (plain_of c.connect.new.self c.self.inside.own c.self.inside.places.entries)) c.self.view_is (record { rules = c.connect.ensures.rules; own = refl })

pub returns-clause-stands : goal.returns-clause-stands
returns-clause-stands g c = λ calls s.
    let r = subst (λ k. Represents g.P.Ord.cmp k calls) (sym c.self.view_is) s in
    represents-quiet c.connect.ensures.rules calls r (call.Connect c.args.peer.now) refl (as-connect calls c.args.peer.now (c.connect.ensures.stands (lookup_calls calls) 0 r.peers))

pub returns-clause-held : goal.returns-clause-held
returns-clause-held g c = λ q.
    subst (λ k. holds g.P.Ord.cmp c.connect.new.self q ≡ holds g.P.Ord.cmp k.peers q) c.self.view_is
    (held-after_connect c.self.invariant c.connect.ensures.rules c.args.peer.now c.connect.ensures.stands q)

pub returns-clause-reserved : goal.returns-clause-reserved
returns-clause-reserved g c = λ q.
    subst (λ k. reserves g.P.Ord.cmp c.connect.new.self q ≡ (reserves g.P.Ord.cmp k.peers q && not (is_at (g.P.Ord.cmp c.args.peer.now) q))) c.self.view_is
    (reserved-after_connect c.self.invariant c.connect.ensures.rules c.args.peer.now c.connect.ensures.stands q)

pub invariant_of-self : goal.invariant_of-self
invariant_of-self g c = plain-connect c.self.invariant c.connect.ensures.rules c.args.peer.now c.connect.ensures.stands
