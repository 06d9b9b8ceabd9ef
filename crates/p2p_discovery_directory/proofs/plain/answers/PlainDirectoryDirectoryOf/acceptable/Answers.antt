use Rattle.std.proofs.Common.{◌≡◌, sym, ◌∙◌, subst}
use Rattle.p2p_discovery_directory.specs.Allows.{is_acceptable}
use Rattle.p2p_discovery_directory.specs.AsLookup.{lookup_calls}
use Rattle.p2p_discovery_directory.specs.Plain.{Represents}
use Rattle.p2p_discovery_directory.proofs.Turned.{acceptable-free}
use Rattle.p2p_discovery_directory.proofs.plain.answers.PlainDirectoryDirectoryOf.acceptable.Goals as goal

pub returns : goal.returns
returns g c = λ calls s.
    subst (λ k. c.acceptable.result ≡ is_acceptable g.P.Ord.cmp k.peers.rules calls c.args.peer.now c.args.now) c.self.view_is
    (c.acceptable.ensures (lookup_calls calls) (subst (λ k. Represents g.P.Ord.cmp k calls) (sym c.self.view_is) s).peers
    ∙ acceptable-free g.P.Ord.cmp c.self.inside.peers (lookup_calls calls) c.self.invariant.untested c.args.peer.now c.anywhere.result c.args.now)
