use Rattle.std.proofs.Common.{◌≡◌, sym, ◌∙◌, subst}
use Rattle.p2p_tracker_calls.specs.Lives.{is_eligible}
use Rattle.p2p_tracker_directory.proofs.Standing.{is_eligible-kept}
use Rattle.p2p_discovery_directory.specs.AsLookup.{lookup_calls}
use Rattle.p2p_discovery_directory.specs.Plain.{Represents}
use Rattle.p2p_discovery_directory.specs.Tests.{admits}
use Rattle.p2p_discovery_directory.proofs.plain.answers.PlainDirectoryDirectoryOf.eligible.Goals as goal

pub returns-clause-value : goal.returns-clause-value
returns-clause-value g c =
    subst (λ k. c.eligible.result ≡ admits g.P.Ord.cmp k.peers c.args.peer.now c.args.now) c.self.view_is
    (c.eligible.ensures (lookup_calls c.self.invariant.calls) c.self.invariant.stands.peers ∙ is_eligible-kept g.met.P.Ord.total c.self.invariant.stands.peers c.args.peer.now c.args.now)

pub returns-clause-exactly : goal.returns-clause-exactly
returns-clause-exactly g c = λ calls s.
    subst (λ k. c.eligible.result ≡ is_eligible g.P.Ord.cmp k.peers.rules (lookup_calls calls) c.args.peer.now c.args.now) c.self.view_is
    (c.eligible.ensures (lookup_calls calls) (subst (λ k. Represents g.P.Ord.cmp k calls) (sym c.self.view_is) s).peers)
