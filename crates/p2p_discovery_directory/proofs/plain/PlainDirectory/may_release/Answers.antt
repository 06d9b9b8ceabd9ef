use Rattle.std.proofs.Common.{◌≡◌, ◌||◌, not, ◌∙◌, subst}
use Rattle.p2p_discovery_directory.specs.Tests.{holds, knows}
use Rattle.p2p_discovery_directory.proofs.Turned.{may-release-known}
use Rattle.p2p_discovery_directory.proofs.plain.PlainDirectory.may_release.Goals as goal

pub returns : goal.returns
returns g c =
    subst (λ k. c.may_release.result ≡ (holds g.P.Ord.cmp k.peers c.args.peer.now || not (knows g.P.Ord.cmp k.peers c.args.peer.now))) c.self.view_is
    (c.may_release.ensures ∙ may-release-known g.P.Ord.cmp c.self.inside.peers c.args.peer.now)
