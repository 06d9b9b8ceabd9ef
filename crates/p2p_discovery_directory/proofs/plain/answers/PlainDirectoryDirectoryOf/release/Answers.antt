use Rattle.std.proofs.Common.{◌≡◌, true, ◌&&◌, ◌||◌, not, ◌∷◌, refl, sym, ◌∙◌, subst}
use Rattle.std.specs.BTreeMap.{is_at}
use Rattle.std.specs.Map.{lookup}
use Rattle.p2p_tracker_directory.specs.Recorded.{is_held_or_unknown}
use Rattle.p2p_tracker_directory.specs.Reserved.{peer_of as lookup_peer_of}
use Rattle.p2p_discovery_directory.specs.declared.call.Call.TheVariants as call
use Rattle.p2p_discovery_directory.specs.Plain.{Represents, SameTerms, IsPlain}
use Rattle.p2p_discovery_directory.specs.Reserved.{peer_of}
use Rattle.p2p_discovery_directory.specs.Tests.{holds, reserves, knows}
use Rattle.p2p_discovery_directory.proofs.Forgetting.{told-release, plain-release, ended-of}
use Rattle.p2p_discovery_directory.proofs.Representing.{plain_of}
use Rattle.p2p_discovery_directory.proofs.Settled.{held-after_release, reserved-after_release}
use Rattle.p2p_discovery_directory.proofs.Turned.{may-release}
use Rattle.p2p_discovery_directory.proofs.plain.answers.PlainDirectoryDirectoryOf.release.Goals as goal

pub release-requires : goal.release-requires
release-requires g c =
    let p = peer_of c.args.metadata.now in
    subst (λ x. is_held_or_unknown (lookup (is_at (g.P.Ord.cmp x)) c.self.inside.peers.records) ≡ true) (sym c.named-held.ensures)
    (may-release g.P.Ord.cmp c.self.inside.peers p (subst (λ k. (holds g.P.Ord.cmp k.peers p || not (knows g.P.Ord.cmp k.peers p)) ≡ true) (sym c.self.view_is) c.requires))

pub returns-clause-terms : goal.returns-clause-terms
returns-clause-terms g c =
    subst (λ k. SameTerms k (plain_of c.release.new.self c.self.inside.own c.forget_ended.new.places.entries)) c.self.view_is (record { rules = c.release.ensures.rules; own = refl })

pub returns-clause-stands : goal.returns-clause-stands
returns-clause-stands g c = λ calls s.
    subst (λ p. Represents g.P.Ord.cmp (plain_of c.release.new.self c.self.inside.own c.forget_ended.new.places.entries) (call.Release p ∷ calls)) c.named-held.ensures
    (told-release g.met.P.Ord.total c.self.invariant c.release.ensures.rules (lookup_peer_of c.named-held.result) c.forget_ended.new.places.entries
    (ended-of g.P.Ord.cmp c.release.new.self c.self.inside.places.entries c.forget_ended.new.places.entries c.public_key-peer.result.now (lookup_peer_of c.named-held.result) (c.public_key-peer.ensures ∙ sym c.named-held.ensures) c.forget_ended.ensures)
    c.release.ensures.stands calls (subst (λ k. Represents g.P.Ord.cmp k calls) (sym c.self.view_is) s))

pub returns-clause-held : goal.returns-clause-held
returns-clause-held g c = λ q.
    subst (λ k. holds g.P.Ord.cmp c.release.new.self q ≡ (holds g.P.Ord.cmp k.peers q && not (is_at (g.P.Ord.cmp (peer_of c.args.metadata.now)) q))) c.self.view_is
    (subst (λ p. holds g.P.Ord.cmp c.release.new.self q ≡ (holds g.P.Ord.cmp c.self.inside.peers q && not (is_at (g.P.Ord.cmp p) q))) c.named-held.ensures
    (held-after_release c.self.invariant c.release.ensures.rules (lookup_peer_of c.named-held.result) c.release.ensures.stands q))

pub returns-clause-reserved : goal.returns-clause-reserved
returns-clause-reserved g c = λ q.
    subst (λ k. reserves g.P.Ord.cmp c.release.new.self q ≡ (reserves g.P.Ord.cmp k.peers q && not (is_at (g.P.Ord.cmp (peer_of c.args.metadata.now)) q))) c.self.view_is
    (subst (λ p. reserves g.P.Ord.cmp c.release.new.self q ≡ (reserves g.P.Ord.cmp c.self.inside.peers q && not (is_at (g.P.Ord.cmp p) q))) c.named-held.ensures
    (reserved-after_release c.self.invariant c.release.ensures.rules (lookup_peer_of c.named-held.result) c.release.ensures.stands q))

pub invariant_of-self : goal.invariant_of-self
invariant_of-self g c =
    plain-release g.met.P.Ord.total c.self.invariant c.release.ensures.rules (lookup_peer_of c.named-held.result) c.forget_ended.new.places.entries
    (ended-of g.P.Ord.cmp c.release.new.self c.self.inside.places.entries c.forget_ended.new.places.entries c.public_key-peer.result.now (lookup_peer_of c.named-held.result) (c.public_key-peer.ensures ∙ sym c.named-held.ensures) c.forget_ended.ensures)
    c.release.ensures.stands
