use Rattle.std.proofs.Common.{◌≡◌, true, false, Some, ◌&&◌, ◌||◌, ◌∷◌, refl, sym, ap, ◌∙◌, subst}
use Rattle.std.specs.BTreeMap.{is_at}
use Rattle.std.specs.Prelude.{is_some}
use Rattle.p2p_tracker_calls.specs.declared.call.Call.TheVariants as asked
use Rattle.p2p_tracker_directory.specs.Stands.{StandsFor}
use Rattle.p2p_discovery_directory.specs.declared.call.Call.TheVariants as call
use Rattle.p2p_discovery_directory.specs.Allows.{allows_dial}
use Rattle.p2p_discovery_directory.specs.AsLookup.{lookup_calls}
use Rattle.p2p_discovery_directory.specs.Plain.{Represents, SameTerms, IsPlain, dialed_at}
use Rattle.p2p_discovery_directory.specs.Tests.{holds, reserves}
use Rattle.p2p_discovery_directory.proofs.Dialed.{as-dial, as-refused, dial-never, dial-free, dial-told, peer-told}
use Rattle.p2p_discovery_directory.proofs.Representing.{plain_of, represents-quiet}
use Rattle.p2p_discovery_directory.proofs.Settled.{plain-dial, held-after_listen, reserved-after_listen}
use Rattle.p2p_discovery_directory.proofs.Turned.{listen-free, held-refused}
use Rattle.p2p_discovery_directory.proofs.plain.answers.PlainDirectoryDirectoryOf.dial.Goals as goal

pub returns-in_default-clause-granted : goal.returns-in_default-clause-granted
returns-in_default-clause-granted g c = λ calls s. dial-never s c.args.peer.now c.args.now (sym c.in_ok-found.ensures ∙ c.in_default.is)

pub returns-in_default-clause-stands : goal.returns-in_default-clause-stands
returns-in_default-clause-stands g c = λ calls s.
    let r = subst (λ k. Represents g.P.Ord.cmp k calls) (sym c.self.view_is) s in
    subst (λ k. Represents g.P.Ord.cmp k (call.Dial c.args.peer.now c.args.now c.args.jitter false ∷ calls)) c.self.view_is
    (represents-quiet refl calls r (call.Dial c.args.peer.now c.args.now c.args.jitter false) refl (as-refused calls c.args.peer.now c.args.now c.args.jitter g.met.P.Ord.total r.peers))

pub returns-clause-granted : goal.returns-clause-granted
returns-clause-granted g c = λ calls s.
    let r = subst (λ k. Represents g.P.Ord.cmp k calls) (sym c.self.view_is) s in
    subst (λ k. is_some c.dialer_of.result ≡ allows_dial g.P.Ord.cmp k.peers.rules k.own calls c.args.peer.now c.args.now) c.self.view_is
    (c.dialer_of.ensures.granted ∙ c.is_some.ensures ∙ c.in_ok-granted.ensures.granted (lookup_calls calls) r.peers
    ∙ listen-free g.P.Ord.cmp c.self.inside.peers (lookup_calls calls) c.self.invariant.untested c.args.peer.now c.anywhere.result c.args.now
    ∙ dial-free r c.args.peer.now c.args.now c.in-Some.ingress (subst (λ k. dialed_at g.P.Ord.cmp k c.args.peer.now ≡ Some c.in-Some.ingress) (sym c.self.view_is) (sym c.in_ok-found.ensures ∙ c.in-Some.is)))

pub returns-clause-refused : goal.returns-clause-refused
returns-clause-refused g c = λ held.
    held-refused c.self.invariant.stands.peers c.args.peer.now c.anywhere.result c.args.now c.dialer_of.result
    (c.dialer_of.ensures.granted ∙ c.is_some.ensures ∙ c.in_ok-granted.ensures.granted (lookup_calls c.self.invariant.calls) c.self.invariant.stands.peers)
    (subst (λ k. holds g.P.Ord.cmp k.peers c.args.peer.now ≡ true) (sym c.self.view_is) held)

pub returns-clause-metadata : goal.returns-clause-metadata
returns-clause-metadata g c = peer-told c.args.peer.now c.in-Some.ingress c.dialer_of.result c.dialer_of.ensures.metadata

pub returns-clause-ingress : goal.returns-clause-ingress
returns-clause-ingress g c = dial-told g.P.Ord.cmp c.args.self.now c.args.peer.now c.in-Some.ingress c.dialer_of.result (sym c.in_ok-found.ensures ∙ c.in-Some.is) c.dialer_of.ensures.metadata

pub returns-clause-terms : goal.returns-clause-terms
returns-clause-terms g c = subst (λ k. SameTerms k (plain_of c.listen.new.self c.self.inside.own c.self.inside.places.entries)) c.self.view_is (record { rules = c.listen.ensures.rules; own = refl })

pub returns-clause-stands : goal.returns-clause-stands
returns-clause-stands g c = λ calls s.
    let r = subst (λ k. Represents g.P.Ord.cmp k calls) (sym c.self.view_is) s in
    represents-quiet c.listen.ensures.rules calls r (call.Dial c.args.peer.now c.args.now c.args.jitter (is_some c.dialer_of.result)) refl
    (as-dial calls c.args.peer.now c.args.now c.args.jitter (is_some c.dialer_of.result)
    (subst (λ b. StandsFor g.P.Ord.cmp c.listen.new.self (asked.Listen c.args.peer.now c.args.now c.args.jitter b ∷ lookup_calls calls)) (sym (c.dialer_of.ensures.granted ∙ c.is_some.ensures))
    (c.in_ok-granted.ensures.stands (lookup_calls calls) r.peers)))

pub returns-clause-held : goal.returns-clause-held
returns-clause-held g c = λ q.
    subst (λ k. holds g.P.Ord.cmp c.listen.new.self q ≡ (holds g.P.Ord.cmp k.peers q || (is_some c.dialer_of.result && is_at (g.P.Ord.cmp c.args.peer.now) q))) c.self.view_is
    (held-after_listen c.self.invariant c.listen.ensures.rules g.met.P.Ord.total c.args.peer.now c.anywhere.result c.args.now c.args.jitter (is_some c.dialer_of.result)
    (λ calls s. c.dialer_of.ensures.granted ∙ c.is_some.ensures ∙ c.in_ok-granted.ensures.granted calls s)
    (λ calls s. subst (λ b. StandsFor g.P.Ord.cmp c.listen.new.self (asked.Listen c.args.peer.now c.args.now c.args.jitter b ∷ calls)) (sym (c.dialer_of.ensures.granted ∙ c.is_some.ensures))
    (c.in_ok-granted.ensures.stands calls s)) q)

pub returns-clause-reserved : goal.returns-clause-reserved
returns-clause-reserved g c = λ q.
    subst (λ k. reserves g.P.Ord.cmp c.listen.new.self q ≡ (reserves g.P.Ord.cmp k.peers q || (is_some c.dialer_of.result && is_at (g.P.Ord.cmp c.args.peer.now) q))) c.self.view_is
    (reserved-after_listen c.self.invariant c.listen.ensures.rules g.met.P.Ord.total c.args.peer.now c.anywhere.result c.args.now c.args.jitter (is_some c.dialer_of.result)
    (λ calls s. c.dialer_of.ensures.granted ∙ c.is_some.ensures ∙ c.in_ok-granted.ensures.granted calls s)
    (λ calls s. subst (λ b. StandsFor g.P.Ord.cmp c.listen.new.self (asked.Listen c.args.peer.now c.args.now c.args.jitter b ∷ calls)) (sym (c.dialer_of.ensures.granted ∙ c.is_some.ensures))
    (c.in_ok-granted.ensures.stands calls s)) q)

pub invariant_of-self : goal.invariant_of-self
invariant_of-self g c = subst (λ k. IsPlain g.P.Ord.cmp (plain_of k c.self.inside.own c.self.inside.places.entries)) (sym c.in_err-granted.ensures.memory) c.self.invariant

pub invariant_of-self-2 : goal.invariant_of-self-2
invariant_of-self-2 g c =
    plain-dial c.self.invariant c.listen.ensures.rules c.args.peer.now c.args.now c.args.jitter (is_some c.dialer_of.result)
    (λ calls s. subst (λ b. StandsFor g.P.Ord.cmp c.listen.new.self (asked.Listen c.args.peer.now c.args.now c.args.jitter b ∷ calls)) (sym (c.dialer_of.ensures.granted ∙ c.is_some.ensures))
    (c.in_ok-granted.ensures.stands calls s))
