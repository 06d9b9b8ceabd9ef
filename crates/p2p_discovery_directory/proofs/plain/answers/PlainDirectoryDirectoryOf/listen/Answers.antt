use Rattle.std.proofs.Common.{◌≡◌, true, ◌&&◌, ◌||◌, ◌∷◌, refl, sym, ap, ◌∙◌, subst}
use Rattle.std.specs.BTreeMap.{is_at}
use Rattle.std.specs.Prelude.{is_some}
use Rattle.p2p_tracker_calls.specs.declared.call.Call.TheVariants as asked
use Rattle.p2p_tracker_directory.specs.Stands.{StandsFor}
use Rattle.p2p_discovery_directory.specs.Allows.{allows_listen}
use Rattle.p2p_discovery_directory.specs.AsLookup.{lookup_calls}
use Rattle.p2p_discovery_directory.specs.declared.call.Call.TheVariants as call
use Rattle.p2p_discovery_directory.specs.Plain.{Represents, SameTerms, IsPlain}
use Rattle.p2p_discovery_directory.specs.Tests.{holds, reserves}
use Rattle.p2p_discovery_directory.proofs.Representing.{plain_of, represents-quiet}
use Rattle.p2p_discovery_directory.proofs.Settled.{as-listen, plain-listen, held-after_listen, reserved-after_listen}
use Rattle.p2p_discovery_directory.proofs.Turned.{listen-free, held-refused}
use Rattle.p2p_discovery_directory.proofs.plain.answers.PlainDirectoryDirectoryOf.listen.Goals as goal

pub returns-clause-granted : goal.returns-clause-granted
returns-clause-granted g c = λ calls s.
    subst (λ k. is_some c.listener_of.result ≡ allows_listen g.P.Ord.cmp k.peers.rules k.own calls c.args.peer.now c.args.now) c.self.view_is
    (c.listener_of.ensures.granted ∙ c.is_some.ensures
    ∙ c.in_ok-granted.ensures.granted (lookup_calls calls) (subst (λ k. Represents g.P.Ord.cmp k calls) (sym c.self.view_is) s).peers
    ∙ listen-free g.P.Ord.cmp c.self.inside.peers (lookup_calls calls) c.self.invariant.untested c.args.peer.now c.anywhere.result c.args.now)

pub returns-clause-refused : goal.returns-clause-refused
returns-clause-refused g c = λ held.
    held-refused c.self.invariant.stands.peers c.args.peer.now c.anywhere.result c.args.now c.listener_of.result
    (c.listener_of.ensures.granted ∙ c.is_some.ensures ∙ c.in_ok-granted.ensures.granted (lookup_calls c.self.invariant.calls) c.self.invariant.stands.peers)
    (subst (λ k. holds g.P.Ord.cmp k.peers c.args.peer.now ≡ true) (sym c.self.view_is) held)

pub returns-clause-terms : goal.returns-clause-terms
returns-clause-terms g c = subst (λ k. SameTerms k (plain_of c.listen.new.self c.self.inside.own c.self.inside.places.entries)) c.self.view_is (record { rules = c.listen.ensures.rules; own = refl })

pub returns-clause-stands : goal.returns-clause-stands
returns-clause-stands g c = λ calls s.
    let r = subst (λ k. Represents g.P.Ord.cmp k calls) (sym c.self.view_is) s in
    represents-quiet c.listen.ensures.rules calls r (call.Listen c.args.peer.now c.args.now c.args.jitter (is_some c.listener_of.result)) refl
    (as-listen calls c.args.peer.now c.args.now c.args.jitter (is_some c.listener_of.result)
    (subst (λ b. StandsFor g.P.Ord.cmp c.listen.new.self (asked.Listen c.args.peer.now c.args.now c.args.jitter b ∷ lookup_calls calls)) (sym (c.listener_of.ensures.granted ∙ c.is_some.ensures))
    (c.in_ok-granted.ensures.stands (lookup_calls calls) r.peers)))

pub returns-clause-held : goal.returns-clause-held
returns-clause-held g c = λ q.
    subst (λ k. holds g.P.Ord.cmp c.listen.new.self q ≡ (holds g.P.Ord.cmp k.peers q || (is_some c.listener_of.result && is_at (g.P.Ord.cmp c.args.peer.now) q))) c.self.view_is
    (held-after_listen c.self.invariant c.listen.ensures.rules g.met.P.Ord.total c.args.peer.now c.anywhere.result c.args.now c.args.jitter (is_some c.listener_of.result)
    (λ calls s. c.listener_of.ensures.granted ∙ c.is_some.ensures ∙ c.in_ok-granted.ensures.granted calls s)
    (λ calls s. subst (λ b. StandsFor g.P.Ord.cmp c.listen.new.self (asked.Listen c.args.peer.now c.args.now c.args.jitter b ∷ calls)) (sym (c.listener_of.ensures.granted ∙ c.is_some.ensures))
    (c.in_ok-granted.ensures.stands calls s)) q)

pub returns-clause-reserved : goal.returns-clause-reserved
returns-clause-reserved g c = λ q.
    subst (λ k. reserves g.P.Ord.cmp c.listen.new.self q ≡ (reserves g.P.Ord.cmp k.peers q || (is_some c.listener_of.result && is_at (g.P.Ord.cmp c.args.peer.now) q))) c.self.view_is
    (reserved-after_listen c.self.invariant c.listen.ensures.rules g.met.P.Ord.total c.args.peer.now c.anywhere.result c.args.now c.args.jitter (is_some c.listener_of.result)
    (λ calls s. c.listener_of.ensures.granted ∙ c.is_some.ensures ∙ c.in_ok-granted.ensures.granted calls s)
    (λ calls s. subst (λ b. StandsFor g.P.Ord.cmp c.listen.new.self (asked.Listen c.args.peer.now c.args.now c.args.jitter b ∷ calls)) (sym (c.listener_of.ensures.granted ∙ c.is_some.ensures))
    (c.in_ok-granted.ensures.stands calls s)) q)

pub invariant_of-self : goal.invariant_of-self
invariant_of-self g c = subst (λ k. IsPlain g.P.Ord.cmp (plain_of k c.self.inside.own c.self.inside.places.entries)) (sym c.in_err-granted.ensures.memory) c.self.invariant

pub invariant_of-self-2 : goal.invariant_of-self-2
invariant_of-self-2 g c =
    plain-listen c.self.invariant c.listen.ensures.rules c.args.peer.now c.args.now c.args.jitter (is_some c.listener_of.result)
    (λ calls s. subst (λ b. StandsFor g.P.Ord.cmp c.listen.new.self (asked.Listen c.args.peer.now c.args.now c.args.jitter b ∷ calls)) (sym (c.listener_of.ensures.granted ∙ c.is_some.ensures))
    (c.in_ok-granted.ensures.stands calls s))
