use Rattle.std.proofs.Common.{◌≡◌, true, false, refl, sym, ap, ◌∙◌, subst}
use Rattle.p2p_discovery_directory.specs.declared.call.Call.TheVariants as call
use Rattle.p2p_discovery_directory.specs.AsLookup.{lookup_calls}
use Rattle.p2p_discovery_directory.specs.Plain.{Represents, SameTerms}
use Rattle.p2p_discovery_directory.specs.Tests.{holds, reserves, is_due_in}
use Rattle.p2p_discovery_directory.proofs.Representing.{plain_of, represents-quiet}
use Rattle.p2p_discovery_directory.proofs.Settled.{as-unblock, plain-unblock, held-after_unblock, reserved-after_unblock}
use Rattle.p2p_discovery_directory.proofs.Turned.{due-known}
use Rattle.p2p_discovery_directory.proofs.plain.answers.PlainDirectoryDirectoryOf.unblock_expired.Goals as goal

pub returns-clause-due : goal.returns-clause-due
returns-clause-due g c = λ r.
    subst (λ k. (q : g.row.P.Denot) × (is_due_in g.P.Ord.cmp k.peers q c.args.now ≡ true)) c.self.view_is
    (due-known c.self.invariant.stands.peers c.args.now (c.unblock_expired.ensures.due r (lookup_calls c.self.invariant.calls) c.self.invariant.stands.peers))

pub returns-clause-none_due : goal.returns-clause-none_due
returns-clause-none_due g c = λ r q. subst (λ k. is_due_in g.P.Ord.cmp k.peers q c.args.now ≡ false) c.self.view_is (c.unblock_expired.ensures.quiet r q)

pub returns-clause-terms : goal.returns-clause-terms
returns-clause-terms g c = subst (λ k. SameTerms k (plain_of c.unblock_expired.new.self c.self.inside.own c.self.inside.places.entries)) c.self.view_is (record { rules = c.unblock_expired.ensures.rules; own = refl })

pub returns-clause-stands : goal.returns-clause-stands
returns-clause-stands g c = λ calls s.
    let r = subst (λ k. Represents g.P.Ord.cmp k calls) (sym c.self.view_is) s in
    represents-quiet c.unblock_expired.ensures.rules calls r (call.UnblockExpired c.args.now) refl (as-unblock calls c.args.now (c.unblock_expired.ensures.stands (lookup_calls calls) r.peers))

pub returns-clause-held : goal.returns-clause-held
returns-clause-held g c = λ q.
    subst (λ k. holds g.P.Ord.cmp c.unblock_expired.new.self q ≡ holds g.P.Ord.cmp k.peers q) c.self.view_is
    (held-after_unblock c.self.invariant c.unblock_expired.ensures.rules c.args.now c.unblock_expired.ensures.stands q)

pub returns-clause-reserved : goal.returns-clause-reserved
returns-clause-reserved g c = λ q.
    subst (λ k. reserves g.P.Ord.cmp c.unblock_expired.new.self q ≡ reserves g.P.Ord.cmp k.peers q) c.self.view_is
    (reserved-after_unblock c.self.invariant c.unblock_expired.ensures.rules c.args.now c.unblock_expired.ensures.stands q)

pub invariant_of-self : goal.invariant_of-self
invariant_of-self g c = plain-unblock c.self.invariant c.unblock_expired.ensures.rules c.args.now c.unblock_expired.ensures.stands

pub returns-clause-kept : goal.returns-clause-kept
returns-clause-kept g c = λ r. ap (λ k. plain_of k c.self.inside.own c.self.inside.places.entries) (c.unblock_expired.ensures.kept r) ∙ c.self.view_is
