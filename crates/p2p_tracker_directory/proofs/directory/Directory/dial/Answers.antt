use Rattle.std.proofs.Common.{◌≡◌, true, false, sym, ◌∙◌, subst}
use Rattle.std.specs.Map.{lookup}
use Rattle.std.specs.BTreeMap.{is_at}
use Rattle.p2p_tracker_directory.specs.Recorded.{may_dial_in}
use Rattle.p2p_tracker_directory.specs.Stands.{StandsFor}
use Rattle.p2p_tracker_directory.proofs.Asked.{dial-barred, dial-free, dial-unknown, dial-stands, ingress-known}
use Rattle.p2p_tracker_directory.proofs.Standing.{stands-refused_dial}
use Rattle.p2p_tracker_directory.proofs.directory.Directory.dial.Goals as goal

pub returns-then-is_blocked-clause-granted : goal.returns-then-is_blocked-clause-granted
returns-then-is_blocked-clause-granted g c = λ calls s. dial-barred g.met.C.Ord.total s c.args.peer.now c.args.now (sym c.is_blocked.ensures ∙ c.if-is_blocked.true)

pub returns-then-is_blocked-clause-stands : goal.returns-then-is_blocked-clause-stands
returns-then-is_blocked-clause-stands g c = λ calls s. stands-refused_dial g.met.C.Ord.total s c.args.peer.now c.args.now c.args.jitter

pub returns-in_default-clause-granted : goal.returns-in_default-clause-granted
returns-in_default-clause-granted g c = λ calls s.
    dial-unknown g.met.C.Ord.total s c.args.peer.now c.args.now (sym c.is_blocked.ensures ∙ c.if-is_blocked.false) (sym c.in_ok-found.ensures ∙ c.in_default.is)

pub returns-in_default-clause-stands : goal.returns-in_default-clause-stands
returns-in_default-clause-stands g c = λ calls s. stands-refused_dial g.met.C.Ord.total s c.args.peer.now c.args.now c.args.jitter

pub returns-then-grant_dial-clause-granted : goal.returns-then-grant_dial-clause-granted
returns-then-grant_dial-clause-granted g c = λ calls s.
    dial-free g.met.C.Ord.total s c.args.peer.now c.args.now true c.grant_dial.result (sym c.is_blocked.ensures ∙ c.if-is_blocked.false) c.if-grant_dial.true
    (subst (λ k. c.grant_dial.result ≡ may_dial_in (lookup (is_at (g.C.Ord.cmp c.args.peer.now)) k.records) c.args.now k.rules.private k.rules.dns) c.self.view_is c.grant_dial.ensures.answer)

pub returns-then-grant_dial-clause-ingress : goal.returns-then-grant_dial-clause-ingress
returns-then-grant_dial-clause-ingress g c = λ calls s. ingress-known g.met.C.Ord.total s c.args.peer.now _ (sym c.in_ok-found.ensures ∙ c.in-Some.is)

pub returns-then-grant_dial-clause-stands : goal.returns-then-grant_dial-clause-stands
returns-then-grant_dial-clause-stands g c = λ calls s.
    dial-stands g.met.C.Ord.total (subst (λ k. StandsFor g.C.Ord.cmp k calls) (sym c.self.view_is) s) c.args.peer.now c.args.now c.args.jitter true
    c.grant_dial.result c.grant_dial.new.self.entries c.if-grant_dial.true c.grant_dial.ensures.answer c.grant_dial.ensures.after

pub returns-clause-granted : goal.returns-clause-granted
returns-clause-granted g c = λ calls s.
    dial-free g.met.C.Ord.total s c.args.peer.now c.args.now false c.grant_dial.result (sym c.is_blocked.ensures ∙ c.if-is_blocked.false) c.if-grant_dial.false
    (subst (λ k. c.grant_dial.result ≡ may_dial_in (lookup (is_at (g.C.Ord.cmp c.args.peer.now)) k.records) c.args.now k.rules.private k.rules.dns) c.self.view_is c.grant_dial.ensures.answer)

pub returns-clause-stands : goal.returns-clause-stands
returns-clause-stands g c = λ calls s.
    dial-stands g.met.C.Ord.total (subst (λ k. StandsFor g.C.Ord.cmp k calls) (sym c.self.view_is) s) c.args.peer.now c.args.now c.args.jitter false
    c.grant_dial.result c.grant_dial.new.self.entries c.if-grant_dial.false c.grant_dial.ensures.answer c.grant_dial.ensures.after
