use Rattle.std.proofs.Common.{◌≡◌, true, false, sym, ◌∙◌, subst}
use Rattle.std.specs.Map.{lookup}
use Rattle.std.specs.BTreeMap.{is_at}
use Rattle.p2p_tracker_directory.specs.Recorded.{may_listen_in}
use Rattle.p2p_tracker_directory.specs.Stands.{StandsFor}
use Rattle.p2p_tracker_directory.proofs.Asked.{listen-barred, listen-free, listen-stands}
use Rattle.p2p_tracker_directory.proofs.Standing.{stands-refused_listen}
use Rattle.p2p_tracker_directory.proofs.directory.Directory.listen.Goals as goal

pub returns-then-is_blocked-clause-granted : goal.returns-then-is_blocked-clause-granted
returns-then-is_blocked-clause-granted g c = λ calls s. listen-barred g.met.C.Ord.total s c.args.peer.now c.args.source c.args.now (sym c.is_blocked.ensures ∙ c.if-is_blocked.true)

pub returns-then-is_blocked-clause-stands : goal.returns-then-is_blocked-clause-stands
returns-then-is_blocked-clause-stands g c = λ calls s. stands-refused_listen g.met.C.Ord.total s c.args.peer.now c.args.now c.args.jitter

pub returns-then-grant_listen-clause-granted : goal.returns-then-grant_listen-clause-granted
returns-then-grant_listen-clause-granted g c = λ calls s.
    listen-free g.met.C.Ord.total s c.args.peer.now c.args.source c.args.now true c.grant_listen.result (sym c.is_blocked.ensures ∙ c.if-is_blocked.false) c.if-grant_listen.true
    (subst (λ k. c.grant_listen.result ≡ may_listen_in (lookup (is_at (g.C.Ord.cmp c.args.peer.now)) k.records) c.args.source c.args.now k.rules.bypass) c.self.view_is c.grant_listen.ensures.answer)

pub returns-then-grant_listen-clause-stands : goal.returns-then-grant_listen-clause-stands
returns-then-grant_listen-clause-stands g c = λ calls s.
    listen-stands g.met.C.Ord.total (subst (λ k. StandsFor g.C.Ord.cmp k calls) (sym c.self.view_is) s) c.args.peer.now c.args.source c.args.now c.args.jitter true
    c.grant_listen.result c.grant_listen.new.self.entries c.if-grant_listen.true c.grant_listen.ensures.answer c.grant_listen.ensures.after

pub returns-clause-granted : goal.returns-clause-granted
returns-clause-granted g c = λ calls s.
    listen-free g.met.C.Ord.total s c.args.peer.now c.args.source c.args.now false c.grant_listen.result (sym c.is_blocked.ensures ∙ c.if-is_blocked.false) c.if-grant_listen.false
    (subst (λ k. c.grant_listen.result ≡ may_listen_in (lookup (is_at (g.C.Ord.cmp c.args.peer.now)) k.records) c.args.source c.args.now k.rules.bypass) c.self.view_is c.grant_listen.ensures.answer)

pub returns-clause-stands : goal.returns-clause-stands
returns-clause-stands g c = λ calls s.
    listen-stands g.met.C.Ord.total (subst (λ k. StandsFor g.C.Ord.cmp k calls) (sym c.self.view_is) s) c.args.peer.now c.args.source c.args.now c.args.jitter false
    c.grant_listen.result c.grant_listen.new.self.entries c.if-grant_listen.false c.grant_listen.ensures.answer c.grant_listen.ensures.after
