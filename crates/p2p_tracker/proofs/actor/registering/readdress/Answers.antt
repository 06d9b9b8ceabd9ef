use Rattle.std.proofs.Common.{true, false, refl, sym, ◌∙◌}
use Rattle.p2p_tracker.proofs.Following.{follows-overwrite}
use Rattle.p2p_tracker.proofs.actor.registering.readdress.Goals as goal

pub returns-then-not-has_changed-clause-follows : goal.returns-then-not-has_changed-clause-follows
returns-then-not-has_changed-clause-follows g c = λ calls f.
    follows-overwrite g.met.C.Ord.total c.args.directory.now c.overwrite.new.self c.args.controls.now.entries c.args.controls.now.entries calls c.in_ok-has_changed.ensures.rules f
    c.args.peer.now c.args.address false (sym c.if-not-has_changed.true ∙ c.in_ok-has_changed.ensures.answer calls f.stands) (c.in_ok-has_changed.ensures.stands calls f.stands) (λ q. refl)

pub returns-clause-follows : goal.returns-clause-follows
returns-clause-follows g c = λ calls f.
    follows-overwrite g.met.C.Ord.total c.args.directory.now c.overwrite.new.self c.args.controls.now.entries c.kill.new.controls.entries calls c.in_ok-has_changed.ensures.rules f
    c.args.peer.now c.args.address true (sym c.if-not-has_changed.false ∙ c.in_ok-has_changed.ensures.answer calls f.stands) (c.in_ok-has_changed.ensures.stands calls f.stands) c.kill.ensures.each

pub returns-then-not-has_changed-clause-answer : goal.returns-then-not-has_changed-clause-answer
returns-then-not-has_changed-clause-answer g c = λ calls s. sym c.if-not-has_changed.true ∙ c.in_ok-has_changed.ensures.answer calls s

pub returns-clause-answer : goal.returns-clause-answer
returns-clause-answer g c = λ calls s. sym c.if-not-has_changed.false ∙ c.in_ok-has_changed.ensures.answer calls s
