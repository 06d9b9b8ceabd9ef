use Rattle.std.proofs.Common.{not, ◌&&◌, sym, ap, ◌∙◌}
use Rattle.p2p_tracker_calls.specs.Lives.{is_stale}
use Rattle.p2p_tracker.proofs.Standing.{stands-barred, stands-moment}
use Rattle.p2p_tracker.proofs.actor.grants.accept.Goals as goal

pub returns-then-not-eligible-clause-answer : goal.returns-then-not-eligible-clause-answer
returns-then-not-eligible-clause-answer g c = λ calls s.
    ap (λ b. b && not (is_stale g.C.Ord.cmp c.args.directory.now.rules calls c.args.public_key.now)) (sym c.if-not-eligible.true ∙ c.eligible.ensures calls s)

pub returns-then-not-eligible-clause-stands : goal.returns-then-not-eligible-clause-stands
returns-then-not-eligible-clause-stands g c = λ calls conn s.
    stands-barred g.met.C.Ord.total s c.args.public_key.now c.args.now conn (sym (c.eligible.ensures calls s) ∙ c.if-not-eligible.true)

pub connect-requires : goal.connect-requires
connect-requires g c = c.requires (λ calls s. sym (c.eligible.ensures calls s) ∙ c.if-not-eligible.false)

pub returns-clause-answer : goal.returns-clause-answer
returns-clause-answer g c = λ calls s.
    c.connect.ensures.answer calls s
    ∙ ap (λ b. b && not (is_stale g.C.Ord.cmp c.args.directory.now.rules calls c.args.public_key.now)) (sym c.if-not-eligible.false ∙ c.eligible.ensures calls s)

pub returns-clause-stands : goal.returns-clause-stands
returns-clause-stands g c = λ calls conn s.
    stands-moment g.met.C.Ord.total c.args.directory.now c.connect.new.self calls c.args.public_key.now c.args.now conn c.connect.ensures.rules s
    (sym (c.eligible.ensures calls s) ∙ c.if-not-eligible.false) (c.connect.ensures.stands calls conn s)
