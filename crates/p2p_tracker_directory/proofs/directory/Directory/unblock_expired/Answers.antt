use Rattle.std.proofs.Common.{◌≡◌, sym, ◌∙◌, subst}
use Rattle.std.specs.BTreeMap.{is_at}
use Rattle.p2p_base.specs.Moments.{soonest}
use Rattle.p2p_tracker_directory.specs.Stands.{StandsFor, ends_by}
use Rattle.p2p_tracker_directory.proofs.Ended.{none_over}
use Rattle.p2p_tracker_directory.proofs.Standing.{stands-unblock, over-kept, none_over-kept}
use Rattle.p2p_tracker_directory.proofs.directory.Directory.unblock_expired.Goals as goal

pub returns-clause-due : goal.returns-clause-due
returns-clause-due g c = λ r calls s.
    over-kept g.met.C.Ord.total s c.args.now (subst (λ k. ends_by (soonest k.blocks) c.args.now ≡ c.take_ended.result) c.self.view_is (sym c.take_ended.ensures.answer) ∙ r)

pub returns-clause-none_due : goal.returns-clause-none_due
returns-clause-none_due g c = λ r calls s.
    none_over-kept g.met.C.Ord.total s c.args.now (subst (λ k. ends_by (soonest k.blocks) c.args.now ≡ c.take_ended.result) c.self.view_is (sym c.take_ended.ensures.answer) ∙ r)

pub returns-clause-stands : goal.returns-clause-stands
returns-clause-stands g c = λ calls s.
    let kept = subst (λ k. StandsFor g.C.Ord.cmp k calls) (sym c.self.view_is) s in
    stands-unblock g.met.C.Ord.total kept c.args.now c.take_ended.new.blocks (c.take_ended.ensures.each kept.ordered) (c.take_ended.ensures.ordered kept.ordered)

pub returns-clause-quiet : goal.returns-clause-quiet
returns-clause-quiet g c = λ r q.
    none_over (is_at (g.C.Ord.cmp q)) c.args.self.now.blocks c.args.now (subst (λ k. ends_by (soonest k.blocks) c.args.now ≡ c.take_ended.result) c.self.view_is (sym c.take_ended.ensures.answer) ∙ r)
