use Rattle.std.proofs.Common.{◌≡◌, false, sym, subst}
use Rattle.std.specs.Prelude.{IfSome}
use Rattle.p2p_tracker_mailbox.specs.Desk.{next_message}
use Rattle.p2p_discovery_directory.specs.Stepping.{IsQuiet, IsStep, MayTake}
use Rattle.p2p_discovery_directory.specs.Tracking.{Tracker}
use Rattle.p2p_discovery_directory.proofs.tracker.actor.Actor.step.Goals as goal

pub work-requires : goal.work-requires
work-requires g c =
    subst (λ (t : Tracker g.row.D.Denot g.row.P.Denot). t.has_failed ≡ false → IsQuiet g.D.DirectoryOf.has_due t.tracking.directory c.args.now
    → IfSome (next_message c.args.way.now.desk) (λ m. MayTake g.D.DirectoryOf.is_eligible g.D.DirectoryOf.is_reserved g.D.DirectoryOf.is_held g.D.DirectoryOf.has_record t.tracking.directory c.args.now m)) (sym c.self.view_is) c.requires.may_take c.if-self.false

pub returns-clause-step : goal.returns-clause-step
returns-clause-step g c =
    subst (λ (t : Tracker g.row.D.Denot g.row.P.Denot). IsStep g.D.DirectoryOf.answering g.D.DirectoryOf.is_eligible g.D.DirectoryOf.has_due g.P.Ord.cmp t.tracking c.args.way.now c.args.now c.args.seed c.in_ok-stepped.stepped c.work.new.self c.work.new.way) c.self.view_is c.in_ok-stepped.ensures
