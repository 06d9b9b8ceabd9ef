use Rattle.std.proofs.Common.{◌≡◌, Option, Some, refl, sym, ap, ◌∙◌, subst}
use Rattle.std.specs.Prelude.{IfSome}
use Rattle.p2p_tracker_mailbox.specs.Desk.{next_message}
use Rattle.p2p_discovery_directory.specs.Served.{IsServed}
use Rattle.p2p_discovery_directory.specs.Stepping.{IsQuiet, IsStep, MayTake}
use Rattle.p2p_discovery_directory.specs.Tracking.{Tracking}
use Rattle.p2p_discovery_directory.specs.declared.tracker.message.Message.{Message}
use Rattle.p2p_discovery_directory.specs.declared.tracker.stepped.Stepped.TheVariants as stepped
use Rattle.p2p_discovery_directory.proofs.tracker.actor.tracking.Tracking.work.Goals as goal

pub returns-then-unblock_expired : goal.returns-then-unblock_expired
returns-then-unblock_expired g c =
    let told = c.in_ok-put.ensures in
    let After : Tracking g.row.D.Denot g.row.P.Denot = record {
      directory = c.unblock_expired.new.self;
      own = c.self.inside.own;
      cooldown = c.self.inside.cooldown;
      most = c.self.inside.most;
      updates = c.self.inside.updates.items;
      sets = c.self.inside.sets.items;
      controls = c.self.inside.controls.entries;
    } in
    subst (λ (t : Tracking g.row.D.Denot g.row.P.Denot). IsStep g.D.DirectoryOf.answering g.D.DirectoryOf.is_eligible g.D.DirectoryOf.has_due g.P.Ord.cmp t c.args.way.now c.args.now c.args.seed (stepped.EndedBlocks c.in_ok-put.put) After c.args.way.now) c.self.view_is
    (c.unblock_expired.ensures.due c.if-unblock_expired.true, told.0, told.1, c.unblock_expired.ensures.stands, told.2, refl, refl)

pub returns-in-None : goal.returns-in-None
returns-in-None g c =
    let Kept : g.row.D.Denot → Tracking g.row.D.Denot g.row.P.Denot = λ d. record {
      directory = d;
      own = c.self.inside.own;
      cooldown = c.self.inside.cooldown;
      most = c.self.inside.most;
      updates = c.self.inside.updates.items;
      sets = c.self.inside.sets.items;
      controls = c.self.inside.controls.entries;
    } in
    subst (λ (t : Tracking g.row.D.Denot g.row.P.Denot). IsStep g.D.DirectoryOf.answering g.D.DirectoryOf.is_eligible g.D.DirectoryOf.has_due g.P.Ord.cmp t c.args.way.now c.args.now c.args.seed stepped.Idle (Kept c.unblock_expired.new.self) c.take.new.self) c.self.view_is
    (c.unblock_expired.ensures.none_due c.if-unblock_expired.false, sym c.take.ensures.value ∙ c.in-None.is, ap Kept (c.unblock_expired.ensures.kept c.if-unblock_expired.false), c.take.ensures.after)

pub returns-in_ok-put-in-Some : goal.returns-in_ok-put-in-Some
returns-in_ok-put-in-Some g c =
    let Kept : g.row.D.Denot → Tracking g.row.D.Denot g.row.P.Denot = λ d. record {
      directory = d;
      own = c.self.inside.own;
      cooldown = c.self.inside.cooldown;
      most = c.self.inside.most;
      updates = c.self.inside.updates.items;
      sets = c.self.inside.sets.items;
      controls = c.self.inside.controls.entries;
    } in
    let served = subst (λ (t : Tracking g.row.D.Denot g.row.P.Denot). IsServed g.D.DirectoryOf.answering g.D.DirectoryOf.is_eligible g.P.Ord.cmp c.args.now c.args.seed t c.serve.new.self c.in-Some.message c.in_ok-put-in-Some.put)
    (ap Kept (c.unblock_expired.ensures.kept c.if-unblock_expired.false)) c.in_ok-put-in-Some.ensures in
    subst (λ (t : Tracking g.row.D.Denot g.row.P.Denot). IsStep g.D.DirectoryOf.answering g.D.DirectoryOf.is_eligible g.D.DirectoryOf.has_due g.P.Ord.cmp t c.args.way.now c.args.now c.args.seed (stepped.Message c.in_ok-put-in-Some.put) c.serve.new.self c.take.new.self) c.self.view_is
    (c.unblock_expired.ensures.none_due c.if-unblock_expired.false, c.in-Some.message, sym c.take.ensures.value ∙ c.in-Some.is, served, c.take.ensures.after)

pub serve-requires : goal.serve-requires
serve-requires g c =
    let before = ap (λ (t : Tracking g.row.D.Denot g.row.P.Denot). t.directory) c.self.view_is in
    let quiet : IsQuiet g.D.DirectoryOf.has_due c.args.self.now.directory c.args.now =
    subst (λ d. IsQuiet g.D.DirectoryOf.has_due d c.args.now) before (c.unblock_expired.ensures.none_due c.if-unblock_expired.false) in
    let waits : next_message c.args.way.now.desk ≡ Some c.in-Some.message = sym c.take.ensures.value ∙ c.in-Some.is in
    let allowed = subst (λ (o : Option (Message g.row.P.Denot)). IfSome o (λ m. MayTake g.D.DirectoryOf.is_eligible g.D.DirectoryOf.is_reserved g.D.DirectoryOf.is_held g.D.DirectoryOf.has_record c.args.self.now.directory c.args.now m)) waits (c.requires quiet) in
    subst (λ d. MayTake g.D.DirectoryOf.is_eligible g.D.DirectoryOf.is_reserved g.D.DirectoryOf.is_held g.D.DirectoryOf.has_record d c.args.now c.in-Some.message) (sym (c.unblock_expired.ensures.kept c.if-unblock_expired.false ∙ before)) allowed
