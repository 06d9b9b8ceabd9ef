use Rattle.std.proofs.Common.{◌≡◌, ℕ, Bool, List, Option, Some, sym, ap, ◌∙◌, subst}
use Rattle.std.specs.Prelude.{IfSome}
use Rattle.p2p_address.specs.declared.ip.IpAddr.{IpAddr}
use Rattle.p2p_tracker_directory.specs.Stands.{Kept}
use Rattle.p2p_tracker_mailbox.specs.Desk.{next_message}
use Rattle.p2p_tracker_mailbox.specs.Mailboxes.{runs_in}
use Rattle.p2p_tracker_mailbox.specs.declared.mailbox.Mailbox.{Mailbox}
use Rattle.p2p_tracker_mailbox.specs.declared.message.Message.{Message}
use Rattle.p2p_tracker.specs.Putting.{IsPut, IsPutBy}
use Rattle.p2p_tracker.specs.Serving.{IsQuietIn, MayTake}
use Rattle.p2p_tracker.specs.Stepping.{IsStepOf}
use Rattle.p2p_tracker.specs.Tracking.{Tracking}
use Rattle.p2p_tracker.specs.declared.stepped.Stepped.TheVariants as stepped
use Rattle.p2p_tracker.proofs.Stepping.{ended_step, idle_step, message_step}
use Rattle.p2p_tracker.proofs.actor.Actor.work.Goals as goal

pub returns-then-unblock_expired-clause-step : goal.returns-then-unblock_expired-clause-step
returns-then-unblock_expired-clause-step g c =
    let T : Tracking g.row.C.Denot = record {
      directory = c.self.inside.directory;
      cooldown = c.self.inside.cooldown;
      updates = c.self.inside.updates.items;
      sets = c.self.inside.sets.items;
      controls = c.self.inside.controls.entries;
      has_failed = c.self.inside.has_failed;
    } in
    subst (λ (t : Tracking g.row.C.Denot). IsStepOf g.C.Ord.cmp t c.args.way.now c.args.now c.args.seed (stepped.EndedBlocks c.in_ok-put.put) (record T { directory = c.unblock_expired.new.self }) c.ended_blocks.new.way) c.self.view_is
    (ended_step g.C.Ord.cmp T c.unblock_expired.new.self c.args.way.now c.args.now c.args.seed c.ended_blocks.new.way c.in_ok-put.put
    c.unblock_expired.ensures.rules (c.unblock_expired.ensures.due c.if-unblock_expired.true) c.unblock_expired.ensures.stands c.in_ok-put.ensures.desk)

pub returns-in-None-clause-step : goal.returns-in-None-clause-step
returns-in-None-clause-step g c =
    let T : Tracking g.row.C.Denot = record {
      directory = c.self.inside.directory;
      cooldown = c.self.inside.cooldown;
      updates = c.self.inside.updates.items;
      sets = c.self.inside.sets.items;
      controls = c.self.inside.controls.entries;
      has_failed = c.self.inside.has_failed;
    } in
    subst (λ (t : Tracking g.row.C.Denot). IsStepOf g.C.Ord.cmp t c.args.way.now c.args.now c.args.seed stepped.Idle (record T { directory = c.unblock_expired.new.self }) c.take.new.self) c.self.view_is
    (idle_step g.C.Ord.cmp T c.unblock_expired.new.self c.args.way.now c.args.now c.args.seed c.take.new.self
    (c.unblock_expired.ensures.kept c.if-unblock_expired.false) (c.unblock_expired.ensures.none_due c.if-unblock_expired.false)
    (sym c.take.ensures.value ∙ c.in-None.is) c.take.ensures.after)

pub returns-in_ok-put-in-Some-clause-step : goal.returns-in_ok-put-in-Some-clause-step
returns-in_ok-put-in-Some-clause-step g c =
    let T : Tracking g.row.C.Denot = record {
      directory = c.self.inside.directory;
      cooldown = c.self.inside.cooldown;
      updates = c.self.inside.updates.items;
      sets = c.self.inside.sets.items;
      controls = c.self.inside.controls.entries;
      has_failed = c.self.inside.has_failed;
    } in
    let did = c.in_ok-put-in-Some.ensures in
    subst (λ (t : Tracking g.row.C.Denot). IsStepOf g.C.Ord.cmp t c.args.way.now c.args.now c.args.seed (stepped.Message c.in_ok-put-in-Some.put) c.serve.new.self c.serve.new.way) c.self.view_is
    (message_step g.C.Ord.cmp T c.unblock_expired.new.self c.args.way.now c.args.now c.args.seed c.serve.new.self c.take.new.self c.serve.new.way
    c.in-Some.message c.in_ok-put-in-Some.put
    (c.unblock_expired.ensures.kept c.if-unblock_expired.false) (c.unblock_expired.ensures.none_due c.if-unblock_expired.false)
    (sym c.take.ensures.value ∙ c.in-Some.is) c.take.ensures.after did.stands did.follows did.rules c.serve.ensures.cooldown did.desk did.updates did.sets)

pub returns-in_ok-put-in-Some-clause-put : goal.returns-in_ok-put-in-Some-clause-put
returns-in_ok-put-in-Some-clause-put g c =
    let same = c.unblock_expired.ensures.kept c.if-unblock_expired.false in
    let oldest : next_message c.args.way.now.desk ≡ c.take.result = sym c.take.ensures.value in
    let waiting = ap (λ (m : Mailbox g.row.C.Denot). m.desk.sets) c.take.ensures.after in
    let heard = ap (λ (m : Mailbox g.row.C.Denot). m.heard) c.take.ensures.after in
    let runs = ap (λ (m : Mailbox g.row.C.Denot). runs_in m) c.take.ensures.after in
    let Before : Kept g.row.C.Denot → Tracking g.row.C.Denot = λ d. record { directory = d; cooldown = c.self.inside.cooldown; updates = c.self.inside.updates.items; sets = c.self.inside.sets.items; controls = c.self.inside.controls.entries; has_failed = c.self.inside.has_failed } in
    subst (λ (o : Option (Message g.row.C.Denot)). IsPutBy g.C.Ord.cmp c.args.self.now c.serve.new.self c.args.way.now.desk.sets c.args.way.now.heard (runs_in c.args.way.now) c.args.now (stepped.Message c.in_ok-put-in-Some.put) o) (sym (oldest ∙ c.in-Some.is))
    (subst (λ (t : Tracking g.row.C.Denot). IsPut g.C.Ord.cmp t c.serve.new.self c.args.way.now.desk.sets c.args.way.now.heard (runs_in c.args.way.now) c.args.now c.in-Some.message c.in_ok-put-in-Some.put) (ap Before same ∙ c.self.view_is)
    (subst (λ (w : List (Option (List g.row.C.Denot))). IsPut g.C.Ord.cmp (Before c.unblock_expired.new.self) c.serve.new.self w c.args.way.now.heard (runs_in c.args.way.now) c.args.now c.in-Some.message c.in_ok-put-in-Some.put) waiting
    (subst (λ (w : Option (List IpAddr)). IsPut g.C.Ord.cmp (Before c.unblock_expired.new.self) c.serve.new.self c.take.new.self.desk.sets w (runs_in c.args.way.now) c.args.now c.in-Some.message c.in_ok-put-in-Some.put) heard
    (subst (λ (r : ℕ → Bool). IsPut g.C.Ord.cmp (Before c.unblock_expired.new.self) c.serve.new.self c.take.new.self.desk.sets c.take.new.self.heard r c.args.now c.in-Some.message c.in_ok-put-in-Some.put) runs
    c.in_ok-put-in-Some.ensures.put))))

pub serve-requires : goal.serve-requires
serve-requires g c =
    let before = ap (λ (t : Tracking g.row.C.Denot). t.directory) c.self.view_is in
    let same = c.unblock_expired.ensures.kept c.if-unblock_expired.false ∙ before in
    let quiet : IsQuietIn g.C.Ord.cmp c.args.self.now.directory c.args.now =
    subst (λ (k : Kept g.row.C.Denot). IsQuietIn g.C.Ord.cmp k c.args.now) before (c.unblock_expired.ensures.quiet c.if-unblock_expired.false) in
    let oldest : next_message c.args.way.now.desk ≡ Some c.in-Some.message = sym c.take.ensures.value ∙ c.in-Some.is in
    let allowed : MayTake g.C.Ord.cmp c.args.self.now.directory c.in-Some.message c.args.now =
    subst (λ (o : Option (Message g.row.C.Denot)). IfSome o (λ m. MayTake g.C.Ord.cmp c.args.self.now.directory m c.args.now)) oldest (c.requires quiet) in
    subst (λ (k : Kept g.row.C.Denot). MayTake g.C.Ord.cmp k c.in-Some.message c.args.now) (sym same) allowed
