use Rattle.std.proofs.Common.{◌++◌, Some, ap, ◌∙◌, subst}
use Rattle.std.specs.Prelude.{is_some, IfSome}
use Rattle.p2p_discovery_directory.specs.Putting.{kills_put, told_of_sets}
use Rattle.p2p_discovery_directory.specs.Served.{IsServed}
use Rattle.p2p_discovery_directory.specs.Tracking.{Tracking}
use Rattle.p2p_discovery_directory.specs.declared.call.Call.TheVariants as call
use Rattle.p2p_discovery_directory.specs.declared.tracker.message.Message.TheVariants as message
use Rattle.p2p_discovery_directory.proofs.tracker.actor.tracking.Tracking.register.Goals as goal

pub returns : goal.returns
returns g c =
    let killed = subst (λ o. IfSome o (λ k. g.D.DirectoryOf.answering.kills c.self.inside.directory c.args.index c.args.peers k)) c.in-Some.is c.in_ok-taken.ensures.killed in
    let After : Tracking g.row.D.Denot g.row.P.Denot = record {
      directory = c.track.new.self;
      own = c.self.inside.own;
      cooldown = c.self.inside.cooldown;
      most = c.self.inside.most;
      updates = c.self.inside.updates.items;
      sets = c.self.inside.sets.items;
      controls = c.tell_of_set.new.controls.entries;
    } in
    subst (λ (t : Tracking g.row.D.Denot g.row.P.Denot). IsServed g.D.DirectoryOf.answering g.D.DirectoryOf.is_eligible g.P.Ord.cmp c.args.now c.args.seed t After (message.Register c.args.index c.args.peers) c.in_ok-tell_of_set.field-0) c.self.view_is (
      Some c.in-Some.killed,
      c.in_ok-update.update,
      subst (λ o. g.D.DirectoryOf.answering.takes_in c.self.inside.directory c.args.index (is_some o)) c.in-Some.is c.in_ok-taken.ensures.accepted,
      (killed, c.in_ok-update.ensures),
      c.in_ok-taken.ensures.stands,
      c.in_ok-tell_of_set.ensures.put ∙ ap (λ xs. kills_put g.P.Ord.cmp c.self.inside.controls.entries c.in-Some.killed ++ told_of_sets xs c.in_ok-update.update) c.as_slice-tickets.ensures.value,
      ap (λ xs. record After { controls = xs }) c.in_ok-tell_of_set.ensures.controls,
    )
