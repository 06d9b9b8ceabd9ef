use Rattle.std.proofs.Common.{◌++◌, ap, ◌∙◌, subst}
use Rattle.std.specs.Map.{lookup}
use Rattle.std.specs.BTreeMap.{is_at}
use Rattle.p2p_discovery_directory.specs.Putting.{kill_put, told_of_blocks}
use Rattle.p2p_discovery_directory.specs.Served.{IsServed}
use Rattle.p2p_discovery_directory.specs.Tracking.{Tracking}
use Rattle.p2p_discovery_directory.specs.declared.call.Call.TheVariants as call
use Rattle.p2p_discovery_directory.specs.declared.tracker.message.Message.TheVariants as message
use Rattle.p2p_discovery_directory.proofs.tracker.actor.tracking.Tracking.block.Goals as goal

pub returns : goal.returns
returns g c =
    let After : Tracking g.row.D.Denot g.row.P.Denot = record {
      directory = c.block_anew.new.directory;
      own = c.self.inside.own;
      cooldown = c.self.inside.cooldown;
      most = c.self.inside.most;
      updates = c.self.inside.updates.items;
      sets = c.self.inside.sets.items;
      controls = c.tell_of_block.new.controls.entries;
    } in
    subst (λ (t : Tracking g.row.D.Denot g.row.P.Denot). IsServed g.D.DirectoryOf.answering g.D.DirectoryOf.is_eligible g.P.Ord.cmp c.args.now c.args.seed t After (message.Block c.args.public_key) c.in_ok-tell_of_block.field-0) c.self.view_is (
      c.in_ok-blocked.blocked,
      c.in_ok-blocked.ensures.answer,
      c.in_ok-blocked.ensures.blocked,
      c.in_ok-blocked.ensures.stands,
      c.in_ok-tell_of_block.ensures.put ∙ ap (λ xs. told_of_blocks xs c.in_ok-blocked.blocked ++ kill_put c.args.public_key (lookup (is_at (g.P.Ord.cmp c.args.public_key)) c.self.inside.controls.entries)) c.as_slice-tickets.ensures.value,
      ap (λ xs. record After { controls = xs }) c.in_ok-tell_of_block.ensures.controls,
    )
