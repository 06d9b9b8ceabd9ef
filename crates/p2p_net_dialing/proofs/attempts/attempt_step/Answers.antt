use Rattle.std.proofs.Common.{ℕ, Bool, ap, subst, ◌∙◌, Option}
use Rattle.std.specs.Prelude.{not}
use Rattle.p2p_log.specs.declared.queue.Side.TheVariants as side
use Rattle.p2p_log_rules.specs.declared.row.Row.{Row}
use Rattle.p2p_log_rules.specs.Puts.{gave_up}
use Rattle.p2p_net_gates.specs.Attempts.{link_at}
use Rattle.p2p_net_links.specs.declared.links.Links.{Links}
use Rattle.p2p_net_queues.specs.Tables as table
use Rattle.p2p_net_dialing.specs.Dialing.{DropsUnless}
use Rattle.p2p_net_node.specs.declared.node.Node.{Node}
use Rattle.p2p_net_dialing.proofs.attempts.attempt_step.Goals as goal

pub returns-clause-does : goal.returns-clause-does
returns-clause-does c =
    let x : Node = c.args.node.now in
    let l : Links = c.args.links.now in
    let ls : Links = c.drop_unless.new.links in
    let row : Row = c.in_ok-row.row in
    let after : Row = c.drop_unless.new.row in
    record {
      row = row;
      steps = c.in_ok-row.ensures.does;
      drops =
          subst (λ (b : Bool). DropsUnless (not b) (link_at (table.at x.dialing.attempts c.args.attempt)) side.Out l ls row after) (c.gives_up-kept.ensures ∙ ap gave_up c.as_slice.ensures)
          (subst (λ (o : Option ℕ). DropsUnless (not c.gives_up-kept.result) o side.Out l ls row after) c.link-link.ensures c.in_ok-drop_unless.ensures);
    }
