use Rattle.std.proofs.Common.{◌≡◌, ℕ, Bool, ap, sym, subst, ◌∙◌, Option}
use Rattle.std.specs.Prelude.{◌||◌, is_some}
use Rattle.std.specs.List.{list_any}
use Rattle.p2p_log.specs.declared.queue.Side.TheVariants as side
use Rattle.p2p_log_rules.specs.declared.row.Row.{Row}
use Rattle.p2p_log_rules.specs.Puts.{is_spawn}
use Rattle.p2p_net_links.specs.declared.links.Links.{Links}
use Rattle.p2p_net_queues.specs.Tables as table
use Rattle.p2p_net_dialing.specs.Dialing.{link_over, DropsUnless}
use Rattle.p2p_net_node.specs.declared.node.Node.{Node}
use Rattle.p2p_net_dialing.proofs.handshakes.handshake_step.Goals as goal
use Rattle.p2p_net_dialing.proofs.handshakes.handshake_step.Goals.{then-stands, else-stands}

pub returns-clause-does : goal.returns-clause-does
returns-clause-does c =
    let x : Node = c.args.node.now in
    let y : Node = c.shake.new.node in
    let l : Links = c.args.links.now in
    let ls : Links = c.drop_unless.new.links in
    let row : Row = c.in_ok-row.row in
    let after : Row = c.drop_unless.new.row in
    let stands : Bool = is_some (table.at y.listening.handshakes c.args.handshake) in
    let makes : Bool = list_any is_spawn row.puts in
    let kept_is : c.if-stands.kept ≡ (stands || makes) =
    elim c.if-stands.branch [
      | then-stands w ↦ w.kept-is ∙ (w.if-stands.true ∙ ap (λ b. b || makes) (sym w.if-stands.true ∙ c.stands-stands.ensures))
      | else-stands w ↦ w.kept-is ∙ (w.makes_connection-kept.ensures ∙ (ap (list_any is_spawn) w.as_slice.ensures ∙ ap (λ b. b || makes) (sym w.if-stands.false ∙ c.stands-stands.ensures)))
    ] in
    record {
      row = row;
      steps = c.in_ok-row.ensures.does;
      drops =
          subst (λ (b : Bool). DropsUnless b (link_over (table.at x.listening.handshakes c.args.handshake)) side.In l ls row after) kept_is
          (subst (λ (o : Option ℕ). DropsUnless c.if-stands.kept o side.In l ls row after) c.link_of-link.ensures c.in_ok-drop_unless.ensures);
    }
