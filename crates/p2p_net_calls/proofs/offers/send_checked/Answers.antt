use Rattle.std.proofs.Common.{ap, subst, Option, Some}
use Rattle.p2p_log_rules.specs.declared.row.Checked.{Checked}
use Rattle.p2p_net_channels.specs.declared.channels.Channels.{Channels}
use Rattle.p2p_net_calls.specs.Offering.{SpendsCheck, with_checks}
use Rattle.p2p_net_node.specs.declared.node.Node.{Node}
use Rattle.p2p_net_calls.proofs.offers.send_checked.Goals as goal

pub returns-in-None-clause-does : goal.returns-in-None-clause-does
returns-in-None-clause-does c =
    let x : Node = c.args.node.now in
    let left = c.spend.new.self.checks in
    record {
      left = left;
      spent = c.spend.ensures.checks;
      comes =
          subst (λ (o : Option Checked). SpendsCheck o c.args.turn.entry c.args.priority c.args.bytes.now (with_checks left x) (record x { channels = c.spend.new.self }) c.only.result) c.in-None.ensures.admitted
          (c.only.ensures, ap (λ (ch : Channels). record x { channels = ch }) c.spend.ensures.rest);
    }

pub returns-in_ok-send_to-in-Some-clause-does : goal.returns-in_ok-send_to-in-Some-clause-does
returns-in_ok-send_to-in-Some-clause-does c =
    let x : Node = c.args.node.now in
    let left = c.spend.new.self.checks in
    let checked : Checked = c.in-Some.checked in
    record {
      left = left;
      spent = c.spend.ensures.checks;
      comes =
          subst (λ (o : Option Checked). SpendsCheck o c.args.turn.entry c.args.priority c.args.bytes.now (with_checks left x) c.send_to.new.node c.in_ok-send_to-in-Some.field-0) c.in-Some.ensures.admitted
          (subst (λ (ch : Channels). SpendsCheck (Some checked) c.args.turn.entry c.args.priority c.args.bytes.now (record x { channels = ch }) c.send_to.new.node c.in_ok-send_to-in-Some.field-0) c.spend.ensures.rest
          c.in_ok-send_to-in-Some.ensures.does);
    }
