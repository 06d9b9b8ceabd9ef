use Rattle.std.proofs.Common.{◌≡◌, refl, ap, sym, subst, ◌∙◌}
use Rattle.p2p_base.specs.declared.key.Key.{Key}
use Rattle.p2p_tracker_mailbox.specs.declared.mailbox.Mailbox.{Mailbox}
use Rattle.p2p_net_tracker.specs.declared.tracker.Tracker.{Tracker}
use Rattle.p2p_net_queues.specs.Tables as table
use Rattle.p2p_net_gates.specs.Handshaking.{StepsHandshake}
use Rattle.p2p_net_gates.specs.declared.handshake.HandshakeStep.{HandshakeStep}
use Rattle.p2p_net_gates.specs.declared.handshake.HandshakeStep.TheVariants as handshake
use Rattle.p2p_net_node.specs.declared.node.Node.{Node}
use Rattle.p2p_net_dialing.proofs.handshakes.shake.Goals as goal

pub returns-in-Gone-clause-does : goal.returns-in-Gone-clause-does
returns-in-Gone-clause-does c =
    let x : Node = c.args.node.now in
    record {
      step = handshake.Gone;
      mid = record x { tracker = record x.tracker { mailbox = c.handshake.new.way }; listening = c.handshake.new.self };
      taken = c.only.result;
      steps =
          subst (λ (s : HandshakeStep). StepsHandshake (table.at x.listening.handshakes c.args.handshake) c.args.handshake c.args.at x.listening c.handshake.new.self x.tracker.mailbox c.handshake.new.way s)
          c.in-Gone.is c.in_ok-handshake.ensures;
      tracks = (c.only.ensures, refl);
      rest = refl;
      hands = (refl, refl);
    }

pub returns-in-Idle-clause-does : goal.returns-in-Idle-clause-does
returns-in-Idle-clause-does c =
    let x : Node = c.args.node.now in
    record {
      step = handshake.Idle;
      mid = record x { tracker = record x.tracker { mailbox = c.handshake.new.way }; listening = c.handshake.new.self };
      taken = c.only-in-Idle.result;
      steps =
          subst (λ (s : HandshakeStep). StepsHandshake (table.at x.listening.handshakes c.args.handshake) c.args.handshake c.args.at x.listening c.handshake.new.self x.tracker.mailbox c.handshake.new.way s)
          c.in-Idle.is c.in_ok-handshake.ensures;
      tracks = (c.only-in-Idle.ensures, refl);
      rest = refl;
      hands = (refl, refl);
    }

pub returns-in_ok-hand_on-in-Served-clause-does : goal.returns-in_ok-hand_on-in-Served-clause-does
returns-in_ok-hand_on-in-Served-clause-does c =
    let x : Node = c.args.node.now in
    let made = c.in_ok-row-in-Served in
    let t : Tracker = c.handshake_step.new.self in
    let rest : t ≡ record x.tracker { mailbox = c.handshake.new.way; told = t.told } = made.ensures.rest in
    let way : t.mailbox ≡ c.handshake.new.way = ap (λ (u : Tracker). u.mailbox) rest in
    record {
      step = handshake.Served c.in-Served.took c.in-Served.ended c.in-Served.asked c.in-Served.ready;
      mid = record x { tracker = t; listening = c.handshake.new.self };
      taken = made.row;
      steps =
          subst (λ (w : Mailbox Key). StepsHandshake (table.at x.listening.handshakes c.args.handshake) c.args.handshake c.args.at x.listening c.handshake.new.self x.tracker.mailbox w
          (handshake.Served c.in-Served.took c.in-Served.ended c.in-Served.asked c.in-Served.ready)) (sym way)
          (subst (λ (s : HandshakeStep). StepsHandshake (table.at x.listening.handshakes c.args.handshake) c.args.handshake c.args.at x.listening c.handshake.new.self x.tracker.mailbox c.handshake.new.way s)
          c.in-Served.is c.in_ok-handshake.ensures);
      tracks = (made.ensures.row, (made.ensures.told, rest ∙ ap (λ (w : Mailbox Key). record x.tracker { mailbox = w; told = t.told }) (sym way)));
      rest = refl;
      hands = c.in_ok-hand_on-in-Served.ensures.does;
    }
