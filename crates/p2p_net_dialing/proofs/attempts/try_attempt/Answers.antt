use Rattle.std.proofs.Common.{refl, subst, Option}
use Rattle.p2p_log.specs.declared.item.Item.{Item}
use Rattle.p2p_net_dialing.specs.Dialing.{HandsOn}
use Rattle.p2p_net_node.specs.declared.node.Node.{Node}
use Rattle.p2p_net_dialing.proofs.attempts.try_attempt.Goals as goal

pub returns-clause-does : goal.returns-clause-does
returns-clause-does c =
    let x : Node = c.args.node.now in
    let t = c.in_ok-tried.tried in
    let mid : Node = record x { tracker = record x.tracker { mailbox = c.attempt.new.way }; dialing = c.attempt.new.self } in
    record {
      tried = t;
      mid = mid;
      tries = c.in_ok-tried.ensures.tries;
      tracker = refl;
      actor = c.in_ok-tried.ensures.actor;
      rest = refl;
      hands = subst (λ (i : Option Item). HandsOn t.ready c.args.turn.entry c.args.turn.node i mid c.hand_on.new.node t.row c.hand_on.new.row) c.release_of.ensures c.in_ok-hand_on.ensures.does;
    }
