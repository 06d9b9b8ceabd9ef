use Rattle.p2p_net_router.specs.Building.{subscription}
use Rattle.p2p_net_router.proofs.Building.{puts_more, puts_all}
use Rattle.p2p_net_router.proofs.calls.note_subscriptions.Goals as goal

pub loop-channel-preserved : goal.loop-channel-preserved
loop-channel-preserved c = record {
  row = puts_more (subscription c.args.turn.node) c.args.channels.now c.loop-channel.channel-index c.args.row.now c.loop-channel.row c.note.new.row
      c.loop-channel-test.true c.loop-channel.invariant.row c.in_ok-note.ensures.row;
  names = λ n items h. c.in_ok-note.ensures.names n items (c.loop-channel.invariant.names n items h);
}

pub returns-clause-row : goal.returns-clause-row
returns-clause-row c =
    puts_all (subscription c.args.turn.node) c.args.channels.now c.loop-channel.channel-index c.args.row.now c.loop-channel.row c.loop-channel-test.false c.loop-channel.invariant.row
