use Rattle.std.proofs.Common.{[], ◌∷◌, ◌++◌, get_or, ap, ◌∙◌}
use Rattle.p2p_log.specs.declared.item.Item.TheVariants as item
use Rattle.p2p_log.specs.declared.queue.Queue.TheVariants as queue
use Rattle.p2p_log_rules.specs.Effect.{peers_put}
use Rattle.p2p_net_router.proofs.Building.{puts_more, puts_all}
use Rattle.p2p_net_router.proofs.lists.note_lists.Goals as goal

pub loop-channel-preserved : goal.loop-channel-preserved
loop-channel-preserved c =
    let i = c.loop-channel.channel-index in
    let all = c.args.channels.now in
    let s = c.loop-channel.row in
    record {
      row = puts_more (peers_put c.args.turn.node c.args.keys.now) all i c.args.row.now s c.note.new.row c.loop-channel-test.true c.loop-channel.invariant.row
          (c.in_ok-note.ensures.row ∙ ap (λ l. record s { puts = s.puts ++ (queue.Peers c.args.turn.node (get_or all i 0), item.Peers l) ∷ [] }) c.in_ok-peers.ensures);
      names = λ n items h. c.in_ok-note.ensures.names n items (c.loop-channel.invariant.names n items h);
    }

pub returns-clause-row : goal.returns-clause-row
returns-clause-row c =
    puts_all (peers_put c.args.turn.node c.args.keys.now) c.args.channels.now c.loop-channel.channel-index c.args.row.now c.loop-channel.row c.loop-channel-test.false c.loop-channel.invariant.row
