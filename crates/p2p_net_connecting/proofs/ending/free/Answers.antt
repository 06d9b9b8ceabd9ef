use Rattle.std.proofs.Common.{ap, refl, subst, ◌∙◌, List, ℕ}
use Rattle.std.specs.Prelude.{length}
use Rattle.p2p_log.specs.declared.queue.Queue.{Queue}
use Rattle.p2p_log.specs.declared.item.Item.{Item}
use Rattle.p2p_tracker_directory.specs.Reserved.{peer_of}
use Rattle.p2p_net_tracker.specs.Ending.{released_by, releasing_row}
use Rattle.p2p_net_node.specs.Routing as routing
use Rattle.p2p_net_node.specs.declared.node.Node.{Node}
use Rattle.p2p_net_connecting.proofs.ending.free.Goals as goal

pub returns-clause-does : goal.returns-clause-does
returns-clause-does c =
    let x : Node = c.args.node.now in
    let k = c.args.turn.entry in
    let n = c.args.turn.node in
    let given = c.args.connection.reservation in
    let told : routing.Releases k c.len-place.result c.args.conn c.args.peer x.router c.release.new.self =
    record { peers = c.in_ok-release.ensures.peers; rest = c.in_ok-release.ensures.rest; over = c.in_ok-release.ensures.over }
    in
    record {
      router = subst (λ (place : ℕ). routing.Releases k place c.args.conn c.args.peer x.router c.release.new.self) c.len-place.ensures told;
      tracker = c.in_ok-release-2.ensures.after ∙ ap (λ (ps : List (Queue × Item)). released_by k (length ps) c.args.conn given x.tracker) c.in_ok-push.ensures.ok;
      rest = refl;
      row_is = c.in_ok-release-2.ensures.row ∙ ap (λ (ps : List (Queue × Item)). releasing_row n (peer_of given) (record c.args.row.now { puts = ps })) c.in_ok-push.ensures.ok;
    }
