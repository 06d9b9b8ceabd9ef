use Rattle.std.proofs.Common.{ap, subst, Option}
use Rattle.p2p_net_connections.specs.declared.connections.Connection.{Connection}
use Rattle.p2p_net_connections.specs.declared.connections.Connections.{Connections}
use Rattle.p2p_net_connecting.specs.Ending.{EndsBy}
use Rattle.p2p_net_node.specs.declared.node.Node.{Node}
use Rattle.p2p_net_connecting.proofs.ending.end.Goals as goal

pub returns-clause-does : goal.returns-clause-does
returns-clause-does c =
    let x : Node = c.args.node.now in
    subst
    (λ (o : Option Connection).
    EndsBy o c.args.turn.entry c.args.turn.node c.args.conn c.args.half x c.free.new.node c.args.links.now c.drop_waiting.new.links c.args.row.now c.free.new.row)
    c.in-Some.ensures.connection
    (record {
      without = record x { connections = c.end.new.self };
      left = c.drop_waiting.new.node;
      emptied = c.drop_waiting.new.row;
      others = c.in-Some.ensures.others;
      kept = ap (λ (cs : Connections). record x { connections = cs }) c.in-Some.ensures.rest;
      drops = c.in_ok-drop_waiting.ensures.does;
      frees = c.in_ok-free.ensures.does;
    })
