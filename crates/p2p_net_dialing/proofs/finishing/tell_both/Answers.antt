use Rattle.std.proofs.Common.{◌<◌, refl, sym, subst}
use Rattle.std.specs.Prelude.{slice_set}
use Rattle.std.proofs.lemmas.List.{length-set}
use Rattle.p2p_log_rules.specs.declared.row.Row.{Row}
use Rattle.p2p_net_queues.specs.Tables as table
use Rattle.p2p_net_gates.specs.Attempts.{Finishes}
use Rattle.p2p_net_node.specs.declared.node.Node.{Node}
use Rattle.p2p_net_node.proofs.Nodes.{found}
use Rattle.p2p_net_dialing.proofs.finishing.tell_both.Goals as goal

pub returns : goal.returns
returns c =
    let nodes = c.args.nodes.now.items in
    let o = c.args.opening in
    let x : Node = c.index_mut-first.result.now in
    let after : Node = record x { dialing = c.finish.new.self } in
    let mid = slice_set nodes o.node after in
    let y : Node = c.index_mut-second.result.now in
    record {
      first = x;
      at_first = found nodes o.node x c.requires.first_in_range c.index_mut-first.ensures.value;
      after = after;
      told = c.finish.new.row;
      finishes =
          subst (λ (r : Row). Finishes (table.at x.dialing.attempts o.attempt) c.args.entry o.node o.attempt c.args.ok x.dialing.attempts after.dialing.attempts r c.finish.new.row)
          c.only-row.ensures c.in_ok-finish.ensures.finishes;
      tells = (c.in_ok-finish.ensures.actor, refl);
      second = y;
      at_second = found mid o.to y (subst (λ i. o.to < i) (sym (length-set nodes o.node after)) c.requires.second_in_range) c.index_mut-second.ensures.value;
      last = c.tell_end.new.node;
      ends = c.in_ok-tell_end.ensures;
      nodes = refl;
    }
