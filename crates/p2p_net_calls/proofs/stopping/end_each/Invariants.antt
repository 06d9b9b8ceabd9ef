use Rattle.std.proofs.Common.{◌≡◌, ◌++◌, drop}
use Rattle.p2p_net_links.specs.Left.{all_dropped}
use Rattle.p2p_net_calls.specs.Stopping.{ends_handed, handed_end}
use Rattle.p2p_net_calls.proofs.stopping.end_each.Given as goal

-- what has ended so far, and then the rest
abbrev pub invariant-loop-one : goal.invariant-loop-one
invariant-loop-one l = record {
  links : all_dropped (ends_handed (drop l.one-index l.all)) l.links ≡ all_dropped (ends_handed l.all) l.initial.links;
  row : record l.row { ends = l.row.ends ++ handed_end l.links (drop l.one-index l.all) } ≡ record l.initial.row { ends = l.initial.row.ends ++ handed_end l.initial.links l.all };
}
