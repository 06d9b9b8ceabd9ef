use Rattle.std.proofs.Common.{◌≡◌, length, drop}
use Rattle.p2p_net_links.specs.Links.{written_way, batch_row}
use Rattle.p2p_net_links.proofs.links.write_all.Given as goal

-- what is written so far, and then the rest
abbrev pub invariant-loop-frame : goal.invariant-loop-frame
invariant-loop-frame l = record {
  way : written_way l.turn.entry l.link l.fn.side (length l.row.puts) (drop l.frame-index l.frames) l.way ≡ written_way l.turn.entry l.link l.fn.side (length l.initial.row.puts) l.frames l.initial.way;
  row : batch_row l.link l.fn.side (drop l.frame-index l.frames) l.row ≡ batch_row l.link l.fn.side l.frames l.initial.row;
}
