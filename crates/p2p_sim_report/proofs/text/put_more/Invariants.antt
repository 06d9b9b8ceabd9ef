-- What is left, written at the end of what stands, gives what the whole list gives.
use Rattle.std.proofs.Common.{◌≡◌, drop}
use Rattle.std.specs.String.{string_bytes}
use Rattle.p2p_sim_report.specs.Text.{more_onto}
use Rattle.p2p_sim_report.proofs.text.put_more.Given as goal

abbrev pub invariant-loop-item : goal.invariant-loop-item
invariant-loop-item g l =
    more_onto g.T.ToText.onto (string_bytes l.out) (drop l.item-index l.items) ≡ more_onto g.T.ToText.onto (string_bytes l.fn.out) l.items
