use Rattle.std.proofs.Common.{◌≡◌, ℕ, List, drop}
use Rattle.p2p_log.specs.declared.item.Envelope.{Envelope}
use Rattle.p2p_net_router.specs.Relays.{spread_of, with_spread}
use Rattle.p2p_net_router.specs.Building.{NamesBuild}
use Rattle.p2p_net_router.specs.Copies.{copies_spread}
use Rattle.p2p_net_router.proofs.copies.note_copies.Given as goal

abbrev pub invariant-loop-place : goal.invariant-loop-place
invariant-loop-place l = record {
  row : with_spread l.row (copies_spread l.turn.node l.send l.place l.frame (drop l.place l.copies) (spread_of l.row))
      ≡ with_spread l.initial.row (copies_spread l.turn.node l.send 0 l.frame l.copies (spread_of l.initial.row));
  names : (n : ℕ) (items : List Envelope) → NamesBuild n l.initial.names items l.turn.entry l.initial.row → NamesBuild n l.names items l.turn.entry l.row;
}
