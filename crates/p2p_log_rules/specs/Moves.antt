-- What a row moves.
use Rattle.std.specs.Prelude.{◌≡◌, List, ◌++◌, map, flat_map}
use Rattle.p2p_log.specs.declared.item.Envelope.{Envelope}
use Rattle.p2p_log.specs.declared.entry.Entry.{Entry}
use Rattle.p2p_log.specs.Lines.{name_of, ended_item, live}
use Rattle.p2p_log.specs.Taken.{AreTaken}
use Rattle.p2p_log_rules.specs.declared.row.Row.{Row}

-- the items that a row takes, and then those that it ends untaken, each the first of its queue when its turn comes
pub record Moves (log : List Entry) (r : Row) : Type 0 where
  pub taken : List Envelope
  pub ended : List Envelope
  pub names : r.takes ≡ map name_of taken
  pub gone : flat_map ended_item r.ends ≡ map name_of ended
  pub stood : AreTaken (live log) (taken ++ ended)
