use Rattle.std.proofs.Common.{◌≡◌}
use Rattle.std.specs.Option.{option_map}
use Rattle.std.specs.Map.{lookup}
use Rattle.std.specs.BTreeMap.{is_at}
use Rattle.p2p_discovery_directory.specs.Infos.{kept_after}
use Rattle.p2p_discovery_directory.proofs.plain.places.take_up_each.Given as goal

abbrev pub invariant-loop-info : goal.invariant-loop-info
invariant-loop-info g l = (q : g.row.P.Denot) → option_map (kept_after g.P.Ord.cmp q l.info-iterator.rest.items) (lookup (is_at (g.P.Ord.cmp q)) l.places.entries)
    ≡ option_map (kept_after g.P.Ord.cmp q l.fn.infos.items) (lookup (is_at (g.P.Ord.cmp q)) l.fn.places.entries)
