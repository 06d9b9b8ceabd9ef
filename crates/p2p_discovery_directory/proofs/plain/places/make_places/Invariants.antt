use Rattle.std.proofs.Common.{◌≡◌, true, take}
use Rattle.std.specs.Prelude.{is_some}
use Rattle.std.specs.Map.{lookup}
use Rattle.std.specs.BTreeMap.{is_at}
use Rattle.p2p_tracker_calls.specs.Sets.{is_among}
use Rattle.p2p_discovery_directory.specs.Plain.{info_in}
use Rattle.p2p_discovery_directory.proofs.plain.places.make_places.Given as goal

abbrev pub invariant-loop-key : goal.invariant-loop-key
invariant-loop-key g l = record {
  infos : (q : g.row.P.Denot) → info_in (lookup (is_at (g.P.Ord.cmp q)) l.places.entries) ≡ info_in (lookup (is_at (g.P.Ord.cmp q)) l.fn.places.entries);
  kept : (q : g.row.P.Denot) → is_some (lookup (is_at (g.P.Ord.cmp q)) l.fn.places.entries) ≡ true → is_some (lookup (is_at (g.P.Ord.cmp q)) l.places.entries) ≡ true;
  made : (q : g.row.P.Denot) → is_among g.P.Ord.cmp (take l.key-index l.keys) q ≡ true → is_some (lookup (is_at (g.P.Ord.cmp q)) l.places.entries) ≡ true;
}
