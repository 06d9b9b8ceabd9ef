use Rattle.std.proofs.Common.{◌≡◌, true, sym, ◌∙◌, subst, filter_map}
use Rattle.std.specs.List.Sorted.{IsStrictlySortedBy}
use Rattle.std.specs.Map.{keys_of, lookup}
use Rattle.std.specs.BTreeMap.{is_at}
use Rattle.p2p_base.specs.Sorted.{sorted_once}
use Rattle.p2p_tracker_calls.specs.Blocks.{lasts_at}
use Rattle.p2p_tracker_calls.specs.Heard.{ip_cmp}
use Rattle.p2p_tracker_calls.specs.Sets.{how_many}
use Rattle.p2p_tracker_directory.specs.Indexed.{Roster, is_from, is_blocked_from, count_where}
use Rattle.p2p_tracker_directory.specs.Listed.{heard}
use Rattle.p2p_tracker_directory.proofs.AddressCounts.{counted-addresses, tallies-plain}
use Rattle.p2p_tracker_directory.proofs.Sources.{placed-from}
use Rattle.p2p_tracker_directory.proofs.directory.listens.addresses.Goals as goal

pub returns-clause-addresses : goal.returns-clause-addresses
returns-clause-addresses g c =
    let es = c.records.inside.map.entries in
    let ordered = subst (λ (k : Roster g.row.C.Denot). IsStrictlySortedBy g.C.Ord.cmp (keys_of k.entries)) (sym c.records.view_is) c.stand_in_order.ensures in
    let tallies = tallies-plain c.in_ok-counts.counts.entries (λ ip. how_many (λ e. is_from ip e.0) c.records.inside.index.sources) (λ ip. count_where (λ q. true) ip es)
    (placed-from g.met.C.Ord.total es ordered c.records.inside.index.sources c.records.invariant.sources) c.in_ok-counts.ensures in
    subst (λ (k : Roster g.row.C.Denot). c.in_ok-listed.listed.items
    ≡ sorted_once ip_cmp (filter_map (λ e. heard e.1 (lasts_at (lookup (is_at (g.C.Ord.cmp e.0)) c.args.blocks.now) c.args.now) c.args.private) k.entries)) c.records.view_is
    (c.in_ok-listed.ensures.addresses (λ ip. how_many (is_blocked_from g.C.Ord.cmp es ip c.args.now) c.args.blocks.now) c.in_ok-off.ensures
    ∙ counted-addresses g.met.C.Ord.total es c.args.blocks.now c.args.now c.args.private ordered c.requires c.in_ok-counts.counts.entries tallies
    c.addresses_above.ensures.ordered)
