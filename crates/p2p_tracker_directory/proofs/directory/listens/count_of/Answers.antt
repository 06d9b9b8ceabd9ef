use Rattle.std.proofs.Common.{◌≡◌, sym, ◌∙◌, subst}
use Rattle.std.specs.List.Sorted.{IsStrictlySortedBy}
use Rattle.std.specs.Map.{keys_of}
use Rattle.p2p_tracker_directory.specs.Indexed.{Roster, count_in}
use Rattle.p2p_tracker_directory.proofs.AddressCounts.{left-counted}
use Rattle.p2p_tracker_directory.proofs.Sources.{placed-counted}
use Rattle.p2p_tracker_directory.proofs.directory.listens.count_of.Goals as goal

pub returns : goal.returns
returns g c =
    let es = c.records.inside.map.entries in
    let ordered = subst (λ (k : Roster g.row.C.Denot). IsStrictlySortedBy g.C.Ord.cmp (keys_of k.entries)) (sym c.records.view_is) c.stand_in_order.ensures in
    let counted = c.count-all.ensures ∙ placed-counted g.met.C.Ord.total es ordered c.records.inside.index.sources c.records.invariant.sources c.args.ip.now in
    subst (λ (k : Roster g.row.C.Denot). c.without_blocked.result ≡ count_in g.C.Ord.cmp k.entries c.args.blocks.now c.args.ip.now c.args.now) c.records.view_is
    (c.without_blocked.ensures ∙ left-counted g.met.C.Ord.total es c.args.blocks.now c.args.now ordered c.requires c.args.ip.now c.count-all.result counted)
