use Rattle.std.proofs.Common.{◌≡◌, ◌∙◌, subst}
use Rattle.std.specs.List.Sorted.{IsStrictlySortedBy}
use Rattle.std.specs.Map.{keys_of}
use Rattle.p2p_tracker_directory.specs.Stands.{Kept}
use Rattle.p2p_tracker_directory.specs.Told.{listenable_count_in}
use Rattle.p2p_tracker_directory.proofs.AddressCounts.{count-exact}
use Rattle.p2p_tracker_directory.proofs.directory.Directory.listenable_count.Goals as goal

pub returns-clause-value : goal.returns-clause-value
returns-clause-value g c =
    subst (λ (k : Kept g.row.C.Denot). c.count_of.result ≡ listenable_count_in g.C.Ord.cmp k c.args.ip.now c.args.now) c.self.view_is c.count_of.ensures

pub returns-clause-exactly : goal.returns-clause-exactly
returns-clause-exactly g c = λ calls one s.
    returns-clause-value g c
    ∙ count-exact g.met.C.Ord.total one s (subst (λ (k : Kept g.row.C.Denot). IsStrictlySortedBy g.C.Ord.cmp (keys_of k.records)) c.self.view_is c.stand_in_order.ensures) c.args.now c.args.ip.now
