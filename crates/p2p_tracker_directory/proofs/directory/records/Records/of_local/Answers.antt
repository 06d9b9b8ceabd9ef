use Rattle.std.proofs.Common.{cond, Some, sym, ap, ◌∙◌, subst}
use Rattle.std.specs.Map.{lookup}
use Rattle.std.specs.BTreeMap.{is_at}
use Rattle.p2p_tracker_directory.specs.Recorded.{fresh}
use Rattle.p2p_tracker_directory.specs.Indexed.{Indexes}
use Rattle.p2p_tracker_directory.specs.declared.record.Address.TheVariants as address
use Rattle.p2p_tracker_directory.proofs.Indexing.{indexes-none}
use Rattle.p2p_tracker_directory.proofs.directory.records.Records.of_local.Goals as goal

pub insert-requires : goal.insert-requires
insert-requires g c = ap (lookup (is_at (g.C.Ord.cmp c.args.local))) c.new.ensures.empty

pub invariant_of-records : goal.invariant_of-records
invariant_of-records g c =
    subst (Indexes g.C.Ord.cmp c.new-2.result) (sym c.new.ensures.empty) (indexes-none g.met.C.Ord.total c.new-2.result c.new-2.ensures.sources c.new-2.ensures.queue)

pub returns-clause-records : goal.returns-clause-records
returns-clause-records g c = λ q.
    c.in_ok-insert.ensures.made q
    ∙ ap (λ es. cond (is_at (g.C.Ord.cmp c.args.local) q) (Some (fresh address.Myself)) (lookup (is_at (g.C.Ord.cmp q)) es)) c.new.ensures.empty
