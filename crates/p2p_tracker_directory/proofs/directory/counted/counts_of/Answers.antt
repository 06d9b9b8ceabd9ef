use Rattle.std.proofs.Common.{take, sym, ap, ◌∙◌, arith}
use Rattle.std.specs.Option.{option_map}
use Rattle.p2p_tracker_calls.specs.Sets.{how_many}
use Rattle.p2p_tracker_directory.specs.Indexed.{is_from}
use Rattle.p2p_tracker_directory.proofs.Sources.{sources-first, sources-next, sources-step, sources-all}
use Rattle.p2p_tracker_directory.proofs.directory.counted.counts_of.Goals as goal

pub loop-source-init : goal.loop-source-init
loop-source-init g c =
    sources-first g.met.C.Ord.total c.args.sources.now c.through-at.ensures.ordered c.new-counts.result.entries c.new-counts.ensures.empty c.through-at.result c.through-at.ensures.rank

pub overflow_sub-next : goal.overflow_sub-next
overflow_sub-next g c =
    let next = sources-next g.met.C.Ord.total c.args.sources.now c.get.ensures.ordered c.loop-source.at c.through-next.result c.in-Some.source (ap (option_map (λ e. e.0)) (sym c.get.ensures.entry ∙ c.in-Some.is)) c.through-next.ensures.rank in
    omega (arith, next.0)

pub count_in-is_counted-requires : goal.count_in-is_counted-requires
count_in-is_counted-requires g c =
    let next = sources-next g.met.C.Ord.total c.args.sources.now c.get.ensures.ordered c.loop-source.at c.through-next.result c.in-Some.source (ap (option_map (λ e. e.0)) (sym c.get.ensures.entry ∙ c.in-Some.is)) c.through-next.ensures.rank in
    omega (arith, next.0)

pub loop-source-smaller : goal.loop-source-smaller
loop-source-smaller g c =
    let next = sources-next g.met.C.Ord.total c.args.sources.now c.get.ensures.ordered c.loop-source.at c.through-next.result c.in-Some.source (ap (option_map (λ e. e.0)) (sym c.get.ensures.entry ∙ c.in-Some.is)) c.through-next.ensures.rank in
    omega (arith, next.0, next.1)

pub loop-source-preserved : goal.loop-source-preserved
loop-source-preserved g c =
    c.count_in-is_counted.ensures c.if-not-is_counted.false (λ ip. how_many (λ e. is_from ip e.0) (take c.loop-source.at c.args.sources.now))
    (λ ip. how_many (λ e. is_from ip e.0) (take c.through-next.result c.args.sources.now)) c.loop-source.invariant
    (sources-step g.met.C.Ord.total c.args.sources.now c.get.ensures.ordered c.loop-source.at c.through-next.result c.in-Some.source (ap (option_map (λ e. e.0)) (sym c.get.ensures.entry ∙ c.in-Some.is)) c.through-next.ensures.rank)

pub returns : goal.returns
returns g c =
    sources-all g.met.C.Ord.total c.args.sources.now c.get.ensures.ordered c.loop-source.counts.entries c.loop-source.at (sym c.get.ensures.entry ∙ c.in_default.is) c.loop-source.invariant
