use Rattle.std.proofs.Common.{◌≡◌, true, not, sym, ap, ◌∙◌, subst}
use Rattle.std.specs.Map.{lookup}
use Rattle.std.specs.BTreeMap.{is_at}
use Rattle.p2p_tracker_directory.specs.Recorded.{is_reserved_in, is_stale_in}
use Rattle.p2p_tracker_directory.specs.Stands.{StandsFor}
use Rattle.p2p_tracker_directory.proofs.Asked.{stale-kept}
use Rattle.p2p_tracker_directory.proofs.Standing.{stands-connect}
use Rattle.p2p_tracker_directory.proofs.directory.Directory.connect.Goals as goal

pub returns-clause-answer : goal.returns-clause-answer
returns-clause-answer g c = λ calls s.
    subst (λ k. c.begin.result ≡ not (is_stale_in (lookup (is_at (g.C.Ord.cmp c.args.peer.now)) k.records))) c.self.view_is c.begin.ensures.answer
    ∙ ap not (stale-kept g.met.C.Ord.total s c.args.peer.now c.requires)

pub returns-clause-stands : goal.returns-clause-stands
returns-clause-stands g c = λ calls conn s.
    stands-connect g.met.C.Ord.total (subst (λ k. StandsFor g.C.Ord.cmp k calls) (sym c.self.view_is) s) c.args.peer.now conn c.begin.new.self.entries
    (subst (λ k. is_reserved_in (lookup (is_at (g.C.Ord.cmp c.args.peer.now)) k.records) ≡ true) (sym c.self.view_is) c.requires) c.begin.ensures.after
