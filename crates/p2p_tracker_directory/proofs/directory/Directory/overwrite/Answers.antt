use Rattle.std.proofs.Common.{◌≡◌, sym, ◌∙◌, subst}
use Rattle.std.specs.Map.{lookup}
use Rattle.std.specs.BTreeMap.{is_at}
use Rattle.p2p_tracker_directory.specs.Recorded.{differs_in}
use Rattle.p2p_tracker_directory.specs.Stands.{StandsFor}
use Rattle.p2p_tracker_directory.proofs.Asked.{overwritten-kept}
use Rattle.p2p_tracker_directory.proofs.Standing.{stands-overwrite}
use Rattle.p2p_tracker_directory.proofs.directory.Directory.overwrite.Goals as goal

pub returns-clause-answer : goal.returns-clause-answer
returns-clause-answer g c = λ calls s.
    subst (λ k. c.readdress.result ≡ differs_in (lookup (is_at (g.C.Ord.cmp c.args.peer.now)) k.records) c.args.address) c.self.view_is c.readdress.ensures.answer
    ∙ overwritten-kept g.met.C.Ord.total s c.args.peer.now c.args.address

pub returns-clause-stands : goal.returns-clause-stands
returns-clause-stands g c = λ calls s.
    stands-overwrite g.met.C.Ord.total (subst (λ k. StandsFor g.C.Ord.cmp k calls) (sym c.self.view_is) s) c.args.peer.now c.args.address c.readdress.new.self.entries c.readdress.ensures.after
