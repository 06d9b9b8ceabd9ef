use Rattle.std.proofs.Common.{◌≡◌, cond, sym, subst}
use Rattle.std.specs.Map.{lookup}
use Rattle.std.specs.BTreeMap.{is_at}
use Rattle.p2p_tracker_directory.specs.Reserved.{peer_of}
use Rattle.p2p_tracker_directory.specs.Recorded.{without_need}
use Rattle.p2p_tracker_directory.specs.Stands.{StandsFor}
use Rattle.p2p_tracker_directory.proofs.Standing.{stands-release}
use Rattle.p2p_tracker_directory.proofs.directory.Directory.release.Goals as goal

pub returns-clause-stands : goal.returns-clause-stands
returns-clause-stands g c = λ calls s.
    stands-release g.met.C.Ord.total (subst (λ k. StandsFor g.C.Ord.cmp k calls) (sym c.self.view_is) s) (peer_of c.args.metadata.now) c.end_hold.new.self.entries
    (λ q. subst (λ p. lookup (is_at (g.C.Ord.cmp q)) c.end_hold.new.self.entries ≡ cond (is_at (g.C.Ord.cmp p) q)
    (without_need (lookup (is_at (g.C.Ord.cmp q)) c.self.inside.records.entries)) (lookup (is_at (g.C.Ord.cmp q)) c.self.inside.records.entries))
    c.public_key.ensures (c.end_hold.ensures.each q))
