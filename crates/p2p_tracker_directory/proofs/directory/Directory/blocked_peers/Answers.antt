use Rattle.std.proofs.Common.{◌≡◌, sym, ap, ◌∙◌, subst}
use Rattle.p2p_base.specs.Sorted.{sorted_once}
use Rattle.p2p_tracker_calls.specs.Sets.{is_among}
use Rattle.p2p_tracker_calls.specs.Blocks.{is_blocked}
use Rattle.p2p_tracker_directory.specs.Stands.{Kept, StandsFor}
use Rattle.p2p_tracker_directory.specs.Told.{blocked_in}
use Rattle.p2p_tracker_directory.proofs.Exact.{blocked-exact}
use Rattle.p2p_tracker_directory.proofs.Listing.{blocked-kept}
use Rattle.p2p_tracker_directory.proofs.directory.Directory.blocked_peers.Goals as goal

pub returns-clause-each : goal.returns-clause-each
returns-clause-each g c = λ calls s q.
    let kept = subst (λ k. StandsFor g.C.Ord.cmp k calls) (sym c.self.view_is) s in
    subst (λ k. is_among g.C.Ord.cmp c.in_ok-keys.keys q ≡ is_blocked g.C.Ord.cmp k.rules calls q c.args.now) c.self.view_is
    (blocked-kept g.met.C.Ord.total kept c.in_ok-keys.keys q c.args.now (c.in_ok-keys.ensures ∙ ap (sorted_once g.C.Ord.cmp) c.in_ok-peers.ensures))

pub returns-clause-value : goal.returns-clause-value
returns-clause-value g c =
    subst (λ (k : Kept g.row.C.Denot). c.in_ok-keys.keys ≡ blocked_in g.C.Ord.cmp k c.args.now) c.self.view_is (c.in_ok-keys.ensures ∙ ap (sorted_once g.C.Ord.cmp) c.in_ok-peers.ensures)

pub returns-clause-exactly : goal.returns-clause-exactly
returns-clause-exactly g c = λ calls one s. returns-clause-value g c ∙ blocked-exact g.met.C.Ord.total one s c.args.now
