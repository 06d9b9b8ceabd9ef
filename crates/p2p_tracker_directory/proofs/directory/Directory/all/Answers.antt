use Rattle.std.specs.List.Sorted.{IsStrictlySortedBy}
use Rattle.std.specs.Map.{keys_of}
use Rattle.p2p_flow.specs.declared.tracked.TrackedPeers.{TrackedPeers}
use Rattle.std.proofs.Common.{◌≡◌, List, not, ◌&&◌, sym, ap, ◌∙◌, subst}
use Rattle.p2p_base.specs.Sorted.{sorted_once}
use Rattle.p2p_tracker_calls.specs.Sets.{is_among, is_tracked, is_primary}
use Rattle.p2p_tracker_directory.specs.Stands.{Kept, StandsFor}
use Rattle.p2p_tracker_directory.specs.Told.{all_in}
use Rattle.p2p_tracker_directory.proofs.Exact.{both-parts, all-exact}
use Rattle.p2p_tracker_directory.proofs.Listing.{primary-kept, secondary-kept}
use Rattle.p2p_tracker_directory.proofs.directory.Directory.all.Goals as goal

pub returns-clause-primary : goal.returns-clause-primary
returns-clause-primary g c = λ calls s q.
    let kept = subst (λ k. StandsFor g.C.Ord.cmp k calls) (sym c.self.view_is) s in
    subst (λ k. is_among g.C.Ord.cmp c.in_ok-primary.primary q ≡ is_primary g.C.Ord.cmp k.rules calls q) c.self.view_is
    (primary-kept g.met.C.Ord.total kept c.peers_with_role.ensures.ordered c.in_ok-primary.primary q (c.in_ok-primary.ensures ∙ ap (sorted_once g.C.Ord.cmp) c.in_ok-first.ensures.peers))

pub returns-clause-secondary : goal.returns-clause-secondary
returns-clause-secondary g c = λ calls s q.
    let kept = subst (λ k. StandsFor g.C.Ord.cmp k calls) (sym c.self.view_is) s in
    subst (λ k. is_among g.C.Ord.cmp c.in_ok-secondary.secondary q ≡ (is_tracked g.C.Ord.cmp k.rules calls q && not (is_primary g.C.Ord.cmp k.rules calls q))) c.self.view_is
    (secondary-kept g.met.C.Ord.total kept c.peers_with_role-2.ensures.ordered c.in_ok-secondary.secondary q (c.in_ok-secondary.ensures ∙ ap (sorted_once g.C.Ord.cmp) c.in_ok-second.ensures.peers))

pub returns-clause-value : goal.returns-clause-value
returns-clause-value g c =
    let With : List g.row.C.Denot → List g.row.C.Denot → TrackedPeers g.row.C.Denot = λ p q. record { primary = p; secondary = q } in
    let first = c.in_ok-primary.ensures ∙ ap (sorted_once g.C.Ord.cmp) c.in_ok-first.ensures.peers in
    let second = c.in_ok-secondary.ensures ∙ ap (sorted_once g.C.Ord.cmp) c.in_ok-second.ensures.peers in
    subst (λ (k : Kept g.row.C.Denot). With c.in_ok-primary.primary c.in_ok-secondary.secondary ≡ all_in g.C.Ord.cmp k) c.self.view_is
    (both-parts With _ _ _ _ first second)

pub returns-clause-exactly : goal.returns-clause-exactly
returns-clause-exactly g c = λ calls one s.
    returns-clause-value g c
    ∙ all-exact g.met.C.Ord.total one s (subst (λ (k : Kept g.row.C.Denot). IsStrictlySortedBy g.C.Ord.cmp (keys_of k.records)) c.self.view_is c.peers_with_role.ensures.ordered)
