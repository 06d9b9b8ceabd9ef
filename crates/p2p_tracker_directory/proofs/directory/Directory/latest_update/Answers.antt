use Rattle.std.proofs.Common.{ℕ, List, Some, sym, ap, ◌∙◌}
use Rattle.std.specs.Option.{option_map, option_copied}
use Rattle.p2p_flow.specs.declared.tracked.TrackedPeers.{TrackedPeers}
use Rattle.p2p_flow.specs.declared.update.PeerSetUpdate.{PeerSetUpdate}
use Rattle.p2p_tracker_calls.specs.Sets.{PeerSet, latest_index}
use Rattle.p2p_tracker_calls.specs.Peers.{peers_of, newest_of, all_peers}
use Rattle.p2p_tracker_directory.specs.Stands.{Kept}
use Rattle.p2p_tracker_directory.specs.Told.{all_in}
use Rattle.p2p_tracker_directory.proofs.Listing.{newest-index}
use Rattle.p2p_tracker_directory.proofs.directory.Directory.latest_update.Goals as goal

pub returns-clause-index : goal.returns-clause-index
returns-clause-index g c = λ calls s.
    let head = ap option_copied (sym c.in-Some.is) ∙ (c.newest.ensures ∙ ap (λ (k : Kept g.row.C.Denot). newest_of k.sets) c.self.view_is) in
    ap (λ (x : PeerSet g.row.C.Denot). Some x.index) c.set.view_is ∙ (newest-index c.args.self.now.sets c.in-Some.set.now head ∙ ap (λ (sets : List (PeerSet g.row.C.Denot)). latest_index sets) s.sets)

pub returns-clause-latest : goal.returns-clause-latest
returns-clause-latest g c = λ calls s.
    let head = ap option_copied (sym c.in-Some.is) ∙ (c.newest.ensures ∙ ap (λ (k : Kept g.row.C.Denot). newest_of k.sets) c.self.view_is) in
    ap (λ (l : TrackedPeers g.row.C.Denot). Some l) c.in_ok-latest.ensures ∙ (ap (option_map peers_of) head ∙ ap (λ (sets : List (PeerSet g.row.C.Denot)). option_map peers_of (newest_of sets)) s.sets)

pub returns-clause-primary : goal.returns-clause-primary
returns-clause-primary g c = c.in_ok-all.ensures.primary

pub returns-clause-secondary : goal.returns-clause-secondary
returns-clause-secondary g c = c.in_ok-all.ensures.secondary

pub returns-clause-value : goal.returns-clause-value
returns-clause-value g c =
    let With : ℕ → TrackedPeers g.row.C.Denot → TrackedPeers g.row.C.Denot → PeerSetUpdate g.row.C.Denot = λ i l a. record { index = i; latest = l; all = a } in
    let head = ap option_copied (sym c.in-Some.is) ∙ (c.newest.ensures ∙ ap (λ (k : Kept g.row.C.Denot). newest_of k.sets) c.self.view_is) in
    ap (λ (x : PeerSet g.row.C.Denot). Some (With x.index c.in_ok-latest.latest c.in_ok-all.all)) c.set.view_is
    ∙ (ap (λ l. Some (With c.in-Some.set.now.index l c.in_ok-all.all)) c.in_ok-latest.ensures
    ∙ (ap (λ a. Some (With c.in-Some.set.now.index (peers_of c.in-Some.set.now) a)) c.in_ok-all.ensures.value
    ∙ ap (option_map (λ x. With x.index (peers_of x) (all_in g.C.Ord.cmp c.args.self.now))) head))

pub returns-clause-exactly : goal.returns-clause-exactly
returns-clause-exactly g c = λ calls one s.
    let With : ℕ → TrackedPeers g.row.C.Denot → TrackedPeers g.row.C.Denot → PeerSetUpdate g.row.C.Denot = λ i l a. record { index = i; latest = l; all = a } in
    let head = ap option_copied (sym c.in-Some.is) ∙ (c.newest.ensures ∙ ap (λ (k : Kept g.row.C.Denot). newest_of k.sets) c.self.view_is) in
    ap (λ (x : PeerSet g.row.C.Denot). Some (With x.index c.in_ok-latest.latest c.in_ok-all.all)) c.set.view_is
    ∙ (ap (λ l. Some (With c.in-Some.set.now.index l c.in_ok-all.all)) c.in_ok-latest.ensures
    ∙ (ap (λ a. Some (With c.in-Some.set.now.index (peers_of c.in-Some.set.now) a)) (c.in_ok-all.ensures.exactly calls one s)
    ∙ ap (option_map (λ x. With x.index (peers_of x) (all_peers g.C.Ord.cmp c.args.self.now.rules calls))) (head ∙ ap (λ (sets : List (PeerSet g.row.C.Denot)). newest_of sets) s.sets)))
