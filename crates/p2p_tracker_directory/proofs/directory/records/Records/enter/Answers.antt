use Rattle.std.proofs.Common.{BTreeMap, ◌≡◌, sym, ap, ◌∙◌, subst}
use Rattle.std.specs.Map.{lookup}
use Rattle.std.specs.BTreeMap.{is_at}
use Rattle.p2p_tracker_directory.specs.Indexed.{Roster, Indexes}
use Rattle.p2p_tracker_directory.specs.Recorded.{Recorded, updated, written}
use Rattle.p2p_tracker_directory.specs.Tracked.{joined}
use Rattle.p2p_tracker_directory.proofs.Written.{written-found, written-none}
use Rattle.p2p_tracker_directory.proofs.Indexing.{follow-written}
use Rattle.p2p_tracker_directory.proofs.directory.records.Records.enter.Goals as goal

pub returns-in_default-clause-after : goal.returns-in_default-clause-after
returns-in_default-clause-after g c =
    subst (λ (k : Roster g.row.C.Denot). c.get_mut.follows.lender-at-none.entries ≡ written g.C.Ord.cmp (lookup (is_at (g.C.Ord.cmp c.args.peer.now)) k.entries) k.entries c.args.peer.now (λ r. joined c.args.is_primary (updated r c.args.address))) c.self.view_is
    (written-none g.met.C.Ord.total c.args.peer.now c.self.inside.map.entries c.get_mut.follows.lender-at-none.entries (λ r. joined c.args.is_primary (updated r c.args.address)) (rw c.in_default.is at c.get_mut.ensures.value) (ap (λ (m : BTreeMap g.row.C.Denot Recorded). m.entries) c.get_mut.follows.holds-at-none))

pub returns-clause-after : goal.returns-clause-after
returns-clause-after g c =
    subst (λ (k : Roster g.row.C.Denot). (c.get_mut.follows.lender c.count_more.new.known).entries ≡ written g.C.Ord.cmp (lookup (is_at (g.C.Ord.cmp c.args.peer.now)) k.entries) k.entries c.args.peer.now (λ r. joined c.args.is_primary (updated r c.args.address))) c.self.view_is
    (written-found g.met.C.Ord.total c.args.peer.now c.self.inside.map.entries (c.get_mut.follows.lender c.count_more.new.known).entries c.in-Some.record.now c.count_more.new.known (λ r. joined c.args.is_primary (updated r c.args.address)) (rw c.in-Some.is at c.get_mut.ensures.value) (c.count_more.ensures ∙ ap (joined c.args.is_primary) c.update.ensures.after) (c.get_mut.follows.holds c.count_more.new.known).0)

pub invariant_of-self : goal.invariant_of-self
invariant_of-self g c = subst (λ (m : BTreeMap g.row.C.Denot Recorded). Indexes g.C.Ord.cmp c.self.inside.index m.entries) (sym c.get_mut.follows.holds-at-none) c.self.invariant

pub invariant_of-self-2 : goal.invariant_of-self-2
invariant_of-self-2 g c =
    follow-written g.met.C.Ord.total c.args.peer.now c.self.inside.index c.follow.new.self c.spot-before.result.0 c.spot-before.result.1 c.self.inside.map.entries (c.get_mut.follows.lender c.count_more.new.known).entries (λ r. joined c.args.is_primary (updated r c.args.address))
    (written-found g.met.C.Ord.total c.args.peer.now c.self.inside.map.entries (c.get_mut.follows.lender c.count_more.new.known).entries c.in-Some.record.now c.count_more.new.known (λ r. joined c.args.is_primary (updated r c.args.address)) (rw c.in-Some.is at c.get_mut.ensures.value) (c.count_more.ensures ∙ ap (joined c.args.is_primary) c.update.ensures.after) (c.get_mut.follows.holds c.count_more.new.known).0)
    c.follow.ensures.index c.spot-before.ensures.source c.spot-before.ensures.due c.self.invariant
