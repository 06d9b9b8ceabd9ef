use Rattle.std.proofs.Common.{BTreeMap, ◌≡◌, sym, ap, subst}
use Rattle.std.specs.Map.{lookup}
use Rattle.std.specs.BTreeMap.{is_at}
use Rattle.p2p_tracker_directory.specs.Indexed.{Roster, Indexes}
use Rattle.p2p_tracker_directory.specs.Recorded.{Recorded, connected, written}
use Rattle.p2p_tracker_directory.proofs.Written.{written-found, written-none}
use Rattle.p2p_tracker_directory.proofs.Indexing.{still-connected}
use Rattle.p2p_tracker_directory.proofs.directory.records.Records.begin.Goals as goal

pub returns-in_default-clause-after : goal.returns-in_default-clause-after
returns-in_default-clause-after g c =
    subst (λ (k : Roster g.row.C.Denot). c.get_mut.follows.lender-at-none.entries ≡ written g.C.Ord.cmp (lookup (is_at (g.C.Ord.cmp c.args.peer.now)) k.entries) k.entries c.args.peer.now connected) c.self.view_is
    (written-none g.met.C.Ord.total c.args.peer.now c.self.inside.map.entries c.get_mut.follows.lender-at-none.entries connected (rw c.in_default.is at c.get_mut.ensures.value) (ap (λ (m : BTreeMap g.row.C.Denot Recorded). m.entries) c.get_mut.follows.holds-at-none))

pub returns-clause-after : goal.returns-clause-after
returns-clause-after g c =
    subst (λ (k : Roster g.row.C.Denot). (c.get_mut.follows.lender c.connect.new.self).entries ≡ written g.C.Ord.cmp (lookup (is_at (g.C.Ord.cmp c.args.peer.now)) k.entries) k.entries c.args.peer.now connected) c.self.view_is
    (written-found g.met.C.Ord.total c.args.peer.now c.self.inside.map.entries (c.get_mut.follows.lender c.connect.new.self).entries c.in-Some.record.now c.connect.new.self connected (rw c.in-Some.is at c.get_mut.ensures.value) c.connect.ensures.after (c.get_mut.follows.holds c.connect.new.self).0)

pub invariant_of-self : goal.invariant_of-self
invariant_of-self g c = subst (λ (m : BTreeMap g.row.C.Denot Recorded). Indexes g.C.Ord.cmp c.self.inside.index m.entries) (sym c.get_mut.follows.holds-at-none) c.self.invariant

pub invariant_of-self-2 : goal.invariant_of-self-2
invariant_of-self-2 g c =
    still-connected g.met.C.Ord.total c.args.peer.now c.self.inside.index c.self.inside.map.entries (c.get_mut.follows.lender c.connect.new.self).entries
    (written-found g.met.C.Ord.total c.args.peer.now c.self.inside.map.entries (c.get_mut.follows.lender c.connect.new.self).entries c.in-Some.record.now c.connect.new.self connected (rw c.in-Some.is at c.get_mut.ensures.value) c.connect.ensures.after (c.get_mut.follows.holds c.connect.new.self).0) c.self.invariant
