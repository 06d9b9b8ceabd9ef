use Rattle.std.proofs.Common.{BTreeMap, Option, ◌≡◌, cond, refl, sym, ap, subst}
use Rattle.std.specs.Map.{lookup}
use Rattle.std.specs.BTreeMap.{is_at}
use Rattle.p2p_tracker_directory.specs.Indexed.{Roster, Indexes}
use Rattle.p2p_tracker_directory.specs.Recorded.{Recorded}
use Rattle.std.specs.Option.{option_map}
use Rattle.p2p_tracker_directory.specs.Tracked.{needed, parted}
use Rattle.p2p_tracker_directory.proofs.Written.{written-found, none-changed, lookup-needed_written}
use Rattle.p2p_tracker_directory.proofs.Indexing.{follow-changed}
use Rattle.p2p_tracker_directory.proofs.directory.records.Records.leave.Goals as goal

pub returns-in_default-clause-each : goal.returns-in_default-clause-each
returns-in_default-clause-each g c =
    subst (λ (k : Roster g.row.C.Denot). (q : g.row.C.Denot) → lookup (is_at (g.C.Ord.cmp q)) c.get_mut.follows.lender-at-none.entries
    ≡ cond (is_at (g.C.Ord.cmp c.args.peer.now) q) ((λ (r : Option Recorded). needed (option_map (parted c.args.is_primary) r)) (lookup (is_at (g.C.Ord.cmp q)) k.entries)) (lookup (is_at (g.C.Ord.cmp q)) k.entries)) c.self.view_is
    (none-changed g.met.C.Ord.total c.args.peer.now c.self.inside.map.entries c.get_mut.follows.lender-at-none.entries (λ (r : Option Recorded). needed (option_map (parted c.args.is_primary) r)) refl (rw c.in_default.is at c.get_mut.ensures.value) (ap (λ (m : BTreeMap g.row.C.Denot Recorded). m.entries) c.get_mut.follows.holds-at-none))

pub returns-clause-each : goal.returns-clause-each
returns-clause-each g c =
    subst (λ (k : Roster g.row.C.Denot). (q : g.row.C.Denot) → lookup (is_at (g.C.Ord.cmp q)) c.forget.new.records.entries
    ≡ cond (is_at (g.C.Ord.cmp c.args.peer.now) q) ((λ (r : Option Recorded). needed (option_map (parted c.args.is_primary) r)) (lookup (is_at (g.C.Ord.cmp q)) k.entries)) (lookup (is_at (g.C.Ord.cmp q)) k.entries)) c.self.view_is
    (λ q. lookup-needed_written g.met.C.Ord.total c.args.peer.now q c.self.inside.map.entries (c.get_mut.follows.lender c.count_less.new.known).entries c.forget.new.records.entries (parted c.args.is_primary) (written-found g.met.C.Ord.total c.args.peer.now c.self.inside.map.entries (c.get_mut.follows.lender c.count_less.new.known).entries c.in-Some.record.now c.count_less.new.known (parted c.args.is_primary) (rw c.in-Some.is at c.get_mut.ensures.value) c.count_less.ensures (c.get_mut.follows.holds c.count_less.new.known).0) (c.forget.ensures q))

pub invariant_of-self : goal.invariant_of-self
invariant_of-self g c = subst (λ (m : BTreeMap g.row.C.Denot Recorded). Indexes g.C.Ord.cmp c.self.inside.index m.entries) (sym c.get_mut.follows.holds-at-none) c.self.invariant

pub invariant_of-self-2 : goal.invariant_of-self-2
invariant_of-self-2 g c =
    follow-changed g.met.C.Ord.total c.args.peer.now c.self.inside.index c.follow.new.self c.spot-before.result.0 c.spot-before.result.1 c.self.inside.map.entries c.forget.new.records.entries (λ (r : Option Recorded). needed (option_map (parted c.args.is_primary) r)) refl
    (λ q. lookup-needed_written g.met.C.Ord.total c.args.peer.now q c.self.inside.map.entries (c.get_mut.follows.lender c.count_less.new.known).entries c.forget.new.records.entries (parted c.args.is_primary) (written-found g.met.C.Ord.total c.args.peer.now c.self.inside.map.entries (c.get_mut.follows.lender c.count_less.new.known).entries c.in-Some.record.now c.count_less.new.known (parted c.args.is_primary) (rw c.in-Some.is at c.get_mut.ensures.value) c.count_less.ensures (c.get_mut.follows.holds c.count_less.new.known).0) (c.forget.ensures q))
    c.follow.ensures.index c.spot-before.ensures.source c.spot-before.ensures.due c.self.invariant
