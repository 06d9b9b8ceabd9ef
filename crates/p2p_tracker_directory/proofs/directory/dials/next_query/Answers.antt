use Rattle.std.proofs.Common.{◌≡◌, sym, ap, ◌∙◌, subst}
use Rattle.std.specs.List.Sorted.{IsStrictlySortedBy}
use Rattle.std.specs.Map.{keys_of, lookup}
use Rattle.std.specs.BTreeMap.{is_at}
use Rattle.p2p_tracker_calls.specs.DialList.{earlier, earliest}
use Rattle.p2p_tracker_directory.specs.Indexed.{Roster, timed}
use Rattle.p2p_tracker_directory.specs.Listed.{outlook, moment_of}
use Rattle.p2p_tracker_directory.proofs.NextDue.{next-due}
use Rattle.p2p_tracker_directory.proofs.Timed.{queues-placed, sorted-timed}
use Rattle.p2p_tracker_directory.proofs.directory.dials.next_query.Goals as goal

pub returns : goal.returns
returns g c =
    let es = c.records.inside.map.entries in
    let index = c.records.inside.index in
    let queued = queues-placed g.C.Ord.cmp index.queue (λ q. lookup (is_at (g.C.Ord.cmp q)) es) index.private index.dns c.records.invariant.queue in
    let ordered = subst (λ (k : Roster g.row.C.Denot). IsStrictlySortedBy g.C.Ord.cmp (keys_of k.entries)) (sym c.records.view_is) c.stand_in_order.ensures in
    subst (λ (k : Roster g.row.C.Denot). c.earlier.result ≡ earliest
    (λ e. moment_of (outlook e.1 (lookup (is_at (g.C.Ord.cmp e.0)) c.args.blocks.now) c.args.now k.private k.dns)) k.entries) c.records.view_is
    (c.earlier.ensures ∙ (ap (λ a. earlier a c.next_unblock-unblock.result) c.next_due-due.ensures ∙ (ap (earlier _) c.next_unblock-unblock.ensures
    ∙ next-due g.met.C.Ord.total es c.args.blocks.now c.args.now index.private index.dns ordered c.requires
    (timed index.queue) (sorted-timed g.C.Ord.cmp index.queue c.records.invariant.queue.ordered) queued)))
