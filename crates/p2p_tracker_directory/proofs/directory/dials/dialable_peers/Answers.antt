use Rattle.std.proofs.Common.{◌≡◌, Bool, sym, ap, ◌∙◌, subst}
use Rattle.std.proofs.lemmas.List.Filters.{dedup_is}
use Rattle.std.specs.List.{filter}
use Rattle.std.specs.List.Sorted.{IsStrictlySortedBy}
use Rattle.std.specs.Map.{keys_of, lookup}
use Rattle.std.specs.BTreeMap.{is_at}
use Rattle.p2p_base.proofs.SortedLists.{sorted_once-from_sort}
use Rattle.p2p_base.specs.Sorted.{sorted_once}
use Rattle.p2p_tracker_directory.specs.Indexed.{Roster, timed, due_in}
use Rattle.p2p_tracker_directory.specs.Listed.{outlook, is_now}
use Rattle.p2p_tracker_directory.proofs.DueList.{due-peers}
use Rattle.p2p_tracker_directory.proofs.Timed.{Queues, queues-placed}
use Rattle.p2p_tracker_directory.proofs.directory.dials.dialable_peers.Goals as goal

pub returns-clause-peers : goal.returns-clause-peers
returns-clause-peers g c =
    let es = c.records.inside.map.entries in
    let kept = queues-placed g.C.Ord.cmp c.records.inside.index.queue (λ q. lookup (is_at (g.C.Ord.cmp q)) es) c.records.inside.index.private c.records.inside.index.dns c.records.invariant.queue in
    let rules = λ (a b : Bool). Queues g.C.Ord.cmp (timed c.records.inside.index.queue) (λ q. due_in (lookup (is_at (g.C.Ord.cmp q)) es) a b) in
    let queued = subst (λ (a : Bool). rules a c.args.cfg.now.allow_dns) (ap (λ (k : Roster g.row.C.Denot). k.private) c.records.view_is ∙ c.requires.private)
    (subst (λ (b : Bool). rules c.records.inside.index.private b) (ap (λ (k : Roster g.row.C.Denot). k.dns) c.records.view_is ∙ c.requires.dns) kept) in
    subst (λ (k : Roster g.row.C.Denot). c.dedup.new.self.items ≡ keys_of (filter
    (λ e. is_now (outlook e.1 (lookup (is_at (g.C.Ord.cmp e.0)) c.args.blocks.now) c.args.now c.args.cfg.now.allow_private_ips c.args.cfg.now.allow_dns)) k.entries)) c.records.view_is
    (dedup_is g.C.PartialEq.eq c.sort.new.self.items _ c.dedup.ensures.filtered
    ∙ (sorted_once-from_sort g.met.C.Ord.total g.met.C.Ord.matches_eq _ _ c.in_ok-sort.ensures.stable c.in_ok-sort.ensures.sorted ∙ (ap (sorted_once g.C.Ord.cmp) c.in_ok-found.ensures
    ∙ due-peers g.met.C.Ord.total es c.args.blocks.now c.args.now c.args.cfg.now.allow_private_ips c.args.cfg.now.allow_dns (timed c.records.inside.index.queue) queued
    (subst (λ (k : Roster g.row.C.Denot). IsStrictlySortedBy g.C.Ord.cmp (keys_of k.entries)) (sym c.records.view_is) c.stand_in_order.ensures))))
