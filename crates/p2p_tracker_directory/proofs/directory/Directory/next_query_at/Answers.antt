use Rattle.std.proofs.Common.{◌≡◌, true, Some, sym, ◌∙◌, subst}
use Rattle.std.specs.List.Sorted.{IsStrictlySortedBy}
use Rattle.std.specs.Map.{keys_of}
use Rattle.std.specs.Option.{IfSome}
use Rattle.p2p_tracker_calls.specs.DialList.{comes_by}
use Rattle.p2p_tracker_calls.specs.Lists.{next_query}
use Rattle.p2p_tracker_directory.specs.Stands.{Kept, StandsFor}
use Rattle.p2p_tracker_directory.specs.Told.{query_in}
use Rattle.p2p_tracker_directory.proofs.Dialing.{next-kept, comes-kept}
use Rattle.p2p_tracker_directory.proofs.Exact.{query-exact}
use Rattle.p2p_tracker_directory.proofs.Rules.{query-ruled}
use Rattle.p2p_tracker_directory.proofs.directory.Directory.next_query_at.Goals as goal

pub returns-clause-next : goal.returns-clause-next
returns-clause-next g c = λ calls s.
    let kept = subst (λ k. StandsFor g.C.Ord.cmp k calls) (sym c.self.view_is) s in
    subst (λ k. IfSome c.next_query.result (λ n. (q : _) × (next_query g.C.Ord.cmp k.rules calls q c.args.now ≡ Some n))) c.self.view_is
    (next-kept g.met.C.Ord.total kept c.args.now c.stand_in_order.ensures c.next_query.result (c.next_query.ensures ∙ query-ruled g.C.Ord.cmp c.self.inside.records.entries c.self.inside.blocks c.args.now c.self.inside.records c.self.inside.cfg.allow_private_ips c.self.inside.cfg.allow_dns c.self.invariant.1))

pub returns-clause-least : goal.returns-clause-least
returns-clause-least g c = λ calls s q.
    let kept = subst (λ k. StandsFor g.C.Ord.cmp k calls) (sym c.self.view_is) s in
    subst (λ k. IfSome (next_query g.C.Ord.cmp k.rules calls q c.args.now) (λ t. comes_by c.next_query.result t ≡ true)) c.self.view_is
    (comes-kept g.met.C.Ord.total kept c.args.now c.next_query.result q (c.next_query.ensures ∙ query-ruled g.C.Ord.cmp c.self.inside.records.entries c.self.inside.blocks c.args.now c.self.inside.records c.self.inside.cfg.allow_private_ips c.self.inside.cfg.allow_dns c.self.invariant.1))

pub returns-clause-value : goal.returns-clause-value
returns-clause-value g c = subst (λ (k : Kept g.row.C.Denot). c.next_query.result ≡ query_in g.C.Ord.cmp k c.args.now) c.self.view_is (c.next_query.ensures ∙ query-ruled g.C.Ord.cmp c.self.inside.records.entries c.self.inside.blocks c.args.now c.self.inside.records c.self.inside.cfg.allow_private_ips c.self.inside.cfg.allow_dns c.self.invariant.1)

pub returns-clause-exactly : goal.returns-clause-exactly
returns-clause-exactly g c = λ calls one s.
    returns-clause-value g c
    ∙ query-exact g.met.C.Ord.total one s (subst (λ (k : Kept g.row.C.Denot). IsStrictlySortedBy g.C.Ord.cmp (keys_of k.records)) c.self.view_is c.stand_in_order.ensures) c.args.now
