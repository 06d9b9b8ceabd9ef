use Rattle.std.proofs.Common.{◌≡◌, ℕ, List, Option, true, Some, sym, ◌∙◌, subst}
use Rattle.std.specs.Map.{keys_of}
use Rattle.std.specs.List.Sorted.{IsStrictlySortedBy}
use Rattle.std.specs.Option.{IfSome}
use Rattle.std.specs.Map.{lookup}
use Rattle.std.specs.BTreeMap.{is_at}
use Rattle.p2p_tracker_calls.specs.Sets.{is_among}
use Rattle.p2p_tracker_calls.specs.Lists.{is_dialable, next_query}
use Rattle.p2p_tracker_directory.specs.Stands.{Kept, StandsFor}
use Rattle.p2p_tracker_directory.specs.Told.{dial_list_in}
use Rattle.p2p_tracker_directory.specs.declared.directory.dials.Dialable.{Dialable}
use Rattle.p2p_tracker_directory.proofs.Exact.{both-parts, dialable-exact, query-exact}
use Rattle.p2p_tracker_directory.specs.Listed.{outlook, is_now}
use Rattle.p2p_tracker_calls.specs.DialList.{comes_by}
use Rattle.p2p_tracker_directory.proofs.Dialing.{dialable-kept, next-kept, comes-kept}
use Rattle.p2p_tracker_directory.proofs.Found.{sorted-filter}
use Rattle.p2p_tracker_directory.proofs.Rules.{query-ruled}
use Rattle.p2p_tracker_directory.proofs.directory.Directory.dialable.Goals as goal

pub returns-clause-peers : goal.returns-clause-peers
returns-clause-peers g c = λ calls s q.
    let kept = subst (λ k. StandsFor g.C.Ord.cmp k calls) (sym c.self.view_is) s in
    subst (λ k. is_among g.C.Ord.cmp c.new.result q ≡ is_dialable g.C.Ord.cmp k.rules calls q c.args.now) c.self.view_is
    (dialable-kept g.met.C.Ord.total kept c.args.now c.dialable_peers.ensures.ordered c.new.result q (c.new.ensures ∙ c.in_ok-peers.ensures.peers))

pub returns-clause-ordered : goal.returns-clause-ordered
returns-clause-ordered g c =
    subst (IsStrictlySortedBy g.C.Ord.cmp) (sym (c.new.ensures ∙ c.in_ok-peers.ensures.peers))
    (sorted-filter g.C.Ord.cmp (λ e. is_now (outlook e.1 (lookup (is_at (g.C.Ord.cmp e.0)) c.self.inside.blocks) c.args.now c.self.inside.cfg.allow_private_ips c.self.inside.cfg.allow_dns))
    c.self.inside.records.entries c.dialable_peers.ensures.ordered)

pub returns-clause-next : goal.returns-clause-next
returns-clause-next g c = λ calls s.
    let kept = subst (λ k. StandsFor g.C.Ord.cmp k calls) (sym c.self.view_is) s in
    subst (λ k. IfSome c.next_query-next_query_at.result (λ n. (q : _) × (next_query g.C.Ord.cmp k.rules calls q c.args.now ≡ Some n))) c.self.view_is
    (next-kept g.met.C.Ord.total kept c.args.now c.dialable_peers.ensures.ordered c.next_query-next_query_at.result (c.next_query-next_query_at.ensures ∙ query-ruled g.C.Ord.cmp c.self.inside.records.entries c.self.inside.blocks c.args.now c.self.inside.records c.self.inside.cfg.allow_private_ips c.self.inside.cfg.allow_dns c.self.invariant.1))

pub returns-clause-least : goal.returns-clause-least
returns-clause-least g c = λ calls s q.
    let kept = subst (λ k. StandsFor g.C.Ord.cmp k calls) (sym c.self.view_is) s in
    subst (λ k. IfSome (next_query g.C.Ord.cmp k.rules calls q c.args.now) (λ t. comes_by c.next_query-next_query_at.result t ≡ true)) c.self.view_is
    (comes-kept g.met.C.Ord.total kept c.args.now c.next_query-next_query_at.result q (c.next_query-next_query_at.ensures ∙ query-ruled g.C.Ord.cmp c.self.inside.records.entries c.self.inside.blocks c.args.now c.self.inside.records c.self.inside.cfg.allow_private_ips c.self.inside.cfg.allow_dns c.self.invariant.1))

pub returns-clause-value : goal.returns-clause-value
returns-clause-value g c =
    let With : List g.row.C.Denot → Option ℕ → Dialable g.row.C.Denot = λ p n. record { peers = p; next_query_at = n } in
    subst (λ (k : Kept g.row.C.Denot). With c.new.result c.next_query-next_query_at.result ≡ dial_list_in g.C.Ord.cmp k c.args.now) c.self.view_is
    (both-parts With _ _ _ _ (c.new.ensures ∙ c.in_ok-peers.ensures.peers) (c.next_query-next_query_at.ensures ∙ query-ruled g.C.Ord.cmp c.self.inside.records.entries c.self.inside.blocks c.args.now c.self.inside.records c.self.inside.cfg.allow_private_ips c.self.inside.cfg.allow_dns c.self.invariant.1))

pub returns-clause-exactly : goal.returns-clause-exactly
returns-clause-exactly g c = λ calls one s.
    let With : List g.row.C.Denot → Option ℕ → Dialable g.row.C.Denot = λ p n. record { peers = p; next_query_at = n } in
    let ordered = subst (λ (k : Kept g.row.C.Denot). IsStrictlySortedBy g.C.Ord.cmp (keys_of k.records)) c.self.view_is c.dialable_peers.ensures.ordered in
    returns-clause-value g c
    ∙ both-parts With _ _ _ _ (dialable-exact g.met.C.Ord.total one s ordered c.args.now) (query-exact g.met.C.Ord.total one s ordered c.args.now)
