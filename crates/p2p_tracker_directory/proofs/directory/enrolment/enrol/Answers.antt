use Rattle.std.proofs.Common.{◌≡◌, Bool, Option, None, Some, refl, sym, ap, ◌∙◌, arith}
use Rattle.std.proofs.lemmas.List.{drop_all}
use Rattle.std.specs.declared.cmp.Ordering.{Ordering}
use Rattle.p2p_address.specs.declared.peer.Address.{Address as PeerAddress}
use Rattle.std.specs.Map.{lookup}
use Rattle.std.specs.BTreeMap.{is_at}
use Rattle.p2p_tracker_directory.specs.Recorded.{Recorded, updated}
use Rattle.p2p_tracker_directory.specs.Tracked.{joined, enters}
use Rattle.p2p_tracker_directory.proofs.Walks.{walked, changed, walked-once}
use Rattle.p2p_tracker_directory.proofs.Written.{lookup-written}
use Rattle.p2p_tracker_directory.proofs.Rules.{still-ruled}
use Rattle.p2p_tracker_directory.proofs.directory.enrolment.enrol.Goals as goal

entered : {P : Type 0} (cmp : P → P → Ordering) (b : Bool) (a : Option PeerAddress) (r : Option Recorded) → changed cmp (λ x s. enters b (Some x) s) a r ≡ enters b a r
entered cmp b None r = refl
entered cmp b (Some a) r = refl

pub loop-peer-init : goal.loop-peer-init
loop-peer-init g c = (
  λ q. ap (λ es. walked g.C.Ord.cmp (λ a r. enters c.args.is_primary (Some a) r) es q (lookup (is_at (g.C.Ord.cmp q)) c.args.records.now.entries)) c.into_iter-peer-iterator.ensures.into_iter_gives.0,
  (refl, refl),
)

pub loop-peer-preserved : goal.loop-peer-preserved
unfolding walked
loop-peer-preserved g c = (
  λ q.
      ap (walked g.C.Ord.cmp (λ a r. enters c.args.is_primary (Some a) r) c.next.new.self.rest.items q)
      (ap (lookup (is_at (g.C.Ord.cmp q))) c.enter.ensures.after ∙ lookup-written g.met.C.Ord.total c.in-Some.peer q c.loop-peer.records.entries (λ r. joined c.args.is_primary (updated r c.in-Some.address)))
      ∙ (sym (ap (λ es. walked g.C.Ord.cmp (λ a r. enters c.args.is_primary (Some a) r) es q (lookup (is_at (g.C.Ord.cmp q)) c.loop-peer.records.entries)) c.in-Some.ensures.steps.0) ∙ c.loop-peer.invariant.0 q),
  still-ruled _ _ c.loop-peer.records c.enter.new.self c.loop-peer.invariant.1 c.enter.ensures.rules,
)

pub returns-clause-each : goal.returns-clause-each
unfolding walked
returns-clause-each g c = λ q.
    let f : PeerAddress → Option Recorded → Option Recorded = λ a r. enters c.args.is_primary (Some a) r in
    let long = c.loop-peer.peer-iterator.rest.ok.0 in
    let end = c.in-None.ensures.steps.0 in
    sym (ap (λ es. walked g.C.Ord.cmp f es q (lookup (is_at (g.C.Ord.cmp q)) c.loop-peer.records.entries)) (drop_all 0 c.loop-peer.peer-iterator.rest.items (omega (arith, long, end))))
    ∙ (c.loop-peer.invariant.0 q ∙ (walked-once g.met.C.Ord.total f c.args.peers.items q (lookup (is_at (g.C.Ord.cmp q)) c.args.records.now.entries) c.requires
    ∙ entered g.C.Ord.cmp c.args.is_primary (lookup (λ p. is_at (g.C.Ord.cmp p) q) c.args.peers.items) (lookup (is_at (g.C.Ord.cmp q)) c.args.records.now.entries)))
