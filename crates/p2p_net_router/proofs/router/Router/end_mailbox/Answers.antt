use Rattle.std.proofs.Common.{◌≡◌, ◌≤◌, ◌++◌, List, length, take, refl, ap, sym, subst, ◌∙◌, append-nil, arith}
use Rattle.std.specs.Prelude.{filter}
use Rattle.std.proofs.lemmas.List.{take_all}
use Rattle.p2p_log.specs.declared.end.Cause.TheVariants as cause
use Rattle.p2p_log.specs.declared.item.Envelope.{Envelope}
use Rattle.p2p_log.specs.declared.queue.Queue.TheVariants as queue
use Rattle.p2p_log.specs.Drained.{all_end}
use Rattle.p2p_log.specs.Lines.{stands_in}
use Rattle.p2p_log.proofs.Lines.{filter_stays-nil}
use Rattle.p2p_log_rules.proofs.Left.{left}
use Rattle.p2p_net_router.specs.Resting.{RouterLeft}
use Rattle.p2p_net_router.specs.declared.router.Router.{Router}
use Rattle.p2p_net_router.proofs.Batches.{AreApart-left}
use Rattle.p2p_net_router.proofs.Leaving.{mailbox_long, next_ended, next_left}
use Rattle.p2p_net_router.proofs.router.Router.end_mailbox.Goals as goal

pub loop-index-init : goal.loop-index-init
loop-index-init c = record {
  row = λ items h apart. ap (λ l. record c.args.row.now { ends = l }) (sym (append-nil c.args.row.now.ends));
  left = λ items h apart. subst (RouterLeft c.args.self.now) (sym (filter_stays-nil items)) h;
  rest = refl;
}

pub loop-index-preserved : goal.loop-index-preserved
loop-index-preserved c =
    let first = c.args.self.now in
    let now = c.loop-index.self in
    let i = c.loop-index._index in
    let q = queue.Router first.number in
    let inv = c.loop-index.invariant in
    let number = ap (λ (r : Router). r.number) inv.rest in
    record {
      row = λ items h apart.
          let front = take i (filter (stands_in q) items) in
          next_ended i q items c.args.row.now c.loop-index.row c.end_oldest.new.row apart (inv.row items h apart)
          (subst (λ k. c.end_oldest.new.row ≡ record c.loop-index.row { ends = c.loop-index.row.ends ++ all_end cause.NodeStopped (take 1 (filter (stands_in (queue.Router k)) (left front items))) }) number
          (c.in_ok-end_oldest.ensures.row (left front items) (inv.left items h apart) (AreApart-left front items apart)));
      left = λ items h apart.
          let front = take i (filter (stands_in q) items) in
          subst (RouterLeft c.end_oldest.new.self) (next_left i q items apart)
          (subst (λ k. RouterLeft c.end_oldest.new.self (left (take 1 (filter (stands_in (queue.Router k)) (left front items))) (left front items))) number
          (c.in_ok-end_oldest.ensures.left (left front items) (inv.left items h apart) (AreApart-left front items apart)));
      rest = c.in_ok-end_oldest.ensures.rest
          ∙ ap (λ (r : Router). record r { messenger = record r.messenger { binding = c.end_oldest.new.self.messenger.binding }; names = c.end_oldest.new.self.names }) inv.rest;
    }

pub returns-clause-row : goal.returns-clause-row
returns-clause-row c =
    λ items h apart.
    let r = c.args.self.now in
    let i = c.loop-index._index in
    let line = filter (stands_in (queue.Router r.number)) items in
    let long : c.len-index-end.result ≡ length line = c.len-index-end.ensures ∙ mailbox_long r items h in
    let all : length line ≤ i = omega (arith, long) in
    subst (λ (l : List Envelope). c.loop-index.row ≡ record c.args.row.now { ends = c.args.row.now.ends ++ all_end cause.NodeStopped l }) (take_all i line all) (c.loop-index.invariant.row items h apart)

pub returns-clause-left : goal.returns-clause-left
returns-clause-left c =
    λ items h apart.
    let r = c.args.self.now in
    let i = c.loop-index._index in
    let line = filter (stands_in (queue.Router r.number)) items in
    let long : c.len-index-end.result ≡ length line = c.len-index-end.ensures ∙ mailbox_long r items h in
    let all : length line ≤ i = omega (arith, long) in
    subst (λ (l : List Envelope). RouterLeft c.loop-index.self (left l items)) (take_all i line all) (c.loop-index.invariant.left items h apart)
