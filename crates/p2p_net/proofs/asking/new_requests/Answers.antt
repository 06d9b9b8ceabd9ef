use Rattle.std.proofs.Common.{arith, ◌≡◌, ◌∙◌, ap, subst, length, length-append, ◌+◌, ◌∷◌, []}
use Rattle.std.specs.Prelude.{slice_get, Some}
use Rattle.p2p_net_node.specs.Requested.{nothing_requested}
use Rattle.p2p_net_node.proofs.Requests.{requested_none}
use Rattle.p2p_net_node.proofs.Starts.{each-append}
use Rattle.p2p_net.proofs.asking.new_requests.Goals as goal

pub loop-index-preserved : goal.loop-index-preserved
loop-index-preserved c =
    let old = c.loop-index.requested.items in
    let new = c.new.result in
    record {
      long = ap length c.in_ok-push.ensures.items ∙ (length-append old (new ∷ []) ∙ ap (λ k. k + 1) c.loop-index.invariant.long);
      each = λ k r s.
          each-append (λ m y. y ≡ nothing_requested) old new c.loop-index.invariant.each c.new.ensures k r
          (subst (λ l. slice_get l k ≡ Some r) c.in_ok-push.ensures.items s);
    }

pub returns : goal.returns
returns c =
    let i = c.loop-index.invariant.long in
    let past = c.loop-index-test.false in
    let most = c.loop-index.auto._index-end in
    requested_none c.args.configs.now c.loop-index.requested.items (omega (arith, i, past, most)) c.loop-index.invariant.each
