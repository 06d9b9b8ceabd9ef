use Rattle.std.proofs.Common.{◌≡◌, ◌+◌, [], ◌∷◌, ◌++◌, List, take, drop, ap, sym, subst, ◌∙◌, append-nil, refl}
use Rattle.std.specs.Prelude.{count_by}
use Rattle.std.proofs.lemmas.List.{take_more, take_all}
use Rattle.p2p_log.specs.declared.queue.Queue.{Queue}
use Rattle.p2p_log.specs.declared.item.Item.{Item}
use Rattle.p2p_log_rules.specs.TrackerRows.{rings_of}
use Rattle.p2p_net_queues.specs.Board.{held}
use Rattle.p2p_net_tracker.specs.Telling.{lost}
use Rattle.p2p_net_tracker.proofs.Rings.{is_same, overwrites_more_row, overwrites_more_told}
use Rattle.p2p_net_tracker.proofs.telling.overwrite.Goals as goal

pub loop-put-init : goal.loop-put-init
unfolding lost
loop-put-init c = record {
  row = ap (λ e. record c.args.row.now { ends = e }) (sym (append-nil c.args.row.now.ends));
  told = λ q. refl;
}

pub loop-put-preserved : goal.loop-put-preserved
loop-put-preserved c =
    let i = c.loop-put.put-index in
    let all = c.args.puts.now in
    let x = c.put-item.result in
    let more : take (i + 1) all ≡ take i all ++ x ∷ [] = take_more all i x c.loop-put-test.true ∙ ap (λ y. take i all ++ y ∷ []) (sym c.put-item.is) in
    record {
      row = subst (λ (xs : List (Queue × Item)). c.overwrite_one.new.row ≡ record c.args.row.now { ends = c.args.row.now.ends ++ lost (held c.args.told.now) [] (rings_of xs) }) (sym more)
          (overwrites_more_row c.args.row.now c.loop-put.row c.overwrite_one.new.row (held c.args.told.now) (held c.loop-put.told) (take i all) x
          c.loop-put.invariant.row c.loop-put.invariant.told c.in_ok-overwrite_one.ensures.row);
      told = λ q.
          subst (λ (xs : List (Queue × Item)). held c.overwrite_one.new.told q ≡ drop (count_by (is_same q) (rings_of xs)) (held c.args.told.now q)) (sym more)
          (overwrites_more_told (held c.args.told.now) (held c.loop-put.told) (held c.overwrite_one.new.told) (take i all) x q (c.loop-put.invariant.told q) (c.in_ok-overwrite_one.ensures.told q));
    }

pub returns-clause-row : goal.returns-clause-row
returns-clause-row c =
    subst (λ (xs : List (Queue × Item)). c.loop-put.row ≡ record c.args.row.now { ends = c.args.row.now.ends ++ lost (held c.args.told.now) [] (rings_of xs) })
    (take_all c.loop-put.put-index c.args.puts.now c.loop-put-test.false) c.loop-put.invariant.row

pub returns-clause-told : goal.returns-clause-told
returns-clause-told c = λ q.
    subst (λ (xs : List (Queue × Item)). held c.loop-put.told q ≡ drop (count_by (is_same q) (rings_of xs)) (held c.args.told.now q))
    (take_all c.loop-put.put-index c.args.puts.now c.loop-put-test.false) (c.loop-put.invariant.told q)
