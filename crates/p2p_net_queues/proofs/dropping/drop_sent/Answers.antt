use Rattle.std.proofs.Common.{◌+◌, ap, sym, ◌∙◌, ◌++◌, ◌∷◌, [], append_assoc, drop, add-one}
use Rattle.p2p_log_rules.specs.declared.row.Row.{Row}
use Rattle.p2p_net_queues.specs.Rows.{dropped, sent_dropped}
use Rattle.p2p_net_queues.proofs.Steps.{sent_dropped-drop}
use Rattle.p2p_net_queues.proofs.dropping.drop_sent.Goals as goal

pub loop-place-preserved : goal.loop-place-preserved
loop-place-preserved c =
    let s = c.args.send in
    let i = c.loop-place.place in
    let to = c.args.to.now in
    let why = c.args.cause in
    let row = c.loop-place.row in
    ap (λ (r : Row). record r { ends = r.ends ++ sent_dropped why s (i + 1) (drop (i + 1) to) }) c.in_ok-drop_copy.ensures
    ∙ (ap (λ l. record row { ends = l })
    (append_assoc row.ends (dropped why (s, i) ∷ []) (sent_dropped why s (i + 1) (drop (i + 1) to))
    ∙ (ap (λ k. row.ends ++ dropped why (s, i) ∷ sent_dropped why s (i + 1) (drop k to)) (add-one i)
    ∙ ap (λ l. row.ends ++ l) (sym (sent_dropped-drop why s i i to c.loop-place-test.true))))
    ∙ c.loop-place.invariant)
