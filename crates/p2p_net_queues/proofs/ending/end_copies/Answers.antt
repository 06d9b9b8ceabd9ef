use Rattle.std.proofs.Common.{◌+◌, ap, sym, ◌∙◌, ◌++◌, ◌∷◌, [], append_assoc, drop, add-one}
use Rattle.p2p_log.specs.declared.end.End.TheVariants as end
use Rattle.p2p_log_rules.specs.Effect.{copies_end}
use Rattle.p2p_net_queues.proofs.Steps.{copies_end-drop}
use Rattle.p2p_net_queues.proofs.ending.end_copies.Goals as goal

pub loop-place-preserved : goal.loop-place-preserved
loop-place-preserved c =
    let s = c.args.send in
    let i = c.loop-place.place in
    let to = c.args.to.now in
    let o = c.args.outcome in
    ap (λ l. l ++ copies_end s (i + 1) (drop (i + 1) to) o) c.in_ok-push.ensures.ok
    ∙ (append_assoc c.loop-place.ends (end.Copy s i o ∷ []) (copies_end s (i + 1) (drop (i + 1) to) o)
    ∙ (ap (λ k. c.loop-place.ends ++ end.Copy s i o ∷ copies_end s (i + 1) (drop k to) o) (add-one i)
    ∙ (ap (λ l. c.loop-place.ends ++ l) (sym (copies_end-drop s i i to o c.loop-place-test.true)) ∙ c.loop-place.invariant)))
