use Rattle.std.proofs.Common.{List, ap, ◌∙◌}
use Rattle.p2p_log.specs.declared.end.End.{End}
use Rattle.p2p_log.specs.declared.end.Cause.TheVariants as cause
use Rattle.p2p_log.specs.declared.end.Outcome.TheVariants as outcome
use Rattle.p2p_log.specs.declared.entry.Reply.{Reply}
use Rattle.p2p_log_rules.specs.Effect.{only, copies_end}
use Rattle.p2p_net_router.specs.Telling.{accepted_reply}
use Rattle.p2p_net_router.proofs.calls.lost.Goals as goal

pub returns : goal.returns
returns c =
    let told = accepted_reply c.args.telling c.args.turn.node c.args.channel c.args.to in
    ap (λ (x : Reply). record (only x) { takes = c.empty.result; puts = c.empty-2.result; ends = c.in_ok-ends.ends }) c.accepted.ensures
    ∙ (ap (λ l. record (only told) { takes = l; puts = c.empty-2.result; ends = c.in_ok-ends.ends }) c.empty.ensures
    ∙ (ap (λ l. record (only told) { puts = l; ends = c.in_ok-ends.ends }) c.empty-2.ensures
    ∙ ap (λ (l : List End). record (only told) { ends = l }) (c.in_ok-ends.ensures ∙ ap (λ t. copies_end c.args.turn.entry 0 t (outcome.Dropped cause.Unbound)) c.as_slice.ensures)))
