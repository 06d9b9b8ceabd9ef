use Rattle.std.proofs.Common.{ap, ◌∙◌}
use Rattle.p2p_log_rules.specs.Effect.{only}
use Rattle.p2p_net_router.proofs.step.note_step.Goals as goal

pub returns : goal.returns
returns c = c.in_ok-note_answer.ensures (c.only-row.ensures ∙ ap only c.reply_of.ensures)
