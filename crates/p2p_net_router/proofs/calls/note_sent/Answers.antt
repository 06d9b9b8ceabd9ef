use Rattle.std.proofs.Common.{◌++◌, ◌∷◌, [], ap, sym, subst, ◌∙◌}
use Rattle.p2p_log_rules.specs.declared.row.Row.{Row}
use Rattle.p2p_log_rules.specs.Effect.{only}
use Rattle.p2p_net_router.specs.Building.{NamesBuild}
use Rattle.p2p_net_router.specs.Telling.{accepted_reply}
use Rattle.p2p_net_router.proofs.Sent.{sent_item}
use Rattle.p2p_net_router.proofs.calls.note_sent.Goals as goal

pub returns-clause-row : goal.returns-clause-row
returns-clause-row c =
    let told = accepted_reply c.args.telling c.args.turn.node c.args.channel c.args.to in
    let put = sent_item c.args.turn.node c.args.turn.entry c.args.channel c.args.priority c.args.frame in
    c.in_ok-note.ensures.row
    ∙ (ap (λ (x : Row). record x { puts = x.puts ++ put c.in_ok-try_clone.field-0 ∷ [] }) (c.only-row.ensures ∙ ap only c.accepted-reply.ensures)
    ∙ ap (λ l. record (only told) { puts = put l ∷ [] }) c.in_ok-try_clone.ensures)

pub returns-clause-names : goal.returns-clause-names
returns-clause-names c =
    λ n items h. c.in_ok-note.ensures.names n items (subst (λ (r : Row). NamesBuild n c.args.names.now items c.args.turn.entry r) (sym (c.only-row.ensures ∙ ap only c.accepted-reply.ensures)) h)
