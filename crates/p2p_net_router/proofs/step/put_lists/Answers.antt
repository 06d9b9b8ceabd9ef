use Rattle.std.proofs.Common.{◌≡◌, [], ap, subst, ◌∙◌}
use Rattle.std.specs.Prelude.{map}
use Rattle.p2p_log_rules.specs.declared.row.Row.{Row}
use Rattle.p2p_net_queues.specs.Board.{held}
use Rattle.p2p_net_router.specs.Names.{Agrees, label}
use Rattle.p2p_net_router.specs.Items.{channel_of}
use Rattle.p2p_net_router.specs.Stepped.{answers_put, listless}
use Rattle.p2p_net_router.proofs.Noting.{row_listed, NamesBuild-answered, NamesBuild-start}
use Rattle.p2p_net_router.proofs.step.put_lists.Goals as goal

pub returns-clause-row : goal.returns-clause-row
returns-clause-row c =
    λ items apart h.
    let ds = map (channel_of c.args.channels.now) c.args.told.now.subscriptions in
    let wanted : c.in_ok-wanted.wanted.items ≡ ds = c.in_ok-wanted.ensures ∙ ap (map (channel_of c.args.channels.now)) c.as_slice.ensures in
    row_listed c.args.turn.node items (answers_put c.args.turn.node c.args.answered) c.as_slice-3.result.now c.args.told.now.peers c.as_slice-2.result.now c.as_slice-4.result.now ds
    c.args.row.now c.end_lists.new.row c.put_answer.new.row c.note_lists.new.row
    (c.in_ok-end_lists.ensures.row items apart h) c.in_ok-put_answer.ensures c.in_ok-note_lists.ensures.row
    c.as_slice-3.ensures (c.as_slice-2.ensures.value ∙ wanted) (c.as_slice-4.ensures.value ∙ wanted)

pub returns-clause-names : goal.returns-clause-names
returns-clause-names c =
    λ items apart h bare.
    let n = c.args.turn.node in
    let ds = map (channel_of c.args.channels.now) c.args.told.now.subscriptions in
    let wanted : c.in_ok-wanted.wanted.items ≡ ds = c.in_ok-wanted.ensures ∙ ap (map (channel_of c.args.channels.now)) c.as_slice.ensures in
    let left : Agrees n label (held c.end_lists.new.names) (listless n ds items) =
    subst (λ cs. Agrees n label (held c.end_lists.new.names) (listless n cs items)) (c.as_slice-2.ensures.value ∙ wanted) (c.in_ok-end_lists.ensures.names items apart h)
    in
    let none : c.end_lists.new.row.puts ≡ [] = ap (λ (r : Row). r.puts) (c.in_ok-end_lists.ensures.row items apart h) ∙ bare in
    c.in_ok-note_lists.ensures.names n (listless n ds items)
    (NamesBuild-answered n c.end_lists.new.names (listless n ds items) c.args.turn.entry c.end_lists.new.row c.put_answer.new.row n c.args.answered
    (ap (λ (r : Row). r.puts) c.in_ok-put_answer.ensures) (NamesBuild-start n c.end_lists.new.names (listless n ds items) c.args.turn.entry c.end_lists.new.row none left))
