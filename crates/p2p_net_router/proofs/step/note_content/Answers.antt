use Rattle.std.proofs.Common.{ap}
use Rattle.p2p_log_rules.specs.declared.row.Row.{Row}
use Rattle.p2p_net_router.specs.Names.{tag_of}
use Rattle.p2p_net_router.specs.Oldest.{without, send_of}
use Rattle.p2p_net_router.proofs.Noting.{row_taken, row_copied, names_copied, NamesBuild-start}
use Rattle.p2p_net_router.proofs.step.note_content.Goals as goal

pub returns-clause-row : goal.returns-clause-row
returns-clause-row c =
    λ items x rest h start.
    row_copied c.args.turn.node x c.in_ok-send.send (send_of (tag_of x.item)) c.args.frame.now c.args.copies.now c.took.new.row c.note_copies.new.row
    (row_taken x c.args.row.now c.took.new.row start (c.in_ok-send.ensures.row items x rest h)) (c.in_ok-send.ensures.send items x rest h) c.in_ok-note_copies.ensures.row

pub returns-clause-names : goal.returns-clause-names
returns-clause-names c =
    λ items x rest h start.
    let n = c.args.turn.node in
    let taken = row_taken x c.args.row.now c.took.new.row start (c.in_ok-send.ensures.row items x rest h) in
    let row_is =
    row_copied c.args.turn.node x c.in_ok-send.send (send_of (tag_of x.item)) c.args.frame.now c.args.copies.now c.took.new.row c.note_copies.new.row
    taken (c.in_ok-send.ensures.send items x rest h) c.in_ok-note_copies.ensures.row
    in
    names_copied n c.args.turn.entry (send_of (tag_of x.item)) c.args.frame.now c.args.copies.now x items c.note_copies.new.names c.note_copies.new.row row_is
    (c.in_ok-note_copies.ensures.names n (without x items)
    (NamesBuild-start n c.took.new.names (without x items) c.args.turn.entry c.took.new.row (ap (λ (r : Row). r.puts) taken) (c.in_ok-send.ensures.names items x rest h)))
