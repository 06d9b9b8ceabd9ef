use Rattle.std.proofs.Common.{ap}
use Rattle.std.specs.Prelude.{map}
use Rattle.p2p_log_rules.specs.declared.row.Row.{Row}
use Rattle.p2p_net_router.specs.Items.{channel_of}
use Rattle.p2p_net_router.specs.Oldest.{without}
use Rattle.p2p_net_router.specs.Stepped.{answers_put}
use Rattle.p2p_net_router.proofs.Noting.{row_taken, row_told, names_told, apart_without}
use Rattle.p2p_net_router.proofs.step.note_told.Goals as goal

pub returns-clause-row : goal.returns-clause-row
returns-clause-row c =
    λ items x rest h start.
    row_told c.args.turn.node x items (answers_put c.args.turn.node c.args.answered) c.args.told.now.peers (map (channel_of c.args.channels.now) c.args.told.now.subscriptions)
    c.took.new.row c.put_lists.new.row (row_taken x c.args.row.now c.took.new.row start (c.in_ok-took.ensures.row items x rest h))
    (c.in_ok-put_lists.ensures.row (without x items) (apart_without x items h.apart) (c.in_ok-took.ensures.names items x rest h))

pub returns-clause-names : goal.returns-clause-names
returns-clause-names c =
    λ items x rest h start.
    let n = c.args.turn.node in
    let puts = answers_put c.args.turn.node c.args.answered in
    let cs = map (channel_of c.args.channels.now) c.args.told.now.subscriptions in
    let apart = apart_without x items h.apart in
    let left = c.in_ok-took.ensures.names items x rest h in
    let taken = row_taken x c.args.row.now c.took.new.row start (c.in_ok-took.ensures.row items x rest h) in
    names_told n c.args.turn.entry x items puts c.args.told.now.peers cs c.put_lists.new.names c.put_lists.new.row
    (row_told n x items puts c.args.told.now.peers cs c.took.new.row c.put_lists.new.row taken (c.in_ok-put_lists.ensures.row (without x items) apart left))
    (c.in_ok-put_lists.ensures.names (without x items) apart left (ap (λ (r : Row). r.puts) taken))
