use Rattle.p2p_net_router.proofs.Started.{started_row, started_stands}
use Rattle.p2p_net_router.proofs.router.Router.start.Goals as goal

pub returns-clause-row : goal.returns-clause-row
returns-clause-row c =
    λ configs log s runs.
    started_row configs log c.args.self.now c.as_slice.result.now c.only-row.result c.note_subscriptions.new.row s runs c.only-row.ensures c.in_ok-note_subscriptions.ensures.row
    c.as_slice.ensures.value

pub returns-clause-stands : goal.returns-clause-stands
returns-clause-stands c =
    λ configs log event s runs at is room.
    started_stands configs log c.args.turn.entry c.args.places event c.args.self.now c.bind.new.messenger c.note_subscriptions.new.names c.as_slice.result.now c.only-row.result c.note_subscriptions.new.row
    s runs at is room c.requires.unbound c.in_ok-bind.ensures c.only-row.ensures c.in_ok-note_subscriptions.ensures.row
    c.as_slice.ensures.value c.in_ok-note_subscriptions.ensures.names
