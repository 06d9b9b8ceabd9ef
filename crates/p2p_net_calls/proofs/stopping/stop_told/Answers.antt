use Rattle.std.proofs.Common.{◌∷◌, []}
use Rattle.p2p_log.specs.declared.queue.Queue.TheVariants as queue
use Rattle.p2p_net_calls.proofs.Emptying.{drains_both}
use Rattle.p2p_net_calls.proofs.Holders.{update_drains, dialer_drains}
use Rattle.p2p_net_calls.proofs.stopping.stop_told.Goals as goal

pub returns-clause-drains : goal.returns-clause-drains
returns-clause-drains c =
    let n = c.args.turn.node in
    let x = c.args.node.now in
    let y = c.end_told.new.node in
    let z = c.end_told-2.new.node in
    let row = c.args.row.now in
    let mid = c.end_told.new.row in
    let after = c.end_told-2.new.row in
    λ l.
    drains_both n (queue.Addresses n ∷ []) (queue.Dialer n ∷ []) x y z l l l row mid after
    (update_drains n x y l row mid c.in_ok-end_told.ensures) (dialer_drains n y z l mid after c.in_ok-end_told-2.ensures)
