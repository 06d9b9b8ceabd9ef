use Rattle.p2p_net_router.proofs.Subscribed.{fresh_stands}
use Rattle.p2p_net_router.proofs.router.Router.new.Goals as goal

pub returns-clause-stands : goal.returns-clause-stands
returns-clause-stands c =
    λ configs.
    let e = c.empty.ensures in
    fresh_stands configs c.empty.result (record { messenger = e.messenger; actor = e.actor; channels = e.channels; subscriptions = e.subscriptions; peers = e.peers; names = e.names })
