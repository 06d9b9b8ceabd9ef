use Rattle.std.proofs.Common.{Option, sym, ap, ◌∙◌}
use Rattle.p2p_lookup.specs.Connection.{Connection, told_to_router, desk_of, desk_after}
use Rattle.p2p_lookup.specs.declared.peer.live.Live.{Live}
use Rattle.p2p_tracker_directory.specs.Reserved.{peer_of}
use Rattle.p2p_lookup.proofs.peer.actor.Actor.receive.Goals as goal

pub returns-clause-messenger : goal.returns-clause-messenger
returns-clause-messenger g c =
    let i = c.self.inside in
    let s = c.in_ok-stepped.stepped in
    let d = c.args.messenger.now in
    let whole : Connection g.row.P.Denot = record { conn = i.conn; limits = i.limits; control = i.control; live = i.live; failed = i.failed } in
    c.in_ok-settle.ensures.messenger
    ∙ (ap (λ r. told_to_router s (peer_of r) i.limits.mailbox_size i.conn d) c.in_ok-stepped.ensures.reservation
    ∙ (ap (λ (o : Option (Live g.row.P.Denot)). desk_of whole o s d) (sym c.in-Some.is ∙ c.take.ensures.value)
    ∙ ap (λ (x : Connection g.row.P.Denot). desk_after x s d) c.self.view_is))
