use Rattle.std.proofs.Common.{ap, ◌∙◌}
use Rattle.std.specs.BTreeMap.{insert_entry}
use Rattle.p2p_router.specs.Connections.{with_conn}
use Rattle.p2p_router.specs.Routes.{Routes}
use Rattle.p2p_router.specs.Routing.{link_of}
use Rattle.p2p_router.specs.declared.stepped.Stepped.TheVariants as stepped
use Rattle.p2p_router.proofs.Telling.{told_after, routes_after, desk_after}
use Rattle.p2p_router.proofs.actor.Actor.ready.Goals as goal

pub returns-clause-stepped : goal.returns-clause-stepped
returns-clause-stepped g c =
    let old = c.self.inside in
    let peer = c.args.peer in
    ap (λ l. stepped.Ready peer c.args.conn l c.in_ok-told.told) (c.in_ok-replaced.ensures.old ∙ ap (λ (r : Routes g.row.P.Denot). link_of g.P.Ord.cmp r.links peer) c.self.view_is)
    ∙ ap (stepped.Ready peer c.args.conn (link_of g.P.Ord.cmp c.args.self.now.links peer))
    (told_after (λ l. insert_entry g.P.Ord.cmp l peer (record { conn = c.args.conn; relay = c.args.relay })) c.args.self.now c.args.messenger.now old.links.entries c.insert.new.self.entries old.peers.entries old.subscriptions.items c.deref.result.now old.failed c.in_ok-told.told
    c.self.view_is c.in_ok-replaced.ensures.entries c.deref.ensures.value c.in_ok-told.ensures.told)

pub returns-clause-actor : goal.returns-clause-actor
returns-clause-actor g c =
    let old = c.self.inside in
    routes_after (λ l. insert_entry g.P.Ord.cmp l c.args.peer (record { conn = c.args.conn; relay = c.args.relay }))
    (λ l p. with_conn (link_of g.P.Ord.cmp l c.args.peer) p c.args.conn c.args.peer) c.args.self.now c.args.messenger.now
    old.links.entries c.insert.new.self.entries old.peers.entries c.put_conn.new.peers.entries old.subscriptions.items c.deref.result.now _ old.failed c.in_ok-told.told
    c.self.view_is c.in_ok-replaced.ensures.entries
    (c.in_ok-put_conn.ensures ∙ ap (λ l. with_conn l old.peers.entries c.args.conn c.args.peer) c.in_ok-replaced.ensures.old)
    c.deref.ensures.value c.in_ok-told.ensures.told (c.in_ok-self-inside.ensures.items ∙ c.as_slice.ensures)

pub returns-clause-messenger : goal.returns-clause-messenger
returns-clause-messenger g c =
    let old = c.self.inside in
    desk_after (λ l. insert_entry g.P.Ord.cmp l c.args.peer (record { conn = c.args.conn; relay = c.args.relay })) c.args.self.now c.args.messenger.now c.tell.new.messenger old.links.entries c.insert.new.self.entries old.peers.entries old.subscriptions.items c.deref.result.now old.failed
    c.self.view_is c.in_ok-replaced.ensures.entries c.deref.ensures.value c.in_ok-told.ensures.messenger
