use Rattle.std.proofs.Common.{◌++◌, ◌∷◌, [], length, refl, ap, sym, subst, ◌∙◌}
use Rattle.std.specs.Prelude.{IsTrue}
use Rattle.p2p_log.specs.declared.queue.Queue.TheVariants as queue
use Rattle.p2p_log.specs.declared.item.Item.TheVariants as item
use Rattle.p2p_log.specs.Lines.{live}
use Rattle.p2p_log_rules.specs.Connections.{is_ended}
use Rattle.p2p_base.specs.declared.key.Key.{Key}
use Rattle.p2p_flow.specs.Lanes.{Lanes}
use Rattle.p2p_wire.specs.declared.encoded.EncodedData.{EncodedData}
use Rattle.p2p_router.specs.Mailbox.{appended}
use Rattle.p2p_router.specs.Messenger.{Desk, is_bound, in_mailbox}
use Rattle.p2p_router.specs.declared.message.Message.TheVariants as message
use Rattle.p2p_net_router.proofs.Asked.{more_ended, Holds-readied, bound_appended, places_appended}
use Rattle.p2p_net_router.proofs.Beside.{moved_to, readied_stands}
use Rattle.p2p_net_router.specs.Holds.{Holds}
use Rattle.p2p_net_router.specs.Stands.{HasPlaces}
use Rattle.p2p_net_router.proofs.router.Router.ready.Goals as goal

pub returns-clause-holds : goal.returns-clause-holds
returns-clause-holds c =
    λ items h stranger.
    let r = c.args.self.now in
    Holds-readied c.args.size r c.tell_ready.new.messenger c.insert.new.self c.push.new.self c.args.turn.entry c.args.place c.args.conn c.args.key items
    r.messenger.binding refl c.requires.bound
    (c.in_ok-tell_ready.ensures
    ∙ ap (λ (l : Lanes EncodedData). record r.messenger { binding = in_mailbox (λ q. appended q (message.Ready c.args.key l c.args.conn)) r.messenger.binding }) c.in_ok-relay.ensures)
    h stranger (c.in_ok-insert.ensures.updates.0) c.in_ok-push.ensures

pub returns-clause-bound : goal.returns-clause-bound
returns-clause-bound c =
    let b = c.args.self.now.messenger.binding in
    subst IsTrue (sym (ap (λ (d : Desk Key). is_bound d.binding) c.in_ok-tell_ready.ensures ∙ bound_appended b _)) c.requires.bound

pub returns-clause-places : goal.returns-clause-places
returns-clause-places c =
    λ k h. subst (λ (d : Desk Key). HasPlaces k d.binding) (sym c.in_ok-tell_ready.ensures) (places_appended k c.args.self.now.messenger.binding _ h)

pub returns-clause-stands : goal.returns-clause-stands
returns-clause-stands c =
    λ configs log e s at room lives stranger b g.
    let r = c.args.self.now in
    let told =
    c.in_ok-tell_ready.ensures
    ∙ ap (λ (l : Lanes EncodedData). record r.messenger { binding = in_mailbox (λ q. appended q (message.Ready c.args.key l c.args.conn)) r.messenger.binding }) c.in_ok-relay.ensures
    in
    let holds =
    Holds-readied c.args.size r c.tell_ready.new.messenger c.insert.new.self c.push.new.self c.args.turn.entry c.args.place c.args.conn c.args.key (live log)
    r.messenger.binding refl c.requires.bound told (subst (λ k. Holds k r (live log)) (sym room) s.holds) stranger (c.in_ok-insert.ensures.updates.0) c.in_ok-push.ensures
    in
    readied_stands configs log e r c.tell_ready.new.messenger c.insert.new.self c.push.new.self c.args.place c.args.conn c.args.key s b g
    (ap (λ (d : Desk Key). is_bound d.binding) told ∙ bound_appended r.messenger.binding _)
    (λ k h. subst (λ (d : Desk Key). HasPlaces k d.binding) (sym told) (places_appended k r.messenger.binding _ h))
    (more_ended (is_ended log r.number) r c.insert.new.self c.args.conn c.args.key (c.in_ok-insert.ensures.updates.0) lives s.ended)
    (subst (λ k. Holds k (moved_to r c.tell_ready.new.messenger r.actor c.insert.new.self c.push.new.self) (live log ++ record { entry = length log; place = c.args.place; queue = queue.Router r.number; item = item.Ready c.args.conn c.args.key } ∷ [])) room
    (subst (λ n. Holds c.args.size (moved_to r c.tell_ready.new.messenger r.actor c.insert.new.self c.push.new.self) (live log ++ record { entry = n; place = c.args.place; queue = queue.Router r.number; item = item.Ready c.args.conn c.args.key } ∷ [])) (sym at) holds))
