-- A router of which a connection ends stands for the log with the entry that ends it.
use Rattle.std.proofs.Common.{◌≡◌, ℕ, true, List, [], ◌∷◌, ◌++◌, length, refl, ap, sym, subst, ◌∙◌, Option, Some, None, cond}
use Rattle.std.specs.Prelude.{filter}
use Rattle.std.specs.BTreeMap.{BTreeMap}
use Rattle.std.proofs.lemmas.List.Elements.{filter-append}
use Rattle.p2p_base.specs.declared.key.Key.{Key}
use Rattle.p2p_router.specs.Mailbox.{appended}
use Rattle.p2p_router.specs.Messenger.{Desk, is_bound, in_mailbox}
use Rattle.p2p_router.specs.Routes.{Routes}
use Rattle.p2p_router.specs.Routing.{link_of}
use Rattle.p2p_router.specs.declared.link.Link.{Link}
use Rattle.p2p_router.specs.declared.message.Message.TheVariants as message
use Rattle.p2p_log.specs.declared.config.Config.{Config}
use Rattle.p2p_log.specs.declared.entry.Entry.{Entry}
use Rattle.p2p_log.specs.declared.queue.Queue.{Queue}
use Rattle.p2p_log.specs.declared.queue.Queue.TheVariants as queue
use Rattle.p2p_log.specs.declared.item.Item.TheVariants as item
use Rattle.p2p_log.specs.declared.item.Envelope.{Envelope}
use Rattle.p2p_log.specs.QueueCode.{same_queue}
use Rattle.p2p_log.specs.Lines.{goes, stays, placed, live, stands_in}
use Rattle.p2p_log_rules.specs.Connections.{is_ended}
use Rattle.p2p_log_rules.specs.Effect.{mailbox_size_at}
use Rattle.p2p_log.proofs.Lines.{live-append}
use Rattle.p2p_net_queues.specs.declared.board.Board.{Board}
use Rattle.p2p_net_queues.specs.Board.{held}
use Rattle.p2p_net_router.specs.Ends.{AreEnded, closed_link, IsIdle}
use Rattle.p2p_net_router.specs.Holds.{routes_in}
use Rattle.p2p_net_router.specs.Items.{key_cmp, messages_in}
use Rattle.p2p_net_router.specs.Names.{is_routers}
use Rattle.p2p_net_router.specs.Sound.{said_of}
use Rattle.p2p_net_router.specs.Stands.{StandsOver, StandsFor, HasPlaces, IsEnding}
use Rattle.p2p_net_router.specs.declared.router.Router.{Router}
use Rattle.p2p_net_router.specs.declared.name.Name.{Name}
use Rattle.p2p_net_router.proofs.Asked.{bound_appended, places_appended}
use Rattle.p2p_net_router.proofs.Beside.{moved_to, moved_over, line_readied}
use Rattle.p2p_net_router.proofs.Closing.{LacksPeer, Holds-released, ends_closed}
use Rattle.p2p_net_router.proofs.Endings.{ending_ended}
use Rattle.p2p_net_router.proofs.Idle.{releasable}
use Rattle.p2p_net_router.proofs.Linking.{routes_in-with_link}
use Rattle.p2p_net_router.proofs.Over.{over_same}

pub closed_routes : (links : List (Key × Link)) (key : Key) (o : Option Link) → link_of key_cmp links key ≡ o → routes_in (closed_link o links key) ≡ routes_in links
closed_routes links key None at = refl
closed_routes links key (Some l) at = routes_in-with_link links key l _ at refl

-- a connection was released, and its relay closed
pub released_over :
    (configs : List Config) (log : List Entry) (e : Entry) (r : Router) (desk : Desk Key) (actor : Routes Key) (less : BTreeMap ℕ Key) (names : Board Name) (entry place conn : ℕ) (key : Key) (items : List Envelope)
    → StandsOver configs log r items → IsIdle r items conn key → IsEnding configs log e r.number conn key → is_bound r.messenger.binding ≡ true
    → actor ≡ record r.actor { links = closed_link (link_of key_cmp r.actor.links key) r.actor.links key }
    → desk ≡ record r.messenger { binding = in_mailbox (λ q. appended q (message.Release key)) r.messenger.binding } → LacksPeer r.peers less conn
    → ((k : Queue) → held names k ≡ held r.names k ++ cond (same_queue (queue.Router r.number) k) (record { entry = entry; place = place; tag = None } ∷ []) [])
    → StandsOver configs (log ++ e ∷ []) (moved_to r desk actor less names) (items ++ record { entry = entry; place = place; queue = queue.Router r.number; item = item.Release key } ∷ [])
released_over configs log e r desk actor less names entry place conn key items s idle g up actor_is desk_is gone named =
    let n = r.number in
    let size = mailbox_size_at configs n in
    let links = r.actor.links in
    let x : Envelope = record { entry = entry; place = place; queue = queue.Router n; item = item.Release key } in
    let own = releasable size r items conn key s.holds idle in
    let now : Routes Key = record r.actor { links = closed_link (link_of key_cmp links key) links key } in
    let ended : AreEnded (is_ended (log ++ e ∷ []) n) less (closed_link (link_of key_cmp links key) links key) =
    subst (λ (o : Option Link). AreEnded (is_ended (log ++ e ∷ []) n) less (closed_link o links key)) (sym own.linked)
    (ends_closed size (is_ended log n) (is_ended (log ++ e ∷ []) n) r.peers less links conn key (λ k. said_of k (messages_in r.messenger.binding)) own.link gone idle.known own.linked own.conn_is
    s.holds.sound.turns (ending_ended configs log e n conn key g) s.ended)
    in
    subst (λ (a : Routes Key). StandsOver configs (log ++ e ∷ []) (moved_to r desk a less names) (items ++ x ∷ [])) (sym actor_is)
    (moved_over configs log e r desk now less names items (items ++ x ∷ []) s g.no_step g.no_channel g.no_turn
    (closed_routes links key (link_of key_cmp links key) refl) refl refl refl
    (ap (λ (d : Desk Key). is_bound d.binding) desk_is ∙ bound_appended r.messenger.binding _)
    (λ k h. subst (λ (d : Desk Key). HasPlaces k d.binding) (sym desk_is) (places_appended k r.messenger.binding _ h))
    ended
    (Holds-released size r desk less names entry place conn key items r.messenger.binding refl up desk_is s.holds idle gone named))

-- where of the router's queues that goes by the entry which was taken before
pub over_end :
    (configs : List Config) (log : List Entry) (e : Entry) (r : Router) (conn : ℕ) (key : Key) (items : List Envelope)
    → StandsOver configs (log ++ e ∷ []) r (items ++ record { entry = length log; place = 0; queue = queue.Router r.number; item = item.Release key } ∷ [])
    → IsEnding configs log e r.number conn key
    → ((q : Queue) → is_routers r.number q ≡ true → filter (stands_in q) (filter (stays (goes e)) (live log)) ≡ filter (stands_in q) items)
    → StandsFor configs (log ++ e ∷ []) r
over_end configs log e r conn key items s g same =
    let x : Envelope = record { entry = length log; place = 0; queue = queue.Router r.number; item = item.Release key } in
    let left = filter (stays (goes e)) (live log) in
    over_same configs (log ++ e ∷ []) r (items ++ x ∷ []) (live (log ++ e ∷ [])) s
    (λ q own.
    ap (filter (stands_in q)) (live-append log e ∙ ap (λ p. left ++ placed (length log) 0 p) g.puts)
    ∙ (line_readied q left (length log) [] g.rest (queue.Router r.number, item.Release key) 0 refl tt (g.away q own)
    ∙ (filter-append (stands_in q) left (x ∷ [])
    ∙ (ap (λ l. l ++ filter (stands_in q) (x ∷ [])) (same q own) ∙ sym (filter-append (stands_in q) items (x ∷ []))))))
