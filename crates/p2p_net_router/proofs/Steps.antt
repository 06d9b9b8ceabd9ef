-- Each kind of step, as the log has it.
use Rattle.std.proofs.Common.{◌≡◌, ℕ, ◌<◌, List, [], ◌∷◌, ◌++◌, length, refl, ap, sym, subst, ◌∙◌, append_assoc, append-nil, Option, Some, None}
use Rattle.std.specs.Prelude.{filter, flat_map, map}
use Rattle.std.specs.List.{AllByRecursion}
use Rattle.std.specs.BTreeMap.{insert_entry}
use Rattle.std.specs.Map.{keys_of}
use Rattle.std.specs.Ordering.{nat_cmp}
use Rattle.std.proofs.lemmas.List.{map-append}
use Rattle.p2p_base.specs.declared.key.Key.{Key}
use Rattle.p2p_base.specs.Queue.{without_oldest}
use Rattle.p2p_flow.specs.Lanes.{empty_lanes}
use Rattle.p2p_router.specs.Connections.{with_conn}
use Rattle.p2p_router.specs.Routes.{Routes}
use Rattle.p2p_router.specs.Routing.{link_of}
use Rattle.p2p_router.specs.Messenger.{Desk, message_taken, message_waiting, in_mailbox, told_all}
use Rattle.p2p_router.specs.Step.{heard, told_of, stepped_on, routes_on, desk_on}
use Rattle.p2p_router.specs.declared.link.Link.{Link}
use Rattle.p2p_router.specs.declared.message.Message.{Message}
use Rattle.p2p_router.specs.declared.message.Message.TheVariants as message
use Rattle.p2p_router.specs.declared.stepped.Stepped.TheVariants as stepped
use Rattle.p2p_router.specs.declared.stepped.Told.{Told}
use Rattle.p2p_log.specs.declared.config.Config.{Config}
use Rattle.p2p_log.specs.declared.queue.Queue.TheVariants as queue
use Rattle.p2p_log.specs.declared.item.Item.TheVariants as item
use Rattle.p2p_log.specs.declared.item.Envelope.{Envelope}
use Rattle.p2p_log.specs.declared.entry.Entry.{Entry}
use Rattle.p2p_log.specs.declared.entry.Reply.TheVariants as reply
use Rattle.p2p_log_rules.specs.declared.row.Row.{Row}
use Rattle.p2p_log.specs.declared.event.Event.{Event}
use Rattle.p2p_log.specs.declared.event.Act.TheVariants as act
use Rattle.p2p_log.specs.Lines.{name_of, stays, live, line, stands_in}
use Rattle.p2p_log_rules.specs.Connections.{is_ended}
use Rattle.p2p_log_rules.specs.Facts.{subscribers, with_route, routes, keys_in, wants_lists}
use Rattle.p2p_log_rules.proofs.Routing.{wants_lists-item}
use Rattle.p2p_log_rules.specs.Effect.{only, entry_of, mailbox_size_at, ready_row, route_row}
use Rattle.p2p_log_rules.specs.Routed.{routed_tells}
use Rattle.p2p_log.proofs.Names.{AreApart-live_from}
use Rattle.p2p_net_queues.specs.declared.board.Board.{Board}
use Rattle.p2p_net_queues.specs.Board.{held}
use Rattle.p2p_net_router.specs.Names.{Agrees, label, bare_item}
use Rattle.p2p_net_router.specs.Items.{key_cmp, channel_of, message_item, messages_in, frames_of}
use Rattle.p2p_net_router.specs.Sound.{IsSound, IsProper, IsInTurn, says, said_of, subscription_in, numbers_from}
use Rattle.p2p_net_router.specs.Ends.{AreEnded}
use Rattle.p2p_net_router.specs.Holds.{after, routes_in}
use Rattle.p2p_net_router.specs.Oldest.{IsOldest, told_row}
use Rattle.p2p_net_router.specs.Stands.{StandsFor}
use Rattle.p2p_net_router.specs.declared.router.Router.{Router}
use Rattle.p2p_net_router.specs.declared.name.Name.{Name}
use Rattle.p2p_net_router.proofs.First.{IsFirst, first_same, none_same, messages_first, messages_none, bound_first, bare-ready, bare-subscribe}
use Rattle.p2p_net_router.proofs.Answered.{was_ready, was_subscription, was_idle}
use Rattle.p2p_net_router.proofs.Linking.{routes_in-insert, keys_in-links}
use Rattle.p2p_net_router.proofs.Others.{told_adds}
use Rattle.p2p_net_router.proofs.Numbers.{numbers_within, all_left, all_right, distinct_told}
use Rattle.p2p_net_router.proofs.Readying.{own_turn, turns_insert, ends_insert, frames_insert}
use Rattle.p2p_net_router.proofs.Rings.{IsTold, told_all-told, heard_all}
use Rattle.p2p_net_router.proofs.Routed.{IsRouted, sound_stepped, line_is, idle_stands}
use Rattle.p2p_net_router.proofs.Standing.{answer, nothing}
use Rattle.p2p_net_router.proofs.Building.{own_peers as own_queue}
use Rattle.p2p_net_router.proofs.Told.{IsStep, each_told, stepped_to}

abbrev pub later_messages : Router → List (Message Key)
later_messages r = messages_in (in_mailbox without_oldest r.messenger.binding)

-- the item that the oldest message is
pub oldest_item :
    (configs : List Config) (log : List Entry) (r : Router) (m : Message Key) → StandsFor configs log r → message_waiting r.messenger ≡ Some m
    → IsFirst (message_item r.channels.items) bare_item m (later_messages r) (filter (stands_in (queue.Router r.number)) (live log))
oldest_item configs log r m s h =
    first_same (message_item r.channels.items) bare_item m (later_messages r) (filter (stands_in (queue.Router r.number)) (live log))
    (ap (map (message_item r.channels.items)) (sym (messages_first r.messenger.binding m h)) ∙ s.holds.each (queue.Router r.number) (own_queue r.number))

pub is_oldest :
    (configs : List Config) (log : List Entry) (r : Router) (m : Message Key) → (s : StandsFor configs log r)
    → (f : IsFirst (message_item r.channels.items) bare_item m (later_messages r) (filter (stands_in (queue.Router r.number)) (live log)))
    → IsOldest r.number r.names (live log) f.one f.rest
is_oldest configs log r m s f = record { apart = AreApart-live_from 0 log; first = f.is; agree = s.holds.names }

-- what may come, with the oldest message first
pub proper_first : (size : ℕ) (r : Router) (m : Message Key) → IsSound size r → message_waiting r.messenger ≡ Some m → AllByRecursion (IsProper size) (m ∷ later_messages r)
proper_first size r m s h = subst (AllByRecursion (IsProper size)) (messages_first r.messenger.binding m h) s.proper

-- and what is said of a key
pub turns_first :
    (size : ℕ) (r : Router) (m : Message Key) → IsSound size r → message_waiting r.messenger ≡ Some m
    → (k : Key) → IsInTurn size r.peers k (link_of key_cmp r.actor.links k) (says k m ++ said_of k (later_messages r))
turns_first size r m s h k = subst (λ ms. IsInTurn size r.peers k (link_of key_cmp r.actor.links k) (said_of k ms)) (messages_first r.messenger.binding m h) (s.turns k)

pub subscriptions_first :
    (size : ℕ) (r : Router) (m : Message Key) → IsSound size r → message_waiting r.messenger ≡ Some m
    → r.actor.subscriptions ++ (flat_map subscription_in (m ∷ later_messages r) ++ r.messenger.waiting) ≡ numbers_from 0 (length r.messenger.lists)
subscriptions_first size r m s h =
    ap (λ ms. r.actor.subscriptions ++ (flat_map subscription_in ms ++ r.messenger.waiting)) (sym (messages_first r.messenger.binding m h)) ∙ s.subscriptions

-- those that are told are there
pub told_within : (size : ℕ) (r : Router) → IsSound size r → AllByRecursion (λ s. s < length r.messenger.lists) r.actor.subscriptions
told_within size r s =
    all_left (λ n. n < length r.messenger.lists) r.actor.subscriptions (flat_map subscription_in (messages_in r.messenger.binding) ++ r.messenger.waiting)
    (subst (AllByRecursion (λ n. n < length r.messenger.lists)) (sym s.subscriptions) (numbers_within (length r.messenger.lists)))

-- ---- a connection

pub routed_ready :
    (configs : List Config) (log : List Entry) (entry : ℕ) (old : Router) (desk : Desk Key) (actor : Routes Key) (names : Board Name) (row : Row) (peer : Key) (conn : ℕ) (replaced : Option Link) (told : Told Key)
    → StandsFor configs log old
    → stepped.Ready peer conn replaced told ≡ stepped_on key_cmp old.actor old.messenger (message_waiting old.messenger)
    → actor ≡ routes_on key_cmp old.actor old.messenger (message_waiting old.messenger)
    → desk ≡ desk_on key_cmp old.actor old.messenger (message_waiting old.messenger)
    → ((items : List Envelope) (x : Envelope) (rest : List Envelope) → IsOldest old.number old.names items x rest
    → row ≡ told_row old.number x items ((queue.RouterAnswer old.number conn, item.RouterAnswer) ∷ []) told.peers (map (channel_of old.channels.items) told.subscriptions))
    → ((items : List Envelope) (x : Envelope) (rest : List Envelope) → IsOldest old.number old.names items x rest → Agrees old.number label (held names) (after entry row items))
    → IsRouted configs log entry old desk actor names row
routed_ready configs log entry old desk actor names row peer conn replaced told s answered actor_is desk_is row_is names_are =
    let n = old.number in
    let size = mailbox_size_at configs n in
    let channels = old.channels.items in
    let sound = s.holds.sound in
    let w = was_ready old.actor old.messenger (message_waiting old.messenger) peer conn replaced told answered in
    let m = message.Ready peer w.relay conn in
    let f = oldest_item configs log old m s w.is in
    let x = f.one in
    let it : x.item ≡ item.Ready conn peer = bare-ready conn peer x.item f.same in
    let oldest = is_oldest configs log old m s f in
    let proper = proper_first size old m sound w.is in
    let own = own_turn size old.peers old.actor.links peer conn (said_of peer (later_messages old)) (turns_first size old m sound w.is peer) in
    let subs = old.actor.subscriptions in
    let taken = message_taken old.messenger in
    let within = told_within size old sound in
    let all : heard taken subs ≡ subs = heard_all old.messenger.lists subs within sound.rings in
    let new : Link = record { conn = conn; relay = empty_lanes size } in
    let links = insert_entry key_cmp old.actor.links peer new in
    let peers = with_conn (link_of key_cmp old.actor.links peer) old.actor.peers conn peer in
    let actor_now : actor ≡ record { links = links; peers = peers; subscriptions = subs; failed = old.actor.failed } =
    actor_is
    ∙ (ap (routes_on key_cmp old.actor old.messenger) w.is
    ∙ (ap (λ r. record { links = insert_entry key_cmp old.actor.links peer (record { conn = conn; relay = r }); peers = peers; subscriptions = heard taken subs; failed = old.actor.failed }) proper.0
    ∙ ap (λ l. record { links = links; peers = peers; subscriptions = l; failed = old.actor.failed }) all))
    in
    let links_now : actor.links ≡ links = ap (λ (r : Routes Key). r.links) actor_now in
    let subs_now : actor.subscriptions ≡ subs = ap (λ (r : Routes Key). r.subscriptions) actor_now in
    let desk_now : desk ≡ told_all taken (keys_of links) subs =
    desk_is
    ∙ (ap (desk_on key_cmp old.actor old.messenger) w.is
    ∙ (ap (λ r. told_all taken (keys_of (insert_entry key_cmp old.actor.links peer (record { conn = conn; relay = r }))) (heard taken subs)) proper.0
    ∙ ap (told_all taken (keys_of links)) all))
    in
    let told_now : told ≡ record { peers = keys_of links; subscriptions = subs } =
    w.told_is
    ∙ (ap (λ r. told_of taken (insert_entry key_cmp old.actor.links peer (record { conn = conn; relay = r })) subs) proper.0
    ∙ ap (λ l. record { peers = keys_of links; subscriptions = l }) all)
    in
    let t : IsTold channels taken desk (keys_of links) subs =
    subst (λ (d : Desk Key). IsTold channels taken d (keys_of links) subs) (sym desk_now) (told_all-told channels taken (keys_of links) subs within sound.rings sound.channels sound.distinct)
    in
    let puts = (queue.RouterAnswer n conn, item.RouterAnswer) ∷ [] in
    let row_now : row ≡ told_row n x (live log) puts (keys_of links) (map (channel_of channels) subs) =
    row_is (live log) x f.rest oldest ∙ ap (λ (o : Told Key). told_row n x (live log) puts o.peers (map (channel_of channels) o.subscriptions)) told_now
    in
    let none = own.unlinked in
    let step : IsStep n old (live log) entry row desk (keys_of links) subs puts = record {
      x = x;
      rest = f.rest;
      apart = AreApart-live_from 0 log;
      first = f.is;
      later = f.later;
      before = answer conn;
      distinct = distinct_told channels subs _ sound.distinct (sound.subscriptions ∙ ap (numbers_from 0) (sym sound.channels));
      told = t;
      row_is = row_now;
    }
    in
    let routes_now : routes_in links ≡ with_route (routes log n) (item.Ready conn peer) = routes_in-insert old.actor.links peer new ∙ ap (λ r. insert_entry nat_cmp r peer.0 conn) s.routes_are in
    record {
      x = x;
      rest = f.rest;
      first = f.is;
      row_is = row_now
          ∙ (ap (λ ks. told_row n x (live log) puts ks (map (channel_of channels) subs)) (sym (keys_in-links links) ∙ ap keys_in routes_now)
          ∙ (ap (told_row n x (live log) puts (keys_in (with_route (routes log n) (item.Ready conn peer)))) s.told
          ∙ (ap (λ b. ready_row log n (name_of x) conn peer b (filter (stays (name_of x ∷ [])) (live log))) (sym (s.ended.known conn peer own.known))
          ∙ ap (λ i. route_row configs log n (name_of x) i (filter (stays (name_of x ∷ [])) (live log))) (sym it))));
      takes = ap (λ (r : Row). r.takes) row_now;
      holds = record {
        sound = sound_stepped size old desk actor names (keys_of links) subs sound (bound_first old.messenger.binding m w.is) t proper.1
            (λ k. subst (λ (l : List (Key × Link)). IsInTurn size old.peers k (link_of key_cmp l k) (said_of k (later_messages old))) (sym links_now)
            (turns_insert size old.peers old.actor.links peer conn (λ j. said_of j (later_messages old)) own (turns_first size old m sound w.is) k))
            (ap (λ l. l ++ (flat_map subscription_in (later_messages old) ++ old.messenger.waiting)) subs_now ∙ subscriptions_first size old m sound w.is);
        names = names_are (live log) x f.rest oldest;
        each = each_told size old (live log) entry row desk actor names (keys_of links) subs puts s.holds step
            (λ b c. ap (λ l. frames_of old.peers l b c) links_now ∙ frames_insert size old.peers old.actor.links peer conn b c none);
      };
      routes_now = ap routes_in links_now ∙ (routes_now ∙ ap (with_route (routes log n)) (sym it));
      told_now = ap (map (channel_of channels)) subs_now ∙ (s.told ∙ (sym (append-nil (subscribers log n)) ∙ ap (λ i. subscribers log n ++ flat_map (wants_lists n) (routed_tells n i)) (sym it)));
      binding = t.binding;
      ended = subst (AreEnded (is_ended log n) old.peers) (sym links_now) (ends_insert size (is_ended log n) old.peers old.actor.links peer conn own.known s.ended);
      adds = λ q other. told_adds n entry x f.rest (live log) puts (keys_of links) (map (channel_of channels) subs) row q other step.distinct step.apart f.is row_now;
      works = ap (λ (r : Routes Key). r.failed) actor_now;
    }

-- ---- a subscription

pub routed_subscription :
    (configs : List Config) (log : List Entry) (entry : ℕ) (old : Router) (desk : Desk Key) (actor : Routes Key) (names : Board Name) (row : Row) (number : ℕ) (told : Told Key)
    → StandsFor configs log old
    → stepped.SubscribePeers number told ≡ stepped_on key_cmp old.actor old.messenger (message_waiting old.messenger)
    → actor ≡ routes_on key_cmp old.actor old.messenger (message_waiting old.messenger)
    → desk ≡ desk_on key_cmp old.actor old.messenger (message_waiting old.messenger)
    → ((items : List Envelope) (x : Envelope) (rest : List Envelope) → IsOldest old.number old.names items x rest
    → row ≡ told_row old.number x items [] told.peers (map (channel_of old.channels.items) told.subscriptions))
    → ((items : List Envelope) (x : Envelope) (rest : List Envelope) → IsOldest old.number old.names items x rest → Agrees old.number label (held names) (after entry row items))
    → IsRouted configs log entry old desk actor names row
routed_subscription configs log entry old desk actor names row number told s answered actor_is desk_is row_is names_are =
    let n = old.number in
    let size = mailbox_size_at configs n in
    let channels = old.channels.items in
    let sound = s.holds.sound in
    let w = was_subscription old.actor old.messenger (message_waiting old.messenger) number told answered in
    let m : Message Key = message.SubscribePeers number in
    let f = oldest_item configs log old m s w.is in
    let x = f.one in
    let c = channel_of channels number in
    let it : x.item ≡ item.Subscribe c = bare-subscribe c x.item f.same in
    let oldest = is_oldest configs log old m s f in
    let proper = proper_first size old m sound w.is in
    let subs = old.actor.subscriptions in
    let one = number ∷ [] in
    let links = old.actor.links in
    let taken = message_taken old.messenger in
    let numbered = subscriptions_first size old m sound w.is in
    let inside : number < length old.messenger.lists =
    (all_right (λ k. k < length old.messenger.lists) subs (number ∷ (flat_map subscription_in (later_messages old) ++ old.messenger.waiting))
    (subst (AllByRecursion (λ k. k < length old.messenger.lists)) (sym numbered) (numbers_within (length old.messenger.lists)))).0
    in
    let within : AllByRecursion (λ k. k < length old.messenger.lists) one = (inside, tt) in
    let all : heard taken one ≡ one = heard_all old.messenger.lists one within sound.rings in
    let actor_now : actor ≡ record { links = links; peers = old.actor.peers; subscriptions = subs ++ one; failed = old.actor.failed } =
    actor_is ∙ (ap (routes_on key_cmp old.actor old.messenger) w.is ∙ ap (λ l. record { links = links; peers = old.actor.peers; subscriptions = subs ++ l; failed = old.actor.failed }) all)
    in
    let links_now : actor.links ≡ links = ap (λ (r : Routes Key). r.links) actor_now in
    let subs_now : actor.subscriptions ≡ subs ++ one = ap (λ (r : Routes Key). r.subscriptions) actor_now in
    let desk_now : desk ≡ told_all taken (keys_of links) one =
    desk_is ∙ (ap (desk_on key_cmp old.actor old.messenger) w.is ∙ ap (told_all taken (keys_of links)) all)
    in
    let told_now : told ≡ record { peers = keys_of links; subscriptions = one } = w.told_is ∙ ap (λ l. record { peers = keys_of links; subscriptions = l }) all in
    let t : IsTold channels taken desk (keys_of links) one =
    subst (λ (d : Desk Key). IsTold channels taken d (keys_of links) one) (sym desk_now) (told_all-told channels taken (keys_of links) one within sound.rings sound.channels sound.distinct)
    in
    let row_now : row ≡ told_row n x (live log) [] (keys_of links) (c ∷ []) =
    row_is (live log) x f.rest oldest ∙ ap (λ (o : Told Key). told_row n x (live log) [] o.peers (map (channel_of channels) o.subscriptions)) told_now
    in
    let step : IsStep n old (live log) entry row desk (keys_of links) one [] = record {
      x = x;
      rest = f.rest;
      apart = AreApart-live_from 0 log;
      first = f.is;
      later = f.later;
      before = nothing;
      distinct = (refl, tt);
      told = t;
      row_is = row_now;
    }
    in
    record {
      x = x;
      rest = f.rest;
      first = f.is;
      row_is = row_now
          ∙ (ap (λ ks. told_row n x (live log) [] ks (c ∷ [])) (sym (keys_in-links links) ∙ ap keys_in s.routes_are)
          ∙ ap (λ i. route_row configs log n (name_of x) i (filter (stays (name_of x ∷ [])) (live log))) (sym it));
      takes = ap (λ (r : Row). r.takes) row_now;
      holds = record {
        sound = sound_stepped size old desk actor names (keys_of links) one sound (bound_first old.messenger.binding m w.is) t proper.1
            (λ k. subst (λ (l : List (Key × Link)). IsInTurn size old.peers k (link_of key_cmp l k) (said_of k (later_messages old))) (sym links_now) (turns_first size old m sound w.is k))
            (ap (λ l. l ++ (flat_map subscription_in (later_messages old) ++ old.messenger.waiting)) subs_now
            ∙ (append_assoc subs one (flat_map subscription_in (later_messages old) ++ old.messenger.waiting) ∙ numbered));
        names = names_are (live log) x f.rest oldest;
        each = each_told size old (live log) entry row desk actor names (keys_of links) one [] s.holds step (λ b d. ap (λ l. frames_of old.peers l b d) links_now);
      };
      routes_now = ap routes_in links_now ∙ (s.routes_are ∙ ap (with_route (routes log n)) (sym it));
      told_now = ap (map (channel_of channels)) subs_now
          ∙ (map-append (channel_of channels) subs one ∙ (ap (λ l. l ++ c ∷ []) s.told
          ∙ (ap (λ l. subscribers log n ++ l) (sym (wants_lists-item n c)) ∙ ap (λ i. subscribers log n ++ flat_map (wants_lists n) (routed_tells n i)) (sym it))));
      binding = t.binding;
      ended = subst (AreEnded (is_ended log n) old.peers) (sym links_now) s.ended;
      adds = λ q other. told_adds n entry x f.rest (live log) [] (keys_of links) (c ∷ []) row q other step.distinct step.apart f.is row_now;
      works = ap (λ (r : Routes Key). r.failed) actor_now;
    }

-- ---- nothing waits

pub idle_row : (configs : List Config) (log : List Entry) (r : Router) → StandsFor configs log r → message_waiting r.messenger ≡ None → line log (queue.Router r.number) ≡ []
idle_row configs log r s h =
    line_is log (queue.Router r.number)
    ∙ none_same (message_item r.channels.items) bare_item (filter (stands_in (queue.Router r.number)) (live log))
    (ap (map (message_item r.channels.items)) (sym (messages_none r.messenger.binding h)) ∙ s.holds.each (queue.Router r.number) (own_queue r.number))

pub idle_stepped :
    (configs : List Config) (log : List Entry) (entry : ℕ) (event : Event) (old : Router) (desk : Desk Key) (actor : Routes Key) (row : Row)
    → StandsFor configs log old → event.act ≡ act.Router old.number → row ≡ only reply.Idle
    → stepped.Idle ≡ stepped_on key_cmp old.actor old.messenger (message_waiting old.messenger)
    → actor ≡ routes_on key_cmp old.actor old.messenger (message_waiting old.messenger)
    → desk ≡ desk_on key_cmp old.actor old.messenger (message_waiting old.messenger)
    → StandsFor configs (log ++ entry_of event row ∷ []) (stepped_to old desk actor old.names)
idle_stepped configs log entry event old desk actor row s is idle answered actor_is desk_is =
    let none = was_idle old.actor old.messenger (message_waiting old.messenger) answered in
    let actor_now : actor ≡ old.actor = actor_is ∙ ap (routes_on key_cmp old.actor old.messenger) none in
    let desk_now : desk ≡ old.messenger = desk_is ∙ ap (desk_on key_cmp old.actor old.messenger) none in
    subst (λ (d : Desk Key). StandsFor configs (log ++ entry_of event row ∷ []) (stepped_to old d actor old.names)) (sym desk_now)
    (subst (λ (a : Routes Key). StandsFor configs (log ++ entry_of event row ∷ []) (stepped_to old old.messenger a old.names)) (sym actor_now)
    (idle_stands configs log entry event old row s is idle))
