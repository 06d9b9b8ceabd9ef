-- A step that released a connection, as the log has it.
use Rattle.std.proofs.Common.{◌≡◌, ℕ, List, [], ◌∷◌, ◌++◌, ap, sym, subst, ◌∙◌, append-nil}
use Rattle.std.specs.Prelude.{filter, flat_map, map}
use Rattle.std.specs.BTreeMap.{is_at}
use Rattle.std.specs.Map.{keys_of, remove_entry}
use Rattle.std.specs.Ordering.{nat_cmp}
use Rattle.p2p_base.specs.declared.key.Key.{Key}
use Rattle.p2p_router.specs.Connections.{without_conn}
use Rattle.p2p_router.specs.Routes.{Routes}
use Rattle.p2p_router.specs.Routing.{link_of}
use Rattle.p2p_router.specs.Messenger.{Desk, message_taken, message_waiting, told_all}
use Rattle.p2p_router.specs.Step.{heard, stepped_on, routes_on, desk_on}
use Rattle.p2p_router.specs.declared.link.Link.{Link}
use Rattle.p2p_router.specs.declared.message.Message.{Message}
use Rattle.p2p_router.specs.declared.message.Message.TheVariants as message
use Rattle.p2p_router.specs.declared.stepped.Stepped.TheVariants as stepped
use Rattle.p2p_router.specs.declared.stepped.Told.{Told}
use Rattle.p2p_log.specs.declared.config.Config.{Config}
use Rattle.p2p_log.specs.declared.item.Item.TheVariants as item
use Rattle.p2p_log.specs.declared.item.Envelope.{Envelope}
use Rattle.p2p_log.specs.declared.entry.Entry.{Entry}
use Rattle.p2p_log_rules.specs.declared.row.Row.{Row}
use Rattle.p2p_log.specs.Lines.{name_of, stays, live}
use Rattle.p2p_log_rules.specs.Connections.{is_ended}
use Rattle.p2p_log_rules.specs.Facts.{wants_lists, subscribers, with_route, routes, keys_in}
use Rattle.p2p_log_rules.specs.Routed.{routed_tells}
use Rattle.p2p_log_rules.specs.Effect.{mailbox_size_at, route_row}
use Rattle.p2p_log.proofs.Names.{AreApart-live_from}
use Rattle.p2p_net_queues.specs.declared.board.Board.{Board}
use Rattle.p2p_net_queues.specs.Board.{held}
use Rattle.p2p_net_router.specs.Names.{Agrees, label}
use Rattle.p2p_net_router.specs.Items.{key_cmp, channel_of, frames_of}
use Rattle.p2p_net_router.specs.Sound.{IsInTurn, said_of, subscription_in, numbers_from}
use Rattle.p2p_net_router.specs.Ends.{AreEnded}
use Rattle.p2p_net_router.specs.Holds.{after, routes_in}
use Rattle.p2p_net_router.specs.Oldest.{IsOldest, told_row}
use Rattle.p2p_net_router.specs.Stands.{StandsFor}
use Rattle.p2p_net_router.specs.declared.router.Router.{Router}
use Rattle.p2p_net_router.specs.declared.name.Name.{Name}
use Rattle.p2p_net_router.proofs.First.{bound_first, bare-release}
use Rattle.p2p_net_router.proofs.Answered.{was_release}
use Rattle.p2p_net_router.proofs.Linking.{routes_in-remove, keys_in-links}
use Rattle.p2p_net_router.proofs.Others.{told_adds}
use Rattle.p2p_net_router.proofs.Numbers.{distinct_told}
use Rattle.p2p_net_router.proofs.Releasing.{released_turn, turns_remove, ends_remove, frames_remove}
use Rattle.p2p_net_router.proofs.Rings.{IsTold, told_all-told, heard_all}
use Rattle.p2p_net_router.proofs.Routed.{IsRouted, sound_stepped}
use Rattle.p2p_log_rules.proofs.Rising.{IsRising, rising_routes}
use Rattle.p2p_net_router.proofs.Standing.{nothing}
use Rattle.p2p_net_router.proofs.Steps.{later_messages, oldest_item, is_oldest, proper_first, turns_first, subscriptions_first, told_within}
use Rattle.p2p_net_router.proofs.Told.{IsStep, each_told}

pub routed_release :
    (configs : List Config) (log : List Entry) (entry : ℕ) (old : Router) (desk : Desk Key) (actor : Routes Key) (names : Board Name) (row : Row) (peer : Key) (told : Told Key)
    → StandsFor configs log old
    → stepped.Release peer told ≡ stepped_on key_cmp old.actor old.messenger (message_waiting old.messenger)
    → actor ≡ routes_on key_cmp old.actor old.messenger (message_waiting old.messenger)
    → desk ≡ desk_on key_cmp old.actor old.messenger (message_waiting old.messenger)
    → ((items : List Envelope) (x : Envelope) (rest : List Envelope) → IsOldest old.number old.names items x rest
    → row ≡ told_row old.number x items [] told.peers (map (channel_of old.channels.items) told.subscriptions))
    → ((items : List Envelope) (x : Envelope) (rest : List Envelope) → IsOldest old.number old.names items x rest → Agrees old.number label (held names) (after entry row items))
    → IsRouted configs log entry old desk actor names row
routed_release configs log entry old desk actor names row peer told s answered actor_is desk_is row_is names_are =
    let n = old.number in
    let size = mailbox_size_at configs n in
    let channels = old.channels.items in
    let sound = s.holds.sound in
    let w = was_release old.actor old.messenger (message_waiting old.messenger) peer told answered in
    let m : Message Key = message.Release peer in
    let f = oldest_item configs log old m s w.is in
    let x = f.one in
    let it : x.item ≡ item.Release peer = bare-release peer x.item f.same in
    let oldest = is_oldest configs log old m s f in
    let proper = proper_first size old m sound w.is in
    let turns = turns_first size old m sound w.is in
    let own = released_turn size old.peers old.actor.links peer (said_of peer (later_messages old)) (turns peer) in
    let rising : IsRising (routes_in old.actor.links) = subst IsRising (sym s.routes_are) (rising_routes log n) in
    let subs = old.actor.subscriptions in
    let taken = message_taken old.messenger in
    let within = told_within size old sound in
    let all : heard taken subs ≡ subs = heard_all old.messenger.lists subs within sound.rings in
    let links = remove_entry (is_at (key_cmp peer)) old.actor.links in
    let peers = without_conn (link_of key_cmp old.actor.links peer) old.actor.peers in
    let actor_now : actor ≡ record { links = links; peers = peers; subscriptions = subs; failed = old.actor.failed } =
    actor_is
    ∙ (ap (routes_on key_cmp old.actor old.messenger) w.is ∙ ap (λ l. record { links = links; peers = peers; subscriptions = l; failed = old.actor.failed }) all)
    in
    let links_now : actor.links ≡ links = ap (λ (r : Routes Key). r.links) actor_now in
    let subs_now : actor.subscriptions ≡ subs = ap (λ (r : Routes Key). r.subscriptions) actor_now in
    let desk_now : desk ≡ told_all taken (keys_of links) subs =
    desk_is ∙ (ap (desk_on key_cmp old.actor old.messenger) w.is ∙ ap (told_all taken (keys_of links)) all)
    in
    let told_now : told ≡ record { peers = keys_of links; subscriptions = subs } = w.told_is ∙ ap (λ l. record { peers = keys_of links; subscriptions = l }) all in
    let t : IsTold channels taken desk (keys_of links) subs =
    subst (λ (d : Desk Key). IsTold channels taken d (keys_of links) subs) (sym desk_now) (told_all-told channels taken (keys_of links) subs within sound.rings sound.channels sound.distinct)
    in
    let row_now : row ≡ told_row n x (live log) [] (keys_of links) (map (channel_of channels) subs) =
    row_is (live log) x f.rest oldest ∙ ap (λ (o : Told Key). told_row n x (live log) [] o.peers (map (channel_of channels) o.subscriptions)) told_now
    in
    let step : IsStep n old (live log) entry row desk (keys_of links) subs [] = record {
      x = x;
      rest = f.rest;
      apart = AreApart-live_from 0 log;
      first = f.is;
      later = f.later;
      before = nothing;
      distinct = distinct_told channels subs _ sound.distinct (sound.subscriptions ∙ ap (numbers_from 0) (sym sound.channels));
      told = t;
      row_is = row_now;
    }
    in
    let routes_now : routes_in links ≡ with_route (routes log n) (item.Release peer) = routes_in-remove old.actor.links peer ∙ ap (remove_entry (is_at (nat_cmp peer.0))) s.routes_are in
    record {
      x = x;
      rest = f.rest;
      first = f.is;
      row_is = row_now
          ∙ (ap (λ ks. told_row n x (live log) [] ks (map (channel_of channels) subs)) (sym (keys_in-links links) ∙ ap keys_in routes_now)
          ∙ (ap (told_row n x (live log) [] (keys_in (with_route (routes log n) (item.Release peer)))) s.told
          ∙ ap (λ i. route_row configs log n (name_of x) i (filter (stays (name_of x ∷ [])) (live log))) (sym it)));
      takes = ap (λ (r : Row). r.takes) row_now;
      holds = record {
        sound = sound_stepped size old desk actor names (keys_of links) subs sound (bound_first old.messenger.binding m w.is) t proper.1
            (λ k. subst (λ (l : List (Key × Link)). IsInTurn size old.peers k (link_of key_cmp l k) (said_of k (later_messages old))) (sym links_now)
            (turns_remove size old.peers old.actor.links peer (λ j. said_of j (later_messages old)) rising own turns k))
            (ap (λ l. l ++ (flat_map subscription_in (later_messages old) ++ old.messenger.waiting)) subs_now ∙ subscriptions_first size old m sound w.is);
        names = names_are (live log) x f.rest oldest;
        each = each_told size old (live log) entry row desk actor names (keys_of links) subs [] s.holds step
            (λ b c. ap (λ l. frames_of old.peers l b c) links_now ∙ frames_remove old.peers old.actor.links peer (said_of peer (later_messages old)) b c rising own);
      };
      routes_now = ap routes_in links_now ∙ (routes_now ∙ ap (with_route (routes log n)) (sym it));
      told_now = ap (map (channel_of channels)) subs_now ∙ (s.told ∙ (sym (append-nil (subscribers log n)) ∙ ap (λ i. subscribers log n ++ flat_map (wants_lists n) (routed_tells n i)) (sym it)));
      binding = t.binding;
      ended = subst (AreEnded (is_ended log n) old.peers) (sym links_now) (ends_remove (is_ended log n) old.peers old.actor.links peer rising s.ended);
      adds = λ q other. told_adds n entry x f.rest (live log) [] (keys_of links) (map (channel_of channels) subs) row q other step.distinct step.apart f.is row_now;
      works = ap (λ (r : Routes Key). r.failed) actor_now;
    }
