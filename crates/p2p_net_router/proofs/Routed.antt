-- The router after a step that took a message stands for the log with one more entry.
use Rattle.std.proofs.Common.{◌≡◌, ℕ, ◌+◌, true, false, List, [], ◌∷◌, ◌++◌, length, refl, ap, sym, subst, ◌∙◌, append-nil}
use Rattle.std.specs.Prelude.{filter, flat_map, map}
use Rattle.std.specs.List.{AllByRecursion}
use Rattle.std.proofs.lemmas.Bool.{false≢true}
use Rattle.p2p_base.specs.declared.key.Key.{Key}
use Rattle.p2p_base.specs.Queue.{without_oldest}
use Rattle.p2p_router.specs.Connections.{IsIndexed}
use Rattle.p2p_router.specs.Routes.{Routes}
use Rattle.p2p_router.specs.Routing.{link_of}
use Rattle.p2p_router.specs.Messenger.{Desk, message_taken, in_mailbox, is_bound}
use Rattle.p2p_router.specs.declared.messenger.Binding.{Binding}
use Rattle.p2p_router.specs.declared.messenger.Binding.TheVariants.{Unbound, Bound, Closed}
use Rattle.p2p_log.specs.declared.config.Config.{Config}
use Rattle.p2p_log.specs.declared.queue.Queue.{Queue}
use Rattle.p2p_log.specs.declared.queue.Queue.TheVariants as queue
use Rattle.p2p_log.specs.declared.item.Envelope.{Envelope}
use Rattle.p2p_log.specs.declared.entry.Entry.{Entry}
use Rattle.p2p_log.specs.declared.entry.Reply.TheVariants as reply
use Rattle.p2p_log.specs.declared.event.Event.{Event}
use Rattle.p2p_log.specs.declared.event.Act.TheVariants as act
use Rattle.p2p_log_rules.specs.declared.row.Row.{Row}
use Rattle.p2p_log.specs.Lines.{name_of, stays, placed, live, line, stands_in}
use Rattle.p2p_log_rules.specs.Connections.{is_ended}
use Rattle.p2p_log_rules.specs.Facts.{turns, is_up, registers_at, channels, item_named, taken, wants_lists, subscribers, with_route, routes, sum_capacities}
use Rattle.p2p_log_rules.specs.Routed.{routed_tells}
use Rattle.p2p_log_rules.specs.Effect.{only, entry_of, mailbox_size_at, router_capacity, route_row, route_oldest}
use Rattle.p2p_log_rules.proofs.Channels.{channels-kept, is_up-kept}
use Rattle.p2p_log_rules.proofs.Routing.{subscribers-routed, routes-routed}
use Rattle.p2p_log.proofs.Lines.{live-append, filter_stays-nil}
use Rattle.p2p_log_rules.proofs.Recorded.{item_named-first}
use Rattle.p2p_net_queues.specs.declared.board.Board.{Board}
use Rattle.p2p_net_queues.specs.Rows.{row_goes}
use Rattle.p2p_net_router.specs.Names.{is_routers}
use Rattle.p2p_net_router.specs.Items.{key_cmp, messages_in}
use Rattle.p2p_net_router.specs.Sound.{IsSound, IsProper, IsInTurn, said_of, subscription_in, numbers_from}
use Rattle.p2p_net_router.specs.Ends.{AreEnded}
use Rattle.p2p_net_router.specs.Holds.{Holds, after, routes_in, channels_told, Adds}
use Rattle.p2p_net_router.specs.Stands.{RoutesNothing, StandsFor, HasPlaces}
use Rattle.p2p_net_router.specs.declared.router.Router.{Router}
use Rattle.p2p_net_router.specs.declared.name.Name.{Name}
use Rattle.p2p_net_router.proofs.Endings.{ends_untold, ended_beside}
use Rattle.p2p_net_router.proofs.Rings.{IsTold}
use Rattle.p2p_net_router.proofs.Told.{stepped_to}
use Rattle.p2p_net_router.proofs.Unrouted.{unrouted_untaken}

-- ---- what the router keeps true of itself

bound_taken : (b : Binding Key) → is_bound (in_mailbox without_oldest b) ≡ is_bound b
bound_taken Unbound = refl
bound_taken (Bound q) = refl
bound_taken Closed = refl

pub sound_stepped :
    (size : ℕ) (old : Router) (desk : Desk Key) (actor : Routes Key) (names : Board Name) (keys : List Key) (ss : List ℕ)
    → IsSound size old → is_bound old.messenger.binding ≡ true → IsTold old.channels.items (message_taken old.messenger) desk keys ss
    → AllByRecursion (IsProper size) (messages_in (in_mailbox without_oldest old.messenger.binding))
    → ((k : Key) → IsInTurn size old.peers k (link_of key_cmp actor.links k) (said_of k (messages_in (in_mailbox without_oldest old.messenger.binding))))
    → actor.subscriptions ++ (flat_map subscription_in (messages_in (in_mailbox without_oldest old.messenger.binding)) ++ old.messenger.waiting) ≡ numbers_from 0 (length old.messenger.lists)
    → IsSound size (stepped_to old desk actor names)
sound_stepped size old desk actor names keys ss s bound t proper turns subscriptions = record {
  proper = subst (λ b. AllByRecursion (IsProper size) (messages_in b)) (sym t.binding) proper;
  turns = λ k. subst (λ b. IsInTurn size old.peers k (link_of key_cmp actor.links k) (said_of k (messages_in b))) (sym t.binding) (turns k);
  single = s.single;
  early = λ e. absurd (false≢true (sym e ∙ (ap is_bound t.binding ∙ (bound_taken old.messenger.binding ∙ bound))));
  subscriptions = ap (λ b. actor.subscriptions ++ (flat_map subscription_in (messages_in b) ++ desk.waiting)) t.binding
      ∙ (ap (λ w. actor.subscriptions ++ (flat_map subscription_in (messages_in (in_mailbox without_oldest old.messenger.binding)) ++ w)) t.waiting
      ∙ (subscriptions ∙ ap (numbers_from 0) (sym t.long)));
  rings = t.rings;
  channels = s.channels ∙ sym t.long;
  distinct = s.distinct;
  numbered = s.numbered;
}

-- ---- one more entry

pub line_is : (log : List Entry) (q : Queue) → line log q ≡ filter (stands_in q) (live log)
unfolding line
line_is log q = refl

taken-first : (log : List Entry) (e : Entry) (q : Queue) (x : Envelope) (rest : List Envelope) → line log q ≡ x ∷ rest → e.takes ≡ name_of x ∷ [] → taken log e ≡ x.item ∷ []
unfolding taken
taken-first log e q x rest h t = ap (flat_map (item_named log)) t ∙ (append-nil (item_named log (name_of x)) ∙ item_named-first log q x rest h)

taken-none : (log : List Entry) (e : Entry) → e.takes ≡ [] → taken log e ≡ []
unfolding taken
taken-none log e t = ap (flat_map (item_named log)) t

channels_kept : (configs : List Config) (log : List Entry) (e : Entry) (n : ℕ) → e.event.act ≡ act.Router n → channels configs (log ++ e ∷ []) n ≡ channels configs log n
channels_kept configs log e n is = channels-kept configs log e n (ap (registers_at configs n) is)

up_kept : (log : List Entry) (e : Entry) (n : ℕ) → e.event.act ≡ act.Router n → is_up (log ++ e ∷ []) n ≡ is_up log n
up_kept log e n is = is_up-kept log e n (ap (turns n) is)

places_taken : (k : ℕ) (b : Binding Key) → HasPlaces k b → HasPlaces k (in_mailbox without_oldest b)
places_taken k Unbound h = h
places_taken k (Bound q) h = h
places_taken k Closed h = h

-- what a step that took a message comes to
pub record IsRouted (configs : List Config) (log : List Entry) (entry : ℕ) (old : Router) (desk : Desk Key) (actor : Routes Key) (names : Board Name) (row : Row) : Type 0 where
  pub x : Envelope
  pub rest : List Envelope
  pub first : filter (stands_in (queue.Router old.number)) (live log) ≡ x ∷ rest
  pub row_is : row ≡ route_row configs log old.number (name_of x) x.item (filter (stays (name_of x ∷ [])) (live log))
  pub takes : row.takes ≡ name_of x ∷ []
  pub holds : Holds (mailbox_size_at configs old.number) (stepped_to old desk actor names) (after entry row (live log))
  pub routes_now : routes_in actor.links ≡ with_route (routes log old.number) x.item
  pub told_now : channels_told (stepped_to old desk actor names) ≡ subscribers log old.number ++ flat_map (wants_lists old.number) (routed_tells old.number x.item)
  pub binding : desk.binding ≡ in_mailbox without_oldest old.messenger.binding
  pub ended : AreEnded (is_ended log old.number) old.peers actor.links
  pub adds : (q : Queue) → is_routers old.number q ≡ false → Adds entry row (live log) q
  pub works : actor.failed ≡ old.actor.failed

pub routed_row :
    (configs : List Config) (log : List Entry) (entry : ℕ) (old : Router) (desk : Desk Key) (actor : Routes Key) (names : Board Name) (row : Row)
    → IsRouted configs log entry old desk actor names row → row ≡ route_oldest configs log old.number (line log (queue.Router old.number))
routed_row configs log entry old desk actor names row h =
    h.row_is ∙ sym (ap (route_oldest configs log old.number) (line_is log (queue.Router old.number) ∙ h.first))

pub routed_stands :
    (configs : List Config) (log : List Entry) (entry : ℕ) (event : Event) (old : Router) (desk : Desk Key) (actor : Routes Key) (names : Board Name) (row : Row)
    → StandsFor configs log old → length log ≡ entry → event.act ≡ act.Router old.number
    → IsRouted configs log entry old desk actor names row → IsIndexed key_cmp actor → StandsFor configs (log ++ entry_of event row ∷ []) (stepped_to old desk actor names)
routed_stands configs log entry event old desk actor names row s at is h indexed =
    let n = old.number in
    let e = entry_of event row in
    let took : taken log e ≡ h.x.item ∷ [] = taken-first log e (queue.Router n) h.x h.rest (line_is log (queue.Router n) ∙ h.first) h.takes in
    let same = channels_kept configs log e n is in
    record {
      holds = subst (Holds (mailbox_size_at configs n) (stepped_to old desk actor names))
          (ap (λ k. filter (stays (row_goes row)) (live log) ++ placed k 0 row.puts) (sym at) ∙ sym (live-append log e)) h.holds;
      routes_are = h.routes_now ∙ sym (routes-routed log e n is h.x.item took);
      told = h.told_now ∙ sym (subscribers-routed log e n is h.x.item took);
      registered = s.registered ∙ ap (map (λ (c : ℕ × ℕ). c.0)) (sym same);
      bound = ap is_bound h.binding ∙ (bound_taken old.messenger.binding ∙ (s.bound ∙ sym (up_kept log e n is)));
      places = subst (λ b. HasPlaces (router_capacity configs (log ++ e ∷ []) n) b) (sym h.binding)
          (places_taken (router_capacity configs (log ++ e ∷ []) n) old.messenger.binding
          (subst (λ k. HasPlaces k old.messenger.binding) (ap (λ l. mailbox_size_at configs n + sum_capacities l) (sym same)) s.places));
      ended = ended_beside log e n old.peers actor.links (λ conn. ends_untold log e n conn (act.Router n) is refl) h.ended;
      works = h.works ∙ s.works;
      indexed = indexed;
    }

-- ---- a step that took nothing

pub idle_stands :
    (configs : List Config) (log : List Entry) (entry : ℕ) (event : Event) (r : Router) (row : Row)
    → StandsFor configs log r → event.act ≡ act.Router r.number → row ≡ only reply.Idle → StandsFor configs (log ++ entry_of event row ∷ []) r
idle_stands configs log entry event r row s is idle =
    let n = r.number in
    let e = entry_of event row in
    let quiet : RoutesNothing log e n = unrouted_untaken log e n (taken-none log e (ap (λ (y : Row). y.takes) idle)) in
    let same = channels_kept configs log e n is in
    let kept : live (log ++ e ∷ []) ≡ live log =
    live-append log e
    ∙ (ap (λ (y : Row). filter (stays (row_goes y)) (live log) ++ placed (length log) 0 y.puts) idle
    ∙ (append-nil (filter (stays []) (live log)) ∙ filter_stays-nil (live log)))
    in
    record {
      holds = subst (Holds (mailbox_size_at configs n) r) (sym kept) s.holds;
      routes_are = s.routes_are ∙ sym quiet.routes_stay;
      told = s.told ∙ sym quiet.subscribers_stay;
      registered = s.registered ∙ ap (map (λ (c : ℕ × ℕ). c.0)) (sym same);
      bound = s.bound ∙ sym (up_kept log e n is);
      places = subst (λ k. HasPlaces k r.messenger.binding) (ap (λ l. mailbox_size_at configs n + sum_capacities l) (sym same)) s.places;
      ended = ended_beside log e n r.peers r.actor.links (λ conn. ends_untold log e n conn (act.Router n) is refl) s.ended;
      works = s.works;
      indexed = s.indexed;
    }
