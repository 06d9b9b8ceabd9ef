-- What is common to the acts that offer a message: the list that is taken, whom it is offered to, and whom its quota admits.
use Rattle.std.proofs.Common.{◌≡◌, ℕ, ◌≤◌, Bool, true, false, cond, List, [], ◌∷◌, ◌++◌, length, map, take, refl, ap, sym, subst, ◌∙◌, append-nil, Option, Some, None}
use Rattle.std.specs.Prelude.{filter, ◌==◌, is_some}
use Rattle.std.specs.List.{list_any}
use Rattle.p2p_base.specs.declared.key.Key.{Key}
use Rattle.p2p_log.specs.declared.config.Config.{Config}
use Rattle.p2p_log.specs.declared.queue.Queue.{Queue}
use Rattle.p2p_log.specs.declared.queue.Queue.TheVariants as queue
use Rattle.p2p_log.specs.declared.item.Envelope.{Envelope}
use Rattle.p2p_log.specs.declared.entry.Entry.{Entry}
use Rattle.p2p_log.specs.declared.event.Event.{Event}
use Rattle.p2p_log.specs.declared.event.Rate.{Rate}
use Rattle.p2p_log.specs.declared.event.Recipients.{Recipients}
use Rattle.p2p_log.specs.declared.event.Recipients.TheVariants as recipients
use Rattle.p2p_log.specs.Copies.{keys_of_recipients}
use Rattle.p2p_log.specs.Lines.{name_of, stays, stands_in, live, line, goes, placed}
use Rattle.p2p_log.proofs.Lines.{filter_stays-nil}
use Rattle.p2p_log.proofs.Names.{AreApart-live_from}
use Rattle.p2p_log_rules.specs.declared.row.Row.{Row}
use Rattle.p2p_log_rules.specs.Admitting.{keys_by, rate_at, sent_moments, offered, keys_admitted, retry_moment}
use Rattle.p2p_log_rules.specs.Checking.{checked_at}
use Rattle.p2p_log_rules.specs.Effect.{row, effect, takes_list}
use Rattle.p2p_log_rules.specs.Facts.{stops, events_of, latest_moment, registers_at, subscribers, routes, keys_in, is_stopped}
use Rattle.p2p_log_rules.specs.Quotas.{at_places}
use Rattle.p2p_log_laws.specs.Listed.{ListsAreCurrent}
use Rattle.p2p_net_queues.proofs.Going.{line-append}
use Rattle.p2p_net_router.specs.Peers.{names_taken, peers_known}
use Rattle.p2p_net_router.specs.Resting.{IsListing}
use Rattle.p2p_net_router.specs.Stands.{StandsOver, IsBeside, RoutesNothing}
use Rattle.p2p_net_router.specs.declared.router.Router.{Router}
use Rattle.p2p_net_links.specs.Stands.{LinksStand}
use Rattle.p2p_net_links.specs.declared.links.Links.{Links}
use Rattle.p2p_net_channels.specs.Channels.{capacity_at}
use Rattle.p2p_net_channels.specs.Senders.{keys_passed, retry_told, keys_metered}
use Rattle.p2p_net_channels.specs.Stands.{AdmitsNone, ClosesNone, ChannelsStand}
use Rattle.p2p_net_channels.specs.declared.channels.Channels.{Channels}
use Rattle.p2p_net_channels.proofs.Changes.{channels_frame}
use Rattle.p2p_net_channels.proofs.Quotas.{same_known}
use Rattle.p2p_net_channels.proofs.Senders.{keys_passed_is, retry_told_is}
use Rattle.p2p_net_router.proofs.Aside.{line_is}
use Rattle.p2p_net_router.proofs.Beside.{filter-first_away}
use Rattle.p2p_net_router.proofs.Over.{over_gone}
use Rattle.p2p_net_router.proofs.Peered.{peers_known_are, peers_known_rest}
use Rattle.p2p_net_router.proofs.Resting.{rests_listed}
use Rattle.p2p_net_node.proofs.Routers.{HearsTheSame, RouterStands-moved}
use Rattle.p2p_net_calls.specs.Offering.{ListTaken, node_offered, is_refused, Offers}
use Rattle.p2p_net_node.specs.Places as place
use Rattle.p2p_net_node.specs.Places.{at, names}
use Rattle.p2p_net_node.specs.Stands.{RouterLives, NodeStands}
use Rattle.p2p_net_node.specs.declared.node.Node.{Node}
use Rattle.p2p_net_calls.specs.declared.offers.Offered.{Offered}
use Rattle.p2p_net_node.proofs.EachPart.{is_in, with_parts, each_part}
use Rattle.p2p_net_node.proofs.Frames.{links_kept, lives_on, rests_on}
use Rattle.p2p_net_node.proofs.Performing.{Performs}
use Rattle.p2p_log_rules.proofs.Steps.{steps_spawner}
use Rattle.p2p_log_rules.proofs.Channels.{is_stopped-kept}

-- ---- the list of peers

-- a router that rests, of which these lists were taken
pub record RestsOver (log : List Entry) (old new : Router) (gone : List (ℕ × ℕ)) : Type 0 where
  pub same : new ≡ record old { messenger = record old.messenger { lists = new.messenger.lists }; names = new.names }
  pub listing : IsListing new (filter (stays gone) (live log))

-- a router of which these lists were taken, by whether its node has stopped
pub record RouterOver (configs : List Config) (log : List Entry) (n : ℕ) (old new : Router) (gone : List (ℕ × ℕ)) : Type 0 where
  pub number : new.number ≡ old.number
  pub peers : new.peers ≡ old.peers
  pub runs : is_stopped log n ≡ false → StandsOver configs log new (filter (stays gone) (live log))
  pub rests : is_stopped log n ≡ true → RestsOver log old new gone

-- of which one was taken, where a message is for all
pub record IsListed (configs : List Config) (log : List Entry) (n c : ℕ) (to : Recipients) (old new : Router) (o : Option (ℕ × ℕ)) : Type 0 where
  pub names : names_taken o ≡ takes_list log n c to
  pub over : RouterOver configs log n old new (takes_list log n c to)

-- by whether a node has stopped
pub by_life : {C : Type 0} (log : List Entry) (n : ℕ) → (is_stopped log n ≡ false → C) → (is_stopped log n ≡ true → C) → C
by_life {C = C} log n lasts over = by (is_stopped log n) refl
  where
    by : (b : Bool) → is_stopped log n ≡ b → C
    by false is = lasts is
    by true is = over is

-- a router of which nothing was taken
pub nothing_gone : (configs : List Config) (log : List Entry) (n : ℕ) (r : Router) → RouterLives configs log n r → RouterOver configs log n r r []
nothing_gone configs log n r s = record {
  number = refl;
  peers = refl;
  runs = λ lasts. subst (StandsOver configs log r) (sym (filter_stays-nil (live log))) (s.runs lasts).stands;
  rests = λ over. record { same = refl; listing = subst (IsListing r) (sym (filter_stays-nil (live log))) (s.rests over).listing };
}

untaken : (configs : List Config) (log : List Entry) (n c : ℕ) (to : Recipients) (old new : Router) (o : Option (ℕ × ℕ)) → takes_list log n c to ≡ [] → RouterLives configs log n old → o ≡ None → new ≡ old
    → IsListed configs log n c to old new o
untaken configs log n c to old new o none s nobody same = record {
  names = ap names_taken nobody ∙ sym none;
  over = subst (RouterOver configs log n old new) (sym none) (subst (λ (r : Router). RouterOver configs log n old r []) (sym same) (nothing_gone configs log n old s));
}

pub listed_stands : (configs : List Config) (log : List Entry) (n c : ℕ) (to : Recipients) (old new : Router) (o : Option (ℕ × ℕ)) → RouterLives configs log n old → ListTaken to c old new o
    → IsListed configs log n c to old new o
listed_stands configs log n c recipients.All old new o s d =
    let taken : names_taken o ≡ map name_of (take 1 (filter (stands_in (queue.Peers old.number c)) (live log))) =
    by_life log n (λ lasts. d.name configs log (live log) (s.runs lasts).stands) (λ over. d.named (live log) (s.rests over).listing)
    in
    let is : names_taken o ≡ takes_list log n c recipients.All =
    taken ∙ (ap (λ m. map name_of (take 1 (filter (stands_in (queue.Peers m c)) (live log)))) s.number ∙ ap (λ l. map name_of (take 1 l)) (line_is log (queue.Peers n c)))
    in
    record {
      names = is;
      over = record {
        number = ap (λ (r : Router). r.number) d.rest;
        peers = ap (λ (r : Router). r.peers) d.rest;
        runs = λ lasts. subst (λ l. StandsOver configs log new (filter (stays l) (live log))) is (d.stands configs log (live log) (s.runs lasts).stands (AreApart-live_from 0 log));
        rests = λ over. record {
          same = d.rest;
          listing = subst (λ l. IsListing new (filter (stays l) (live log))) is (d.listing (live log) (s.rests over).listing (AreApart-live_from 0 log));
        };
      };
    }
listed_stands configs log n c (recipients.One k) old new o s d = untaken configs log n c (recipients.One k) old new o refl s d.0 d.1
listed_stands configs log n c (recipients.Some ks) old new o s d = untaken configs log n c (recipients.Some ks) old new o refl s d.0 d.1

-- a line, once these went and nothing came
line_left : (log : List Entry) (e : Entry) (q : Queue) (gone : List (ℕ × ℕ)) → goes e ≡ gone → e.puts ≡ [] → line (log ++ e ∷ []) q ≡ filter (stands_in q) (filter (stays gone) (live log))
line_left log e q gone is none =
    line-append log e q
    ∙ (ap (λ ps. filter (stands_in q) (filter (stays (goes e)) (live log)) ++ filter (stands_in q) (placed (length log) 0 ps)) none
    ∙ (append-nil (filter (stands_in q) (filter (stays (goes e)) (live log))) ∙ ap (λ g. filter (stands_in q) (filter (stays g) (live log))) is))

-- what is asked here of the act of an entry
pub record IsAside (configs : List Config) (log : List Entry) (e : Entry) (n : ℕ) : Type 0 where
  pub beside : (m : ℕ) → IsBeside configs log e m
  pub hears : HearsTheSame log e n
  pub goes_on : stops n e.event.act ≡ false

-- the router after an entry in which these are taken and nothing comes of it
pub lives_idle : (configs : List Config) (log : List Entry) (e : Entry) (n : ℕ) (old new : Router) (gone : List (ℕ × ℕ)) → RouterLives configs log n old → RouterOver configs log n old new gone → IsAside configs log e n
    → goes e ≡ gone → e.puts ≡ [] → RouterLives configs (log ++ e ∷ []) n new
lives_idle configs log e n old new gone s left aside is none = by_life log n running resting
  where
    running : is_stopped log n ≡ false → RouterLives configs (log ++ e ∷ []) n new
    running lasts =
        lives_on configs (log ++ e ∷ []) n new (is_stopped-kept log e n aside.goes_on ∙ lasts)
        (RouterStands-moved configs log e n old new (s.runs lasts) aside.hears (over_gone configs log e new gone (left.runs lasts) (aside.beside new.number) is none) left.number left.peers)

    resting : is_stopped log n ≡ true → RouterLives configs (log ++ e ∷ []) n new
    resting over =
        let still : RoutesNothing log e n = (aside.beside n).no_step in
        let them : RestsOver log old new gone = left.rests over in
        rests_on configs (log ++ e ∷ []) n new (is_stopped-kept log e n aside.goes_on ∙ over)
        (rests_listed configs log e n old new gone (s.rests over) them.same them.listing (λ c. line_left log e (queue.Peers n c) gone is none) still.routes_stay still.subscribers_stay)

-- whom it is offered to is by the log
pub offered_is : (configs : List Config) (log : List Entry) (n c : ℕ) (to : Recipients) (x : Node) → RouterLives configs log n x.router → ListsAreCurrent log → node_offered x c to ≡ offered log n c to
offered_is configs log n c to x s current = ap (λ l. keys_of_recipients l to) (by_life log n running resting ∙ sym (current n c))
  where
    running : is_stopped log n ≡ false → peers_known x.router c ≡ cond (list_any (λ d. d == c) (subscribers log n)) (keys_in (routes log n)) []
    running lasts = peers_known_are configs log x.router c (s.runs lasts).stands ∙ ap (λ m. cond (list_any (λ d. d == c) (subscribers log m)) (keys_in (routes log m)) []) s.number

    resting : is_stopped log n ≡ true → peers_known x.router c ≡ cond (list_any (λ d. d == c) (subscribers log n)) (keys_in (routes log n)) []
    resting over = peers_known_rest configs log n x.router c (s.rests over)

-- the router's mailbox is as it was once the list was taken
pub mailbox_left : (log : List Entry) (n c : ℕ) (to : Recipients) → filter (stands_in (queue.Router n)) (filter (stays (takes_list log n c to)) (live log)) ≡ line log (queue.Router n)
mailbox_left log n c recipients.All = by (line log (queue.Peers n c)) refl ∙ line_is log (queue.Router n)
  where
    by : (xs : List Envelope) → line log (queue.Peers n c) ≡ xs → filter (stands_in (queue.Router n)) (filter (stays (map name_of (take 1 xs))) (live log)) ≡ filter (stands_in (queue.Router n)) (live log)
    by [] is = ap (filter (stands_in (queue.Router n))) (filter_stays-nil (live log))
    by (x ∷ rest) is = filter-first_away (queue.Router n) (queue.Peers n c) (live log) x rest (AreApart-live_from 0 log) (line_is log (queue.Peers n c) ∙ is) refl
mailbox_left log n c (recipients.One k) = ap (filter (stands_in (queue.Router n))) (filter_stays-nil (live log)) ∙ line_is log (queue.Router n)
mailbox_left log n c (recipients.Some ks) = ap (filter (stands_in (queue.Router n))) (filter_stays-nil (live log)) ∙ line_is log (queue.Router n)

-- ---- an offer, by the log

-- at a channel that is not registered no quota is asked
pub channels_unasked : (configs : List Config) (log : List Entry) (e : Entry) (n c : ℕ) (to : Recipients) (ch : Channels) → ChannelsStand configs log n ch → registers_at configs n e.event.act ≡ []
    → ((d : ℕ) (k : Key) → sent_moments (log ++ e ∷ []) n d k ≡ sent_moments log n d k ++ cond (c == d) (at_places k e.event.at (keys_admitted log n c e.event.at (offered log n c to))) []) → AdmitsNone configs log e n
    → ((d : ℕ) → line (log ++ e ∷ []) (queue.Channel n d) ≡ line log (queue.Channel n d)) → ((name : ℕ) → checked_at (log ++ e ∷ []) n name ≡ checked_at log n name)
    → ClosesNone log e n → capacity_at ch c ≡ None → ChannelsStand configs (log ++ e ∷ []) n ch
channels_unasked configs log e n c to ch s none asks admits lines checks closes has =
    channels_frame configs log e n ch s (record { registers = none; lines = lines; admits = admits; sends = record { moments = moments; checks = checks }; closes = closes })
  where
    none_of : (o : Option Rate) → is_some o ≡ false → o ≡ None
    none_of None h = refl
    none_of (Some rate) h = absurd (cc)

    no_rate : rate_at log n c ≡ None
    no_rate = none_of (rate_at log n c) (sym (same_known configs log n c) ∙ ap (λ (o : Option ℕ). is_some o) (sym (s.capacities c) ∙ has))

    nobody : (b : Bool) (l : List ℕ) → l ++ cond b [] [] ≡ l
    nobody true l = append-nil l
    nobody false l = append-nil l

    moments : (d : ℕ) (k : Key) → sent_moments (log ++ e ∷ []) n d k ≡ sent_moments log n d k
    moments d k =
        asks d k
        ∙ (ap (λ o. sent_moments log n d k ++ cond (c == d) (at_places k e.event.at (keys_by o e.event.at (offered log n c to) (sent_moments log n c))) []) no_rate
        ∙ nobody (c == d) (sent_moments log n d k))

-- what it comes to at a registered channel
pub record IsOffered (configs : List Config) (log : List Entry) (n c at : ℕ) (to : Recipients) (x mid : Node) (o : Offered) : Type 0 where
  pub names : names_taken o.list ≡ takes_list log n c to
  pub admitted : o.admitted ≡ keys_admitted log n c at (offered log n c to)
  pub refused : o.refused ≡ is_refused (offered log n c to) (keys_admitted log n c at (offered log n c to))
  pub retry : o.retry ≡ retry_moment log n c at (offered log n c to)
  pub mid_is : mid ≡ record x { router = mid.router; channels = keys_metered c (offered log n c to) at x.channels }
  pub over : RouterOver configs log n x.router mid.router (takes_list log n c to)

pub is_offered : (configs : List Config) (log : List Entry) (n c k at : ℕ) (to : Recipients) (x mid : Node) (o : Offered) → NodeStands configs log n x → ListsAreCurrent log → latest_moment (events_of log) ≤ at
    → capacity_at x.channels c ≡ Some k → Offers c at to x mid o → IsOffered configs log n c at to x mid o
is_offered configs log n c k moment to x mid o s current late has d =
    let chan : ChannelsStand configs log n x.channels = s.each place.channels in
    let lives : RouterLives configs log n x.router = s.each place.router in
    let keys = offered log n c to in
    let same : node_offered x c to ≡ keys = offered_is configs log n c to x lives current in
    let passed : keys_passed x.channels c keys moment ≡ keys_admitted log n c moment keys = keys_passed_is configs log n c k moment keys x.channels chan late has in
    let list = listed_stands configs log n c to x.router mid.router o.list lives d.list in
    record {
      names = list.names;
      admitted = d.admitted ∙ (ap (λ l. keys_passed x.channels c l moment) same ∙ passed);
      refused = d.refused ∙ (ap (λ l. is_refused l (keys_passed x.channels c l moment)) same ∙ ap (is_refused keys) passed);
      retry = d.retry ∙ (ap (λ l. retry_told x.channels c l moment) same ∙ retry_told_is configs log n c k moment keys x.channels chan late has);
      mid_is = d.rest ∙ ap (λ l. record x { router = mid.router; channels = keys_metered c l moment x.channels }) same;
      over = list.over;
    }

-- ---- a node of which a message changed the channels and the router

abbrev pub named : List place.Part
named = place.channels ∷ place.router ∷ []

pub built :
    (configs : List Config) (log : List Entry) (ev : Event) (n : ℕ) (x y : Node) (l links : Links) (r : Row) (ch : Channels) (router : Router) → NodeStands configs log n x → LinksStand configs log l → links ≡ l
    → ((p : place.Part) → is_in p named ≡ false → names log ev.act (at p n) ≡ false) → names log ev.act place.links ≡ false → steps_spawner n ev.act ≡ false → stops n ev.act ≡ false
    → r ≡ row configs log ev.at ev.seed ev.act → y ≡ record x { channels = ch; router = router } → ChannelsStand configs (log ++ effect configs log ev ∷ []) n ch
    → RouterLives configs (log ++ effect configs log ev ∷ []) n router → Performs configs log ev n y links r
built configs log ev n x y l links r ch router s t kept unnamed apart spawns goes_on is parts channels_now lives_now =
    let e = effect configs log ev in
    record {
      row_is = is;
      node =
          each_part configs log ev n x y named s (subst (λ z. z ≡ with_parts named x z) (sym parts) refl) unnamed spawns goes_on (
            subst (ChannelsStand configs (log ++ e ∷ []) n) (sym (ap (λ (z : Node). z.channels) parts)) channels_now,
            (subst (RouterLives configs (log ++ e ∷ []) n) (sym (ap (λ (z : Node). z.router) parts)) lives_now, tt),
          );
      linked = subst (LinksStand configs (log ++ e ∷ [])) (sym kept) (links_kept configs log ev l t apart);
    }
