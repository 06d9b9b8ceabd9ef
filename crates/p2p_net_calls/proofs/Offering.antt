-- A send: what its channel's quota admits of the keys that it is offered to is handed to the router.
use Rattle.std.proofs.Common.{◌≡◌, ℕ, ◌≤◌, Bool, true, false, cond, List, [], ◌∷◌, ◌++◌, length, refl, ap, sym, subst, ◌∙◌, append-nil, Option, Some, None}
use Rattle.std.specs.Prelude.{filter, nat_le, nat_lt}
use Rattle.p2p_base.specs.declared.key.Key.{Key}
use Rattle.p2p_log.specs.declared.config.Config.{Config}
use Rattle.p2p_log.specs.declared.queue.Queue.TheVariants as queue
use Rattle.p2p_log.specs.declared.entry.Entry.{Entry}
use Rattle.p2p_log.specs.declared.entry.Reply.{Reply}
use Rattle.p2p_log.specs.declared.entry.Reply.TheVariants as reply
use Rattle.p2p_log.specs.declared.event.Event.{Event}
use Rattle.p2p_log.specs.declared.event.Recipients.{Recipients}
use Rattle.p2p_log.specs.declared.event.Act.{Act}
use Rattle.p2p_log.specs.declared.event.Act.TheVariants as act
use Rattle.p2p_log.specs.Lines.{stays, stands_in, live, line, goes}
use Rattle.p2p_log_rules.proofs.Connections.{ends_untold}
use Rattle.p2p_log_rules.specs.declared.row.Row.{Row}
use Rattle.p2p_log_rules.specs.Admitting.{offered, keys_admitted}
use Rattle.p2p_log_rules.specs.Frames.{frame_of}
use Rattle.p2p_log_rules.specs.Facts.{events_of, latest_moment, is_up, is_stopped}
use Rattle.p2p_log_rules.specs.Effect.{only, unless_stopped, taking, takes_list, row, effect, entry_of, sent_row, send_keys_row, router_capacity, limit_at, fitting_row}
use Rattle.p2p_log_rules.proofs.Checks.{checked_at-apart}
use Rattle.p2p_log_rules.proofs.Sends.{Asks, sent_moments-asked}
use Rattle.p2p_log_laws.specs.Listed.{ListsAreCurrent}
use Rattle.p2p_log_laws.proofs.Untouched.{line-untouched}
use Rattle.p2p_net_router.specs.Holds.{after}
use Rattle.p2p_net_router.specs.Stands.{StandsFor, StandsOver}
use Rattle.p2p_net_router.specs.declared.router.Router.{Router}
use Rattle.p2p_net_router.specs.declared.telling.Telling.TheVariants as telling
use Rattle.p2p_net_channels.specs.declared.channels.Channels.{Channels}
use Rattle.p2p_net_channels.specs.Channels.{capacity_at}
use Rattle.p2p_net_channels.specs.Senders.{keys_metered}
use Rattle.p2p_net_channels.specs.Stands.{ChannelsStand}
use Rattle.p2p_net_channels.proofs.Checks.{checks_kept}
use Rattle.p2p_net_channels.proofs.Senders.{channels_asked}
use Rattle.p2p_net_router.proofs.Over.{over_taking, sent_takes}
use Rattle.p2p_net_router.proofs.Unrouted.{unrouted_apart}
use Rattle.p2p_net_links.specs.Stands.{LinksStand}
use Rattle.p2p_net_links.specs.declared.links.Links.{Links}
use Rattle.p2p_net_calls.specs.Offering.{is_refused, listed, FollowsOn, HandsBy, SendsBy, SendsOffered, Sends}
use Rattle.p2p_net_node.specs.Places as place
use Rattle.p2p_net_node.specs.Stands.{RouterLives, NodeStands}
use Rattle.p2p_net_node.specs.declared.node.Node.{Node}
use Rattle.p2p_net_calls.specs.declared.offers.Offered.{Offered}
use Rattle.p2p_net_node.proofs.EachPart.{not_among}
use Rattle.p2p_net_calls.proofs.Messages.{RouterOver, IsAside, nothing_gone, lives_idle, mailbox_left, channels_unasked, IsOffered, is_offered, named, built}
use Rattle.p2p_net_node.proofs.Performing.{asked, Performs, effect-still}
use Rattle.p2p_net_node.proofs.Receivers.{admits_apart, closes_apart}
use Rattle.p2p_net_node.proofs.Routers.{hears_aside, RouterStands-moved}
use Rattle.p2p_net_node.proofs.Frames.{lives_on, lasts_after}

module _ (configs : List Config) (log : List Entry) (at seed n c : ℕ) (bytes : List ℕ) (priority : Bool) (to : Recipients) (x y : Node) (l links : Links) (r : Row) (s : NodeStands configs log n x) (t : LinksStand configs log l)
    (current : ListsAreCurrent log) (late : latest_moment (events_of log) ≤ at) (kept : links ≡ l) where
  abbrev a : Act
  a = act.Send bytes c n priority to

  abbrev ev : Event
  ev = asked at seed a

  abbrev e : Entry
  e = effect configs log ev

  abbrev Done : Type 0
  Done = Performs configs log ev n y links r

  -- whom it is offered to, and whom its quota admits
  abbrev keys : List Key
  keys = offered log n c to

  abbrev admitted : List Key
  admitted = keys_admitted log n c at keys

  abbrev names : List (ℕ × ℕ)
  names = takes_list log n c to

  chan : ChannelsStand configs log n x.channels
  chan = s.each place.channels

  lives : RouterLives configs log n x.router
  lives = s.each place.router

  limit_is : x.config.max_message_size ≡ limit_at configs n
  limit_is = sym (ap (λ (o : Option Config). elim o [ None ↦ 0 | Some c ↦ c.max_message_size ]) s.own.config)

  -- a node whose channels and whose router these are
  done : (ch : Channels) (router : Router) → r ≡ row configs log at seed a → y ≡ record x { channels = ch; router = router } → ChannelsStand configs (log ++ e ∷ []) n ch → RouterLives configs (log ++ e ∷ []) n router → Done
  done ch router = built configs log ev n x y l links r ch router s t kept (λ p out. not_among named p n n out) refl refl refl

  -- the channels, whose quota was asked
  channels_now : ChannelsStand configs (log ++ e ∷ []) n (keys_metered c keys at x.channels)
  unfolding effect
  channels_now =
      channels_asked configs log e n x.channels x.channels.checks chan refl (admits_apart configs log e n a refl (λ d. refl)) (λ d. line-untouched configs log ev (queue.Channel n d) refl refl refl)
      (checks_kept log e n x.channels.checks chan.checks (λ name. checked_at-apart log e n name refl)) (closes_apart log e n a refl refl refl) c at to
      (sent_moments-asked log e n c to (Asks.sends bytes priority refl)) refl late

  aside : IsAside configs log e n
  unfolding effect
  aside = record {
    beside = λ m. record { no_step = unrouted_apart log e m refl; no_channel = refl; no_turn = refl; no_end = λ conn. ends_untold log e m conn a refl refl };
    hears = hears_aside log e n a refl refl;
    goes_on = refl;
  }

  -- the router of a node that has not stopped, once it was handed what the row puts
  router_now : (inner : Row) (new : Router) → is_stopped log n ≡ false → row configs log at seed a ≡ taking names inner → inner.takes ≡ [] → StandsOver configs log new (after (length log) inner (filter (stays names) (live log)))
      → new.number ≡ x.router.number → new.peers ≡ x.router.peers → RouterLives configs (log ++ e ∷ []) n new
  unfolding effect
  router_now inner new lasts is none over number peers =
      lives_on configs (log ++ e ∷ []) n new (lasts_after configs log ev n lasts refl)
      (RouterStands-moved configs log e n x.router new (lives.runs lasts) aside.hears
      (subst (λ (z : Row). StandsFor configs (log ++ entry_of ev z ∷ []) new) (sym is) (over_taking configs log ev new names inner over (record { no_step = unrouted_apart log (entry_of ev (taking names inner)) new.number refl; no_channel = refl; no_turn = refl; no_end = λ conn. ends_untold log (entry_of ev (taking names inner)) new.number conn a refl refl }) none))
      number peers)

  -- or nothing
  router_idle : (rep : Reply) (new : Router) → row configs log at seed a ≡ taking names (only rep) → RouterOver configs log n x.router new names → RouterLives configs (log ++ e ∷ []) n new
  unfolding effect
  router_idle rep new is left =
      lives_idle configs log e n x.router new names lives left aside (ap (λ (z : Row). goes (entry_of ev z)) is ∙ append-nil names) (ap (λ (z : Row). z.puts) is)

  module _ (mid : Node) (o : Offered) (row_now : Row) (h : IsOffered configs log n c at to x mid o) (is : r ≡ listed o.list row_now) where
    row_listed : (inner : Row) → row_now ≡ inner → r ≡ taking names inner
    row_listed inner same = is ∙ (ap (λ (z : List (ℕ × ℕ)). taking z row_now) h.names ∙ ap (taking names) same)

    -- nothing is sent
    refused : (rep : Reply) → row configs log at seed a ≡ taking names (only rep) → row_now ≡ only rep → y ≡ mid → Done
    refused rep due told same =
        done (keys_metered c keys at x.channels) mid.router (row_listed (only rep) told ∙ sym due) (same ∙ h.mid_is) channels_now (router_idle rep mid.router due h.over)

    abbrev sent : List Key → Row
    sent ks = sent_row (reply.Sent ks) (reply.Sent []) (is_up log n) (nat_le (router_capacity configs log n) (length (line log (queue.Router n)))) n (length log) c priority (frame_of c bytes) ks

    mid_same : mid ≡ record x { router = mid.router; channels = keys_metered c keys at x.channels }
    mid_same = h.mid_is

    mid_limit : mid.config.max_message_size ≡ limit_at configs n
    mid_limit = ap (λ (z : Node). z.config.max_message_size) h.mid_is ∙ limit_is

    -- unless the node has stopped
    abbrev sent_there : List Key → Row
    sent_there ks = unless_stopped log n (reply.Sent []) (sent ks)

    -- by whether it has
    handed_by : (ks : List Key) (b : Bool) → is_stopped log n ≡ b → row configs log at seed a ≡ taking names (sent_there ks) → HandsBy b telling.Sent (length log) c priority bytes ks mid y row_now → Done
    handed_by ks true over due d = refused (reply.Sent []) (due ∙ ap (λ b. taking names (cond b (only (reply.Sent [])) (sent ks))) over) d.0 d.1
    handed_by ks false lasts due d =
        let calls = d.1 in
        let left = filter (stays names) (live log) in
        let mailbox : ℕ → Row = λ m. sent_row (reply.Sent ks) (reply.Sent []) (is_up log m) (nat_le (router_capacity configs log m) (length (filter (stands_in (queue.Router m)) left))) m (length log) c priority (frame_of c bytes) ks in
        let row_is : row_now ≡ sent ks =
        calls.row configs log left (h.over.runs lasts)
        ∙ (ap mailbox (h.over.number ∙ lives.number)
        ∙ ap (λ q. sent_row (reply.Sent ks) (reply.Sent []) (is_up log n) (nat_le (router_capacity configs log n) (length q)) n (length log) c priority (frame_of c bytes) ks) (mailbox_left log n c to))
        in
        let due_now : row configs log at seed a ≡ taking names (sent ks) = due ∙ ap (λ b. taking names (cond b (only (reply.Sent [])) (sent ks))) lasts in
        done (keys_metered c keys at x.channels) y.router (row_listed (sent ks) row_is ∙ sym due_now)
        (d.0 ∙ ap (λ (z : Node). record z { router = y.router }) h.mid_is) channels_now
        (router_now (sent ks) y.router lasts due_now
        (sent_takes (reply.Sent ks) (reply.Sent []) (is_up log n) (nat_le (router_capacity configs log n) (length (line log (queue.Router n)))) n (length log) c priority (frame_of c bytes) ks)
        (subst (λ (z : Row). StandsOver configs log y.router (after (length log) z left)) row_is (calls.stands configs log left (h.over.runs lasts) refl))
        (ap (λ (z : Router). z.number) calls.rest ∙ h.over.number) (ap (λ (z : Router). z.peers) calls.rest ∙ h.over.peers))

    -- and by whether the message is longer than the node lets it be
    to_by : (ks : List Key) (b : Bool) → nat_lt mid.config.max_message_size (length bytes) ≡ b
        → row configs log at seed a ≡ taking names (fitting_row (nat_lt (limit_at configs n) (length bytes)) (length bytes) (limit_at configs n) (sent_there ks))
        → SendsBy b telling.Sent (length log) c priority bytes ks mid y row_now → Done
    to_by ks b fits due d = by_size b fits d
      where
        due_by : (t : Bool) → nat_lt mid.config.max_message_size (length bytes) ≡ t → row configs log at seed a ≡ taking names (fitting_row t (length bytes) mid.config.max_message_size (sent_there ks))
        due_by t is =
            due
            ∙ (ap (λ m. taking names (fitting_row (nat_lt m (length bytes)) (length bytes) m (sent_there ks))) (sym mid_limit)
            ∙ ap (λ f. taking names (fitting_row f (length bytes) mid.config.max_message_size (sent_there ks))) is)

        by_size : (t : Bool) → nat_lt mid.config.max_message_size (length bytes) ≡ t → SendsBy t telling.Sent (length log) c priority bytes ks mid y row_now → Done
        by_size true long h = refused (reply.MessageTooLarge (length bytes) mid.config.max_message_size) (due_by true long) h.0 h.1
        by_size false short h = handed_by ks mid.stopped (sym (ap (λ (z : Node). z.stopped) mid_same ∙ s.life)) (due_by false short) h

    by_keys : (asks ks : List Key) → row configs log at seed a ≡ taking names (send_keys_row configs log bytes c n priority asks ks) → SendsOffered (is_refused asks ks) (length log) c priority bytes ks mid y row_now → Done
    by_keys [] ks due d = to_by ks (nat_lt mid.config.max_message_size (length bytes)) refl due d
    by_keys (j ∷ js) [] due d = refused (reply.Sent []) due d.0 d.1
    by_keys (j ∷ js) (k ∷ ks) due d = to_by (k ∷ ks) (nat_lt mid.config.max_message_size (length bytes)) refl due d

  -- on a channel that is not registered no quota is asked
  unregistered : capacity_at x.channels c ≡ None → ChannelsStand configs (log ++ e ∷ []) n x.channels
  unfolding effect
  unregistered has = channels_unasked configs log e n c to x.channels chan refl (sent_moments-asked log e n c to (Asks.sends bytes priority refl)) (admits_apart configs log e n a refl (λ d. refl))
      (λ d. line-untouched configs log ev (queue.Channel n d) refl refl refl) (λ name. checked_at-apart log e n name refl) (closes_apart log e n a refl refl refl) has

  gone : capacity_at x.channels c ≡ None → row configs log at seed a ≡ only reply.Gone → r ≡ only reply.Gone → y ≡ x → Done
  unfolding effect
  gone has is told same =
      let still = effect-still configs log ev reply.Gone is in
      done x.channels x.router (told ∙ sym is) same (unregistered has)
      (lives_idle configs log e n x.router x.router [] lives (nothing_gone configs log n x.router lives) aside (ap (λ (z : Row). goes (entry_of ev z)) is) still.puts)

  -- the row, by whether the channel is registered
  due_on : (p : Option ℕ) → capacity_at x.channels c ≡ p → row configs log at seed a ≡ elim p [ None ↦ only reply.Gone | Some _ ↦ taking names (send_keys_row configs log bytes c n priority keys admitted) ]
  unfolding row
  due_on p has = ap (λ (q : Option ℕ). elim q as (λ _. Row) [ None ↦ only reply.Gone | Some _ ↦ taking names (send_keys_row configs log bytes c n priority keys admitted) ]) (sym (chan.capacities c) ∙ has)

  by_channel : (p : Option ℕ) → capacity_at x.channels c ≡ p → FollowsOn p c at to (λ o mid next row. SendsOffered o.refused (length log) c priority bytes o.admitted mid next row) x y r → Done
  by_channel None has d = gone has (due_on None has) d.0 d.1
  by_channel (Some k) has d =
      let h = is_offered configs log n c k at to x d.mid d.offered s current late has d.offers in
      by_keys d.mid d.offered d.row h d.is keys admitted (due_on (Some k) has)
      (subst (λ ks. SendsOffered (is_refused keys admitted) (length log) c priority bytes ks d.mid y d.row) h.admitted
      (subst (λ b. SendsOffered b (length log) c priority bytes d.offered.admitted d.mid y d.row) h.refused d.comes))

  pub send_performs : Sends (length log) c at priority bytes to x y r → Done
  send_performs d = by_channel (capacity_at x.channels c) refl d
