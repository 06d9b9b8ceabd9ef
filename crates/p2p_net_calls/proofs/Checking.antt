-- A check, which keeps what its channel's quota admits, and the message that is sent to those.
use Rattle.std.proofs.Common.{◌≡◌, ℕ, ◌≤◌, Bool, true, false, cond, List, [], ◌∷◌, ◌++◌, length, refl, ap, sym, subst, ◌∙◌, arith, append-nil, Option, Some, None}
use Rattle.std.specs.Prelude.{◌==◌, filter, nat_le, nat_lt, slice_get}
use Rattle.std.specs.BTreeMap.{insert_entry}
use Rattle.std.specs.Ordering.{nat_cmp}
use Rattle.std.proofs.lemmas.Bool.Decides.{nat_tests}
use Rattle.p2p_base.specs.declared.key.Key.{Key}
use Rattle.p2p_base.specs.declared.outcome.Feedback.TheVariants as feedback
use Rattle.p2p_base.specs.declared.outcome.Unreliable.TheVariants.{Outcome, Rejected}
use Rattle.p2p_log.specs.declared.config.Config.{Config}
use Rattle.p2p_log.specs.declared.queue.Queue.TheVariants as queue
use Rattle.p2p_log.specs.declared.entry.Entry.{Entry}
use Rattle.p2p_log.specs.declared.entry.Reply.{Reply}
use Rattle.p2p_log.specs.declared.entry.Reply.TheVariants as reply
use Rattle.p2p_log.specs.declared.event.Event.{Event}
use Rattle.p2p_log.specs.declared.event.Recipients.{Recipients}
use Rattle.p2p_log.specs.declared.event.Act.{Act}
use Rattle.p2p_log.specs.declared.event.Act.TheVariants as act
use Rattle.p2p_log.specs.Lines.{stays, stands_in, live, line, goes}
use Rattle.p2p_log.proofs.Lines.{filter_stays-nil}
use Rattle.p2p_log_rules.proofs.Connections.{ends_untold}
use Rattle.p2p_log_rules.specs.declared.row.Checked.{Checked}
use Rattle.p2p_log_rules.specs.declared.row.Row.{Row}
use Rattle.p2p_log_rules.specs.Admitting.{offered, keys_admitted, retry_moment}
use Rattle.p2p_log_rules.specs.Checking.{Check, check_of, admitted_at, checked_at}
use Rattle.p2p_log_rules.specs.Frames.{frame_of}
use Rattle.p2p_log_rules.specs.Facts.{events_of, latest_moment, is_up, is_stopped}
use Rattle.p2p_log_rules.specs.Effect.{only, unless_stopped, taking, takes_list, row, effect, entry_of, checked_row, sent_row, spent_row, router_capacity, limit_at, fitting_row}
use Rattle.p2p_log_rules.specs.Told.{check_tells}
use Rattle.p2p_log_rules.proofs.Checks.{checked_at-made, checked_at-unmade, checked_at-spent}
use Rattle.p2p_log_rules.proofs.Sends.{Asks, sent_moments-apart, sent_moments-asked}
use Rattle.p2p_log_laws.specs.Listed.{ListsAreCurrent}
use Rattle.p2p_log_laws.proofs.Untouched.{line-untouched}
use Rattle.p2p_net_router.specs.Holds.{after}
use Rattle.p2p_net_router.specs.Stands.{StandsFor, StandsOver}
use Rattle.p2p_net_router.specs.declared.router.Router.{Router}
use Rattle.p2p_net_router.specs.declared.telling.Telling.TheVariants as telling
use Rattle.p2p_net_router.proofs.Aside.{line_is}
use Rattle.p2p_net_router.proofs.Over.{over_taking, sent_takes}
use Rattle.p2p_net_router.proofs.Unrouted.{unrouted_apart}
use Rattle.p2p_net_channels.specs.declared.channels.Channels.{Channels}
use Rattle.p2p_net_channels.specs.Channels.{capacity_at}
use Rattle.p2p_net_channels.specs.Senders.{keys_metered}
use Rattle.p2p_net_channels.specs.Stands.{ChannelsStand}
use Rattle.p2p_net_channels.proofs.Checks.{checks_kept, checks_changed, checks_begun}
use Rattle.p2p_net_channels.proofs.Senders.{channels_asked, channels_spent}
use Rattle.p2p_net_links.specs.Stands.{LinksStand}
use Rattle.p2p_net_links.specs.declared.links.Links.{Links}
use Rattle.p2p_net_queues.specs.Tables as table
use Rattle.p2p_net_calls.specs.Offering.{is_refused, listed, FollowsOn, HandsBy, SendsBy, NotesCheck, Checks, with_checks, SpendsCheck, SendsChecked}
use Rattle.p2p_net_node.specs.Places as place
use Rattle.p2p_net_node.specs.Places.{node_checking}
use Rattle.p2p_net_node.specs.Stands.{RouterStands, RouterLives, NodeStands}
use Rattle.p2p_net_node.specs.declared.node.Node.{Node}
use Rattle.p2p_net_calls.specs.declared.offers.Offered.{Offered}
use Rattle.p2p_net_node.proofs.EachPart.{not_among}
use Rattle.p2p_net_calls.proofs.Messages.{RouterOver, IsAside, nothing_gone, lives_idle, channels_unasked, IsOffered, is_offered, named, built}
use Rattle.p2p_net_node.proofs.Performing.{asked, Performs, effect-still}
use Rattle.p2p_net_node.proofs.Receivers.{admits_apart, closes_apart, checking_is}
use Rattle.p2p_net_node.proofs.Routers.{hears_aside, RouterStands-moved}
use Rattle.p2p_net_node.proofs.Frames.{lives_on, lasts_after}

same_number : (n : ℕ) → (n == n) ≡ true
same_number n = grind (arith, nat_tests)

-- ---- a check

module _ (configs : List Config) (log : List Entry) (at seed n c : ℕ) (to : Recipients) (x y : Node) (l links : Links) (r : Row) (s : NodeStands configs log n x) (t : LinksStand configs log l)
    (current : ListsAreCurrent log) (late : latest_moment (events_of log) ≤ at) (kept : links ≡ l) where
  abbrev a : Act
  a = act.Check c n to

  abbrev ev : Event
  ev = asked at seed a

  abbrev e : Entry
  e = effect configs log ev

  abbrev Done : Type 0
  Done = Performs configs log ev n y links r

  -- whom it is asked for, whom the quota admits, and when those that it refuses
  abbrev keys : List Key
  keys = offered log n c to

  abbrev admitted : List Key
  admitted = keys_admitted log n c at keys

  abbrev retry : ℕ
  retry = retry_moment log n c at keys

  abbrev names : List (ℕ × ℕ)
  names = takes_list log n c to

  chan : ChannelsStand configs log n x.channels
  chan = s.each place.channels

  lives : RouterLives configs log n x.router
  lives = s.each place.router

  done : (ch : Channels) (router : Router) → r ≡ row configs log at seed a → y ≡ record x { channels = ch; router = router } → ChannelsStand configs (log ++ e ∷ []) n ch → RouterLives configs (log ++ e ∷ []) n router → Done
  done ch router = built configs log ev n x y l links r ch router s t kept (λ p out. not_among named p n n out) refl refl refl

  aside : IsAside configs log e n
  unfolding effect
  aside = record {
    beside = λ m. record { no_step = unrouted_apart log e m refl; no_channel = refl; no_turn = refl; no_end = λ conn. ends_untold log e m conn a refl refl };
    hears = hears_aside log e n a refl refl;
    goes_on = refl;
  }

  -- on a channel that is not registered
  gone : capacity_at x.channels c ≡ None → row configs log at seed a ≡ only reply.Gone → r ≡ only reply.Gone → y ≡ x → Done
  unfolding effect
  gone has is told same =
      let still = effect-still configs log ev reply.Gone is in
      done x.channels x.router (told ∙ sym is) same
      (channels_unasked configs log e n c to x.channels chan refl (sent_moments-asked log e n c to (Asks.checks refl)) (admits_apart configs log e n a refl (λ d. refl)) (λ d. line-untouched configs log ev (queue.Channel n d) refl refl refl)
      (λ name. checked_at-unmade log e n name c n to refl (ap (λ (z : Row). check_tells n (length log) c z.reply) is)) (closes_apart log e n a refl refl refl) has)
      (lives_idle configs log e n x.router x.router [] lives (nothing_gone configs log n x.router lives) aside (ap (λ (z : Row). goes (entry_of ev z)) is) still.puts)

  -- the channels, whose quota was asked, with these checks
  channels_now : (m : List (ℕ × Checked)) → ((name : ℕ) → table.at m name ≡ checked_at (log ++ e ∷ []) n name) → ChannelsStand configs (log ++ e ∷ []) n (record (keys_metered c keys at x.channels) { checks = m })
  unfolding effect
  channels_now m checks =
      channels_asked configs log e n x.channels m chan refl (admits_apart configs log e n a refl (λ d. refl)) (λ d. line-untouched configs log ev (queue.Channel n d) refl refl refl)
      checks (closes_apart log e n a refl refl refl) c at to (sent_moments-asked log e n c to (Asks.checks refl)) refl late

  -- the router, of which at most a list was taken
  router_now : (rep : Reply) (new : Router) → row configs log at seed a ≡ taking names (only rep) → RouterOver configs log n x.router new names → RouterLives configs (log ++ e ∷ []) n new
  unfolding effect
  router_now rep new is left =
      lives_idle configs log e n x.router new names lives left aside (ap (λ (z : Row). goes (entry_of ev z)) is ∙ append-nil names) (ap (λ (z : Row). z.puts) is)

  module _ (mid : Node) (o : Offered) (row_now : Row) (h : IsOffered configs log n c at to x mid o) (is : r ≡ listed o.list row_now) where
    row_listed : (inner : Row) → row_now ≡ inner → r ≡ taking names inner
    row_listed inner same = is ∙ (ap (λ (z : List (ℕ × ℕ)). taking z row_now) h.names ∙ ap (taking names) same)

    router_mid : (rep : Reply) → row configs log at seed a ≡ taking names (only rep) → RouterLives configs (log ++ e ∷ []) n mid.router
    router_mid rep due = router_now rep mid.router due h.over

    -- what is admitted waits
    noted : (ks : List Key) → row configs log at seed a ≡ taking names (only (reply.Checked ks)) → ks ≡ o.admitted → NotesCheck false (length log) c o mid y row_now → Done
    unfolding effect
    noted ks due same d =
        let checked : Checked = record { channel = c; keys = ks } in
        let told : only (reply.Checked o.admitted) ≡ only (reply.Checked ks) = ap (λ z. only (reply.Checked z)) (sym same) in
        let m : List (ℕ × Checked) = insert_entry nat_cmp x.channels.checks (length log) checked in
        done (record (keys_metered c keys at x.channels) { checks = m }) mid.router (row_listed (only (reply.Checked ks)) (d.0 ∙ told) ∙ sym due)
        (d.1
        ∙ (ap (λ z. record mid { channels = record mid.channels { checks = insert_entry nat_cmp mid.channels.checks (length log) (record { channel = c; keys = z }) } }) (sym same)
        ∙ ap (λ (z : Node). record z { channels = record z.channels { checks = insert_entry nat_cmp z.channels.checks (length log) checked } }) h.mid_is))
        (channels_now m (checks_begun log e n x.channels.checks chan.checks (length log) checked (λ name. checked_at-made log e n name c n to refl ks (ap (λ (z : Row). z.reply) due) (same_number n))))
        (router_mid (reply.Checked ks) due)

    -- none is
    refused : row configs log at seed a ≡ taking names (only (reply.Retry retry)) → NotesCheck true (length log) c o mid y row_now → Done
    unfolding effect
    refused due d =
        done (keys_metered c keys at x.channels) mid.router (row_listed (only (reply.Retry retry)) (d.0 ∙ ap (λ z. only (reply.Retry z)) h.retry) ∙ sym due) (d.1 ∙ h.mid_is)
        (channels_now x.channels.checks (checks_kept log e n x.channels.checks chan.checks (λ name. checked_at-unmade log e n name c n to refl (ap (λ (z : Row). check_tells n (length log) c z.reply) due))))
        (router_mid (reply.Retry retry) due)

    by_keys : (asks ks : List Key) → row configs log at seed a ≡ taking names (checked_row asks ks retry) → ks ≡ o.admitted → NotesCheck (is_refused asks ks) (length log) c o mid y row_now → Done
    by_keys [] ks due same d = noted ks due same d
    by_keys (j ∷ js) [] due same d = refused due d
    by_keys (j ∷ js) (k ∷ ks) due same d = noted (k ∷ ks) due same d

  due_on : (p : Option ℕ) → capacity_at x.channels c ≡ p → row configs log at seed a ≡ elim p [ None ↦ only reply.Gone | Some _ ↦ taking names (checked_row keys admitted retry) ]
  unfolding row
  due_on p has = ap (λ (q : Option ℕ). elim q as (λ _. Row) [ None ↦ only reply.Gone | Some _ ↦ taking names (checked_row keys admitted retry) ]) (sym (chan.capacities c) ∙ has)

  by_channel : (p : Option ℕ) → capacity_at x.channels c ≡ p → FollowsOn p c at to (λ o mid next row. NotesCheck o.refused (length log) c o mid next row) x y r → Done
  by_channel None has d = gone has (due_on None has) d.0 d.1
  by_channel (Some k) has d =
      let h = is_offered configs log n c k at to x d.mid d.offered s current late has d.offers in
      by_keys d.mid d.offered d.row h d.is keys admitted (due_on (Some k) has) (sym h.admitted)
      (subst (λ b. NotesCheck b (length log) c d.offered d.mid y d.row) h.refused d.comes)

  pub check_performs : Checks (length log) c at to x y r → Done
  check_performs d = by_channel (capacity_at x.channels c) refl d

-- ---- a message to those whom a check admitted

module _ (configs : List Config) (log : List Entry) (at seed check : ℕ) (bytes : List ℕ) (priority : Bool) (x y : Node) (l links : Links) (r : Row) (s : NodeStands configs log (node_checking (slice_get log check)) x) (t : LinksStand configs log l)
    (kept : links ≡ l) where
  abbrev spends : Act
  spends = act.SendChecked bytes check priority

  abbrev spent : Event
  spent = asked at seed spends

  abbrev n : ℕ
  n = node_checking (slice_get log check)

  abbrev entry : Entry
  entry = effect configs log spent

  chan_then : ChannelsStand configs log n x.channels
  chan_then = s.each place.channels

  lives_then : RouterLives configs log n x.router
  lives_then = s.each place.router

  limit_is : x.config.max_message_size ≡ limit_at configs n
  limit_is = sym (ap (λ (o : Option Config). elim o [ None ↦ 0 | Some c ↦ c.max_message_size ]) s.own.config)

  done_with : (ch : Channels) (router : Router) → r ≡ row configs log at seed spends → y ≡ record x { channels = ch; router = router } → ChannelsStand configs (log ++ entry ∷ []) n ch → RouterLives configs (log ++ entry ∷ []) n router
      → Performs configs log spent n y links r
  done_with ch router = built configs log spent n x y l links r ch router s t kept (λ p out. not_among named p n n out) refl refl refl

  aside_then : IsAside configs log entry n
  unfolding effect
  aside_then = record {
    beside = λ m. record { no_step = unrouted_apart log entry m refl; no_channel = refl; no_turn = refl; no_end = λ conn. ends_untold log entry m conn spends refl refl };
    hears = hears_aside log entry n spends refl refl;
    goes_on = refl;
  }

  module _ (left : List (ℕ × Checked)) (gone : table.AreBut check None x.channels.checks left) where
    abbrev mid : Node
    mid = with_checks left x

    checks_then : (name : ℕ) → table.at left name ≡ checked_at (log ++ entry ∷ []) n name
    unfolding effect
    checks_then =
        checks_changed log entry n x.channels.checks chan_then.checks check None left gone
        (λ name. checked_at-spent log entry n name bytes check priority refl)

    channels_then : ChannelsStand configs (log ++ entry ∷ []) n (record x.channels { checks = left })
    unfolding effect
    channels_then =
        channels_spent configs log entry n x.channels left chan_then refl (admits_apart configs log entry n spends refl (λ d. refl)) (λ d. line-untouched configs log spent (queue.Channel n d) refl refl refl)
        checks_then (closes_apart log entry n spends refl refl refl) (λ d k. sent_moments-apart log entry n d k refl)

    -- nothing is handed to the router
    unsent : (rep : Reply) → row configs log at seed spends ≡ only rep → r ≡ only rep → y ≡ mid → Performs configs log spent n y links r
    unfolding effect
    unsent rep due told same =
        let still = effect-still configs log spent rep due in
        done_with (record x.channels { checks = left }) x.router (told ∙ sym due) same channels_then
        (lives_idle configs log entry n x.router x.router [] lives_then (nothing_gone configs log n x.router lives_then) aside_then (ap (λ (z : Row). goes (entry_of spent z)) due) still.puts)

    module _ (c : Checked) where
      abbrev accepted : Reply
      accepted = reply.Outcome (Outcome feedback.Ok) n c.channel c.keys

      abbrev rejected : Reply
      rejected = reply.Outcome Rejected n c.channel c.keys

      abbrev handed : Row
      handed = sent_row accepted rejected (is_up log n) (nat_le (router_capacity configs log n) (length (line log (queue.Router n)))) n (length log) c.channel priority (frame_of c.channel bytes) c.keys

      abbrev closed : Reply
      closed = reply.Outcome (Outcome feedback.Closed) n c.channel c.keys

      -- by whether the node has stopped
      handed_by : (b : Bool) → is_stopped log n ≡ b → row configs log at seed spends ≡ unless_stopped log n closed handed → HandsBy b telling.Outcome (length log) c.channel priority bytes c.keys mid y r → Performs configs log spent n y links r
      unfolding effect
      handed_by true over due d =
          unsent closed (due ∙ ap (λ b. cond b (only closed) handed) over) (d.0 ∙ ap (λ m. only (reply.Outcome (Outcome feedback.Closed) m c.channel c.keys)) lives_then.number) d.1
      handed_by false lasts due d =
          let calls = d.1 in
          let routes_then : RouterStands configs log n x.router = lives_then.runs lasts in
          let over : StandsOver configs log x.router (filter (stays []) (live log)) = subst (StandsOver configs log x.router) (sym (filter_stays-nil (live log))) routes_then.stands in
          let mailbox : ℕ → Row = λ m. sent_row (reply.Outcome (Outcome feedback.Ok) m c.channel c.keys) (reply.Outcome Rejected m c.channel c.keys)
          (is_up log m) (nat_le (router_capacity configs log m) (length (filter (stands_in (queue.Router m)) (live log)))) m (length log) c.channel priority (frame_of c.channel bytes) c.keys
          in
          let row_is : r ≡ handed =
          calls.row configs log (live log) routes_then.stands
          ∙ (ap mailbox routes_then.number
          ∙ ap (λ q. sent_row accepted rejected (is_up log n) (nat_le (router_capacity configs log n) (length q)) n (length log) c.channel priority (frame_of c.channel bytes) c.keys) (line_is log (queue.Router n)))
          in
          let due_now : row configs log at seed spends ≡ handed = due ∙ ap (λ b. cond b (only closed) handed) lasts in
          let takes : handed.takes ≡ [] =
          sent_takes accepted rejected (is_up log n) (nat_le (router_capacity configs log n) (length (line log (queue.Router n)))) n (length log) c.channel priority (frame_of c.channel bytes) c.keys
          in
          let over_now : StandsOver configs log y.router (after (length log) handed (filter (stays []) (live log))) =
          subst (λ (z : Row). StandsOver configs log y.router (after (length log) z (filter (stays []) (live log)))) row_is (calls.stands configs log (filter (stays []) (live log)) over refl)
          in
          let same_row : taking [] handed ≡ handed = ap (λ (z : List (ℕ × ℕ)). record handed { takes = z }) (sym takes) in
          done_with (record x.channels { checks = left }) y.router (row_is ∙ sym due_now) d.0 channels_then
          (lives_on configs (log ++ entry ∷ []) n y.router (lasts_after configs log spent n lasts refl)
          (RouterStands-moved configs log entry n x.router y.router routes_then aside_then.hears
          (subst (λ (z : Row). StandsFor configs (log ++ entry_of spent z ∷ []) y.router) (same_row ∙ sym due_now)
          (over_taking configs log spent y.router [] handed over_now (record { no_step = unrouted_apart log (entry_of spent (taking [] handed)) y.router.number refl; no_channel = refl; no_turn = refl; no_end = λ conn. ends_untold log (entry_of spent (taking [] handed)) y.router.number conn spends refl refl }) takes))
          (ap (λ (z : Router). z.number) calls.rest) (ap (λ (z : Router). z.peers) calls.rest)))

      by_size : (b : Bool) → nat_lt mid.config.max_message_size (length bytes) ≡ b
          → row configs log at seed spends ≡ fitting_row (nat_lt (limit_at configs n) (length bytes)) (length bytes) (limit_at configs n) (unless_stopped log n closed handed)
          → SendsBy b telling.Outcome (length log) c.channel priority bytes c.keys mid y r → Performs configs log spent n y links r
      by_size b fits due d = by b fits d
        where
          due_by : (t : Bool) → nat_lt mid.config.max_message_size (length bytes) ≡ t → row configs log at seed spends ≡ fitting_row t (length bytes) mid.config.max_message_size (unless_stopped log n closed handed)
          due_by t is =
              due
              ∙ (ap (λ m. fitting_row (nat_lt m (length bytes)) (length bytes) m (unless_stopped log n closed handed)) (sym limit_is)
              ∙ ap (λ f. fitting_row f (length bytes) mid.config.max_message_size (unless_stopped log n closed handed)) is)

          by : (t : Bool) → nat_lt mid.config.max_message_size (length bytes) ≡ t → SendsBy t telling.Outcome (length log) c.channel priority bytes c.keys mid y r → Performs configs log spent n y links r
          by true long h = unsent (reply.MessageTooLarge (length bytes) mid.config.max_message_size) (due_by true long) h.0 h.1
          by false short h = handed_by x.stopped (sym s.life) (due_by false short) h

  -- what the node has of the check, by the log
  kept_is : (o : Option Check) → check_of log check ≡ o → admitted_at n o ≡ elim o [ None ↦ None | Some c ↦ Some (record { channel = c.channel; keys = c.keys }) ]
  kept_is None is = refl
  kept_is (Some c) is = ap (λ b. cond b (Some (record { channel = c.channel; keys = c.keys })) None) (ap (λ m. m == n) (sym (checking_is log check c is)) ∙ same_number n)

  by_check : (o : Option Check) → check_of log check ≡ o → (left : List (ℕ × Checked)) → table.AreBut check None x.channels.checks left
      → SpendsCheck (elim o [ None ↦ None | Some c ↦ Some (record { channel = c.channel; keys = c.keys }) ]) (length log) priority bytes (with_checks left x) y r → Performs configs log spent n y links r
  unfolding row
  by_check None is left gone d = unsent left gone reply.Gone (ap (spent_row configs log bytes priority) is) d.0 d.1
  by_check (Some c) is left gone d =
      by_size left gone (record { channel = c.channel; keys = c.keys }) (nat_lt x.config.max_message_size (length bytes)) refl
      (ap (spent_row configs log bytes priority) is ∙ ap (λ m. spent_row configs log bytes priority (Some (record c { node = m }))) (sym (checking_is log check c is))) d

  pub send_checked_performs : SendsChecked (length log) check priority bytes x y r → Performs configs log spent n y links r
  send_checked_performs d =
      by_check (check_of log check) refl d.left d.spent
      (subst (λ o. SpendsCheck o (length log) priority bytes (with_checks d.left x) y r)
      (chan_then.checks check ∙ kept_is (check_of log check) refl) d.comes)
