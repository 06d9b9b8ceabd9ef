-- What an act has to show at a node, and acts that move nothing.
use Rattle.std.proofs.Common.{◌≡◌, ℕ, Bool, true, false, cond, List, [], ◌∷◌, ◌++◌, length, refl, ap, sym, subst, ◌∙◌, append-nil, Option, None, ◌⊎◌, inl, inr}
use Rattle.std.specs.Prelude.{filter, flat_map, ◌==◌, ◌&&◌, ◌||◌}
use Rattle.p2p_log_rules.proofs.Bools.{and_false}
use Rattle.p2p_log.specs.declared.config.Config.{Config}
use Rattle.p2p_log.specs.declared.queue.Queue.{Queue}
use Rattle.p2p_log.specs.declared.queue.Queue.TheVariants as queue
use Rattle.p2p_log.specs.declared.item.Item.{Item}
use Rattle.p2p_log.specs.declared.entry.Entry.{Entry}
use Rattle.p2p_log.specs.declared.entry.Reply.{Reply}
use Rattle.p2p_log.specs.declared.entry.Reply.TheVariants as reply
use Rattle.p2p_log.specs.declared.event.Event.{Event}
use Rattle.p2p_log.specs.declared.event.Act.{Act}
use Rattle.p2p_log.specs.declared.event.Act.TheVariants as act
use Rattle.p2p_log.specs.Lines.{line, placed, ended_item, stands_in}
use Rattle.p2p_log_rules.specs.declared.row.Row.{Row}
use Rattle.p2p_log_rules.specs.Attempting.{DialRules, dial_rules_at, attempts_of}
use Rattle.p2p_log_rules.proofs.Connections.{steps_sender, steps_receiver, begins_act, ends_act}
use Rattle.p2p_log_rules.specs.Tellings.{last_or}
use Rattle.p2p_log_rules.specs.Told.{asks_list, answer_tells, ask_tells, told}
use Rattle.p2p_log_rules.proofs.Attempts.{attempt_told}
use Rattle.p2p_log_rules.proofs.Channels.{is_stopped-kept, is_stopped-before}
use Rattle.p2p_log_rules.proofs.Closing.{is_closed-kept}
use Rattle.p2p_log_rules.proofs.AttemptTellings.{attempts_of-act, tries, attempts_of-kept, asks_told}
use Rattle.p2p_log_rules.proofs.Dialing.{dials_of-still}
use Rattle.p2p_log_rules.proofs.Dropping.{all_of, drops_none, drops_of-send, drops_of-receive}
use Rattle.p2p_net_gates.proofs.DialerChanges.{dialer_frame}
use Rattle.p2p_net_gates.proofs.ListenerChanges.{listener_frame}
use Rattle.p2p_log_rules.specs.Connections.{half_at, is_done, begins_connection, is_end, ends_connection}
use Rattle.p2p_log_rules.specs.Dropping.{half_end}
use Rattle.p2p_log_rules.specs.Facts.{stops, turns, registers_at, taken, item_named, is_stopped}
use Rattle.p2p_log_rules.proofs.Spawning.{connections_of-untaken}
use Rattle.p2p_log_rules.specs.Effect.{only, row, effect}
use Rattle.p2p_log_rules.specs.Handshakes.{ends_handshake, handshakes_of, came_over}
use Rattle.p2p_log_rules.proofs.Listening.{known_of-untaken}
use Rattle.p2p_net_tracker.specs.Stands.{asks_of}
use Rattle.p2p_net_tracker.proofs.Changes.{tracker_frame}
use Rattle.p2p_net_queues.proofs.Going.{line-kept}
use Rattle.p2p_net_channels.specs.Stands.{ClosesNone}
use Rattle.p2p_net_channels.proofs.Changes.{channels_frame}
use Rattle.p2p_net_router.proofs.Unrouted.{unrouted_untaken}
use Rattle.p2p_net_router.proofs.Resting.{rests_kept}
use Rattle.p2p_net_router.specs.Stands.{RoutesNothing}
use Rattle.p2p_net_router.specs.declared.router.Router.{Router}
use Rattle.p2p_net_connections.proofs.Changes.{connections_frame}
use Rattle.p2p_net_links.specs.Stands.{LinksStand}
use Rattle.p2p_net_links.specs.declared.links.Links.{Links}
use Rattle.p2p_net_links.proofs.Changes.{OpensNone, opening_kinds, openings_unmoved, is_ok_reply, openings_unanswered, links_frame}
use Rattle.p2p_net_links.proofs.Drops.{DropsNone, is_idle_reply, is_stop, drops_none-act, drops_none-idle}
use Rattle.p2p_net_gates.proofs.Handshakes.{nothing_tells}
use Rattle.p2p_net_connections.proofs.SpawnerChanges.{spawner_kept}
use Rattle.p2p_net_node.specs.Places.{Part, router, channels, connections, tracker, dialer, listener, spawner}
use Rattle.p2p_net_node.specs.Stands.{PartStands, NodeStands, WorldStands, RouterLives}
use Rattle.p2p_net_node.specs.declared.node.Node.{Node}
use Rattle.p2p_net_node.proofs.ActKinds.{registers_unless, turns_unless, turns_starts, turns_stops}
use Rattle.p2p_net_node.proofs.Receivers.{receives_nothing, admits_nothing, SendsNothing, sends_apart, closes_apart}
use Rattle.p2p_net_node.proofs.Routers.{HearsTheSame, hears_kept, RouterStands-idle}
use Rattle.p2p_log_rules.proofs.Connections.{live_connection-kept}
use Rattle.p2p_log_rules.specs.declared.row.ListeningEnd.{ListeningEnd}
use Rattle.p2p_log_rules.specs.Links.{listening_ends_of}
use Rattle.p2p_log_rules.proofs.Families.{kinds_of, are_apart}
use Rattle.p2p_log_rules.proofs.Handshakes.{Begins, Ends, Stops, handshakes_now}
use Rattle.p2p_log_rules.proofs.Links.{listening_kinds, listening_ends_of-apart, listening_ends_of-listened, listening_ends_of-shaken, without_end}
use Rattle.p2p_log_rules.proofs.Steps.{steps_tracker}
use Rattle.p2p_log_rules.proofs.Answers.{takes_answer}
use Rattle.p2p_net_node.proofs.Frames.{rests_on}

-- an event with this act
abbrev pub asked : ℕ → ℕ → Act → Event
asked at seed a = record { at = at; seed = seed; act = a }

-- the row is the act's, and the node and the links stand for the log with its entry
pub record Performs (configs : List Config) (log : List Entry) (ev : Event) (n : ℕ) (y : Node) (links : Links) (r : Row) : Type 0 where
  pub row_is : r ≡ row configs log ev.at ev.seed ev.act
  pub node : NodeStands configs (log ++ effect configs log ev ∷ []) n y
  pub linked : LinksStand configs (log ++ effect configs log ev ∷ []) links

-- the row is the act's, and the world stands for the log with its entry
pub record Simulates (configs : List Config) (log : List Entry) (ev : Event) (nodes : List Node) (links : Links) (r : Row) : Type 0 where
  pub row_is : r ≡ row configs log ev.at ev.seed ev.act
  pub stands : WorldStands configs (log ++ effect configs log ev ∷ []) nodes links

-- ---- acts that move nothing

-- whether an act with this reply registers, starts, stops, begins, ends, sends, drops and closes nothing, and leaves the trackers alone
abbrev pub is_quiet : Act → Reply → Bool
is_quiet (act.Register c n rate) r = false
is_quiet (act.Start n) r = false
is_quiet (act.Stop by_start n) r = false
is_quiet (act.SendStep conn n) reply.Ok = false
is_quiet (act.SendStep conn n) (reply.Ended why) = false
is_quiet (act.SendStep conn n) r = true
is_quiet (act.RecvStep conn n) (reply.Ended why) = false
is_quiet (act.Send bytes c n priority to) r = false
is_quiet (act.Check c n to) r = false
is_quiet (act.SendChecked bytes check priority) r = false
is_quiet (act.Ask what n) r = false
is_quiet (act.Answer e) r = false
is_quiet (act.Tracker n) r = false
is_quiet (act.Dialer n) reply.Idle = true
is_quiet (act.Dialer n) reply.Gone = true
is_quiet (act.Dialer n) r = false
is_quiet (act.Listener n) reply.Idle = true
is_quiet (act.Listener n) reply.Gone = true
is_quiet (act.Listener n) r = false
is_quiet (act.Handshake e n) reply.Idle = true
is_quiet (act.Handshake e n) reply.Gone = true
is_quiet (act.Handshake e n) r = false
is_quiet (act.Attempt e n) r = false
is_quiet (act.Resolve addresses e n) r = false
is_quiet (act.Connect e from n to) r = false
is_quiet (act.Refuse e n) r = false
is_quiet (act.Close c n) reply.Ok = false
is_quiet (act.Close c n) r = true
is_quiet (act.Finish link ok) reply.Ok = false
is_quiet (act.Finish link ok) r = true
is_quiet (act.Cut link) reply.Ok = false
is_quiet (act.Cut link) r = true
is_quiet a r = true

quiet_registers : (configs : List Config) (n : ℕ) (a : Act) (r : Reply) → is_quiet a r ≡ true → registers_at configs n a ≡ []
quiet_registers configs n a r h = registers_unless configs n a (λ c m rate is. let t : false ≡ true = sym (ap (λ x. is_quiet x r) is) ∙ h in cc)

quiet_turns : (n : ℕ) (a : Act) (r : Reply) → is_quiet a r ≡ true → turns n a ≡ false
quiet_turns n a r h = turns_unless n a (λ m is. let t : false ≡ true = sym (ap (λ x. is_quiet x r) is) ∙ h in cc) (λ by_start m is. let t : false ≡ true = sym (ap (λ x. is_quiet x r) is) ∙ h in cc)

-- no connection begins
quiet_begins : (n conn : ℕ) (a : Act) (r : Reply) → is_quiet a r ≡ true → (steps_sender n conn a && is_done r) ≡ false
quiet_begins n conn (act.SendStep d m) reply.Ok h = cc
quiet_begins n conn (act.SendStep d m) _ h = and_false ((m == n) && (d == conn))
quiet_begins n conn _ r h = refl

still_begins : (log : List Entry) (e : Entry) (n conn : ℕ) (a : Act) (rep : Reply) → e.event.act ≡ a → e.reply ≡ rep → is_quiet a rep ≡ true → begins_connection n conn log e ≡ false
still_begins log e n conn a rep is told q =
    begins_act log e n conn a is ∙ (ap (λ r. steps_sender n conn a && is_done r) told ∙ quiet_begins n conn a rep q)

-- and none ends
quiet_ends : (n conn : ℕ) (a : Act) (r : Reply) → is_quiet a r ≡ true → ((steps_sender n conn a || steps_receiver n conn a) && is_end r) ≡ false
quiet_ends n conn (act.SendStep d m) (reply.Ended why) h = cc
quiet_ends n conn (act.SendStep d m) _ h = and_false (((m == n) && (d == conn)) || false)
quiet_ends n conn (act.RecvStep d m) (reply.Ended why) h = cc
quiet_ends n conn (act.RecvStep d m) _ h = and_false ((m == n) && (d == conn))
quiet_ends n conn _ r h = refl

still_ends : (log : List Entry) (e : Entry) (n conn : ℕ) (a : Act) (rep : Reply) → e.event.act ≡ a → e.reply ≡ rep → is_quiet a rep ≡ true → ends_connection n conn log e ≡ false
still_ends log e n conn a rep is told q =
    ends_act log e n conn a is (turns_stops n a (quiet_turns n a rep q))
    ∙ (ap (λ r. (steps_sender n conn a || steps_receiver n conn a) && is_end r) told ∙ quiet_ends n conn a rep q)

-- nothing is sent
quiet_sends : (a : Act) (r : Reply) → is_quiet a r ≡ true → SendsNothing a
quiet_sends (act.Send bytes c m priority to) r h = cc
quiet_sends (act.Check c m to) r h = cc
quiet_sends (act.SendChecked bytes check priority) r h = cc
quiet_sends _ r h = (refl, refl)

-- no reader is dropped
still_closes : (log : List Entry) (e : Entry) (n : ℕ) (a : Act) (rep : Reply) → e.event.act ≡ a → e.reply ≡ rep → is_quiet a rep ≡ true → ClosesNone log e n
still_closes log e n (act.Close d m) rep is told q = record {
  readers = λ c. is_closed-kept log e n c m d is (ap (λ r. ((m == n) && (d == c)) && is_done r) told ∙ by c rep q);
  goes_on = is_stopped-kept log e n (ap (stops n) is);
}
  where
    by : (c : ℕ) (r : Reply) → is_quiet (act.Close d m) r ≡ true → (((m == n) && (d == c)) && is_done r) ≡ false
    by c reply.Ok q = cc
    by c _ q = and_false ((m == n) && (d == c))
still_closes log e n (act.Stop by_start m) rep is told q = cc
still_closes log e n a rep is told q = closes_apart log e n a is refl refl

quiet_tracks : (n : ℕ) (a : Act) (r : Reply) → is_quiet a r ≡ true → steps_tracker n a ≡ false
quiet_tracks n (act.Tracker m) r h = cc
quiet_tracks n _ r h = refl

quiet_asks : (n : ℕ) (a : Act) (r : Reply) → is_quiet a r ≡ true → asks_of n a ≡ None
quiet_asks n (act.Ask what m) r h = cc
quiet_asks n _ r h = refl

quiet_answers : (d : ℕ) (a : Act) (r s : Reply) → is_quiet a r ≡ true → takes_answer d a s ≡ false
quiet_answers d (act.Answer e) r s h = cc
quiet_answers d _ r s h = refl

either_same : {X : Type 0} (b : Bool) (d : X) → cond b d d ≡ d
either_same true d = refl
either_same false d = refl

-- a step of a handshake with such a reply ends none
quiet_shakes : (h m : ℕ) (r : Reply) (items : List Item) → is_quiet (act.Handshake h m) r ≡ true → ends_handshake r items ≡ false
quiet_shakes h m reply.Idle items q = refl
quiet_shakes h m reply.Gone items q = refl
quiet_shakes h m _ items q = cc

-- nobody is admitted, and no handshake ends
handshakes_still : (log : List Entry) (e : Entry) (n : ℕ) (a : Act) (rep : Reply) → e.event.act ≡ a → e.reply ≡ rep → is_quiet a rep ≡ true → handshakes_of (log ++ e ∷ []) n ≡ handshakes_of log n
handshakes_still log e n a rep is told q = by (handshakes_now log e n)
  where
    by : (handshakes_of (log ++ e ∷ []) n ≡ handshakes_of log n) ⊎ (Begins log e n ⊎ (Ends log e n ⊎ Stops log e n)) → handshakes_of (log ++ e ∷ []) n ≡ handshakes_of log n
    by (inl same) = same
    by (inr (inl begins_connection)) =
        let quiet : false ≡ true = sym (ap (λ b. is_quiet b rep) (sym is ∙ begins_connection.acts) ∙ ap (is_quiet (act.Listener n)) (sym told ∙ begins_connection.replied)) ∙ q in cc
    by (inr (inr (inr stops))) = let quiet : false ≡ true = sym (ap (λ b. is_quiet b rep) (sym is ∙ stops.stop.acts)) ∙ q in cc
    by (inr (inr (inl ends))) =
        let goes_on : ends_handshake rep (taken log e) ≡ false = quiet_shakes ends.name n rep (taken log e) (sym (ap (λ b. is_quiet b rep) (sym is ∙ ends.acts)) ∙ q) in
        let over : ends_handshake rep (taken log e) ≡ true = ap (λ r. ends_handshake r (taken log e)) (sym told) ∙ ends.over in
        cc

-- nothing is taken, so no listening end changes hands
ends_still : (log : List Entry) (e : Entry) (n : ℕ) (a : Act) (rep : Reply) → e.event.act ≡ a → e.reply ≡ rep → is_quiet a rep ≡ true → taken log e ≡ [] → (k : ℕ) → listening_ends_of (log ++ e ∷ []) n k ≡ listening_ends_of log n k
ends_still log e n (act.Connect d from m to) rep is told q none k = cc
ends_still log e n (act.Stop by_start m) rep is told q none k = cc
ends_still log e n (act.Listener m) rep is told q none k = listening_ends_of-listened log e n m [] is none k
ends_still log e n (act.Handshake h m) rep is told q none k =
    let ends : ℕ → Option ListeningEnd = listening_ends_of log n in
    listening_ends_of-shaken log e n h m is k
    ∙ (ap (λ b. cond (m == n) (cond b (without_end (came_over log h) ends k) (ends k)) (ends k)) (ap (λ r. ends_handshake r (taken log e)) told ∙ quiet_shakes h m rep (taken log e) q)
    ∙ either_same (m == n) (ends k))
ends_still log e n a rep is told q none k = listening_ends_of-apart log e n (ap (λ b. are_apart (kinds_of b) listening_kinds) is) k

-- nothing is taken, so nothing is begun
attempts_still : (configs : List Config) (log : List Entry) (e : Entry) (n k : ℕ) (a : Act) (r : Reply) → e.event.act ≡ a → is_quiet a r ≡ true → taken log e ≡ [] → attempts_of configs (log ++ e ∷ []) n k ≡ attempts_of configs log n k
attempts_still configs log e n k (act.Dialer m) r is quiet none =
    let rules : DialRules = dial_rules_at configs n in
    attempts_of-act configs log e n k (act.Dialer m) is
    ∙ (ap (λ items. attempt_told rules n k (answer_tells m (last_or 0 (asks_list m) (told log)) (length log) e.event.at e.event.seed items ++ ask_tells m e.event.at items e.puts) (attempts_of configs log n k)) none
    ∙ asks_told rules n k [] m e.event.at [] e.puts (attempts_of configs log n k))
attempts_still configs log e n k (act.Attempt d m) r is quiet none = cc
attempts_still configs log e n k (act.Stop by_start m) r is quiet none = cc
attempts_still configs log e n k (act.Resolve addresses d m) r is quiet none = cc
attempts_still configs log e n k (act.Connect d from m to) r is quiet none = cc
attempts_still configs log e n k (act.Refuse d m) r is quiet none = cc
attempts_still configs log e n k a r is quiet none = attempts_of-kept configs log e n k (ap (tries n) is)

pub taken-none : (log : List Entry) (e : Entry) → e.takes ≡ [] → taken log e ≡ []
unfolding taken
taken-none log e t = ap (flat_map (item_named log)) t

either_nothing : {X : Type 0} (b : Bool) (xs : List X) → xs ≡ [] → cond b xs [] ≡ []
either_nothing true xs h = h
either_nothing false xs h = refl

-- an entry that moves nothing
pub record IsStill (e : Entry) (rep : Reply) : Type 0 where
  pub reply : e.reply ≡ rep
  pub takes : e.takes ≡ []
  pub puts : e.puts ≡ []
  pub ends : e.ends ≡ []

pub line-still : (log : List Entry) (e : Entry) (rep : Reply) (q : Queue) → IsStill e rep → line (log ++ e ∷ []) q ≡ line log q
line-still log e rep q h =
    line-kept log e q (ap (λ t. t ++ flat_map ended_item e.ends) h.takes ∙ ap (flat_map ended_item) h.ends)
    ∙ (ap (λ p. line log q ++ filter (stands_in q) (placed (length log) 0 p)) h.puts ∙ append-nil (line log q))

-- a router is to know of the same connections
still_hears : (log : List Entry) (e : Entry) (n : ℕ) (a : Act) (rep : Reply) → e.event.act ≡ a → is_quiet a rep ≡ true → IsStill e rep → HearsTheSame log e n
still_hears log e n a rep is q h =
    hears_kept log e n (λ conn. still_begins log e n conn a rep is h.reply q) (λ conn. still_ends log e n conn a rep is h.reply q) (λ conn. connections_of-untaken log e n (taken-none log e h.takes) conn)

-- the router of a node that has stopped, whatever was asked of it
pub rests_still : (configs : List Config) (log : List Entry) (e : Entry) (n : ℕ) (r : Router) (rep : Reply) → RouterLives configs log n r → is_stopped log n ≡ true → stops n e.event.act ≡ false → RoutesNothing log e n → IsStill e rep
    → RouterLives configs (log ++ e ∷ []) n r
rests_still configs log e n r rep s over none still h =
    rests_on configs (log ++ e ∷ []) n r (is_stopped-kept log e n none ∙ over)
    (rests_kept configs log e n r (s.rests over) (λ c. line-still log e rep (queue.Peers n c) h) still.routes_stay still.subscribers_stay)

pub part_still : (p : Part) (configs : List Config) (log : List Entry) (e : Entry) (n : ℕ) (x : Node) (a : Act) (rep : Reply) → PartStands p configs log n x → e.event.act ≡ a → is_quiet a rep ≡ true → IsStill e rep
    → PartStands p configs (log ++ e ∷ []) n x
part_still router configs log e n x a rep s is q h =
    let still : RoutesNothing log e n = unrouted_untaken log e n (taken-none log e h.takes) in
    record {
      number = s.number;
      runs = λ lasts.
          RouterStands-idle configs log e n x.router
          (record {
            no_step = still;
            no_channel = ap (registers_at configs n) is ∙ quiet_registers configs n a rep q;
            no_turn = ap (turns n) is ∙ quiet_turns n a rep q;
            no_end = λ conn. still_ends log e n conn a rep is h.reply q;
          })
          (still_hears log e n a rep is q h) h.takes h.puts h.ends (s.runs (is_stopped-before log e n lasts));
      rests = λ over.
          let none : stops n e.event.act ≡ false = ap (stops n) is ∙ turns_stops n a (quiet_turns n a rep q) in
          let then : RouterLives configs (log ++ e ∷ []) n x.router = rests_still configs log e n x.router rep s (sym (is_stopped-kept log e n none) ∙ over) none still h in
          then.rests over;
    }
part_still channels configs log e n x a rep s is q h =
    channels_frame configs log e n x.channels s
    (record {
      registers = ap (registers_at configs n) is ∙ quiet_registers configs n a rep q;
      lines = λ c. line-still log e rep (queue.Channel n c) h;
      admits = admits_nothing configs log e n (taken-none log e h.takes);
      sends = sends_apart log e n a is (quiet_sends a rep q);
      closes = still_closes log e n a rep is h.reply q;
    })
part_still connections configs log e n x a rep s is q h =
    connections_frame configs log e n x.connections s
    (record {
      spawns = λ conn. live_connection-kept log e n conn (still_ends log e n conn a rep is h.reply q) (connections_of-untaken log e n (taken-none log e h.takes) conn);
      begins = λ conn. still_begins log e n conn a rep is h.reply q;
      receives = receives_nothing configs log e n (taken-none log e h.takes) (λ conn. line-still log e rep (queue.Held n conn) h);
      lines = λ conn. line-still log e rep (queue.RouterAnswer n conn) h;
    })
part_still tracker configs log e n x a rep s is q h =
    tracker_frame configs log e n x.tracker s
    (record {
      no_step = ap (steps_tracker n) is ∙ quiet_tracks n a rep q;
      no_end = λ conn. still_ends log e n conn a rep is h.reply q;
      no_question = ap (asks_of n) is ∙ quiet_asks n a rep q;
      goes_on = is_stopped-kept log e n (ap (stops n) is ∙ turns_stops n a (quiet_turns n a rep q));
      no_answer = λ d asked. ap (λ b. takes_answer d b e.reply) is ∙ quiet_answers d a rep e.reply q;
      no_late_answer = λ d past. ap (λ b. takes_answer d b e.reply) is ∙ quiet_answers d a rep e.reply q;
      mailbox = line-still log e rep (queue.Tracker n) h;
      told = λ p own. line-still log e rep p h;
      handshakes = handshakes_still log e n a rep is h.reply q;
    })
part_still dialer configs log e n x a rep s is q h =
    let none = taken-none log e h.takes in
    dialer_frame configs log e n x.dialing s
    (record {
      no_turn = ap (turns n) is ∙ quiet_turns n a rep q;
      dials = dials_of-still configs log e n (turns_starts n e.event.act (ap (turns n) is ∙ quiet_turns n a rep q)) none h.puts;
      tries = λ k. attempts_still configs log e n k a rep is q none;
      lines = λ k. line-still log e rep (queue.Attempt n k) h;
    })
part_still listener configs log e n x a rep s is q h =
    listener_frame configs log e n x.listening s
    (record {
      tells = λ k. nothing_tells log e n k (taken-none log e h.takes);
      ends = ends_still log e n a rep is h.reply q (taken-none log e h.takes);
      known = known_of-untaken configs log e n (taken-none log e h.takes);
      handshakes = handshakes_still log e n a rep is h.reply q;
      arrivals = line-still log e rep (queue.Arrivals n) h;
    })
part_still spawner configs log e n x a rep s is q h = spawner_kept configs log e n x.spawning s (line-still log e rep (queue.Spawner n) h)

-- a node that moves nothing
pub still_node : (configs : List Config) (log : List Entry) (e : Entry) (n : ℕ) (x : Node) (a : Act) (rep : Reply) → NodeStands configs log n x → e.event.act ≡ a → is_quiet a rep ≡ true → IsStill e rep
    → NodeStands configs (log ++ e ∷ []) n x
still_node configs log e n x a rep s is q h = record {
  own = s.own;
  life = s.life ∙ sym (is_stopped-kept log e n (ap (stops n) is ∙ turns_stops n a (quiet_turns n a rep q)));
  each = λ p. part_still p configs log e n x a rep (s.each p) is q h;
}

-- no link is opened, no exchange over one ends, and none is cut
quiet_opens : (log : List Entry) (e : Entry) (a : Act) (rep : Reply) → e.event.act ≡ a → is_quiet a rep ≡ true → e.reply ≡ rep → OpensNone log e
quiet_opens log e (act.Connect d from n to) rep is q told = cc
quiet_opens log e (act.Finish link ok) rep is q told = openings_unanswered log e (ap is_ok_reply told ∙ unanswered rep q)
  where
    unanswered : (r : Reply) → is_quiet (act.Finish link ok) r ≡ true → is_ok_reply r ≡ false
    unanswered reply.Ok h = cc
    unanswered _ h = refl
quiet_opens log e (act.Cut link) rep is q told = openings_unanswered log e (ap is_ok_reply told ∙ uncut rep q)
  where
    uncut : (r : Reply) → is_quiet (act.Cut link) r ≡ true → is_ok_reply r ≡ false
    uncut reply.Ok h = cc
    uncut _ h = refl
quiet_opens log e _ rep is q told = openings_unmoved log e (ap (λ b. are_apart (kinds_of b) opening_kinds) is)

-- a step of a listener or of a handshake
abbrev steps_gate : Act → Bool
steps_gate (act.Listener n) = true
steps_gate (act.Handshake e n) = true
steps_gate _ = false

-- that does nothing
idle_quiet : (a : Act) (r : Reply) → steps_gate a ≡ true → is_quiet a r ≡ true → is_idle_reply r ≡ true
idle_quiet (act.Listener n) reply.Idle h q = refl
idle_quiet (act.Listener n) reply.Gone h q = refl
idle_quiet (act.Listener n) _ h q = cc
idle_quiet (act.Handshake e n) reply.Idle h q = refl
idle_quiet (act.Handshake e n) reply.Gone h q = refl
idle_quiet (act.Handshake e n) _ h q = cc
idle_quiet _ r h q = cc

-- a step of a half that ends no connection
half_lives : (conn n : ℕ) (r : Reply) → is_quiet (act.SendStep conn n) r ≡ true → is_end r ≡ false
half_lives conn n reply.Ok q = cc
half_lives conn n (reply.Ended why) q = cc
half_lives conn n _ q = refl

read_lives : (conn n : ℕ) (r : Reply) → is_quiet (act.RecvStep conn n) r ≡ true → is_end r ≡ false
read_lives conn n (reply.Ended why) q = cc
read_lives conn n _ q = refl

-- no end of a link is dropped
still_drops : (log : List Entry) (e : Entry) (a : Act) (rep : Reply) → e.event.act ≡ a → is_quiet a rep ≡ true → IsStill e rep → DropsNone log e
still_drops log e (act.Attempt k n) rep is q h = cc
still_drops log e (act.Stop by_start n) rep is q h = cc
still_drops log e (act.Listener n) rep is q h = drops_none-idle log e (ap is_stop is) (ap is_idle_reply h.reply ∙ idle_quiet (act.Listener n) rep refl q) h.puts
still_drops log e (act.Handshake k n) rep is q h = drops_none-idle log e (ap is_stop is) (ap is_idle_reply h.reply ∙ idle_quiet (act.Handshake k n) rep refl q) h.puts
still_drops log e (act.SendStep conn n) rep is q h =
    drops_of-send log e conn n is ∙ ap (λ b. all_of (cond b (half_end (half_at log n conn)) None)) (ap is_end h.reply ∙ half_lives conn n rep q)
still_drops log e (act.RecvStep conn n) rep is q h =
    drops_of-receive log e conn n is ∙ ap (λ b. all_of (cond b (half_end (half_at log n conn)) None)) (ap is_end h.reply ∙ read_lives conn n rep q)
still_drops log e a rep is q h = drops_none-act log e (ap drops_none is)

pub links_still : (configs : List Config) (log : List Entry) (e : Entry) (a : Act) (rep : Reply) (l : Links) → LinksStand configs log l → e.event.act ≡ a → is_quiet a rep ≡ true → IsStill e rep → LinksStand configs (log ++ e ∷ []) l
links_still configs log e a rep l s is q h =
    links_frame configs log e l s (λ t link. line-still log e rep (queue.Link link t) h) (quiet_opens log e a rep is q h.reply) (still_drops log e a rep is q h)

-- the entry of an act whose row moves nothing
pub effect-still : (configs : List Config) (log : List Entry) (ev : Event) (rep : Reply) → row configs log ev.at ev.seed ev.act ≡ only rep → IsStill (effect configs log ev) rep
unfolding effect
effect-still configs log ev rep h = record {
  reply = ap (λ (r : Row). r.reply) h;
  takes = ap (λ (r : Row). r.takes) h;
  puts = ap (λ (r : Row). r.puts) h;
  ends = ap (λ (r : Row). r.ends) h;
}

effect-asks : (configs : List Config) (log : List Entry) (ev : Event) → (effect configs log ev).event.act ≡ ev.act
unfolding effect
effect-asks configs log ev = refl

-- a node and links that stay as they were
pub stays_performs : (configs : List Config) (log : List Entry) (ev : Event) (n : ℕ) (x y : Node) (l links : Links) (r : Row) (rep : Reply) → NodeStands configs log n x → LinksStand configs log l
    → row configs log ev.at ev.seed ev.act ≡ only rep → is_quiet ev.act rep ≡ true → r ≡ only rep → y ≡ x → links ≡ l → Performs configs log ev n y links r
stays_performs configs log ev n x y l links r rep s t is quiet row_is same kept =
    let e = effect configs log ev in
    let still = effect-still configs log ev rep is in
    record {
      row_is = row_is ∙ sym is;
      node = subst (NodeStands configs (log ++ e ∷ []) n) (sym same) (still_node configs log e n x ev.act rep s (effect-asks configs log ev) quiet still);
      linked = subst (LinksStand configs (log ++ e ∷ [])) (sym kept) (links_still configs log e ev.act rep l t (effect-asks configs log ev) quiet still);
    }
