-- A part of a node that an act does not name stands for the log with its entry.
use Rattle.std.proofs.Common.{◌≡◌, ℕ, ◌≤◌, Bool, true, false, cond, List, [], ◌∷◌, ◌++◌, length, refl, ap, sym, subst, ◌∙◌, arith, eqb-true, Option, Some, None}
use Rattle.std.specs.Prelude.{map, filter, slice_get, ◌==◌, ◌&&◌, ◌||◌}
use Rattle.std.specs.List.{list_any}
use Rattle.std.proofs.lemmas.Bool.{false≢true}
use Rattle.std.proofs.lemmas.Option.{slice_get_past}
use Rattle.std.proofs.lemmas.Bool.Decides.{nat_tests}
use Rattle.p2p_log_rules.proofs.Bools.{and_false}
use Rattle.p2p_log.specs.declared.config.Config.{Config}
use Rattle.p2p_log.specs.declared.queue.Queue.{Queue}
use Rattle.p2p_log.specs.declared.queue.Queue.TheVariants as queue
use Rattle.p2p_log.specs.declared.entry.Entry.{Entry}
use Rattle.p2p_log.specs.declared.entry.Reply.{Reply}
use Rattle.p2p_log.specs.declared.event.Event.{Event}
use Rattle.p2p_log.specs.declared.event.Rate.{Rate}
use Rattle.p2p_log.specs.declared.event.Act.{Act}
use Rattle.p2p_log.specs.declared.event.Act.TheVariants as act
use Rattle.p2p_log.specs.Lines.{live, line, stands_in}
use Rattle.p2p_log_rules.specs.Connections.{is_done, begins_connection, is_begun, ends_connection}
use Rattle.p2p_log_rules.specs.Facts.{stops, turns, is_stopped, registers_at, with_capacity}
use Rattle.p2p_log_rules.proofs.Channels.{is_stopped-kept}
use Rattle.p2p_log_rules.proofs.Families.{kinds_of, are_apart}
use Rattle.p2p_log_rules.proofs.Spawning.{connections_of-unmade}
use Rattle.p2p_log_rules.specs.Effect.{row, effect}
use Rattle.p2p_log_rules.specs.Tracking.{asked_by}
use Rattle.p2p_log_rules.specs.TrackerRows.{answer_by}
use Rattle.p2p_net_tracker.specs.declared.question.Question.{Question}
use Rattle.p2p_net_tracker.specs.declared.question.Question.TheVariants as question
use Rattle.p2p_net_tracker.specs.Stands.{kind_of, asks_of, asks_at, is_told}
use Rattle.p2p_net_tracker.proofs.Changes.{tracker_frame}
use Rattle.p2p_net_gates.specs.DialerStands.{is_of_dialer}
use Rattle.p2p_net_gates.proofs.DialerChanges.{dialer_frame, dialer_unmoved}
use Rattle.p2p_net_gates.proofs.LeavingListener.{of_listener, listener_kinds, listener_apart, listener_untold}
use Rattle.p2p_net_gates.proofs.ListenerChanges.{listener_frame}
use Rattle.p2p_net_router.specs.Names.{is_routers}
use Rattle.p2p_net_router.specs.Stands.{RoutesNothing, IsBeside}
use Rattle.p2p_net_router.specs.declared.router.Router.{Router}
use Rattle.p2p_net_router.proofs.Beside.{stands_beside}
use Rattle.p2p_net_router.proofs.Unrouted.{unrouted_apart, unrouted_elsewhere}
use Rattle.p2p_net_router.proofs.Resting.{rests_kept}
use Rattle.p2p_net_channels.proofs.Changes.{channels_frame}
use Rattle.p2p_net_connections.specs.Stands.{BeginsNone}
use Rattle.p2p_net_connections.proofs.Changes.{connections_frame}
use Rattle.p2p_net_links.specs.Stands.{LinksStand}
use Rattle.p2p_net_links.specs.declared.links.Links.{Links}
use Rattle.p2p_net_links.proofs.Changes.{opening_kinds, openings_unmoved, links_frame}
use Rattle.p2p_log_rules.proofs.Dropping.{drops_none}
use Rattle.p2p_net_links.proofs.Drops.{drops_none-act}
use Rattle.p2p_net_connections.proofs.SpawnerChanges.{spawner_kept}
use Rattle.p2p_net_node.specs.Places.{Part, router, channels, connections, tracker, dialer, listener, spawner, same_part, links, home, names, at, asked_node, or_first, node_asked}
use Rattle.p2p_net_node.specs.Stands.{RouterStands, PartStands, RouterLives}
use Rattle.p2p_net_node.specs.declared.node.Node.{Node}
use Rattle.p2p_net_node.proofs.ActKinds.{registers_unless, turns_unless, sends_unless}
use Rattle.p2p_net_node.proofs.Receivers.{receives_unnamed, admits_unnamed, sends_unnamed, closes_unnamed}
use Rattle.p2p_net_node.proofs.Routers.{HearsTheSame, hears_kept, hears_late, RouterStands-moved}
use Rattle.p2p_net_node.proofs.Touching.{stop_names, line-unnamed}
use Rattle.p2p_log_rules.proofs.Connections.{may_end, steps_sender, steps_receiver, begins_act, live_connection-kept, ends_none-act}
use Rattle.p2p_log_rules.specs.Handshakes.{handshakes_of}
use Rattle.p2p_log_rules.specs.Told.{tells, told}
use Rattle.p2p_log_rules.proofs.Handshakes.{of_handshakes, handshake_kinds, handshakes_of-kept, handshakes_of-apart, handshakes_of-elsewhere, handshakes_of-another}
use Rattle.p2p_log_rules.proofs.LinkTells.{quiet_told}
use Rattle.p2p_log_rules.proofs.Routing.{route_kinds}
use Rattle.p2p_log_rules.proofs.Steps.{steps_tracker, steps_spawner}
use Rattle.p2p_log_rules.proofs.Answers.{takes_answer}
use Rattle.p2p_log_rules.specs.Puts.{is_peer_set as gives_answer}
use Rattle.p2p_net_router.specs.Resting.{RouterRests}

-- the event of an effect, and its act
pub effect-act : (configs : List Config) (log : List Entry) (ev : Event) → (effect configs log ev).event.act ≡ ev.act
unfolding effect
effect-act configs log ev = refl

-- ---- what ends

-- a step of a half, and a stop, name the connections, the router and the tracker of their node, so an act that names one of these not ends
-- none of its connections
connections_apart : (log : List Entry) (n conn : ℕ) (a : Act) → names log a (at connections n) ≡ false → may_end n conn a ≡ false
connections_apart log n conn (act.SendStep d m) h = grind (arith, nat_tests)
connections_apart log n conn (act.RecvStep d m) h = grind (arith, nat_tests)
connections_apart log n conn (act.Stop by_start m) h = grind (arith, nat_tests)
connections_apart log n conn _ h = refl

router_apart : (log : List Entry) (n conn : ℕ) (a : Act) → names log a (at router n) ≡ false → may_end n conn a ≡ false
router_apart log n conn (act.SendStep d m) h = grind (arith, nat_tests)
router_apart log n conn (act.RecvStep d m) h = grind (arith, nat_tests)
router_apart log n conn (act.Stop by_start m) h = grind (arith, nat_tests)
router_apart log n conn _ h = refl

tracker_apart : (log : List Entry) (n conn : ℕ) (a : Act) → names log a (at tracker n) ≡ false → may_end n conn a ≡ false
tracker_apart log n conn (act.SendStep d m) h = grind (arith, nat_tests)
tracker_apart log n conn (act.RecvStep d m) h = grind (arith, nat_tests)
tracker_apart log n conn (act.Stop by_start m) h = grind (arith, nat_tests)
tracker_apart log n conn _ h = refl

-- ---- what stops

-- a stop names each part of its node, so an act that does not name one does not stop it
pub stops_unnamed : (log : List Entry) (n : ℕ) (p : Part) (a : Act) → names log a (at p n) ≡ false → stops n a ≡ false
stops_unnamed log n p (act.Stop by_start m) h = by (m == n) refl
  where
    by : (b : Bool) → (m == n) ≡ b → b ≡ false
    by false is = refl
    by true is = absurd (false≢true (sym h ∙ (ap (λ k. names log (act.Stop by_start k) (at p n)) (eqb-true m n is) ∙ stop_names log by_start n p)))
stops_unnamed log n p _ h = refl

-- a node that has not stopped has not after an act that does not stop it
pub lasts_after : (configs : List Config) (log : List Entry) (ev : Event) (n : ℕ) → is_stopped log n ≡ false → stops n ev.act ≡ false → is_stopped (log ++ effect configs log ev ∷ []) n ≡ false
lasts_after configs log ev n lasts none = is_stopped-kept log (effect configs log ev) n (ap (stops n) (effect-act configs log ev) ∙ none) ∙ lasts

-- whether it has stopped stays so after an act that does not stop it
pub life_after : (configs : List Config) (log : List Entry) (ev : Event) (n : ℕ) (b : Bool) → b ≡ is_stopped log n → stops n ev.act ≡ false → b ≡ is_stopped (log ++ effect configs log ev ∷ []) n
life_after configs log ev n b life none = life ∙ sym (is_stopped-kept log (effect configs log ev) n (ap (stops n) (effect-act configs log ev) ∙ none))

-- and after one that does not name its parts
pub life_unnamed : (configs : List Config) (log : List Entry) (ev : Event) (n : ℕ) (b : Bool) → b ≡ is_stopped log n → names log ev.act (at tracker n) ≡ false → b ≡ is_stopped (log ++ effect configs log ev ∷ []) n
life_unnamed configs log ev n b life h = life_after configs log ev n b life (stops_unnamed log n tracker ev.act h)

-- ---- channels

-- the entry registers no channel at a node whose part the act does not name, where a registration names it
registers_none : (configs : List Config) (log : List Entry) (n : ℕ) (p : Part) (a : Act) → ((c m : ℕ) (rate : Rate) → names log (act.Register c m rate) (at p n) ≡ false → (m == n) ≡ false) → names log a (at p n) ≡ false → registers_at configs n a ≡ []
registers_none configs log n p a apart h =
    registers_unless configs n a
    (λ c m rate is. ap (λ b. map (with_capacity configs n) (cond b ((c, rate) ∷ []) [])) (apart c m rate (sym (ap (λ x. names log x (at p n)) is) ∙ h)))

-- ---- connections

-- a spawner's step of another node
spawns_none : (log : List Entry) (n : ℕ) (a : Act) → names log a (at connections n) ≡ false → steps_spawner n a ≡ false
spawns_none log n (act.Spawner m) h = grind (arith, nat_tests)
spawns_none log n _ h = refl

steps_other : (log : List Entry) (n conn d m : ℕ) → names log (act.SendStep d m) (at connections n) ≡ false → ((m == n) && (d == conn)) ≡ false
steps_other log n conn d m h = grind (arith, nat_tests)

sends_none : (log : List Entry) (n conn : ℕ) (a : Act) → names log a (at connections n) ≡ false → steps_sender n conn a ≡ false
sends_none log n conn a h = sends_unless n conn a (λ d m is. steps_other log n conn d m (sym (ap (λ x. names log x (at connections n)) is) ∙ h))

-- the entry begins none of the node's connections, and takes no answer to one, where its act is no step of a sending half
pub begins_unsent : (log : List Entry) (e : Entry) (n : ℕ) (a : Act) → e.event.act ≡ a → ((conn : ℕ) → steps_sender n conn a ≡ false) → BeginsNone log e n
begins_unsent log e n a is none conn = begins_act log e n conn a is ∙ ap (λ b. b && is_done e.reply) (none conn)

-- ---- the router

routed_none : (log : List Entry) (e : Entry) (n : ℕ) (a : Act) → e.event.act ≡ a → names log a (at router n) ≡ false → RoutesNothing log e n
routed_none log e n (act.Router m) is h = unrouted_elsewhere log e n m is (grind (arith, nat_tests))
routed_none log e n a is h = unrouted_apart log e n (ap (λ b. are_apart (kinds_of b) route_kinds) is)

turns_none : (log : List Entry) (n : ℕ) (a : Act) → names log a (at router n) ≡ false → turns n a ≡ false
turns_none log n a h =
    turns_unless n a (λ m is. let f : names log (act.Start m) (at router n) ≡ false = sym (ap (λ x. names log x (at router n)) is) ∙ h in grind (arith, nat_tests))
    (λ by_start m is. let f : names log (act.Stop by_start m) (at router n) ≡ false = sym (ap (λ x. names log x (at router n)) is) ∙ h in grind (arith, nat_tests))

pub beside_by : (configs : List Config) (log : List Entry) (e : Entry) (n : ℕ) (a : Act) → e.event.act ≡ a → names log a (at router n) ≡ false → ((conn : ℕ) → ends_connection n conn log e ≡ false) → IsBeside configs log e n
beside_by configs log e n a is h lives = record {
  no_end = lives;
  no_step = routed_none log e n a is h;
  no_channel = ap (registers_at configs n) is ∙ registers_none configs log n router a (λ c m rate k. grind (arith, nat_tests)) h;
  no_turn = ap (turns n) is ∙ turns_none log n a h;
}

router_home : (n : ℕ) (q : Queue) → is_routers n q ≡ true → home q ≡ at router n
router_home n (queue.Router m) h = ap (at router) (let e : m ≡ n = grind (arith, nat_tests) in e)
router_home n (queue.Peers m c) h = ap (at router) (let e : m ≡ n = grind (arith, nat_tests) in e)
router_home n (queue.High m c) h = ap (at router) (let e : m ≡ n = grind (arith, nat_tests) in e)
router_home n (queue.Low m c) h = ap (at router) (let e : m ≡ n = grind (arith, nat_tests) in e)
router_home n _ h = cc

line_of : (log : List Entry) (q : Queue) → filter (stands_in q) (live log) ≡ line log q
unfolding line
line_of log q = refl

-- a connection that an act makes has not begun before
abbrev pub MakesUnbegun : List Entry → ℕ → Act → Type 0
MakesUnbegun log n a = steps_spawner n a ≡ true → is_begun log n (length log) ≡ false

pub makes_none : (log : List Entry) (n : ℕ) (a : Act) → steps_spawner n a ≡ false → MakesUnbegun log n a
makes_none log n a none makes = absurd (false≢true (sym none ∙ makes))

first_half : (b c : Bool) → (b || c) ≡ false → b ≡ false
first_half false c h = refl
first_half true c h = h

-- the router of a node that an act does not name is to know of the same connections
hears_unnamed : (configs : List Config) (log : List Entry) (ev : Event) (n : ℕ) → names log ev.act (at router n) ≡ false → MakesUnbegun log n ev.act → HearsTheSame log (effect configs log ev) n
hears_unnamed configs log ev n h late = by (steps_spawner n ev.act) refl
  where
    e : Entry
    e = effect configs log ev

    idle : (conn : ℕ) → begins_connection n conn log e ≡ false
    idle conn =
        begins_act log e n conn ev.act (effect-act configs log ev)
        ∙ ap (λ b. b && is_done e.reply)
        (first_half (steps_sender n conn ev.act) (steps_receiver n conn ev.act) (first_half (steps_sender n conn ev.act || steps_receiver n conn ev.act) (stops n ev.act) (router_apart log n conn ev.act h)))

    lives : (conn : ℕ) → ends_connection n conn log e ≡ false
    lives conn = ends_none-act log e n conn ev.act (effect-act configs log ev) (router_apart log n conn ev.act h)

    by : (b : Bool) → steps_spawner n ev.act ≡ b → HearsTheSame log e n
    by true makes = hears_late log e n idle lives (late makes)
    by false none = hears_kept log e n idle lives (λ conn. connections_of-unmade log e n (ap (steps_spawner n) (effect-act configs log ev) ∙ none) conn)

-- the router of a node that an act does not name
router_frame : (configs : List Config) (log : List Entry) (ev : Event) (n : ℕ) (r : Router) → RouterStands configs log n r → names log ev.act (at router n) ≡ false → MakesUnbegun log n ev.act
    → RouterStands configs (log ++ effect configs log ev ∷ []) n r
router_frame configs log ev n r s h late =
    let e = effect configs log ev in
    let lives : (conn : ℕ) → ends_connection n conn log e ≡ false = λ conn. ends_none-act log e n conn ev.act (effect-act configs log ev) (router_apart log n conn ev.act h) in
    RouterStands-moved configs log e n r r s (hears_unnamed configs log ev n h late)
    (stands_beside configs log e r s.stands (subst (IsBeside configs log e) (sym s.number) (beside_by configs log e n ev.act (effect-act configs log ev) h lives))
    (λ q own.
    line_of (log ++ e ∷ []) q
    ∙ (line-unnamed configs log ev q (ap (names log ev.act) (router_home n q (subst (λ k. is_routers k q ≡ true) s.number own)) ∙ h) ∙ sym (line_of log q))))
    refl refl

-- whether its node has stopped or not
pub lives_frame : (configs : List Config) (log : List Entry) (ev : Event) (n : ℕ) (r : Router) → RouterLives configs log n r → names log ev.act (at router n) ≡ false → MakesUnbegun log n ev.act
    → RouterLives configs (log ++ effect configs log ev ∷ []) n r
lives_frame configs log ev n r s h late =
    let e = effect configs log ev in
    let same : is_stopped log n ≡ is_stopped (log ++ e ∷ []) n = life_after configs log ev n (is_stopped log n) refl (stops_unnamed log n router ev.act h) in
    let still : RoutesNothing log e n = routed_none log e n ev.act (effect-act configs log ev) h in
    record {
      number = s.number;
      runs = λ lasts. router_frame configs log ev n r (s.runs (same ∙ lasts)) h late;
      rests = λ over. rests_kept configs log e n r (s.rests (same ∙ over)) (λ c. line-unnamed configs log ev (queue.Peers n c) h) still.routes_stay still.subscribers_stay;
    }

-- the router of a node that has not stopped after an act
pub lives_on : (configs : List Config) (log : List Entry) (n : ℕ) (r : Router) → is_stopped log n ≡ false → RouterStands configs log n r → RouterLives configs log n r
lives_on configs log n r lasts s = record { number = s.number; runs = λ same. s; rests = λ over. absurd (false≢true (sym lasts ∙ over)) }

-- and of one that has
pub rests_on : (configs : List Config) (log : List Entry) (n : ℕ) (r : Router) → is_stopped log n ≡ true → RouterRests configs log n r → RouterLives configs log n r
rests_on configs log n r over s = record { number = s.number; runs = λ lasts. absurd (false≢true (sym lasts ∙ over)); rests = λ same. s }

-- ---- the tracker

tracks_none : (log : List Entry) (n : ℕ) (a : Act) → names log a (at tracker n) ≡ false → steps_tracker n a ≡ false
tracks_none log n (act.Tracker m) h = grind (arith, nat_tests)
tracks_none log n _ h = refl

asks_none : (log : List Entry) (n : ℕ) (a : Act) → names log a (at tracker n) ≡ false → asks_of n a ≡ None
asks_none log n (act.Ask what m) h = ap (λ b. cond b (kind_of what) None) (let f : (m == n) ≡ false = grind (arith, nat_tests) in f)
asks_none log n _ h = refl

-- a question for a peer set is of the node that it names
asked_here : (n : ℕ) (o : Option Entry) → (elim o [ None ↦ None | Some e ↦ asks_of n e.event.act ]) ≡ Some question.PeerSet → (node_asked o == n) ≡ true
asked_here n None h = cc
asked_here n (Some e) h = by e.event.act h
  where
    there : (m : ℕ) (k : Option Question) (b : Bool) → (m == n) ≡ b → cond b k None ≡ Some question.PeerSet → (m == n) ≡ true
    there m k true is h = is
    there m k false is h = cc

    by : (a : Act) → asks_of n a ≡ Some question.PeerSet → (or_first (asked_node a) == n) ≡ true
    by (act.Ask what m) h = there m (kind_of what) (m == n) refl h
    by _ h = cc

-- the answer that an act takes is of a node that it names
answers_none : (log : List Entry) (n d : ℕ) (a : Act) (r : Reply) → names log a (at tracker n) ≡ false → asks_at log n d ≡ Some question.PeerSet → takes_answer d a r ≡ false
answers_none log n d (act.Answer e) r h asked = by (e == d) refl
  where
    elsewhere : (node_asked (slice_get log e) == n) ≡ false
    elsewhere = let m = node_asked (slice_get log e) in not_there m h
      where
        not_there : (m : ℕ) → ((same_part tracker tracker && (m == n)) || false) ≡ false → (m == n) ≡ false
        not_there m k = grind (arith, nat_tests)

    by : (b : Bool) → (e == d) ≡ b → ((e == d) && gives_answer r) ≡ false
    by false is = ap (λ b. b && gives_answer r) is
    by true is =
        let same : e ≡ d = eqb-true e d is in
        let here : (node_asked (slice_get log e) == n) ≡ true = ap (λ k. node_asked (slice_get log k) == n) same ∙ asked_here n (slice_get log d) asked in
        absurd (false≢true (sym elsewhere ∙ here))
answers_none log n d _ r h asked = refl

-- no answer is taken to a question that comes later
late_answer : (configs : List Config) (log : List Entry) (ev : Event) (d : ℕ) → length log ≤ d → takes_answer d (effect configs log ev).event.act (effect configs log ev).reply ≡ false
unfolding effect row
late_answer configs log ev d past = by ev.act
  where
    reply_of : Option Act → ℕ → Reply
    reply_of o e = (answer_by log e o).reply

    at_end : (e : ℕ) (b : Bool) → (e == d) ≡ b → ((e == d) && gives_answer (reply_of (asked_by log e) e)) ≡ false
    at_end e false is = ap (λ b. b && gives_answer (reply_of (asked_by log e) e)) is
    at_end e true is =
        let same : d ≡ e = sym (eqb-true e d is) in
        let none : asked_by log e ≡ None = ap (λ (o : Option Entry). elim o [ None ↦ None | Some k ↦ Some k.event.act ]) (slice_get_past log e (subst (λ k. length log ≤ k) same past)) in
        ap (λ o. (e == d) && gives_answer (reply_of o e)) none ∙ and_false (e == d)

    by : (a : Act) → takes_answer d a (row configs log ev.at ev.seed a).reply ≡ false
    by (act.Answer e) = at_end e (e == d) refl
    by _ = refl

told_home : (n : ℕ) (q : Queue) → is_told n q ≡ true → home q ≡ at tracker n
told_home n (queue.Addresses m) h = ap (at tracker) (let e : m ≡ n = grind (arith, nat_tests) in e)
told_home n (queue.Dialer m) h = ap (at tracker) (let e : m ≡ n = grind (arith, nat_tests) in e)
told_home n (queue.Control m c) h = ap (at tracker) (let e : m ≡ n = grind (arith, nat_tests) in e)
told_home n (queue.PeerSet m e) h = ap (at tracker) (let e : m ≡ n = grind (arith, nat_tests) in e)
told_home n (queue.PeerSetUpdates m e) h = ap (at tracker) (let e : m ≡ n = grind (arith, nat_tests) in e)
told_home n (queue.Blocked m e) h = ap (at tracker) (let e : m ≡ n = grind (arith, nat_tests) in e)
told_home n (queue.Handshake m e) h = ap (at tracker) (let e : m ≡ n = grind (arith, nat_tests) in e)
told_home n _ h = cc

-- ---- the dialer

dialer_turns_none : (log : List Entry) (n : ℕ) (a : Act) → names log a (at dialer n) ≡ false → turns n a ≡ false
dialer_turns_none log n a h =
    turns_unless n a (λ m is. let f : names log (act.Start m) (at dialer n) ≡ false = sym (ap (λ x. names log x (at dialer n)) is) ∙ h in grind (arith, nat_tests))
    (λ by_start m is. let f : names log (act.Stop by_start m) (at dialer n) ≡ false = sym (ap (λ x. names log x (at dialer n)) is) ∙ h in grind (arith, nat_tests))

dials_none : (log : List Entry) (n : ℕ) (a : Act) → names log a (at dialer n) ≡ false → is_of_dialer n a ≡ false
dials_none log n (act.Dialer m) h = grind (arith, nat_tests)
dials_none log n (act.Attempt e m) h = grind (arith, nat_tests)
dials_none log n (act.Resolve addresses e m) h = grind (arith, nat_tests)
dials_none log n (act.Connect e from m to) h = grind (arith, nat_tests)
dials_none log n (act.Refuse e m) h = grind (arith, nat_tests)
dials_none log n _ h = refl

-- ---- the listener

-- an act that does not name it tells nothing of a step of it, nor that a link leads there
listener_unnamed : (log : List Entry) (e : Entry) (n : ℕ) (a : Act) → e.event.act ≡ a → names log a (at listener n) ≡ false → list_any (of_listener n) (tells (told log) log e) ≡ false
listener_unnamed log e n (act.Listener m) acts h =
    let other : (m == n) ≡ false = grind (arith, nat_tests) in
    quiet_told (told log) log e (of_listener n) (act.Listener m) acts (record { took = λ link o. other; begun = λ from key link. other; drops = λ link. refl }, record { update = λ addresses. other; arrival = λ from g. other })
listener_unnamed log e n (act.Handshake k m) acts h =
    let other : (m == n) ≡ false = grind (arith, nat_tests) in
    quiet_told (told log) log e (of_listener n) (act.Handshake k m) acts (record { took = λ items. other; over = λ link. other; drops = λ link. refl })
listener_unnamed log e n (act.Connect d from m to) acts h =
    let other : (to == n) ≡ false = grind (arith, nat_tests) in
    quiet_told (told log) log e (of_listener n) (act.Connect d from m to) acts (refl, other)
listener_unnamed log e n (act.Stop by_start m) acts h =
    let other : (m == n) ≡ false = grind (arith, nat_tests) in
    quiet_told (told log) log e (of_listener n) (act.Stop by_start m) acts (record { stops = other; attempt = λ k. refl; handshake = λ k link. other; connection = λ conn. refl; drops = λ link s. refl })
listener_unnamed log e n a acts h = listener_apart log e n (ap (λ b. are_apart (kinds_of b) listener_kinds) acts)

-- a step of it, or of a handshake of it, names its tracker too
handshakes_unnamed : (log : List Entry) (e : Entry) (n : ℕ) (a : Act) → e.event.act ≡ a → names log a (at tracker n) ≡ false → handshakes_of (log ++ e ∷ []) n ≡ handshakes_of log n
handshakes_unnamed log e n (act.Listener m) acts h = let other : (m == n) ≡ false = grind (arith, nat_tests) in handshakes_of-elsewhere log e n m other acts
handshakes_unnamed log e n (act.Handshake k m) acts h = let other : (m == n) ≡ false = grind (arith, nat_tests) in handshakes_of-another log e n k m other acts
handshakes_unnamed log e n (act.Stop by_start m) acts h =
    let other : (m == n) ≡ false = grind (arith, nat_tests) in
    handshakes_of-kept log e n
    (quiet_told (told log) log e (of_handshakes n) (act.Stop by_start m) acts (record { stops = refl; attempt = λ k. refl; handshake = λ k link. other; connection = λ conn. refl; drops = λ link s. refl }))
handshakes_unnamed log e n a acts h = handshakes_of-apart log e n (ap (λ b. are_apart (kinds_of b) handshake_kinds) acts)

-- it does not stop a node whose tracker it does not name
tracker_lasts : (log : List Entry) (n : ℕ) (a : Act) → names log a (at tracker n) ≡ false → stops n a ≡ false
tracker_lasts log n (act.Stop by_start m) h = grind (arith, nat_tests)
tracker_lasts log n _ h = refl

-- ---- all parts

pub part_frame : (p : Part) (configs : List Config) (log : List Entry) (ev : Event) (n : ℕ) (x : Node) → PartStands p configs log n x → names log ev.act (at p n) ≡ false → MakesUnbegun log n ev.act
    → PartStands p configs (log ++ effect configs log ev ∷ []) n x
part_frame router configs log ev n x s h late = lives_frame configs log ev n x.router s h late
part_frame channels configs log ev n x s h late =
    channels_frame configs log (effect configs log ev) n x.channels s
    (record {
      registers = ap (registers_at configs n) (effect-act configs log ev) ∙ registers_none configs log n channels ev.act (λ c m rate k. grind (arith, nat_tests)) h;
      lines = λ c. line-unnamed configs log ev (queue.Channel n c) h;
      admits = admits_unnamed configs log (effect configs log ev) n ev.act (effect-act configs log ev) h;
      sends = sends_unnamed log (effect configs log ev) n ev.act (effect-act configs log ev) h;
      closes = closes_unnamed log (effect configs log ev) n ev.act (effect-act configs log ev) h;
    })
part_frame connections configs log ev n x s h late =
    let e = effect configs log ev in
    connections_frame configs log e n x.connections s
    (record {
      spawns = λ conn. live_connection-kept log e n conn (ends_none-act log e n conn ev.act (effect-act configs log ev) (connections_apart log n conn ev.act h))
          (connections_of-unmade log e n (ap (steps_spawner n) (effect-act configs log ev) ∙ spawns_none log n ev.act h) conn);
      begins = begins_unsent log e n ev.act (effect-act configs log ev) (λ conn. sends_none log n conn ev.act h);
      receives = receives_unnamed configs log e n ev.act (effect-act configs log ev) h (λ conn. line-unnamed configs log ev (queue.Held n conn) h);
      lines = λ conn. line-unnamed configs log ev (queue.RouterAnswer n conn) h;
    })
part_frame tracker configs log ev n x s h late =
    let e = effect configs log ev in
    tracker_frame configs log e n x.tracker s
    (record {
      no_step = ap (steps_tracker n) (effect-act configs log ev) ∙ tracks_none log n ev.act h;
      no_end = λ conn. ends_none-act log e n conn ev.act (effect-act configs log ev) (tracker_apart log n conn ev.act h);
      no_question = ap (asks_of n) (effect-act configs log ev) ∙ asks_none log n ev.act h;
      goes_on = is_stopped-kept log e n (ap (stops n) (effect-act configs log ev) ∙ tracker_lasts log n ev.act h);
      no_answer = λ d asked. ap (λ a. takes_answer d a e.reply) (effect-act configs log ev) ∙ answers_none log n d ev.act e.reply h asked;
      no_late_answer = λ d past. late_answer configs log ev d past;
      mailbox = line-unnamed configs log ev (queue.Tracker n) h;
      told = λ q own. line-unnamed configs log ev q (ap (names log ev.act) (told_home n q own) ∙ h);
      handshakes = handshakes_unnamed log e n ev.act (effect-act configs log ev) h;
    })
part_frame dialer configs log ev n x s h late =
    let e = effect configs log ev in
    let acts = effect-act configs log ev in
    dialer_frame configs log e n x.dialing s
    (dialer_unmoved configs log e n (ap (turns n) acts ∙ dialer_turns_none log n ev.act h) (ap (is_of_dialer n) acts ∙ dials_none log n ev.act h) (λ k. line-unnamed configs log ev (queue.Attempt n k) h))
part_frame listener configs log ev n x s h late =
    let e = effect configs log ev in
    listener_frame configs log e n x.listening s
    (listener_untold log e n configs (listener_unnamed log e n ev.act (effect-act configs log ev) h) (line-unnamed configs log ev (queue.Arrivals n) h))
part_frame spawner configs log ev n x s h late = spawner_kept configs log (effect configs log ev) n x.spawning s (line-unnamed configs log ev (queue.Spawner n) h)

-- an act that does not name the links opens none, ends no exchange over one, and cuts none
unopened : (log : List Entry) (a : Act) → names log a links ≡ false → are_apart (kinds_of a) opening_kinds ≡ true
unopened log (act.Connect e from n to) h = cc
unopened log (act.Finish link ok) h = cc
unopened log (act.Cut link) h = cc
unopened log _ h = refl

-- and drops no end of one
undropped : (log : List Entry) (a : Act) → names log a links ≡ false → drops_none a ≡ true
undropped log (act.Attempt e n) h = cc
undropped log (act.Handshake e n) h = cc
undropped log (act.SendStep conn n) h = cc
undropped log (act.RecvStep conn n) h = cc
undropped log (act.Listener n) h = cc
undropped log (act.Stop by_start n) h = cc
undropped log _ h = refl

-- the links, where an act does not name them
pub links_kept : (configs : List Config) (log : List Entry) (ev : Event) (l : Links) → LinksStand configs log l → names log ev.act links ≡ false → LinksStand configs (log ++ effect configs log ev ∷ []) l
links_kept configs log ev l s h =
    links_frame configs log (effect configs log ev) l s (λ t link. line-unnamed configs log ev (queue.Link link t) h)
    (openings_unmoved log (effect configs log ev) (ap (λ b. are_apart (kinds_of b) opening_kinds) (effect-act configs log ev) ∙ unopened log ev.act h))
    (drops_none-act log (effect configs log ev) (ap drops_none (effect-act configs log ev) ∙ undropped log ev.act h))
