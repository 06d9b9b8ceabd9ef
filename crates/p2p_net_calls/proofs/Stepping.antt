-- The calls of a stop, put together: what ends and what the node keeps, by what each call says of its part.
use Rattle.std.proofs.Common.{◌≡◌, ℕ, suc, true, false, List, [], ◌∷◌, ◌++◌, length, drop, refl, ap, sym, subst, ◌∙◌, arith, Option, Some, None}
use Rattle.std.specs.Prelude.{slice_get, is_some}
use Rattle.p2p_base.specs.Queue.{oldest}
use Rattle.p2p_base.specs.declared.key.Key.{Key}
use Rattle.p2p_lookup.specs.declared.spawner.message.Message.{Message}
use Rattle.p2p_lookup.specs.declared.spawner.message.Message.TheVariants as asked
use Rattle.p2p_log.specs.declared.queue.Queue.TheVariants as queue
use Rattle.p2p_log.specs.declared.item.Envelope.{Envelope}
use Rattle.p2p_log.specs.declared.end.Cause.TheVariants as cause
use Rattle.p2p_log.specs.Drained.{all_end}
use Rattle.p2p_log_rules.specs.declared.row.Row.{Row}
use Rattle.p2p_log_rules.specs.Dropping.{LinkEnd}
use Rattle.p2p_log_rules.specs.Effect.{relay_queue}
use Rattle.p2p_log_rules.specs.Stopping.{towards}
use Rattle.p2p_net_queues.specs.Rows.{item_ends}
use Rattle.p2p_net_queues.specs.Tables as table
use Rattle.p2p_net_queues.specs.Tables.{waiting, cleared_at}
use Rattle.p2p_net_router.specs.Resting.{RouterLeft}
use Rattle.p2p_net_router.specs.declared.router.Router.{Router}
use Rattle.p2p_net_tracker.specs.Ending.{noted_with}
use Rattle.p2p_net_tracker.specs.declared.tracker.Tracker.{Tracker}
use Rattle.p2p_net_connections.specs.Spawner.{taken_by, without_first}
use Rattle.p2p_net_connections.specs.Stopping.{message_by}
use Rattle.p2p_net_connections.specs.declared.connections.Connection.{Connection}
use Rattle.p2p_net_connections.specs.declared.connections.Connections.{Connections}
use Rattle.p2p_net_connections.specs.declared.spawner.Spawning.{Spawning}
use Rattle.p2p_net_links.specs.Left.{all_dropped}
use Rattle.p2p_net_links.specs.declared.links.Links.{Links}
use Rattle.p2p_net_node.specs.declared.node.Node.{Node}
use Rattle.p2p_net_calls.specs.Stopping.{NodeLeft, Drains, DropsEnd, EndsTold, RouterKeeps, WaitingEnded, ConnectionStops, MessagesTaken, queues_of, half_queues, half_holder, half_side, waiting_queues, end_of, messages_handed}
use Rattle.p2p_net_calls.proofs.Emptying.{drains_both, drains_none}
use Rattle.p2p_net_calls.proofs.Holders.{drops_drains, control_drains}
use Rattle.p2p_net_calls.proofs.Waiting.{RouterEnds, messages_drains, mailbox_drains, lane_drains, held_drains, answers_drains}

-- ---- what a router keeps

pub router_as : (old mid new : Router) → new ≡ mid → RouterKeeps old mid → RouterKeeps old new
router_as old mid new is k = subst (RouterKeeps old) (sym is) k

-- ---- what waits for a connection

-- the two lanes, what waits for its quota, what it was told, and the router's answers
module _ (n conn : ℕ) (x y : Node) (high low : Router) (held ready : Connections) (row a b c d after : Row) (first : RouterEnds (relay_queue true x.router.number conn) x.router high row a)
    (second : RouterEnds (relay_queue false high.number conn) high low a b) (third : c ≡ record b { ends = b.ends ++ all_end cause.NodeStopped (waiting x.connections.held conn) })
    (holds : held ≡ record x.connections { held = cleared_at x.connections.held conn }) (told : EndsTold (queue.Control n conn) (record x { router = low; connections = held }) y c d)
    (fifth : after ≡ record d { ends = d.ends ++ all_end cause.NodeStopped (waiting y.connections.answers conn) }) (answers : ready ≡ record y.connections { answers = cleared_at y.connections.answers conn })
  where
    pub waiting_drains : (l : Links) → Drains n (waiting_queues n conn) x (record y { connections = ready }) l l row after
    waiting_drains l =
        let one : Node = record x { router = high } in
        let two : Node = record x { router = low } in
        let three : Node = record x { router = low; connections = held } in
        drains_both n (queue.High n conn ∷ []) (queue.Low n conn ∷ queue.Held n conn ∷ queue.Control n conn ∷ queue.RouterAnswer n conn ∷ []) x one (record y { connections = ready }) l l l row a after
        (lane_drains n conn true x high l row a first)
        (drains_both n (queue.Low n conn ∷ []) (queue.Held n conn ∷ queue.Control n conn ∷ queue.RouterAnswer n conn ∷ []) one two (record y { connections = ready }) l l l a b after
        (lane_drains n conn false one low l a b second)
        (drains_both n (queue.Held n conn ∷ []) (queue.Control n conn ∷ queue.RouterAnswer n conn ∷ []) two three (record y { connections = ready }) l l l b c after
        (held_drains n conn two held l b c third holds)
        (drains_both n (queue.Control n conn ∷ []) (queue.RouterAnswer n conn ∷ []) three y (record y { connections = ready }) l l l c d after
        (control_drains n three y l c d conn told)
        (answers_drains n conn y ready l d after fifth answers))))

-- all that waits for a connection ends where it has an end of its link, and then what is in flight towards that
half_drains : (n conn : ℕ) (end : Option LinkEnd) (x y : Node) (l links : Links) (row mid after : Row)
    → ((k : Links) → Drains n (half_queues n conn end) x y k k row mid) → DropsEnd end l links mid after → Drains n (queues_of (half_holder n conn end)) x y l links row after
half_drains n conn end x y l links row mid after first drops =
    drains_both n (half_queues n conn end) (towards end) x y y l l links row mid after (first l) (drops_drains n end y l links mid after drops)

pub half_some : (n conn : ℕ) (end : Option LinkEnd) (x y : Node) (l links : Links) (row mid after : Row)
    → is_some end ≡ true → ((k : Links) → Drains n (waiting_queues n conn) x y k k row mid) → DropsEnd end l links mid after → Drains n (queues_of (half_holder n conn end)) x y l links row after
half_some n conn (Some e) x y l links row mid after some first drops = half_drains n conn (Some e) x y l links row mid after first drops
half_some n conn None x y l links row mid after some first drops = cc

pub half_none : (n conn : ℕ) (end : Option LinkEnd) (x : Node) (l links : Links) (row after : Row)
    → is_some end ≡ false → DropsEnd end l links row after → Drains n (queues_of (half_holder n conn end)) x x l links row after
half_none n conn None x l links row after none drops = half_drains n conn None x x l links row row after (λ k. drains_none n x k row) drops
half_none n conn (Some e) x l links row after none drops = cc

-- ---- a connection

-- what the node holds is the same with other connections that run, for which the same waits
respawned : (n : ℕ) (x : Node) (l : Links) (cs : List (ℕ × Connection)) (items : List Envelope) → NodeLeft n x l items → NodeLeft n (record x { connections = record x.connections { spawned = cs } }) l items
respawned n x l cs items h = record {
  apart = h.apart;
  bare = h.bare;
  number = h.number;
  router = h.router;
  tracker = h.tracker;
  dialer = h.dialer;
  arrivals = h.arrivals;
  spawner = h.spawner;
  connections = record { answers = h.connections.answers; held = h.connections.held };
  links = h.links;
}

-- and where a relay is closed, and a connection is noted that has ended
noted : (n conn : ℕ) (x : Node) (r : Router) (l : Links) (items : List Envelope) → r.number ≡ x.router.number → (RouterLeft x.router items → RouterLeft r items)
    → NodeLeft n x l items → NodeLeft n (record x { router = r; tracker = record x.tracker { ended = noted_with conn x.tracker.ended } }) l items
noted n conn x r l items same left h = record {
  apart = h.apart;
  bare = h.bare;
  number = same ∙ h.number;
  router = left h.router;
  tracker = record { names = h.tracker.names; told = h.tracker.told };
  dialer = h.dialer;
  arrivals = h.arrivals;
  spawner = h.spawner;
  connections = h.connections;
  links = h.links;
}

-- a connection stops: it is taken out, then what waits for it ends, and then its relay is closed
module _ (n conn : ℕ) (end : Option LinkEnd) (rest : List (ℕ × Connection)) (x y : Node) (r : Router) (l links : Links) (row after : Row) where
  by_parts : Drains n (queues_of (half_holder n conn end)) (record x { connections = record x.connections { spawned = rest } }) y l links row after → links ≡ all_dropped (end_of end) l
      → WaitingEnded (record x { connections = record x.connections { spawned = rest } }) y
      → ((items : List Envelope) → RouterLeft y.router items → RouterLeft r items) → RouterKeeps y.router r
      → ConnectionStops n conn end rest x (record y { router = r; tracker = record y.tracker { ended = noted_with conn y.tracker.ended } }) l links row after
  by_parts drains ends ended left keeps = record {
    drains = λ items h.
        let one = drains items (respawned n x l rest items h) in
        (one.0, noted n conn y r links _ keeps.number (left _) one.1);
    ends = ends;
    keeps = ap (λ (z : Node). record z { router = r; tracker = record z.tracker { ended = noted_with conn z.tracker.ended } }) ended.rest;
    router = record {
      number = keeps.number ∙ ended.router.number;
      channels = keeps.channels ∙ ended.router.channels;
      numbers = keeps.numbers ∙ ended.router.numbers;
      taken = keeps.taken ∙ ended.router.taken;
      routes = keeps.routes ∙ ended.router.routes;
    };
    connections = record { stages = ended.connections.stages };
    spawned = ended.spawned;
  }

  pub connection_stops : (cs : Connections) (t : Tracker) → cs ≡ record x.connections { spawned = rest } → Drains n (queues_of (half_holder n conn end)) (record x { connections = cs }) y l links row after
      → links ≡ all_dropped (end_of end) l → WaitingEnded (record x { connections = cs }) y → ((items : List Envelope) → RouterLeft y.router items → RouterLeft r items) → RouterKeeps y.router r
      → t ≡ record y.tracker { ended = noted_with conn y.tracker.ended } → ConnectionStops n conn end rest x (record y { router = r; tracker = t }) l links row after
  connection_stops cs t same drains ends ended left keeps noted =
      subst (λ (u : Tracker). ConnectionStops n conn end rest x (record y { router = r; tracker = u }) l links row after) (sym noted)
      (by_parts (subst (λ (ks : Connections). Drains n (queues_of (half_holder n conn end)) (record x { connections = ks }) y l links row after) same drains) ends
      (subst (λ (ks : Connections). WaitingEnded (record x { connections = ks }) y) same ended) left keeps)

-- ---- the mailboxes

pub mailboxes_drain : (n : ℕ) (x : Node) (r : Router) (row mid after : Row) → RouterEnds (queue.Router x.router.number) x.router r row mid → after ≡ record mid { ends = mid.ends ++ item_ends x.tracker.names }
    → (l : Links) → Drains n (queue.Router n ∷ queue.Tracker n ∷ []) x (record x { router = r; tracker = record x.tracker { names = [] } }) l l row after
mailboxes_drain n x r row mid after first second l =
    drains_both n (queue.Router n ∷ []) (queue.Tracker n ∷ []) x (record x { router = r }) (record x { router = r; tracker = record x.tracker { names = [] } }) l l l row mid after
    (messages_drains n x r l row mid first) (mailbox_drains n (record x { router = r }) l mid after second)

-- ---- messages

-- the messages of the spawner, the oldest first
module _ (n : ℕ) (l : Links) where
  pub messages_some : (s : Spawning) (name : ℕ × ℕ) (link : ℕ) → message_by (taken_by (slice_get s.names 0) (oldest s.mailbox)) ≡ Some (name, link)
      → messages_handed n l s.names s.mailbox.items ≡ (name, half_side n link (table.at l.dialers link)) ∷ messages_handed n l (without_first s).names (without_first s).mailbox.items
  messages_some s name link is = by s.names s.mailbox.items is
    where
      by : (names : List (ℕ × ℕ)) (ms : List (Message Key)) → message_by (taken_by (slice_get names 0) (slice_get ms 0)) ≡ Some (name, link)
          → messages_handed n l names ms ≡ (name, half_side n link (table.at l.dialers link)) ∷ messages_handed n l (drop 1 names) (drop 1 ms)
      by [] ms e = cc
      by (a ∷ names) [] e = cc
      by (a ∷ names) (asked.Spawn peer k reserved ∷ ms) e =
          let same : (a, k) ≡ (name, link) = cc in
          ap (λ (p : (ℕ × ℕ) × ℕ). (p.0, half_side n p.1 (table.at l.dialers p.1)) ∷ messages_handed n l names ms) same

  pub messages_none : (s : Spawning) → message_by (taken_by (slice_get s.names 0) (oldest s.mailbox)) ≡ None → messages_handed n l s.names s.mailbox.items ≡ []
  messages_none s is = by s.names s.mailbox.items is
    where
      by : (names : List (ℕ × ℕ)) (ms : List (Message Key)) → message_by (taken_by (slice_get names 0) (slice_get ms 0)) ≡ None → messages_handed n l names ms ≡ []
      by [] ms e = refl
      by (a ∷ names) [] e = refl
      by (a ∷ names) (asked.Spawn peer k reserved ∷ ms) e = cc

-- a message less, where there was one, and as many names as messages
pub first_taken : (s : Spawning) (name : ℕ × ℕ) (link : ℕ) → message_by (taken_by (slice_get s.names 0) (oldest s.mailbox)) ≡ Some (name, link) → length s.names ≡ suc (length (without_first s).names)
first_taken s name link is = by s.names (oldest s.mailbox) is
  where
    by : (names : List (ℕ × ℕ)) (m : Option (Message Key)) → message_by (taken_by (slice_get names 0) m) ≡ Some (name, link) → length names ≡ suc (length (drop 1 names))
    by [] m e = cc
    by (a ∷ names) m e = refl

-- the messages of a node are taken, and so far these are left
pub record MessagesLeft (old now : Node) : Type 0 where
  pub rest : now ≡ record old { spawning = now.spawning }
  pub many : length old.spawning.names ≡ length old.spawning.mailbox.items → length now.spawning.names ≡ length now.spawning.mailbox.items
  pub capacity : now.spawning.mailbox.capacity ≡ old.spawning.mailbox.capacity
  pub closed : now.spawning.mailbox.closed ≡ old.spawning.mailbox.closed

one_fewer : {A B : Type 0} (xs : List A) (ys : List B) → length xs ≡ length ys → length (drop 1 xs) ≡ length (drop 1 ys)
one_fewer [] [] e = refl
one_fewer [] (y ∷ ys) e = cc
one_fewer (x ∷ xs) [] e = cc
one_fewer (x ∷ xs) (y ∷ ys) e = omega (arith, e)

pub messages_left : (old now : Node) (s : Spawning) → MessagesLeft old now → s ≡ without_first now.spawning → MessagesLeft old (record now { spawning = s })
messages_left old now s h is = record {
  rest = ap (λ (z : Node). record z { spawning = s }) h.rest;
  many = λ e. subst (λ (t : Spawning). length t.names ≡ length t.mailbox.items) (sym is) (one_fewer now.spawning.names now.spawning.mailbox.items (h.many e));
  capacity = ap (λ (t : Spawning). t.mailbox.capacity) is ∙ h.capacity;
  closed = ap (λ (t : Spawning). t.mailbox.closed) is ∙ h.closed;
}

pub messages_gone : (old now : Node) (s : Spawning) → MessagesLeft old now → s ≡ without_first now.spawning → message_by (taken_by (slice_get now.spawning.names 0) (oldest now.spawning.mailbox)) ≡ None
    → MessagesTaken old (record now { spawning = s })
messages_gone old now s h is none = record {
  rest = ap (λ (z : Node). record z { spawning = s }) h.rest;
  names = λ e. ap (λ (t : Spawning). t.names) is ∙ (both now.spawning.names now.spawning.mailbox.items none (h.many e)).0;
  items = λ e. ap (λ (t : Spawning). t.mailbox.items) is ∙ (both now.spawning.names now.spawning.mailbox.items none (h.many e)).1;
  capacity = ap (λ (t : Spawning). t.mailbox.capacity) is ∙ h.capacity;
  closed = ap (λ (t : Spawning). t.mailbox.closed) is ∙ h.closed;
}
  where
    both : (names : List (ℕ × ℕ)) (ms : List (Message Key)) → message_by (taken_by (slice_get names 0) (slice_get ms 0)) ≡ None → length names ≡ length ms → (drop 1 names ≡ []) × (drop 1 ms ≡ [])
    both [] [] e many = (refl, refl)
    both [] (m ∷ ms) e many = cc
    both (a ∷ names) [] e many = cc
    both (a ∷ names) (asked.Spawn peer k reserved ∷ ms) e many = cc
