-- A node that is emptied, one queue after another: what each part holds agrees with the items that are left.
use Rattle.std.proofs.Common.{◌≡◌, ℕ, Bool, true, false, List, [], ◌∷◌, ◌++◌, map, refl, ap, sym, subst, ◌∙◌, append-nil, append_assoc, arith}
use Rattle.std.specs.Prelude.{◌==◌}
use Rattle.std.proofs.lemmas.Bool.Decides.{nat_tests}
use Rattle.std.specs.Prelude.{filter}
use Rattle.std.specs.List.{AllByRecursion as Each}
use Rattle.std.proofs.lemmas.List.Concat.{flat_map-append}
use Rattle.p2p_log.specs.declared.queue.Queue.{Queue}
use Rattle.p2p_log.specs.declared.queue.Queue.TheVariants as queue
use Rattle.p2p_log.specs.declared.queue.Side.{Side}
use Rattle.p2p_log.specs.declared.queue.Side.TheVariants as side
use Rattle.p2p_log.specs.declared.item.Envelope.{Envelope}
use Rattle.p2p_log.specs.declared.end.Cause.{Cause}
use Rattle.p2p_log.specs.declared.end.Cause.TheVariants as cause
use Rattle.p2p_log.specs.declared.end.Outcome.TheVariants as outcome
use Rattle.p2p_log.specs.declared.end.End.TheVariants as end
use Rattle.p2p_log.specs.QueueCode.{same_queue}
use Rattle.p2p_log.specs.Apart.{AreApart}
use Rattle.p2p_log.specs.Copies.{copies_of}
use Rattle.p2p_log.specs.Drained.{drained, all_end, ends_with}
use Rattle.p2p_log.specs.Lines.{name_of, stays, stands_in}
use Rattle.p2p_log.proofs.Each.{Each-filter}
use Rattle.p2p_log.proofs.QueueNames.{Each-in_queue}
use Rattle.p2p_log_rules.specs.declared.row.Row.{Row}
use Rattle.p2p_log_rules.specs.Attempting.{left_ends}
use Rattle.p2p_log_rules.specs.Effect.{relay_queue}
use Rattle.p2p_log_rules.proofs.Left.{without, line_kept, line_gone, AreApart-without}
use Rattle.p2p_log_laws.proofs.Draining.{left-append, left-none, drained-append}
use Rattle.p2p_log_laws.proofs.Fitting.{holds_bare}
use Rattle.p2p_net_queues.specs.Board.{held}
use Rattle.p2p_net_queues.specs.Rows.{item_ends}
use Rattle.p2p_net_router.specs.Names.{is_routers, label, bare_item}
use Rattle.p2p_net_router.specs.Resting.{IsFrame, RouterLeft}
use Rattle.p2p_net_router.specs.declared.router.Router.{Router}
use Rattle.p2p_net_tracker.specs.Stopping.{TrackerLeft}
use Rattle.p2p_net_tracker.specs.declared.tracker.Tracker.{Tracker}
use Rattle.p2p_net_gates.specs.Stopping.{DialerLeft}
use Rattle.p2p_net_gates.specs.declared.dialing.Dialing.{Dialing}
use Rattle.p2p_net_connections.specs.Stopping.{ConnectionsLeft}
use Rattle.p2p_net_connections.specs.declared.connections.Connections.{Connections}
use Rattle.p2p_net_connections.specs.declared.spawner.Spawning.{Spawning}
use Rattle.p2p_net_gates.specs.declared.listening.Listening.{Listening}
use Rattle.p2p_net_links.specs.Left.{LinksLeft}
use Rattle.p2p_net_links.specs.declared.links.Links.{Links}
use Rattle.p2p_net_router.proofs.Aside.{same_queue-other}
use Rattle.p2p_net_tracker.proofs.Stopped.{tracker_left_other}
use Rattle.p2p_net_gates.proofs.Stops.{dialer_left_other}
use Rattle.p2p_net_connections.proofs.SpawnerStop.{spawner_left_other, spawner_left_none}
use Rattle.p2p_net_connections.proofs.Stopped.{connections_left_other}
use Rattle.p2p_net_links.proofs.Left.{links_left_other}
use Rattle.p2p_net_node.specs.declared.node.Node.{Node}
use Rattle.p2p_net_calls.specs.Stopping.{IsBare, NodeLeft, left, Adds, Drains}

-- ---- the ends of what has no copies

-- items without copies end by their names alone
bare_each : (c : Cause) (xs : List Envelope) → Each (λ (x : Envelope). copies_of x.item ≡ []) xs → all_end c xs ≡ item_ends (map name_of xs)
bare_each c [] h = refl
bare_each c (x ∷ xs) h =
    ap (λ cs. (end.Item x.entry x.place ∷ map (λ (copy : ℕ × ℕ). end.Copy copy.0 copy.1 (outcome.Dropped c)) cs) ++ all_end c xs) h.0
    ∙ ap (λ l. end.Item x.entry x.place ∷ l) (bare_each c xs h.1)

pub bare_ends : (c : Cause) (q : Queue) (items : List Envelope) → holds_bare q ≡ true → Each IsBare items → all_end c (filter (stands_in q) items) ≡ item_ends (map name_of (filter (stands_in q) items))
bare_ends c q items bare each =
    bare_each c (filter (stands_in q) items) (by (filter (stands_in q) items) (Each-filter IsBare (stands_in q) items each) (Each-in_queue q items))
  where
    by : (xs : List Envelope) → Each IsBare xs → Each (λ (x : Envelope). x.queue ≡ q) xs → Each (λ (x : Envelope). copies_of x.item ≡ []) xs
    by [] h k = tt
    by (x ∷ xs) h k = (h.0 (ap holds_bare k.0 ∙ bare), by xs h.1 k.1)

pub left_ends_named : (xs : List Envelope) → left_ends xs ≡ item_ends (map name_of xs)
left_ends_named [] = refl
left_ends_named (x ∷ xs) = ap (λ l. end.Item x.entry x.place ∷ l) (left_ends_named xs)

-- ---- the router, where a queue of another part is emptied

pub router_left_other : (r : Router) (q : Queue) (items : List Envelope) → is_routers r.number q ≡ false → AreApart items → RouterLeft r items → RouterLeft r (without q items)
router_left_other r q items apart distinct h =
    record {
      listing = record {
        rings = h.listing.rings;
        channels = h.listing.channels;
        distinct = h.listing.distinct;
        numbered = h.listing.numbered;
        names = λ c. h.listing.names c ∙ ap (map label) (sym (same (queue.Peers r.number c) (own r.number)));
        lists = λ c. h.listing.lists c ∙ ap (map bare_item) (sym (same (queue.Peers r.number c) (own r.number)));
      };
      mailbox = h.mailbox ∙ ap (map bare_item) (sym (same (queue.Router r.number) (own r.number)));
      frames = λ priority conn. subst (Each (λ (x : Envelope). IsFrame x.item)) (sym (same (relay_queue priority r.number conn) (relay priority conn))) (h.frames priority conn);
      names = λ p mine. h.names p mine ∙ ap (map label) (sym (same p mine));
    }
  where
    same : (p : Queue) → is_routers r.number p ≡ true → filter (stands_in p) (without q items) ≡ filter (stands_in p) items
    same p mine = line_kept q p items distinct (same_queue-other r.number q p apart mine)

    own : (n : ℕ) → (n == n) ≡ true
    own n = grind (arith, nat_tests)

    relay : (priority : Bool) (conn : ℕ) → is_routers r.number (relay_queue priority r.number conn) ≡ true
    relay true conn = own r.number
    relay false conn = own r.number

-- ---- one queue is emptied

-- of a list of one queue its line comes
pub one_drained : (items : List Envelope) (q : Queue) → drained items (q ∷ []) ≡ filter (stands_in q) items
one_drained items q = append-nil (filter (stands_in q) items)

-- so it is drained where the row has the ends of its line, and the node holds the others
pub drains_one : (n : ℕ) (q : Queue) (old new : Node) (l links : Links) (row after : Row)
    → ((items : List Envelope) → NodeLeft n old l items → Adds (filter (stands_in q) items) row after × NodeLeft n new links (without q items)) → Drains n (q ∷ []) old new l links row after
drains_one n q old new l links row after h items held =
    let done = h items held in (
      subst (λ xs. Adds xs row after) (sym (one_drained items q)) done.0,
      subst (λ xs. NodeLeft n new links (left xs items)) (sym (one_drained items q)) done.1,
    )

-- nothing more
pub drains_none : (n : ℕ) (x : Node) (l : Links) (row : Row) → Drains n [] x x l l row row
drains_none n x l row items held = (
  ap (λ e. record row { ends = e }) (sym (append-nil row.ends)),
  subst (NodeLeft n x l) (sym (left-none items)) held,
)

-- and then more
pub all_end-append : (c : Cause) (xs ys : List Envelope) → all_end c (xs ++ ys) ≡ all_end c xs ++ all_end c ys
all_end-append c xs ys = flat_map-append (ends_with c) xs ys

pub adds_both : (xs ys : List Envelope) (row mid after : Row) → Adds xs row mid → Adds ys mid after → Adds (xs ++ ys) row after
adds_both xs ys row mid after first second =
    second
    ∙ (ap (λ (m : Row). record m { ends = m.ends ++ all_end cause.NodeStopped ys }) first
    ∙ ap (λ e. record row { ends = e }) (append_assoc row.ends (all_end cause.NodeStopped xs) (all_end cause.NodeStopped ys) ∙ ap (λ e. row.ends ++ e) (sym (all_end-append cause.NodeStopped xs ys))))

pub drains_both : (n : ℕ) (qs ps : List Queue) (old mid new : Node) (l between links : Links) (row made after : Row)
    → Drains n qs old mid l between row made → Drains n ps mid new between links made after → Drains n (qs ++ ps) old new l links row after
drains_both n qs ps old mid new l between links row made after first second items held =
    let one = first items held in
    let rest = left (drained items qs) items in
    let two = second rest one.1 in (
      subst (λ xs. Adds xs row after) (sym (drained-append items qs ps)) (adds_both (drained items qs) (drained rest ps) row made after one.0 two.0),
      subst (NodeLeft n new links) (left-append (drained items qs) (drained rest ps) items ∙ ap (λ xs. left xs items) (sym (drained-append items qs ps))) two.1,
    )

-- ---- by the part that has it

pub without_update : (n : ℕ) (x : Node) (l : Links) (t : Tracker) (items : List Envelope) → NodeLeft n x l items → TrackerLeft n t (without (queue.Addresses n) items) → NodeLeft n (record x { tracker = t }) l (without (queue.Addresses n) items)
without_update n x l t items h told = record {
  apart = AreApart-without (queue.Addresses n) items h.apart;
  bare = Each-filter IsBare (stays (map name_of (filter (stands_in (queue.Addresses n)) items))) items h.bare;
  number = h.number;
  router = router_left_other x.router (queue.Addresses n) items refl h.apart h.router;
  tracker = told;
  dialer = dialer_left_other n x.dialing items (queue.Addresses n) (λ j. refl) h.apart h.dialer;
  arrivals = h.arrivals ∙ ap (map name_of) (sym (line_kept (queue.Addresses n) (queue.Arrivals n) items h.apart refl));
  spawner = spawner_left_other n x.spawning (queue.Addresses n) items refl h.apart h.spawner;
  connections = connections_left_other n x.connections (queue.Addresses n) items (λ c. refl) (λ c. refl) h.apart h.connections;
  links = links_left_other l (queue.Addresses n) items (λ link s. (elim s as (λ t. same_queue (queue.Link link t) (queue.Addresses n) ≡ false) [ side.Out ↦ refl | side.In ↦ refl ])) h.apart h.links;
}

pub without_dialer : (n : ℕ) (x : Node) (l : Links) (t : Tracker) (items : List Envelope) → NodeLeft n x l items → TrackerLeft n t (without (queue.Dialer n) items) → NodeLeft n (record x { tracker = t }) l (without (queue.Dialer n) items)
without_dialer n x l t items h told = record {
  apart = AreApart-without (queue.Dialer n) items h.apart;
  bare = Each-filter IsBare (stays (map name_of (filter (stands_in (queue.Dialer n)) items))) items h.bare;
  number = h.number;
  router = router_left_other x.router (queue.Dialer n) items refl h.apart h.router;
  tracker = told;
  dialer = dialer_left_other n x.dialing items (queue.Dialer n) (λ j. refl) h.apart h.dialer;
  arrivals = h.arrivals ∙ ap (map name_of) (sym (line_kept (queue.Dialer n) (queue.Arrivals n) items h.apart refl));
  spawner = spawner_left_other n x.spawning (queue.Dialer n) items refl h.apart h.spawner;
  connections = connections_left_other n x.connections (queue.Dialer n) items (λ c. refl) (λ c. refl) h.apart h.connections;
  links = links_left_other l (queue.Dialer n) items (λ link s. (elim s as (λ t. same_queue (queue.Link link t) (queue.Dialer n) ≡ false) [ side.Out ↦ refl | side.In ↦ refl ])) h.apart h.links;
}

pub without_handshake : (n : ℕ) (k : ℕ) (x : Node) (l : Links) (t : Tracker) (items : List Envelope) → NodeLeft n x l items → TrackerLeft n t (without (queue.Handshake n k) items) → NodeLeft n (record x { tracker = t }) l (without (queue.Handshake n k) items)
without_handshake n k x l t items h told = record {
  apart = AreApart-without (queue.Handshake n k) items h.apart;
  bare = Each-filter IsBare (stays (map name_of (filter (stands_in (queue.Handshake n k)) items))) items h.bare;
  number = h.number;
  router = router_left_other x.router (queue.Handshake n k) items refl h.apart h.router;
  tracker = told;
  dialer = dialer_left_other n x.dialing items (queue.Handshake n k) (λ j. refl) h.apart h.dialer;
  arrivals = h.arrivals ∙ ap (map name_of) (sym (line_kept (queue.Handshake n k) (queue.Arrivals n) items h.apart refl));
  spawner = spawner_left_other n x.spawning (queue.Handshake n k) items refl h.apart h.spawner;
  connections = connections_left_other n x.connections (queue.Handshake n k) items (λ c. refl) (λ c. refl) h.apart h.connections;
  links = links_left_other l (queue.Handshake n k) items (λ link s. (elim s as (λ t. same_queue (queue.Link link t) (queue.Handshake n k) ≡ false) [ side.Out ↦ refl | side.In ↦ refl ])) h.apart h.links;
}

pub without_control : (n : ℕ) (k : ℕ) (x : Node) (l : Links) (t : Tracker) (items : List Envelope) → NodeLeft n x l items → TrackerLeft n t (without (queue.Control n k) items) → NodeLeft n (record x { tracker = t }) l (without (queue.Control n k) items)
without_control n k x l t items h told = record {
  apart = AreApart-without (queue.Control n k) items h.apart;
  bare = Each-filter IsBare (stays (map name_of (filter (stands_in (queue.Control n k)) items))) items h.bare;
  number = h.number;
  router = router_left_other x.router (queue.Control n k) items refl h.apart h.router;
  tracker = told;
  dialer = dialer_left_other n x.dialing items (queue.Control n k) (λ j. refl) h.apart h.dialer;
  arrivals = h.arrivals ∙ ap (map name_of) (sym (line_kept (queue.Control n k) (queue.Arrivals n) items h.apart refl));
  spawner = spawner_left_other n x.spawning (queue.Control n k) items refl h.apart h.spawner;
  connections = connections_left_other n x.connections (queue.Control n k) items (λ c. refl) (λ c. refl) h.apart h.connections;
  links = links_left_other l (queue.Control n k) items (λ link s. (elim s as (λ t. same_queue (queue.Link link t) (queue.Control n k) ≡ false) [ side.Out ↦ refl | side.In ↦ refl ])) h.apart h.links;
}

pub without_mailbox : (n : ℕ) (x : Node) (l : Links) (t : Tracker) (items : List Envelope) → NodeLeft n x l items → TrackerLeft n t (without (queue.Tracker n) items) → NodeLeft n (record x { tracker = t }) l (without (queue.Tracker n) items)
without_mailbox n x l t items h told = record {
  apart = AreApart-without (queue.Tracker n) items h.apart;
  bare = Each-filter IsBare (stays (map name_of (filter (stands_in (queue.Tracker n)) items))) items h.bare;
  number = h.number;
  router = router_left_other x.router (queue.Tracker n) items refl h.apart h.router;
  tracker = told;
  dialer = dialer_left_other n x.dialing items (queue.Tracker n) (λ j. refl) h.apart h.dialer;
  arrivals = h.arrivals ∙ ap (map name_of) (sym (line_kept (queue.Tracker n) (queue.Arrivals n) items h.apart refl));
  spawner = spawner_left_other n x.spawning (queue.Tracker n) items refl h.apart h.spawner;
  connections = connections_left_other n x.connections (queue.Tracker n) items (λ c. refl) (λ c. refl) h.apart h.connections;
  links = links_left_other l (queue.Tracker n) items (λ link s. (elim s as (λ t. same_queue (queue.Link link t) (queue.Tracker n) ≡ false) [ side.Out ↦ refl | side.In ↦ refl ])) h.apart h.links;
}

pub without_attempt : (n k : ℕ) (x : Node) (l : Links) (d : Dialing) (items : List Envelope) → NodeLeft n x l items → DialerLeft n d (without (queue.Attempt n k) items) → NodeLeft n (record x { dialing = d }) l (without (queue.Attempt n k) items)
without_attempt n k x l d items h names = record {
  apart = AreApart-without (queue.Attempt n k) items h.apart;
  bare = Each-filter IsBare (stays (map name_of (filter (stands_in (queue.Attempt n k)) items))) items h.bare;
  number = h.number;
  router = router_left_other x.router (queue.Attempt n k) items refl h.apart h.router;
  tracker = tracker_left_other n x.tracker items (queue.Attempt n k) refl refl h.apart h.tracker;
  dialer = names;
  arrivals = h.arrivals ∙ ap (map name_of) (sym (line_kept (queue.Attempt n k) (queue.Arrivals n) items h.apart refl));
  spawner = spawner_left_other n x.spawning (queue.Attempt n k) items refl h.apart h.spawner;
  connections = connections_left_other n x.connections (queue.Attempt n k) items (λ c. refl) (λ c. refl) h.apart h.connections;
  links = links_left_other l (queue.Attempt n k) items (λ link s. (elim s as (λ t. same_queue (queue.Link link t) (queue.Attempt n k) ≡ false) [ side.Out ↦ refl | side.In ↦ refl ])) h.apart h.links;
}

pub without_messages : (n : ℕ) (x : Node) (l : Links) (r : Router) (items : List Envelope) → NodeLeft n x l items → r.number ≡ n → RouterLeft r (without (queue.Router n) items) → NodeLeft n (record x { router = r }) l (without (queue.Router n) items)
without_messages n x l r items h same holds = record {
  apart = AreApart-without (queue.Router n) items h.apart;
  bare = Each-filter IsBare (stays (map name_of (filter (stands_in (queue.Router n)) items))) items h.bare;
  number = same;
  router = holds;
  tracker = tracker_left_other n x.tracker items (queue.Router n) refl refl h.apart h.tracker;
  dialer = dialer_left_other n x.dialing items (queue.Router n) (λ j. refl) h.apart h.dialer;
  arrivals = h.arrivals ∙ ap (map name_of) (sym (line_kept (queue.Router n) (queue.Arrivals n) items h.apart refl));
  spawner = spawner_left_other n x.spawning (queue.Router n) items refl h.apart h.spawner;
  connections = connections_left_other n x.connections (queue.Router n) items (λ c. refl) (λ c. refl) h.apart h.connections;
  links = links_left_other l (queue.Router n) items (λ link s. (elim s as (λ t. same_queue (queue.Link link t) (queue.Router n) ≡ false) [ side.Out ↦ refl | side.In ↦ refl ])) h.apart h.links;
}

pub without_high : (n : ℕ) (k : ℕ) (x : Node) (l : Links) (r : Router) (items : List Envelope) → NodeLeft n x l items → r.number ≡ n → RouterLeft r (without (queue.High n k) items) → NodeLeft n (record x { router = r }) l (without (queue.High n k) items)
without_high n k x l r items h same holds = record {
  apart = AreApart-without (queue.High n k) items h.apart;
  bare = Each-filter IsBare (stays (map name_of (filter (stands_in (queue.High n k)) items))) items h.bare;
  number = same;
  router = holds;
  tracker = tracker_left_other n x.tracker items (queue.High n k) refl refl h.apart h.tracker;
  dialer = dialer_left_other n x.dialing items (queue.High n k) (λ j. refl) h.apart h.dialer;
  arrivals = h.arrivals ∙ ap (map name_of) (sym (line_kept (queue.High n k) (queue.Arrivals n) items h.apart refl));
  spawner = spawner_left_other n x.spawning (queue.High n k) items refl h.apart h.spawner;
  connections = connections_left_other n x.connections (queue.High n k) items (λ c. refl) (λ c. refl) h.apart h.connections;
  links = links_left_other l (queue.High n k) items (λ link s. (elim s as (λ t. same_queue (queue.Link link t) (queue.High n k) ≡ false) [ side.Out ↦ refl | side.In ↦ refl ])) h.apart h.links;
}

pub without_low : (n : ℕ) (k : ℕ) (x : Node) (l : Links) (r : Router) (items : List Envelope) → NodeLeft n x l items → r.number ≡ n → RouterLeft r (without (queue.Low n k) items) → NodeLeft n (record x { router = r }) l (without (queue.Low n k) items)
without_low n k x l r items h same holds = record {
  apart = AreApart-without (queue.Low n k) items h.apart;
  bare = Each-filter IsBare (stays (map name_of (filter (stands_in (queue.Low n k)) items))) items h.bare;
  number = same;
  router = holds;
  tracker = tracker_left_other n x.tracker items (queue.Low n k) refl refl h.apart h.tracker;
  dialer = dialer_left_other n x.dialing items (queue.Low n k) (λ j. refl) h.apart h.dialer;
  arrivals = h.arrivals ∙ ap (map name_of) (sym (line_kept (queue.Low n k) (queue.Arrivals n) items h.apart refl));
  spawner = spawner_left_other n x.spawning (queue.Low n k) items refl h.apart h.spawner;
  connections = connections_left_other n x.connections (queue.Low n k) items (λ c. refl) (λ c. refl) h.apart h.connections;
  links = links_left_other l (queue.Low n k) items (λ link s. (elim s as (λ t. same_queue (queue.Link link t) (queue.Low n k) ≡ false) [ side.Out ↦ refl | side.In ↦ refl ])) h.apart h.links;
}

pub without_held : (n k : ℕ) (x : Node) (l : Links) (cs : Connections) (items : List Envelope) → NodeLeft n x l items → ConnectionsLeft n cs (without (queue.Held n k) items) → NodeLeft n (record x { connections = cs }) l (without (queue.Held n k) items)
without_held n k x l cs items h waits = record {
  apart = AreApart-without (queue.Held n k) items h.apart;
  bare = Each-filter IsBare (stays (map name_of (filter (stands_in (queue.Held n k)) items))) items h.bare;
  number = h.number;
  router = router_left_other x.router (queue.Held n k) items refl h.apart h.router;
  tracker = tracker_left_other n x.tracker items (queue.Held n k) refl refl h.apart h.tracker;
  dialer = dialer_left_other n x.dialing items (queue.Held n k) (λ j. refl) h.apart h.dialer;
  arrivals = h.arrivals ∙ ap (map name_of) (sym (line_kept (queue.Held n k) (queue.Arrivals n) items h.apart refl));
  spawner = spawner_left_other n x.spawning (queue.Held n k) items refl h.apart h.spawner;
  connections = waits;
  links = links_left_other l (queue.Held n k) items (λ link s. (elim s as (λ t. same_queue (queue.Link link t) (queue.Held n k) ≡ false) [ side.Out ↦ refl | side.In ↦ refl ])) h.apart h.links;
}

pub without_answers : (n k : ℕ) (x : Node) (l : Links) (cs : Connections) (items : List Envelope) → NodeLeft n x l items → ConnectionsLeft n cs (without (queue.RouterAnswer n k) items) → NodeLeft n (record x { connections = cs }) l (without (queue.RouterAnswer n k) items)
without_answers n k x l cs items h waits = record {
  apart = AreApart-without (queue.RouterAnswer n k) items h.apart;
  bare = Each-filter IsBare (stays (map name_of (filter (stands_in (queue.RouterAnswer n k)) items))) items h.bare;
  number = h.number;
  router = router_left_other x.router (queue.RouterAnswer n k) items refl h.apart h.router;
  tracker = tracker_left_other n x.tracker items (queue.RouterAnswer n k) refl refl h.apart h.tracker;
  dialer = dialer_left_other n x.dialing items (queue.RouterAnswer n k) (λ j. refl) h.apart h.dialer;
  arrivals = h.arrivals ∙ ap (map name_of) (sym (line_kept (queue.RouterAnswer n k) (queue.Arrivals n) items h.apart refl));
  spawner = spawner_left_other n x.spawning (queue.RouterAnswer n k) items refl h.apart h.spawner;
  connections = waits;
  links = links_left_other l (queue.RouterAnswer n k) items (λ link s. (elim s as (λ t. same_queue (queue.Link link t) (queue.RouterAnswer n k) ≡ false) [ side.Out ↦ refl | side.In ↦ refl ])) h.apart h.links;
}

-- what is in flight towards an end
pub without_flight : (n link : ℕ) (s : Side) (x : Node) (l links : Links) (items : List Envelope) → NodeLeft n x l items → LinksLeft links (without (queue.Link link s) items) → NodeLeft n x links (without (queue.Link link s) items)
without_flight n link side.Out x l links items h ways = record {
  apart = AreApart-without (queue.Link link side.Out) items h.apart;
  bare = Each-filter IsBare (stays (map name_of (filter (stands_in (queue.Link link side.Out)) items))) items h.bare;
  number = h.number;
  router = router_left_other x.router (queue.Link link side.Out) items refl h.apart h.router;
  tracker = tracker_left_other n x.tracker items (queue.Link link side.Out) refl refl h.apart h.tracker;
  dialer = dialer_left_other n x.dialing items (queue.Link link side.Out) (λ j. refl) h.apart h.dialer;
  arrivals = h.arrivals ∙ ap (map name_of) (sym (line_kept (queue.Link link side.Out) (queue.Arrivals n) items h.apart refl));
  spawner = spawner_left_other n x.spawning (queue.Link link side.Out) items refl h.apart h.spawner;
  connections = connections_left_other n x.connections (queue.Link link side.Out) items (λ c. refl) (λ c. refl) h.apart h.connections;
  links = ways;
}
without_flight n link side.In x l links items h ways = record {
  apart = AreApart-without (queue.Link link side.In) items h.apart;
  bare = Each-filter IsBare (stays (map name_of (filter (stands_in (queue.Link link side.In)) items))) items h.bare;
  number = h.number;
  router = router_left_other x.router (queue.Link link side.In) items refl h.apart h.router;
  tracker = tracker_left_other n x.tracker items (queue.Link link side.In) refl refl h.apart h.tracker;
  dialer = dialer_left_other n x.dialing items (queue.Link link side.In) (λ j. refl) h.apart h.dialer;
  arrivals = h.arrivals ∙ ap (map name_of) (sym (line_kept (queue.Link link side.In) (queue.Arrivals n) items h.apart refl));
  spawner = spawner_left_other n x.spawning (queue.Link link side.In) items refl h.apart h.spawner;
  connections = connections_left_other n x.connections (queue.Link link side.In) items (λ c. refl) (λ c. refl) h.apart h.connections;
  links = ways;
}

-- what waited for the spawner, and for the listener
pub without_spawner : (n : ℕ) (x : Node) (l : Links) (sp : Spawning) (items : List Envelope) → NodeLeft n x l items → sp.names ≡ [] → NodeLeft n (record x { spawning = sp }) l (without (queue.Spawner n) items)
without_spawner n x l sp items h none = record {
  apart = AreApart-without (queue.Spawner n) items h.apart;
  bare = Each-filter IsBare (stays (map name_of (filter (stands_in (queue.Spawner n)) items))) items h.bare;
  number = h.number;
  router = router_left_other x.router (queue.Spawner n) items refl h.apart h.router;
  tracker = tracker_left_other n x.tracker items (queue.Spawner n) refl refl h.apart h.tracker;
  dialer = dialer_left_other n x.dialing items (queue.Spawner n) (λ j. refl) h.apart h.dialer;
  arrivals = h.arrivals ∙ ap (map name_of) (sym (line_kept (queue.Spawner n) (queue.Arrivals n) items h.apart refl));
  spawner = spawner_left_none n sp items none;
  connections = connections_left_other n x.connections (queue.Spawner n) items (λ c. refl) (λ c. refl) h.apart h.connections;
  links = links_left_other l (queue.Spawner n) items (λ link s. (elim s as (λ t. same_queue (queue.Link link t) (queue.Spawner n) ≡ false) [ side.Out ↦ refl | side.In ↦ refl ])) h.apart h.links;
}

pub without_arrivals : (n : ℕ) (x : Node) (l : Links) (li : Listening) (items : List Envelope) → NodeLeft n x l items → li.names ≡ [] → NodeLeft n (record x { listening = li }) l (without (queue.Arrivals n) items)
without_arrivals n x l li items h none = record {
  apart = AreApart-without (queue.Arrivals n) items h.apart;
  bare = Each-filter IsBare (stays (map name_of (filter (stands_in (queue.Arrivals n)) items))) items h.bare;
  number = h.number;
  router = router_left_other x.router (queue.Arrivals n) items refl h.apart h.router;
  tracker = tracker_left_other n x.tracker items (queue.Arrivals n) refl refl h.apart h.tracker;
  dialer = dialer_left_other n x.dialing items (queue.Arrivals n) (λ j. refl) h.apart h.dialer;
  arrivals = none ∙ ap (map name_of) (sym (line_gone items (queue.Arrivals n)));
  spawner = spawner_left_other n x.spawning (queue.Arrivals n) items refl h.apart h.spawner;
  connections = connections_left_other n x.connections (queue.Arrivals n) items (λ c. refl) (λ c. refl) h.apart h.connections;
  links = links_left_other l (queue.Arrivals n) items (λ link s. (elim s as (λ t. same_queue (queue.Link link t) (queue.Arrivals n) ≡ false) [ side.Out ↦ refl | side.In ↦ refl ])) h.apart h.links;
}
