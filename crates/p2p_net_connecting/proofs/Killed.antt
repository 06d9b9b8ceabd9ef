-- A connection that is told to end does so: the oldest of what it was told is taken.
use Rattle.std.proofs.Common.{◌≡◌, ℕ, true, false, cond, List, [], ◌∷◌, drop, refl, ap, sym, subst, ◌∙◌, eq-eqb}
use Rattle.std.specs.Prelude.{filter, slice_get, ◌==◌, if◌then◌else◌}
use Rattle.std.specs.List.{AllByRecursion as Each}
use Rattle.p2p_log.specs.declared.config.Config.{Config}
use Rattle.p2p_log.specs.declared.queue.Queue.{Queue}
use Rattle.p2p_log.specs.declared.queue.Queue.TheVariants as queue
use Rattle.p2p_log.specs.declared.queue.Side.{Side}
use Rattle.p2p_log.specs.declared.queue.Side.TheVariants as side
use Rattle.p2p_log.specs.declared.item.Envelope.{Envelope}
use Rattle.p2p_log.specs.declared.end.Cause.TheVariants as cause
use Rattle.p2p_log.specs.declared.entry.Ended.TheVariants as ended
use Rattle.p2p_log.specs.declared.entry.Entry.{Entry}
use Rattle.p2p_log.specs.QueueCode.{same_queue}
use Rattle.p2p_log.specs.Lines.{line, live, stands_in}
use Rattle.p2p_log.proofs.Names.{AreApart-live_from, filter_stays-first}
use Rattle.p2p_log.proofs.Queues.{same_queue-refl}
use Rattle.p2p_log_rules.specs.declared.row.Half.{Half}
use Rattle.p2p_log_rules.specs.Effect.{other_side}
use Rattle.p2p_log_rules.specs.Ending.{left_by}
use Rattle.p2p_log_rules.proofs.Moves.{one_taken, stands_first}
use Rattle.p2p_net_queues.specs.Board.{held}
use Rattle.p2p_net_router.specs.Names.{is_routers}
use Rattle.p2p_net_router.specs.Stands.{StandsOver}
use Rattle.p2p_net_router.specs.declared.router.Router.{Router}
use Rattle.p2p_net_router.proofs.Aside.{same_queue-other}
use Rattle.p2p_net_router.proofs.Over.{over_same}
use Rattle.p2p_net_links.specs.Stands.{LinksStand}
use Rattle.p2p_net_links.specs.declared.links.Links.{Links}
use Rattle.p2p_net_links.proofs.Ending.{links_dropped}
use Rattle.p2p_net_tracker.specs.Stands.{TrackerStands}
use Rattle.p2p_net_connecting.specs.Ending.{ending_for}
use Rattle.p2p_net_node.specs.Places as place
use Rattle.p2p_net_node.specs.Stands.{RouterStands, NodeStands}
use Rattle.p2p_net_node.specs.declared.node.Node.{Node}
use Rattle.p2p_net_connecting.proofs.EndRows.{took_row, taken_dropped-row}
use Rattle.p2p_net_connecting.proofs.HaveLeft.{HaveLeft}
use Rattle.p2p_log_rules.specs.Facts.{is_stopped}

-- the first of a queue was taken: its line is the rest, and each other line is as it was
pub left_first : (log : List Entry) (p q : Queue) (k : Envelope) (rest : List Envelope) → line log p ≡ k ∷ rest
    → filter (stands_in q) (left_by log (k ∷ [])) ≡ cond (same_queue p q) rest (line log q)
unfolding line
left_first log p q k rest first = filter_stays-first (live log) p q k rest (AreApart-live_from 0 log) first

-- none of what was taken of one queue stands in another
pub first_apart : (log : List Entry) (p q : Queue) (k : Envelope) (rest : List Envelope) → line log p ≡ k ∷ rest → same_queue q p ≡ false → Each (λ y. stands_in q y ≡ false) (k ∷ [])
first_apart log p q k rest first other = (ap (same_queue q) (one_taken log p k rest first) ∙ other, tt)

module _ (configs : List Config) (log : List Entry) (n conn : ℕ) (half : Half) (k : Envelope) (rest : List Envelope) (x w : Node) (l : Links)
    (s : NodeStands configs log n x) (lasts : is_stopped log n ≡ false) (t : LinksStand configs log l) (first : line log (queue.Control n conn) ≡ k ∷ rest)
    (told : (q : Queue) → held w.tracker.told q ≡ (if same_queue (queue.Control n conn) q then drop 1 (held x.tracker.told q) else held x.tracker.told q))
    (tracker : w.tracker ≡ record x.tracker { told = w.tracker.told }) (others : w ≡ record x { tracker = w.tracker }) where
  abbrev c : Queue
  c = queue.Control n conn

  tracks : TrackerStands configs log n x.tracker
  tracks = s.each place.tracker

  routes : RouterStands configs log n x.router
  routes = (s.each place.router).runs lasts

  same_router : w.router ≡ x.router
  same_router = ap (λ (z : Node). z.router) others

  line_off : (q : Queue) → same_queue c q ≡ false → filter (stands_in q) (left_by log (k ∷ [])) ≡ line log q
  line_off q other = left_first log c q k rest first ∙ ap (λ b. cond b rest (line log q)) other

  on_flight : (u : Side) → same_queue c (queue.Link half.link u) ≡ false
  on_flight side.Out = refl
  on_flight side.In = refl

  line_here : (q : Queue) → filter (stands_in q) (live log) ≡ line log q
  unfolding line
  line_here q = refl

  pub killed_left : HaveLeft configs log n conn half (k ∷ []) x w l l
  killed_left = record {
    stood = stands_first log c k rest first;
    apart = λ p differ. first_apart log c p k rest first differ.1.1.1.0;
    router = subst (λ (z : Router). StandsOver configs log z (left_by log (k ∷ []))) (sym same_router)
        (over_same configs log x.router (live log) (left_by log (k ∷ [])) routes.stands
        (λ q own. line_off q (same_queue-other n c q refl (subst (λ j. is_routers j q ≡ true) routes.number own)) ∙ sym (line_here q)));
    number = ap (λ (z : Router). z.number) same_router ∙ routes.number;
    peers = ap (λ (z : Router). z.peers) same_router;
    tracker = tracker;
    told = λ p other. told p ∙ ap (λ b. if b then drop 1 (held x.tracker.told p) else held x.tracker.told p) other;
    control =
        told c
        ∙ (ap (λ b. if b then drop 1 (held x.tracker.told c) else held x.tracker.told c) (same_queue-refl c)
        ∙ (ap (drop 1) (tracks.told c (same_owner n) ∙ first)
        ∙ sym (left_first log c c k rest first ∙ ap (λ b. cond b rest (line log c)) (same_queue-refl c))));
    connections = ap (λ (z : Node). z.connections) others;
    rest = subst (λ (z : Node). z ≡ record x { router = z.router; tracker = z.tracker }) (sym others) refl;
    holds = line_off (queue.Held n conn) refl;
    answers = line_off (queue.RouterAnswer n conn) refl;
    flight = t.waits (other_side half.writes) half.link ∙ sym (line_off (queue.Link half.link (other_side half.writes)) (on_flight (other_side half.writes)));
    linked = λ e drops. links_dropped configs log e l half.link half.writes t drops;
  }
    where
      same_owner : (j : ℕ) → (j == j) ≡ true
      same_owner j = eq-eqb j j refl

  -- and so the row that it begins with
  pub killed_row : ending_for ended.Killed cause.ConnectionEnded (slice_get (held x.tracker.told c) 0) ≡ took_row ended.Killed cause.ConnectionEnded (k ∷ [])
  killed_row =
      ap (λ ws. ending_for ended.Killed cause.ConnectionEnded (slice_get ws 0)) (tracks.told c (eq-eqb n n refl) ∙ first)
      ∙ taken_dropped-row ended.Killed cause.ConnectionEnded k
