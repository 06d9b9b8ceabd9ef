-- A connection ends that has something to write to a link whose other end was dropped: its batch was taken.
use Rattle.std.proofs.Common.{◌≡◌, ℕ, false, List, [], ◌∷◌, ◌++◌, take, refl, ap, sym, subst, ◌∙◌, append-nil, eq-eqb}
use Rattle.std.specs.Prelude.{filter}
use Rattle.std.specs.List.{AllByRecursion as Each}
use Rattle.p2p_log.specs.declared.config.Config.{Config}
use Rattle.p2p_log.specs.declared.queue.Queue.{Queue}
use Rattle.p2p_log.specs.declared.queue.Queue.TheVariants as queue
use Rattle.p2p_log.specs.declared.queue.Side.{Side}
use Rattle.p2p_log.specs.declared.queue.Side.TheVariants as side
use Rattle.p2p_log.specs.declared.item.Item.{Item}
use Rattle.p2p_log.specs.declared.item.Envelope.{Envelope}
use Rattle.p2p_log.specs.declared.entry.Entry.{Entry}
use Rattle.p2p_log.specs.QueueCode.{same_queue}
use Rattle.p2p_log.specs.Lines.{line, live, stands_in}
use Rattle.p2p_log.specs.Taken.{AreTaken}
use Rattle.p2p_log.proofs.Each.{Each-append, Each-take, Each-weaker}
use Rattle.p2p_log.proofs.Names.{AreApart-live_from}
use Rattle.p2p_log.proofs.QueueNames.{Each-in_queue}
use Rattle.p2p_log_rules.specs.declared.row.Half.{Half}
use Rattle.p2p_log_rules.specs.Effect.{other_side}
use Rattle.p2p_log_rules.specs.Ending.{left_by}
use Rattle.p2p_log_rules.proofs.Moves.{batch_stood}
use Rattle.p2p_net_queues.specs.Board.{held}
use Rattle.p2p_net_router.specs.Batches.{batch_of}
use Rattle.p2p_net_router.specs.Stands.{StandsOver}
use Rattle.p2p_net_router.proofs.Batches.{batch_beside}
use Rattle.p2p_net_links.specs.Stands.{LinksStand}
use Rattle.p2p_net_links.specs.declared.links.Links.{Links}
use Rattle.p2p_net_links.proofs.Ending.{links_dropped}
use Rattle.p2p_net_tracker.specs.Stands.{TrackerStands}
use Rattle.p2p_net_tracker.specs.declared.tracker.Tracker.{Tracker}
use Rattle.p2p_net_node.specs.Places as place
use Rattle.p2p_net_node.specs.Routing as routing
use Rattle.p2p_net_node.specs.Stands.{RouterStands, NodeStands}
use Rattle.p2p_net_node.specs.declared.node.Node.{Node}
use Rattle.p2p_net_connecting.proofs.HaveLeft.{HaveLeft}
use Rattle.p2p_log_rules.specs.Facts.{is_stopped}

-- a batch is the front of what stands in its two lanes
batch_taken : (log : List Entry) (n conn most : ℕ) → AreTaken (live log) (batch_of n conn most (live log))
batch_taken log n conn most =
    let high = filter (stands_in (queue.High n conn)) (live log) in
    subst (λ v. AreTaken (live log) (take most (high ++ v))) (append-nil (filter (stands_in (queue.Low n conn)) (live log)))
    (batch_stood log (queue.High n conn ∷ queue.Low n conn ∷ []) most ((refl, tt), (tt, tt)))

-- and none of it stands elsewhere
batch_apart : (log : List Entry) (n conn most : ℕ) (p : Queue) → same_queue p (queue.High n conn) ≡ false → same_queue p (queue.Low n conn) ≡ false
    → Each (λ y. stands_in p y ≡ false) (batch_of n conn most (live log))
batch_apart log n conn most p high low =
    let off : (q : Queue) → same_queue p q ≡ false → Each (λ y. stands_in p y ≡ false) (filter (stands_in q) (live log)) =
    λ q other. Each-weaker (λ (y : Envelope). y.queue ≡ q) (λ y. stands_in p y ≡ false) (λ y is. ap (same_queue p) is ∙ other) (filter (stands_in q) (live log)) (Each-in_queue q (live log))
    in
    Each-take (λ (y : Envelope). stands_in p y ≡ false) most (filter (stands_in (queue.High n conn)) (live log) ++ filter (stands_in (queue.Low n conn)) (live log))
    (Each-append (λ (y : Envelope). stands_in p y ≡ false) (filter (stands_in (queue.High n conn)) (live log)) (filter (stands_in (queue.Low n conn)) (live log)) (off (queue.High n conn) high) (off (queue.Low n conn) low))

module _ (configs : List Config) (log : List Entry) (n conn most : ℕ) (half : Half) (x w : Node) (l : Links) (frames : List ((ℕ × ℕ) × Item))
    (s : NodeStands configs log n x) (lasts : is_stopped log n ≡ false) (t : LinksStand configs log l) (batches : routing.Batches conn most x.router w.router frames) (others : w ≡ record x { router = w.router }) where
  abbrev batch : List Envelope
  batch = batch_of n conn most (live log)

  tracks : TrackerStands configs log n x.tracker
  tracks = s.each place.tracker

  routes : RouterStands configs log n x.router
  routes = (s.each place.router).runs lasts

  line_off : (q : Queue) → same_queue (queue.High n conn) q ≡ false → same_queue (queue.Low n conn) q ≡ false → filter (stands_in q) (left_by log batch) ≡ line log q
  unfolding line
  line_off q high low = batch_beside n conn most (live log) q (AreApart-live_from 0 log) high low

  high_flight : (u : Side) → same_queue (queue.High n conn) (queue.Link half.link u) ≡ false
  high_flight side.Out = refl
  high_flight side.In = refl

  low_flight : (u : Side) → same_queue (queue.Low n conn) (queue.Link half.link u) ≡ false
  low_flight side.Out = refl
  low_flight side.In = refl

  same_tracker : w.tracker ≡ x.tracker
  same_tracker = ap (λ (z : Node). z.tracker) others

  pub batch_left : HaveLeft configs log n conn half batch x w l l
  batch_left = record {
    stood = batch_taken log n conn most;
    apart = λ p differ. batch_apart log n conn most p differ.0 differ.1.0;
    router = subst (λ j. StandsOver configs log w.router (left_by log (batch_of j conn most (live log)))) routes.number (batches.over configs log (live log) routes.stands (AreApart-live_from 0 log));
    number = batches.kept.number ∙ routes.number;
    peers = batches.kept.peers;
    tracker = subst (λ (z : Tracker). z ≡ record x.tracker { told = z.told }) (sym same_tracker) refl;
    told = λ p other. ap (λ (z : Tracker). held z.told p) same_tracker;
    control =
        ap (λ (z : Tracker). held z.told (queue.Control n conn)) same_tracker
        ∙ (tracks.told (queue.Control n conn) (eq-eqb n n refl) ∙ sym (line_off (queue.Control n conn) refl refl));
    connections = ap (λ (z : Node). z.connections) others;
    rest = subst (λ (z : Node). z ≡ record x { router = z.router; tracker = z.tracker }) (sym others) refl;
    holds = line_off (queue.Held n conn) refl refl;
    answers = line_off (queue.RouterAnswer n conn) refl refl;
    flight = t.waits (other_side half.writes) half.link ∙ sym (line_off (queue.Link half.link (other_side half.writes)) (high_flight (other_side half.writes)) (low_flight (other_side half.writes)));
    linked = λ e drops. links_dropped configs log e l half.link half.writes t drops;
  }
