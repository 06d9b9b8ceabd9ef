-- A connection that refuses the first frame in flight towards it ends, and so does one towards which none will come.
use Rattle.std.proofs.Common.{◌≡◌, ℕ, true, false, cond, List, [], ◌∷◌, drop, length, refl, ap, sym, subst, ◌∙◌, arith, eq-eqb, Some}
use Rattle.std.specs.Prelude.{filter, slice_get, ◌==◌}
use Rattle.std.specs.List.{AllByRecursion as Each}
use Rattle.std.specs.BTreeMap.{is_at}
use Rattle.std.specs.Ordering.{nat_cmp}
use Rattle.std.proofs.lemmas.Bool.Decides.{nat_tests}
use Rattle.p2p_log.specs.declared.config.Config.{Config}
use Rattle.p2p_log.specs.declared.queue.Queue.{Queue}
use Rattle.p2p_log.specs.declared.queue.Queue.TheVariants as queue
use Rattle.p2p_log.specs.declared.queue.Side.{Side}
use Rattle.p2p_log.specs.declared.queue.Side.TheVariants as side
use Rattle.p2p_log.specs.declared.item.Envelope.{Envelope}
use Rattle.p2p_log.specs.declared.end.Cause.{Cause}
use Rattle.p2p_log.specs.declared.end.Cause.TheVariants as cause
use Rattle.p2p_log.specs.declared.entry.Ended.{Ended}
use Rattle.p2p_log.specs.declared.entry.Ended.TheVariants as ended
use Rattle.p2p_log.specs.declared.entry.Entry.{Entry}
use Rattle.p2p_log.specs.declared.event.Act.TheVariants as act
use Rattle.p2p_log.specs.QueueCode.{same_queue}
use Rattle.p2p_log.specs.Lines.{line, live, stands_in}
use Rattle.p2p_log.proofs.Lines.{filter_stays-nil}
use Rattle.p2p_log.proofs.Queues.{same_queue-refl}
use Rattle.p2p_log_rules.specs.declared.row.Half.{Half}
use Rattle.p2p_log_rules.specs.declared.row.Row.{Row}
use Rattle.p2p_log_rules.specs.Connections.{live_half, is_begun, has_run}
use Rattle.p2p_log_rules.specs.Effect.{row, other_side}
use Rattle.p2p_log_rules.specs.Ending.{left_by, end_row}
use Rattle.p2p_log_rules.proofs.Moves.{stands_first}
use Rattle.p2p_log_laws.proofs.EndHeard.{names_ready}
use Rattle.p2p_net_queues.specs.Tables.{waiting, popped_at}
use Rattle.p2p_net_queues.proofs.Tables.{waiting-popped_at}
use Rattle.p2p_net_router.proofs.Over.{over_same}
use Rattle.p2p_net_links.specs.Links.{way_of, with_way}
use Rattle.p2p_net_links.specs.Stands.{LinksStand}
use Rattle.p2p_net_links.specs.declared.links.Links.{Links}
use Rattle.p2p_net_links.proofs.Ending.{links_dropped, links_refused}
use Rattle.p2p_net_tracker.specs.Stands.{TrackerStands}
use Rattle.p2p_net_connecting.specs.Ending.{ending_for, Ends, EndsUnread, EndsRefused}
use Rattle.p2p_net_node.specs.Places as place
use Rattle.p2p_net_connecting.specs.Receiving.{without_first}
use Rattle.p2p_net_node.specs.Stands.{RouterStands, NodeStands}
use Rattle.p2p_net_node.specs.declared.node.Node.{Node}
use Rattle.p2p_net_connecting.proofs.Beside.{beside_link, routers_beside}
use Rattle.p2p_net_connecting.proofs.EndRows.{took_row, taken_dropped-row}
use Rattle.p2p_net_connecting.proofs.EndSteps.{received_end_performs}
use Rattle.p2p_net_connecting.proofs.HaveLeft.{HaveLeft}
use Rattle.p2p_net_connecting.proofs.Killed.{left_first, first_apart}
use Rattle.p2p_net_node.proofs.Performing.{asked, Performs}
use Rattle.p2p_net_connecting.proofs.Taking.{link_held}
use Rattle.p2p_log_rules.specs.Facts.{is_stopped}

-- one direction of the links that was changed
way_changed : (l : Links) (u : Side) (w : List (ℕ × List Envelope)) → way_of (with_way l u w) u ≡ w
way_changed l side.Out w = refl
way_changed l side.In w = refl

link_control : (link n conn : ℕ) (u : Side) → same_queue (queue.Link link u) (queue.Control n conn) ≡ false
link_control link n conn side.Out = refl
link_control link n conn side.In = refl

link_ready : (link n conn : ℕ) (u : Side) → same_queue (queue.Link link u) (queue.RouterAnswer n conn) ≡ false
link_ready link n conn side.Out = refl
link_ready link n conn side.In = refl

same_owner : (n : ℕ) → (n == n) ≡ true
same_owner n = eq-eqb n n refl

same_place : (link : ℕ) → is_at (nat_cmp link) link ≡ true
same_place link = grind (arith, nat_tests)

-- ---- what is left

module _ (configs : List Config) (log : List Entry) (n conn : ℕ) (half : Half) (x : Node) (l : Links) (s : NodeStands configs log n x) (lasts : is_stopped log n ≡ false) (t : LinksStand configs log l) where
  abbrev u : Side
  u = other_side half.writes

  abbrev p : Queue
  p = queue.Link half.link u

  routes : RouterStands configs log n x.router
  routes = (s.each place.router).runs lasts

  tracks : TrackerStands configs log n x.tracker
  tracks = s.each place.tracker

  line_here : (q : Queue) → filter (stands_in q) (live log) ≡ line log q
  unfolding line
  line_here q = refl

  -- nothing was taken
  left_all : (q : Queue) → filter (stands_in q) (left_by log []) ≡ line log q
  left_all q = ap (filter (stands_in q)) (filter_stays-nil (live log)) ∙ line_here q

  nothing_taken : HaveLeft configs log n conn half [] x x l l
  nothing_taken = record {
    stood = tt;
    apart = λ q differ. tt;
    router = over_same configs log x.router (live log) (left_by log []) routes.stands (λ q own. left_all q ∙ sym (line_here q));
    number = routes.number;
    peers = refl;
    tracker = refl;
    told = λ q other. refl;
    control = tracks.told (queue.Control n conn) (same_owner n) ∙ sym (left_all (queue.Control n conn));
    connections = refl;
    rest = refl;
    holds = left_all (queue.Held n conn);
    answers = left_all (queue.RouterAnswer n conn);
    flight = t.waits u half.link ∙ sym (left_all p);
    linked = λ e drops. links_dropped configs log e l half.link half.writes t drops;
  }

  -- the first frame was taken
  module _ (f : Envelope) (fs : List Envelope) (first : line log p ≡ f ∷ fs) where
    left_apart : (q : Queue) → same_queue p q ≡ false → filter (stands_in q) (left_by log (f ∷ [])) ≡ line log q
    left_apart q other = left_first log p q f fs first ∙ ap (λ b. cond b fs (line log q)) other

    left_here : filter (stands_in p) (left_by log (f ∷ [])) ≡ fs
    left_here = left_first log p p f fs first ∙ ap (λ b. cond b fs (line log p)) (same_queue-refl p)

    without_it : waiting (way_of (without_first l half.link u) u) half.link ≡ fs
    without_it =
        ap (λ w. waiting w half.link) (way_changed l u (popped_at (way_of l u) half.link))
        ∙ (waiting-popped_at half.link half.link (way_of l u)
        ∙ (ap (λ b. cond b (drop 1 (waiting (way_of l u) half.link)) (waiting (way_of l u) half.link)) (same_place half.link) ∙ ap (drop 1) (t.waits u half.link ∙ first)))

    first_taken : HaveLeft configs log n conn half (f ∷ []) x x l (without_first l half.link u)
    first_taken = record {
      stood = stands_first log p f fs first;
      apart = λ q differ. first_apart log p q f fs first differ.1.1.1.1.1.0;
      router = over_same configs log x.router (live log) (left_by log (f ∷ [])) routes.stands
          (λ q own. left_apart q (beside_link half.link u q (routers_beside x.router.number q own)) ∙ sym (line_here q));
      number = routes.number;
      peers = refl;
      tracker = refl;
      told = λ q other. refl;
      control = tracks.told (queue.Control n conn) (same_owner n) ∙ sym (left_apart (queue.Control n conn) (link_control half.link n conn u));
      connections = refl;
      rest = refl;
      holds = left_apart (queue.Held n conn) (link_held half.link n conn u);
      answers = left_apart (queue.RouterAnswer n conn) (link_ready half.link n conn u);
      flight = without_it ∙ sym left_here;
      linked = λ e drops. links_refused configs log e l half.link half.writes t drops;
    }

-- ---- the end

module _ (configs : List Config) (log : List Entry) (at seed conn n : ℕ) (half : Half) (x y : Node) (l links : Links) (r : Row) (s : NodeStands configs log n x) (lasts : is_stopped log n ≡ false) (t : LinksStand configs log l)
    (has : live_half log n conn ≡ Some half) (begun : is_begun log n conn ≡ true) (running : has_run log n conn ≡ true)
    (heard : Each (λ z. names_ready conn z.item ≡ false) (line log (queue.Router n))) where
  -- none will come
  pub unread_performs : row configs log at seed (act.RecvStep conn n) ≡ end_row log n conn half ended.ReceiveFailed cause.ConnectionEnded []
      → EndsUnread (length log) n conn half x y l links r → Performs configs log (asked at seed (act.RecvStep conn n)) n y links r
  unread_performs is d =
      received_end_performs configs log at seed n conn half ended.ReceiveFailed cause.ConnectionEnded [] x x y l l links r s lasts has begun running heard is (nothing_taken configs log n conn half x l s lasts t) d

  -- the first is refused
  pub refused_performs : (f : Envelope) (fs : List Envelope) → line log (queue.Link half.link (other_side half.writes)) ≡ f ∷ fs → (why : Ended) (c : Cause)
      → row configs log at seed (act.RecvStep conn n) ≡ end_row log n conn half why c (f ∷ []) → EndsRefused (length log) n conn half why c x y l links r
      → Performs configs log (asked at seed (act.RecvStep conn n)) n y links r
  refused_performs f fs first why c is d =
      let m = without_first l half.link (other_side half.writes) in
      received_end_performs configs log at seed n conn half why c (f ∷ []) x x y l m links r s lasts has begun running heard is (first_taken configs log n conn half x l s lasts t f fs first)
      (subst (λ (o : Row). Ends (length log) n conn half x y m links o r) begins_with d)
    where
      begins_with : ending_for why c (slice_get (waiting (way_of l (other_side half.writes)) half.link) 0) ≡ took_row why c (f ∷ [])
      begins_with = ap (λ ws. ending_for why c (slice_get ws 0)) (t.waits (other_side half.writes) half.link ∙ first) ∙ taken_dropped-row why c f
