-- The router of a node once a connection of the node has ended, of which the router is told: it stands for the log with that entry.
use Rattle.std.proofs.Common.{◌≡◌, ℕ, Bool, true, false, List, [], ◌∷◌, ◌++◌, length, refl, ap, sym, subst, ◌∙◌, append-nil, Some, None}
use Rattle.std.specs.Prelude.{map, filter, ◌||◌, if◌then◌else◌}
use Rattle.std.specs.List.{AllByRecursion as Each, list_any}
use Rattle.std.specs.BTreeMap as tree
use Rattle.std.specs.Ordering.{nat_cmp, is_eq}
use Rattle.p2p_log.specs.declared.config.Config.{Config}
use Rattle.p2p_log.specs.declared.queue.Queue.{Queue}
use Rattle.p2p_log.specs.declared.queue.Queue.TheVariants as queue
use Rattle.p2p_log.specs.declared.item.Item.{Item}
use Rattle.p2p_log.specs.declared.item.Item.TheVariants as item
use Rattle.p2p_log.specs.declared.item.Envelope.{Envelope}
use Rattle.p2p_log.specs.declared.end.Cause.{Cause}
use Rattle.p2p_log.specs.declared.entry.Ended.{Ended}
use Rattle.p2p_log.specs.declared.entry.Entry.{Entry}
use Rattle.p2p_log.specs.QueueCode.{same_queue}
use Rattle.p2p_log.specs.Apart.{AreApart}
use Rattle.p2p_log.specs.Drained.{drained}
use Rattle.p2p_log.specs.Lines.{line, live, name_of, stays, stands_in, goes}
use Rattle.p2p_log.specs.Taken.{AreTaken}
use Rattle.p2p_log.proofs.Filters.{filter-none}
use Rattle.p2p_log.proofs.Names.{AreApart-live_from}
use Rattle.p2p_log.proofs.Queues.{same_queue-sym}
use Rattle.p2p_log.proofs.QueueNames.{queue_from_same}
use Rattle.p2p_log.proofs.Taken.{filter-taken, drained_taken, Each-drained, drained_lines}
use Rattle.p2p_log.proofs.Each.{Each-weaker}
use Rattle.p2p_log_rules.specs.declared.row.Half.{Half}
use Rattle.p2p_log_rules.specs.declared.row.Row.{Row}
use Rattle.p2p_log_rules.specs.Connections.{live_connection}
use Rattle.p2p_log_laws.proofs.Emptying.{drained_none}
use Rattle.p2p_log_laws.proofs.EndHeard.{names_ready}
use Rattle.p2p_net_router.specs.Batches.{all_of}
use Rattle.p2p_net_router.specs.Ends.{IsIdle, readies, tells_ready}
use Rattle.p2p_net_router.specs.Names.{is_routers}
use Rattle.p2p_net_router.specs.Stands.{StandsOver, IsEnding}
use Rattle.p2p_net_router.specs.declared.router.Router.{Router}
use Rattle.p2p_net_router.proofs.Aside.{same_queue-other}
use Rattle.p2p_net_router.proofs.AtEnd.{over_end}
use Rattle.p2p_net_router.proofs.Unrouted.{unrouted_apart}
use Rattle.p2p_net_links.specs.declared.links.Links.{Links}
use Rattle.p2p_net_node.specs.Stands.{RouterStands, key_heard, RouterLives}
use Rattle.p2p_net_node.specs.declared.node.Node.{Node}
use Rattle.p2p_net_connecting.proofs.EndLines.{kept_is}
use Rattle.p2p_net_connecting.proofs.Leaving.{Leaving, qs, flight, left, apart, routes, leads, without_number, without_peers, without_over, emptied_puts}
use Rattle.p2p_net_connecting.proofs.LeavingEntry.{half_act, no_router, no_channel, no_turn, entry, ends_only, begins_none, makes_none, no_stop}
use Rattle.p2p_net_connecting.proofs.LeavingLines.{none_of, off_flight, left_none}
use Rattle.p2p_net_node.proofs.Performing.{asked}
use Rattle.p2p_net_node.proofs.Routers.{HearsOfBegun-ended}
use Rattle.p2p_log_rules.proofs.Channels.{is_stopped-kept}
use Rattle.p2p_net_node.proofs.Frames.{lives_on}

-- what was taken of these leaves other queues alone
filter_others : (items zs : List Envelope) (q : Queue) → AreApart items → AreTaken items zs → Each (λ y. stands_in q y ≡ false) zs
    → filter (stands_in q) (filter (stays (map name_of zs)) items) ≡ filter (stands_in q) items
filter_others items zs q apart stood none =
    sym (filter-taken q items zs apart stood ∙ ap (λ l. l ++ filter (stands_in q) (filter (stays (map name_of zs)) items)) (filter-none (stands_in q) zs none))

-- nothing in a line tells of this connection, as its router says it
heard_by : (conn : ℕ) (xs : List Envelope) → Each (λ z. names_ready conn z.item ≡ false) xs → list_any (tells_ready conn) xs ≡ false
heard_by conn [] h = refl
heard_by conn (z ∷ xs) h = ap (λ b. b || list_any (tells_ready conn) xs) (same z.item ∙ h.0) ∙ heard_by conn xs h.1
  where
    same : (i : Item) → readies conn i ≡ names_ready conn i
    same (item.Ready k key) = refl
    same _ = refl

module _ {configs : List Config} {log : List Entry} {n conn : ℕ} {half : Half} {why : Ended} {c : Cause} {taken : List Envelope} {x w y : Node} {l m links : Links} {r : Row}
    (t : Leaving configs log n conn half why c taken x w y l m links r) where
  low_number : t.kept.left.router.number ≡ n
  low_number = t.kept.drops.router.kept.number ∙ without_number t

  low_peers : t.kept.left.router.peers ≡ x.router.peers
  low_peers = t.kept.drops.router.kept.peers ∙ without_peers t

  now_number : y.router.number ≡ n
  now_number = ap (λ (z : Router). z.number) t.kept.frees.router.rest ∙ low_number

  -- ---- what is left once all that it has yet to write was taken

  abbrev lanes : List Queue
  lanes = queue.High n conn ∷ queue.Low n conn ∷ []

  all_is : all_of n conn (left t) ≡ drained (left t) lanes
  all_is =
      ap (λ v. filter (stands_in (queue.High n conn)) (left t) ++ v) (sym (append-nil (filter (stands_in (queue.Low n conn)) (left t))))
      ∙ sym (drained_lines (left t) lanes (apart t) ((refl, tt), (tt, tt)))

  abbrev rest : List Envelope
  rest = filter (stays (map name_of (all_of n conn (left t)))) (left t)

  rest_is : filter (stays (map name_of (drained (left t) lanes))) (left t) ≡ rest
  rest_is = ap (λ v. filter (stays (map name_of v)) (left t)) (sym all_is)

  -- the lines of its lanes are empty then
  lanes_none : Each (λ p. filter (stands_in p) rest ≡ []) lanes
  lanes_none = subst (λ v. Each (λ p. filter (stands_in p) v ≡ []) lanes) rest_is (drained_none (left t) lanes)

  -- and the others are as they were
  lane_apart : (p : Queue) → same_queue p (queue.High n conn) ≡ false → same_queue p (queue.Low n conn) ≡ false → filter (stands_in p) rest ≡ filter (stands_in p) (left t)
  lane_apart p high low =
      ap (filter (stands_in p)) (sym rest_is)
      ∙ filter_others (left t) (drained (left t) lanes) p (apart t) (drained_taken (left t) lanes (apart t))
      (Each-drained (λ (z : Envelope). stands_in p z ≡ false) (left t) lanes
      (Each-weaker (λ (q : Queue). same_queue p q ≡ false) (λ q. (z : Envelope) → z.queue ≡ q → stands_in p z ≡ false) (λ q h z is. ap (same_queue p) is ∙ h) lanes (high, (low, tt))))

  taken_apart : (p : Queue) → Each (λ q. same_queue p q ≡ false) (qs t) → filter (stands_in p) (left t) ≡ line log p
  unfolding line
  taken_apart p differ = filter_others (live log) taken p (AreApart-live_from 0 log) t.gone.stood (t.gone.apart p differ)

  -- ---- of it the router knows nothing more

  known : tree.get nat_cmp t.kept.left.router.peers conn ≡ Some half.peer
  known =
      ap (λ ps. tree.get nat_cmp ps conn) low_peers
      ∙ ((routes t).hears conn ∙ (ap (λ b. key_heard b (live_connection log n conn)) t.begun ∙ leads t))

  unready : list_any (tells_ready conn) (filter (stands_in (queue.Router n)) rest) ≡ false
  unready =
      let differ = none_of t (queue.Router n) refl refl refl refl refl (off_flight t (queue.Router n) refl refl) in
      ap (list_any (tells_ready conn)) (lane_apart (queue.Router n) refl refl ∙ taken_apart (queue.Router n) differ) ∙ heard_by conn (line log (queue.Router n)) t.heard

  idle : IsIdle t.kept.left.router rest conn half.peer
  idle = record {
    known = known;
    high = ap (λ k. filter (stands_in (queue.High k conn)) rest) low_number ∙ lanes_none.0;
    low = ap (λ k. filter (stands_in (queue.Low k conn)) rest) low_number ∙ lanes_none.1.0;
    routed = ap (λ k. list_any (tells_ready conn) (filter (stands_in (queue.Router k)) rest)) low_number ∙ unready;
  }

  over_rest : StandsOver configs log t.kept.left.router rest
  over_rest =
      subst (λ k. StandsOver configs log t.kept.left.router (filter (stays (map name_of (all_of k conn (left t)))) (left t))) (without_number t)
      (t.kept.drops.router.over configs log (left t) (without_over t) (apart t))

  -- ---- what is left once all that ends with it has ended

  abbrev after : List Envelope
  after = filter (stays (map name_of (drained (left t) (qs t)))) (left t)

  -- of the router's queues it is what was left before
  after_same : (q : Queue) → is_routers n q ≡ true → filter (stands_in q) after ≡ filter (stands_in q) rest
  after_same q own = by (same_queue (queue.High n conn) q) (same_queue (queue.Low n conn) q) refl refl
    where
      by : (b k : Bool) → same_queue (queue.High n conn) q ≡ b → same_queue (queue.Low n conn) q ≡ k → filter (stands_in q) after ≡ filter (stands_in q) rest
      by true k high low = subst (λ p. filter (stands_in p) after ≡ filter (stands_in p) rest) (sym (queue_from_same (queue.High n conn) q high)) ((left_none t).0 ∙ sym lanes_none.0)
      by false true high low = subst (λ p. filter (stands_in p) after ≡ filter (stands_in p) rest) (sym (queue_from_same (queue.Low n conn) q low)) ((left_none t).1.0 ∙ sym lanes_none.1.0)
      by false false high low =
          let differ : Each (λ p. same_queue q p ≡ false) (qs t) =
          none_of t q
          (same_queue-sym q (queue.High n conn) ∙ high) (same_queue-sym q (queue.Low n conn) ∙ low)
          (same_queue-sym q (queue.Held n conn) ∙ same_queue-other n (queue.Held n conn) q refl own)
          (same_queue-sym q (queue.Control n conn) ∙ same_queue-other n (queue.Control n conn) q refl own)
          (same_queue-sym q (queue.RouterAnswer n conn) ∙ same_queue-other n (queue.RouterAnswer n conn) q refl own)
          (same_queue-sym q (flight t) ∙ same_queue-other n (flight t) q refl own)
          in
          filter_others (left t) (drained (left t) (qs t)) q (apart t) (drained_taken (left t) (qs t) (apart t))
          (Each-drained (λ (z : Envelope). stands_in q z ≡ false) (left t) (qs t)
          (Each-weaker (λ (p : Queue). same_queue q p ≡ false) (λ p. (z : Envelope) → z.queue ≡ p → stands_in q z ≡ false) (λ p h z is. ap (same_queue q) is ∙ h) (qs t) differ))
          ∙ sym (lane_apart q differ.0 differ.1.0)

  -- ---- with the entry, of which this is what the router is told

  abbrev told_as : ℕ → ℕ → Envelope
  told_as place number = record { entry = length log; place = place; queue = queue.Router number; item = item.Release half.peer }

  module _ (at seed : ℕ) (sends : Bool) where
    abbrev e : Entry
    e = entry t at seed sends

    ending : (k : ℕ) → k ≡ n → IsEnding configs log e k conn half.peer
    ending k same = subst (λ j. IsEnding configs log e j conn half.peer) (sym same) (record {
      no_step = unrouted_apart log e n (no_router conn n sends);
      no_channel = no_channel conn n configs sends n;
      no_turn = no_turn conn n sends n;
      ends = ends_only t at seed sends;
      rest = (queue.Tracker n, item.Release half.peer) ∷ [];
      puts = refl;
      away = λ q own. (same_queue-sym q (queue.Tracker n) ∙ same_queue-other n (queue.Tracker n) q refl own, tt);
    })

    over_now : StandsOver configs (log ++ e ∷ []) y.router (rest ++ told_as 0 y.router.number ∷ [])
    over_now =
        subst (λ k. StandsOver configs (log ++ e ∷ []) y.router (rest ++ told_as 0 k ∷ [])) (low_number ∙ sym now_number)
        (subst (λ (ps : List (Queue × Item)). StandsOver configs (log ++ e ∷ []) y.router (rest ++ told_as (length ps) t.kept.left.router.number ∷ [])) (emptied_puts t)
        (t.kept.frees.router.over configs log e rest over_rest idle (ending t.kept.left.router.number low_number)))

    left_same : (q : Queue) → is_routers n q ≡ true → filter (stands_in q) (filter (stays (goes e)) (live log)) ≡ filter (stands_in q) rest
    left_same q own = ap (filter (stands_in q)) (sym (kept_is log (asked at seed (half_act sends conn n)) n conn half why c taken t.gone.stood)) ∙ after_same q own

    router_now : RouterStands configs (log ++ e ∷ []) n y.router
    router_now = record {
      number = now_number;
      stands = over_end configs log e y.router conn half.peer rest over_now (ending y.router.number now_number) (λ q own. left_same q (subst (λ k. is_routers k q ≡ true) now_number own));
      hears = HearsOfBegun-ended log e n conn x.router.peers y.router.peers (routes t).hears
          (λ k. t.kept.frees.router.peers k ∙ ap (λ ps. if is_eq (nat_cmp conn k) then None else tree.get nat_cmp ps k) low_peers)
          (ends_only t at seed sends) (begins_none t at seed sends) (makes_none t at seed sends);
    }

    pub lives_now : RouterLives configs (log ++ e ∷ []) n y.router
    lives_now = lives_on configs (log ++ e ∷ []) n y.router (is_stopped-kept log e n (no_stop conn n sends) ∙ t.lasts) router_now
