-- A connection begins: its node's tracker and router are told whom it is with.
use Rattle.std.proofs.Common.{◌≡◌, ℕ, Bool, true, false, cond, List, [], ◌∷◌, ◌++◌, length, refl, ap, sym, subst, ◌∙◌, append-nil, Option, Some, None}
use Rattle.std.specs.Prelude.{◌&&◌, is_some}
use Rattle.std.specs.List.{list_any}
use Rattle.std.specs.BTreeMap as tree
use Rattle.std.specs.Ordering.{nat_cmp, is_eq}
use Rattle.p2p_log_rules.proofs.Bools.{and_false}
use Rattle.p2p_log.specs.declared.config.Config.{Config}
use Rattle.p2p_log.specs.declared.queue.Queue.{Queue}
use Rattle.p2p_log.specs.declared.queue.Queue.TheVariants as queue
use Rattle.p2p_log.specs.declared.queue.Side.{Side}
use Rattle.p2p_log.specs.declared.queue.Side.TheVariants as side
use Rattle.p2p_log.specs.declared.item.Item.TheVariants as item
use Rattle.p2p_log.specs.declared.item.Envelope.{Envelope}
use Rattle.p2p_log.specs.declared.entry.Entry.{Entry}
use Rattle.p2p_log.specs.declared.event.Event.{Event}
use Rattle.p2p_log.specs.declared.event.Act.TheVariants as act
use Rattle.p2p_log.specs.QueueCode.{same_queue}
use Rattle.p2p_log.specs.Lines.{line}
use Rattle.p2p_log.proofs.Queues.{same_queue-sym}
use Rattle.p2p_log_rules.specs.declared.row.Half.{Half}
use Rattle.p2p_log_rules.specs.declared.row.Row.{Row}
use Rattle.p2p_log_rules.specs.Connections.{begins_connection, live_connection, live_half, is_begun, is_answer, has_run, is_ended}
use Rattle.p2p_log_rules.specs.Effect.{row, effect, entry_of, begin_row, mailbox_size_at}
use Rattle.p2p_log_rules.specs.Facts.{is_up}
use Rattle.p2p_log_rules.proofs.Connections.{runs_is, HalfParts, half_parts, is_live, live_connection-kept, ends_none-reply}
use Rattle.p2p_log_rules.specs.Spawning.{connections_of}
use Rattle.p2p_log_rules.proofs.Spawning.{connections_of-unmade}
use Rattle.p2p_log_laws.specs.Leading.{ConnectionsAreOne}
use Rattle.p2p_net_queues.specs.Tables as table
use Rattle.p2p_net_queues.proofs.Going.{line-kept}
use Rattle.p2p_net_router.specs.Holds.{IsStranger}
use Rattle.p2p_net_router.specs.Stands.{IsReadied}
use Rattle.p2p_net_router.specs.declared.router.Router.{Router}
use Rattle.p2p_net_router.proofs.Aside.{same_queue-other}
use Rattle.p2p_net_connections.specs.Connections.{runs_on, begun_with}
use Rattle.p2p_net_connections.specs.Stands.{ConnectionsStand}
use Rattle.p2p_net_connections.specs.declared.connections.Stage.{Stage}
use Rattle.p2p_net_connections.proofs.Beginning.{connections_begun}
use Rattle.p2p_net_connections.proofs.Pings.{pings_by}
use Rattle.p2p_log_rules.proofs.Pinging.{PingsWhenDue}
use Rattle.p2p_net_links.specs.Stands.{LinksStand}
use Rattle.p2p_net_links.specs.declared.links.Links.{Links}
use Rattle.p2p_net_links.proofs.Changes.{openings_unmoved, links_frame}
use Rattle.p2p_net_tracker.specs.Stands.{TrackerStands}
use Rattle.p2p_net_tracker.proofs.ConnectSteps.{tracker_begun}
use Rattle.p2p_net_connecting.specs.Connecting.{Begins}
use Rattle.p2p_net_node.specs.Places as place
use Rattle.p2p_net_node.specs.Stands.{RouterStands, NodeStands}
use Rattle.p2p_net_node.specs.declared.node.Node.{Node}
use Rattle.p2p_net_node.proofs.EachPart.{with_parts, each_part, not_among-links}
use Rattle.p2p_net_node.proofs.Receivers.{receives_nothing}
use Rattle.p2p_net_node.proofs.Performing.{asked, Performs, taken-none}
use Rattle.p2p_net_node.proofs.Routers.{HearsOfBegun-told, IsStranger-unbegun}
use Rattle.p2p_net_connecting.proofs.RouterAnswers.{half_steps, step_begins, step_beside, step_drops, named_parts}
use Rattle.p2p_log_rules.proofs.Channels.{up_lasts}
use Rattle.p2p_net_node.proofs.Frames.{lives_on, lasts_after}

-- one that has not begun does not run
idle_stage : (o : Option Stage) → is_some o ≡ false → runs_on o ≡ false
idle_stage None h = refl
idle_stage (Some s) h = absurd (cc)

module _ (configs : List Config) (log : List Entry) (at seed conn n : ℕ) (half : Half) (x y : Node) (l links : Links) (r : Row) (s : NodeStands configs log n x) (t : LinksStand configs log l) (one : ConnectionsAreOne log)
    (up : is_up log n ≡ true) (has : live_half log n conn ≡ Some half) (idle : is_begun log n conn ≡ false) (d : Begins (length log) n conn half.peer x y r) (kept : links ≡ l) where
  abbrev ev : Event
  ev = asked at seed (act.SendStep conn n)

  abbrev due : Row
  due = begin_row n conn half.peer

  abbrev e : Entry
  e = entry_of ev due

  parts : HalfParts log n conn half
  parts = half_parts log n conn half (is_live log n conn half has).at

  alive : live_connection log n conn ≡ Some parts.connection
  alive = ap (λ b. cond b None (connections_of log n conn)) (is_live log n conn half has).lives ∙ parts.made

  key_is : parts.connection.key ≡ half.peer
  key_is = sym (ap (λ (h : Half). h.peer) parts.is)

  connects : ConnectionsStand configs log n x.connections
  connects = s.each place.connections

  routes : RouterStands configs log n x.router
  routes = (s.each place.router).runs (up_lasts log n up)

  not_running : has_run log n conn ≡ false
  not_running = sym (connects.running conn) ∙ idle_stage (table.at x.connections.stages conn) (connects.begun conn ∙ idle)

  row_is : row configs log at seed (act.SendStep conn n) ≡ due
  unfolding row
  row_is = half_steps configs log conn n at half false false up has idle not_running

  effect_is : e ≡ effect configs log ev
  unfolding effect
  effect_is = ap (entry_of ev) (sym row_is)

  off_tracker : (u : Side) (link : ℕ) → same_queue (queue.Link link u) (queue.Tracker n) ≡ false
  off_tracker side.Out link = refl
  off_tracker side.In link = refl

  off_router : (u : Side) (link : ℕ) → same_queue (queue.Link link u) (queue.Router n) ≡ false
  off_router side.Out link = refl
  off_router side.In link = refl

  -- of the queues it reaches the mailboxes of the tracker and of the router alone
  beside : (q : Queue) → same_queue q (queue.Tracker n) ≡ false → same_queue q (queue.Router n) ≡ false → line (log ++ e ∷ []) q ≡ line log q
  beside q tracker router =
      line-kept log e q refl ∙ (ap (λ w. line log q ++ w) (none (same_queue q (queue.Tracker n)) (same_queue q (queue.Router n)) tracker router) ∙ append-nil (line log q))
    where
      connect : Envelope
      connect = record { entry = length log; place = 0; queue = queue.Tracker n; item = item.Connect conn half.peer }

      ready : Envelope
      ready = record { entry = length log; place = 1; queue = queue.Router n; item = item.Ready conn half.peer }

      none : (b c : Bool) → b ≡ false → c ≡ false → cond b (connect ∷ cond c (ready ∷ []) []) (cond c (ready ∷ []) []) ≡ []
      none false false h k = refl
      none true c h k = absurd (cc)
      none false true h k = absurd (cc)

  connections_now : ConnectionsStand configs (log ++ e ∷ []) n (begun_with conn x.connections)
  connections_now =
      connections_begun configs log e n conn x.connections connects (λ c. subst (λ d. PingsWhenDue configs log d n c) (sym effect_is) (pings_by configs log n x.connections connects ev c)) (λ c. live_connection-kept log e n c (ends_none-reply log e n c refl refl) (connections_of-unmade log e n refl c)) not_running (λ c. step_begins log n conn c e refl refl)
      (λ c. runs_is log e n c ∙ (ap (λ items. begins_connection n c log e && list_any is_answer items) (taken-none log e refl) ∙ and_false (begins_connection n c log e))) (receives_nothing configs log e n (taken-none log e refl) (λ c. beside (queue.Held n c) refl refl)) (λ c. beside (queue.RouterAnswer n c) refl refl)

  size_is : x.config.mailbox_size ≡ mailbox_size_at configs x.router.number
  size_is = sym (ap (λ (o : Option Config). elim o [ None ↦ 0 | Some c ↦ c.mailbox_size ]) s.own.config) ∙ ap (mailbox_size_at configs) (sym routes.number)

  readied : IsReadied e n 1 conn half.peer
  readied = record {
    takes = refl;
    ends = refl;
    before = (queue.Tracker n, item.Connect conn half.peer) ∷ [];
    after = [];
    puts = refl;
    long = refl;
    away = λ q own. ((same_queue-sym q (queue.Tracker n) ∙ same_queue-other n (queue.Tracker n) q refl own, tt), tt);
  }

  router_now : RouterStands configs (log ++ e ∷ []) n y.router
  router_now =
      let calls = d.1.1 in
      record {
        number = ap (λ (z : Router). z.number) calls.rest ∙ routes.number;
        stands = calls.stands configs log e routes.stands refl size_is
            (ap (λ k. is_ended log k conn) routes.number ∙ (is_live log n conn half has).lives)
            (subst (IsStranger x.router conn) key_is (IsStranger-unbegun log n conn parts.connection x.router routes.hears one alive idle))
            (step_beside configs log e x.router.number conn n refl refl) (subst (λ k. IsReadied e k 1 conn half.peer) (sym routes.number) readied);
        hears = HearsOfBegun-told log e n conn parts.connection x.router.peers y.router.peers routes.hears (λ k. subst (λ p. tree.get nat_cmp y.router.peers k ≡ cond (is_eq (nat_cmp conn k)) (Some p) (tree.get nat_cmp x.router.peers k)) (sym key_is) (calls.peers k)) alive
            (λ c. step_begins log n conn c e refl refl) (λ c. ends_none-reply log e n c refl refl) (λ c. connections_of-unmade log e n refl c);
      }

  pub begin_performs : Performs configs log ev n y links r
  begin_performs = record {
    row_is = d.0 ∙ sym row_is;
    node =
        each_part configs log ev n x y named_parts s (subst (λ z. z ≡ with_parts named_parts x z) (sym d.1.0) refl)
        (λ p out. not_among-links named_parts p n out) refl refl (
          subst (λ (z : Entry). ConnectionsStand configs (log ++ z ∷ []) n y.connections) effect_is (subst (ConnectionsStand configs (log ++ e ∷ []) n) (sym (ap (λ (z : Node). z.connections) d.1.0)) connections_now),
          (
            lives_on configs (log ++ effect configs log ev ∷ []) n y.router (lasts_after configs log ev n (up_lasts log n up) refl)
                (subst (λ (z : Entry). RouterStands configs (log ++ z ∷ []) n y.router) effect_is router_now),
            (
              subst (λ (z : Entry). TrackerStands configs (log ++ z ∷ []) n y.tracker) effect_is
                  (subst (TrackerStands configs (log ++ e ∷ []) n) (sym (ap (λ (z : Node). z.tracker) d.1.0)) (tracker_begun configs log at seed n conn half.peer x.tracker (s.each place.tracker) (up_lasts log n up))),
              tt,
            ),
          ),
        );
    linked = subst (LinksStand configs (log ++ effect configs log ev ∷ [])) (sym kept)
        (subst (λ (z : Entry). LinksStand configs (log ++ z ∷ []) l) effect_is (links_frame configs log e l t (λ u link. beside (queue.Link link u) (off_tracker u link) (off_router u link)) (openings_unmoved log e refl) (step_drops log e n conn refl refl)));
  }
