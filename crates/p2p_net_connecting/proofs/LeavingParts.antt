-- The connections, the tracker and the channels of a node, and the links, once a connection of the node has ended: they stand for the log
-- with that entry.
use Rattle.std.proofs.Common.{◌≡◌, ℕ, Bool, true, false, cond, List, [], ◌∷◌, ◌++◌, length, refl, ap, sym, subst, ◌∙◌, arith, None}
use Rattle.std.specs.Prelude.{◌==◌, ◌&&◌, if◌then◌else◌}
use Rattle.std.specs.List.{AllByRecursion as Each}
use Rattle.std.specs.BTreeMap.{is_at}
use Rattle.std.specs.Ordering.{nat_cmp}
use Rattle.std.proofs.lemmas.Bool.Decides.{nat_tests}
use Rattle.p2p_tracker_directory.specs.Reserved.{peer_of}
use Rattle.p2p_log.specs.declared.config.Config.{Config}
use Rattle.p2p_log.specs.declared.queue.Queue.{Queue}
use Rattle.p2p_log.specs.declared.queue.Queue.TheVariants as queue
use Rattle.p2p_log.specs.declared.item.Item.{Item}
use Rattle.p2p_log.specs.declared.item.Item.TheVariants as item
use Rattle.p2p_log.specs.declared.item.Envelope.{Envelope}
use Rattle.p2p_log.specs.declared.end.Cause.{Cause}
use Rattle.p2p_log.specs.declared.entry.Ended.{Ended}
use Rattle.p2p_log.specs.declared.entry.Entry.{Entry}
use Rattle.p2p_log.specs.QueueCode.{same_queue}
use Rattle.p2p_log.specs.Lines.{line}
use Rattle.p2p_log.proofs.Queues.{same_queue-sym}
use Rattle.p2p_log_rules.specs.declared.row.Half.{Half}
use Rattle.p2p_log_rules.specs.declared.row.Row.{Row}
use Rattle.p2p_log_rules.proofs.Touches.{away}
use Rattle.p2p_log_rules.proofs.Handshakes.{handshakes_of-apart}
use Rattle.p2p_net_queues.specs.Board.{held}
use Rattle.p2p_net_queues.specs.Lines.{HoldsLines}
use Rattle.p2p_net_queues.specs.Tables as table
use Rattle.p2p_net_queues.specs.Tables.{AreBut, waiting, cleared_at}
use Rattle.p2p_net_queues.proofs.Tables.{waiting-cleared_at}
use Rattle.p2p_net_channels.specs.Stands.{ChannelsStand}
use Rattle.p2p_net_channels.proofs.Changes.{channels_frame}
use Rattle.p2p_net_connections.specs.Stands.{ConnectionsStand}
use Rattle.p2p_net_connections.specs.declared.connections.Connections.{Connections}
use Rattle.p2p_net_connections.proofs.Ended.{connections_ended}
use Rattle.p2p_net_links.specs.Stands.{LinksStand}
use Rattle.p2p_net_links.specs.declared.links.Links.{Links}
use Rattle.p2p_net_links.proofs.Ending.{DropsEnd}
use Rattle.p2p_net_tracker.specs.Ending.{released_by, told_release}
use Rattle.p2p_net_tracker.specs.GivenBack.{IsOfSide}
use Rattle.p2p_net_tracker.specs.Stands.{is_told, TrackerStands}
use Rattle.p2p_net_tracker.specs.declared.tracker.Tracker.{Tracker}
use Rattle.p2p_net_tracker.proofs.EndSteps.{release_put, release_quiet, only_told, calls_rest, calls_lines, tracker_ended}
use Rattle.p2p_net_node.specs.Places as place
use Rattle.p2p_net_node.specs.declared.node.Node.{Node}
use Rattle.p2p_net_connecting.proofs.Leaving.{Leaving, qs, flight, connects, peer_is, side_is, without_tracker, emptied_puts}
use Rattle.p2p_net_connecting.proofs.LeavingEntry.{half_act, no_channel, no_tracker, no_question, no_answer, no_listener, no_send, no_close, no_stop, entry, ends_only, frees_side, ends_one, drops_end}
use Rattle.p2p_net_connecting.proofs.LeavingLines.{link_off, none_of, off_flight, put_none, stays_with, unmoved, held_gone, control_gone, ready_gone, flight_gone}
use Rattle.p2p_net_node.proofs.Receivers.{sends_apart, closes_apart, admits_ended}

module _ {configs : List Config} {log : List Entry} {n conn : ℕ} {half : Half} {why : Ended} {c : Cause} {taken : List Envelope} {x w y : Node} {l m links : Links} {r : Row}
    (t : Leaving configs log n conn half why c taken x w y l m links r) where
  -- ---- what the end made of them

  conns_are : y.connections ≡ record x.connections { spawned = t.kept.without.connections.spawned; answers = cleared_at x.connections.answers conn; held = cleared_at x.connections.held conn }
  conns_are =
      ap (λ (z : Node). z.connections) t.kept.frees.rest
      ∙ (t.kept.drops.connections
      ∙ (ap (λ (z : Node). record z.connections { answers = cleared_at z.connections.answers conn; held = cleared_at z.connections.held conn }) t.kept.kept
      ∙ ap (λ (cs : Connections). record cs { spawned = t.kept.without.connections.spawned; answers = cleared_at cs.answers conn; held = cleared_at cs.held conn }) t.gone.connections))

  one_less : AreBut conn None x.connections.spawned y.connections.spawned
  one_less k =
      ap (λ (cs : Connections). table.at cs.spawned k) conns_are
      ∙ (t.kept.others k ∙ ap (λ (cs : Connections). cond (k == conn) None (table.at cs.spawned k)) t.gone.connections)

  -- the tracker, before the reservation is given back
  low_is : t.kept.left.tracker ≡ record x.tracker { told = t.kept.left.tracker.told }
  low_is =
      only_told x.tracker w.tracker t.kept.left.tracker t.gone.tracker
      (t.kept.drops.tracker ∙ ap (λ (z : Tracker). record z { told = t.kept.left.tracker.told }) (without_tracker t))

  low_lines : (p : Queue) → held t.kept.left.tracker.told p ≡ (if same_queue (queue.Control n conn) p then [] else held x.tracker.told p)
  low_lines p =
      t.kept.drops.told p
      ∙ (ap (λ (z : Tracker). if same_queue (queue.Control n conn) p then [] else held z.told p) (without_tracker t) ∙ by (same_queue (queue.Control n conn) p) refl)
    where
      by : (b : Bool) → same_queue (queue.Control n conn) p ≡ b → (if b then [] else held w.tracker.told p) ≡ (if b then [] else held x.tracker.told p)
      by true is = refl
      by false is = t.gone.told p is

  released : y.tracker ≡ released_by (length log) 1 conn t.connection.reservation t.kept.left.tracker
  released =
      t.kept.frees.tracker
      ∙ ap (λ (ps : List (Queue × Item)). released_by (length log) (length (ps ++ (queue.Router n, item.Release half.peer) ∷ [])) conn t.connection.reservation t.kept.left.tracker) (emptied_puts t)

  -- ---- queues

  other_conn : (k : ℕ) → (k == conn) ≡ false → ((n == n) && (k == conn)) ≡ false
  other_conn k h = grind (arith, nat_tests)

  told_apart : (p : Queue) → is_told n p ≡ true → same_queue (queue.Control n conn) p ≡ false → Each (λ q. same_queue p q ≡ false) (qs t)
  told_apart p own other =
      none_of t p
      (same_queue-sym p (queue.High n conn) ∙ away (is_told n) (queue.High n conn) p refl own)
      (same_queue-sym p (queue.Low n conn) ∙ away (is_told n) (queue.Low n conn) p refl own)
      (same_queue-sym p (queue.Held n conn) ∙ away (is_told n) (queue.Held n conn) p refl own)
      (same_queue-sym p (queue.Control n conn) ∙ other)
      (same_queue-sym p (queue.RouterAnswer n conn) ∙ away (is_told n) (queue.RouterAnswer n conn) p refl own)
      (same_queue-sym p (flight t) ∙ away (is_told n) (flight t) p refl own)

  -- ---- with the entry

  module _ (at seed : ℕ) (sends : Bool) where
    abbrev e : Entry
    e = entry t at seed sends

    cleared_line : (of : ℕ → Queue) (ws : List (ℕ × List Envelope)) → HoldsLines of log ws → line (log ++ e ∷ []) (of conn) ≡ []
        → ((k : ℕ) → (k == conn) ≡ false → line (log ++ e ∷ []) (of k) ≡ line log (of k)) → HoldsLines of (log ++ e ∷ []) (cleared_at ws conn)
    cleared_line of ws holds none others k = waiting-cleared_at conn k ws ∙ by (is_at (nat_cmp k) conn) refl
      where
        by : (b : Bool) → is_at (nat_cmp k) conn ≡ b → cond b [] (waiting ws k) ≡ line (log ++ e ∷ []) (of k)
        by true is = let same : k ≡ conn = grind (arith, nat_tests) in sym (ap (λ j. line (log ++ e ∷ []) (of j)) same ∙ none)
        by false is = let other : (k == conn) ≡ false = grind (arith, nat_tests) in holds k ∙ sym (others k other)

    pub connections_now : ConnectionsStand configs (log ++ e ∷ []) n y.connections
    connections_now =
        connections_ended configs log e n conn x.connections y.connections (connects t) (ends_one t at seed sends) one_less
        (ap (λ (cs : Connections). cs.stages) conns_are)
        (subst (HoldsLines (queue.RouterAnswer n) (log ++ e ∷ [])) (sym (ap (λ (cs : Connections). cs.answers) conns_are))
        (cleared_line (queue.RouterAnswer n) x.connections.answers (connects t).waits (ready_gone t at seed sends)
        (λ k other. unmoved t at seed sends (queue.RouterAnswer n k)
        (none_of t (queue.RouterAnswer n k) refl refl refl refl (other_conn k other) (off_flight t (queue.RouterAnswer n k) refl refl)) (put_none t at seed sends (queue.RouterAnswer n k) refl refl))))
        (subst (HoldsLines (queue.Held n) (log ++ e ∷ [])) (sym (ap (λ (cs : Connections). cs.held) conns_are))
        (cleared_line (queue.Held n) x.connections.held (connects t).holds (held_gone t at seed sends)
        (λ k other. unmoved t at seed sends (queue.Held n k)
        (none_of t (queue.Held n k) refl refl (other_conn k other) refl refl (off_flight t (queue.Held n k) refl refl)) (put_none t at seed sends (queue.Held n k) refl refl))))

    tracker_line : line (log ++ e ∷ []) (queue.Tracker n) ≡ line log (queue.Tracker n) ++ told_release n (peer_of t.connection.reservation) (length log) 1 ∷ []
    tracker_line =
        stays_with t at seed sends (queue.Tracker n) (none_of t (queue.Tracker n) refl refl refl refl refl (off_flight t (queue.Tracker n) refl refl))
        ∙ (ap (λ v. line log (queue.Tracker n) ++ v) (release_put log e n half.peer refl)
        ∙ ap (λ k. line log (queue.Tracker n) ++ told_release n k (length log) 1 ∷ []) (sym (peer_is t)))

    pub tracker_now : TrackerStands configs (log ++ e ∷ []) n y.tracker
    tracker_now =
        tracker_ended configs log e n conn 1 t.connection.reservation x.tracker y.tracker (t.stands.each place.tracker) (record {
          no_step = no_tracker conn n sends;
          no_question = no_question conn n sends;
          goes_on = no_stop conn n sends;
          lasts = t.lasts;
          no_answer = no_answer conn n why sends;
          no_admission = handshakes_of-apart log e n (no_listener conn n sends);
          ends = ends_only t at seed sends;
          rest = calls_rest (length log) 1 conn t.connection.reservation x.tracker t.kept.left.tracker y.tracker released low_is;
          mailbox = tracker_line;
          side = subst (λ s. IsOfSide s t.connection.reservation) (sym (frees_side t at seed sends)) (side_is t);
          emptied = control_gone t at seed sends;
          told = λ p own other. unmoved t at seed sends p (told_apart p own other) (release_quiet log e n half.peer refl p own);
          lines = calls_lines (length log) 1 conn t.connection.reservation x.tracker t.kept.left.tracker y.tracker released (queue.Control n conn) low_lines;
        })

    -- the channels stay as they are
    pub channels_now : ChannelsStand configs (log ++ e ∷ []) n x.channels
    channels_now =
        channels_frame configs log e n x.channels (t.stands.each place.channels) (record {
          registers = no_channel conn n configs sends n;
          lines = λ k. unmoved t at seed sends (queue.Channel n k)
              (none_of t (queue.Channel n k) refl refl refl refl refl (off_flight t (queue.Channel n k) refl refl)) (put_none t at seed sends (queue.Channel n k) refl refl);
          admits = admits_ended configs log e n refl;
          sends = sends_apart log e n (half_act sends conn n) refl (no_send conn n sends);
          closes = closes_apart log e n (half_act sends conn n) refl (no_close conn n sends) (no_stop conn n sends);
        })

    -- and an end of its link is dropped
    dropped : DropsEnd log e half.link half.writes
    dropped = record {
      drops = drops_end t at seed sends;
      emptied = flight_gone t at seed sends;
      kept = λ u j other.
          unmoved t at seed sends (queue.Link j u)
          (none_of t (queue.Link j u)
          (link_off (queue.High n conn) j u refl refl) (link_off (queue.Low n conn) j u refl refl) (link_off (queue.Held n conn) j u refl refl)
          (link_off (queue.Control n conn) j u refl refl) (link_off (queue.RouterAnswer n conn) j u refl refl) (same_queue-sym (queue.Link j u) (flight t) ∙ other))
          (put_none t at seed sends (queue.Link j u) (link_off (queue.Router n) j u refl refl) (link_off (queue.Tracker n) j u refl refl));
    }

    pub links_now : LinksStand configs (log ++ e ∷ []) links
    links_now = subst (LinksStand configs (log ++ e ∷ [])) (sym t.kept.drops.links_are) (t.gone.linked e dropped)
