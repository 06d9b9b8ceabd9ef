-- The exchange of keys over a link ends: the attempt is told, and the handshake at the other end.
use Rattle.p2p_log_rules.proofs.Channels.{is_stopped-kept}
use Rattle.std.proofs.Common.{◌≡◌, ℕ, Bool, true, false, cond, List, [], ◌∷◌, ◌++◌, length, refl, ap, sym, subst, ◌∙◌, append-nil, eqb-true, Option, Some, None}
use Rattle.std.specs.Prelude.{filter, is_some, not, slice_get, slice_set, ◌==◌, ◌&&◌, ◌||◌}
use Rattle.std.specs.List.{list_any}
use Rattle.std.specs.Option.{option_map}
use Rattle.std.proofs.lemmas.Option.{same_Some}
use Rattle.std.proofs.lemmas.List.{length-set}
use Rattle.p2p_base.specs.declared.key.Key.{Key}
use Rattle.p2p_tracker_mailbox.specs.declared.mailbox.Mailbox.{Mailbox}
use Rattle.p2p_log.specs.declared.config.Config.{Config}
use Rattle.p2p_log.specs.declared.queue.Queue.{Queue}
use Rattle.p2p_log.specs.declared.queue.Queue.TheVariants as queue
use Rattle.p2p_log.specs.declared.queue.Side.{Side}
use Rattle.p2p_log.specs.declared.queue.Side.TheVariants as side
use Rattle.p2p_log.specs.declared.item.Item.{Item}
use Rattle.p2p_log.specs.declared.item.Item.TheVariants as item
use Rattle.p2p_log.specs.declared.item.Envelope.{Envelope}
use Rattle.p2p_log.specs.declared.entry.Entry.{Entry}
use Rattle.p2p_log.specs.declared.entry.Reply.{Reply}
use Rattle.p2p_log.specs.declared.entry.Reply.TheVariants as reply
use Rattle.p2p_log.specs.declared.event.Event.{Event}
use Rattle.p2p_log.specs.declared.event.Act.{Act}
use Rattle.p2p_log.specs.declared.event.Act.TheVariants as act
use Rattle.p2p_log.specs.QueueCode.{same_queue}
use Rattle.p2p_log.specs.Lines.{placed, stands_in, line}
use Rattle.p2p_log.proofs.Queues.{same_queue-refl, same_queue-sym}
use Rattle.p2p_log_rules.proofs.Connections.{ends_untold}
use Rattle.p2p_log_rules.specs.declared.row.Opening.{Opening}
use Rattle.p2p_log_rules.specs.declared.row.ListeningEnd.{ListeningEnd}
use Rattle.p2p_log_rules.specs.declared.row.ListeningEnd.TheVariants as listening
use Rattle.p2p_log_rules.specs.declared.row.Row.{Row}
use Rattle.p2p_log_rules.specs.Attempting.{Attempt, attempts_of}
use Rattle.p2p_log_rules.specs.Effect.{only, row, effect, entry_of}
use Rattle.p2p_log_rules.specs.Facts.{key_at}
use Rattle.p2p_log_rules.specs.Cutting.{is_cut}
use Rattle.p2p_log_rules.specs.Links.{openings_of, listening_ends_of, is_dialed, accepts_peer, exchanged, dialing_puts, listening_puts, finished_row, verdict, finish_by}
use Rattle.p2p_log_rules.proofs.AttemptTellings.{attempts_of-kept}
use Rattle.p2p_log_rules.proofs.Dialing.{dials_of-kept}
use Rattle.p2p_log_rules.proofs.Touches.{in_ends}
use Rattle.p2p_log_rules.proofs.HandshakeEnds.{ends_lead}
use Rattle.p2p_log_rules.proofs.Handshakes.{handshakes_of-apart}
use Rattle.p2p_log_laws.proofs.Untouched.{line-untouched}
use Rattle.p2p_net_queues.specs.Tables as table
use Rattle.p2p_net_queues.specs.Tables.{AreBut}
use Rattle.p2p_net_queues.proofs.Going.{line-kept}
use Rattle.p2p_net_gates.specs.Attempts.{dialed_key}
use Rattle.p2p_net_gates.specs.DialerStands.{DialerStands}
use Rattle.p2p_net_gates.proofs.Attempting.{dialed_key_is, finished_line, finished_row_is, dialer_finished}
use Rattle.p2p_net_gates.specs.ListenerStands.{ListenerStands, LeavesListener}
use Rattle.p2p_net_gates.specs.declared.listening.Listening.{Listening}
use Rattle.p2p_net_gates.proofs.ListenerChanges.{listener_frame, listener_finished}
use Rattle.p2p_net_gates.proofs.LeavingListener.{listener_apart, listener_untold}
use Rattle.p2p_net_gates.proofs.ListeningEnds.{end_accepts, end_finished}
use Rattle.p2p_net_tracker.specs.Finishing.{finished_put, told_finished}
use Rattle.p2p_net_tracker.specs.Stands.{is_told, TrackerStands}
use Rattle.p2p_net_tracker.specs.declared.tracker.Tracker.{Tracker}
use Rattle.p2p_net_tracker.proofs.Changes.{tracker_frame}
use Rattle.p2p_net_tracker.proofs.FinishSteps.{tracker_after_finish}
use Rattle.p2p_net_links.specs.Cutting.{is_cut_at}
use Rattle.p2p_net_links.specs.declared.links.Links.{Links}
use Rattle.p2p_net_links.specs.Stands.{LinksStand}
use Rattle.p2p_net_links.proofs.Changes.{links_finished, openings_finished}
use Rattle.p2p_net_links.proofs.Drops.{drops_none-act}
use Rattle.p2p_net_dialing.specs.Finishing.{accepts_end, said, TellsHandshake, TellsEnd, TellsBoth, FinishesBy, IsFinishedOver, IsFinished}
use Rattle.p2p_net_node.specs.Places.{Part, dialer, listener, tracker, same_part, at, same_place, ends_named, names}
use Rattle.p2p_net_node.specs.Stands.{NodeStands, WorldStands}
use Rattle.p2p_net_node.specs.declared.node.Node.{Node}
use Rattle.p2p_net_dialing.proofs.Attempting.{other_attempt}
use Rattle.p2p_net_dialing.proofs.Between.{IsBetween, dialer_told}
use Rattle.p2p_net_node.proofs.EachPart.{is_in, each_part}
use Rattle.p2p_net_node.proofs.Frames.{makes_none, part_frame}
use Rattle.p2p_net_node.proofs.Nodes.{slice_get-set, below}
use Rattle.p2p_net_node.proofs.Performing.{asked, is_quiet, Simulates, still_node, links_still, effect-still}
use Rattle.p2p_net_node.proofs.Readying.{key_is}
use Rattle.p2p_net_node.proofs.Touching.{first_false, second_false}
use Rattle.p2p_net_tracker.proofs.Leaves.{LeavesTracker}

-- ---- what is said of the keys is what the log says

end_accepted : (configs : List Config) (log : List Entry) (m link : ℕ) (y : Node) → NodeStands configs log m y → (end : Option ListeningEnd) → listening_ends_of log m link ≡ end → accepts_end end y ≡ accepts_peer log m end
end_accepted configs log m link y s None is = refl
end_accepted configs log m link y s (Some listening.Arriving) is = refl
end_accepted configs log m link y s (Some (listening.Handshake h)) is = end_accepts configs log m link h y.listening (s.each listener) is

-- the key that the attempt of an opening dialed, by the log
abbrev dialed_by : List Config → List Entry → Opening → Option Key
dialed_by configs log o = option_map (λ (a : Attempt). a.key) (attempts_of configs log o.node o.attempt)

said_is : (configs : List Config) (log : List Entry) (ok : Bool) (o : Opening) (link : ℕ) (l : Links) (x y : Node) → LinksStand configs log l → NodeStands configs log o.node x → NodeStands configs log o.to y
    → said ok (is_cut_at l link) (dialed_key (table.at x.dialing.attempts o.attempt)) (table.at y.listening.ends link) y
    ≡ verdict configs log ok o.to (is_cut log link) (dialed_by configs log o) (listening_ends_of log o.to link)
said_is configs log ok o link l x y linked s t =
    let dialed : Option Key = dialed_by configs log o in
    let end : Option ListeningEnd = listening_ends_of log o.to link in
    let heard : ListenerStands configs log o.to y.listening = t.each listener in
    ap (λ c. said ok c (dialed_key (table.at x.dialing.attempts o.attempt)) (table.at y.listening.ends link) y) (linked.cut link)
    ∙ (ap (λ e. said ok (is_cut log link) (dialed_key (table.at x.dialing.attempts o.attempt)) e y) (heard.ends link)
    ∙ (ap (λ d. said ok (is_cut log link) d end y) (dialed_key_is configs log o.node o.attempt x.dialing (s.each dialer))
    ∙ (ap (λ k. exchanged ((is_some dialed && is_some end) && not (is_cut log link)) (ok && is_dialed k dialed) (accepts_end end y)) (key_is configs o.to y t.own)
    ∙ ap (exchanged ((is_some dialed && is_some end) && not (is_cut log link)) (ok && is_dialed (key_at configs o.to) dialed)) (end_accepted configs log o.to link y t end refl))))

finish_row_is : (configs : List Config) (log : List Entry) (moment seed link : ℕ) (ok : Bool) (p : Option Opening) → openings_of log link ≡ p
    → row configs log moment seed (act.Finish link ok) ≡ elim p [
      | None ↦ only reply.Gone
      | Some o ↦ finish_by configs log ok (is_cut log link) o (attempts_of configs log o.node o.attempt) (listening_ends_of log o.to link)
    ]
unfolding row
finish_row_is configs log moment seed link ok p is =
    ap (λ q. elim q [ None ↦ only reply.Gone | Some o ↦ finish_by configs log ok (is_cut log link) o (attempts_of configs log o.node o.attempt) (listening_ends_of log o.to link) ]) is

-- ---- nothing is told

still_simulates : (configs : List Config) (log : List Entry) (moment seed link : ℕ) (ok : Bool) (nodes new : List Node) (l links : Links) (r : Row) → WorldStands configs log nodes l
    → (rep : Reply) → row configs log moment seed (act.Finish link ok) ≡ only rep → is_quiet (act.Finish link ok) rep ≡ true → r ≡ only rep → new ≡ nodes → links ≡ l
    → Simulates configs log (asked moment seed (act.Finish link ok)) new links r
unfolding effect
still_simulates configs log moment seed link ok nodes new l links r s rep is quiet row_is same kept =
    let a : Act = act.Finish link ok in
    let ev : Event = asked moment seed a in
    let e : Entry = effect configs log ev in
    let still = effect-still configs log ev rep is in
    record {
      row_is = row_is ∙ sym is;
      stands = subst (λ (ns : List Node). WorldStands configs (log ++ e ∷ []) ns links) (sym same)
          (subst (λ (ls : Links). WorldStands configs (log ++ e ∷ []) nodes ls) (sym kept)
          (record {
            valid = s.valid;
            long = s.long;
            each = λ m z g. still_node configs log e m z a rep (s.each m z g) refl quiet still;
            linked = links_still configs log e a rep l s.linked (refl) quiet still;
          }));
    }

-- ---- both ends are told

-- a told queue is not an attempt's
told_apart : (m n a : ℕ) (p : Queue) → is_told m p ≡ true → same_queue p (queue.Attempt n a) ≡ false
told_apart m n a (queue.Addresses j) h = refl
told_apart m n a (queue.Dialer j) h = refl
told_apart m n a (queue.Control j c) h = refl
told_apart m n a (queue.PeerSet j c) h = refl
told_apart m n a (queue.PeerSetUpdates j c) h = refl
told_apart m n a (queue.Blocked j c) h = refl
told_apart m n a (queue.Handshake j c) h = refl
told_apart m n a _ h = cc

-- the puts of the row, in a queue that is not the attempt's
placed_past : (q : Queue) (k n a : ℕ) (agree : Bool) (b : Option Attempt) (rest : List (Queue × Item)) → same_queue q (queue.Attempt n a) ≡ false
    → filter (stands_in q) (placed k 0 (dialing_puts n a agree b ++ rest)) ≡ filter (stands_in q) (placed k (length (dialing_puts n a agree b)) rest)
placed_past q k n a agree None rest other = refl
placed_past q k n a agree (Some d) rest other =
    ap (λ t. cond t (record { entry = k; place = 0; queue = queue.Attempt n a; item = item.Finished agree } ∷ filter (stands_in q) (placed k 1 rest)) (filter (stands_in q) (placed k 1 rest))) other

-- and in the attempt's
placed_attempt : (k n a m : ℕ) (agree : Bool) (b : Option Attempt) (end : Option ListeningEnd)
    → filter (stands_in (queue.Attempt n a)) (placed k 0 (dialing_puts n a agree b ++ listening_puts m agree end)) ≡ finished_line n a k 0 agree b
placed_attempt k n a m agree None None = refl
placed_attempt k n a m agree None (Some listening.Arriving) = refl
placed_attempt k n a m agree None (Some (listening.Handshake h)) = refl
placed_attempt k n a m agree (Some d) None = ap (λ t. cond t (record { entry = k; place = 0; queue = queue.Attempt n a; item = item.Finished agree } ∷ []) []) (same_queue-refl (queue.Attempt n a))
placed_attempt k n a m agree (Some d) (Some listening.Arriving) =
    ap (λ t. cond t (record { entry = k; place = 0; queue = queue.Attempt n a; item = item.Finished agree } ∷ []) []) (same_queue-refl (queue.Attempt n a))
placed_attempt k n a m agree (Some d) (Some (listening.Handshake h)) =
    ap (λ t. cond t (record { entry = k; place = 0; queue = queue.Attempt n a; item = item.Finished agree } ∷ []) []) (same_queue-refl (queue.Attempt n a))

put_or_not : (t : Bool) (xs : List Envelope) (x : Envelope) → xs ++ cond t (x ∷ []) [] ≡ cond t (xs ++ x ∷ []) xs
put_or_not true xs x = refl
put_or_not false xs x = append-nil xs

module _ (configs : List Config) (log : List Entry) (moment seed link : ℕ) (ok : Bool) (o : Opening) (is : openings_of log link ≡ Some o) (nodes new : List Node) (l links : Links) (r : Row) (s : WorldStands configs log nodes l)
    (agree : Bool) (end : Option ListeningEnd) (end_is : listening_ends_of log o.to link ≡ end)
    (due_is : row configs log moment seed (act.Finish link ok)
    ≡ record { reply = reply.Ok; takes = []; puts = dialing_puts o.node o.attempt agree (attempts_of configs log o.node o.attempt) ++ listening_puts o.to agree end; ends = [] })
    (c : TellsBoth (length log) o agree end nodes new r) where
  abbrev k : ℕ
  k = length log

  abbrev n : ℕ
  n = o.node

  abbrev m : ℕ
  m = o.to

  abbrev ev : Event
  ev = asked moment seed (act.Finish link ok)

  abbrev e : Entry
  e = effect configs log ev

  abbrev b : Option Attempt
  b = attempts_of configs log n o.attempt

  abbrev due : Row
  due = record { reply = reply.Ok; takes = []; puts = dialing_puts n o.attempt agree b ++ listening_puts m agree end; ends = [] }

  is_effect : entry_of ev due ≡ e
  unfolding effect
  is_effect = ap (entry_of ev) (sym due_is)

  first_stands : NodeStands configs log n c.first
  first_stands = s.each n c.first c.at_first

  -- ---- the row

  told_is : c.told ≡ record { reply = reply.Ok; takes = []; puts = dialing_puts n o.attempt agree b; ends = [] }
  told_is = finished_row_is configs log n o.attempt agree c.first.dialing c.after.dialing (only reply.Ok) c.told (first_stands.each dialer) c.finishes

  told_row : (x : Option ListeningEnd) → end ≡ x → TellsEnd x k m agree c.second c.last c.told r → r ≡ record { reply = reply.Ok; takes = []; puts = dialing_puts n o.attempt agree b ++ listening_puts m agree x; ends = [] }
  told_row None same h = h.0 ∙ (told_is ∙ ap (λ p. record { reply = reply.Ok; takes = []; puts = p; ends = [] }) (sym (append-nil (dialing_puts n o.attempt agree b))))
  told_row (Some listening.Arriving) same h = h.0 ∙ (told_is ∙ ap (λ p. record { reply = reply.Ok; takes = []; puts = p; ends = [] }) (sym (append-nil (dialing_puts n o.attempt agree b))))
  told_row (Some (listening.Handshake h)) same t = t.row_is ∙ ap (λ (w : Row). record w { puts = w.puts ++ finished_put m h agree ∷ [] }) told_is

  pub row_is : r ≡ row configs log moment seed (act.Finish link ok)
  row_is = told_row end refl c.ends ∙ sym due_is

  -- ---- the lines

  -- a queue that is not the attempt's has what the listening end is told
  line_after : (p : Queue) → same_queue p (queue.Attempt n o.attempt) ≡ false
      → line (log ++ e ∷ []) p ≡ line log p ++ filter (stands_in p) (placed k (length (dialing_puts n o.attempt agree b)) (listening_puts m agree end))
  line_after p other =
      subst (λ (z : Entry). line (log ++ z ∷ []) p ≡ line log p ++ filter (stands_in p) (placed k (length (dialing_puts n o.attempt agree b)) (listening_puts m agree end))) is_effect
      (line-kept log (entry_of ev due) p refl ∙ ap (λ xs. line log p ++ xs) (placed_past p k n o.attempt agree b (listening_puts m agree end) other))

  attempt_line : line (log ++ e ∷ []) (queue.Attempt n o.attempt) ≡ line log (queue.Attempt n o.attempt) ++ finished_line n o.attempt k 0 agree b
  attempt_line =
      subst (λ (z : Entry). line (log ++ z ∷ []) (queue.Attempt n o.attempt) ≡ line log (queue.Attempt n o.attempt) ++ finished_line n o.attempt k 0 agree b) is_effect
      (line-kept log (entry_of ev due) (queue.Attempt n o.attempt) refl ∙ ap (λ xs. line log (queue.Attempt n o.attempt) ++ xs) (placed_attempt k n o.attempt m agree b end))

  -- a queue that none of this reaches
  unreached : (q : Queue) → in_ends (Some o) q ≡ false → line (log ++ e ∷ []) q ≡ line log q
  unreached q away = line-untouched configs log ev q refl (ap (λ p. in_ends p q) is ∙ away) (ap (λ p. in_ends p q) is ∙ away)

  other_line : (j : ℕ) → (j == o.attempt) ≡ false → line (log ++ e ∷ []) (queue.Attempt n j) ≡ line log (queue.Attempt n j)
  other_line j other = unreached (queue.Attempt n j) (ap (λ t. t || false) (other_attempt n o.attempt j other))

  -- ---- the parts

  dialer_now : DialerStands configs (log ++ e ∷ []) n c.after.dialing
  unfolding effect
  dialer_now =
      dialer_finished configs log n o.attempt agree c.first.dialing c.after.dialing (only reply.Ok) c.told (first_stands.each dialer) c.finishes e refl (dials_of-kept configs log e n refl)
      (λ j. attempts_of-kept configs log e n j refl) c.tells.0 other_line attempt_line

  -- nothing that a listener goes by changes
  leaves_listener : (j : ℕ) → LeavesListener configs log e j
  unfolding effect
  leaves_listener j = listener_untold log e j configs (listener_apart log e j refl) (unreached (queue.Arrivals j) refl)

  listener_kept : (j : ℕ) (w : Node) → ListenerStands configs log j w.listening → ListenerStands configs (log ++ e ∷ []) j w.listening
  listener_kept j w t = listener_frame configs log e j w.listening t (leaves_listener j)

  -- what stands in a queue in which the tracker tells something, by what has the listening end
  told_lines : (h : ℕ) → end ≡ Some (listening.Handshake h) → (p : Queue) → is_told m p ≡ true
      → line (log ++ e ∷ []) p ≡ cond (same_queue (queue.Handshake m h) p) (line log p ++ told_finished m h agree k (length c.told.puts) ∷ []) (line log p)
  told_lines h same p own =
      let place : ℕ = length (dialing_puts n o.attempt agree b) in
      line_after p (told_apart m n o.attempt p own)
      ∙ (ap (λ x. line log p ++ filter (stands_in p) (placed k place (listening_puts m agree x))) same
      ∙ (ap (λ t. line log p ++ cond t (told_finished m h agree k place ∷ []) []) (same_queue-sym p (queue.Handshake m h))
      ∙ (put_or_not (same_queue (queue.Handshake m h) p) (line log p) (told_finished m h agree k place)
      ∙ ap (λ (w : Row). cond (same_queue (queue.Handshake m h) p) (line log p ++ told_finished m h agree k (length w.puts) ∷ []) (line log p)) (sym told_is))))

  untold_lines : listening_puts m agree end ≡ [] → (p : Queue) → is_told m p ≡ true → line (log ++ e ∷ []) p ≡ line log p
  untold_lines none p own =
      line_after p (told_apart m n o.attempt p own)
      ∙ (ap (λ puts. line log p ++ filter (stands_in p) (placed k (length (dialing_puts n o.attempt agree b)) puts)) none ∙ append-nil (line log p))

  -- a tracker that tells nobody
  leaves_tracker : listening_puts m agree end ≡ [] → LeavesTracker log e m
  unfolding effect
  leaves_tracker none = record {
    no_step = refl;
    no_end = λ conn. ends_untold log e m conn (act.Finish link ok) refl refl;
    no_question = refl;
    goes_on = is_stopped-kept log e m refl;
    no_answer = λ d h. refl;
    no_late_answer = λ d h. refl;
    handshakes = handshakes_of-apart log e m refl;
    mailbox = unreached (queue.Tracker m) refl;
    told = untold_lines none;
  }

  -- and one that tells the handshake that has the end
  tracker_tells : (h : ℕ) → end ≡ Some (listening.Handshake h) → TellsHandshake k m h agree c.second c.last c.told r → TrackerStands configs log m c.second.tracker
      → ListenerStands configs log m c.second.listening → TrackerStands configs (log ++ e ∷ []) m c.last.tracker
  unfolding effect
  tracker_tells h same t tracks listens = tracker_after_finish configs log e m h (length c.told.puts) agree c.second.tracker c.last.tracker tracks (record {
    no_step = refl;
    no_end = λ conn. ends_untold log e m conn (act.Finish link ok) refl refl;
    no_question = refl;
    goes_on = refl;
    no_answer = λ d. refl;
    names = handshakes_of-apart log e m refl;
    runs = (ends_lead log m link h (end_is ∙ same)).0;
    rest =
        t.tracker
        ∙ ap (λ (w : Mailbox Key). record c.second.tracker { mailbox = w; told = c.last.tracker.told })
        (t.mailbox ∙ end_finished configs log m link h c.second.listening listens (end_is ∙ same) agree c.second.tracker.mailbox);
    mailbox = unreached (queue.Tracker m) refl;
    lines = told_lines h same;
    told = t.told;
  })

  -- ---- the nodes

  -- no part is named but the dialer at the first end and the tracker at the other
  unnamed : (j : ℕ) (p : Part) → is_in p (dialer ∷ tracker ∷ listener ∷ []) ≡ false → names log (act.Finish link ok) (at p j) ≡ false
  unnamed j p out =
      let one = first_false (same_part dialer p) (same_part tracker p || (same_part listener p || false)) out in
      let two = first_false (same_part tracker p) (same_part listener p || false) (second_false (same_part dialer p) (same_part tracker p || (same_part listener p || false)) out) in
      ap (λ q. list_any (λ r. same_place r (at p j)) (ends_named q)) is
      ∙ (ap (λ t. (t && (n == j)) || ((same_part tracker p && (m == j)) || false)) one ∙ ap (λ t. (t && (m == j)) || false) two)

  dialer_frame : (j : ℕ) (w : Node) → NodeStands configs log j w → (n == j) ≡ false → DialerStands configs (log ++ e ∷ []) j w.dialing
  dialer_frame j w stood other =
      part_frame dialer configs log ev j w (stood.each dialer) (ap (λ q. list_any (λ r. same_place r (at dialer j)) (ends_named q)) is ∙ ap (λ t. t || false) other) (makes_none log j (act.Finish link ok) refl)

  tracker_frame_at : (j : ℕ) (w : Node) → NodeStands configs log j w → (m == j) ≡ false → TrackerStands configs (log ++ e ∷ []) j w.tracker
  tracker_frame_at j w stood other =
      part_frame tracker configs log ev j w (stood.each tracker) (ap (λ q. list_any (λ r. same_place r (at tracker j)) (ends_named q)) is ∙ ap (λ t. t || false) other) (makes_none log j (act.Finish link ok) refl)

  abbrev mid : List Node
  mid = slice_set nodes n c.after

  -- a node once the attempt is told, and before what has the listening end is
  between : (j : ℕ) (w : Node) → slice_get mid j ≡ Some w → IsBetween configs log e j w
  between = dialer_told configs log e n nodes c.first c.after s.each c.at_first c.tells.1 dialer_now dialer_frame

  still_tracks : (j : ℕ) (w : Node) → IsBetween configs log e j w → TrackerStands configs log j w.tracker
  still_tracks j w t = subst (TrackerStands configs log j) (sym (ap (λ (z : Node). z.tracker) t.same)) (t.stood.each tracker)

  still_listens : (j : ℕ) (w : Node) → IsBetween configs log e j w → ListenerStands configs log j w.listening
  still_listens j w t = subst (ListenerStands configs log j) (sym (ap (λ (z : Node). z.listening) t.same)) (t.stood.each listener)

  -- and after it
  node_now : (j : ℕ) (w : Node) (u : Tracker) (x : Listening) → IsBetween configs log e j w → TrackerStands configs (log ++ e ∷ []) j u → ListenerStands configs (log ++ e ∷ []) j x
      → NodeStands configs (log ++ e ∷ []) j (record w { tracker = u; listening = x })
  node_now j w u x t tracks listens =
      each_part configs log ev j t.before (record w { tracker = u; listening = x }) (dialer ∷ tracker ∷ listener ∷ []) t.stood
      (ap (λ (z : Node). record z { tracker = u; listening = x }) t.same) (unnamed j) refl refl (t.dials, (tracks, (listens, tt)))

  untold_node : listening_puts m agree end ≡ [] → (w : Node) → IsBetween configs log e m w → NodeStands configs (log ++ e ∷ []) m w
  untold_node none w t =
      node_now m w w.tracker w.listening t (tracker_frame configs log e m w.tracker (still_tracks m w t) (leaves_tracker none)) (listener_kept m w (still_listens m w t))

  last_stands : (x : Option ListeningEnd) → end ≡ x → TellsEnd x k m agree c.second c.last c.told r → IsBetween configs log e m c.second → NodeStands configs (log ++ e ∷ []) m c.last
  last_stands None same d t = subst (NodeStands configs (log ++ e ∷ []) m) (sym d.1) (untold_node (ap (listening_puts m agree) same) c.second t)
  last_stands (Some listening.Arriving) same d t = subst (NodeStands configs (log ++ e ∷ []) m) (sym d.1) (untold_node (ap (listening_puts m agree) same) c.second t)
  last_stands (Some (listening.Handshake h)) same d t =
      let tracks : TrackerStands configs log m c.second.tracker = still_tracks m c.second t in
      let listens : ListenerStands configs log m c.second.listening = still_listens m c.second t in
      subst (NodeStands configs (log ++ e ∷ []) m) (sym d.rest)
      (node_now m c.second c.last.tracker c.last.listening t (tracker_tells h same d tracks listens)
      (listener_finished configs log e m c.second.listening c.last.listening listens (leaves_listener m) d.listening d.handshakes))

  each_now : (j : ℕ) (z : Node) → slice_get (slice_set mid m c.last) j ≡ Some z → NodeStands configs (log ++ e ∷ []) j z
  each_now j z g = by (m == j) refl (sym (slice_get-set mid m j c.last (below mid m c.second c.at_second)) ∙ g)
    where
      by : (t : Bool) → (m == j) ≡ t → cond t (Some c.last) (slice_get mid j) ≡ Some z → NodeStands configs (log ++ e ∷ []) j z
      by true here there =
          subst (NodeStands configs (log ++ e ∷ []) j) (same_Some c.last z there)
          (subst (λ i. NodeStands configs (log ++ e ∷ []) i c.last) (eqb-true m j here) (last_stands end refl c.ends (between m c.second c.at_second)))
      by false other there =
          let t : IsBetween configs log e j z = between j z there in
          node_now j z z.tracker z.listening t
          (subst (TrackerStands configs (log ++ e ∷ []) j) (sym (ap (λ (w : Node). w.tracker) t.same)) (tracker_frame_at j t.before t.stood other))
          (listener_kept j z (still_listens j z t))

  -- ---- the links

  link_lines : (t : Side) (j : ℕ) → line (log ++ e ∷ []) (queue.Link j t) ≡ line log (queue.Link j t)
  link_lines side.Out j = unreached (queue.Link j side.Out) refl
  link_lines side.In j = unreached (queue.Link j side.In) refl

  links_now : AreBut link None l.openings links.openings × (links ≡ record l { openings = links.openings }) → LinksStand configs (log ++ e ∷ []) links
  unfolding effect
  links_now h = links_finished configs log e l links link s.linked link_lines (openings_finished log e link ok refl (ap (λ (d : Row). d.reply) due_is)) h.0 h.1 (drops_none-act log e refl)

  pub both_told : AreBut link None l.openings links.openings × (links ≡ record l { openings = links.openings }) → Simulates configs log ev new links r
  both_told h = record {
    row_is = row_is;
    stands = subst (λ (ns : List Node). WorldStands configs (log ++ e ∷ []) ns links) (sym c.nodes)
        (record { valid = s.valid; long = length-set mid m c.last ∙ (length-set nodes n c.after ∙ s.long); each = each_now; linked = links_now h });
  }

-- ---- the act

-- the exchange over a link that is open, by what is said of its keys
by_verdict : (configs : List Config) (log : List Entry) (moment seed link : ℕ) (ok : Bool) (o : Opening) (nodes new : List Node) (l links : Links) (r : Row) → WorldStands configs log nodes l → openings_of log link ≡ Some o
    → (v : Option Bool) → verdict configs log ok o.to (is_cut log link) (dialed_by configs log o) (listening_ends_of log o.to link) ≡ v
    → FinishesBy v (length log) link o (listening_ends_of log o.to link) nodes new l links r → Simulates configs log (asked moment seed (act.Finish link ok)) new links r
by_verdict configs log moment seed link ok o nodes new l links r s is None none d =
    still_simulates configs log moment seed link ok nodes new l links r s reply.Pending
    (finish_row_is configs log moment seed link ok (Some o) is ∙ ap (finished_row o (attempts_of configs log o.node o.attempt) (listening_ends_of log o.to link)) none) refl d.0 d.1.0 d.1.1
by_verdict configs log moment seed link ok o nodes new l links r s is (Some agree) some d =
    both_told configs log moment seed link ok o is nodes new l links r s agree (listening_ends_of log o.to link) refl
    (finish_row_is configs log moment seed link ok (Some o) is ∙ ap (finished_row o (attempts_of configs log o.node o.attempt) (listening_ends_of log o.to link)) some) d.0 d.1

by_opening : (configs : List Config) (log : List Entry) (moment seed link : ℕ) (ok : Bool) (nodes new : List Node) (l links : Links) (r : Row) → WorldStands configs log nodes l → (p : Option Opening) → openings_of log link ≡ p
    → IsFinishedOver p (length log) link ok nodes new l links r → Simulates configs log (asked moment seed (act.Finish link ok)) new links r
by_opening configs log moment seed link ok nodes new l links r s None is d =
    still_simulates configs log moment seed link ok nodes new l links r s reply.Gone (finish_row_is configs log moment seed link ok None is) refl d.0 d.1.0 d.1.1
by_opening configs log moment seed link ok nodes new l links r s (Some o) is d =
    let first : NodeStands configs log o.node d.first = s.each o.node d.first d.at_first in
    let second : NodeStands configs log o.to d.second = s.each o.to d.second d.at_second in
    let end : Option ListeningEnd = listening_ends_of log o.to link in
    let ends : table.at d.second.listening.ends link ≡ end = (second.each listener).ends link in
    let v : Option Bool = verdict configs log ok o.to (is_cut log link) (dialed_by configs log o) end in
    by_verdict configs log moment seed link ok o nodes new l links r s is v refl
    (subst (λ x. FinishesBy v (length log) link o x nodes new l links r) ends
    (subst (λ w. FinishesBy w (length log) link o (table.at d.second.listening.ends link) nodes new l links r) (said_is configs log ok o link l d.first d.second s.linked first second) d.finishes))

pub finish_simulates : (configs : List Config) (log : List Entry) (moment seed link : ℕ) (ok : Bool) (nodes new : List Node) (l links : Links) (r : Row) → WorldStands configs log nodes l
    → IsFinished (length log) link ok nodes new l links r → Simulates configs log (asked moment seed (act.Finish link ok)) new links r
finish_simulates configs log moment seed link ok nodes new l links r s d =
    by_opening configs log moment seed link ok nodes new l links r s (openings_of log link) refl
    (subst (λ p. IsFinishedOver p (length log) link ok nodes new l links r) (s.linked.openings link) d)
