-- A step of the sending half of a connection that runs: a batch, with a ping before it where one is due.
use Rattle.std.proofs.Common.{◌≡◌, ℕ, ◌+◌, Bool, true, false, cond, List, [], ◌∷◌, ◌++◌, length, refl, ap, sym, subst, ◌∙◌, append-nil, eq-eqb, Option, Some, None}
use Rattle.std.specs.Prelude.{map, filter, flat_map, ◌==◌}
use Rattle.p2p_log.specs.declared.config.Config.{Config}
use Rattle.p2p_log.specs.declared.queue.Queue.{Queue}
use Rattle.p2p_log.specs.declared.queue.Queue.TheVariants as queue
use Rattle.p2p_log.specs.declared.queue.Side.{Side}
use Rattle.p2p_log.specs.declared.queue.Side.TheVariants as side
use Rattle.p2p_log.specs.declared.item.Item.{Item}
use Rattle.p2p_log.specs.declared.item.Envelope.{Envelope}
use Rattle.p2p_log.specs.declared.entry.Entry.{Entry}
use Rattle.p2p_log.specs.declared.entry.Reply.TheVariants as reply
use Rattle.p2p_log.specs.declared.event.Event.{Event}
use Rattle.p2p_log.specs.declared.event.Act.TheVariants as act
use Rattle.p2p_log.specs.QueueCode.{same_queue}
use Rattle.p2p_log.specs.Lines.{line, live, name_of, named, placed, goes, stays, stands_in, ended_item}
use Rattle.p2p_log.proofs.Names.{AreApart-live_from}
use Rattle.p2p_log.proofs.Queues.{same_queue-sym}
use Rattle.p2p_log_rules.specs.declared.row.Half.{Half}
use Rattle.p2p_log_rules.specs.declared.row.Row.{Row}
use Rattle.p2p_log_rules.specs.Connections.{is_begun, has_run, is_end}
use Rattle.p2p_log_rules.specs.Effect.{row, effect, write_row, batch_size_at, beside_ping, batch, ping_puts, mailbox_size_at}
use Rattle.p2p_log_rules.specs.Pings.{ping_frequency_at, is_past, ping_is_due}
use Rattle.p2p_log_rules.proofs.Connections.{live_connection-kept, ends_none-reply}
use Rattle.p2p_log_rules.proofs.Spawning.{connections_of-unmade}
use Rattle.p2p_log_rules.proofs.Touches.{away}
use Rattle.p2p_net_queues.specs.Lines.{HoldsLines}
use Rattle.p2p_net_queues.specs.Tables as table
use Rattle.p2p_net_queues.proofs.Going.{put_in, line-append}
use Rattle.p2p_net_router.specs.Batches.{batch_of}
use Rattle.p2p_net_router.specs.Stands.{AreAway}
use Rattle.p2p_net_router.proofs.Aside.{same_queue-other}
use Rattle.p2p_net_router.proofs.Batches.{batch_beside}
use Rattle.p2p_net_connections.specs.Connections.{pinged_on, pinged_with}
use Rattle.p2p_net_connections.specs.Stands.{ConnectionsStand, SpawnsNone, ReceivesNone}
use Rattle.p2p_net_connections.specs.declared.connections.Stage.TheVariants as stage
use Rattle.p2p_net_connections.proofs.Beginning.{connections_stepped, connections_pinged}
use Rattle.p2p_net_connections.proofs.Pings.{pings_by}
use Rattle.p2p_log_rules.proofs.Pinging.{PingsWhenDue}
use Rattle.p2p_log_rules.proofs.Families.{kinds_of, are_apart}
use Rattle.p2p_net_links.specs.Links.{write_frames_row}
use Rattle.p2p_net_links.specs.Stands.{LinksStand}
use Rattle.p2p_net_links.specs.declared.links.Links.{Links}
use Rattle.p2p_net_links.proofs.Changes.{opening_kinds, openings_unmoved, frames_put, links_written}
use Rattle.p2p_net_tracker.specs.Stands.{is_told, TrackerStands}
use Rattle.p2p_net_tracker.proofs.Changes.{tracker_frame}
use Rattle.p2p_net_connecting.specs.Connecting.{WritesFrames}
use Rattle.p2p_net_node.specs.Places as place
use Rattle.p2p_net_node.specs.Routing as routing
use Rattle.p2p_net_node.specs.Stands.{RouterStands, NodeStands, RouterLives}
use Rattle.p2p_net_node.specs.declared.node.Node.{Node}
use Rattle.p2p_net_node.proofs.EachPart.{with_parts, each_part, not_among-links}
use Rattle.p2p_net_node.proofs.Routers.{RouterStands-moved}
use Rattle.p2p_net_node.proofs.Performing.{asked, Performs}
use Rattle.p2p_net_connecting.proofs.RouterAnswers.{step_beside, step_begins, other_begins, step_receives, step_hears, step_drops, named_parts, step_untold, still_runs}
use Rattle.p2p_log_rules.specs.Facts.{stops, is_stopped}
use Rattle.p2p_log_rules.proofs.Steps.{steps_spawner}
use Rattle.p2p_net_node.proofs.Frames.{lives_on, lasts_after}

-- an item, to a queue
abbrev put_frame : Queue → (ℕ × ℕ) × Item → Queue × Item
put_frame q f = (q, f.1)

abbrev put_item : Queue → Envelope → Queue × Item
put_item q y = (q, y.item)

names_named : (ys : List Envelope) → map (λ (f : (ℕ × ℕ) × Item). f.0) (map named ys) ≡ map name_of ys
names_named [] = refl
names_named (y ∷ ys) = ap (λ t. name_of y ∷ t) (names_named ys)

items_named : (q : Queue) (ys : List Envelope) → map (put_frame q) (map named ys) ≡ map (put_item q) ys
items_named q [] = refl
items_named q (y ∷ ys) = let z : Queue × Item = (q, y.item) in ap (λ t. z ∷ t) (items_named q ys)

frames_row : (link : ℕ) (s : Side) (due : Bool) (xs : List Envelope) → write_frames_row link s due (map named xs) ≡ write_row (queue.Link link s) due xs
frames_row link s true xs =
    let q = queue.Link link s in
    ap (λ t. record { reply = reply.Ok; takes = t; puts = ping_puts true q ++ map (put_frame q) (map named xs); ends = [] }) (names_named xs)
    ∙ ap (λ t. record { reply = reply.Ok; takes = map name_of xs; puts = ping_puts true q ++ t; ends = [] }) (items_named q xs)
frames_row link s false [] = refl
frames_row link s false (x ∷ xs) =
    let q = queue.Link link s in
    let z : Queue × Item = (q, x.item) in
    ap (λ t. record { reply = reply.Ok; takes = name_of x ∷ t; puts = z ∷ map (put_frame q) (map named xs); ends = [] }) (names_named xs)
    ∙ ap (λ t. record { reply = reply.Ok; takes = map name_of (x ∷ xs); puts = z ∷ t; ends = [] }) (items_named q xs)

-- what a batch puts in a link
abbrev batch_put : Bool → ℕ → Side → List ((ℕ × ℕ) × Item) → List (Queue × Item)
batch_put due link s fs = ping_puts due (queue.Link link s) ++ frames_put link s fs

-- a batch takes these, and puts them
write_takes : (link : ℕ) (s : Side) (due : Bool) (fs : List ((ℕ × ℕ) × Item)) → (write_frames_row link s due fs).takes ≡ map (λ (f : (ℕ × ℕ) × Item). f.0) fs
write_takes link s true fs = refl
write_takes link s false [] = refl
write_takes link s false (f ∷ fs) = refl

write_puts : (link : ℕ) (s : Side) (due : Bool) (fs : List ((ℕ × ℕ) × Item)) → (write_frames_row link s due fs).puts ≡ batch_put due link s fs
write_puts link s true fs = refl
write_puts link s false [] = refl
write_puts link s false (f ∷ fs) = refl

write_lives : (link : ℕ) (s : Side) (due : Bool) (fs : List ((ℕ × ℕ) × Item)) → is_end (write_frames_row link s due fs).reply ≡ false
write_lives link s true fs = refl
write_lives link s false [] = refl
write_lives link s false (f ∷ fs) = refl

write_ends : (link : ℕ) (s : Side) (due : Bool) (fs : List ((ℕ × ℕ) × Item)) → (write_frames_row link s due fs).ends ≡ []
write_ends link s true fs = refl
write_ends link s false [] = refl
write_ends link s false (f ∷ fs) = refl

frames_away : (link : ℕ) (s : Side) (q : Queue) (fs : List ((ℕ × ℕ) × Item)) → same_queue q (queue.Link link s) ≡ false → AreAway q (frames_put link s fs)
frames_away link s q [] h = tt
frames_away link s q (f ∷ fs) h = (h, frames_away link s q fs h)

batch_away : (due : Bool) (link : ℕ) (s : Side) (q : Queue) (fs : List ((ℕ × ℕ) × Item)) → same_queue q (queue.Link link s) ≡ false → AreAway q (batch_put due link s fs)
batch_away true link s q fs h = (h, frames_away link s q fs h)
batch_away false link s q fs h = frames_away link s q fs h

filter-away : (q : Queue) (k p : ℕ) (puts : List (Queue × Item)) → AreAway q puts → filter (stands_in q) (placed k p puts) ≡ []
filter-away q k p [] h = refl
filter-away q k p (x ∷ xs) h = ap (λ b. cond b (record { entry = k; place = p; queue = x.0; item = x.1 } ∷ filter (stands_in q) (placed k (p + 1) xs)) (filter (stands_in q) (placed k (p + 1) xs))) h.0 ∙ filter-away q k (p + 1) xs h.1

-- a line of neither lane, after a batch of a connection
line_written : (log : List Entry) (e : Entry) (n conn link most : ℕ) (s : Side) (due : Bool) (fs : List ((ℕ × ℕ) × Item)) (q : Queue) → same_queue (queue.High n conn) q ≡ false → same_queue (queue.Low n conn) q ≡ false
    → fs ≡ map named (batch_of n conn most (live log)) → e.takes ≡ map (λ (f : (ℕ × ℕ) × Item). f.0) fs → e.ends ≡ [] → e.puts ≡ batch_put due link s fs
    → line (log ++ e ∷ []) q ≡ line log q ++ filter (stands_in q) (placed (length log) 0 (batch_put due link s fs))
unfolding line
line_written log e n conn link most s due fs q high low is takes ends puts =
    let gone : goes e ≡ map name_of (batch_of n conn most (live log)) =
    ap (λ d. e.takes ++ flat_map ended_item d) ends ∙ (append-nil e.takes ∙ (takes ∙ (ap (map (λ (f : (ℕ × ℕ) × Item). f.0)) is ∙ names_named (batch_of n conn most (live log)))))
    in
    line-append log e q
    ∙ (ap (λ g. filter (stands_in q) (filter (stays g) (live log)) ++ put_in log e q) gone
    ∙ (ap (λ t. t ++ put_in log e q) (batch_beside n conn most (live log) q (AreApart-live_from 0 log) high low)
    ∙ ap (λ p. filter (stands_in q) (live log) ++ filter (stands_in q) (placed (length log) 0 p)) puts))

pub batch_is : (log : List Entry) (n conn most : ℕ) → batch_of n conn most (live log) ≡ batch log n conn most
unfolding line
batch_is log n conn most = refl

abbrev is_tracker : ℕ → Queue → Bool
is_tracker n (queue.Tracker m) = m == n
is_tracker n _ = false

ready_apart : (n conn c : ℕ) (s : Side) → same_queue (queue.RouterAnswer n c) (queue.Link conn s) ≡ false
ready_apart n conn c side.Out = refl
ready_apart n conn c side.In = refl

held_apart : (n link c : ℕ) (s : Side) → same_queue (queue.Held n c) (queue.Link link s) ≡ false
held_apart n link c side.Out = refl
held_apart n link c side.In = refl

high_link : (n conn j : ℕ) (t : Side) → same_queue (queue.High n conn) (queue.Link j t) ≡ false
high_link n conn j side.Out = refl
high_link n conn j side.In = refl

low_link : (n conn j : ℕ) (t : Side) → same_queue (queue.Low n conn) (queue.Link j t) ≡ false
low_link n conn j side.Out = refl
low_link n conn j side.In = refl

-- whether a ping is due, as the node tells it
pub due_is : (configs : List Config) (log : List Entry) (n conn at pinged : ℕ) (x : Node) → NodeStands configs log n x → table.at x.connections.stages conn ≡ Some (stage.Running pinged)
    → ping_is_due configs log n conn at ≡ is_past x.config.ping_frequency at (Some pinged)
due_is configs log n conn at pinged x s is =
    let cs : ConnectionsStand configs log n x.connections = s.each place.connections in
    ap (is_past (ping_frequency_at configs n) at) (sym (cs.pinged conn) ∙ ap pinged_on is)
    ∙ ap (λ (o : Option Config). is_past (elim o [ None ↦ 0 | Some c ↦ c.ping_frequency ]) at (Some pinged)) s.own.config

module _ (configs : List Config) (log : List Entry) (at seed conn n : ℕ) (half : Half) (due : Bool) (x w y : Node) (l links : Links) (r : Row) (s : NodeStands configs log n x) (lasts : is_stopped log n ≡ false) (t : LinksStand configs log l)
    (begun : is_begun log n conn ≡ true) (running : has_run log n conn ≡ true) (pings : ping_is_due configs log n conn at ≡ due)
    (frames : List ((ℕ × ℕ) × Item)) (calls : routing.Batches conn (beside_ping due x.config.send_batch_size) x.router w.router frames) (others : w ≡ record x { router = w.router })
    (row_is : row configs log at seed (act.SendStep conn n) ≡ write_row (queue.Link half.link half.writes) due (batch log n conn (beside_ping due (batch_size_at configs n))))
    (d : WritesFrames (length log) conn at half due frames w y l links r) where
  abbrev ev : Event
  ev = asked at seed (act.SendStep conn n)

  e : Entry
  e = effect configs log ev

  connects : ConnectionsStand configs log n x.connections
  connects = s.each place.connections

  routes : RouterStands configs log n x.router
  routes = (s.each place.router).runs lasts

  abbrev q : Queue
  q = queue.Link half.link half.writes

  abbrev most : ℕ
  most = beside_ping due x.config.send_batch_size

  most_is : most ≡ beside_ping due (batch_size_at configs n)
  most_is = ap (beside_ping due) (sym (ap (λ (o : Option Config). elim o [ None ↦ 0 | Some c ↦ c.send_batch_size ]) s.own.config))

  took : frames ≡ map named (batch_of n conn most (live log))
  took =
      calls.taken (mailbox_size_at configs x.router.number) (live log) routes.stands.holds (AreApart-live_from 0 log)
      ∙ ap (λ m. map named (batch_of m conn most (live log))) routes.number

  framed : write_frames_row half.link half.writes due frames ≡ row configs log at seed (act.SendStep conn n)
  framed =
      ap (write_frames_row half.link half.writes due) took
      ∙ (frames_row half.link half.writes due (batch_of n conn most (live log))
      ∙ (ap (write_row q due) (batch_is log n conn most ∙ ap (batch log n conn) most_is) ∙ sym row_is))

  acts : e.event.act ≡ act.SendStep conn n
  unfolding e effect
  acts = refl

  moment : e.event.at ≡ at
  unfolding e effect
  moment = refl

  replies : e.reply ≡ (write_frames_row half.link half.writes due frames).reply
  unfolding e effect
  replies = ap (λ (z : Row). z.reply) (sym framed)

  takes : e.takes ≡ map (λ (f : (ℕ × ℕ) × Item). f.0) frames
  unfolding e effect
  takes = ap (λ (z : Row). z.takes) (sym framed) ∙ write_takes half.link half.writes due frames

  puts : e.puts ≡ batch_put due half.link half.writes frames
  unfolding e effect
  puts = ap (λ (z : Row). z.puts) (sym framed) ∙ write_puts half.link half.writes due frames

  ends : e.ends ≡ []
  unfolding e effect
  ends = ap (λ (z : Row). z.ends) (sym framed) ∙ write_ends half.link half.writes due frames

  lives : is_end e.reply ≡ false
  lives = ap is_end replies ∙ write_lives half.link half.writes due frames

  -- a line of which it takes nothing and where it puts nothing
  beside : (p : Queue) → same_queue (queue.High n conn) p ≡ false → same_queue (queue.Low n conn) p ≡ false → same_queue p q ≡ false → line (log ++ e ∷ []) p ≡ line log p
  beside p high low away_from =
      line_written log e n conn half.link most half.writes due frames p high low took takes ends puts
      ∙ (ap (λ w. line log p ++ w) (filter-away p (length log) 0 (batch_put due half.link half.writes frames) (batch_away due half.link half.writes p frames away_from)) ∙ append-nil (line log p))

  pinging : (c : ℕ) → PingsWhenDue configs log e n c
  unfolding e
  pinging c = pings_by configs log n x.connections connects ev c

  connections_now : ConnectionsStand configs (log ++ e ∷ []) n (pinged_with due conn at x.connections)
  connections_now = by due refl
    where
      spawns : SpawnsNone log e n
      spawns c = live_connection-kept log e n c (ends_none-reply log e n c (ap (stops n) acts) lives) (connections_of-unmade log e n (ap (steps_spawner n) acts) c)

      waits : HoldsLines (queue.RouterAnswer n) (log ++ e ∷ []) x.connections.answers
      waits c = connects.waits c ∙ sym (beside (queue.RouterAnswer n c) refl refl (ready_apart n half.link c half.writes))

      receives : ReceivesNone configs log e n
      receives = step_receives configs log e n conn acts (λ c. beside (queue.Held n c) refl refl (held_apart n half.link c half.writes))

      runs : (c : ℕ) → has_run (log ++ e ∷ []) n c ≡ has_run log n c
      runs c = still_runs log e n conn c acts running

      by : (b : Bool) → due ≡ b → ConnectionsStand configs (log ++ e ∷ []) n (pinged_with b conn at x.connections)
      by true is =
          connections_pinged configs log e n conn at x.connections connects pinging spawns (λ c. step_begins log n conn c e acts (replies ∙ ap (λ b. (write_frames_row half.link half.writes b frames).reply) is)) runs (pings ∙ is) moment receives waits
      by false is =
          connections_stepped configs log e n conn x.connections x.connections.answers connects pinging spawns begun (λ c other. other_begins log n conn c e acts other) runs
          (ap (ping_is_due configs log n conn) moment ∙ (pings ∙ is)) receives waits

  router_now : RouterStands configs (log ++ e ∷ []) n w.router
  router_now =
      RouterStands-moved configs log e n x.router w.router routes (step_hears log e n conn acts lives begun)
      (calls.stands configs log e routes.stands (step_beside configs log e x.router.number conn n acts lives) takes ends
      (λ p own. subst (AreAway p) (sym puts) (batch_away due half.link half.writes p frames (same_queue-sym p q ∙ same_queue-other x.router.number q p refl own))))
      calls.kept.number calls.kept.peers

  tracker_now : TrackerStands configs (log ++ e ∷ []) n x.tracker
  tracker_now =
      tracker_frame configs log e n x.tracker (s.each place.tracker)
      (step_untold log e n conn acts lives (beside (queue.Tracker n) refl refl (same_queue-sym (queue.Tracker n) q ∙ away (is_tracker n) q (queue.Tracker n) refl (eq-eqb n n refl)))
      (λ p own.
      beside p (away (is_told n) (queue.High n conn) p refl own) (away (is_told n) (queue.Low n conn) p refl own)
      (same_queue-sym p q ∙ away (is_told n) q p refl own)))

  parts : y ≡ record x { router = w.router; connections = pinged_with due conn at x.connections }
  parts = d.rest ∙ ap (λ (z : Node). record z { router = w.router; connections = pinged_with due conn at z.connections }) others

  pub write_performs : Performs configs log ev n y links r
  unfolding e
  write_performs = record {
    row_is = d.row_is ∙ framed;
    node =
        each_part configs log ev n x y named_parts s (subst (λ z. z ≡ with_parts named_parts x z) (sym parts) refl)
        (λ p out. not_among-links named_parts p n out) refl refl (
          subst (ConnectionsStand configs (log ++ e ∷ []) n) (sym (ap (λ (z : Node). z.connections) parts)) connections_now,
          (
            subst (RouterLives configs (log ++ e ∷ []) n) (sym (ap (λ (z : Node). z.router) parts)) (lives_on configs (log ++ e ∷ []) n w.router (lasts_after configs log ev n lasts refl) router_now),
            (subst (TrackerStands configs (log ++ e ∷ []) n) (sym (ap (λ (z : Node). z.tracker) parts)) tracker_now, tt),
          ),
        );
    linked = subst (LinksStand configs (log ++ e ∷ [])) (sym d.links_are)
        (links_written configs log e l half.writes half.link (length log) due frames t
        (λ u j. line_written log e n conn half.link most half.writes due frames (queue.Link j u) (high_link n conn j u) (low_link n conn j u) took takes ends puts) (openings_unmoved log e (ap (λ a. are_apart (kinds_of a) opening_kinds) acts))
        (step_drops log e n conn acts lives));
  }
