-- What a step of the receiving half of a connection leaves alone where it ends nothing: the router and the tracker of its node.
use Rattle.std.proofs.Common.{◌≡◌, ℕ, Bool, true, false, cond, List, [], ◌∷◌, ◌++◌, refl, ap, sym, ◌∙◌, None}
use Rattle.std.specs.Prelude.{filter}
use Rattle.p2p_log.specs.declared.config.Config.{Config}
use Rattle.p2p_log.specs.declared.queue.Queue.{Queue}
use Rattle.p2p_log.specs.declared.queue.Queue.TheVariants as queue
use Rattle.p2p_log.specs.declared.queue.Side.{Side}
use Rattle.p2p_log.specs.declared.queue.Side.TheVariants as side
use Rattle.p2p_log.specs.declared.entry.Entry.{Entry}
use Rattle.p2p_log.specs.declared.event.Act.TheVariants as act
use Rattle.p2p_log.specs.QueueCode.{same_queue}
use Rattle.p2p_log.specs.Lines.{line, live, stands_in}
use Rattle.p2p_log_rules.specs.Connections.{half_at, is_end}
use Rattle.p2p_log_rules.specs.Dropping.{half_end}
use Rattle.p2p_log_rules.specs.Facts.{stops, turns, registers_at}
use Rattle.p2p_log_rules.proofs.Connections.{begins_act, ends_none-reply}
use Rattle.p2p_log_rules.proofs.Families.{kinds_of, are_apart}
use Rattle.p2p_log_rules.proofs.Spawning.{connections_of-unmade}
use Rattle.p2p_net_router.specs.Names.{is_routers}
use Rattle.p2p_net_router.specs.Stands.{IsBeside, RoutesNothing}
use Rattle.p2p_net_router.specs.declared.router.Router.{Router}
use Rattle.p2p_net_router.proofs.Beside.{stands_beside}
use Rattle.p2p_net_router.proofs.Unrouted.{unrouted_apart}
use Rattle.p2p_log_rules.proofs.Dropping.{all_of, drops_of-receive}
use Rattle.p2p_log_rules.proofs.Handshakes.{handshake_kinds, handshakes_of-apart}
use Rattle.p2p_log_rules.proofs.Routing.{route_kinds}
use Rattle.p2p_net_links.proofs.Drops.{DropsNone}
use Rattle.p2p_net_tracker.specs.Stands.{is_told, asks_of, TrackerStands}
use Rattle.p2p_net_tracker.specs.declared.tracker.Tracker.{Tracker}
use Rattle.p2p_net_tracker.proofs.Changes.{tracker_frame}
use Rattle.p2p_net_node.specs.Stands.{RouterStands, RouterLives}
use Rattle.p2p_net_node.proofs.Routers.{HearsTheSame, hears_kept, RouterStands-moved}
use Rattle.p2p_log_rules.proofs.Steps.{steps_tracker, steps_spawner}
use Rattle.p2p_log_rules.proofs.Answers.{takes_answer}
use Rattle.p2p_log_rules.proofs.Channels.{is_stopped-before, is_stopped-kept}
use Rattle.p2p_net_router.proofs.Resting.{rests_kept}

-- ---- queues

-- whether a queue is none of those that such a step moves: links, what is held, and channels
abbrev pub is_beside : Queue → Bool
is_beside (queue.Link link u) = false
is_beside (queue.Held n conn) = false
is_beside (queue.Channel n c) = false
is_beside _ = true

pub beside_link : (link : ℕ) (u : Side) (q : Queue) → is_beside q ≡ true → same_queue (queue.Link link u) q ≡ false
beside_link link side.Out (queue.Link k v) h = cc
beside_link link side.Out (queue.Held n conn) h = cc
beside_link link side.Out (queue.Channel n c) h = cc
beside_link link side.Out _ h = refl
beside_link link side.In (queue.Link k v) h = cc
beside_link link side.In (queue.Held n conn) h = cc
beside_link link side.In (queue.Channel n c) h = cc
beside_link link side.In _ h = refl

pub beside_from : (n conn : ℕ) (q : Queue) → is_beside q ≡ true → same_queue (queue.Held n conn) q ≡ false
beside_from n conn (queue.Link k v) h = cc
beside_from n conn (queue.Held m d) h = cc
beside_from n conn (queue.Channel m c) h = cc
beside_from n conn _ h = refl

pub beside_held : (n conn : ℕ) (q : Queue) → is_beside q ≡ true → same_queue q (queue.Held n conn) ≡ false
beside_held n conn (queue.Link k v) h = cc
beside_held n conn (queue.Held m d) h = cc
beside_held n conn (queue.Channel m c) h = cc
beside_held n conn _ h = refl

pub beside_channel : (n c : ℕ) (q : Queue) → is_beside q ≡ true → same_queue q (queue.Channel n c) ≡ false
beside_channel n c (queue.Link k v) h = cc
beside_channel n c (queue.Held m d) h = cc
beside_channel n c (queue.Channel m d) h = cc
beside_channel n c _ h = refl

pub routers_beside : (n : ℕ) (q : Queue) → is_routers n q ≡ true → is_beside q ≡ true
routers_beside n (queue.Link k v) h = h
routers_beside n (queue.Held m d) h = h
routers_beside n (queue.Channel m c) h = h
routers_beside n _ h = refl

pub told_beside : (n : ℕ) (q : Queue) → is_told n q ≡ true → is_beside q ≡ true
told_beside n (queue.Link k v) h = h
told_beside n (queue.Held m d) h = h
told_beside n (queue.Channel m c) h = h
told_beside n _ h = refl

line_of : (log : List Entry) (q : Queue) → filter (stands_in q) (live log) ≡ line log q
unfolding line
line_of log q = refl

-- ---- parts

module _ (configs : List Config) (log : List Entry) (e : Entry) (n conn : ℕ) (acts : e.event.act ≡ act.RecvStep conn n) (lives : is_end e.reply ≡ false) where
  -- no end of a link is dropped
  pub received_drops : DropsNone log e
  received_drops = drops_of-receive log e conn n acts ∙ ap (λ b. all_of (cond b (half_end (half_at log n conn)) None)) lives

  received_beside : (m : ℕ) → IsBeside configs log e m
  received_beside m = record {
    no_end = λ c. ends_none-reply log e m c (ap (stops m) acts) lives;
    no_step = unrouted_apart log e m (ap (λ a. are_apart (kinds_of a) route_kinds) acts);
    no_channel = ap (registers_at configs m) acts;
    no_turn = ap (turns m) acts;
  }

  received_hears : HearsTheSame log e n
  received_hears =
      hears_kept log e n (λ c. begins_act log e n c (act.RecvStep conn n) acts) (λ c. ends_none-reply log e n c (ap (stops n) acts) lives)
      (λ c. connections_of-unmade log e n (ap (steps_spawner n) acts) c)

  module _ (same : (q : Queue) → is_beside q ≡ true → line (log ++ e ∷ []) q ≡ line log q) where
    received_router : (r : Router) → RouterStands configs log n r → RouterStands configs (log ++ e ∷ []) n r
    received_router r s =
        RouterStands-moved configs log e n r r s received_hears
        (stands_beside configs log e r s.stands (received_beside r.number)
        (λ q own. line_of (log ++ e ∷ []) q ∙ (same q (routers_beside r.number q own) ∙ sym (line_of log q))))
        refl refl

    -- whether the node has stopped or not
    pub received_lives : (r : Router) → RouterLives configs log n r → RouterLives configs (log ++ e ∷ []) n r
    received_lives r s =
        let still : RoutesNothing log e n = (received_beside n).no_step in
        record {
          number = s.number;
          runs = λ lasts. received_router r (s.runs (is_stopped-before log e n lasts));
          rests = λ over. rests_kept configs log e n r (s.rests (sym (is_stopped-kept log e n (ap (stops n) acts)) ∙ over)) (λ c. same (queue.Peers n c) refl) still.routes_stay still.subscribers_stay;
        }

    pub received_tracker : (t : Tracker) → TrackerStands configs log n t → TrackerStands configs (log ++ e ∷ []) n t
    received_tracker t s = tracker_frame configs log e n t s (record {
      no_end = λ c. ends_none-reply log e n c (ap (stops n) acts) lives;
      no_step = ap (steps_tracker n) acts;
      no_question = ap (asks_of n) acts;
      goes_on = is_stopped-kept log e n (ap (stops n) acts);
      no_answer = λ d h. ap (λ a. takes_answer d a e.reply) acts;
      no_late_answer = λ d h. ap (λ a. takes_answer d a e.reply) acts;
      handshakes = handshakes_of-apart log e n (ap (λ a. are_apart (kinds_of a) handshake_kinds) acts);
      mailbox = same (queue.Tracker n) refl;
      told = λ q own. same q (told_beside n q own);
    })
