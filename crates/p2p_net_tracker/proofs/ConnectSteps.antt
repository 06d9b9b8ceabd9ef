-- A connection of a node begins, of which its tracker is told: the tracker stands for the log with that entry.
use Rattle.std.proofs.Common.{◌≡◌, ℕ, true, false, cond, List, [], ◌∷◌, ◌++◌, length, refl, ap, sym, subst, ◌∙◌, append-nil, eq-eqb, Some, None}
use Rattle.std.specs.Prelude.{filter, flat_map}
use Rattle.p2p_base.specs.declared.key.Key.{Key}
use Rattle.p2p_tracker_mailbox.specs.declared.message.Message.{Message}
use Rattle.p2p_tracker_mailbox.specs.declared.message.Message.TheVariants as message
use Rattle.p2p_log.specs.declared.config.Config.{Config}
use Rattle.p2p_log.specs.declared.queue.Queue.{Queue}
use Rattle.p2p_log.specs.declared.queue.Queue.TheVariants as queue
use Rattle.p2p_log.specs.declared.item.Item.TheVariants as item
use Rattle.p2p_log.specs.declared.item.Envelope.{Envelope}
use Rattle.p2p_log.specs.declared.entry.Entry.{Entry}
use Rattle.p2p_log.specs.declared.event.Act.TheVariants as act
use Rattle.p2p_log.specs.QueueCode.{same_queue}
use Rattle.p2p_log.specs.Lines.{ended_item, goes, line, placed, stands_in}
use Rattle.p2p_log.proofs.Queues.{same_queue-refl}
use Rattle.p2p_log_rules.specs.Effect.{begin_row, entry_of}
use Rattle.p2p_log_rules.specs.Connections.{ends_connection}
use Rattle.p2p_log_rules.specs.Facts.{is_stopped, stops}
use Rattle.p2p_log_rules.specs.Handshakes.{handshakes_of}
use Rattle.p2p_log_rules.proofs.Handshakes.{handshakes_of-apart}
use Rattle.p2p_net_queues.proofs.Going.{put_in, line-kept}
use Rattle.p2p_net_queues.specs.Matching.{Match}
use Rattle.p2p_net_tracker.specs.declared.tracker.Tracker.{Tracker}
use Rattle.p2p_net_tracker.specs.Connecting.{connected_by}
use Rattle.p2p_net_tracker.specs.Stands.{asks_of, is_told, IsAnswer, HeardStands, TrackerStands}
use Rattle.p2p_net_tracker.proofs.Changes.{told_apart}
use Rattle.p2p_net_tracker.proofs.Ended.{no_end-reply, noted_stay}
use Rattle.p2p_net_tracker.proofs.Facts.{handshaking-kept}
use Rattle.p2p_net_tracker.proofs.Moved.{tracker_moved, desk_grows}
use Rattle.p2p_log_rules.proofs.Steps.{steps_tracker}
use Rattle.p2p_log_rules.proofs.Answers.{takes_answer}

-- the entry tells the tracker that the connection conn with a peer has begun, and the router after it, and is nothing else for the tracker
pub record Connects (log : List Entry) (e : Entry) (n conn : ℕ) (peer : Key) : Type 0 where
  pub no_step : steps_tracker n e.event.act ≡ false
  pub no_question : asks_of n e.event.act ≡ None
  pub no_answer : (d : ℕ) → takes_answer d e.event.act e.reply ≡ false
  pub goes_on : stops n e.event.act ≡ false
  pub no_end : (conn : ℕ) → ends_connection n conn log e ≡ false
  pub no_admission : handshakes_of (log ++ e ∷ []) n ≡ handshakes_of log n
  pub lasts : is_stopped log n ≡ false
  pub takes : e.takes ≡ []
  pub puts : e.puts ≡ (queue.Tracker n, item.Connect conn peer) ∷ (queue.Router n, item.Ready conn peer) ∷ []
  pub ends : e.ends ≡ []

-- the router's queue is none in which the tracker tells something
pub router_apart : (n m : ℕ) (q : Queue) → is_told n q ≡ true → same_queue q (queue.Router m) ≡ false
router_apart n m (queue.Addresses k) h = refl
router_apart n m (queue.Dialer k) h = refl
router_apart n m (queue.Control k e) h = refl
router_apart n m (queue.PeerSet k e) h = refl
router_apart n m (queue.PeerSetUpdates k e) h = refl
router_apart n m (queue.Blocked k e) h = refl
router_apart n m (queue.Handshake k e) h = refl
router_apart n m _ h = cc

pub tracker_connected : (configs : List Config) (log : List Entry) (e : Entry) (n conn : ℕ) (peer : Key) (t : Tracker) → TrackerStands configs log n t → Connects log e n conn peer
    → TrackerStands configs (log ++ e ∷ []) n (connected_by (length log) conn peer t)
tracker_connected configs log e n conn peer t s q =
    let m : Message Key = message.Connect peer conn in
    let grows = desk_grows t.mailbox.desk (Some m) (λ some. s.closed ∙ q.lasts) in
    tracker_moved configs log e n t (connected_by (length log) conn peer t) (x ∷ []) (m ∷ []) s (record {
      no_step = q.no_step;
      no_question = q.no_question;
      no_answer = q.no_answer;
      goes_on = q.goes_on;
      ended = noted_stay log e n t.ended s.ended q.no_end;
      rest = refl;
      items = grows.items;
      closed = grows.closed;
      capacity = grows.capacity;
      questions = grows.questions;
      updates = grows.updates;
      sets = grows.sets;
      none_asked = refl;
      each = (refl, tt);
      given = (tt, tt);
      waits = line-kept log e (queue.Tracker n) none ∙ ap (λ l. line log (queue.Tracker n) ++ l) waits;
      asked_told = λ p asked. refl;
      dialer = subst (λ l. Match (λ y a. IsAnswer y.item a) l t.mailbox.dialer) (sym (same (queue.Dialer n) (eq-eqb n n refl))) s.dialer;
      heard = subst (HeardStands t.mailbox.heard) (sym (same (queue.Addresses n) (eq-eqb n n refl))) s.heard;
      handshakes = handshaking-kept log e n t.mailbox.handshakes q.no_admission (λ k. same (queue.Handshake n k) (eq-eqb n n refl)) s.handshakes;
      distinct = s.distinct;
      told = λ p own. s.told p own ∙ sym (same p own);
    })
  where
    -- what the tracker is told, and what the router is
    x : Envelope
    x = record { entry = length log; place = 0; queue = queue.Tracker n; item = item.Connect conn peer }

    y : Envelope
    y = record { entry = length log; place = 1; queue = queue.Router n; item = item.Ready conn peer }

    none : goes e ≡ []
    none = ap (λ l. l ++ flat_map ended_item e.ends) q.takes ∙ ap (flat_map ended_item) q.ends

    waits : put_in log e (queue.Tracker n) ≡ x ∷ []
    waits = ap (λ l. filter (stands_in (queue.Tracker n)) (placed (length log) 0 l)) q.puts ∙ ap (λ b. cond b (x ∷ []) []) (same_queue-refl (queue.Tracker n))

    quiet : (p : Queue) → is_told n p ≡ true → put_in log e p ≡ []
    quiet p own =
        let after : List Envelope = cond (same_queue p (queue.Router n)) (y ∷ []) [] in
        ap (λ l. filter (stands_in p) (placed (length log) 0 l)) q.puts
        ∙ (ap (λ b. cond b (x ∷ after) after) (told_apart n n p own) ∙ ap (λ b. cond b (y ∷ []) []) (router_apart n n p own))

    same : (p : Queue) → is_told n p ≡ true → line (log ++ e ∷ []) p ≡ line log p
    same p own = line-kept log e p none ∙ (ap (λ l. line log p ++ l) (quiet p own) ∙ append-nil (line log p))

-- and so where a step of its sending half begins it
pub tracker_begun : (configs : List Config) (log : List Entry) (at seed n conn : ℕ) (peer : Key) (t : Tracker) → TrackerStands configs log n t → is_stopped log n ≡ false
    → TrackerStands configs (log ++ entry_of (record { at = at; seed = seed; act = act.SendStep conn n }) (begin_row n conn peer) ∷ []) n (connected_by (length log) conn peer t)
tracker_begun configs log at seed n conn peer t s lasts =
    let e = entry_of (record { at = at; seed = seed; act = act.SendStep conn n }) (begin_row n conn peer) in
    tracker_connected configs log e n conn peer t s
    (record { no_step = refl; no_question = refl; no_answer = λ d. refl; goes_on = refl; no_end = no_end-reply n log e refl refl; no_admission = handshakes_of-apart log e n refl; lasts = lasts; takes = refl; puts = refl; ends = refl })
