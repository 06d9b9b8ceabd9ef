-- A connection of a node ends, and its tracker is told that the peer is free: the tracker stands for the log with that entry.
use Rattle.std.proofs.Common.{◌≡◌, ℕ, Bool, true, false, cond, List, [], ◌∷◌, ◌++◌, drop, length, refl, ap, sym, subst, ◌∙◌, arith, eq-eqb, Some, None}
use Rattle.std.specs.Prelude.{filter, ◌==◌, ◌&&◌, slice_get, if◌then◌else◌}
use Rattle.std.proofs.lemmas.Bool.Decides.{nat_tests}
use Rattle.p2p_base.specs.declared.key.Key.{Key}
use Rattle.p2p_tracker_directory.specs.Reserved.{peer_of}
use Rattle.p2p_tracker_directory.specs.declared.metadata.Metadata.{Metadata}
use Rattle.p2p_tracker_mailbox.specs.declared.message.Message.{Message}
use Rattle.p2p_tracker_mailbox.specs.declared.message.Message.TheVariants as message
use Rattle.p2p_log.specs.declared.config.Config.{Config}
use Rattle.p2p_log.specs.declared.queue.Queue.{Queue}
use Rattle.p2p_log.specs.declared.queue.Queue.TheVariants as queue
use Rattle.p2p_log.specs.declared.item.Item.TheVariants as item
use Rattle.p2p_log.specs.declared.item.Envelope.{Envelope}
use Rattle.p2p_log.specs.declared.entry.Entry.{Entry}
use Rattle.p2p_log.specs.declared.event.Act.TheVariants as act
use Rattle.p2p_log.specs.QueueCode.{same_queue}
use Rattle.p2p_log.specs.Lines.{line, placed, stands_in}
use Rattle.p2p_log.proofs.Queues.{same_queue-refl}
use Rattle.p2p_log.proofs.QueueNames.{queue_from_same}
use Rattle.p2p_log_rules.proofs.Connections.{half_act, ends_half}
use Rattle.p2p_log_rules.specs.Connections.{is_end, ends_connection}
use Rattle.p2p_log_rules.specs.Facts.{is_stopped, stops}
use Rattle.p2p_log_rules.specs.Handshakes.{handshakes_of}
use Rattle.p2p_net_queues.specs.Board.{held}
use Rattle.p2p_net_queues.specs.Matching.{Match}
use Rattle.p2p_net_queues.proofs.Going.{put_in}
use Rattle.p2p_net_tracker.specs.Ending.{released_by, told_release}
use Rattle.p2p_net_tracker.specs.GivenBack.{side_freed_by, IsOfSide}
use Rattle.p2p_net_tracker.specs.Stands.{asks_of, is_told, IsAnswer, HeardStands, TrackerStands}
use Rattle.p2p_net_tracker.specs.declared.tracker.Tracker.{Tracker}
use Rattle.p2p_net_tracker.proofs.Changes.{told_apart}
use Rattle.p2p_net_tracker.proofs.ConnectSteps.{router_apart}
use Rattle.p2p_net_tracker.proofs.Ended.{noted_more}
use Rattle.p2p_net_tracker.proofs.GivenBack.{given_now}
use Rattle.p2p_net_tracker.proofs.Facts.{handshaking-kept}
use Rattle.p2p_net_tracker.proofs.AtDesk.{polled_apart}
use Rattle.p2p_net_tracker.proofs.Moved.{tracker_moved, desk_grows}
use Rattle.p2p_log_rules.proofs.Steps.{steps_tracker}
use Rattle.p2p_log_rules.proofs.Answers.{takes_answer}

-- what an entry that ends this connection makes of the tracker: at this place it gives the reservation of its peer back
pub record EndMoves (log : List Entry) (e : Entry) (n conn place : ℕ) (reserved : Metadata Key) (t u : Tracker) : Type 0 where
  pub no_step : steps_tracker n e.event.act ≡ false
  pub no_question : asks_of n e.event.act ≡ None
  pub no_answer : (d : ℕ) → takes_answer d e.event.act e.reply ≡ false
  pub goes_on : stops n e.event.act ≡ false
  pub no_admission : handshakes_of (log ++ e ∷ []) n ≡ handshakes_of log n
  -- it ends this connection of the node, and no other
  pub ends : (c : ℕ) → ends_connection n c log e ≡ (c == conn)
  pub rest : u ≡ record (released_by (length log) place conn reserved t) { told = u.told }
  pub mailbox : line (log ++ e ∷ []) (queue.Tracker n) ≡ line log (queue.Tracker n) ++ told_release n (peer_of reserved) (length log) place ∷ []
  pub side : IsOfSide (side_freed_by log e) reserved
  pub lasts : is_stopped log n ≡ false
  -- what the connection was told ends with it, and nothing else that the tracker told
  pub emptied : line (log ++ e ∷ []) (queue.Control n conn) ≡ []
  pub told : (p : Queue) → is_told n p ≡ true → same_queue (queue.Control n conn) p ≡ false → line (log ++ e ∷ []) p ≡ line log p
  pub lines : (p : Queue) → held u.told p ≡ (if same_queue (queue.Control n conn) p then [] else held t.told p)

pub tracker_ended : (configs : List Config) (log : List Entry) (e : Entry) (n conn place : ℕ) (reserved : Metadata Key) (t u : Tracker) → TrackerStands configs log n t → EndMoves log e n conn place reserved t u
    → TrackerStands configs (log ++ e ∷ []) n u
tracker_ended configs log e n conn place reserved t u s q =
    let now : Tracker = record (released_by (length log) place conn reserved t) { told = u.told } in
    let m : Message Key = message.Release reserved in
    let x : Envelope = told_release n (peer_of reserved) (length log) place in
    let grows = desk_grows t.mailbox.desk (Some m) (λ some. s.closed ∙ q.lasts) in
    subst (TrackerStands configs (log ++ e ∷ []) n) (sym q.rest) (tracker_moved configs log e n t now (x ∷ []) (m ∷ []) s (record {
      no_step = q.no_step;
      no_question = q.no_question;
      no_answer = q.no_answer;
      goes_on = q.goes_on;
      rest = refl;
      ended = noted_more log e n conn t.ended s.ended q.ends;
      items = grows.items;
      closed = grows.closed;
      capacity = grows.capacity;
      questions = grows.questions;
      updates = grows.updates;
      sets = grows.sets;
      none_asked = refl;
      each = ((reserved, refl, refl), tt);
      given = (given_now log e reserved q.side, tt);
      waits = q.mailbox;
      asked_told = λ p asked. q.lines p ∙ ap (λ b. if b then [] else held t.told p) (polled_apart (queue.Control n conn) p asked refl);
      dialer = subst (λ l. Match (λ y a. IsAnswer y.item a) l t.mailbox.dialer) (sym (q.told (queue.Dialer n) (eq-eqb n n refl) refl)) s.dialer;
      heard = subst (HeardStands t.mailbox.heard) (sym (q.told (queue.Addresses n) (eq-eqb n n refl) refl)) s.heard;
      handshakes = handshaking-kept log e n t.mailbox.handshakes q.no_admission (λ k. q.told (queue.Handshake n k) (eq-eqb n n refl) refl) s.handshakes;
      distinct = s.distinct;
      told = λ p own. q.lines p ∙ by_line p own (same_queue (queue.Control n conn) p) refl;
    }))
  where
    by_line : (p : Queue) → is_told n p ≡ true → (b : Bool) → same_queue (queue.Control n conn) p ≡ b → (if b then [] else held t.told p) ≡ line (log ++ e ∷ []) p
    by_line p own true is = sym (ap (line (log ++ e ∷ [])) (queue_from_same (queue.Control n conn) p is) ∙ q.emptied)
    by_line p own false is = s.told p own ∙ sym (q.told p own is)

-- ---- its row

-- a step of a half ends its own connection, where it tells of an end
module _ (log : List Entry) (e : Entry) (n conn : ℕ) (end : is_end e.reply ≡ true) where
  half_ends : (sends : Bool) → e.event.act ≡ half_act sends conn n → (c : ℕ) → ends_connection n c log e ≡ (c == conn)
  half_ends sends acts c = ends_half log e n c sends conn n acts ∙ (ap (λ b. ((n == n) && (conn == c)) && b) end ∙ same n conn c)
    where
      same : (n conn c : ℕ) → (((n == n) && (conn == c)) && true) ≡ (c == conn)
      same n conn c = grind (arith, nat_tests)

  pub sender_ends : e.event.act ≡ act.SendStep conn n → (c : ℕ) → ends_connection n c log e ≡ (c == conn)
  sender_ends = half_ends true

  pub receiver_ends : e.event.act ≡ act.RecvStep conn n → (c : ℕ) → ends_connection n c log e ≡ (c == conn)
  receiver_ends = half_ends false

-- the router is told first, and then the tracker
module _ (log : List Entry) (e : Entry) (n : ℕ) (peer : Key) (puts : e.puts ≡ (queue.Router n, item.Release peer) ∷ (queue.Tracker n, item.Release peer) ∷ []) where
  abbrev y : Envelope
  y = record { entry = length log; place = 0; queue = queue.Router n; item = item.Release peer }

  abbrev x : Envelope
  x = told_release n peer (length log) 1

  pub release_put : put_in log e (queue.Tracker n) ≡ x ∷ []
  release_put = ap (λ l. filter (stands_in (queue.Tracker n)) (placed (length log) 0 l)) puts ∙ ap (λ b. cond b (x ∷ []) []) (same_queue-refl (queue.Tracker n))

  pub release_quiet : (p : Queue) → is_told n p ≡ true → put_in log e p ≡ []
  release_quiet p own =
      let after : List Envelope = cond (same_queue p (queue.Tracker n)) (x ∷ []) [] in
      ap (λ l. filter (stands_in p) (placed (length log) 0 l)) puts
      ∙ (ap (λ b. cond b (y ∷ after) after) (router_apart n n p own) ∙ ap (λ b. cond b (x ∷ []) []) (told_apart n n p own))

-- ---- the calls that do it

-- the oldest of a queue is taken, where one waits, and the rest is dropped: nothing is left there
pub taken_and_dropped : (q : Queue) (t mid u : Tracker) → ((p : Queue) → held mid.told p ≡ (if same_queue q p then drop 1 (held t.told p) else held t.told p))
    → ((p : Queue) → held u.told p ≡ (if same_queue q p then [] else held mid.told p)) → (p : Queue) → held u.told p ≡ (if same_queue q p then [] else held t.told p)
taken_and_dropped q t mid u taken dropped p = dropped p ∙ by (same_queue q p) (taken p)
  where
    by : (b : Bool) → held mid.told p ≡ (if b then drop 1 (held t.told p) else held t.told p) → (if b then [] else held mid.told p) ≡ (if b then [] else held t.told p)
    by true is = refl
    by false is = is

-- and what is taken and what is dropped are all that waited there
pub taken_and_left : (q : Queue) (t mid : Tracker) (x : Envelope) → slice_get (held t.told q) 0 ≡ Some x → ((p : Queue) → held mid.told p ≡ (if same_queue q p then drop 1 (held t.told p) else held t.told p))
    → held t.told q ≡ x ∷ held mid.told q
taken_and_left q t mid x first taken =
    by (held t.told q) first ∙ ap (λ l. x ∷ l) (sym (taken q ∙ ap (λ b. if b then drop 1 (held t.told q) else held t.told q) (same_queue-refl q)))
  where
    by : (l : List Envelope) → slice_get l 0 ≡ Some x → l ≡ x ∷ drop 1 l
    by [] is = cc
    by (y ∷ l) is = cc

-- and no more is done to the tracker by that
pub only_told : (t mid low : Tracker) → mid ≡ record t { told = mid.told } → low ≡ record mid { told = low.told } → low ≡ record t { told = low.told }
only_told t mid low taken dropped = dropped ∙ ap (λ (w : Tracker). record w { told = low.told }) taken

-- then the reservation is given back
module _ (k place conn : ℕ) (reserved : Metadata Key) (t low u : Tracker) (released : u ≡ released_by k place conn reserved low) where
  pub calls_rest : low ≡ record t { told = low.told } → u ≡ record (released_by k place conn reserved t) { told = u.told }
  calls_rest dropped =
      released
      ∙ (ap (released_by k place conn reserved) dropped
      ∙ ap (λ b. record (released_by k place conn reserved t) { told = b }) (sym (ap (λ (w : Tracker). w.told) released)))

  pub calls_lines : (q : Queue) → ((p : Queue) → held low.told p ≡ (if same_queue q p then [] else held t.told p)) → (p : Queue) → held u.told p ≡ (if same_queue q p then [] else held t.told p)
  calls_lines q left p = ap (λ (w : Tracker). held w.told p) released ∙ left p
