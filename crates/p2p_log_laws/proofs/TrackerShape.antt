-- The shapes of the acts of a node's tracker: none moves a copy.
use Rattle.std.proofs.Common.{◌≡◌, ℕ, Bool, true, false, cond, List, [], ◌∷◌, length, Option, Some, refl, ap, ◌∙◌, eq-eqb, subst, None}
use Rattle.std.specs.Prelude.{nat_lt}
use Rattle.std.specs.List.{AllByRecursion as Each}
use Rattle.p2p_base.specs.declared.key.Key.{Key}
use Rattle.p2p_address.specs.declared.ip.IpAddr.{IpAddr}
use Rattle.p2p_tracker_calls.specs.declared.call.Call.{Call}
use Rattle.p2p_tracker_calls.specs.declared.call.Call.TheVariants as call
use Rattle.p2p_tracker_calls.specs.Rules.{Rules}
use Rattle.p2p_tracker_calls.specs.BlockedKeys.{due_keys}
use Rattle.p2p_log.specs.declared.config.Config.{Config}
use Rattle.p2p_log.specs.declared.queue.Queue.{Queue}
use Rattle.p2p_log.specs.declared.queue.Queue.TheVariants as queue
use Rattle.p2p_log.specs.declared.item.Item.{Item}
use Rattle.p2p_log.specs.declared.item.Item.TheVariants as item
use Rattle.p2p_log.specs.declared.item.Envelope.{Envelope}
use Rattle.p2p_log.specs.declared.entry.Entry.{Entry}
use Rattle.p2p_log.specs.declared.entry.Reply.{Reply}
use Rattle.p2p_log.specs.declared.entry.Reply.TheVariants as reply
use Rattle.p2p_log.specs.declared.asked.Asked.{Asked}
use Rattle.p2p_log.specs.declared.asked.Asked.TheVariants as ask
use Rattle.p2p_log.specs.declared.event.Act.{Act}
use Rattle.p2p_log.specs.declared.event.Act.TheVariants as act
use Rattle.p2p_log_rules.specs.Connections.{is_ended}
use Rattle.p2p_log_rules.specs.declared.row.Row.{Row}
use Rattle.p2p_log.specs.Lines.{name_of, stays, live, line}
use Rattle.p2p_log.specs.Sending.{keys_sent, sending_of}
use Rattle.p2p_log_rules.specs.Facts.{is_up}
use Rattle.p2p_log_rules.specs.Reading.{is_read}
use Rattle.p2p_log_rules.specs.Facts.{is_stopped}
use Rattle.p2p_log_rules.specs.Full.{is_full}
use Rattle.p2p_log_rules.specs.Rows.{only}
use Rattle.p2p_base.specs.declared.outcome.Feedback.TheVariants as feedback
use Rattle.p2p_log_rules.specs.Tracking.{key_cmp, rules_at, asked_by, calls_of, update_subscriptions, blocked_subscriptions}
use Rattle.p2p_log_rules.specs.Handshakes.{is_handshaking, source_at}
use Rattle.p2p_log_rules.specs.TrackerPuts as puts
use Rattle.p2p_log_rules.specs.TrackerPuts.{Put}
use Rattle.p2p_log_rules.specs.TrackerRows as rows
use Rattle.p2p_log.proofs.Each.{Each-append, Each-filter, Each-weaker}
use Rattle.p2p_log.proofs.Queues.{same_queue-refl}
use Rattle.p2p_log_rules.specs.Moves.{Moves}
use Rattle.p2p_log_rules.proofs.Moves.{one_taken, first_has, rings, rings_in}
use Rattle.p2p_log_rules.proofs.Touches.{in_tracker, is_told_to}
use Rattle.p2p_log_laws.proofs.Reaching.{reads, writes}
use Rattle.p2p_log_laws.proofs.Fitting.{StandsFit, fits, is_bare, holds_bare, bare_there}
use Rattle.p2p_log_laws.proofs.Overwriting.{rings_bare, ring_ends_items}
use Rattle.p2p_log_laws.proofs.Shape.{Shape, IsQuiet, still, no_moves, one_move, first_in, quiet_laws}
use Rattle.p2p_log_laws.proofs.TrackerMoves.{left, left_apart, qs, served_moves, unblocked_moves}
use Rattle.p2p_log_laws.proofs.TrackerPuts.{EachKind, each_unblocked, each_asked, each_connected}
use Rattle.p2p_log_laws.proofs.Heeded.{Each-heeded}

-- ---- what it is asked

asked_shape : (configs : List Config) (log : List Entry) (a : Act) (n : ℕ) → ((r : Reply) → keys_sent (sending_of a r) ≡ []) → writes configs log a (queue.Tracker n) ≡ true
    → Shape configs log a (rows.asked_row configs log n)
asked_shape configs log a n none near = by (is_stopped log n)
  where
    due : Row
    due = record {
      reply = reply.Feedback (rows.feedback_by (is_full configs log (queue.Tracker n)));
      takes = [];
      puts = (queue.Tracker n, item.Call (length log)) ∷ [];
      ends = [];
    }

    by : (b : Bool) → Shape configs log a (cond b (only (reply.Feedback feedback.Closed)) due)
    by true = still configs log a (reply.Feedback feedback.Closed) (none (reply.Feedback feedback.Closed)) refl
    by false = record {
      moves = no_moves log due refl refl;
      reach = record { taken = tt; ended = tt; puts = (near, tt) };
      laws = λ fitting. quiet_laws configs log a due (no_moves log due refl refl) (none due.reply) refl tt tt tt ((refl, refl), tt);
    }

pub ask_shape : (configs : List Config) (log : List Entry) (n : ℕ) (what : Asked) → Shape configs log (act.Ask what n) (rows.ask_row configs log n what)
ask_shape configs log n (ask.Track index peers) = by_size (nat_lt (rows.most_peers_at configs n) (rows.size_at configs n peers))
  where
    by_size : (b : Bool)
        → Shape configs log (act.Ask (ask.Track index peers) n) (cond b (only (reply.PeerSetTooLarge (rows.size_at configs n peers) (rows.most_peers_at configs n))) (rows.asked_row configs log n))
    by_size true = still configs log (act.Ask (ask.Track index peers) n) (reply.PeerSetTooLarge (rows.size_at configs n peers) (rows.most_peers_at configs n)) refl refl
    by_size false = asked_shape configs log (act.Ask (ask.Track index peers) n) n (λ r. refl) (same_queue-refl (queue.Tracker n))
ask_shape configs log n what = asked_shape configs log (act.Ask what n) n (λ r. refl) (same_queue-refl (queue.Tracker n))

-- ---- what those who asked take

told_silent : (i : Item) → is_read (rows.told_of i) ≡ false
told_silent (item.PeerSet peers) = refl
told_silent _ = refl

module _ (configs : List Config) (log : List Entry) (a : Act) (q : Queue) (none : (r : Reply) → keys_sent (sending_of a r) ≡ []) (read : reads configs log a q ≡ true) (bare : holds_bare q ≡ true) where
  taken_shape : (x : Envelope) (rest : List Envelope) → line log q ≡ x ∷ rest → Shape configs log a (rows.taken_with (rows.told_of x.item) x)
  taken_shape x rest first =
      let r : Row = rows.taken_with (rows.told_of x.item) x in
      record {
        moves = one_move log q x rest first r refl refl;
        reach = record { taken = (first_in (reads configs log a) log q x rest first read, tt); ended = tt; puts = tt };
        laws = λ fitting.
            let whole : fits x.queue x.item ≡ true = first_has StandsFit log q x rest fitting first in
            let fit : fits q x.item ≡ true = subst (λ p. fits p x.item ≡ true) (one_taken log q x rest first) whole in
            quiet_laws configs log a r (one_move log q x rest first r refl refl) (none r.reply) (told_silent x.item) (bare_there q x.item bare fit, tt) tt tt tt;
      }

  oldest_shape : (empty : Reply) → is_read empty ≡ false → (xs : List Envelope) → line log q ≡ xs → Shape configs log a (rows.oldest_row empty xs)
  oldest_shape empty silent [] first = still configs log a empty (none empty) silent
  oldest_shape empty silent (x ∷ rest) first = taken_shape x rest first

-- what was told for what the event e asked
told_read : (configs : List Config) (log : List Entry) (e : ℕ) (a b : Act) (q : Queue) → asked_by log e ≡ Some b → is_told_to (Some b) e q ≡ true → reads configs log a q ≡ is_told_to (asked_by log e) e q
    → reads configs log a q ≡ true
told_read configs log e a b q asked there reading = reading ∙ (ap (λ o. is_told_to o e q) asked ∙ there)

pub answer_shape : (configs : List Config) (log : List Entry) (e : ℕ) → Shape configs log (act.Answer e) (rows.answer_row log e)
answer_shape configs log e = by_asked (asked_by log e) refl
  where
    gone : Shape configs log (act.Answer e) (only reply.Gone)
    gone = still configs log (act.Answer e) reply.Gone refl refl

    by_taken : (n : ℕ) (b : Bool) → reads configs log (act.Answer e) (queue.PeerSet n e) ≡ true
        → Shape configs log (act.Answer e) (cond b (only reply.Gone) (rows.oldest_row (cond (is_stopped log n) (reply.PeerSet None) reply.Pending) (line log (queue.PeerSet n e))))
    by_taken n true read = gone
    by_taken n false read = by_stop (is_stopped log n)
      where
        by_stop : (b : Bool) → Shape configs log (act.Answer e) (rows.oldest_row (cond b (reply.PeerSet None) reply.Pending) (line log (queue.PeerSet n e)))
        by_stop true = oldest_shape configs log (act.Answer e) (queue.PeerSet n e) (λ r. refl) read refl (reply.PeerSet None) refl (line log (queue.PeerSet n e)) refl
        by_stop false = oldest_shape configs log (act.Answer e) (queue.PeerSet n e) (λ r. refl) read refl reply.Pending refl (line log (queue.PeerSet n e)) refl

    by_asked : (o : Option Act) → asked_by log e ≡ o → Shape configs log (act.Answer e) (rows.answer_by log e o)
    by_asked (Some (act.Ask (ask.PeerSet index) n)) asked =
        by_taken n (rows.was_answered log e) (told_read configs log e (act.Answer e) (act.Ask (ask.PeerSet index) n) (queue.PeerSet n e) asked (same_queue-refl (queue.PeerSet n e)) refl)
    by_asked _ asked = gone

pub next_shape : (configs : List Config) (log : List Entry) (e : ℕ) → Shape configs log (act.Next e) (rows.next_row log e)
next_shape configs log e = by_asked (asked_by log e) refl
  where
    gone : Shape configs log (act.Next e) (only reply.Gone)
    gone = still configs log (act.Next e) reply.Gone refl refl

    silent : (n : ℕ) → is_read (rows.none_next log n) ≡ false
    silent n = by (is_stopped log n)
      where
        by : (b : Bool) → is_read (cond b reply.StreamEnded reply.Pending) ≡ false
        by true = refl
        by false = refl

    by_asked : (o : Option Act) → asked_by log e ≡ o → Shape configs log (act.Next e) (rows.next_by log e o)
    by_asked (Some (act.Ask ask.Subscribe n)) asked =
        oldest_shape configs log (act.Next e) (queue.PeerSetUpdates n e) (λ r. refl)
        (told_read configs log e (act.Next e) (act.Ask ask.Subscribe n) (queue.PeerSetUpdates n e) asked (same_queue-refl (queue.PeerSetUpdates n e)) refl) refl (rows.none_next log n) (silent n) (line log (queue.PeerSetUpdates n e)) refl
    by_asked (Some (act.Ask ask.Blocked n)) asked =
        oldest_shape configs log (act.Next e) (queue.Blocked n e) (λ r. refl)
        (told_read configs log e (act.Next e) (act.Ask ask.Blocked n) (queue.Blocked n e) asked (same_queue-refl (queue.Blocked n e)) refl) refl (rows.none_next log n) (silent n) (line log (queue.Blocked n e)) refl
    by_asked _ asked = gone

-- ---- its step

-- a put of a node's tracker: it tells of no copy and of no connection
abbrev IsTold : ℕ → Put → Type 0
IsTold n x = IsQuiet x × (in_tracker n x.0 ≡ true)

kinds_told : (n : ℕ) → EachKind n (IsTold n)
kinds_told n = record {
  kill = λ conn any. ((refl, refl), eq-eqb n n refl);
  update = λ e u. ((refl, refl), eq-eqb n n refl);
  blocked = λ e keys. ((refl, refl), eq-eqb n n refl);
  heard = λ ips. ((refl, refl), eq-eqb n n refl);
  answer = λ e o. ((refl, refl), eq-eqb n n refl);
}

module _ (n : ℕ) (rules : Rules Key) (at : ℕ) (updates sets : List ℕ) (calls : List (Call Key)) where
  unblocked_told : (c : Call Key) → Each (IsTold n) (puts.unblocked_puts rules n at updates sets calls c)
  unblocked_told c = each_unblocked n (IsTold n) (kinds_told n) rules at updates sets calls c

  -- what a handshake is told
  handshake_told : (name : ℕ) (told : IpAddr → Item) → ((source : IpAddr) → IsQuiet (queue.Handshake n name, told source)) → (runs : Bool) (source : Option IpAddr)
      → Each (IsTold n) (puts.handshake_puts rules n at updates sets calls name told runs source)
  handshake_told name told quiet true (Some source) = ((quiet source, eq-eqb n n refl), tt)
  handshake_told name told quiet true None = tt
  handshake_told name told quiet false source = tt

  item_told : (log : List Entry) (i : Item) → Each (IsTold n) (puts.item_puts rules n at updates sets calls log i)
  item_told log (item.Call e) = each_asked n (IsTold n) (kinds_told n) rules at updates sets calls e (asked_by log e)
  item_told log (item.Connect conn key) = each_connected n (IsTold n) (kinds_told n) rules at updates sets calls conn key
  item_told log item.AskDialable = (((refl, refl), eq-eqb n n refl), tt)
  item_told log (item.AskDial key) = (((refl, refl), eq-eqb n n refl), tt)
  item_told log (item.AskAcceptable name key) = handshake_told name (puts.acceptance rules n at updates sets calls key) (λ source. (refl, refl)) (is_handshaking log n name) (source_at log name)
  item_told log (item.AskListen name key) = handshake_told name (puts.listen_grant rules n at updates sets calls key) (λ source. (refl, refl)) (is_handshaking log n name) (source_at log name)
  item_told log _ = tt

-- a ring of the tracker takes items that carry no copy
abbrev IsRing : ℕ → Queue → Type 0
IsRing n q = (holds_bare q ≡ true) × (in_tracker n q ≡ true)

ring_near : (n : ℕ) (q : Queue) → in_tracker n q ≡ true → Each (IsRing n) (rows.ring_of q)
ring_near n (queue.Addresses m) h = ((refl, h), tt)
ring_near n (queue.Blocked m e) h = ((refl, h), tt)
ring_near n _ h = tt

rings_told : (n : ℕ) (xs : List Put) → Each (IsTold n) xs → Each (IsRing n) (rows.rings_of xs)
rings_told n [] h = tt
rings_told n (x ∷ xs) h = Each-append (IsRing n) (rows.ring_of x.0) (rows.rings_of xs) (ring_near n x.0 h.0.1) (rings_told n xs h.1)

module _ (configs : List Config) (log : List Entry) (n : ℕ) (xs : List Put) (told : Each (IsTold n) xs) where
  ringed : Each (IsRing n) (qs log xs)
  ringed = rings_told n xs told

  quiet : Each IsQuiet xs
  quiet = Each-weaker (IsTold n) IsQuiet (λ x h. h.0) xs told

  near : Each (λ x. in_tracker n x.0 ≡ true) xs
  near = Each-weaker (IsTold n) (λ x. in_tracker n x.0 ≡ true) (λ x h. h.1) xs told

  ends_near : (takes : List (ℕ × ℕ)) → Each (λ x. in_tracker n x.queue ≡ true) (rings (left log xs takes) (qs log xs))
  ends_near takes = rings_in (λ q. in_tracker n q ≡ true) (left log xs takes) (qs log xs) (Each-weaker (IsRing n) (λ q. in_tracker n q ≡ true) (λ q h. h.1) (qs log xs) ringed)

  ends_bare : (takes : List (ℕ × ℕ)) → Each StandsFit (live log) → Each (λ x. is_bare x.item ≡ true) (rings (left log xs takes) (qs log xs))
  ends_bare takes fitting =
      rings_bare (left log xs takes) (qs log xs) (left_apart log xs takes) (Each-filter StandsFit (stays takes) (live log) fitting)
      (Each-weaker (IsRing n) (λ q. holds_bare q ≡ true) (λ q h. h.0) (qs log xs) ringed)

  -- the oldest message is taken
  served_shape : (x : Envelope) (rest : List Envelope) → line log (queue.Tracker n) ≡ x ∷ rest → Shape configs log (act.Tracker n) (rows.tracker_told_row log (name_of x ∷ []) xs)
  served_shape x rest first =
      let r : Row = rows.tracker_told_row log (name_of x ∷ []) xs in
      let m : Moves log r = served_moves log xs (queue.Tracker n) x rest first in
      record {
        moves = m;
        reach = record { taken = (first_in (reads configs log (act.Tracker n)) log (queue.Tracker n) x rest first (same_queue-refl (queue.Tracker n)), tt); ended = ends_near (name_of x ∷ []); puts = near };
        laws = λ fitting.
            let whole : fits x.queue x.item ≡ true = first_has StandsFit log (queue.Tracker n) x rest fitting first in
            let fit : fits (queue.Tracker n) x.item ≡ true = subst (λ p. fits p x.item ≡ true) (one_taken log (queue.Tracker n) x rest first) whole in
            quiet_laws configs log (act.Tracker n) r m refl refl (bare_there (queue.Tracker n) x.item refl fit, tt) (ends_bare (name_of x ∷ []) fitting)
            (ring_ends_items (left log xs (name_of x ∷ [])) (qs log xs)) quiet;
      }

  -- blocks have ended, and nothing is taken
  unblocked_shape : Shape configs log (act.Tracker n) (rows.tracker_told_row log [] xs)
  unblocked_shape =
      let r : Row = rows.tracker_told_row log [] xs in
      let m : Moves log r = unblocked_moves log xs in
      record {
        moves = m;
        reach = record { taken = tt; ended = ends_near []; puts = near };
        laws = λ fitting. quiet_laws configs log (act.Tracker n) r m refl refl tt (ends_bare [] fitting) (ring_ends_items (left log xs []) (qs log xs)) quiet;
      }

module _ (configs : List Config) (log : List Entry) (n at : ℕ) where
  abbrev us : List ℕ
  us = update_subscriptions log n

  abbrev bs : List ℕ
  bs = blocked_subscriptions log n

  oldest_served : (xs : List Envelope) → line log (queue.Tracker n) ≡ xs → Shape configs log (act.Tracker n) (rows.served_row configs log n at xs)
  oldest_served [] first = still configs log (act.Tracker n) reply.Idle refl refl
  oldest_served (x ∷ rest) first =
      let xs : List Put = puts.item_puts (rules_at configs n) n at us bs (calls_of configs log n) log x.item in
      served_shape configs log n (puts.heeded (is_ended log n) xs)
      (Each-heeded (is_ended log n) (IsTold n) xs (item_told n (rules_at configs n) at us bs (calls_of configs log n) log x.item)) x rest first

  step_shape : Shape configs log (act.Tracker n) (rows.tracker_step configs log n at)
  step_shape = by_due (puts.is_some_of (due_keys key_cmp (rules_at configs n) (calls_of configs log n) at))
    where
      by_due : (b : Bool) → Shape configs log (act.Tracker n) (cond b (rows.tracker_told_row log [] (puts.unblocked_puts (rules_at configs n) n at us bs (calls_of configs log n) (call.UnblockExpired at))) (rows.served_row configs log n at (line log (queue.Tracker n))))
      by_due true = unblocked_shape configs log n (puts.unblocked_puts (rules_at configs n) n at us bs (calls_of configs log n) (call.UnblockExpired at)) (unblocked_told n (rules_at configs n) at us bs (calls_of configs log n) (call.UnblockExpired at))
      by_due false = oldest_served (line log (queue.Tracker n)) refl

  pub tracker_shape : Shape configs log (act.Tracker n) (rows.tracker_row configs log n at)
  tracker_shape = by_up (is_up log n)
    where
      by_up : (b : Bool) → Shape configs log (act.Tracker n) (cond b (rows.tracker_step configs log n at) (only reply.Gone))
      by_up true = step_shape
      by_up false = still configs log (act.Tracker n) reply.Gone refl refl
