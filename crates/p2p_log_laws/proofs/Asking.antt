-- Which acts ask for the peer of a handshake: its own step alone.
use Rattle.std.proofs.Common.{◌≡◌, ℕ, Bool, true, false, cond, List, [], ◌∷◌, length, Option, Some, None, inl, inr, refl, ap, sym, subst, ◌∙◌, arith, eqb-true}
use Rattle.std.specs.Prelude.{◌==◌, ◌&&◌, ◌||◌}
use Rattle.std.specs.List.{AllByRecursion as Each}
use Rattle.std.proofs.lemmas.Bool.Decides.{nat_tests}
use Rattle.p2p_log_rules.proofs.Bools.{and_false}
use Rattle.p2p_address.specs.declared.ip.IpAddr.{IpAddr}
use Rattle.p2p_tracker_calls.specs.declared.call.Call.{Call}
use Rattle.p2p_tracker_calls.specs.declared.call.Call.TheVariants as call
use Rattle.p2p_tracker_calls.specs.BlockedKeys.{due_keys}
use Rattle.p2p_tracker_calls.specs.Rules.{Rules}
use Rattle.p2p_base.specs.declared.key.Key.{Key}
use Rattle.p2p_log.specs.declared.config.Config.{Config}
use Rattle.p2p_log.specs.declared.queue.Queue.{Queue}
use Rattle.p2p_log.specs.declared.queue.Queue.TheVariants as queue
use Rattle.p2p_log.specs.declared.queue.Side.{Side}
use Rattle.p2p_log.specs.declared.queue.Side.TheVariants as side
use Rattle.p2p_log.specs.declared.item.Item.{Item}
use Rattle.p2p_log.specs.declared.item.Item.TheVariants as item
use Rattle.p2p_log.specs.declared.item.Envelope.{Envelope}
use Rattle.p2p_log.specs.declared.entry.Entry.{Entry}
use Rattle.p2p_log.specs.declared.entry.Reply.TheVariants as reply
use Rattle.p2p_log.specs.declared.event.Act.{Act}
use Rattle.p2p_log.specs.declared.event.Act.TheVariants as act
use Rattle.p2p_log.specs.QueueCode.{same_queue}
use Rattle.p2p_log.specs.Lines.{line}
use Rattle.p2p_log.proofs.Each.{Each-weaker}
use Rattle.p2p_log_rules.specs.Connections.{is_ended}
use Rattle.p2p_log_rules.specs.declared.row.Row.{Row}
use Rattle.p2p_log_rules.specs.Dropping.{attempt_step_row, handshake_step_row, listener_step_row}
use Rattle.p2p_log_rules.specs.Dialing.{dialer_row}
use Rattle.p2p_log_rules.specs.Effect.{row, send_step_row, recv_step_row}
use Rattle.p2p_log_rules.specs.Facts.{is_up}
use Rattle.p2p_log_rules.specs.Handshakes.{is_handshaking, source_at}
use Rattle.p2p_log_rules.proofs.HandshakeTook.{IsOther, other_step}
use Rattle.p2p_log_rules.specs.Rows.{only}
use Rattle.p2p_log_rules.specs.Tracking.{key_cmp, rules_at, asked_by, calls_of, update_subscriptions, blocked_subscriptions}
use Rattle.p2p_log_rules.specs.TrackerPuts as puts
use Rattle.p2p_log_rules.specs.TrackerPuts.{acceptance, listen_grant, handshake_puts, item_puts}
use Rattle.p2p_log_rules.specs.TrackerRows as rows
use Rattle.p2p_log_rules.specs.declared.row.Opening.{Opening}
use Rattle.p2p_log_rules.specs.Links.{openings_of}
use Rattle.p2p_log_rules.proofs.Touches.{in_ends, away}
use Rattle.p2p_log_laws.proofs.Reaching.{writes}
use Rattle.p2p_log_laws.specs.OneAnswer.{exchanges, asks_for, is_asked}
use Rattle.p2p_log_laws.proofs.Answering.{Silent, Asks, ask_silent, dialer_silent, attempt_silent, listener_asks}
use Rattle.p2p_log_laws.proofs.HandshakeAnswers.{row_silent}
use Rattle.p2p_log_laws.proofs.Shape.{Shape}
use Rattle.p2p_log_laws.proofs.Shapes.{row_shape}
use Rattle.p2p_log_laws.proofs.HalfSteps.{each_step, send_is, receive_is}
use Rattle.p2p_log_laws.proofs.TrackerPuts.{EachKind, each_unblocked, each_asked, each_connected}
use Rattle.p2p_log_laws.proofs.Heeded.{Each-heeded}

module _ (n name : ℕ) where
  abbrev pub Unasked : Queue × Item → Type 0
  Unasked x = is_asked n name x ≡ false

  unasked_item : (q : Queue) (i : Item) → asks_for n name i ≡ false → Unasked (q, i)
  unasked_item q i none = ap (λ b. same_queue (queue.Tracker n) q && b) none ∙ and_false (same_queue (queue.Tracker n) q)

  -- what is not for a handshake does not ask for its peer
  silent_unasked : (x : Queue × Item) → Silent exchanges n name x → Unasked x
  silent_unasked x silent = by x.1 silent
    where
      first : (a b : Bool) → (a || b) ≡ false → a ≡ false
      first false b h = refl
      first true b h = cc

      by : (i : Item) → Silent exchanges n name (x.0, i) → Unasked (x.0, i)
      by (item.AskListen k key) h = first (same_queue (queue.Tracker n) x.0 && (k == name)) (same_queue (queue.Handshake n name) x.0 && true) h
      by i h = unasked_item x.0 i refl

  all_unasked : (xs : List (Queue × Item)) → Each (Silent exchanges n name) xs → Each Unasked xs
  all_unasked xs h = Each-weaker (Silent exchanges n name) Unasked silent_unasked xs h

  kinds_unasked : EachKind n Unasked
  kinds_unasked = record { kill = λ conn any. refl; update = λ e u. refl; blocked = λ e keys. refl; heard = λ ips. refl; answer = λ e o. refl }

  module _ (configs : List Config) (log : List Entry) (at seed : ℕ) where
    out_of_reach : (a : Act) (r : Row) → Shape configs log a r → writes configs log a (queue.Tracker n) ≡ false → Each Unasked r.puts
    out_of_reach a r shape none =
        Each-weaker (λ x. writes configs log a x.0 ≡ true) Unasked (λ x there. ap (λ b. b && asks_for n name x.1) (away (writes configs log a) (queue.Tracker n) x.0 none there)) r.puts shape.reach.puts

    module _ (rules : Rules Key) (us bs : List ℕ) (calls : List (Call Key)) where
      told_unasked : (k : ℕ) (told : IpAddr → Item) (runs : Bool) (source : Option IpAddr) → Each Unasked (handshake_puts rules n at us bs calls k told runs source)
      told_unasked k told true (Some source) = (refl, tt)
      told_unasked k told true None = tt
      told_unasked k told false source = tt

      item_unasked : (i : Item) → Each Unasked (item_puts rules n at us bs calls log i)
      item_unasked (item.Call e) = each_asked n Unasked kinds_unasked rules at us bs calls e (asked_by log e)
      item_unasked (item.Connect conn k) = each_connected n Unasked kinds_unasked rules at us bs calls conn k
      item_unasked item.AskDialable = (refl, tt)
      item_unasked (item.AskDial k) = (refl, tt)
      item_unasked (item.AskAcceptable k key) = told_unasked k (acceptance rules n at us bs calls key) (is_handshaking log n k) (source_at log k)
      item_unasked (item.AskListen k key) = told_unasked k (listen_grant rules n at us bs calls key) (is_handshaking log n k) (source_at log k)
      item_unasked _ = tt

    abbrev us : List ℕ
    us = update_subscriptions log n

    abbrev bs : List ℕ
    bs = blocked_subscriptions log n

    abbrev rules : Rules Key
    rules = rules_at configs n

    abbrev calls : List (Call Key)
    calls = calls_of configs log n

    served_unasked : (xs : List Envelope) → Each Unasked (rows.served_row configs log n at xs).puts
    served_unasked [] = tt
    served_unasked (x ∷ xs) = Each-heeded (is_ended log n) Unasked (puts.item_puts rules n at us bs calls log x.item) (item_unasked rules us bs calls x.item)

    tracker_unasked : Each Unasked (rows.tracker_row configs log n at).puts
    tracker_unasked = by_up (is_up log n)
      where
        by_due : (b : Bool) → Each Unasked
            (cond b (rows.tracker_told_row log [] (puts.unblocked_puts rules n at us bs calls (call.UnblockExpired at))) (rows.served_row configs log n at (line log (queue.Tracker n)))).puts
        by_due true = each_unblocked n Unasked kinds_unasked rules at us bs calls (call.UnblockExpired at)
        by_due false = served_unasked (line log (queue.Tracker n))

        by_up : (b : Bool) → Each Unasked (cond b (rows.tracker_step configs log n at) (only reply.Gone)).puts
        by_up true = by_due (puts.is_some_of (due_keys key_cmp rules calls at))
        by_up false = tt

    other_way : (m k : ℕ) → (m == k) ≡ false → (k == m) ≡ false
    other_way m k h = grind (arith, nat_tests)

    tracker_at : (m : ℕ) (b : Bool) → (m == n) ≡ b → Each Unasked (row configs log at seed (act.Tracker m)).puts
    unfolding row
    tracker_at m true same = subst (λ i. Each Unasked (rows.tracker_row configs log i at).puts) (sym (eqb-true m n same)) tracker_unasked
    tracker_at m false differ = out_of_reach (act.Tracker m) (rows.tracker_row configs log m at) (row_shape configs log at seed (act.Tracker m)) (other_way m n differ)

    listens_unasked : (m : ℕ) (xs : List (Queue × Item)) → Asks exchanges n name configs log at seed m xs → Each Unasked xs
    listens_unasked m xs (inl none) = subst (Each Unasked) (sym none) tt
    listens_unasked m xs (inr asked) = subst (Each Unasked) (sym asked.1) (unasked_item (queue.Tracker m) (item.AskAcceptable (length log) asked.0) refl, tt)

    link_unasked : (e : ℕ) (s : Side) (i : Item) → Unasked (queue.Link e s, i)
    link_unasked e side.Out i = refl
    link_unasked e side.In i = refl

    ends_aside : (o : Option Opening) → in_ends o (queue.Tracker n) ≡ false
    ends_aside None = refl
    ends_aside (Some o) = refl

    pub each_unasked : (a : Act) → IsOther n name a → Each Unasked (row configs log at seed a).puts
    unfolding row
    each_unasked (act.Ask what m) other = all_unasked (rows.ask_row configs log m what).puts (ask_silent exchanges n name configs log at seed what m)
    each_unasked (act.Tracker m) other = tracker_at m (m == n) refl
    each_unasked (act.Dialer m) other = all_unasked (dialer_row configs log m at seed).puts (dialer_silent exchanges n name configs log at seed m)
    each_unasked (act.Attempt e m) other = all_unasked (attempt_step_row configs log e m at seed).puts (attempt_silent exchanges n name configs log at seed e m)
    each_unasked (act.Listener m) other = listens_unasked m (listener_step_row configs log m at).puts (listener_asks exchanges n name configs log at seed m)
    each_unasked (act.Handshake k m) other = all_unasked (handshake_step_row configs log k m at).puts (row_silent exchanges n name configs log at seed k m (other_step n name m k other))
    each_unasked (act.Finish link ok) other = out_of_reach (act.Finish link ok) (row configs log at seed (act.Finish link ok)) (row_shape configs log at seed (act.Finish link ok)) (ends_aside (openings_of log link))
    each_unasked (act.SendStep conn m) other =
        each_step Unasked log m conn (send_step_row configs log conn m at) (λ key. (refl, (unasked_item (queue.Tracker m) (item.Release key) refl, tt)))
        (send_is configs log conn m at Unasked (λ key. unasked_item (queue.Tracker m) (item.Connect conn key) refl) (λ key. refl) link_unasked)
    each_unasked (act.RecvStep conn m) other =
        each_step Unasked log m conn (recv_step_row configs log conn m at) (λ key. (refl, (unasked_item (queue.Tracker m) (item.Release key) refl, tt)))
        (receive_is configs log conn m at Unasked (λ i. refl) (λ c i. refl))
    each_unasked a other = out_of_reach a (row configs log at seed a) (row_shape configs log at seed a) refl
