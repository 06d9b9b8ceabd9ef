-- What a step of a node's tracker leaves as it was, and what it makes of the rest.
use Rattle.std.proofs.Common.{◌≡◌, ℕ, true, false, List, [], ◌∷◌, ◌++◌, map, length, refl, ap, sym, subst, ◌∙◌}
use Rattle.std.specs.Prelude.{◌==◌, flat_map}
use Rattle.std.specs.List.{list_any}
use Rattle.p2p_base.specs.declared.key.Key.{Key}
use Rattle.p2p_tracker_mailbox.specs.Lines.{line_of}
use Rattle.p2p_tracker_mailbox.specs.declared.message.Message.{Message}
use Rattle.p2p_tracker.specs.Following.{Follows}
use Rattle.p2p_log.specs.declared.config.Config.{Config}
use Rattle.p2p_log.specs.declared.queue.Queue.{Queue}
use Rattle.p2p_log.specs.declared.queue.Queue.TheVariants as queue
use Rattle.p2p_log.specs.declared.item.Envelope.{Envelope}
use Rattle.p2p_log.specs.declared.entry.Entry.{Entry}
use Rattle.p2p_log.specs.declared.event.Act.TheVariants as act
use Rattle.p2p_log.specs.Lines.{name_of, line}
use Rattle.p2p_log_rules.specs.declared.row.Row.{Row}
use Rattle.p2p_log_rules.specs.Effect.{entry_of}
use Rattle.p2p_log_rules.specs.Handshakes.{is_handshaking}
use Rattle.p2p_log_rules.specs.Tracking.{key_cmp, calls_of, update_subscriptions, blocked_subscriptions}
use Rattle.p2p_log_rules.proofs.Channels.{is_stopped-kept}
use Rattle.p2p_log_rules.proofs.Connections.{ends_untold}
use Rattle.p2p_log_rules.proofs.Handshakes.{handshakes_of-apart}
use Rattle.p2p_net_queues.specs.Board.{held}
use Rattle.p2p_net_tracker.specs.AtDesk.{Rises, blocked_asked, DeskStands}
use Rattle.p2p_net_tracker.specs.GivenBack.{IsGivenBack}
use Rattle.p2p_net_tracker.specs.declared.tracker.Tracker.{Tracker}
use Rattle.p2p_net_queues.specs.Matching.{Match}
use Rattle.p2p_net_tracker.specs.Stands.{is_told, IsTicket, IsMessage, IsAnswer, HeardStands, HandshakeStands, AreDistinct, TrackerStands}
use Rattle.p2p_net_tracker.proofs.Changes.{same_tickets, messages-longer}
use Rattle.p2p_net_tracker.proofs.Desk.{LeavesDesk}
use Rattle.p2p_net_tracker.proofs.Ended.{noted_stay}
use Rattle.p2p_net_tracker.proofs.GivenBack.{all_given-longer}
use Rattle.p2p_net_tracker.proofs.Facts.{asks_at-kept, fresh-longer, was_answered-kept}

-- the entry of a step with this row
abbrev pub step_entry : ℕ → ℕ → ℕ → Row → Entry
step_entry at seed n r = entry_of (record { at = at; seed = seed; act = act.Tracker n }) r

-- what a step leaves as it was, and what it makes of the rest: these messages wait in these envelopes
pub record Left (configs : List Config) (log : List Entry) (at seed n : ℕ) (t u : Tracker) (r : Row) (waits : List Envelope) (messages : List (Message Key)) : Type 0 where
  pub rest : u ≡ record t { actor = u.actor; mailbox = u.mailbox; names = u.names; told = u.told }
  pub rules : u.actor.directory.rules ≡ t.actor.directory.rules
  pub cooldown : u.actor.cooldown ≡ t.actor.cooldown
  pub works : u.actor.has_failed ≡ false
  pub follows : Follows key_cmp u.actor.directory u.actor.controls (calls_of configs (log ++ step_entry at seed n r ∷ []) n)
  pub subscribed : Match (IsTicket t.tickets.updates) u.actor.updates (update_subscriptions (log ++ step_entry at seed n r ∷ []) n)
  pub subscribed_blocked : Match (IsTicket t.tickets.blocked) u.actor.sets (blocked_subscriptions (log ++ step_entry at seed n r ∷ []) n)
  pub mailbox : line (log ++ step_entry at seed n r ∷ []) (queue.Tracker n) ≡ waits
  pub names_left : u.names ≡ map name_of waits
  pub each : Match (λ x m. IsMessage t.tickets log x.item m) waits messages
  pub given : Match (λ x m. IsGivenBack log x.entry m) waits messages
  pub desk : LeavesDesk t.mailbox.desk (record u.mailbox.desk { messages = record u.mailbox.desk.messages { items = t.mailbox.desk.messages.items } })
  pub items : u.mailbox.desk.messages.items ≡ messages
  pub answered : Match (λ x a. IsAnswer x.item a) (line (log ++ step_entry at seed n r ∷ []) (queue.Dialer n)) u.mailbox.dialer
  pub heard_left : HeardStands u.mailbox.heard (line (log ++ step_entry at seed n r ∷ []) (queue.Addresses n))
  pub told_handshakes : (k : ℕ) → HandshakeStands (line_of u.mailbox.handshakes k) (is_handshaking log n k) (line (log ++ step_entry at seed n r ∷ []) (queue.Handshake n k))
  pub distinct : AreDistinct u.mailbox.handshakes
  pub rises : Rises 0 (length u.mailbox.desk.sets) (u.actor.sets ++ flat_map blocked_asked u.mailbox.desk.messages.items)
  pub polled : DeskStands n t.tickets t.answered (held u.told) u.mailbox.desk
  pub told_left : (q : Queue) → is_told n q ≡ true → held u.told q ≡ line (log ++ step_entry at seed n r ∷ []) q

pub stands_after : (configs : List Config) (log : List Entry) (at seed n : ℕ) (t u : Tracker) (r : Row) (waits : List Envelope) (messages : List (Message Key)) → TrackerStands configs log n t
    → Left configs log at seed n t u r waits messages → TrackerStands configs (log ++ step_entry at seed n r ∷ []) n u
stands_after configs log at seed n t u r waits messages s h =
    let e = step_entry at seed n r in
    subst (TrackerStands configs (log ++ e ∷ []) n) (sym h.rest) (record {
      follows = h.follows;
      rules = h.rules ∙ s.rules;
      cooldown = h.cooldown ∙ s.cooldown;
      works = h.works;
      local = s.local;
      most = s.most;
      closed = ap (λ m. m.closed) h.desk.messages ∙ (s.closed ∙ sym (is_stopped-kept log e n refl));
      size = ap (λ m. m.capacity) h.desk.messages ∙ s.size;
      names = h.names_left ∙ ap (map name_of) (sym h.mailbox);
      messages = subst (λ l. Match (λ x m. IsMessage t.tickets (log ++ e ∷ []) x.item m) l u.mailbox.desk.messages.items) (sym h.mailbox)
          (subst (Match (λ (x : Envelope) m. IsMessage t.tickets (log ++ e ∷ []) x.item m) waits) (sym h.items)
          (messages-longer t.tickets t.tickets (same_tickets t.tickets) log (e ∷ []) waits messages h.each));
      given_back = subst (λ l. Match (λ x m. IsGivenBack (log ++ e ∷ []) x.entry m) l u.mailbox.desk.messages.items) (sym h.mailbox)
          (subst (Match (λ (x : Envelope) m. IsGivenBack (log ++ e ∷ []) x.entry m) waits) (sym h.items) (all_given-longer log (e ∷ []) waits messages h.given));
      questions = h.desk.questions ∙ s.questions;
      updates = h.desk.updates ∙ s.updates;
      sets = h.desk.sets ∙ s.sets;
      subscribed = h.subscribed;
      subscribed_blocked = h.subscribed_blocked;
      rises = h.rises;
      tickets = s.tickets;
      asked = λ d. s.asked d ∙ sym (asks_at-kept log e n d refl);
      answered = λ d is. s.answered d (sym (asks_at-kept log e n d refl) ∙ is) ∙ sym (was_answered-kept log e d refl);
      fresh = fresh-longer log e t.answered s.fresh (λ d past. refl);
      ended = noted_stay log e n t.ended s.ended (λ conn. ends_untold log e n conn (act.Tracker n) refl refl);
      dialer = h.answered;
      heard = h.heard_left;
      handshakes = λ k. subst (λ l. HandshakeStands (line_of u.mailbox.handshakes k) (list_any (λ j. k == j) l) (line (log ++ e ∷ []) (queue.Handshake n k))) (sym (handshakes_of-apart log e n refl)) (h.told_handshakes k);
      distinct = h.distinct;
      polled = h.polled;
      told = h.told_left;
    })
