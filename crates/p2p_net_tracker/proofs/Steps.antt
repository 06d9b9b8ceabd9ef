-- A step of a node's tracker: its row is the log's, and it stands for the log with that entry.
use Rattle.std.proofs.Common.{◌≡◌, ℕ, Bool, true, false, cond, List, [], ◌∷◌, ◌++◌, map, drop, length, refl, ap, sym, subst, ◌∙◌, append-nil, Option, Some, inl}
use Rattle.std.specs.Prelude.{filter, flat_map, slice_get, count_by}
use Rattle.std.specs.List.{list_any, IsDistinct, AllByRecursion as Each}
use Rattle.std.specs.Map.{keys_of}
use Rattle.std.specs.Ordering.{nat_cmp, eq_by_cmp}
use Rattle.p2p_base.specs.declared.key.Key.{Key}
use Rattle.p2p_base.specs.Queue as base
use Rattle.p2p_tracker_calls.specs.declared.call.Call.{Call}
use Rattle.p2p_tracker_calls.specs.declared.call.Call.TheVariants as call
use Rattle.p2p_tracker_calls.specs.BlockedKeys.{due_keys}
use Rattle.p2p_tracker_calls.specs.Jitter.{jitter_of}
use Rattle.p2p_tracker_calls.specs.Rules.{Rules}
use Rattle.p2p_tracker_mailbox.specs.Desk.{next_message}
use Rattle.p2p_tracker_mailbox.specs.Lines.{line_of}
use Rattle.p2p_tracker_mailbox.specs.Mailboxes.{runs_in}
use Rattle.p2p_tracker_mailbox.specs.declared.mailbox.Mailbox.{Mailbox}
use Rattle.p2p_tracker_mailbox.specs.declared.message.Message.{Message}
use Rattle.p2p_tracker.specs.Following.{Follows}
use Rattle.p2p_tracker.specs.Serving.{calls_by, left_in}
use Rattle.p2p_tracker.specs.Steps.{unblocked, puts_for, stepped_of, taken_or_idle, by_step, updates_for, sets_for}
use Rattle.p2p_tracker.specs.Telling.{has_any, after_puts}
use Rattle.p2p_tracker.specs.declared.stepped.Put.{Put}
use Rattle.p2p_tracker.specs.declared.stepped.Stepped.{Stepped}
use Rattle.p2p_tracker.specs.declared.stepped.Stepped.TheVariants as stepped
use Rattle.p2p_log.specs.declared.config.Config.{Config}
use Rattle.p2p_log.specs.declared.queue.Queue.{Queue}
use Rattle.p2p_log.specs.declared.queue.Queue.TheVariants as queue
use Rattle.p2p_log.specs.declared.item.Item.{Item}
use Rattle.p2p_log.specs.declared.item.Item.TheVariants as item
use Rattle.p2p_log.specs.declared.item.Envelope.{Envelope}
use Rattle.p2p_log.specs.declared.entry.Entry.{Entry}
use Rattle.p2p_log.specs.declared.entry.Reply.TheVariants as reply
use Rattle.p2p_log.specs.Lines.{name_of, ended_item, goes, stays, live, line, placed, stands_in}
use Rattle.p2p_log_rules.specs.declared.row.Row.{Row}
use Rattle.p2p_log_rules.specs.Connections.{is_ended}
use Rattle.p2p_log_rules.specs.Facts.{taken}
use Rattle.p2p_log_rules.specs.Handshakes.{is_handshaking}
use Rattle.p2p_log_rules.specs.Rows.{only, taken_row}
use Rattle.p2p_log_rules.specs.Tracking.{key_cmp, rules_at, grants_peer, calls_of, update_subscriptions, blocked_subscriptions}
use Rattle.p2p_log_rules.specs.TrackerPuts as puts
use Rattle.p2p_log_rules.specs.TrackerPuts.{heeded}
use Rattle.p2p_log_rules.specs.TrackerRows.{rings_of, tracker_told_row, served_row, tracker_step}
use Rattle.p2p_net_queues.specs.Board.{held}
use Rattle.p2p_net_queues.proofs.Going.{line-kept}
use Rattle.p2p_net_tracker.specs.declared.tracker.Tracker.{Tracker}
use Rattle.p2p_net_tracker.specs.AtDesk.{Rises, blocked_asked, DeskStands}
use Rattle.p2p_net_tracker.specs.GivenBack.{IsGivenBack}
use Rattle.p2p_net_tracker.specs.Heeding.{is_noted, heeded_by}
use Rattle.p2p_net_tracker.specs.Naming.{named_puts}
use Rattle.p2p_net_tracker.specs.Telling.{lost, told_in, told_to}
use Rattle.p2p_net_tracker.specs.Stepping.{ActorSteps, Tells, TellsFor, TellsBy, Steps}
use Rattle.p2p_net_queues.specs.Matching.{Match}
use Rattle.p2p_net_tracker.specs.Stands.{is_told, IsTicket, IsMessage, IsAnswer, HeardStands, HandshakeStands, AreDistinct, AsksRun, TrackerStands}
use Rattle.p2p_net_tracker.proofs.AtDesk.{IsTicketed, desk-held, desk-after}
use Rattle.p2p_net_tracker.proofs.Desk.{all_left}
use Rattle.p2p_net_tracker.proofs.Dialing.{answers_in, answers-after, answers-named}
use Rattle.p2p_log_rules.proofs.Calls.{item_calls, step_calls}
use Rattle.p2p_net_tracker.proofs.LateKills.{without_late, each-late, heeded-same, named-late, mailbox-late, few-late, grants-late, unblocked-late}
use Rattle.p2p_net_tracker.proofs.Hearing.{TellsFew, few_dialed, runs_is, unblocked_once, item_few, heard-after, handshakes-after, keys-after}
use Rattle.p2p_net_queues.proofs.Matching.{Match-append}
use Rattle.p2p_net_tracker.proofs.Named.{has_any-is, named-unblocked, named-item}
use Rattle.p2p_net_tracker.proofs.Rings.{is_same}
use Rattle.p2p_net_tracker.proofs.SetsOnce.{SetsOnce, unblocked_sets, message_sets, sets-late, rises_first}
use Rattle.p2p_net_tracker.proofs.StepFacts.{calls-step, equal_keys, first_taken, none_taken, rises_taken, sets-step, updates-step}
use Rattle.p2p_net_tracker.proofs.StepLeft.{step_entry, stands_after}
use Rattle.p2p_net_tracker.proofs.Ticketed.{unblocked_ticketed, item_ticketed}
use Rattle.p2p_net_tracker.proofs.Serving.{AskerRuns, item-calls, item-updates, item-sets}
use Rattle.p2p_net_tracker.proofs.ToldLines.{named-each, Told, holds_told, mailbox-told, dialer-told, heard-told, handshake-told, lost_is, away_none, away_first, mailbox_first}

module _ (configs : List Config) (log : List Entry) (at seed n : ℕ) (t u : Tracker) (r : Row) (s : TrackerStands configs log n t) where
  abbrev calls : List (Call Key)
  calls = calls_of configs log n

  abbrev us : List ℕ
  us = update_subscriptions log n

  abbrev bs : List ℕ
  bs = blocked_subscriptions log n

  abbrev rules : Rules Key
  rules = rules_at configs n

  abbrev e : Entry
  e = step_entry at seed n r

  -- what the actor put, but for the kills of connections that have ended
  abbrev heed : List (Put Key) → List (Put Key)
  heed put = without_late (is_noted t.ended) put

  tells_heeded : (before : Row) (put : List (Put Key)) → Tells (length log) before (heeded_by t.ended (named_puts n t.tickets put)) t u r → Tells (length log) before (named_puts n t.tickets (heed put)) t u r
  tells_heeded before put = subst (λ xs. Tells (length log) before xs t u r) (sym (named-late (is_noted t.ended) n t.tickets put))

  heeded_is : (put : List (Put Key)) (xs : List puts.Put) → named_puts n t.tickets put ≡ xs → named_puts n t.tickets (heed put) ≡ heeded (is_ended log n) xs
  heeded_is put xs is = named-late (is_noted t.ended) n t.tickets put ∙ (ap (heeded (is_noted t.ended)) is ∙ heeded-same (is_noted t.ended) (is_ended log n) s.ended xs)

  -- the actor's next calls, by the rules of the log
  follows_next : (st : Stepped Key) (m : Option (Message Key)) (next : List (Call Key))
      → Follows key_cmp u.actor.directory u.actor.controls (calls_by key_cmp t.actor.directory.rules st m at (jitter_of t.actor.cooldown seed) calls)
      → calls_by key_cmp rules st m at (jitter_of rules.cooldown seed) calls ≡ next → Follows key_cmp u.actor.directory u.actor.controls next
  follows_next st m next h is =
      subst (Follows key_cmp u.actor.directory u.actor.controls)
      (ap (λ k. calls_by key_cmp k st m at (jitter_of t.actor.cooldown seed) calls) s.rules ∙ (ap (λ c. calls_by key_cmp rules st m at (jitter_of c seed) calls) s.cooldown ∙ is)) h

  -- what is told, once it is known what the step took
  told_now : (names : List (ℕ × ℕ)) (before : Row) (put : List (Put Key)) → Tells (length log) before (named_puts n t.tickets put) t u r → before.takes ≡ names → before.puts ≡ [] → before.ends ≡ []
      → ((p : Queue) → is_told n p ≡ true → filter (stands_in p) (filter (stays names) (live log)) ≡ line log p) → Told log e n names (named_puts n t.tickets put)
  told_now names before put tells takes none_put none_end away =
      let xs = named_puts n t.tickets put in
      let each = named-each n t.tickets put in
      record {
        takes = ap (λ (k : Row). k.takes) tells.row ∙ takes;
        puts = ap (λ (k : Row). k.puts) tells.row ∙ ap (λ l. l ++ xs) none_put;
        ends = ap (λ (k : Row). k.ends) tells.row ∙ (ap (λ l. l ++ lost (held t.told) [] (rings_of xs)) none_end ∙ lost_is log n names xs (held t.told) each away s.told);
        each = each;
        away = away;
      }

  row_now : (names : List (ℕ × ℕ)) (before : Row) (put : List (Put Key)) (xs : List puts.Put) → Tells (length log) before (named_puts n t.tickets put) t u r → before ≡ record { reply = reply.Ok; takes = names; puts = []; ends = [] }
      → ((p : Queue) → is_told n p ≡ true → filter (stands_in p) (filter (stays names) (live log)) ≡ line log p) → named_puts n t.tickets put ≡ xs → r ≡ tracker_told_row log names xs
  row_now names before put xs tells is away named =
      let ys = named_puts n t.tickets put in
      tells.row
      ∙ (ap (told_in (held t.told) ys) is
      ∙ (ap (λ l. record { reply = reply.Ok; takes = names; puts = ys; ends = l }) (lost_is log n names ys (held t.told) (named-each n t.tickets put) away s.told)
      ∙ ap (tracker_told_row log names) named))

  told_after : (names : List (ℕ × ℕ)) (before : Row) (put : List (Put Key)) → Tells (length log) before (named_puts n t.tickets put) t u r → before.puts ≡ [] → Told log e n names (named_puts n t.tickets put)
      → (q : Queue) → is_told n q ≡ true → held u.told q ≡ line (log ++ e ∷ []) q
  told_after names before put tells none_put told =
      holds_told log e n names (named_puts n t.tickets put) told (held t.told) (held u.told) s.told
      (λ p. tells.told p ∙ ap (λ l. told_to (held t.told) (named_puts n t.tickets put) (length log) (length l) p) none_put)

  -- what the dialer is answered, beside what waits for it
  answers_now : (names : List (ℕ × ℕ)) (put : List (Put Key)) (start : Mailbox Key) → Told log e n names (named_puts n t.tickets put) → u.mailbox ≡ after_puts put start → TellsFew (runs_in start) put
      → Match (λ x a. IsAnswer x.item a) (line log (queue.Dialer n)) start.dialer → Match (λ x a. IsAnswer x.item a) (line (log ++ e ∷ []) (queue.Dialer n)) u.mailbox.dialer
  answers_now names put start told mailbox few before =
      let xs = named_puts n t.tickets put in
      let added = filter (stands_in (queue.Dialer n)) (placed (length log) 0 xs) in
      subst (λ l. Match (λ x a. IsAnswer x.item a) l u.mailbox.dialer) (sym (dialer-told log e n names xs told))
      (subst (Match (λ (x : Envelope) a. IsAnswer x.item a) (line log (queue.Dialer n) ++ added)) (sym (ap (λ (m : Mailbox Key). m.dialer) mailbox ∙ answers-after put start))
      (Match-append (λ (x : Envelope) a. IsAnswer x.item a) (line log (queue.Dialer n)) added start.dialer (answers_in put) before (answers-named n t.tickets (length log) 0 put (few_dialed (runs_in start) put few))))

  -- what the listener is told, in place of what waits for it
  heard_now : (names : List (ℕ × ℕ)) (put : List (Put Key)) (start : Mailbox Key) → Told log e n names (named_puts n t.tickets put) → u.mailbox ≡ after_puts put start → TellsFew (runs_in start) put
      → HeardStands start.heard (line log (queue.Addresses n)) → HeardStands u.mailbox.heard (line (log ++ e ∷ []) (queue.Addresses n))
  heard_now names put start told mailbox few before =
      let q = queue.Addresses n in
      let xs = named_puts n t.tickets put in
      subst (HeardStands u.mailbox.heard) (sym (heard-told log e n names xs told))
      (subst (λ (m : Mailbox Key). HeardStands m.heard (drop (count_by (is_same q) (rings_of xs)) (line log q) ++ filter (stands_in q) (placed (length log) 0 xs))) (sym mailbox)
      (heard-after n t.tickets (length log) put start (line log (queue.Addresses n)) few before))

  -- what handshakes are told, beside what waits for them
  handshakes_now : (names : List (ℕ × ℕ)) (put : List (Put Key)) (start : Mailbox Key) → Told log e n names (named_puts n t.tickets put) → u.mailbox ≡ after_puts put start → TellsFew (runs_in start) put
      → ((k : ℕ) → HandshakeStands (line_of start.handshakes k) (is_handshaking log n k) (line log (queue.Handshake n k)))
      → (k : ℕ) → HandshakeStands (line_of u.mailbox.handshakes k) (is_handshaking log n k) (line (log ++ e ∷ []) (queue.Handshake n k))
  handshakes_now names put start told mailbox few before k =
      let q = queue.Handshake n k in
      let xs = named_puts n t.tickets put in
      subst (HandshakeStands (line_of u.mailbox.handshakes k) (is_handshaking log n k)) (sym (handshake-told log e n names xs told k))
      (subst (λ (m : Mailbox Key). HandshakeStands (line_of m.handshakes k) (is_handshaking log n k) (line log q ++ filter (stands_in q) (placed (length log) 0 xs))) (sym mailbox)
      (handshakes-after n t.tickets (length log) start (is_handshaking log n) (λ j. line log (queue.Handshake n j)) before put few k))

  -- and none more runs
  distinct_now : (put : List (Put Key)) (start : Mailbox Key) → u.mailbox ≡ after_puts put start → AreDistinct start.handshakes → AreDistinct u.mailbox.handshakes
  distinct_now put start mailbox = subst (IsDistinct (eq_by_cmp nat_cmp)) (sym (ap (λ (m : Mailbox Key). keys_of m.handshakes) mailbox ∙ keys-after put start))

  -- what waits at the desk for those who asked, beside the names of it
  polled_now : (before : Row) (put : List (Put Key)) (start : Mailbox Key) → Tells (length log) before (named_puts n t.tickets put) t u r → before.puts ≡ [] → u.mailbox ≡ after_puts put start
      → length start.desk.updates ≡ length t.tickets.updates → length start.desk.sets ≡ length t.tickets.blocked → Each (IsTicketed t.tickets) put → SetsOnce put → DeskStands n t.tickets t.answered (held t.told) start.desk
      → DeskStands n t.tickets t.answered (held u.told) u.mailbox.desk
  polled_now before put start tells none_put mailbox updates sets each once d =
      subst (λ (m : Mailbox Key). DeskStands n t.tickets t.answered (held u.told) m.desk) (sym mailbox)
      (desk-after n t.tickets t.questions s.tickets (length log) t.answered (held t.told) (held u.told) start put updates sets each once
      (λ q. tells.told q ∙ ap (λ l. told_to (held t.told) (named_puts n t.tickets put) (length log) (length l) q) none_put) d)

  -- the subscriptions to the blocked keys that are told rise
  told_rise : Rises 0 (length t.mailbox.desk.sets) t.actor.sets
  told_rise = rises_first 0 (length t.mailbox.desk.sets) t.actor.sets (flat_map blocked_asked t.mailbox.desk.messages.items) s.rises

  -- and those that wait, after them
  rises_now : (sets : List ℕ) (ms : List (Message Key)) → u.actor.sets ≡ sets → u.mailbox.desk.messages.items ≡ ms → length u.mailbox.desk.sets ≡ length t.mailbox.desk.sets
      → Rises 0 (length t.mailbox.desk.sets) (sets ++ flat_map blocked_asked ms) → Rises 0 (length u.mailbox.desk.sets) (u.actor.sets ++ flat_map blocked_asked u.mailbox.desk.messages.items)
  rises_now sets ms told waits long h =
      subst (λ l. Rises 0 l (u.actor.sets ++ flat_map blocked_asked u.mailbox.desk.messages.items)) (sym long)
      (subst (λ xs. Rises 0 (length t.mailbox.desk.sets) (u.actor.sets ++ flat_map blocked_asked xs)) (sym waits) (subst (λ xs. Rises 0 (length t.mailbox.desk.sets) (xs ++ flat_map blocked_asked ms)) (sym told) h))

  -- blocks had ended
  after_unblocked : (put : List (Put Key)) → ActorSteps t.actor u.actor t.mailbox u.mailbox at seed (stepped.EndedBlocks put) → TellsBy (stepped.EndedBlocks put) (length log) n t u r
      → u ≡ record t { actor = u.actor; mailbox = u.mailbox; names = u.names; told = u.told }
      → put ≡ unblocked key_cmp rules t.actor.updates t.actor.sets t.mailbox.desk.sets t.mailbox.heard calls at (call.UnblockExpired at)
      → (r ≡ tracker_told_row log [] (puts.unblocked_puts rules n at us bs calls (call.UnblockExpired at))) × TrackerStands configs (log ++ e ∷ []) n u
  after_unblocked put steps tells rest is =
      let kept = heed put in
      let telling = tells_heeded (only reply.Ok) put tells.0 in
      let told = told_now [] (only reply.Ok) kept telling refl refl refl (λ p own. away_none log p) in
      let none = none_taken log e told.takes in
      let reply_is : r.reply ≡ reply.Ok = ap (λ (k : Row). k.reply) tells.0.row in
      let desk = all_left kept t.mailbox in
      let mailbox : u.mailbox ≡ after_puts kept t.mailbox = steps.step.put ∙ sym (mailbox-late (is_noted t.ended) put t.mailbox) in
      let waits = mailbox-told log e n [] (named_puts n t.tickets kept) told ∙ away_none log (queue.Tracker n) in
      let few : TellsFew (runs_in t.mailbox) kept =
      few-late (is_noted t.ended) (runs_in t.mailbox) put
      (subst (TellsFew (runs_in t.mailbox)) (sym is)
      (inl (unblocked_once rules t.actor.updates t.actor.sets t.mailbox.desk.sets t.mailbox.heard (runs_in t.mailbox) calls at (call.UnblockExpired at))))
      in
      let due = puts.unblocked_puts rules n at us bs calls (call.UnblockExpired at) in
      let named : named_puts n t.tickets kept ≡ due =
      heeded_is put due
      (ap (named_puts n t.tickets) is ∙ named-unblocked n t.tickets rules t.mailbox.heard at t.actor.updates t.actor.sets us bs t.mailbox.desk.sets s.subscribed s.subscribed_blocked (runs_in t.mailbox) calls (call.UnblockExpired at))
      ∙ unblocked-late (is_ended log n) rules n at us bs calls (call.UnblockExpired at)
      in
      let once : SetsOnce kept =
      sets-late (is_noted t.ended) put
      (subst SetsOnce (sym is)
      (unblocked_sets rules t.actor.updates t.actor.sets t.mailbox.desk.sets t.mailbox.heard (runs_in t.mailbox) calls at 0 (length t.mailbox.desk.sets) told_rise (call.UnblockExpired at)))
      in
      let ticketed : Each (IsTicketed t.tickets) kept =
      each-late (is_noted t.ended) (IsTicketed t.tickets) put
      (subst (Each (IsTicketed t.tickets)) (sym is)
      (unblocked_ticketed t.tickets rules t.actor.updates t.actor.sets us bs t.mailbox.desk.sets s.subscribed s.subscribed_blocked t.mailbox.heard (runs_in t.mailbox) calls at (call.UnblockExpired at)))
      in
      let left_items : u.mailbox.desk.messages.items ≡ t.mailbox.desk.messages.items =
      ap (λ (m : Mailbox Key). m.desk.messages.items) mailbox ∙ ap (λ (q : base.Queue (Message Key)). q.items) desk.messages
      in
      let left_sets : length u.mailbox.desk.sets ≡ length t.mailbox.desk.sets = ap (λ (m : Mailbox Key). length m.desk.sets) mailbox ∙ desk.sets in (
        row_now [] (only reply.Ok) kept due telling refl (λ p own. away_none log p) named,
        stands_after configs log at seed n t u r (line log (queue.Tracker n)) t.mailbox.desk.messages.items s (record {
          rest = rest;
          rules = steps.step.rules;
          cooldown = steps.step.cooldown;
          works = steps.works;
          follows = follows_next (stepped.EndedBlocks put) (next_message t.mailbox.desk) (calls_of configs (log ++ e ∷ []) n) (steps.step.follows calls s.follows)
              (sym (calls-step configs log at seed n r [] none ∙ ap (λ k. step_calls log k [] at (jitter_of rules.cooldown seed) (list_any grants_peer r.puts) calls) reply_is));
          subscribed = subst (λ ts. Match (IsTicket t.tickets.updates) ts (update_subscriptions (log ++ e ∷ []) n)) (sym steps.step.updates)
              (subst (Match (IsTicket t.tickets.updates) t.actor.updates) (sym (updates-step log at seed n r [] none ∙ append-nil us)) s.subscribed);
          subscribed_blocked = subst (λ ts. Match (IsTicket t.tickets.blocked) ts (blocked_subscriptions (log ++ e ∷ []) n)) (sym steps.step.sets)
              (subst (Match (IsTicket t.tickets.blocked) t.actor.sets) (sym (sets-step log at seed n r [] none ∙ append-nil bs)) s.subscribed_blocked);
          mailbox = waits;
          names_left = tells.1 ∙ s.names;
          each = s.messages;
          given = s.given_back;
          desk = record {
            messages = ap (λ (m : Mailbox Key). record m.desk.messages { items = t.mailbox.desk.messages.items }) mailbox ∙ ap (λ (q : base.Queue (Message Key)). record q { items = t.mailbox.desk.messages.items }) desk.messages;
            questions = ap (λ (m : Mailbox Key). length m.desk.questions) mailbox ∙ desk.questions;
            updates = ap (λ (m : Mailbox Key). length m.desk.updates) mailbox ∙ desk.updates;
            sets = left_sets;
          };
          items = left_items;
          answered = answers_now [] kept t.mailbox told mailbox few s.dialer;
          heard_left = heard_now [] kept t.mailbox told mailbox few s.heard;
          told_handshakes = handshakes_now [] kept t.mailbox told mailbox few s.handshakes;
          distinct = distinct_now kept t.mailbox mailbox s.distinct;
          rises = rises_now t.actor.sets t.mailbox.desk.messages.items steps.step.sets left_items left_sets s.rises;
          polled = polled_now (only reply.Ok) kept t.mailbox telling refl mailbox s.updates s.sets ticketed once s.polled;
          told_left = told_after [] (only reply.Ok) kept telling refl told;
        }),
      )

  -- a message was taken
  after_message : (x : Envelope) (waits : List Envelope) (m : Message Key) (ms : List (Message Key)) (i : Item) (put : List (Put Key))
      → line log (queue.Tracker n) ≡ x ∷ waits → t.mailbox.desk.messages.items ≡ m ∷ ms → x.item ≡ i → IsMessage t.tickets log i m → AskerRuns log n i
      → Match (λ y k. IsMessage t.tickets log y.item k) waits ms
      → ActorSteps t.actor u.actor t.mailbox u.mailbox at seed (stepped.Message put) → TellsBy (stepped.Message put) (length log) n t u r
      → u ≡ record t { actor = u.actor; mailbox = u.mailbox; names = u.names; told = u.told }
      → put ≡ puts_for key_cmp rules t.actor.updates t.actor.sets t.mailbox.desk.sets t.mailbox.heard (runs_in t.mailbox) calls at m
      → (r ≡ tracker_told_row log (name_of x ∷ []) (heeded (is_ended log n) (puts.item_puts rules n at us bs calls log x.item))) × TrackerStands configs (log ++ e ∷ []) n u
  after_message x waits m ms i put first items is says asker each steps tells rest puts_is =
      let name : slice_get t.names 0 ≡ Some (name_of x) = ap (λ l. slice_get l 0) (s.names ∙ ap (map name_of) first) in
      let kept = heed put in
      let telling : Tells (length log) (taken_row (name_of x)) (named_puts n t.tickets kept) t u r =
      tells_heeded (taken_row (name_of x)) put (subst (λ o. TellsFor o (length log) (heeded_by t.ended (named_puts n t.tickets put)) t u r) name tells.0)
      in
      let next : next_message t.mailbox.desk ≡ Some m = ap (λ l. slice_get l 0) items in
      let away = away_first log n x waits first in
      let told = told_now (name_of x ∷ []) (taken_row (name_of x)) kept telling refl refl refl away in
      let taken_is : taken log e ≡ i ∷ [] = first_taken log e (queue.Tracker n) x waits first told.takes ∙ ap (λ k. k ∷ []) is in
      let reply_is : r.reply ≡ reply.Ok = ap (λ (k : Row). k.reply) telling.row in
      let start = left_in (stepped.Message put) t.mailbox in
      let desk = all_left kept start in
      let mailbox : u.mailbox ≡ after_puts kept start = steps.step.put ∙ sym (mailbox-late (is_noted t.ended) put start) in
      let xs = puts.item_puts rules n at us bs calls log i in
      let due = heeded (is_ended log n) xs in
      let named : named_puts n t.tickets kept ≡ due =
      heeded_is put xs
      (ap (named_puts n t.tickets) puts_is ∙ named-item n t.tickets rules t.mailbox.heard at t.actor.updates t.actor.sets us bs t.mailbox.desk.sets s.subscribed s.subscribed_blocked (runs_in t.mailbox) calls log i m
      (λ k. runs_is (line_of t.mailbox.handshakes k) (is_handshaking log n k) (line log (queue.Handshake n k)) (s.handshakes k)) says)
      in
      let row_is : r ≡ tracker_told_row log (name_of x ∷ []) due = row_now (name_of x ∷ []) (taken_row (name_of x)) kept due telling refl away named in
      let few : TellsFew (runs_in start) kept =
      few-late (is_noted t.ended) (runs_in start) put
      (subst (TellsFew (runs_in t.mailbox)) (sym puts_is) (item_few rules t.actor.updates t.actor.sets t.mailbox.desk.sets t.mailbox.heard (runs_in t.mailbox) calls at t.tickets log i m says))
      in
      let once : SetsOnce kept =
      sets-late (is_noted t.ended) put
      (subst SetsOnce (sym puts_is)
      (message_sets rules t.actor.updates t.actor.sets t.mailbox.desk.sets t.mailbox.heard (runs_in t.mailbox) calls at 0 (length t.mailbox.desk.sets) told_rise m))
      in
      let ticketed : Each (IsTicketed t.tickets) kept =
      each-late (is_noted t.ended) (IsTicketed t.tickets) put
      (subst (Each (IsTicketed t.tickets)) (sym puts_is)
      (item_ticketed t.tickets rules t.actor.updates t.actor.sets us bs t.mailbox.desk.sets s.subscribed s.subscribed_blocked t.mailbox.heard (runs_in t.mailbox) calls at log i m says))
      in
      let left_items : u.mailbox.desk.messages.items ≡ ms =
      ap (λ (k : Mailbox Key). k.desk.messages.items) mailbox ∙ (ap (λ (q : base.Queue (Message Key)). q.items) desk.messages ∙ ap (drop 1) items)
      in
      let left_sets : length u.mailbox.desk.sets ≡ length t.mailbox.desk.sets = ap (λ (k : Mailbox Key). length k.desk.sets) mailbox ∙ desk.sets in
      let grants : list_any grants_peer r.puts ≡ list_any grants_peer xs = ap (λ (k : Row). list_any grants_peer k.puts) row_is ∙ grants-late (is_ended log n) xs
      in (
        row_is ∙ ap (λ k. tracker_told_row log (name_of x ∷ []) (heeded (is_ended log n) (puts.item_puts rules n at us bs calls log k))) (sym is),
        stands_after configs log at seed n t u r waits ms s (record {
          rest = rest;
          rules = steps.step.rules;
          cooldown = steps.step.cooldown;
          works = steps.works;
          follows = follows_next (stepped.Message put) (next_message t.mailbox.desk) (calls_of configs (log ++ e ∷ []) n) (steps.step.follows calls s.follows)
              (ap (λ o. calls_by key_cmp rules (stepped.Message put) o at (jitter_of rules.cooldown seed) calls) next
              ∙ (item-calls rules n t.tickets log i m at (jitter_of rules.cooldown seed) us bs calls says asker
              ∙ sym (calls-step configs log at seed n r (i ∷ []) taken_is
              ∙ (ap (λ k. step_calls log k (i ∷ []) at (jitter_of rules.cooldown seed) (list_any grants_peer r.puts) calls) reply_is
              ∙ ap (λ b. item_calls log i at (jitter_of rules.cooldown seed) b calls) grants))));
          subscribed = subst (λ ts. Match (IsTicket t.tickets.updates) ts (update_subscriptions (log ++ e ∷ []) n)) (sym (steps.step.updates ∙ ap (λ o. by_step (stepped.Message put) o updates_for t.actor.updates) next))
              (subst (Match (IsTicket t.tickets.updates) (updates_for m t.actor.updates)) (sym (updates-step log at seed n r (i ∷ []) taken_is)) (item-updates t.tickets log i m t.actor.updates us says s.subscribed));
          subscribed_blocked = subst (λ ts. Match (IsTicket t.tickets.blocked) ts (blocked_subscriptions (log ++ e ∷ []) n)) (sym (steps.step.sets ∙ ap (λ o. by_step (stepped.Message put) o sets_for t.actor.sets) next))
              (subst (Match (IsTicket t.tickets.blocked) (sets_for m t.actor.sets)) (sym (sets-step log at seed n r (i ∷ []) taken_is)) (item-sets t.tickets log i m t.actor.sets bs says s.subscribed_blocked));
          mailbox = mailbox-told log e n (name_of x ∷ []) (named_puts n t.tickets kept) told ∙ mailbox_first log n x waits first;
          names_left = tells.1 ∙ ap (drop 1) (s.names ∙ ap (map name_of) first);
          each = each;
          given = (subst (λ l. Match (λ (y : Envelope) k. IsGivenBack log y.entry k) l (m ∷ ms)) first (subst (Match (λ (y : Envelope) k. IsGivenBack log y.entry k) (line log (queue.Tracker n))) items s.given_back)).1;
          desk = record {
            messages = ap (λ (k : Mailbox Key). record k.desk.messages { items = t.mailbox.desk.messages.items }) mailbox ∙ ap (λ (q : base.Queue (Message Key)). record q { items = t.mailbox.desk.messages.items }) desk.messages;
            questions = ap (λ (k : Mailbox Key). length k.desk.questions) mailbox ∙ desk.questions;
            updates = ap (λ (k : Mailbox Key). length k.desk.updates) mailbox ∙ desk.updates;
            sets = left_sets;
          };
          items = left_items;
          answered = answers_now (name_of x ∷ []) kept start told mailbox few s.dialer;
          heard_left = heard_now (name_of x ∷ []) kept start told mailbox few s.heard;
          told_handshakes = handshakes_now (name_of x ∷ []) kept start told mailbox few s.handshakes;
          distinct = distinct_now kept start mailbox s.distinct;
          rises = rises_now (sets_for m t.actor.sets) ms (steps.step.sets ∙ ap (λ o. by_step (stepped.Message put) o sets_for t.actor.sets) next) left_items left_sets
              (rises_taken (length t.mailbox.desk.sets) t.actor.sets m ms (subst (λ l. Rises 0 (length t.mailbox.desk.sets) (t.actor.sets ++ flat_map blocked_asked l)) items s.rises));
          polled = polled_now (taken_row (name_of x)) kept start telling refl mailbox s.updates s.sets ticketed once (record { answers = s.polled.answers; updates = s.polled.updates; sets = s.polled.sets; none = s.polled.none });
          told_left = told_after (name_of x ∷ []) (taken_row (name_of x)) kept telling refl told;
        }),
      )

  -- nothing was ready
  after_idle : line log (queue.Tracker n) ≡ [] → t.mailbox.desk.messages.items ≡ []
      → ActorSteps t.actor u.actor t.mailbox u.mailbox at seed stepped.Idle → TellsBy stepped.Idle (length log) n t u r
      → u ≡ record t { actor = u.actor; mailbox = u.mailbox; names = u.names; told = u.told } → (r ≡ only reply.Idle) × TrackerStands configs (log ++ e ∷ []) n u
  after_idle empty no_messages steps tells rest =
      let is : r ≡ only reply.Idle = tells.0.row in
      let none = none_taken log e (ap (λ (k : Row). k.takes) is) in
      let goes_none : goes e ≡ [] = ap (λ (k : Row). k.takes ++ flat_map ended_item k.ends) is in
      let puts_none : e.puts ≡ [] = ap (λ (k : Row). k.puts) is in
      let same : (q : Queue) → line (log ++ e ∷ []) q ≡ line log q = λ q.
      line-kept log e q goes_none ∙ (ap (λ l. line log q ++ filter (stands_in q) (placed (length log) 0 l)) puts_none ∙ append-nil (line log q)) in
      let mailbox : u.mailbox ≡ t.mailbox = steps.step.put in (
        is,
        stands_after configs log at seed n t u r (line log (queue.Tracker n)) t.mailbox.desk.messages.items s (record {
          rest = rest;
          rules = steps.step.rules;
          cooldown = steps.step.cooldown;
          works = steps.works;
          follows = follows_next stepped.Idle (next_message t.mailbox.desk) (calls_of configs (log ++ e ∷ []) n) (steps.step.follows calls s.follows)
              (sym (calls-step configs log at seed n r [] none ∙ ap (λ (k : Row). step_calls log k.reply [] at (jitter_of rules.cooldown seed) (list_any grants_peer r.puts) calls) is));
          subscribed = subst (λ ts. Match (IsTicket t.tickets.updates) ts (update_subscriptions (log ++ e ∷ []) n)) (sym steps.step.updates)
              (subst (Match (IsTicket t.tickets.updates) t.actor.updates) (sym (updates-step log at seed n r [] none ∙ append-nil us)) s.subscribed);
          subscribed_blocked = subst (λ ts. Match (IsTicket t.tickets.blocked) ts (blocked_subscriptions (log ++ e ∷ []) n)) (sym steps.step.sets)
              (subst (Match (IsTicket t.tickets.blocked) t.actor.sets) (sym (sets-step log at seed n r [] none ∙ append-nil bs)) s.subscribed_blocked);
          mailbox = same (queue.Tracker n);
          names_left = tells.1 ∙ s.names;
          each = s.messages;
          given = s.given_back;
          desk = record {
            messages = ap (λ (m : Mailbox Key). record m.desk.messages { items = t.mailbox.desk.messages.items }) mailbox;
            questions = ap (λ (m : Mailbox Key). length m.desk.questions) mailbox;
            updates = ap (λ (m : Mailbox Key). length m.desk.updates) mailbox;
            sets = ap (λ (m : Mailbox Key). length m.desk.sets) mailbox;
          };
          items = ap (λ (m : Mailbox Key). m.desk.messages.items) mailbox;
          answered = subst (λ l. Match (λ x a. IsAnswer x.item a) l u.mailbox.dialer) (sym (same (queue.Dialer n)))
              (subst (Match (λ (x : Envelope) a. IsAnswer x.item a) (line log (queue.Dialer n))) (sym (ap (λ (m : Mailbox Key). m.dialer) mailbox)) s.dialer);
          heard_left = subst (HeardStands u.mailbox.heard) (sym (same (queue.Addresses n))) (subst (λ (m : Mailbox Key). HeardStands m.heard (line log (queue.Addresses n))) (sym mailbox) s.heard);
          told_handshakes = λ k.
              subst (HandshakeStands (line_of u.mailbox.handshakes k) (is_handshaking log n k)) (sym (same (queue.Handshake n k)))
              (subst (λ (m : Mailbox Key). HandshakeStands (line_of m.handshakes k) (is_handshaking log n k) (line log (queue.Handshake n k))) (sym mailbox) (s.handshakes k));
          distinct = subst (λ (m : Mailbox Key). AreDistinct m.handshakes) (sym mailbox) s.distinct;
          rises = rises_now t.actor.sets t.mailbox.desk.messages.items steps.step.sets (ap (λ (m : Mailbox Key). m.desk.messages.items) mailbox) (ap (λ (m : Mailbox Key). length m.desk.sets) mailbox) s.rises;
          polled = subst (λ (m : Mailbox Key). DeskStands n t.tickets t.answered (held u.told) m.desk) (sym mailbox) (desk-held n t.tickets t.answered (held t.told) (held u.told) t.mailbox.desk tells.0.told s.polled);
          told_left = λ q own. tells.0.told q ∙ (s.told q own ∙ sym (same q));
        }),
      )

  -- ---- whatever the actor did

  abbrev Done : Row → Type 0
  Done due = (r ≡ due) × TrackerStands configs (log ++ e ∷ []) n u

  abbrev unblocked_is : List (Put Key)
  unblocked_is = unblocked key_cmp rules t.actor.updates t.actor.sets t.mailbox.desk.sets t.mailbox.heard calls at (call.UnblockExpired at)

  abbrev message_is : Message Key → List (Put Key)
  message_is m = puts_for key_cmp rules t.actor.updates t.actor.sets t.mailbox.desk.sets t.mailbox.heard (runs_in t.mailbox) calls at m

  module _ (st : Stepped Key) (steps : ActorSteps t.actor u.actor t.mailbox u.mailbox at seed st) (tells : TellsBy st (length log) n t u r) (rest : u ≡ record t { actor = u.actor; mailbox = u.mailbox; names = u.names; told = u.told }) (runs : AsksRun log n) where
    as_step : (k : Stepped Key) → st ≡ k → ActorSteps t.actor u.actor t.mailbox u.mailbox at seed k × TellsBy k (length log) n t u r
    as_step k is = (subst (ActorSteps t.actor u.actor t.mailbox u.mailbox at seed) is steps, subst (λ j. TellsBy j (length log) n t u r) is tells)

    -- who asks for a peer by the oldest message runs
    asker : (x : Envelope) (l : List Envelope) → line log (queue.Tracker n) ≡ x ∷ l → (i : Item) → x.item ≡ i → AskerRuns log n i
    asker x l first (item.AskListen name key) is = runs name key x l first is
    asker x l first _ is = tt

    -- the oldest message, where no block is due
    by_line : (l : List Envelope) (ms : List (Message Key)) → line log (queue.Tracker n) ≡ l → t.mailbox.desk.messages.items ≡ ms → Match (λ x m. IsMessage t.tickets log x.item m) l ms
        → st ≡ taken_or_idle key_cmp rules t.actor.updates t.actor.sets t.mailbox.desk.sets t.mailbox.heard (runs_in t.mailbox) calls at (slice_get ms 0) → Done (served_row configs log n at l)
    by_line [] [] empty none match is = let k = as_step stepped.Idle is in after_idle empty none k.0 k.1 rest
    by_line (x ∷ l) (m ∷ ms) first items match is =
        let k = as_step (stepped.Message (message_is m)) is in
        after_message x l m ms x.item (message_is m) first items refl match.0 (asker x l first x.item refl) match.1 k.0 k.1 rest refl
    by_line [] (m ∷ ms) first items match is = absurd match
    by_line (x ∷ l) [] first items match is = absurd match

    by_due : (b : Bool) → has_any (due_keys key_cmp rules calls at) ≡ b
        → st ≡ cond b (stepped.EndedBlocks unblocked_is) (taken_or_idle key_cmp rules t.actor.updates t.actor.sets t.mailbox.desk.sets t.mailbox.heard (runs_in t.mailbox) calls at (next_message t.mailbox.desk))
        → Done (tracker_step configs log n at)
    by_due true due is =
        let k = as_step (stepped.EndedBlocks unblocked_is) is in
        let done = after_unblocked unblocked_is k.0 k.1 rest refl in (
          done.0 ∙ ap (λ b. cond b (tracker_told_row log [] (puts.unblocked_puts rules n at us bs calls (call.UnblockExpired at))) (served_row configs log n at (line log (queue.Tracker n)))) (sym (sym (has_any-is (due_keys key_cmp rules calls at)) ∙ due)),
          done.1,
        )
    by_due false due is =
        let done = by_line (line log (queue.Tracker n)) t.mailbox.desk.messages.items refl refl s.messages is in (
          done.0 ∙ ap (λ b. cond b (tracker_told_row log [] (puts.unblocked_puts rules n at us bs calls (call.UnblockExpired at))) (served_row configs log n at (line log (queue.Tracker n)))) (sym (sym (has_any-is (due_keys key_cmp rules calls at)) ∙ due)),
          done.1,
        )

    all_due : Done (tracker_step configs log n at)
    all_due =
        by_due (has_any (due_keys key_cmp rules calls at)) refl
        (subst (λ k. st ≡ stepped_of key_cmp k t.actor.updates t.actor.sets t.mailbox.desk.sets t.mailbox.heard (runs_in t.mailbox) calls at (next_message t.mailbox.desk)) s.rules (steps.answer calls equal_keys s.follows))

-- a step of the tracker of a node that has started, where a handshake that asks for its peer runs
pub tracker_steps : (configs : List Config) (log : List Entry) (at seed n : ℕ) (t u : Tracker) (r : Row) → TrackerStands configs log n t → AsksRun log n → Steps (length log) n at seed t u r
    → (r ≡ tracker_step configs log n at) × TrackerStands configs (log ++ step_entry at seed n r ∷ []) n u
tracker_steps configs log at seed n t u r s runs h = all_due configs log at seed n t u r s h.stepped h.steps h.tells h.rest runs

-- a step of the tracker of a node that has not started
pub gone_stands : (configs : List Config) (log : List Entry) (at seed n : ℕ) (t : Tracker) → TrackerStands configs log n t → TrackerStands configs (log ++ step_entry at seed n (only reply.Gone) ∷ []) n t
gone_stands configs log at seed n t s =
    let r : Row = only reply.Gone in
    let e = step_entry at seed n r in
    let none = none_taken log e refl in
    let same : (q : Queue) → line (log ++ e ∷ []) q ≡ line log q = λ q. line-kept log e q refl ∙ append-nil (line log q) in
    stands_after configs log at seed n t t r (line log (queue.Tracker n)) t.mailbox.desk.messages.items s (record {
      rest = refl;
      rules = refl;
      cooldown = refl;
      works = s.works;
      follows = subst (Follows key_cmp t.actor.directory t.actor.controls) (sym (calls-step configs log at seed n r [] none)) s.follows;
      subscribed = subst (Match (IsTicket t.tickets.updates) t.actor.updates) (sym (updates-step log at seed n r [] none ∙ append-nil (update_subscriptions log n))) s.subscribed;
      subscribed_blocked = subst (Match (IsTicket t.tickets.blocked) t.actor.sets) (sym (sets-step log at seed n r [] none ∙ append-nil (blocked_subscriptions log n))) s.subscribed_blocked;
      mailbox = same (queue.Tracker n);
      names_left = s.names;
      each = s.messages;
      given = s.given_back;
      desk = record { messages = refl; questions = refl; updates = refl; sets = refl };
      items = refl;
      answered = subst (λ l. Match (λ x a. IsAnswer x.item a) l t.mailbox.dialer) (sym (same (queue.Dialer n))) s.dialer;
      heard_left = subst (HeardStands t.mailbox.heard) (sym (same (queue.Addresses n))) s.heard;
      told_handshakes = λ k. subst (HandshakeStands (line_of t.mailbox.handshakes k) (is_handshaking log n k)) (sym (same (queue.Handshake n k))) (s.handshakes k);
      distinct = s.distinct;
      rises = s.rises;
      polled = s.polled;
      told_left = λ q own. s.told q own ∙ sym (same q);
    })
