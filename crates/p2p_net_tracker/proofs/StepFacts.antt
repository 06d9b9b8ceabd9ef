-- The facts of a node's tracker after a step, by what it took.
use Rattle.std.proofs.Common.{◌≡◌, ℕ, true, cond, List, [], ◌∷◌, ◌++◌, refl, ap, sym, subst, ◌∙◌, arith, eq-eqb, append-nil, append_assoc}
use Rattle.std.specs.Prelude.{flat_map}
use Rattle.std.specs.List.{list_any}
use Rattle.std.specs.BTreeMap.{is_at}
use Rattle.std.specs.Ordering.{nat_cmp}
use Rattle.std.proofs.lemmas.Bool.Decides.{nat_tests}
use Rattle.p2p_base.specs.declared.key.Key.{Key}
use Rattle.p2p_tracker_calls.specs.declared.call.Call.{Call}
use Rattle.p2p_tracker_calls.specs.Jitter.{jitter_of}
use Rattle.p2p_tracker_calls.specs.Named.{EqualKeysAreOne}
use Rattle.p2p_tracker_mailbox.specs.declared.message.Message.{Message}
use Rattle.p2p_tracker_mailbox.specs.declared.message.Message.TheVariants as message
use Rattle.p2p_tracker.specs.Steps.{sets_for}
use Rattle.p2p_log.specs.declared.config.Config.{Config}
use Rattle.p2p_log.specs.declared.queue.Queue.{Queue}
use Rattle.p2p_log.specs.declared.item.Item.{Item}
use Rattle.p2p_log.specs.declared.item.Envelope.{Envelope}
use Rattle.p2p_log.specs.declared.entry.Entry.{Entry}
use Rattle.p2p_log.specs.Lines.{name_of, line}
use Rattle.p2p_log_rules.specs.declared.row.Row.{Row}
use Rattle.p2p_log_rules.specs.Facts.{taken, item_named}
use Rattle.p2p_log_rules.specs.Tracking.{key_cmp, rules_at, grants_peer, calls_of, update_subscriptions, blocked_subscriptions}
use Rattle.p2p_log_rules.proofs.Recorded.{item_named-first}
use Rattle.p2p_net_tracker.specs.AtDesk.{Rises, blocked_asked}
use Rattle.p2p_log_rules.proofs.Calls.{step_calls, call_where, subscribes, subscribes_blocked, calls_of-append, update_subscriptions-append, blocked_subscriptions-append}
use Rattle.p2p_net_tracker.proofs.StepLeft.{step_entry}

pub equal_keys : EqualKeysAreOne key_cmp
equal_keys p q h = ap (λ n. record { 0 = n }) (same p.0 q.0 h)
  where
    same : (a b : ℕ) → is_at (nat_cmp a) b ≡ true → a ≡ b
    same a b h = grind (arith, nat_tests)

-- once the step's reply and what it took are known
pub calls-step : (configs : List Config) (log : List Entry) (at seed n : ℕ) (r : Row) (items : List Item) → taken log (step_entry at seed n r) ≡ items
    → calls_of configs (log ++ step_entry at seed n r ∷ []) n ≡ step_calls log r.reply items at (jitter_of (rules_at configs n).cooldown seed) (list_any grants_peer r.puts) (calls_of configs log n)
calls-step configs log at seed n r items is =
    let calls = calls_of configs log n in
    let after : List Item → List (Call Key) = λ l. step_calls log r.reply l at (jitter_of (rules_at configs n).cooldown seed) (list_any grants_peer r.puts) calls in
    calls_of-append configs log (step_entry at seed n r) n
    ∙ (ap (λ b. cond b (after (taken log (step_entry at seed n r))) calls) (eq-eqb n n refl) ∙ ap after is)

pub updates-step : (log : List Entry) (at seed n : ℕ) (r : Row) (items : List Item) → taken log (step_entry at seed n r) ≡ items
    → update_subscriptions (log ++ step_entry at seed n r ∷ []) n ≡ update_subscriptions log n ++ flat_map (call_where subscribes log) items
updates-step log at seed n r items is =
    update_subscriptions-append log (step_entry at seed n r) n
    ∙ ap (λ l. update_subscriptions log n ++ l) (ap (λ b. cond b (flat_map (call_where subscribes log) (taken log (step_entry at seed n r))) []) (eq-eqb n n refl) ∙ ap (flat_map (call_where subscribes log)) is)

pub sets-step : (log : List Entry) (at seed n : ℕ) (r : Row) (items : List Item) → taken log (step_entry at seed n r) ≡ items
    → blocked_subscriptions (log ++ step_entry at seed n r ∷ []) n ≡ blocked_subscriptions log n ++ flat_map (call_where subscribes_blocked log) items
sets-step log at seed n r items is =
    blocked_subscriptions-append log (step_entry at seed n r) n
    ∙ ap (λ l. blocked_subscriptions log n ++ l) (ap (λ b. cond b (flat_map (call_where subscribes_blocked log) (taken log (step_entry at seed n r))) []) (eq-eqb n n refl) ∙ ap (flat_map (call_where subscribes_blocked log)) is)

pub none_taken : (log : List Entry) (e : Entry) → e.takes ≡ [] → taken log e ≡ []
unfolding taken
none_taken log e h = ap (flat_map (item_named log)) h

pub first_taken : (log : List Entry) (e : Entry) (q : Queue) (x : Envelope) (rest : List Envelope) → line log q ≡ x ∷ rest → e.takes ≡ name_of x ∷ [] → taken log e ≡ x.item ∷ []
unfolding taken
first_taken log e q x rest first h = ap (flat_map (item_named log)) h ∙ (append-nil (item_named log (name_of x)) ∙ item_named-first log q x rest first)

-- what a message asks for is told from then on
pub rises_taken : (last : ℕ) (sets : List ℕ) (m : Message Key) (ms : List (Message Key)) → Rises 0 last (sets ++ flat_map blocked_asked (m ∷ ms)) → Rises 0 last (sets_for m sets ++ flat_map blocked_asked ms)
rises_taken last sets (message.SubscribeBlocked ticket) ms h = subst (Rises 0 last) (sym (append_assoc sets (ticket ∷ []) (flat_map blocked_asked ms))) h
rises_taken last sets _ ms h = h
