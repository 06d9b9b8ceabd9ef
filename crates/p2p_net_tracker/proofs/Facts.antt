-- What one more entry makes of the facts of a node's tracker.
use Rattle.std.proofs.Common.{◌≡◌, ℕ, ◌≤◌, Bool, true, false, cond, List, [], ◌∷◌, ◌++◌, refl, ap, sym, subst, ◌∙◌, arith, length, length-append, append-nil, Option, Some, None}
use Rattle.std.specs.Prelude.{slice_get, flat_map, nat_lt, ◌==◌, ◌||◌}
use Rattle.p2p_base.specs.declared.key.Key.{Key}
use Rattle.std.specs.List.{list_any}
use Rattle.p2p_tracker_calls.specs.Jitter.{jitter_of}
use Rattle.p2p_log.specs.declared.config.Config.{Config}
use Rattle.p2p_log.specs.declared.entry.Entry.{Entry}
use Rattle.p2p_log.specs.declared.event.Act.{Act}
use Rattle.p2p_log.specs.declared.queue.Queue.TheVariants as queue
use Rattle.p2p_log.specs.Lines.{line}
use Rattle.p2p_log_rules.specs.Facts.{taken}
use Rattle.p2p_log_rules.specs.Handshakes.{handshakes_of, is_handshaking}
use Rattle.p2p_log_rules.specs.Tracking.{asked_by, rules_at, grants_peer, calls_of, update_subscriptions, blocked_subscriptions}
use Rattle.p2p_log_rules.proofs.Calls.{step_calls, call_where, calls_taken, subscribes, subscribes_blocked, calls_of-append, update_subscriptions-append, blocked_subscriptions-append}
use Rattle.p2p_log_rules.specs.TrackerRows.{was_answered}
use Rattle.p2p_log_rules.proofs.Answers.{takes_answer, was_answered-append}
pub use Rattle.p2p_log_rules.proofs.HandshakeBegun.{source_at-longer}
use Rattle.p2p_log.proofs.Places.{slice_get-append}
use Rattle.std.proofs.lemmas.Option.{slice_get_past}
use Rattle.std.proofs.lemmas.Bool.Decides.{nat_tests}
use Rattle.p2p_tracker_mailbox.specs.Lines.{Lines, line_of}
use Rattle.p2p_tracker_mailbox.specs.declared.answer.HandshakeItem.{HandshakeItem}
use Rattle.p2p_net_tracker.specs.Stands.{asks_of, asks_at, AreFresh, HandshakeStands}
use Rattle.p2p_net_queues.proofs.Matching.{slice_get-longer}
use Rattle.p2p_log_rules.proofs.Steps.{steps_tracker}

pub calls-kept : (configs : List Config) (log : List Entry) (e : Entry) (n : ℕ) → steps_tracker n e.event.act ≡ false → calls_of configs (log ++ e ∷ []) n ≡ calls_of configs log n
calls-kept configs log e n no_step =
    let calls = calls_of configs log n in
    calls_of-append configs log e n
    ∙ ap (λ b. cond b (step_calls log e.reply (taken log e) e.event.at (jitter_of (rules_at configs n).cooldown e.event.seed) (list_any grants_peer e.puts) calls) calls) no_step

none_taken : (test : Act → Bool) (n : ℕ) (log : List Entry) (e : Entry) → steps_tracker n e.event.act ≡ false → calls_taken test n log e ≡ []
none_taken test n log e no_step = ap (λ b. cond b (flat_map (call_where test log) (taken log e)) []) no_step

pub update_subscriptions-kept : (log : List Entry) (e : Entry) (n : ℕ) → steps_tracker n e.event.act ≡ false → update_subscriptions (log ++ e ∷ []) n ≡ update_subscriptions log n
update_subscriptions-kept log e n h = update_subscriptions-append log e n ∙ (ap (λ l. update_subscriptions log n ++ l) (none_taken subscribes n log e h) ∙ append-nil (update_subscriptions log n))

pub blocked_subscriptions-kept : (log : List Entry) (e : Entry) (n : ℕ) → steps_tracker n e.event.act ≡ false → blocked_subscriptions (log ++ e ∷ []) n ≡ blocked_subscriptions log n
blocked_subscriptions-kept log e n h = blocked_subscriptions-append log e n ∙ (ap (λ l. blocked_subscriptions log n ++ l) (none_taken subscribes_blocked n log e h) ∙ append-nil (blocked_subscriptions log n))

-- what an event asked stays so
pub asked_by-longer : (log more : List Entry) (e : ℕ) (a : Act) → asked_by log e ≡ Some a → asked_by (log ++ more) e ≡ Some a
asked_by-longer log more e a h = go (slice_get log e) refl h
  where
    go : (o : Option Entry) → slice_get log e ≡ o → (elim o [ None ↦ None | Some d ↦ Some d.event.act ]) ≡ Some a → asked_by (log ++ more) e ≡ Some a
    go None is k = cc
    go (Some d) is k = ap (λ o. elim o [ None ↦ None | Some d ↦ Some d.event.act ]) (slice_get-longer log more e d is) ∙ k

-- ---- questions and their answers

-- past the end of the log nothing was asked
pub asks_at-past : (log : List Entry) (n d : ℕ) → length log ≤ d → asks_at log n d ≡ None
asks_at-past log n d h = ap (λ (o : Option Entry). elim o [ None ↦ None | Some e ↦ asks_of n e.event.act ]) (slice_get_past log d h)

pub asks_at-append : (log : List Entry) (e : Entry) (n d : ℕ) → asks_at (log ++ e ∷ []) n d ≡ cond (nat_lt d (length log)) (asks_at log n d) (cond (d == length log) (asks_of n e.event.act) None)
asks_at-append log e n d =
    ap (λ (o : Option Entry). elim o [ None ↦ None | Some k ↦ asks_of n k.event.act ]) (slice_get-append log e d) ∙ by (nat_lt d (length log)) (d == length log)
  where
    by : (b c : Bool) → (elim (cond b (slice_get log d) (cond c (Some e) None)) [ None ↦ None | Some k ↦ asks_of n k.event.act ]) ≡ cond b (asks_at log n d) (cond c (asks_of n e.event.act) None)
    by true c = refl
    by false true = refl
    by false false = refl

-- the event that asks now is asked for the first time
pub asks_at-longer : (log : List Entry) (e : Entry) (n d : ℕ) → asks_at (log ++ e ∷ []) n d ≡ cond (d == length log) (asks_of n e.event.act) (asks_at log n d)
asks_at-longer log e n d = asks_at-append log e n d ∙ by (nat_lt d (length log)) (d == length log) refl refl
  where
    by : (b c : Bool) → nat_lt d (length log) ≡ b → (d == length log) ≡ c → cond b (asks_at log n d) (cond c (asks_of n e.event.act) None) ≡ cond c (asks_of n e.event.act) (asks_at log n d)
    by true true lt is = absurd (both d (length log) lt is)
      where
        both : (a b : ℕ) → nat_lt a b ≡ true → (a == b) ≡ true → ⊥
        both a b lt is = grind (arith, nat_tests)
    by true false lt is = refl
    by false true lt is = refl
    by false false lt is = sym (asks_at-past log n d (past d (length log) lt))
      where
        past : (a b : ℕ) → nat_lt a b ≡ false → b ≤ a
        past a b lt = grind (arith, nat_tests)

pub asks_at-kept : (log : List Entry) (e : Entry) (n d : ℕ) → asks_of n e.event.act ≡ None → asks_at (log ++ e ∷ []) n d ≡ asks_at log n d
asks_at-kept log e n d none = asks_at-longer log e n d ∙ by (d == length log) refl
  where
    by : (c : Bool) → (d == length log) ≡ c → cond c (asks_of n e.event.act) (asks_at log n d) ≡ asks_at log n d
    by false is = refl
    by true is = none ∙ sym (asks_at-past log n d (at_end d (length log) is))
      where
        at_end : (a b : ℕ) → (a == b) ≡ true → b ≤ a
        at_end a b is = grind (arith, nat_tests)

pub fresh-longer : (log : List Entry) (e : Entry) (answered : List (ℕ × Bool)) → AreFresh log answered → ((d : ℕ) → length log ≤ d → takes_answer d e.event.act e.reply ≡ false) → AreFresh (log ++ e ∷ []) answered
fresh-longer log e answered fresh none d past =
    let long = length-append log (e ∷ []) in
    let before : length log ≤ d = omega (arith, long) in
    let was = fresh d before in
    (was.0, was_answered-append log e d ∙ (ap (λ b. b || takes_answer d e.event.act e.reply) was.1 ∙ none d before))

pub was_answered-kept : (log : List Entry) (e : Entry) (d : ℕ) → takes_answer d e.event.act e.reply ≡ false → was_answered (log ++ e ∷ []) d ≡ was_answered log d
was_answered-kept log e d h = was_answered-append log e d ∙ by (was_answered log d) (takes_answer d e.event.act e.reply) h
  where
    by : (a b : Bool) → b ≡ false → (a || b) ≡ a
    by true b h = refl
    by false b h = h

-- ---- handshakes

-- what waits for handshakes is their lines after an entry that begins and ends none, and leaves their lines
pub handshaking-kept : (log : List Entry) (e : Entry) (n : ℕ) (lines : Lines (HandshakeItem Key)) → handshakes_of (log ++ e ∷ []) n ≡ handshakes_of log n
    → ((k : ℕ) → line (log ++ e ∷ []) (queue.Handshake n k) ≡ line log (queue.Handshake n k))
    → ((k : ℕ) → HandshakeStands (line_of lines k) (is_handshaking log n k) (line log (queue.Handshake n k)))
    → (k : ℕ) → HandshakeStands (line_of lines k) (is_handshaking (log ++ e ∷ []) n k) (line (log ++ e ∷ []) (queue.Handshake n k))
handshaking-kept log e n lines h same stands k =
    subst (λ l. HandshakeStands (line_of lines k) (list_any (λ j. k == j) l) (line (log ++ e ∷ []) (queue.Handshake n k))) (sym h)
    (subst (HandshakeStands (line_of lines k) (is_handshaking log n k)) (sym (same k)) (stands k))
