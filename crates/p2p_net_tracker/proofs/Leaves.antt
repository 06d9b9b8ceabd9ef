-- An entry that leaves a node's tracker alone.
use Rattle.std.specs.Prelude.{◌≡◌, ℕ, ◌≤◌, true, false, List, [], ◌∷◌, ◌++◌, length, Some, None}
use Rattle.p2p_log.specs.declared.queue.Queue.{Queue}
use Rattle.p2p_log.specs.declared.queue.Queue.TheVariants as queue
use Rattle.p2p_log.specs.declared.entry.Entry.{Entry}
use Rattle.p2p_log.specs.Lines.{line}
use Rattle.p2p_log_rules.specs.Connections.{ends_connection}
use Rattle.p2p_log_rules.specs.Facts.{is_stopped}
use Rattle.p2p_log_rules.specs.Handshakes.{handshakes_of}
use Rattle.p2p_log_rules.proofs.Answers.{takes_answer}
use Rattle.p2p_log_rules.proofs.Steps.{steps_tracker}
use Rattle.p2p_net_tracker.specs.declared.question.Question.TheVariants as question
use Rattle.p2p_net_tracker.specs.Stands.{asks_of, asks_at, is_told}

-- an entry that leaves it alone
pub record LeavesTracker (log : List Entry) (e : Entry) (n : ℕ) : Type 0 where
  pub no_step : steps_tracker n e.event.act ≡ false
  pub no_question : asks_of n e.event.act ≡ None
  pub no_answer : (d : ℕ) → asks_at log n d ≡ Some question.PeerSet → takes_answer d e.event.act e.reply ≡ false
  pub no_late_answer : (d : ℕ) → length log ≤ d → takes_answer d e.event.act e.reply ≡ false
  pub no_end : (conn : ℕ) → ends_connection n conn log e ≡ false
  pub goes_on : is_stopped (log ++ e ∷ []) n ≡ is_stopped log n
  pub handshakes : handshakes_of (log ++ e ∷ []) n ≡ handshakes_of log n
  pub mailbox : line (log ++ e ∷ []) (queue.Tracker n) ≡ line log (queue.Tracker n)
  pub told : (q : Queue) → is_told n q ≡ true → line (log ++ e ∷ []) q ≡ line log q
