-- Which end of a link an attempt of the dialer has.
use Rattle.std.proofs.Common.{◌≡◌, ℕ, List, refl, ap, sym, ◌∙◌, Option, Some, None}
use Rattle.std.specs.Option.{option_map}
use Rattle.p2p_log.specs.declared.config.Config.{Config}
use Rattle.p2p_log.specs.declared.queue.Queue.TheVariants as queue
use Rattle.p2p_log.specs.declared.queue.Side.TheVariants as side
use Rattle.p2p_log.specs.declared.entry.Entry.{Entry}
use Rattle.p2p_log.specs.Lines.{line}
use Rattle.p2p_log_rules.specs.Attempting.{Attempt, attempts_of}
use Rattle.p2p_log_rules.specs.Dropping.{LinkEnd, dialing_end}
use Rattle.p2p_log_rules.proofs.Attempts.{link_of_attempt, link_is}
use Rattle.p2p_net_queues.specs.Tables as table
use Rattle.p2p_net_gates.specs.Attempts.{link_at}
use Rattle.p2p_net_gates.specs.DialerStands.{gates_at, AttemptStands, DialerStands}
use Rattle.p2p_net_gates.specs.declared.attempt.RunningAttempt.{RunningAttempt}
use Rattle.p2p_net_gates.specs.declared.dialing.Dialing.{Dialing}

abbrev pub out_end : ℕ → LinkEnd
out_end link = (link, side.Out)

-- that which dialed, of the link by which its dial was answered
pub attempt_end : (configs : List Config) (log : List Entry) (n : ℕ) (d : Dialing) → DialerStands configs log n d → (k : ℕ)
    → option_map out_end (link_at (table.at d.attempts k)) ≡ dialing_end log n k
attempt_end configs log n d s k = by (table.at d.attempts k) (attempts_of configs log n k) (s.attempts k) ∙ ap (option_map out_end) (sym (link_is configs log n k))
  where
    by : (o : Option RunningAttempt) (b : Option Attempt) → AttemptStands (gates_at configs n) k o b (line log (queue.Attempt n k)) → option_map out_end (link_at o) ≡ option_map out_end (link_of_attempt b)
    by None None h = refl
    by (Some r) (Some a) h = ap (λ (x : RunningAttempt). option_map out_end x.link) h.2
    by None (Some b) h = absurd h
    by (Some r) None h = absurd h
