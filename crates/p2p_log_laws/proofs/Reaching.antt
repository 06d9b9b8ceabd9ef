-- Which queues an act reaches: from which it takes, in which it puts something, and in which it ends something.
use Rattle.std.proofs.Common.{◌≡◌, ℕ, Bool, true, false, List, [], ◌∷◌, ◌++◌, Option, Some, None, refl}
use Rattle.std.specs.Prelude.{◌==◌, ◌&&◌, ◌||◌}
use Rattle.std.specs.List.{list_any, AllByRecursion as Each}
use Rattle.p2p_log.specs.declared.config.Config.{Config}
use Rattle.p2p_log.specs.declared.queue.Queue.{Queue}
use Rattle.p2p_log.specs.declared.queue.Queue.TheVariants as queue
use Rattle.p2p_log.specs.declared.queue.Side.TheVariants as side
use Rattle.p2p_log.specs.declared.entry.Entry.{Entry}
use Rattle.p2p_log.specs.declared.event.Event.{Event}
use Rattle.p2p_log.specs.declared.event.Act.{Act}
use Rattle.p2p_log.specs.declared.event.Act.TheVariants as act
use Rattle.p2p_log.specs.QueueCode.{same_queue}
use Rattle.p2p_log.specs.Lines.{stands_in, line}
use Rattle.p2p_log.proofs.Each.{Each-append, Each-weaker}
use Rattle.p2p_log_rules.specs.declared.row.Half.{Half}
use Rattle.p2p_log_rules.specs.declared.row.Row.{Row}
use Rattle.p2p_log_rules.specs.Connections.{half_at}
use Rattle.p2p_log_rules.specs.Dropping.{LinkEnd, other_side, dialing_end, arriving_end, half_end, listening_end}
use Rattle.p2p_log_rules.specs.Effect.{entry_of, goes_to}
use Rattle.p2p_log_rules.specs.Handshakes.{came_over}
use Rattle.p2p_log_rules.specs.Moves.{Moves}
use Rattle.p2p_log_rules.specs.Stopping.{emptied_at}
use Rattle.p2p_log_rules.proofs.Moves.{line-left}
use Rattle.p2p_log_rules.proofs.Touches as touches
use Rattle.p2p_log_rules.proofs.Touches.{in_mailboxes, away}

-- what a connection is told
abbrev pub in_control : ℕ → ℕ → Queue → Bool
in_control n conn (queue.Control m e) = (m == n) && (e == conn)
in_control n conn _ = false

-- the frames in flight towards an end of a link
abbrev pub in_flight : Option LinkEnd → Queue → Bool
in_flight None q = false
in_flight (Some e) q = same_queue (queue.Link e.0 (other_side e.1)) q

-- what ends with a connection
abbrev pub in_connection : Option Half → ℕ → ℕ → Queue → Bool
in_connection o n conn (queue.High m e) = (m == n) && (e == conn)
in_connection o n conn (queue.Low m e) = (m == n) && (e == conn)
in_connection o n conn (queue.Held m e) = (m == n) && (e == conn)
in_connection o n conn (queue.Control m e) = (m == n) && (e == conn)
in_connection o n conn (queue.RouterAnswer m e) = (m == n) && (e == conn)
in_connection o n conn q = in_flight (half_end o) q

-- the queues from which an act takes, after these entries
abbrev pub reads : List Config → List Entry → Act → Queue → Bool
reads configs log (act.SendStep conn n) q = in_control n conn q || touches.reads configs log (act.SendStep conn n) q
reads configs log a q = touches.reads configs log a q

-- those in which it puts something
abbrev pub writes : List Config → List Entry → Act → Queue → Bool
writes configs log (act.RecvStep conn n) q = in_mailboxes n q || touches.writes configs log (act.RecvStep conn n) q
writes configs log a q = touches.writes configs log a q

-- and those in which it ends something
abbrev pub ends_in : List Config → List Entry → Act → Queue → Bool
ends_in configs log (act.SendStep conn n) q = in_connection (half_at log n conn) n conn q
ends_in configs log (act.RecvStep conn n) q = in_connection (half_at log n conn) n conn q
ends_in configs log (act.Attempt e n) q = same_queue (queue.Attempt n e) q || in_flight (dialing_end log n e) q
ends_in configs log (act.Handshake e n) q = same_queue (queue.Handshake n e) q || in_flight (listening_end (came_over log e)) q
ends_in configs log (act.Listener n) q = in_flight (arriving_end log n) q
ends_in configs log (act.Stop by_start n) q = list_any (λ p. same_queue p q) (emptied_at log n)
ends_in configs log a q = touches.writes configs log a q

-- a row stays within its act's reach
pub record Reach (configs : List Config) (a : Act) (log : List Entry) (r : Row) (m : Moves log r) : Type 0 where
  pub taken : Each (λ x. reads configs log a x.queue ≡ true) m.taken
  pub ended : Each (λ x. ends_in configs log a x.queue ≡ true) m.ended
  pub puts : Each (λ x. writes configs log a x.0 ≡ true) r.puts

-- a line out of its reach stays as it was
pub line-out_of_reach : (configs : List Config) (log : List Entry) (ev : Event) (r : Row) (m : Moves log r) → Reach configs ev.act log r m → (q : Queue)
    → reads configs log ev.act q ≡ false → writes configs log ev.act q ≡ false → ends_in configs log ev.act q ≡ false
    → line (log ++ entry_of ev r ∷ []) q ≡ line log q
line-out_of_reach configs log ev r m h q no_read no_write no_end =
    line-left log ev r m q
    (Each-append (λ x. stands_in q x ≡ false) m.taken m.ended
    (Each-weaker (λ x. reads configs log ev.act x.queue ≡ true) (λ x. stands_in q x ≡ false) (λ x k. away (reads configs log ev.act) q x.queue no_read k) m.taken h.taken)
    (Each-weaker (λ x. ends_in configs log ev.act x.queue ≡ true) (λ x. stands_in q x ≡ false) (λ x k. away (ends_in configs log ev.act) q x.queue no_end k) m.ended h.ended))
    (Each-weaker (λ x. writes configs log ev.act x.0 ≡ true) (λ x. goes_to q x ≡ false) (λ x k. away (writes configs log ev.act) q x.0 no_write k) r.puts h.puts)

-- a test of links that fails for the queues in which nothing is in flight
pub in_flight-node : (o : Option LinkEnd) (n : ℕ) → Each (λ q. in_flight o q ≡ false) (queue.Router n ∷ queue.Dialer n ∷ queue.Spawner n ∷ queue.Tracker n ∷ [])
in_flight-node None n = (refl, (refl, (refl, (refl, tt))))
in_flight-node (Some (link, side.Out)) n = (refl, (refl, (refl, (refl, tt))))
in_flight-node (Some (link, side.In)) n = (refl, (refl, (refl, (refl, tt))))

pub in_flight-handshake : (o : Option LinkEnd) (n h : ℕ) → in_flight o (queue.Handshake n h) ≡ false
in_flight-handshake None n h = refl
in_flight-handshake (Some (link, side.Out)) n h = refl
in_flight-handshake (Some (link, side.In)) n h = refl
