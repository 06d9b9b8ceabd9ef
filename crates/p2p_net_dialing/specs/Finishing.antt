-- What the end of an exchange of keys over a link comes to.
use Rattle.std.specs.Prelude.{◌≡◌, ℕ, Bool, false, ◌&&◌, not, List, [], ◌∷◌, ◌++◌, length, Option, Some, None, is_some, slice_get, slice_set, if◌then◌else◌}
use Rattle.p2p_base.specs.declared.key.Key.{Key}
use Rattle.p2p_log.specs.declared.queue.Queue.{Queue}
use Rattle.p2p_log.specs.declared.queue.Queue.TheVariants as queue
use Rattle.p2p_log.specs.declared.entry.Reply.TheVariants as reply
use Rattle.p2p_log.specs.QueueCode.{same_queue}
use Rattle.p2p_log_rules.specs.declared.row.Row.{Row}
use Rattle.p2p_log_rules.specs.declared.row.Opening.{Opening}
use Rattle.p2p_log_rules.specs.declared.row.ListeningEnd.{ListeningEnd}
use Rattle.p2p_log_rules.specs.declared.row.ListeningEnd.TheVariants as listening
use Rattle.p2p_log_rules.specs.Effect.{only}
use Rattle.p2p_log_rules.specs.Links.{is_dialed, exchanged}
use Rattle.p2p_net_queues.specs.Board.{held}
use Rattle.p2p_net_queues.specs.Tables as table
use Rattle.p2p_net_queues.specs.Tables.{AreBut}
use Rattle.p2p_net_gates.specs.Attempts.{dialed_key, Finishes}
use Rattle.p2p_net_links.specs.Cutting.{is_cut_at}
use Rattle.p2p_net_links.specs.declared.links.Links.{Links}
use Rattle.p2p_net_gates.specs.Handshaking.{is_accepting, finished_in}
use Rattle.p2p_net_tracker.specs.Finishing.{finished_put, told_finished}
use Rattle.p2p_net_node.specs.Staying.{TellsAttempt}
use Rattle.p2p_net_node.specs.declared.node.Node.{Node}

-- ---- what is said of the keys

-- whether the handshake at the listening end took that its peer may connect
abbrev pub accepts_end : Option ListeningEnd → Node → Bool
accepts_end (Some (listening.Handshake h)) x = is_accepting (table.at x.listening.handshakes h)
accepts_end _ x = false

-- what the attempt of the first node and the listening end at the second come to, by whether the link was cut
abbrev pub said : Bool → Bool → Option Key → Option ListeningEnd → Node → Option Bool
said ok cut dialed end y = exchanged ((is_some dialed && is_some end) && not cut) (ok && is_dialed y.config.public_key dialed) (accepts_end end y)

-- ---- what both ends are told

-- the handshake h of the node n
pub record TellsHandshake (k n h : ℕ) (ok : Bool) (old new : Node) (row after : Row) : Type 0 where
  pub row_is : after ≡ record row { puts = row.puts ++ finished_put n h ok ∷ [] }
  pub mailbox : new.tracker.mailbox ≡ finished_in (table.at old.listening.handshakes h) ok old.tracker.mailbox
  pub told : (q : Queue) → held new.tracker.told q
      ≡ (if same_queue (queue.Handshake n h) q then held old.tracker.told q ++ told_finished n h ok k (length row.puts) ∷ [] else held old.tracker.told q)
  pub tracker : new.tracker ≡ record old.tracker { mailbox = new.tracker.mailbox; told = new.tracker.told }
  pub handshakes : (j : ℕ) → table.at new.listening.handshakes j ≡ table.at old.listening.handshakes j
  pub listening : new.listening ≡ record old.listening { handshakes = new.listening.handshakes }
  pub rest : new ≡ record old { tracker = new.tracker; listening = new.listening }

-- what has the listening end: an arrival is told nothing
abbrev pub TellsEnd : Option ListeningEnd → ℕ → ℕ → Bool → Node → Node → Row → Row → Type 0
TellsEnd (Some (listening.Handshake h)) k n ok old new row after = TellsHandshake k n h ok old new row after
TellsEnd _ k n ok old new row after = (after ≡ row) × (new ≡ old)

-- the attempt first, and then what has the listening end
pub record TellsBoth (k : ℕ) (o : Opening) (ok : Bool) (end : Option ListeningEnd) (old new : List Node) (r : Row) : Type 0 where
  pub first : Node
  pub at_first : slice_get old o.node ≡ Some first
  pub after : Node
  pub told : Row
  pub finishes : Finishes (table.at first.dialing.attempts o.attempt) k o.node o.attempt ok first.dialing.attempts after.dialing.attempts (only reply.Ok) told
  pub tells : TellsAttempt first after
  pub second : Node
  pub at_second : slice_get (slice_set old o.node after) o.to ≡ Some second
  pub last : Node
  pub ends : TellsEnd end k o.to ok second last told r
  pub nodes : new ≡ slice_set (slice_set old o.node after) o.to last

-- ---- the whole

abbrev pub FinishesBy : Option Bool → ℕ → ℕ → Opening → Option ListeningEnd → List Node → List Node → Links → Links → Row → Type 0
FinishesBy None k link o end old new l links r = (r ≡ only reply.Pending) × ((new ≡ old) × (links ≡ l))
FinishesBy (Some ok) k link o end old new l links r = TellsBoth k o ok end old new r × (AreBut link None l.openings links.openings × (links ≡ record l { openings = links.openings }))

-- over a link that is open
pub record FinishesOver (k link : ℕ) (ok : Bool) (o : Opening) (old new : List Node) (l links : Links) (r : Row) : Type 0 where
  pub first : Node
  pub second : Node
  pub at_first : slice_get old o.node ≡ Some first
  pub at_second : slice_get old o.to ≡ Some second
  pub finishes : FinishesBy (said ok (is_cut_at l link) (dialed_key (table.at first.dialing.attempts o.attempt)) (table.at second.listening.ends link) second) k link o (table.at second.listening.ends link) old new l links r

abbrev pub IsFinishedOver : Option Opening → ℕ → ℕ → Bool → List Node → List Node → Links → Links → Row → Type 0
IsFinishedOver None k link ok old new l links r = (r ≡ only reply.Gone) × ((new ≡ old) × (links ≡ l))
IsFinishedOver (Some o) k link ok old new l links r = FinishesOver k link ok o old new l links r

-- the entry k ends the exchange over a link, as it is said of the keys
abbrev pub IsFinished : ℕ → ℕ → Bool → List Node → List Node → Links → Links → Row → Type 0
IsFinished k link ok old new l links r = IsFinishedOver (table.at l.openings link) k link ok old new l links r
