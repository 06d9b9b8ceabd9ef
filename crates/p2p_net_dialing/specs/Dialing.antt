-- What each step of the dialer, of the listener, and of their attempts and handshakes comes to, and what it makes of the node and of the
-- links. No log.
use Rattle.std.specs.Prelude.{◌≡◌, ℕ, Bool, true, false, ◌&&◌, ◌||◌, not, [], ◌∷◌, ◌++◌, drop, Option, Some, None, is_some, if◌then◌else◌}
use Rattle.std.specs.List.{list_any}
use Rattle.std.specs.Option.{option_map}
use Rattle.p2p_base.specs.declared.key.Key.{Key}
use Rattle.p2p_log.specs.declared.queue.Queue.{Queue}
use Rattle.p2p_log.specs.declared.queue.Queue.TheVariants as queue
use Rattle.p2p_log.specs.declared.item.Item.{Item}
use Rattle.p2p_log.specs.declared.queue.Side.{Side}
use Rattle.p2p_log.specs.declared.queue.Side.TheVariants as side
use Rattle.p2p_log.specs.declared.end.Cause.TheVariants as cause
use Rattle.p2p_log.specs.declared.entry.Reply.TheVariants as reply
use Rattle.p2p_log.specs.QueueCode.{same_queue}
use Rattle.p2p_log_rules.specs.declared.row.Row.{Row}
use Rattle.p2p_log.specs.Drained.{all_end}
use Rattle.p2p_log_rules.specs.Puts.{gave_up, is_spawn}
use Rattle.p2p_log_rules.specs.Effect.{only, other_side}
use Rattle.p2p_net_queues.specs.Board.{held}
use Rattle.p2p_net_queues.specs.Tables as table
use Rattle.p2p_net_queues.specs.Tables.{waiting}
use Rattle.p2p_net_links.specs.declared.links.Links.{Links}
use Rattle.p2p_net_links.specs.Dropping.{end_dropped}
use Rattle.p2p_net_links.specs.Links.{way_of}
use Rattle.p2p_gates.specs.Handshaking.{Handshaking}
use Rattle.p2p_net_gates.specs.Attempts.{link_at, Tries}
use Rattle.p2p_net_gates.specs.Dialing as dialing
use Rattle.p2p_net_gates.specs.declared.attempt.Tried.{Tried}
use Rattle.p2p_net_gates.specs.declared.dialing.Dialed.{Dialed}
use Rattle.p2p_net_gates.specs.Listening as listening
use Rattle.p2p_net_gates.specs.Handshaking.{StepsHandshake}
use Rattle.p2p_net_gates.specs.declared.handshake.HandshakeStep.{HandshakeStep}
use Rattle.p2p_net_gates.specs.declared.handshake.HandshakeStep.TheVariants as handshake
use Rattle.p2p_net_gates.specs.declared.listening.Took.{Took}
use Rattle.p2p_net_gates.specs.declared.listening.Took.TheVariants as takes
use Rattle.p2p_net_tracker.specs.Dialed.{updated_row, asked_puts, names_asked, dialed_row}
use Rattle.p2p_net_tracker.specs.Handshaking.{left_of, handshake_step_row}
use Rattle.p2p_net_tracker.specs.declared.tracker.Tracker.{Tracker}
use Rattle.p2p_net_node.specs.Staying.{Stays}
use Rattle.p2p_tracker_directory.specs.declared.metadata.Metadata.{Metadata}
use Rattle.p2p_net_dialing.specs.Spawning.{release_item, Spawns}
use Rattle.p2p_net_node.specs.declared.node.Node.{Node}

-- ---- the dialer

-- what it took and asked, at the tracker
abbrev pub DialedBy : Option Dialed → ℕ → ℕ → Tracker → Tracker → Row → Type 0
DialedBy None k n old new r = (r ≡ only reply.Idle) × (new ≡ record old { mailbox = new.mailbox })
DialedBy (Some d) k n old new r =
    (r ≡ dialed_row (held old.told (queue.Dialer n)) n d.took d.asked)
    × (((q : Queue) → held new.told q ≡ (if d.took && same_queue (queue.Dialer n) q then drop 1 (held old.told q) else held old.told q))
    × (new ≡ record old { mailbox = new.mailbox; told = new.told; names = old.names ++ names_asked k d.asked }))

-- a step of the dialer, whose answers wait in the tracker's mailbox
pub record DialerSteps (k n at seed : ℕ) (old new : Node) (r : Row) : Type 0 where
  pub dialed : Option Dialed
  pub steps : dialing.Steps old.dialing.actor k at seed old.dialing new.dialing old.tracker.mailbox new.tracker.mailbox dialed
  pub tracks : DialedBy dialed k n old.tracker new.tracker r
  pub rest : new ≡ record old { tracker = new.tracker; dialing = new.dialing }

abbrev pub DialerStepsBy : Bool → ℕ → ℕ → ℕ → ℕ → Node → Node → Row → Type 0
DialerStepsBy false k n at seed old new r = Stays old new r (only reply.Gone)
DialerStepsBy true k n at seed old new r = DialerSteps k n at seed old new r

-- ---- the listener

-- what it took, at the tracker
abbrev pub ListenedBy : Option Took → ℕ → ℕ → Tracker → Tracker → Row → Type 0
ListenedBy None k n old new r = (r ≡ only reply.Idle) × (new ≡ record old { mailbox = new.mailbox })
ListenedBy (Some takes.Update) k n old new r =
    (r ≡ updated_row (held old.told (queue.Addresses n)))
    × (((q : Queue) → held new.told q ≡ (if same_queue (queue.Addresses n) q then drop 1 (held old.told q) else held old.told q))
    × (new ≡ record old { mailbox = new.mailbox; told = new.told }))
ListenedBy (Some (takes.Arrival name told refused asked)) k n old new r =
    (r ≡ record { reply = reply.Gates told; takes = name ∷ []; puts = asked_puts n asked; ends = [] })
    × (new ≡ record old { mailbox = new.mailbox; names = old.names ++ names_asked k asked })

-- the link of an arrival that it refused
abbrev pub refused_by : Option Took → Option ℕ
refused_by (Some (takes.Arrival name told refused asked)) = refused
refused_by _ = None

-- a step of the listener, whose update waits in the tracker's mailbox, but for the end of this link, whose arrival it refused
pub record Listens (k n at : ℕ) (old new : Node) (r : Row) (refused : Option ℕ) : Type 0 where
  pub took : Option Took
  pub steps : listening.Steps k at old.listening new.listening old.tracker.mailbox new.tracker.mailbox took
  pub tracks : ListenedBy took k n old.tracker new.tracker r
  pub refuses : refused ≡ refused_by took
  pub rest : new ≡ record old { tracker = new.tracker; listening = new.listening }

-- ---- ends of links

-- the end of this link that writes in this direction is dropped, where there is one, unless it is kept
abbrev pub DropsUnless : Bool → Option ℕ → Side → Links → Links → Row → Row → Type 0
DropsUnless false (Some link) s l links row after =
    (after ≡ record row { ends = row.ends ++ all_end cause.ConnectionEnded (waiting (way_of l (other_side s)) link) }) × (links ≡ end_dropped link s l)
DropsUnless _ _ s l links row after = (after ≡ row) × (links ≡ l)

-- and with it, which is dropped
pub record ListenerSteps (k n at : ℕ) (old new : Node) (l links : Links) (r : Row) : Type 0 where
  pub row : Row
  pub refused : Option ℕ
  pub steps : Listens k n at old new row refused
  pub drops : DropsUnless false refused side.In l links row r

abbrev pub ListenerStepsBy : Bool → ℕ → ℕ → ℕ → Node → Node → Links → Links → Row → Type 0
ListenerStepsBy false k n at old new l links r = Stays old new r (only reply.Gone) × (links ≡ l)
ListenerStepsBy true k n at old new l links r = ListenerSteps k n at old new l links r

-- ---- what is handed on

-- the tracker is asked this
abbrev pub Asks : ℕ → ℕ → Option Item → Node → Node → Row → Row → Type 0
Asks k n asked old new row after =
    (after ≡ record row { puts = row.puts ++ asked_puts n asked }) × (new ≡ record old { tracker = record old.tracker { names = old.tracker.names ++ names_asked k asked } })

-- a connection is made of a reservation, over this link, or else the tracker is asked this
abbrev pub HandsOn : Option (ℕ × Metadata Key) → ℕ → ℕ → Option Item → Node → Node → Row → Row → Type 0
HandsOn None k n asked old new row after = Asks k n asked old new row after
HandsOn (Some ready) k n asked old new row after = Spawns k n ready.0 ready.1 old new row after

-- ---- the listener's handshakes

-- what one did, at the tracker
abbrev pub HandshakeStepBy : HandshakeStep → ℕ → ℕ → Tracker → Tracker → Row → Type 0
HandshakeStepBy handshake.Gone n name old new r = (r ≡ only reply.Gone) × (new ≡ record old { mailbox = new.mailbox })
HandshakeStepBy handshake.Idle n name old new r = (r ≡ only reply.Idle) × (new ≡ record old { mailbox = new.mailbox })
HandshakeStepBy (handshake.Served took ended asked ready) n name old new r =
    (r ≡ handshake_step_row took ended (held old.told (queue.Handshake n name)))
    × (((q : Queue) → held new.told q ≡ (if same_queue (queue.Handshake n name) q then left_of took ended (held old.told q) else held old.told q))
    × (new ≡ record old { mailbox = new.mailbox; told = new.told }))

-- what one asked is put, or a connection is made of its reservation
abbrev pub HandsOnBy : HandshakeStep → ℕ → ℕ → Node → Node → Row → Row → Type 0
HandsOnBy (handshake.Served took ended asked ready) k n old new row after = HandsOn ready k n asked old new row after
HandsOnBy _ k n old new row after = (after ≡ row) × (new ≡ old)

-- a step of the handshake of this name, for which items wait in the tracker's mailbox, but for the end of its link
pub record Shakes (k n name at : ℕ) (old new : Node) (r : Row) : Type 0 where
  pub step : HandshakeStep
  -- its node once it did that, and its row so far
  pub mid : Node
  pub taken : Row
  pub steps : StepsHandshake (table.at old.listening.handshakes name) name at old.listening mid.listening old.tracker.mailbox mid.tracker.mailbox step
  pub tracks : HandshakeStepBy step n name old.tracker mid.tracker taken
  pub rest : mid ≡ record old { tracker = mid.tracker; listening = mid.listening }
  pub hands : HandsOnBy step k n mid new taken r

-- the link over which the peer of a handshake came
abbrev pub link_over : Option (Handshaking Key) → Option ℕ
link_over o = option_map (λ (h : Handshaking Key). h.arrival.link) o

-- and with it, which is dropped where the handshake ended without a connection
pub record HandshakeSteps (k n name at : ℕ) (old new : Node) (l links : Links) (r : Row) : Type 0 where
  pub row : Row
  pub steps : Shakes k n name at old new row
  pub drops : DropsUnless (is_some (table.at new.listening.handshakes name) || list_any is_spawn row.puts) (link_over (table.at old.listening.handshakes name)) side.In l links row r

-- ---- the dialer's attempts

-- a step of the attempt of this name, which gives its reservation back into the tracker's mailbox where it ends without a connection,
-- but for the end of its link
pub record TriesAttempt (k n name at seed : ℕ) (old new : Node) (r : Row) : Type 0 where
  pub tried : Tried
  -- its node once it did that
  pub mid : Node
  pub tries : Tries (table.at old.dialing.attempts name) name at seed old.dialing.attempts mid.dialing.attempts old.tracker.mailbox mid.tracker.mailbox tried
  pub tracker : mid.tracker ≡ record old.tracker { mailbox = mid.tracker.mailbox }
  pub actor : mid.dialing.actor ≡ old.dialing.actor
  pub rest : mid ≡ record old { tracker = mid.tracker; dialing = mid.dialing }
  pub hands : HandsOn tried.ready k n (release_item tried.released) mid new tried.row r

-- and with it, which is dropped where the attempt gave its reservation back
pub record AttemptSteps (k n name at seed : ℕ) (old new : Node) (l links : Links) (r : Row) : Type 0 where
  pub row : Row
  pub steps : TriesAttempt k n name at seed old new row
  pub drops : DropsUnless (not (gave_up row.puts)) (link_at (table.at old.dialing.attempts name)) side.Out l links row r
