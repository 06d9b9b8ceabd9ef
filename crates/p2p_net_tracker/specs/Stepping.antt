-- What a step of a node's tracker comes to, as values.
use Rattle.std.specs.Prelude.{◌≡◌, ℕ, false, List, Option, Some, None, slice_get, length, drop}
use Rattle.p2p_base.specs.declared.key.Key.{Key}
use Rattle.p2p_tracker_calls.specs.declared.call.Call.{Call}
use Rattle.p2p_tracker_calls.specs.Named.{EqualKeysAreOne}
use Rattle.p2p_tracker_mailbox.specs.Desk.{next_message}
use Rattle.p2p_tracker_mailbox.specs.Mailboxes.{runs_in}
use Rattle.p2p_tracker_mailbox.specs.declared.mailbox.Mailbox.{Mailbox}
use Rattle.p2p_tracker.specs.Following.{Follows}
use Rattle.p2p_tracker.specs.Stepping.{IsStepOf}
use Rattle.p2p_tracker.specs.Steps.{stepped_of}
use Rattle.p2p_tracker.specs.Tracking.{Tracking}
use Rattle.p2p_tracker.specs.declared.stepped.Stepped.{Stepped}
use Rattle.p2p_tracker.specs.declared.stepped.Stepped.TheVariants as stepped
use Rattle.p2p_log.specs.declared.queue.Queue.{Queue}
use Rattle.p2p_log.specs.declared.item.Item.{Item}
use Rattle.p2p_log.specs.declared.entry.Reply.TheVariants as reply
use Rattle.p2p_log_rules.specs.declared.row.Row.{Row}
use Rattle.p2p_log_rules.specs.Rows.{only, taken_row}
use Rattle.p2p_log_rules.specs.Tracking.{key_cmp}
use Rattle.p2p_net_queues.specs.Board.{held}
use Rattle.p2p_net_tracker.specs.Heeding.{heeded_by}
use Rattle.p2p_net_tracker.specs.Naming.{named_puts}
use Rattle.p2p_net_tracker.specs.Telling.{told_in, told_to}
use Rattle.p2p_net_tracker.specs.declared.tracker.Tracker.{Tracker}

-- a step of the actor at a moment, with a seed
pub record ActorSteps (old new : Tracking Key) (way after : Mailbox Key) (now seed : ℕ) (s : Stepped Key) : Type 0 where
  pub step : IsStepOf key_cmp old way now seed s new after
  pub answer : (calls : List (Call Key)) → EqualKeysAreOne key_cmp → Follows key_cmp old.directory old.controls calls
      → s ≡ stepped_of key_cmp old.directory.rules old.updates old.sets way.desk.sets way.heard (runs_in way) calls now (next_message way.desk)
  pub works : new.has_failed ≡ false

-- the entry k puts these beside what its row does, and they overwrite what stands in rings
pub record Tells (k : ℕ) (before : Row) (puts : List (Queue × Item)) (old new : Tracker) (r : Row) : Type 0 where
  pub row : r ≡ told_in (held old.told) puts before
  pub told : (q : Queue) → held new.told q ≡ told_to (held old.told) puts k (length before.puts) q

-- nothing is told, and this is answered
pub record TellsNothing (old new : Tracker) (r answer : Row) : Type 0 where
  pub row : r ≡ answer
  pub told : (q : Queue) → held new.told q ≡ held old.told q

-- what is told with the name of the message that was taken
abbrev pub TellsFor : Option (ℕ × ℕ) → ℕ → List (Queue × Item) → Tracker → Tracker → Row → Type 0
TellsFor None k puts old new r = TellsNothing old new r (only reply.Idle)
TellsFor (Some name) k puts old new r = Tells k (taken_row name) puts old new r

abbrev pub TellsBy : Stepped Key → ℕ → ℕ → Tracker → Tracker → Row → Type 0
TellsBy stepped.Idle k n old new r = TellsNothing old new r (only reply.Idle) × (new.names ≡ old.names)
TellsBy (stepped.EndedBlocks put) k n old new r = Tells k (only reply.Ok) (heeded_by old.ended (named_puts n old.tickets put)) old new r × (new.names ≡ old.names)
TellsBy (stepped.Message put) k n old new r = TellsFor (slice_get old.names 0) k (heeded_by old.ended (named_puts n old.tickets put)) old new r × (new.names ≡ drop 1 old.names)

-- what a step of the entry k comes to at the node n
pub record Steps (k n now seed : ℕ) (old new : Tracker) (r : Row) : Type 0 where
  pub stepped : Stepped Key
  pub steps : ActorSteps old.actor new.actor old.mailbox new.mailbox now seed stepped
  pub tells : TellsBy stepped k n old new r
  pub rest : new ≡ record old { actor = new.actor; mailbox = new.mailbox; names = new.names; told = new.told }
