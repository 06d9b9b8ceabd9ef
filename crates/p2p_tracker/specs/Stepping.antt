-- What a step of the tracker comes to, whatever calls its directory stands for.
use Rattle.std.specs.Prelude.{◌≡◌, ℕ, true, false, List, is_some}
use Rattle.std.specs.Map.{lookup}
use Rattle.std.specs.BTreeMap.{is_at}
use Rattle.std.specs.declared.cmp.Ordering.{Ordering}
use Rattle.p2p_tracker_calls.specs.declared.call.Call.{Call}
use Rattle.p2p_tracker_calls.specs.Blocks.{is_over, block_of}
use Rattle.p2p_tracker_calls.specs.Jitter.{jitter_of}
use Rattle.p2p_tracker_calls.specs.Keeping.{all_connect_by}
use Rattle.p2p_tracker_calls.specs.Lives.{is_eligible, is_stale}
use Rattle.p2p_tracker_directory.specs.Stands.{StandsFor}
use Rattle.p2p_tracker_mailbox.specs.Desk.{next_message}
use Rattle.p2p_tracker_mailbox.specs.declared.mailbox.Mailbox.{Mailbox}
use Rattle.p2p_tracker.specs.Following.{Follows}
use Rattle.p2p_tracker.specs.Serving.{IsQuiet, ends, serves, puts_of, left_in, left_by, calls_by}
use Rattle.p2p_tracker.specs.Steps.{by_step, updates_for, sets_for}
use Rattle.p2p_tracker.specs.Telling.{after_puts}
use Rattle.p2p_tracker.specs.Tracking.{Tracking}
use Rattle.p2p_tracker.specs.declared.stepped.Stepped.{Stepped}

module _ {P : Type 0} (cmp : P → P → Ordering) (old : Tracking P) (m : Mailbox P) (now seed : ℕ) where
  -- the calls once a step was done, with what it answered
  abbrev pub calls_then : Stepped P → List (Call P) → List (Call P)
  calls_then s calls = calls_by cmp old.directory.rules s (next_message m.desk) now (jitter_of old.cooldown seed) calls

module _ {P : Type 0} (cmp : P → P → Ordering) (old : Tracking P) (m : Mailbox P) (now seed : ℕ) (s : Stepped P) where
  -- a step answered this: blocks that are due have ended, and else the oldest message was taken, if there is one; the directory
  -- stands for the calls with those of the step; and the mailbox is as what was put makes it
  pub record IsStepOf (new : Tracking P) (left : Mailbox P) : Type 0 where
    pub stands : (calls : List (Call P)) → StandsFor cmp old.directory calls → StandsFor cmp new.directory (calls_then cmp old m now seed s calls)
    pub follows : (calls : List (Call P)) → Follows cmp old.directory old.controls calls
        → Follows cmp new.directory new.controls (calls_then cmp old m now seed s calls)
    pub due : ends s ≡ true → (calls : List (Call P)) → StandsFor cmp old.directory calls
        → (q : P) × (is_over (block_of cmp old.directory.rules calls q) now ≡ true)
    pub quiet : ends s ≡ false → (calls : List (Call P)) → StandsFor cmp old.directory calls → IsQuiet cmp old.directory.rules calls now
    pub served : ends s ≡ false → serves s ≡ is_some (next_message m.desk)
    pub taken : left.desk.messages ≡ left_by s m.desk.messages
    pub put : left ≡ after_puts (puts_of s) (left_in s m)
    pub updates : new.updates ≡ by_step s (next_message m.desk) updates_for old.updates
    pub sets : new.sets ≡ by_step s (next_message m.desk) sets_for old.sets
    pub rules : new.directory.rules ≡ old.directory.rules
    pub cooldown : new.cooldown ≡ old.cooldown

  -- each key of which a connection is kept then isn't stale, and is eligible, where each connect before it has a moment, and none a
  -- later one
  pub record KeepsEligible (new : Tracking P) : Type 0 where
    pub fresh : (calls : List (Call P)) → Follows cmp old.directory old.controls calls → (q : P) → is_some (lookup (is_at (cmp q)) new.controls) ≡ true
        → is_stale cmp new.directory.rules (calls_then cmp old m now seed s calls) q ≡ false
    pub eligible : (calls : List (Call P)) → all_connect_by now calls ≡ true → Follows cmp old.directory old.controls calls
        → (q : P) → is_some (lookup (is_at (cmp q)) new.controls) ≡ true
        → is_eligible cmp new.directory.rules (calls_then cmp old m now seed s calls) q now ≡ true
