-- Which calls a step of the tracker makes, and what it asks of the message that it takes.
use Rattle.std.specs.Prelude.{◌≡◌, ℕ, Bool, true, false, List, [], ◌∷◌, Option, Some, None}
use Rattle.std.specs.Map.{lookup}
use Rattle.std.specs.BTreeMap.{is_at}
use Rattle.std.specs.declared.cmp.Ordering.{Ordering}
use Rattle.p2p_base.specs.Queue.{Queue, without_oldest}
use Rattle.p2p_tracker_calls.specs.declared.call.Call.{Call}
use Rattle.p2p_tracker_calls.specs.declared.call.Call.TheVariants as call
use Rattle.p2p_tracker_calls.specs.Rules.{Rules}
use Rattle.p2p_tracker_calls.specs.Allows.{allows_dial, allows_listen}
use Rattle.p2p_tracker_calls.specs.Blocks.{is_over, block_of}
use Rattle.p2p_tracker_calls.specs.Lives.{is_eligible}
use Rattle.p2p_tracker_calls.specs.Overwrites.{overwritten}
use Rattle.p2p_tracker_directory.specs.Reserved.{peer_of}
use Rattle.p2p_tracker_mailbox.specs.Desk.{without_message}
use Rattle.p2p_tracker_mailbox.specs.Mailboxes.{with_desk}
use Rattle.p2p_tracker_mailbox.specs.declared.mailbox.Mailbox.{Mailbox}
use Rattle.p2p_tracker_mailbox.specs.declared.message.Message.{Message}
use Rattle.p2p_tracker_mailbox.specs.declared.message.Message.TheVariants as message
use Rattle.p2p_tracker_directory.specs.Recorded.{is_reserved_in, is_held_or_unknown}
use Rattle.p2p_tracker_directory.specs.Stands.{Kept, StandsFor}
use Rattle.p2p_tracker.specs.declared.stepped.Put.{Put}
use Rattle.p2p_tracker.specs.declared.stepped.Stepped.{Stepped}
use Rattle.p2p_tracker.specs.declared.stepped.Stepped.TheVariants as stepped

module _ {P : Type 0} where
  -- a step took blocks away that had ended
  abbrev pub ends : Stepped P → Bool
  ends stepped.Idle = false
  ends (stepped.EndedBlocks put) = true
  ends (stepped.Message put) = false

  -- a step took a message
  abbrev pub serves : Stepped P → Bool
  serves stepped.Idle = false
  serves (stepped.EndedBlocks put) = false
  serves (stepped.Message put) = true

  -- what a step put, in order
  abbrev pub puts_of : Stepped P → List (Put P)
  puts_of stepped.Idle = []
  puts_of (stepped.EndedBlocks put) = put
  puts_of (stepped.Message put) = put

  -- the mailbox without the message that was taken
  abbrev pub left_in : Stepped P → Mailbox P → Mailbox P
  left_in stepped.Idle m = m
  left_in (stepped.EndedBlocks put) m = m
  left_in (stepped.Message put) m = with_desk m (without_message m.desk)

  -- the messages that are left
  abbrev pub left_by : Stepped P → Queue (Message P) → Queue (Message P)
  left_by stepped.Idle q = q
  left_by (stepped.EndedBlocks put) q = q
  left_by (stepped.Message put) q = without_oldest q

module _ {P : Type 0} (cmp : P → P → Ordering) (rules : Rules P) where
  -- no block is due at the moment
  abbrev pub IsQuiet : List (Call P) → ℕ → Type 0
  IsQuiet calls now = (q : P) → is_over (block_of cmp rules calls q) now ≡ false

  -- the calls, newest first, once a message was served at a moment, where a grant has this jitter
  abbrev pub calls_after : Message P → ℕ → ℕ → List (Call P) → List (Call P)
  calls_after (message.Register index peers) now jitter calls = call.Track index peers.primary peers.secondary ∷ calls
  calls_after (message.Overwrite peers) now jitter calls = overwritten peers calls
  calls_after (message.PeerSet index ticket) now jitter calls = calls
  calls_after (message.Subscribe ticket) now jitter calls = calls
  calls_after (message.Block k) now jitter calls = call.Block k now ∷ calls
  calls_after (message.SubscribeBlocked ticket) now jitter calls = calls
  calls_after (message.Connect k conn) now jitter calls = call.Connect k (Some now) conn ∷ calls
  calls_after message.Dialable now jitter calls = calls
  calls_after (message.Dial k) now jitter calls = call.Dial k now jitter (allows_dial cmp rules calls k now) ∷ calls
  calls_after (message.Acceptable k source handshake) now jitter calls = calls
  calls_after (message.Listen k source handshake) now jitter calls = call.Listen k now jitter (allows_listen cmp rules calls k source now) ∷ calls
  calls_after (message.Release m) now jitter calls = call.Release (peer_of m) ∷ calls

module _ {P : Type 0} (cmp : P → P → Ordering) (rules : Rules P) where
  -- the calls once the oldest message was taken, if there is one
  abbrev pub calls_on : Option (Message P) → ℕ → ℕ → List (Call P) → List (Call P)
  calls_on None now jitter calls = calls
  calls_on (Some m) now jitter calls = calls_after cmp rules m now jitter calls

module _ {P : Type 0} (cmp : P → P → Ordering) (rules : Rules P) where
  -- the calls once a step was done, with what it answered and the message that waited
  abbrev pub calls_by : Stepped P → Option (Message P) → ℕ → ℕ → List (Call P) → List (Call P)
  calls_by stepped.Idle m now jitter calls = calls
  calls_by (stepped.EndedBlocks put) m now jitter calls = call.UnblockExpired now ∷ calls
  calls_by (stepped.Message put) m now jitter calls = calls_on cmp rules m now jitter calls

module _ {P : Type 0} (cmp : P → P → Ordering) (kept : Kept P) where
  -- by the directory's own blocks, none is due at the moment
  abbrev pub IsQuietIn : ℕ → Type 0
  IsQuietIn now = (q : P) → is_over (lookup (is_at (cmp q)) kept.blocks) now ≡ false

  -- whatever calls the directory stands for, the key is eligible at the moment
  abbrev pub IsEligible : P → ℕ → Type 0
  IsEligible k now = (calls : List (Call P)) → StandsFor cmp kept calls → is_eligible cmp kept.rules calls k now ≡ true

module _ {P : Type 0} (cmp : P → P → Ordering) (kept : Kept P) where
  -- the message may be taken at the moment: a connection of an eligible key wants that key reserved, and what is released is held or has no
  -- record
  abbrev pub MayTake : Message P → ℕ → Type 0
  MayTake (message.Connect k conn) now = IsEligible cmp kept k now → is_reserved_in (lookup (is_at (cmp k)) kept.records) ≡ true
  MayTake (message.Release m) now = is_held_or_unknown (lookup (is_at (cmp (peer_of m))) kept.records) ≡ true
  MayTake (message.Register index peers) now = Unit {0}
  MayTake (message.Overwrite peers) now = Unit {0}
  MayTake (message.PeerSet index ticket) now = Unit {0}
  MayTake (message.Subscribe ticket) now = Unit {0}
  MayTake (message.Block k) now = Unit {0}
  MayTake (message.SubscribeBlocked ticket) now = Unit {0}
  MayTake message.Dialable now = Unit {0}
  MayTake (message.Dial k) now = Unit {0}
  MayTake (message.Acceptable k source handshake) now = Unit {0}
  MayTake (message.Listen k source handshake) now = Unit {0}

module _ {P : Type 0} (cmp : P → P → Ordering) (kept : Kept P) where
  -- by the records alone, the message may be taken at any moment: who has connected is reserved, and what is released is held or has no record
  abbrev pub is_allowed : Message P → Bool
  is_allowed (message.Connect k conn) = is_reserved_in (lookup (is_at (cmp k)) kept.records)
  is_allowed (message.Release m) = is_held_or_unknown (lookup (is_at (cmp (peer_of m))) kept.records)
  is_allowed (message.Register index peers) = true
  is_allowed (message.Overwrite peers) = true
  is_allowed (message.PeerSet index ticket) = true
  is_allowed (message.Subscribe ticket) = true
  is_allowed (message.Block k) = true
  is_allowed (message.SubscribeBlocked ticket) = true
  is_allowed message.Dialable = true
  is_allowed (message.Dial k) = true
  is_allowed (message.Acceptable k source handshake) = true
  is_allowed (message.Listen k source handshake) = true

  -- and so may the one that waits, if there is one
  abbrev pub is_next_allowed : Option (Message P) → Bool
  is_next_allowed None = true
  is_next_allowed (Some m) = is_allowed m
