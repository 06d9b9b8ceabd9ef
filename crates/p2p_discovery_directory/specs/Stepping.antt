-- What a step of the tracker comes to, and what it asks of the message that it takes.
use Rattle.std.specs.Prelude.{◌≡◌, ℕ, Bool, true, false, not, ◌||◌, List, Some, None}
use Rattle.std.specs.declared.cmp.Ordering.{Ordering}
use Rattle.p2p_tracker_mailbox.specs.Desk.{next_message}
use Rattle.p2p_discovery_directory.specs.declared.call.Call.TheVariants as call
use Rattle.p2p_discovery_directory.specs.declared.tracker.message.Message.{Message}
use Rattle.p2p_discovery_directory.specs.declared.tracker.message.Message.TheVariants as message
use Rattle.p2p_discovery_directory.specs.declared.tracker.stepped.Stepped.{Stepped}
use Rattle.p2p_discovery_directory.specs.declared.tracker.stepped.Stepped.TheVariants as stepped
use Rattle.p2p_discovery_directory.specs.Answering.{Answering}
use Rattle.p2p_discovery_directory.specs.Asking.{Way, without_message}
use Rattle.p2p_discovery_directory.specs.Putting.{sets_put}
use Rattle.p2p_discovery_directory.specs.Reserved.{peer_of}
use Rattle.p2p_discovery_directory.specs.Served.{IsServed, with_directory}
use Rattle.p2p_discovery_directory.specs.Tracking.{Tracking}

-- the message may be taken at the moment: a connection of an eligible key wants that key reserved, and what is released is held or has no
-- record
module _ {S P : Type 0} (eligible : S → P → ℕ → Bool) (reserved held known : S → P → Bool) (d : S) (now : ℕ) where
  abbrev pub MayTake : Message P → Type 0
  MayTake (message.Connect k dialer conn) = eligible d k now ≡ true → reserved d k ≡ true
  MayTake (message.Release m) = (held d (peer_of m) || not (known d (peer_of m))) ≡ true
  MayTake (message.Register index peers) = Unit {0}
  MayTake (message.PeerSet index ticket) = Unit {0}
  MayTake (message.Subscribe ticket) = Unit {0}
  MayTake (message.Block k) = Unit {0}
  MayTake (message.SubscribeBlocked ticket) = Unit {0}
  MayTake (message.Construct k) = Unit {0}
  MayTake (message.BitVec k bits) = Unit {0}
  MayTake (message.Peers infos) = Unit {0}
  MayTake message.Dialable = Unit {0}
  MayTake (message.Dial k) = Unit {0}
  MayTake (message.Acceptable k handshake) = Unit {0}
  MayTake (message.Listen k handshake) = Unit {0}

-- no block is due at the moment
module _ {S P : Type 0} (due : S → P → ℕ → Bool) where
  abbrev pub IsQuiet : S → ℕ → Type 0
  IsQuiet d now = (q : P) → due d q now ≡ false

module _ {S P : Type 0} (A : Answering S P) (eligible due : S → P → ℕ → Bool) (cmp : P → P → Ordering) (before : Tracking S P) (way : Way P) (now seed : ℕ) where
  -- blocks that have ended come first, and then the oldest message, if one waits
  abbrev pub IsStep : Stepped P → Tracking S P → Way P → Type 0
  IsStep stepped.Idle after left = IsQuiet due before.directory now × (next_message way.desk ≡ None) × (after ≡ before) × (left ≡ without_message way)
  IsStep (stepped.EndedBlocks p) after left = ((q : P) × (due before.directory q now ≡ true)) × (blocked : List P) × A.blocked after.directory now blocked
      × A.becomes before.directory (call.UnblockExpired now) after.directory
      × (p ≡ sets_put before.sets blocked) × (after ≡ with_directory before after.directory) × (left ≡ way)
  IsStep (stepped.Message p) after left = IsQuiet due before.directory now × (m : Message P) × (next_message way.desk ≡ Some m)
      × IsServed A eligible cmp now seed before after m p × (left ≡ without_message way)
