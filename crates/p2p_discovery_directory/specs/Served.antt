-- What the tracker does for a message: its call of the directory, what it puts by the answer, and what it keeps.
use Rattle.std.specs.Prelude.{◌≡◌, ℕ, Bool, true, false, List, [], ◌∷◌, ◌++◌, Option, Some, None, is_some, IfSome}
use Rattle.std.specs.Map.{lookup, remove_entry}
use Rattle.std.specs.BTreeMap.{is_at, insert_entry}
use Rattle.std.specs.declared.cmp.Ordering.{Ordering}
use Rattle.p2p_tracker_calls.specs.Jitter.{jitter_of}
use Rattle.p2p_discovery.specs.declared.bit_vec.BitVec.{BitVec}
use Rattle.p2p_discovery.specs.declared.info.Info.{Info}
use Rattle.p2p_flow.specs.declared.tracked.TrackedPeers.{TrackedPeers}
use Rattle.p2p_flow.specs.declared.update.PeerSetUpdate.{PeerSetUpdate}
use Rattle.p2p_tracker_directory.specs.declared.directory.dials.Dialable.{Dialable}
use Rattle.p2p_discovery_directory.specs.declared.call.Call.TheVariants as call
use Rattle.p2p_discovery_directory.specs.declared.metadata.Metadata.{Metadata}
use Rattle.p2p_discovery_directory.specs.declared.metadata.Metadata.TheVariants as side
use Rattle.p2p_discovery_directory.specs.declared.tracker.answer.Answer.TheVariants as answer
use Rattle.p2p_discovery_directory.specs.declared.tracker.message.Message.{Message}
use Rattle.p2p_discovery_directory.specs.declared.tracker.message.Message.TheVariants as message
use Rattle.p2p_discovery_directory.specs.declared.tracker.put.Put.{Put}
use Rattle.p2p_discovery_directory.specs.declared.tracker.put.Put.TheVariants as puts
use Rattle.p2p_discovery_directory.specs.declared.tracker.standing.Standing.{Standing}
use Rattle.p2p_discovery_directory.specs.declared.tracker.standing.Standing.TheVariants as standing
use Rattle.p2p_discovery_directory.specs.Answering.{Answering}
use Rattle.p2p_discovery_directory.specs.Putting.{standing_of, kill_put, kills_put, without_keys, told_of_sets, told_of_blocks, bits_put, told_of_bits}
use Rattle.p2p_discovery_directory.specs.Reserved.{peer_of}
use Rattle.p2p_discovery_directory.specs.Tracking.{Tracking}

module _ {S P : Type 0} where
  -- with this directory in place of its own
  abbrev pub with_directory : Tracking S P → S → Tracking S P
  with_directory t d = record t { directory = d }

  module _ (cmp : P → P → Ordering) where
    -- without the connection of a key
    abbrev pub without_control : Tracking S P → P → Tracking S P
    without_control t k = record t { controls = remove_entry (is_at (cmp k)) t.controls }

    -- a bit vector that can't be answered ends its connection
    abbrev pub after_bits : Tracking S P → P → Option (List (Info P)) → Tracking S P
    after_bits t k None = without_control t k
    after_bits t k (Some infos) = t

    -- the connections that are kept once a set was handed in
    abbrev pub after_kills : Tracking S P → Option (List P) → List (P × ℕ)
    after_kills t None = t.controls
    after_kills t (Some killed) = without_keys cmp t.controls killed

    -- a set that is taken in kills, and is told to the subscriptions
    abbrev pub set_put : Tracking S P → Option (List P) → Option (PeerSetUpdate P) → List (Put P)
    set_put t None u = []
    set_put t (Some killed) u = kills_put cmp t.controls killed ++ told_of_sets t.updates u

module _ {S P : Type 0} (A : Answering S P) (cmp : P → P → Ordering) (now seed : ℕ) (before after : Tracking S P) where
  -- the peer of a connection that begins: where it is eligible it is connected, and the connection kept and answered the own info
  abbrev pub IsConnected : Bool → P → ℕ → List (Put P) → Type 0
  IsConnected true k conn p = A.becomes before.directory (call.Connect k) after.directory
      × (p ≡ puts.Answer conn (answer.Greeting before.own) ∷ [])
      × (after ≡ record before { directory = after.directory; controls = insert_entry cmp before.controls k conn })
  IsConnected false k conn p = (p ≡ puts.Answer conn answer.NotEligible ∷ []) × (after ≡ before)

  -- a bit vector that a connection asks for
  abbrev pub IsConstructed : Standing → P → List (Put P) → Type 0
  IsConstructed standing.Unknown k p = (p ≡ []) × (after ≡ before)
  IsConstructed (standing.Barred conn) k p = (p ≡ puts.Kill k conn ∷ []) × (after ≡ without_control cmp before k)
  IsConstructed (standing.Kept conn) k p = (bits : Option BitVec) × A.bit_vec before.directory seed bits × (p ≡ bits_put k conn bits) × (after ≡ before)

  -- a bit vector that came
  abbrev pub IsAnswered : Standing → P → BitVec → List (Put P) → Type 0
  IsAnswered standing.Unknown k bits p = (p ≡ []) × (after ≡ before)
  IsAnswered (standing.Barred conn) k bits p = (p ≡ puts.Kill k conn ∷ []) × (after ≡ without_control cmp before k)
  IsAnswered (standing.Kept conn) k bits p = (infos : Option (List (Info P))) × A.infos before.directory bits infos
      × (p ≡ told_of_bits k conn before.most seed infos) × (after ≡ after_bits cmp before k infos)

module _ {S P : Type 0} (A : Answering S P) (eligible : S → P → ℕ → Bool) (cmp : P → P → Ordering) (now seed : ℕ) (before after : Tracking S P) where
  -- what is put for a message, and what the tracker is then
  abbrev pub IsServed : Message P → List (Put P) → Type 0
  IsServed (message.Register index peers) p = (killed : Option (List P)) × (u : Option (PeerSetUpdate P))
      × A.takes_in before.directory index (is_some killed) × IfSome killed (λ k. A.kills before.directory index peers k × A.update after.directory u)
      × A.becomes before.directory (call.Track index peers.primary peers.secondary) after.directory
      × (p ≡ set_put cmp before killed u) × (after ≡ record before { directory = after.directory; controls = after_kills cmp before killed })
  IsServed (message.PeerSet index ticket) p = (peers : Option (TrackedPeers P)) × A.peer_set before.directory index peers × (p ≡ puts.PeerSet ticket peers ∷ []) × (after ≡ before)
  IsServed (message.Subscribe ticket) p = (u : Option (PeerSetUpdate P)) × A.update before.directory u
      × (p ≡ told_of_sets (ticket ∷ []) u) × (after ≡ record before { updates = before.updates ++ ticket ∷ [] })
  IsServed (message.Block k) p = (blocked : Option (List P)) × A.blocks before.directory k now (is_some blocked) × IfSome blocked (λ s. A.blocked after.directory now s)
      × A.becomes before.directory (call.Block k now) after.directory
      × (p ≡ told_of_blocks before.sets blocked ++ kill_put k (lookup (is_at (cmp k)) before.controls))
      × (after ≡ record before { directory = after.directory; controls = remove_entry (is_at (cmp k)) before.controls })
  IsServed (message.SubscribeBlocked ticket) p = (blocked : List P) × A.blocked before.directory now blocked
      × (p ≡ puts.Blocked ticket blocked ∷ []) × (after ≡ record before { sets = before.sets ++ ticket ∷ [] })
  IsServed (message.Connect k dialer conn) p = IsConnected A cmp now seed before after (eligible before.directory k now) k conn p
  IsServed (message.Construct k) p = IsConstructed A cmp now seed before after (standing_of (lookup (is_at (cmp k)) before.controls) (eligible before.directory k now)) k p
  IsServed (message.BitVec k bits) p = IsAnswered A cmp now seed before after (standing_of (lookup (is_at (cmp k)) before.controls) (eligible before.directory k now)) k bits p
  IsServed (message.Peers infos) p = A.becomes before.directory (call.UpdatePeers infos) after.directory × (p ≡ []) × (after ≡ with_directory before after.directory)
  IsServed message.Dialable p = (list : Dialable P) × A.lists before.directory now list × (p ≡ puts.Dialable list ∷ []) × (after ≡ before)
  IsServed (message.Dial k) p = (grant : Option (Metadata P)) × A.grants_dial before.directory k now (is_some grant) × IfSome grant (λ g. A.dials before.directory k g)
      × A.becomes before.directory (call.Dial k now (jitter_of before.cooldown seed) (is_some grant)) after.directory
      × (p ≡ puts.Dial grant ∷ []) × (after ≡ with_directory before after.directory)
  IsServed (message.Acceptable k handshake) p = (b : Bool) × A.accepts before.directory k now b × (p ≡ puts.Acceptable handshake b ∷ []) × (after ≡ before)
  IsServed (message.Listen k handshake) p = (grant : Option (Metadata P)) × A.grants_listen before.directory k now (is_some grant) × IfSome grant (λ g. g ≡ side.Listener k)
      × A.becomes before.directory (call.Listen k now (jitter_of before.cooldown seed) (is_some grant)) after.directory
      × (p ≡ puts.Listen handshake grant ∷ []) × (after ≡ with_directory before after.directory)
  IsServed (message.Release m) p = A.becomes before.directory (call.Release (peer_of m)) after.directory × (p ≡ [])
      × (after ≡ record before { directory = after.directory; controls = remove_entry (is_at (cmp (peer_of m))) before.controls })
