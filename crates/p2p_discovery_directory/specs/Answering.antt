-- What a directory answers, and what it becomes, as whoever asks it sees that.
use Rattle.std.specs.Prelude.{ℕ, Bool, List, Option}
use Rattle.p2p_discovery.specs.declared.bit_vec.BitVec.{BitVec}
use Rattle.p2p_discovery.specs.declared.info.Info.{Info}
use Rattle.p2p_flow.specs.declared.tracked.TrackedPeers.{TrackedPeers}
use Rattle.p2p_flow.specs.declared.update.PeerSetUpdate.{PeerSetUpdate}
use Rattle.p2p_tracker_directory.specs.declared.directory.dials.Dialable.{Dialable}
use Rattle.p2p_discovery_directory.specs.declared.call.Call.{Call}
use Rattle.p2p_discovery_directory.specs.declared.metadata.Metadata.{Metadata}

-- each of these is what a directory of states S says to a question, and the first one what a call makes of it
pub record Answering (S P : Type 0) : Type 1 where
  pub becomes : S → Call P → S → Type 0
  -- whether the set of an index is taken in, and whom it kills then
  pub takes_in : S → ℕ → Bool → Type 0
  pub kills : S → ℕ → TrackedPeers P → List P → Type 0
  -- whether a block takes effect
  pub blocks : S → P → ℕ → Bool → Type 0
  pub blocked : S → ℕ → List P → Type 0
  pub accepts : S → P → ℕ → Bool → Type 0
  -- whether a dial is granted, and to whom and where
  pub grants_dial : S → P → ℕ → Bool → Type 0
  pub dials : S → P → Metadata P → Type 0
  pub grants_listen : S → P → ℕ → Bool → Type 0
  pub lists : S → ℕ → Dialable P → Type 0
  pub peer_set : S → ℕ → Option (TrackedPeers P) → Type 0
  pub update : S → Option (PeerSetUpdate P) → Type 0
  pub infos : S → BitVec → Option (List (Info P)) → Type 0
  pub bit_vec : S → ℕ → Option BitVec → Type 0
