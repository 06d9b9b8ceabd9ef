-- One peer set, and what is told of it.
use Rattle.std.specs.Prelude.{ℕ, ◌==◌, List, [], Option, Some, None, cond}
use Rattle.p2p_flow.specs.declared.tracked.TrackedPeers.{TrackedPeers}
use Rattle.p2p_flow.specs.declared.update.PeerSetUpdate.{PeerSetUpdate}

-- the index of the set, and its peers
pub record OnlySet (P : Type 0) : Type 0 where
  pub id : ℕ
  pub peers : List P

module _ {P : Type 0} where
  abbrev pub primary_alone : List P → TrackedPeers P
  primary_alone peers = record { primary = peers; secondary = [] }

  -- the set with an index
  abbrev pub set_at : OnlySet P → ℕ → Option (TrackedPeers P)
  set_at p id = cond (id == p.id) (Some (primary_alone p.peers)) None

  abbrev pub only_update : OnlySet P → PeerSetUpdate P
  only_update p = record { index = p.id; latest = primary_alone p.peers; all = primary_alone p.peers }
