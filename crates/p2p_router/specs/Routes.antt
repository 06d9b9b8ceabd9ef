-- A router as contracts see it: a map from peers to connections.
use Rattle.std.specs.Prelude.{ℕ, Bool, false, List, []}
use Rattle.p2p_router.specs.declared.link.Link.{Link}

-- for each connected peer, in order of keys, its connection and relay; the peer of each connection, in order of their numbers; the
-- subscriptions that lists go to, in order; and whether a step found no memory
pub record Routes (P : Type 0) : Type 0 where
  pub links : List (P × Link)
  pub peers : List (ℕ × P)
  pub subscriptions : List ℕ
  pub failed : Bool

module _ {P : Type 0} where
  abbrev pub new_routes : Routes P
  new_routes = record { links = []; peers = []; subscriptions = []; failed = false }
