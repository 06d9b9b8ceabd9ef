-- What an event requests of the node that it names, among what was requested of each.
use Rattle.std.specs.Prelude.{◌≡◌, ℕ, ◌<◌, List, length, Some, slice_get, slice_set}
use Rattle.p2p_log.specs.declared.event.Act.{Act}
use Rattle.p2p_net_node.specs.Requested.{with_request, MayNote}
use Rattle.p2p_net_node.specs.declared.node.Node.{Node}
use Rattle.p2p_net_node.specs.declared.requested.Requested.{Requested}

-- the node n is there, and what an act requests of it can be counted
pub record MayNoteAt (n : ℕ) (nodes : List Node) (rs : List Requested) (a : Act) : Type 0 where
  pub there : n < length nodes
  pub listed : n < length rs
  pub notes : (x : Node) (r : Requested) → slice_get nodes n ≡ Some x → slice_get rs n ≡ Some r → MayNote x a r

-- and that is noted of it alone
abbrev pub NotesAt : ℕ → List Node → Act → List Requested → List Requested → Type 0
NotesAt n nodes a old new = (x : Node) × ((r : Requested) × ((slice_get nodes n ≡ Some x) × ((slice_get old n ≡ Some r) × (new ≡ slice_set old n (with_request x a r)))))
