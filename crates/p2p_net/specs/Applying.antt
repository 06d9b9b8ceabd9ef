-- What a node makes of an event that names it alone.
use Rattle.std.specs.Prelude.{◌≡◌, ◌≤◌, ◌++◌, ◌∷◌, [], ℕ, true, false, List, length, None}
use Rattle.p2p_log.specs.declared.config.Config.{Config}
use Rattle.p2p_log.specs.declared.entry.Entry.{Entry}
use Rattle.p2p_log.specs.declared.event.Event.{Event}
use Rattle.p2p_log_rules.specs.declared.row.Row.{Row}
use Rattle.p2p_log_rules.specs.Effect.{entry_of, effect}
use Rattle.p2p_log_rules.specs.Facts.{events_of, latest_moment}
use Rattle.p2p_log_rules.specs.Lawful.{IsLawful}
use Rattle.p2p_log_rules.specs.Valid.{may_act}
use Rattle.p2p_net_links.specs.Stands.{LinksStand}
use Rattle.p2p_net_links.specs.declared.links.Links.{Links}
use Rattle.p2p_net.specs.Acts.{NodeDoes}
use Rattle.p2p_net_node.specs.Meetings.{meeting_of}
use Rattle.p2p_net_node.specs.Places.{node_of}
use Rattle.p2p_net_node.specs.Stands.{NodeStands}
use Rattle.p2p_net.specs.declared.error.NodeError.{NodeError}
use Rattle.p2p_net.specs.declared.error.NodeError.TheVariants as error
use Rattle.p2p_net_node.specs.declared.node.Node.{Node}

-- the entry k of an event at the node n has the row that its act comes to
abbrev pub NodeRecords : ℕ → ℕ → Event → Node → Node → Links → Links → Entry → Type 0
NodeRecords k n event old new l links e = (r : Row) × ((e ≡ entry_of event r) × NodeDoes k n event.at event.seed event.act old new l links r)

abbrev pub NodeApplies : ℕ → Event → Node → Node → Links → Links → Entry → Type 0
NodeApplies k event old new l links e = NodeRecords k old.router.number event old new l links e

-- a node and the links stand for a lawful log, of which an event is the entry k that names this node alone, may be asked for, and is not
-- before any other
pub record StandsBefore (configs : List Config) (log : List Entry) (k : ℕ) (event : Event) (x : Node) (l : Links) : Type 0 where
  pub node : NodeStands configs log (node_of log event.act) x
  pub links : LinksStand configs log l
  pub lawful : IsLawful configs (events_of log) log
  pub next : k ≡ length log
  pub alone : meeting_of event.act ≡ None
  pub allowed : may_act configs (events_of log) event.act ≡ true
  pub timely : latest_moment (events_of log) ≤ event.at

-- the entry is the effect of the event, and the node and the links stand for the log with it
pub record StandsAfter (configs : List Config) (log : List Entry) (event : Event) (x : Node) (l : Links) (e : Entry) : Type 0 where
  pub entry : e ≡ effect configs log event
  pub node : NodeStands configs (log ++ e ∷ []) (node_of log event.act) x
  pub links : LinksStand configs (log ++ e ∷ []) l

-- whatever log the node and the links stand for
abbrev pub NodeStandsWith : ℕ → Event → Node → Node → Links → Links → Entry → Type 0
NodeStandsWith k event old new l links e = (configs : List Config) (log : List Entry) → StandsBefore configs log k event old l → StandsAfter configs log event new links e

-- a node that found no memory, now or before
abbrev pub NodeRefused : NodeError → Node → Node → Links → Links → Type 0
NodeRefused error.Memory old new l links = (old.failed ≡ false) × (new.failed ≡ true)
NodeRefused error.Failed old new l links = (old.failed ≡ true) × ((new ≡ old) × (links ≡ l))
