-- A world as its callers see it.
use Rattle.std.specs.Prelude.{◌≡◌, ℕ, Bool, false, List, [], ◌∷◌, ◌++◌}
use Rattle.p2p_log.specs.declared.config.Config.{Config}
use Rattle.p2p_log.specs.declared.entry.Entry.{Entry}
use Rattle.p2p_log.specs.declared.event.Event.{Event}
use Rattle.p2p_log_rules.specs.Effect.{effect}
use Rattle.p2p_log_rules.specs.Facts.{events_of, latest_moment}
use Rattle.p2p_log_rules.specs.Lawful.{IsLawful}
use Rattle.p2p_net_links.specs.declared.links.Links.{Links}
use Rattle.p2p_net_node.specs.declared.node.Node.{Node}
use Rattle.p2p_net_node.specs.declared.requested.Requested.{Requested}
use Rattle.p2p_net_node.specs.Requested.{AreRequested}
use Rattle.p2p_net_node.specs.Stands.{WorldStands}

-- a world is its configurations, its nodes with their links, and its log; one that found no memory has failed
pub record WorldView : Type 0 where
  pub configs : List Config
  pub nodes : List Node
  pub links : Links
  pub log : List Entry
  pub failed : Bool

-- a world that has not failed stands for its log
abbrev pub Stands : WorldView → Type 0
Stands w = w.failed ≡ false → WorldStands w.configs w.log w.nodes w.links

-- what a world keeps stands for its log, which is lawful for what was asked so far
pub record KeptStands (configs : List Config) (log : List Entry) (nodes : List Node) (rs : List Requested) (links : Links) (last : ℕ) : Type 0 where
  pub world : WorldStands configs log nodes links
  pub requested : AreRequested configs (events_of log) rs
  pub lawful : IsLawful configs (events_of log) log
  pub last_is : last ≡ latest_moment (events_of log)

-- what was recorded of an event after this log
pub record IsRecorded (configs : List Config) (log : List Entry) (v : Event) (later : List Entry) (nodes : List Node) (links : Links) : Type 0 where
  pub log_is : later ≡ log ++ effect configs log v ∷ []
  pub stands : WorldStands configs later nodes links
