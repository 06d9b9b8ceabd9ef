-- The network as the program that is run: which trees it runs, and what a world that ran one is.
use Rattle.std.specs.Prelude.{◌≡◌, ℕ, List, Option, Some, None}
use Rattle.serde_json.specs.Data.{Data}
use Rattle.p2p_log.specs.declared.config.Config.{Config}
use Rattle.p2p_log.specs.declared.event.Event.{Event}
use Rattle.p2p_log.specs.declared.entry.Entry.{Entry}
use Rattle.p2p_log_rules.specs.Valid.{config_fault, event_fault}
use Rattle.p2p_log_rules.specs.Lawful.{IsLawful}
use Rattle.p2p_log_laws.specs.Accounted.{IsAccounted}
use Rattle.p2p_sim_script.specs.Form.{script_of}
use Rattle.p2p_sim_report.specs.ReportText.{report_text}
use Rattle.p2p_net_node.specs.Stands.{WorldStands}
use Rattle.p2p_net.specs.World.{WorldView}
use Rattle.p2p_sim.specs.declared.fault.Fault.{Fault}
use Rattle.p2p_sim.specs.declared.fault.Fault.TheVariants as fault

-- the first configuration that isn't valid, or else the first event
abbrev pub first_fault : Option ℕ → Option ℕ → Option Fault
first_fault (Some i) event = Some (fault.Config i)
first_fault None (Some i) = Some (fault.Event i)
first_fault None None = None

abbrev pub fault_of : List Config → List Event → Option Fault
fault_of configs script = first_fault (config_fault configs) (event_fault configs script)

-- a tree is run that says a script that is valid
abbrev pub tree_refusal : Option (List Config × List Event) → Option Fault
tree_refusal None = Some fault.NotScript
tree_refusal (Some s) = fault_of s.0 s.1

abbrev pub refusal_of : Data → Option Fault
refusal_of tree = tree_refusal (script_of tree)

-- the world's log is the one log that is lawful for the configurations and the script, and its nodes and links stand for it: every
-- queue holds what the log says
pub record HasRunScript (configs : List Config) (script : List Event) (world : WorldView) : Type 0 where
  pub same : world.configs ≡ configs
  pub lawful : IsLawful configs script world.log
  pub only : (log : List Entry) → IsLawful configs script log → log ≡ world.log
  pub stands : WorldStands configs world.log world.nodes world.links

-- the tree says a script, the world ran it, the text is the report of the world's log, and each law of lawful logs holds of that
pub record RunsTree (tree : Data) (world : WorldView) (text : List ℕ) : Type 0 where
  pub script : List Config × List Event
  pub says : script_of tree ≡ Some script
  pub ran : HasRunScript script.0 script.1 world
  pub reports : text ≡ report_text world.log
  pub accounted : IsAccounted script.0 world.log
