use Rattle.std.proofs.Common.{◌≡◌, map, take}
use Rattle.serde_json.specs.View.{view}
use Rattle.p2p_sim_script.specs.GeneratedTree.{event_tree}
use Rattle.p2p_sim_script.proofs.generator.event_tree.events_tree.Given as goal

abbrev pub invariant-loop-event : goal.invariant-loop-event
invariant-loop-event l = map view l.trees.items ≡ map event_tree (take l.event-index l.events)
