use Rattle.p2p_log_laws.specs.NodeGrants.{granting}
use Rattle.p2p_log_laws.proofs.NodeGrants.{each_node_turn}
use Rattle.p2p_log_laws.proofs.Turns.{alternates, one_holder, each_released}
use Rattle.p2p_log_laws.proofs.grants.node_grants.Goals as goal

pub returns : goal.returns
returns c = record {
  alternate = λ configs script log n key lawful. alternates (granting configs n key) log (each_node_turn configs script log lawful n key);
  holder = λ configs script log n key lawful. one_holder (granting configs n key) log (each_node_turn configs script log lawful n key);
  released = λ configs script log n key lawful. each_released (granting configs n key) log (each_node_turn configs script log lawful n key);
}
