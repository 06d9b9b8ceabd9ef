use Rattle.p2p_log_laws.proofs.ConnectionPeers.{connections_lead}
use Rattle.p2p_log_laws.proofs.OneConnection.{connections_are_one, ends_meet}
use Rattle.p2p_log_laws.proofs.leading.connections_lead_to_their_peers.Goals as goal

pub returns : goal.returns
returns c = record {
  leads = λ configs script log lawful. connections_lead configs script log lawful;
  once = λ configs script log lawful. connections_are_one configs script log lawful;
  ends = λ configs script log lawful. ends_meet configs script log lawful;
}
