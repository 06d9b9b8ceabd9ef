use Rattle.p2p_log_laws.proofs.Idling.{each_step_serves_first}
use Rattle.p2p_log_laws.proofs.inputs.steps_serve_their_first_input.Goals as goal

pub returns : goal.returns
returns c = each_step_serves_first
