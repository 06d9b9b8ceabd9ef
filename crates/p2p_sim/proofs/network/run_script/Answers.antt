use Rattle.std.proofs.Common.{ap₂}
use Rattle.p2p_sim.specs.Network.{first_fault}
use Rattle.p2p_sim.proofs.network.run_script.Goals as goal

-- each fact is handed on as it is, so that the laws in `accounted` are not searched one by one
pub returns-in-Ok-clause-ran : goal.returns-in-Ok-clause-ran
returns-in-Ok-clause-ran c =
    let ran = c.in-Ok.ensures in record { same = ran.configs; lawful = ran.lawful; only = ran.only; stands = ran.stands }

pub returns-in-Ok-clause-accounted : goal.returns-in-Ok-clause-accounted
returns-in-Ok-clause-accounted c = c.in-Ok.ensures.accounted

pub returns-in-Ok-clause-valid : goal.returns-in-Ok-clause-valid
returns-in-Ok-clause-valid c = ap₂ first_fault c.in-Ok.ensures.valid c.in-Ok.ensures.allowed
