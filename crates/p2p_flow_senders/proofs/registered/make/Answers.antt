use Rattle.std.proofs.Common.{ap, ◌∙◌}
use Rattle.p2p_flow_connection.proofs.Registration.{registration_taken_back}
use Rattle.p2p_flow_connection.specs.Arriving.{Arrived, without_channel}
use Rattle.p2p_flow_senders.proofs.registered.make.Goals as goal

pub returns-in-Err-clause-inbounds_unchanged : goal.returns-in-Err-clause-inbounds_unchanged
returns-in-Err-clause-inbounds_unchanged g c =
    c.deregister.ensures
    ∙ (ap (λ (a : Arrived g.row.P.Denot). without_channel a c.args.channel) c.in_ok-register.ensures.after
    ∙ registration_taken_back c.args.inbounds.now c.args.channel c.args.places c.requires.new)
