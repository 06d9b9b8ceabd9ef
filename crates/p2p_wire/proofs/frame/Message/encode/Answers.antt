use Rattle.std.proofs.Common.{rules}
use Rattle.p2p_wire.specs.Frame.{frame}
use Rattle.p2p_wire.proofs.frame.Message.encode.Goals as goal

pub returns-in-Ping : goal.returns-in-Ping
unfolding frame
returns-in-Ping c = search rules
