use Rattle.p2p_wire.proofs.Laws.{parse_found, parse_end}
use Rattle.p2p_wire.proofs.subchannel.parse.Goals as goal

pub returns-clause-found : goal.returns-clause-found
returns-clause-found c = λ subchannel payload. parse_found c.args.bytes c.read_u64.result subchannel payload c.read_u64.ensures.exact c.read_u64.ensures.reads

pub returns-clause-end : goal.returns-clause-end
returns-clause-end c = parse_end c.args.bytes c.read_u64.result c.read_u64.ensures.exact c.read_u64.ensures.reads
