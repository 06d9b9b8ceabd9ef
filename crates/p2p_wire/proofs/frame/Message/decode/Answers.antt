use Rattle.std.proofs.Common.{Ok, Err}
use Rattle.p2p_wire.specs.declared.error.CodecError.TheVariants.{EndOfBuffer, InvalidEnum, InvalidLength, InvalidVarint, ExtraData, Memory}
use Rattle.p2p_wire.proofs.Rows.{row}
use Rattle.p2p_wire.proofs.frame.Message.decode.Goals as goal

pub returns-clause-message : goal.returns-clause-message
returns-clause-message c = λ m. row c.args.limit c.args.bytes c.read.result (Ok m) (record { channel = c.read.ensures.channel; size = c.read.ensures.size }) c.read.ensures.exact

pub returns-clause-end : goal.returns-clause-end
returns-clause-end c = row c.args.limit c.args.bytes c.read.result (Err EndOfBuffer) (record { channel = c.read.ensures.channel; size = c.read.ensures.size }) c.read.ensures.exact

pub returns-clause-kind : goal.returns-clause-kind
returns-clause-kind c = λ kind. row c.args.limit c.args.bytes c.read.result (Err (InvalidEnum kind)) (record { channel = c.read.ensures.channel; size = c.read.ensures.size }) c.read.ensures.exact

pub returns-clause-varint : goal.returns-clause-varint
returns-clause-varint c = λ width. row c.args.limit c.args.bytes c.read.result (Err (InvalidVarint width)) (record { channel = c.read.ensures.channel; size = c.read.ensures.size }) c.read.ensures.exact

pub returns-clause-too_long : goal.returns-clause-too_long
returns-clause-too_long c = λ size. row c.args.limit c.args.bytes c.read.result (Err (InvalidLength size)) (record { channel = c.read.ensures.channel; size = c.read.ensures.size }) c.read.ensures.exact

pub returns-clause-extra : goal.returns-clause-extra
returns-clause-extra c = λ count. row c.args.limit c.args.bytes c.read.result (Err (ExtraData count)) (record { channel = c.read.ensures.channel; size = c.read.ensures.size }) c.read.ensures.exact

pub returns-clause-memory : goal.returns-clause-memory
returns-clause-memory c = (row c.args.limit c.args.bytes c.read.result (Err Memory) (record { channel = c.read.ensures.channel; size = c.read.ensures.size }) c.read.ensures.exact).0
