-- A message in its frame.
use Rattle.std.specs.Prelude.{ℕ, Bool, true, false, List, Option, Some, None, Result, Ok, Err}
use Rattle.p2p_wire.specs.declared.error.CodecError.{CodecError}
use Rattle.p2p_wire.specs.declared.frame.Message.{Message}
use Rattle.p2p_wire.specs.declared.frame.Message.TheVariants as message
use Rattle.p2p_wire.specs.Frame.{frame, decode_frame}

-- the frame of a message on a channel
abbrev pub frame_of : ℕ → List ℕ → List ℕ
frame_of channel bytes = frame (message.Data (record { channel = channel; message = bytes }))

abbrev pub data_in : Result Message CodecError → Option (ℕ × List ℕ)
data_in (Ok (message.Data d)) = Some (d.channel, d.message)
data_in (Ok message.Ping) = None
data_in (Err e) = None

-- the channel and the message that a frame within the limit holds
abbrev pub message_in : List ℕ → ℕ → Option (ℕ × List ℕ)
message_in bytes limit = data_in (decode_frame bytes limit)

abbrev pub is_ping : Result Message CodecError → Bool
is_ping (Ok message.Ping) = true
is_ping _ = false

-- whether a frame within the limit is a ping
abbrev pub is_ping_in : List ℕ → ℕ → Bool
is_ping_in bytes limit = is_ping (decode_frame bytes limit)
