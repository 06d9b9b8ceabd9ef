-- Each entry is computed by the definitions, which stand open here.
use Rattle.std.proofs.Common.{◌≡◌, [], ◌∷◌, ◌++◌, refl}
use Rattle.p2p_log.specs.Lines.{line, live_from}
use Rattle.p2p_log_rules.specs.Tellings.{last_told}
use Rattle.p2p_log_rules.specs.Told.{tells, told}
use Rattle.p2p_log_rules.specs.Closing.{is_closed}
use Rattle.p2p_log_rules.specs.Connections.{half_at, is_begun, has_run, is_ended}
use Rattle.p2p_log_rules.specs.Effect.{effect, row}
use Rattle.p2p_log_rules.specs.Facts.{is_up, is_started, is_stopped, rates, channels, taken, history_from, state_from}
use Rattle.p2p_log_rules.specs.Metering.{admitted}
use Rattle.p2p_log_rules.specs.Spawning.{connections_of}
use Rattle.p2p_runtime.specs.QuotaLaw.{admits}
use Rattle.p2p_wire.specs.Frame.{decode_frame}
use Rattle.p2p_wire.specs.Varint.{varint_at}
use Rattle.p2p_log_laws.specs.ClosedPath.{message_waits, message_left, closed_once, nobody_reads, message_comes, reader_leaves, message_late}
use Rattle.p2p_log_laws.specs.PlainPath.{two_nodes}
use Rattle.p2p_log_laws.proofs.worked.closed_rows.Goals as goal

left : effect two_nodes message_waits message_left.event ≡ message_left
unfolding effect row line live_from state_from taken tells told channels rates is_closed
left = refl

once : effect two_nodes (message_waits ++ message_left ∷ []) closed_once.event ≡ closed_once
unfolding effect row line live_from state_from taken tells told channels rates is_closed
once = refl

unread : effect two_nodes (message_waits ++ message_left ∷ []) nobody_reads.event ≡ nobody_reads
unfolding effect row line live_from state_from taken tells told channels rates is_closed
unread = refl

leaves : effect two_nodes message_comes reader_leaves.event ≡ reader_leaves
unfolding effect row line live_from state_from taken tells told channels rates is_closed
leaves = refl

late : effect two_nodes (message_comes ++ reader_leaves ∷ []) message_late.event ≡ message_late
unfolding effect row line live_from channels rates is_up is_started is_stopped admits admitted taken history_from state_from decode_frame varint_at half_at is_begun has_run is_ended connections_of told tells last_told is_closed
late = refl

pub returns : goal.returns
returns c = record { left = left; once = once; unread = unread; leaves = leaves; late = late }
