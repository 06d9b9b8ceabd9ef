-- The text of a reply.
use Rattle.std.specs.Prelude.{ℕ, Bool, List, ◌++◌, codes, Option}
use Rattle.p2p_base.specs.declared.key.Key.{Key}
use Rattle.p2p_base.specs.declared.outcome.Feedback.{Feedback}
use Rattle.p2p_base.specs.declared.outcome.Feedback.TheVariants as feedback
use Rattle.p2p_base.specs.declared.outcome.Unreliable.{Unreliable}
use Rattle.p2p_base.specs.declared.outcome.Unreliable.TheVariants.{Outcome, Rejected}
use Rattle.p2p_flow.specs.declared.tracked.TrackedPeers.{TrackedPeers}
use Rattle.p2p_flow.specs.declared.update.PeerSetUpdate.{PeerSetUpdate}
use Rattle.p2p_tracker_calls.specs.declared.gates.Reply.{Reply as GatesReply}
use Rattle.p2p_tracker_calls.specs.declared.gates.Reply.TheVariants as gates
use Rattle.p2p_log.specs.declared.entry.Ended.{Ended}
use Rattle.p2p_log.specs.declared.entry.Ended.TheVariants as ended
use Rattle.p2p_log.specs.declared.entry.Reply.{Reply}
use Rattle.p2p_log.specs.declared.entry.Reply.TheVariants as reply
use Rattle.p2p_sim_report.specs.Text.{number_onto, flag_onto, key_onto, hex_onto, list_onto}
use Rattle.p2p_sim_report.specs.PeersText.{peer_set_onto, update_onto}
use Rattle.p2p_sim_report.specs.TrackerItemText.{digits_onto}

abbrev pub capacity_onto : List ℕ → ℕ → List ℕ
capacity_onto out n = number_onto (out ++ codes "{\"capacity\":") n ++ codes "}"

abbrev pub sent_onto : List ℕ → List Key → List ℕ
sent_onto out keys = list_onto key_onto (out ++ codes "{\"sent\":") keys ++ codes "}"

abbrev pub checked_onto : List ℕ → List Key → List ℕ
checked_onto out keys = list_onto key_onto (out ++ codes "{\"checked\":") keys ++ codes "}"

-- a moment may pass 64 bits, so its digits are a text
abbrev pub retry_onto : List ℕ → ℕ → List ℕ
retry_onto out moment = digits_onto (out ++ codes "{\"retry\":") moment ++ codes "}"

-- whom the message is to is not written: it stands in the lines of its copies
abbrev pub outcome_onto : List ℕ → Unreliable → List ℕ
outcome_onto out (Outcome feedback.Ok) = out ++ codes "{\"outcome\":\"ok\"}"
outcome_onto out (Outcome feedback.Backoff) = out ++ codes "{\"outcome\":\"backoff\"}"
outcome_onto out (Outcome feedback.Closed) = out ++ codes "{\"outcome\":\"closed\"}"
outcome_onto out Rejected = out ++ codes "{\"outcome\":\"rejected\"}"

abbrev pub received_onto : List ℕ → List ℕ → Key → List ℕ
received_onto out bytes from =
    key_onto (hex_onto (out ++ codes "{\"message\":{\"bytes\":") bytes ++ codes ",\"from\":") from ++ codes "}}"

abbrev pub feedback_onto : List ℕ → Feedback → List ℕ
feedback_onto out feedback.Ok = out ++ codes "{\"feedback\":\"ok\"}"
feedback_onto out feedback.Backoff = out ++ codes "{\"feedback\":\"backoff\"}"
feedback_onto out feedback.Closed = out ++ codes "{\"feedback\":\"closed\"}"

-- how much there is, and how much there may be, after the words
abbrev pub too_large_onto : List ℕ → List ℕ → ℕ → ℕ → List ℕ
too_large_onto out words count limit = number_onto (number_onto (out ++ words) count ++ codes ",") limit ++ codes "]}"

abbrev pub answered_onto : List ℕ → Option (TrackedPeers Key) → List ℕ
answered_onto out peers = peer_set_onto (out ++ codes "{\"peer_set\":") peers ++ codes "}"

abbrev pub updated_onto : List ℕ → PeerSetUpdate Key → List ℕ
updated_onto out update = update_onto (out ++ codes "{\"update\":") update ++ codes "}"

abbrev pub blocked_onto : List ℕ → List Key → List ℕ
blocked_onto out keys = list_onto key_onto (out ++ codes "{\"blocked\":") keys ++ codes "}"

-- whether the quota of the address refuses it, and whether that of the subnet does
abbrev pub limited_onto : List ℕ → Bool → Bool → List ℕ
limited_onto out ip subnet = flag_onto (flag_onto (out ++ codes "{\"limited\":[") ip ++ codes ",") subnet ++ codes "]}"

abbrev pub gates_onto : List ℕ → GatesReply → List ℕ
gates_onto out gates.Private = out ++ codes "\"private\""
gates_onto out gates.Unregistered = out ++ codes "\"unregistered\""
gates_onto out (gates.Limited ip subnet) = limited_onto out ip subnet
gates_onto out gates.TooMany = out ++ codes "\"too_many\""
gates_onto out gates.Admitted = out ++ codes "\"admitted\""

-- why a connection ended
abbrev pub ended_onto : List ℕ → Ended → List ℕ
ended_onto out ended.Killed = out ++ codes "{\"ended\":\"killed\"}"
ended_onto out ended.SendFailed = out ++ codes "{\"ended\":\"send_failed\"}"
ended_onto out ended.ReceiveFailed = out ++ codes "{\"ended\":\"receive_failed\"}"
ended_onto out ended.DecodeFailed = out ++ codes "{\"ended\":\"decode_failed\"}"
ended_onto out ended.InvalidChannel = out ++ codes "{\"ended\":\"invalid_channel\"}"

abbrev pub reply_onto : List ℕ → Reply → List ℕ
reply_onto out reply.Ok = out ++ codes "\"ok\""
reply_onto out reply.Idle = out ++ codes "\"idle\""
reply_onto out reply.Pending = out ++ codes "\"pending\""
reply_onto out reply.Gone = out ++ codes "\"gone\""
reply_onto out (reply.Capacity n) = capacity_onto out n
reply_onto out (reply.Sent keys) = sent_onto out keys
reply_onto out (reply.Checked keys) = checked_onto out keys
reply_onto out (reply.Retry moment) = retry_onto out moment
reply_onto out (reply.Outcome told node channel keys) = outcome_onto out told
reply_onto out (reply.Message bytes from) = received_onto out bytes from
reply_onto out (reply.MessageTooLarge size limit) = too_large_onto out (codes "{\"message_too_large\":[") size limit
reply_onto out (reply.Feedback told) = feedback_onto out told
reply_onto out (reply.PeerSetTooLarge count limit) = too_large_onto out (codes "{\"peer_set_too_large\":[") count limit
reply_onto out (reply.PeerSet peers) = answered_onto out peers
reply_onto out (reply.Update update) = updated_onto out update
reply_onto out (reply.Blocked keys) = blocked_onto out keys
reply_onto out (reply.Gates told) = gates_onto out told
reply_onto out (reply.Ended why) = ended_onto out why
reply_onto out reply.NetworkClosed = out ++ codes "\"network_closed\""
reply_onto out reply.StreamEnded = out ++ codes "\"stream_ended\""
