-- The text of an end, and of a copy's fate.
use Rattle.std.specs.Prelude.{ℕ, List, ◌++◌, codes, Option, Some, None}
use Rattle.p2p_log.specs.declared.queue.Queue.{Queue}
use Rattle.p2p_log.specs.declared.end.Cause.{Cause}
use Rattle.p2p_log.specs.declared.end.Cause.TheVariants as cause
use Rattle.p2p_log.specs.declared.end.Outcome.{Outcome}
use Rattle.p2p_log.specs.declared.end.Outcome.TheVariants as outcome
use Rattle.p2p_log.specs.declared.end.End.{End}
use Rattle.p2p_log.specs.declared.end.End.TheVariants as end
use Rattle.p2p_log.specs.declared.report.Fate.{Fate}
use Rattle.p2p_log.specs.declared.report.Fate.TheVariants as fate
use Rattle.p2p_sim_report.specs.Text.{number_onto}
use Rattle.p2p_sim_report.specs.QueueText.{queue_onto}

abbrev pub cause_onto : List ℕ → Cause → List ℕ
cause_onto out cause.Unbound = out ++ codes "\"unbound\""
cause_onto out cause.NoConnection = out ++ codes "\"no_connection\""
cause_onto out cause.RelayFull = out ++ codes "\"relay_full\""
cause_onto out cause.ConnectionEnded = out ++ codes "\"connection_ended\""
cause_onto out cause.FrameRefused = out ++ codes "\"frame_refused\""
cause_onto out cause.ChannelUnregistered = out ++ codes "\"channel_unregistered\""
cause_onto out cause.MailboxFull = out ++ codes "\"mailbox_full\""
cause_onto out cause.ReceiverClosed = out ++ codes "\"receiver_closed\""
cause_onto out cause.LinkCut = out ++ codes "\"link_cut\""
cause_onto out cause.NodeStopped = out ++ codes "\"node_stopped\""

abbrev pub outcome_onto : List ℕ → Outcome → List ℕ
outcome_onto out outcome.Delivered = out ++ codes "\"delivered\""
outcome_onto out (outcome.Dropped c) = cause_onto out c

abbrev pub item_end_onto : List ℕ → ℕ → ℕ → List ℕ
item_end_onto out n p = number_onto (number_onto (out ++ codes "[\"item\",") n ++ codes ",") p ++ codes "]"

abbrev pub copy_end_onto : List ℕ → ℕ → ℕ → Outcome → List ℕ
copy_end_onto out send p how =
    outcome_onto (number_onto (number_onto (out ++ codes "[\"copy\",") send ++ codes ",") p ++ codes ",") how ++ codes "]"

abbrev pub end_onto : List ℕ → End → List ℕ
end_onto out (end.Item n p) = item_end_onto out n p
end_onto out (end.Copy send p how) = copy_end_onto out send p how

abbrev pub waiting_onto : List ℕ → Queue → List ℕ
waiting_onto out q = queue_onto (out ++ codes "[\"waiting\",") q ++ codes "]"

abbrev pub delivered_onto : List ℕ → Queue → ℕ → List ℕ
delivered_onto out q n = number_onto (queue_onto (out ++ codes "[\"delivered\",") q ++ codes ",") n ++ codes "]"

abbrev pub dropped_onto : List ℕ → Cause → ℕ → List ℕ
dropped_onto out c n = number_onto (cause_onto (out ++ codes "[\"dropped\",") c ++ codes ",") n ++ codes "]"

-- a fate; a lawful log has one for each copy
abbrev pub fate_onto : List ℕ → Option Fate → List ℕ
fate_onto out None = out ++ codes "null"
fate_onto out (Some (fate.Waiting q)) = waiting_onto out q
fate_onto out (Some (fate.Delivered q n)) = delivered_onto out q n
fate_onto out (Some (fate.Dropped c n)) = dropped_onto out c n
