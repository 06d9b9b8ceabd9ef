-- Which entries are accepted sends, and what each of them sent.
use Rattle.std.specs.Prelude.{ℕ, Bool, List, [], Option, Some, None, slice_get}
use Rattle.p2p_base.specs.declared.key.Key.{Key}
use Rattle.p2p_base.specs.declared.outcome.Feedback.TheVariants as feedback
use Rattle.p2p_base.specs.declared.outcome.Unreliable.TheVariants.{Outcome}
use Rattle.p2p_log.specs.declared.entry.Entry.{Entry}
use Rattle.p2p_log.specs.declared.entry.Reply.{Reply}
use Rattle.p2p_log.specs.declared.entry.Reply.TheVariants as reply
use Rattle.p2p_log.specs.declared.event.Act.{Act}
use Rattle.p2p_log.specs.declared.event.Act.TheVariants as act

-- who sends: a node, or the raw peer at the other end of this link
pub data Sender : Type 0 where
  Node : ℕ → Sender
  Raw : ℕ → Sender

-- an accepted send: by whom, on which channel, with which priority, which bytes, and for which keys; its copy p goes to the
-- p-th of them
pub record Sending : Type 0 where
  pub by : Sender
  pub channel : ℕ
  pub priority : Bool
  pub bytes : List ℕ
  pub keys : List Key

-- what an act with this reply sends: the one place that knows which acts send
abbrev pub sending_of : Act → Reply → Option Sending
sending_of (act.Send bytes c n priority to) (reply.Sent keys) =
    Some (record { by = Node n; channel = c; priority = priority; bytes = bytes; keys = keys })
sending_of (act.SendChecked bytes check priority) (reply.Outcome (Outcome feedback.Ok) n c keys) =
    Some (record { by = Node n; channel = c; priority = priority; bytes = bytes; keys = keys })
sending_of _ _ = None

abbrev pub sending_in : Option Entry → Option Sending
sending_in None = None
sending_in (Some e) = sending_of e.event.act e.reply

-- what the entry n sends
unfoldable pub sending_at : List Entry → ℕ → Option Sending
sending_at log n = sending_in (slice_get log n)

abbrev pub keys_sent : Option Sending → List Key
keys_sent None = []
keys_sent (Some s) = s.keys
