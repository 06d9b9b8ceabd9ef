-- What a connection is told, how a full mailbox keeps it, and what it is as a frame.
use Rattle.std.specs.Prelude.{ℕ, List, Option, Some, None}
use Rattle.p2p_base.specs.Queue.{Queue, enqueue_answer, enqueued}
use Rattle.p2p_base.specs.declared.outcome.Sent.{Sent}
use Rattle.p2p_base.specs.declared.policy.Keep.{Keep}
use Rattle.p2p_base.specs.declared.policy.Keep.TheVariants.{Refuse, Replace}
use Rattle.p2p_discovery.specs.Spelling.{spelled}
use Rattle.p2p_discovery.specs.declared.payload.Payload.TheVariants as payload
use Rattle.p2p_discovery_directory.specs.declared.peer.message.Message.{Message}
use Rattle.p2p_discovery_directory.specs.declared.peer.message.Message.TheVariants as message

module _ {P : Type 0} where
  -- a full mailbox refuses what is to be sent, and a kill takes the place of all that overflowed
  abbrev pub keep_of_told : Message P → Keep
  keep_of_told (message.BitVec bits) = Refuse
  keep_of_told (message.Peers infos) = Refuse
  keep_of_told message.Kill = Replace

  -- what the mailbox answers to a message, and what it holds then
  abbrev pub told_answer : Queue (Message P) → Message P → Sent (Message P)
  told_answer q m = enqueue_answer (keep_of_told m) q m

  abbrev pub with_told : Queue (Message P) → Message P → Queue (Message P)
  with_told q m = enqueued (keep_of_told m) q m

  -- its frame; a kill has none
  abbrev pub frame_of_told : (P → List ℕ) → Message P → Option (List ℕ)
  frame_of_told bytes_of (message.BitVec bits) = Some (spelled bytes_of (payload.BitVec bits))
  frame_of_told bytes_of (message.Peers infos) = Some (spelled bytes_of (payload.Peers infos))
  frame_of_told bytes_of message.Kill = None
