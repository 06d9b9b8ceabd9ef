-- What the calls of a mailbox kept and gave, in the order of their places.
use Rattle.std.specs.Prelude.{◌≡◌, ◌≢◌, List, [], ◌∷◌, ◌++◌, Some}
use Rattle.p2p_base.specs.Queue.{Queue}
use Rattle.p2p_base.specs.declared.policy.Keep.{Keep}
use Rattle.p2p_base.specs.declared.policy.Keep.TheVariants as keep
use Rattle.p2p_threads.specs.History.{after, Replays}
use Rattle.p2p_threads.specs.Mailbox.{mailbox_reply, mailbox_next}
use Rattle.p2p_threads.specs.declared.mailbox.MailboxCall.{MailboxCall}
use Rattle.p2p_threads.specs.declared.mailbox.MailboxCall.TheVariants.{Enqueue, Take}
use Rattle.p2p_threads.specs.declared.mailbox.MailboxReply.{MailboxReply}
use Rattle.p2p_threads.specs.declared.mailbox.MailboxReply.TheVariants as told

-- calls of a mailbox, each with what it was told
abbrev pub Calls : Type 0 → Type 0
Calls T = List (MailboxCall T × MailboxReply T)

module _ {T : Type 0} where
  -- the message of an enqueue that was told `Ok` or `Backoff`
  abbrev pub accepted : MailboxCall T → MailboxReply T → List T
  accepted (Enqueue message) told.Ok = message ∷ []
  accepted (Enqueue message) told.Backoff = message ∷ []
  accepted _ _ = []

  -- the message that a take gave
  abbrev pub taken : MailboxReply T → List T
  taken (told.Taken (Some message)) = message ∷ []
  taken _ = []

  abbrev pub accepted_in : Calls T → List T
  accepted_in [] = []
  accepted_in (e ∷ h) = accepted e.0 e.1 ++ accepted_in h

  abbrev pub taken_in : Calls T → List T
  taken_in [] = []
  taken_in (e ∷ h) = taken e.1 ++ taken_in h

  -- no message replaces the overflow
  abbrev pub NeverReplaces : (T → Keep) → Type 0
  NeverReplaces keep_of = (message : T) → keep_of message ≢ keep.Replace

  abbrev pub ReplaysOn : (T → Keep) → Queue T → Calls T → Type 0
  ReplaysOn keep_of q h = Replays (mailbox_reply keep_of) (mailbox_next keep_of) q h

  -- the mailbox after the calls
  abbrev pub left_after : (T → Keep) → Queue T → Calls T → Queue T
  left_after keep_of q h = after (mailbox_reply keep_of) (mailbox_next keep_of) q h
