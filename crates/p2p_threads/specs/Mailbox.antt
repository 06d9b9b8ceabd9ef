-- A shared mailbox: what a call is told, and the mailbox after it.
use Rattle.p2p_base.specs.Queue.{Queue, enqueue_answer, enqueued, oldest, without_oldest}
use Rattle.p2p_base.specs.declared.policy.Keep.{Keep}
use Rattle.p2p_base.specs.declared.outcome.Sent.{Sent}
use Rattle.p2p_base.specs.declared.outcome.Sent.TheVariants as sent
use Rattle.p2p_threads.specs.declared.mailbox.MailboxCall.{MailboxCall}
use Rattle.p2p_threads.specs.declared.mailbox.MailboxCall.TheVariants.{Enqueue, Take}
use Rattle.p2p_threads.specs.declared.mailbox.MailboxReply.{MailboxReply}
use Rattle.p2p_threads.specs.declared.mailbox.MailboxReply.TheVariants as told

module _ {T : Type 0} where
  -- what an enqueue is told, without the message
  abbrev pub told_of : Sent T → MailboxReply T
  told_of sent.Ok = told.Ok
  told_of sent.Backoff = told.Backoff
  told_of (sent.Rejected message) = told.Rejected
  told_of (sent.Closed message) = told.Closed

  module _ (keep_of : T → Keep) where
    abbrev pub mailbox_reply : Queue T → MailboxCall T → MailboxReply T
    mailbox_reply q (Enqueue message) = told_of (enqueue_answer (keep_of message) q message)
    mailbox_reply q Take = told.Taken (oldest q)

    abbrev pub mailbox_next : Queue T → MailboxCall T → Queue T
    mailbox_next q (Enqueue message) = enqueued (keep_of message) q message
    mailbox_next q Take = without_oldest q
