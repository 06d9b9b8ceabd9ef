-- What waits at the desk of a node's tracker for those who asked by the oracle, beside the names of what waits there.
use Rattle.std.specs.Prelude.{◌≡◌, ℕ, ◌+◌, ◌≤◌, Bool, true, false, Option, Some, None, List, [], ◌∷◌, is_some, slice_get}
use Rattle.p2p_base.specs.declared.key.Key.{Key}
use Rattle.p2p_flow.specs.Provided.{unanswered, answered, given}
use Rattle.p2p_flow.specs.Provided.{Question as Posed}
use Rattle.p2p_flow.specs.declared.tracked.TrackedPeers.{TrackedPeers}
use Rattle.p2p_flow.specs.declared.update.PeerSetUpdate.{PeerSetUpdate}
use Rattle.p2p_tracker_mailbox.specs.Desk.{Desk, question_at, updates_at, set_of}
use Rattle.p2p_tracker_mailbox.specs.declared.message.Message.{Message}
use Rattle.p2p_tracker_mailbox.specs.declared.message.Message.TheVariants as message
use Rattle.p2p_log.specs.declared.queue.Queue.{Queue}
use Rattle.p2p_log.specs.declared.queue.Queue.TheVariants as queue
use Rattle.p2p_log.specs.declared.item.Item.TheVariants as item
use Rattle.p2p_log.specs.declared.item.Envelope.{Envelope}
use Rattle.p2p_net_queues.specs.Matching.{Match}
use Rattle.p2p_net_queues.specs.Tables as table
use Rattle.p2p_net_tracker.specs.declared.naming.Tickets.{Tickets}
use Rattle.p2p_net_tracker.specs.declared.question.Question.{Question}
use Rattle.p2p_net_tracker.specs.declared.question.Question.TheVariants as question
use Rattle.p2p_net_tracker.specs.declared.question.Ticket.{Ticket}

-- the ticket is that of the event
abbrev pub IsTicket : List ℕ → ℕ → ℕ → Type 0
IsTicket events t e = slice_get events t ≡ Some e

-- the events of the tickets of a kind
abbrev pub tickets_of : Tickets → Question → List ℕ
tickets_of t question.PeerSet = t.questions
tickets_of t question.Updates = t.updates
tickets_of t question.Blocked = t.blocked

-- what an event asked, by its ticket
abbrev pub asked_for : Option Ticket → Option Question
asked_for None = None
asked_for (Some k) = Some k.question

-- each ticket that was given has its event, and each event that has one is found at it
pub record TicketsStand (t : Tickets) (given : List (ℕ × Ticket)) : Type 0 where
  pub events : (e : ℕ) (k : Ticket) → table.at given e ≡ Some k → IsTicket (tickets_of t k.question) k.number e
  pub numbers : (kind : Question) (k e : ℕ) → IsTicket (tickets_of t kind) k e → table.at given e ≡ Some (record { question = kind; number = k })

-- ---- what waits at the desk for those who asked by the oracle, beside the names of what waits there

-- the answer to a question is the oldest item of its queue, and it is given out where that was noted
abbrev pub AnswerStands : Posed (Option (TrackedPeers Key)) → Bool → List Envelope → Type 0
AnswerStands unanswered b xs = (b ≡ false) × (xs ≡ [])
AnswerStands (answered peers) b xs = (b ≡ false) × ((x : Envelope) × (rest : List Envelope) × (xs ≡ x ∷ rest) × (x.item ≡ item.PeerSet peers))
AnswerStands given b xs = b ≡ true

abbrev pub IsUpdate : Envelope → PeerSetUpdate Key → Type 0
IsUpdate x u = x.item ≡ item.PeerSetUpdate u

-- the newest set of a subscription is all that its queue holds
abbrev pub SetStands : Option (List Key) → List Envelope → Type 0
SetStands None xs = xs ≡ []
SetStands (Some keys) xs = (x : Envelope) × (xs ≡ x ∷ []) × (x.item ≡ item.Blocked keys)

-- the queue in which the event of this number is told what it asked
abbrev pub queue_for : ℕ → Question → ℕ → Queue
queue_for n question.PeerSet e = queue.PeerSet n e
queue_for n question.Updates e = queue.PeerSetUpdates n e
queue_for n question.Blocked e = queue.Blocked n e

pub record DeskStands (n : ℕ) (t : Tickets) (noted : List (ℕ × Bool)) (holds : Queue → List Envelope) (d : Desk Key) : Type 0 where
  pub answers : (k e : ℕ) → IsTicket t.questions k e → AnswerStands (question_at d k) (is_some (table.at noted e)) (holds (queue.PeerSet n e))
  pub updates : (k e : ℕ) → IsTicket t.updates k e → Match IsUpdate (holds (queue.PeerSetUpdates n e)) (updates_at d k)
  pub sets : (k e : ℕ) → IsTicket t.blocked k e → SetStands (set_of d k) (holds (queue.Blocked n e))
  -- nothing is told to an event that has no ticket
  pub none : (kind : Question) (e : ℕ) → ((k : ℕ) → IsTicket (tickets_of t kind) k e → ⊥) → holds (queue_for n kind e) ≡ []

-- these numbers rise, from one that is no less than the first to one that is less than the last
abbrev pub Rises : ℕ → ℕ → List ℕ → Type 0
Rises first last [] = first ≤ last
Rises first last (k ∷ ks) = (first ≤ k) × Rises (k + 1) last ks

-- the subscription to the blocked keys that a message asks for
abbrev pub blocked_asked : Message Key → List ℕ
blocked_asked (message.SubscribeBlocked ticket) = ticket ∷ []
blocked_asked _ = []
