-- What those who asked a tracker take, by what the oracle answers them.
use Rattle.std.specs.Prelude.{◌≡◌, ℕ, ◌<◌, Bool, true, false, List, Option, Some, None, Result, Ok, Err, drop, length, slice_get, is_some, IsTrue, if◌then◌else◌}
use Rattle.std.specs.BTreeMap.{insert_entry}
use Rattle.std.specs.Ordering.{nat_cmp}
use Rattle.p2p_base.specs.declared.key.Key.{Key}
use Rattle.p2p_flow.specs.Provided.{is_open, answer_of}
use Rattle.p2p_flow.specs.Subscribed.{next_item}
use Rattle.p2p_flow.specs.declared.ended.Ended.{Ended}
use Rattle.p2p_flow.specs.declared.plain.Polled.{Polled}
use Rattle.p2p_flow.specs.declared.plain.Polled.TheVariants as polled
use Rattle.p2p_flow.specs.declared.tracked.TrackedPeers.{TrackedPeers}
use Rattle.p2p_flow.specs.declared.update.PeerSetUpdate.{PeerSetUpdate}
use Rattle.p2p_tracker_mailbox.specs.Desk.{Desk, question_at, answer_taken, updates_at, update_taken, set_of, set_taken}
use Rattle.p2p_tracker_mailbox.specs.Mailboxes.{with_desk}
use Rattle.p2p_log.specs.declared.queue.Queue.{Queue}
use Rattle.p2p_log.specs.declared.queue.Queue.TheVariants as queue
use Rattle.p2p_log.specs.declared.item.Envelope.{Envelope}
use Rattle.p2p_log.specs.declared.entry.Reply.{Reply}
use Rattle.p2p_log.specs.declared.entry.Reply.TheVariants as reply
use Rattle.p2p_log.specs.QueueCode.{same_queue}
use Rattle.p2p_log_rules.specs.declared.row.Row.{Row}
use Rattle.p2p_log_rules.specs.Puts.{is_peer_set}
use Rattle.p2p_log_rules.specs.Rows.{only}
use Rattle.p2p_log_rules.specs.TrackerRows.{taken_with}
use Rattle.p2p_net_queues.specs.Board.{held}
use Rattle.p2p_net_queues.specs.Tables as table
use Rattle.p2p_net_tracker.specs.declared.question.Question.{Question}
use Rattle.p2p_net_tracker.specs.declared.question.Question.TheVariants as question
use Rattle.p2p_net_tracker.specs.declared.question.Ticket.{Ticket}
use Rattle.p2p_net_tracker.specs.declared.tracker.Tracker.{Tracker}

-- ---- what is told of what the oracle answers

abbrev pub answer_said : Polled (Option (TrackedPeers Key)) → Reply
answer_said (polled.Ready peers) = reply.PeerSet peers
answer_said polled.Pending = reply.Pending

abbrev pub update_said : Result (Polled (PeerSetUpdate Key)) Ended → Reply
update_said (Ok (polled.Ready update)) = reply.Update update
update_said (Ok polled.Pending) = reply.Pending
update_said (Err ended) = reply.StreamEnded

abbrev pub set_said : Result (Polled (List Key)) Ended → Reply
set_said (Ok (polled.Ready keys)) = reply.Blocked keys
set_said (Ok polled.Pending) = reply.Pending
set_said (Err ended) = reply.StreamEnded

-- with the name of the oldest item of its queue, which it is
abbrev pub polled_row : Reply → Option Envelope → Row
polled_row said None = only said
polled_row said (Some x) = taken_with said x

-- ---- when it may be asked

abbrev pub MayPoll : Question → ℕ → Desk Key → Type 0
MayPoll question.PeerSet number d = IsTrue (is_open (question_at d number))
MayPoll question.Updates number d = number < length d.updates
MayPoll question.Blocked number d = number < length d.sets

-- by what an event was given when it asked
abbrev pub MayRead : Option Ticket → Desk Key → Type 0
MayRead None d = Unit {0}
MayRead (Some t) d = MayPoll t.question t.number d

-- and by whether it was answered
abbrev pub MayAnswer : Bool → Option Ticket → Desk Key → Type 0
MayAnswer true t d = Unit {0}
MayAnswer false t d = MayRead t d

-- ---- what it makes of the tracker

-- the oldest item of a queue is taken
abbrev pub Pops : Queue → Tracker → Tracker → Type 0
Pops q old new = (p : Queue) → held new.told p ≡ (if same_queue q p then drop 1 (held old.told p) else held old.told p)

-- the desk is this then
abbrev pub ReadsFrom : Queue → Reply → Desk Key → Tracker → Tracker → Row → Type 0
ReadsFrom q said d old new r =
    (r ≡ polled_row said (slice_get (held old.told q) 0)) × (Pops q old new × (new ≡ record old { mailbox = with_desk old.mailbox d; answered = new.answered; told = new.told }))

-- the tracker is as it was, and this is answered
abbrev pub OnlyAnswers : Reply → Tracker → Tracker → Row → Type 0
OnlyAnswers a old new r = (r ≡ only a) × (new ≡ old)

-- the questions that were answered, with one more where this holds
abbrev pub noted : Bool → ℕ → List (ℕ × Bool) → List (ℕ × Bool)
noted true e l = insert_entry nat_cmp l e true
noted false e l = l

abbrev pub ReadsAnswer : ℕ → ℕ → ℕ → Tracker → Tracker → Row → Type 0
ReadsAnswer n e number old new r =
    let d = old.mailbox.desk in
    let said = answer_said (answer_of d.messages.closed (question_at d number)) in
    ReadsFrom (queue.PeerSet n e) said (answer_taken d number) old new r × (new.answered ≡ noted (is_peer_set said) e old.answered)

abbrev pub ReadsUpdate : ℕ → ℕ → ℕ → Tracker → Tracker → Row → Type 0
ReadsUpdate n e number old new r =
    let d = old.mailbox.desk in
    ReadsFrom (queue.PeerSetUpdates n e) (update_said (next_item d.messages.closed (slice_get (updates_at d number) 0))) (update_taken d number) old new r × (new.answered ≡ old.answered)

abbrev pub ReadsSet : ℕ → ℕ → ℕ → Tracker → Tracker → Row → Type 0
ReadsSet n e number old new r =
    let d = old.mailbox.desk in
    ReadsFrom (queue.Blocked n e) (set_said (next_item d.messages.closed (set_of d number))) (set_taken d number) old new r × (new.answered ≡ old.answered)

-- by what the event asked
abbrev pub AnswersFor : Question → ℕ → ℕ → ℕ → Tracker → Tracker → Row → Type 0
AnswersFor question.PeerSet n e number old new r = ReadsAnswer n e number old new r
AnswersFor _ n e number old new r = OnlyAnswers reply.Gone old new r

-- by whether its answer was given, and by what it was given when it asked
abbrev pub AnswersBy : Bool → Option Ticket → ℕ → ℕ → Tracker → Tracker → Row → Type 0
AnswersBy false (Some t) n e old new r = AnswersFor t.question n e t.number old new r
AnswersBy _ _ n e old new r = OnlyAnswers reply.Gone old new r

abbrev pub Answers : ℕ → ℕ → Tracker → Tracker → Row → Type 0
Answers n e old new r = AnswersBy (is_some (table.at old.answered e)) (table.at old.questions e) n e old new r

abbrev pub ContinuesFor : Question → ℕ → ℕ → ℕ → Tracker → Tracker → Row → Type 0
ContinuesFor question.PeerSet n e number old new r = OnlyAnswers reply.Gone old new r
ContinuesFor question.Updates n e number old new r = ReadsUpdate n e number old new r
ContinuesFor question.Blocked n e number old new r = ReadsSet n e number old new r

abbrev pub ContinuesBy : Option Ticket → ℕ → ℕ → Tracker → Tracker → Row → Type 0
ContinuesBy None n e old new r = OnlyAnswers reply.Gone old new r
ContinuesBy (Some t) n e old new r = ContinuesFor t.question n e t.number old new r

abbrev pub Continues : ℕ → ℕ → Tracker → Tracker → Row → Type 0
Continues n e old new r = ContinuesBy (table.at old.questions e) n e old new r
