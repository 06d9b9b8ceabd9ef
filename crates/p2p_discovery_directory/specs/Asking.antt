-- The tracker's mailbox as contracts see it, and what its calls answer and leave.
use Rattle.std.specs.Prelude.{ℕ, Bool, true, false, List, [], Option, Some, None}
use Rattle.std.specs.BTreeMap.{insert_entry, is_at}
use Rattle.std.specs.Map.{lookup, remove_entry}
use Rattle.std.specs.Ordering.{nat_cmp}
use Rattle.p2p_tracker_mailbox.specs.Desk.{DeskOf, new_desk, ended, without_message as taken_from, with_message as put_at}
use Rattle.p2p_discovery_directory.specs.declared.tracker.answer.Answer.{Answer}
use Rattle.p2p_discovery_directory.specs.declared.tracker.answer.Answer.TheVariants as answer
use Rattle.p2p_discovery_directory.specs.declared.tracker.message.Message.{Message}

-- the desk, with the messages that wait for the tracker; and the answers that connections haven't taken, by their numbers
pub record Way (P : Type 0) : Type 0 where
  pub desk : DeskOf P (Message P)
  pub answers : List (ℕ × Answer P)

module _ {P : Type 0} where
  abbrev pub new_way : ℕ → Way P
  new_way size = record { desk = new_desk size; answers = [] }

  -- once the tracker has ended: nothing waits but for those who asked by an oracle
  abbrev pub closed_way : Way P → Way P
  closed_way w = record { desk = ended w.desk; answers = [] }

  -- with this desk in place of its own
  abbrev pub with_desk : Way P → DeskOf P (Message P) → Way P
  with_desk w d = record { desk = d; answers = w.answers }

  abbrev pub without_message : Way P → Way P
  without_message w = with_desk w (taken_from w.desk)

  -- after a message was put last; a mailbox that is closed drops it
  abbrev pub with_message : Way P → Message P → Way P
  with_message w m = with_desk w (put_at w.desk m)

  -- the answer that waits for a connection
  abbrev pub answer_in : List (ℕ × Answer P) → ℕ → Option (Answer P)
  answer_in answers conn = lookup (is_at (nat_cmp conn)) answers

  -- a tracker that has ended answers that the peer may not connect
  abbrev pub answered : Bool → Option (Answer P) → Option (Answer P)
  answered closed (Some a) = Some a
  answered true None = Some answer.NotEligible
  answered false None = None

  -- what a connection is answered, if it is
  abbrev pub answer_of : Way P → ℕ → Option (Answer P)
  answer_of w conn = answered w.desk.messages.closed (answer_in w.answers conn)

  -- after a connection was answered
  abbrev pub with_answer : Way P → ℕ → Answer P → Way P
  with_answer w conn a = record { desk = w.desk; answers = insert_entry nat_cmp w.answers conn a }

  -- after its answer was taken
  abbrev pub without_answer : Way P → ℕ → Way P
  without_answer w conn = record { desk = w.desk; answers = remove_entry (is_at (nat_cmp conn)) w.answers }
