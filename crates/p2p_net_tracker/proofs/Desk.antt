-- What a step leaves of the tracker's mailbox: its messages, and as many tickets as before.
use Rattle.std.proofs.Common.{◌≡◌, List, [], ◌∷◌, length, refl, ◌∙◌}
use Rattle.std.proofs.lemmas.List.{length-set}
use Rattle.p2p_base.specs.declared.key.Key.{Key}
use Rattle.p2p_tracker_mailbox.specs.Desk.{Desk}
use Rattle.p2p_tracker_mailbox.specs.declared.mailbox.Mailbox.{Mailbox}
use Rattle.p2p_tracker.specs.Telling.{after_put, after_puts}
use Rattle.p2p_tracker.specs.declared.stepped.Put.{Put}
use Rattle.p2p_tracker.specs.declared.stepped.Put.TheVariants as put

-- the same messages, and as many tickets
pub record LeavesDesk (old new : Desk Key) : Type 0 where
  pub messages : new.messages ≡ old.messages
  pub questions : length new.questions ≡ length old.questions
  pub updates : length new.updates ≡ length old.updates
  pub sets : length new.sets ≡ length old.sets

same_desk : (d : Desk Key) → LeavesDesk d d
same_desk d = record { messages = refl; questions = refl; updates = refl; sets = refl }

one_left : (p : Put Key) (m : Mailbox Key) → LeavesDesk m.desk (after_put p m).desk
one_left (put.Kill peer conn) m = same_desk m.desk
one_left (put.Listenable addresses dropped) m = same_desk m.desk
one_left (put.Update ticket update) m = record { messages = refl; questions = refl; updates = length-set m.desk.updates ticket _; sets = refl }
one_left (put.Blocked ticket keys dropped) m = record { messages = refl; questions = refl; updates = refl; sets = length-set m.desk.sets ticket _ }
one_left (put.PeerSet ticket peers) m = record { messages = refl; questions = length-set m.desk.questions ticket _; updates = refl; sets = refl }
one_left (put.Dialable list) m = same_desk m.desk
one_left (put.Dial grant) m = same_desk m.desk
one_left (put.Acceptable handshake acceptable) m = same_desk m.desk
one_left (put.Listen handshake grant) m = same_desk m.desk

pub all_left : (ps : List (Put Key)) (m : Mailbox Key) → LeavesDesk m.desk (after_puts ps m).desk
all_left [] m = same_desk m.desk
all_left (p ∷ ps) m =
    let one = one_left p m in
    let rest = all_left ps (after_put p m) in
    record {
      messages = rest.messages ∙ one.messages;
      questions = rest.questions ∙ one.questions;
      updates = rest.updates ∙ one.updates;
      sets = rest.sets ∙ one.sets;
    }
