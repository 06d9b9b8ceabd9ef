-- What a step leaves of those who asked: each subscription, and each question that is open.
use Rattle.std.proofs.Common.{◌≡◌, ℕ, zero, suc, true, List, [], ◌∷◌, length, refl, ◌∙◌}
use Rattle.std.proofs.lemmas.List.{length-set}
use Rattle.std.specs.Prelude.{slice_index_or, slice_set}
use Rattle.p2p_flow.specs.Provided.{Question, unanswered, answered, given, is_open}
use Rattle.p2p_tracker_mailbox.specs.Desk.{with_answer, question_at}
use Rattle.p2p_tracker_mailbox.specs.declared.mailbox.Mailbox.{Mailbox}
use Rattle.p2p_tracker.specs.Telling.{after_put, after_puts}
use Rattle.p2p_tracker.specs.Serving.{left_in}
use Rattle.p2p_tracker.specs.declared.stepped.Put.{Put}
use Rattle.p2p_tracker.specs.declared.stepped.Put.TheVariants as puts
use Rattle.p2p_tracker.specs.declared.stepped.Stepped.{Stepped}
use Rattle.p2p_tracker.specs.declared.stepped.Stepped.TheVariants as stepped

module _ {T : Type 0} where
  open_answer : (q : Question T) (a : T) → is_open q ≡ true → is_open (with_answer q a) ≡ true
  open_answer unanswered a h = refl
  open_answer (answered b) a h = refl
  open_answer given a h = h

  open_set : (qs : List (Question T)) (i n : ℕ) (a : T) → is_open (slice_index_or qs n given) ≡ true
      → is_open (slice_index_or (slice_set qs i (with_answer (slice_index_or qs i given) a)) n given) ≡ true
  open_set [] i n a h = h
  open_set (q ∷ qs) zero zero a h = open_answer q a h
  open_set (q ∷ qs) zero (suc n) a h = h
  open_set (q ∷ qs) (suc i) zero a h = h
  open_set (q ∷ qs) (suc i) (suc n) a h = open_set qs i n a h

module _ {P : Type 0} where
  updates_one : (x : Put P) (m : Mailbox P) → length (after_put x m).desk.updates ≡ length m.desk.updates
  updates_one (puts.Kill peer conn) m = refl
  updates_one (puts.Listenable ips before) m = refl
  updates_one (puts.Update ticket update) m = length-set m.desk.updates ticket _
  updates_one (puts.Blocked ticket blocked dropped) m = refl
  updates_one (puts.PeerSet ticket peers) m = refl
  updates_one (puts.Dialable list) m = refl
  updates_one (puts.Dial grant) m = refl
  updates_one (puts.Acceptable handshake acceptable) m = refl
  updates_one (puts.Listen handshake grant) m = refl

  pub updates-after_puts : (ps : List (Put P)) (m : Mailbox P) → length (after_puts ps m).desk.updates ≡ length m.desk.updates
  updates-after_puts [] m = refl
  updates-after_puts (p ∷ ps) m = updates-after_puts ps (after_put p m) ∙ updates_one p m

  sets_one : (x : Put P) (m : Mailbox P) → length (after_put x m).desk.sets ≡ length m.desk.sets
  sets_one (puts.Kill peer conn) m = refl
  sets_one (puts.Listenable ips before) m = refl
  sets_one (puts.Update ticket update) m = refl
  sets_one (puts.Blocked ticket blocked dropped) m = length-set m.desk.sets ticket _
  sets_one (puts.PeerSet ticket peers) m = refl
  sets_one (puts.Dialable list) m = refl
  sets_one (puts.Dial grant) m = refl
  sets_one (puts.Acceptable handshake acceptable) m = refl
  sets_one (puts.Listen handshake grant) m = refl

  pub sets-after_puts : (ps : List (Put P)) (m : Mailbox P) → length (after_puts ps m).desk.sets ≡ length m.desk.sets
  sets-after_puts [] m = refl
  sets-after_puts (p ∷ ps) m = sets-after_puts ps (after_put p m) ∙ sets_one p m

  open_one : (x : Put P) (m : Mailbox P) (n : ℕ) → is_open (question_at m.desk n) ≡ true → is_open (question_at (after_put x m).desk n) ≡ true
  open_one (puts.Kill peer conn) m n h = h
  open_one (puts.Listenable ips before) m n h = h
  open_one (puts.Update ticket update) m n h = h
  open_one (puts.Blocked ticket blocked dropped) m n h = h
  open_one (puts.PeerSet ticket peers) m n h = open_set m.desk.questions ticket n peers h
  open_one (puts.Dialable list) m n h = h
  open_one (puts.Dial grant) m n h = h
  open_one (puts.Acceptable handshake acceptable) m n h = h
  open_one (puts.Listen handshake grant) m n h = h

  pub open-after_puts : (ps : List (Put P)) (m : Mailbox P) (n : ℕ) → is_open (question_at m.desk n) ≡ true → is_open (question_at (after_puts ps m).desk n) ≡ true
  open-after_puts [] m n h = h
  open-after_puts (p ∷ ps) m n h = open-after_puts ps (after_put p m) n (open_one p m n h)

  -- the message that is taken is no question's answer and no subscription
  pub left-updates : (s : Stepped P) (m : Mailbox P) → length (left_in s m).desk.updates ≡ length m.desk.updates
  left-updates stepped.Idle m = refl
  left-updates (stepped.EndedBlocks put) m = refl
  left-updates (stepped.Message put) m = refl

  pub left-sets : (s : Stepped P) (m : Mailbox P) → length (left_in s m).desk.sets ≡ length m.desk.sets
  left-sets stepped.Idle m = refl
  left-sets (stepped.EndedBlocks put) m = refl
  left-sets (stepped.Message put) m = refl

  pub left-open : (s : Stepped P) (m : Mailbox P) (n : ℕ) → is_open (question_at m.desk n) ≡ true → is_open (question_at (left_in s m).desk n) ≡ true
  left-open stepped.Idle m n h = h
  left-open (stepped.EndedBlocks put) m n h = h
  left-open (stepped.Message put) m n h = h
