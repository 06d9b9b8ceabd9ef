-- What a node's tracker answers the dialer.
use Rattle.std.proofs.Common.{◌≡◌, ℕ, ◌+◌, cond, List, [], ◌∷◌, ◌++◌, Option, refl, sym, ap, subst, ◌∙◌, append_assoc, append-nil}
use Rattle.std.specs.Prelude.{filter}
use Rattle.p2p_address.specs.declared.peer.Ingress.{Ingress}
use Rattle.p2p_base.specs.declared.key.Key.{Key}
use Rattle.p2p_tracker_directory.specs.declared.metadata.Metadata.{Metadata}
use Rattle.p2p_tracker_mailbox.specs.declared.answer.DialerAnswer.{DialerAnswer}
use Rattle.p2p_tracker_mailbox.specs.declared.answer.DialerAnswer.TheVariants as answer
use Rattle.p2p_tracker_mailbox.specs.declared.mailbox.Mailbox.{Mailbox}
use Rattle.p2p_tracker.specs.Telling.{after_put, after_puts}
use Rattle.p2p_tracker.specs.declared.stepped.Put.{Put}
use Rattle.p2p_tracker.specs.declared.stepped.Put.TheVariants as put
use Rattle.p2p_log.specs.declared.queue.Queue.{Queue}
use Rattle.p2p_log.specs.declared.queue.Queue.TheVariants as queue
use Rattle.p2p_log.specs.declared.item.Item.{Item}
use Rattle.p2p_log.specs.declared.item.Item.TheVariants as item
use Rattle.p2p_log.specs.declared.item.Envelope.{Envelope}
use Rattle.p2p_log.specs.Lines.{placed, stands_in}
use Rattle.p2p_log.proofs.Queues.{same_queue-refl}
use Rattle.p2p_net_tracker.specs.declared.naming.Tickets.{Tickets}
use Rattle.p2p_net_tracker.specs.Naming.{named_puts, grant_of, dialed_grant}
use Rattle.p2p_net_queues.specs.Matching.{Match}
use Rattle.p2p_net_tracker.specs.Stands.{IsAnswer}

-- the reservation of a grant is the dialer's
abbrev pub IsDialed : Option (Metadata Key × Ingress) → Type 0
IsDialed grant = grant ≡ dialed_grant (grant_of grant)

-- so is that of each grant to the dialer
abbrev pub AreDialed : List (Put Key) → Type 0
AreDialed [] = Unit {0}
AreDialed (put.Dial grant ∷ ps) = IsDialed grant × AreDialed ps
AreDialed (_ ∷ ps) = AreDialed ps

-- what the dialer is answered, of what was put
abbrev pub answers_in : List (Put Key) → List (DialerAnswer Key)
answers_in [] = []
answers_in (put.Dialable list ∷ ps) = answer.Dialable list ∷ answers_in ps
answers_in (put.Dial grant ∷ ps) = answer.Dial grant ∷ answers_in ps
answers_in (_ ∷ ps) = answers_in ps

pub answers-after : (ps : List (Put Key)) (m : Mailbox Key) → (after_puts ps m).dialer ≡ m.dialer ++ answers_in ps
answers-after [] m = sym (append-nil m.dialer)
answers-after (put.Dialable list ∷ ps) m = answers-after ps (after_put (put.Dialable list) m) ∙ append_assoc m.dialer (answer.Dialable list ∷ []) (answers_in ps)
answers-after (put.Dial grant ∷ ps) m = answers-after ps (after_put (put.Dial grant) m) ∙ append_assoc m.dialer (answer.Dial grant ∷ []) (answers_in ps)
answers-after (put.Kill peer conn ∷ ps) m = answers-after ps m
answers-after (put.Listenable addresses dropped ∷ ps) m = answers-after ps (after_put (put.Listenable addresses dropped) m)
answers-after (put.Update ticket update ∷ ps) m = answers-after ps (after_put (put.Update ticket update) m)
answers-after (put.Blocked ticket keys dropped ∷ ps) m = answers-after ps (after_put (put.Blocked ticket keys dropped) m)
answers-after (put.PeerSet ticket peers ∷ ps) m = answers-after ps (after_put (put.PeerSet ticket peers) m)
answers-after (put.Acceptable handshake acceptable ∷ ps) m = answers-after ps (after_put (put.Acceptable handshake acceptable) m)
answers-after (put.Listen handshake grant ∷ ps) m = answers-after ps (after_put (put.Listen handshake grant) m)

abbrev IsAnswered : Envelope → DialerAnswer Key → Type 0
IsAnswered x a = IsAnswer x.item a

module _ (n : ℕ) (t : Tickets) (k : ℕ) where
  -- an item in the dialer's line comes first there
  answered_first : (p : ℕ) (i : Item) (xs : List (Queue × Item)) (a : DialerAnswer Key) (more : List (DialerAnswer Key)) → IsAnswer i a → Match IsAnswered (filter (stands_in (queue.Dialer n)) (placed k (p + 1) xs)) more
      → Match IsAnswered (filter (stands_in (queue.Dialer n)) (placed k p ((queue.Dialer n, i) ∷ xs))) (a ∷ more)
  answered_first p i xs a more h rest =
      let x : Envelope = record { entry = k; place = p; queue = queue.Dialer n; item = i } in
      let others = filter (stands_in (queue.Dialer n)) (placed k (p + 1) xs) in
      subst (λ b. Match IsAnswered (cond b (x ∷ others) others) (a ∷ more)) (sym (same_queue-refl (queue.Dialer n))) (h, rest)

  pub answers-named : (p : ℕ) (ps : List (Put Key)) → AreDialed ps → Match IsAnswered (filter (stands_in (queue.Dialer n)) (placed k p (named_puts n t ps))) (answers_in ps)
  answers-named p [] h = tt
  answers-named p (put.Dialable list ∷ ps) h = answered_first p (item.Dialable list.next_query_at list.peers) (named_puts n t ps) (answer.Dialable list) (answers_in ps) refl (answers-named (p + 1) ps h)
  answers-named p (put.Dial grant ∷ ps) h = answered_first p (item.Dial (grant_of grant)) (named_puts n t ps) (answer.Dial grant) (answers_in ps) (ap answer.Dial h.0) (answers-named (p + 1) ps h.1)
  answers-named p (put.Kill peer conn ∷ ps) h = answers-named (p + 1) ps h
  answers-named p (put.Listenable addresses dropped ∷ ps) h = answers-named (p + 1) ps h
  answers-named p (put.Update ticket update ∷ ps) h = answers-named (p + 1) ps h
  answers-named p (put.Blocked ticket keys dropped ∷ ps) h = answers-named (p + 1) ps h
  answers-named p (put.PeerSet ticket peers ∷ ps) h = answers-named (p + 1) ps h
  answers-named p (put.Acceptable handshake acceptable ∷ ps) h = answers-named (p + 1) ps h
  answers-named p (put.Listen handshake grant ∷ ps) h = answers-named (p + 1) ps h
