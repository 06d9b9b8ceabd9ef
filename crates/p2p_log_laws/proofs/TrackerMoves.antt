-- What a step of a node's tracker moves: the message that it takes, and what its puts overwrite.
use Rattle.std.proofs.Common.{◌≡◌, ℕ, List, [], ◌∷◌, refl, subst}
use Rattle.std.specs.Prelude.{filter}
use Rattle.p2p_log.specs.declared.queue.Queue.{Queue}
use Rattle.p2p_log.specs.declared.item.Envelope.{Envelope}
use Rattle.p2p_log.specs.declared.entry.Entry.{Entry}
use Rattle.p2p_log.specs.Apart.{AreApart}
use Rattle.p2p_log.specs.Lines.{name_of, stays, live, line}
use Rattle.p2p_log.specs.Taken.{AreTaken}
use Rattle.p2p_log.proofs.Lines.{filter_stays-nil}
use Rattle.p2p_log.proofs.Names.{AreApart-filter, AreApart-live_from}
use Rattle.p2p_log.proofs.Taken.{AreTaken-append}
use Rattle.p2p_log_rules.specs.Moves.{Moves}
use Rattle.p2p_log_rules.specs.TrackerPuts.{Put}
use Rattle.p2p_log_rules.specs.TrackerRows as rows
use Rattle.p2p_log_rules.proofs.Moves.{stands_first, rings, rings_gone, rings_taken}

module _ (log : List Entry) (xs : List Put) where
  abbrev pub left : List (ℕ × ℕ) → List Envelope
  left takes = filter (stays takes) (live log)

  pub left_apart : (takes : List (ℕ × ℕ)) → AreApart (left takes)
  left_apart takes = AreApart-filter (stays takes) (live log) (AreApart-live_from 0 log)

  abbrev pub qs : List Queue
  qs = rows.rings_of xs

  pub served_stood : (q : Queue) (x : Envelope) (rest : List Envelope) → line log q ≡ x ∷ rest → AreTaken (live log) (x ∷ rings (left (name_of x ∷ [])) qs)
  served_stood q x rest first =
      AreTaken-append (live log) (x ∷ []) (rings (left (name_of x ∷ [])) qs) (stands_first log q x rest first) (rings_taken (left (name_of x ∷ [])) qs (left_apart (name_of x ∷ [])))

  pub unblocked_stood : AreTaken (live log) (rings (left []) qs)
  unblocked_stood = subst (λ l. AreTaken l (rings (left []) qs)) (filter_stays-nil (live log)) (rings_taken (left []) qs (left_apart []))

  -- the oldest message is taken
  abbrev pub served_moves : (q : Queue) (x : Envelope) (rest : List Envelope) → line log q ≡ x ∷ rest → Moves log (rows.tracker_told_row log (name_of x ∷ []) xs)
  served_moves q x rest first = record {
    taken = x ∷ [];
    ended = rings (left (name_of x ∷ [])) qs;
    names = refl;
    gone = rings_gone (left (name_of x ∷ [])) qs;
    stood = served_stood q x rest first;
  }

  -- nothing is
  abbrev pub unblocked_moves : Moves log (rows.tracker_told_row log [] xs)
  unblocked_moves = record { taken = []; ended = rings (left []) qs; names = refl; gone = rings_gone (left []) qs; stood = unblocked_stood }
