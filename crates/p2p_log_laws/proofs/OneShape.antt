-- The shape of an act that takes the oldest item of a queue: it hands it on, or the item's copy ends.
use Rattle.std.proofs.Common.{◌≡◌, ℕ, true, false, List, [], ◌∷◌, inr, refl, arith}
use Rattle.std.specs.Prelude.{count_by}
use Rattle.p2p_log.specs.declared.config.Config.{Config}
use Rattle.p2p_log.specs.declared.queue.Queue.{Queue}
use Rattle.p2p_log.specs.declared.item.Item.{Item}
use Rattle.p2p_log.specs.declared.item.Envelope.{Envelope}
use Rattle.p2p_log.specs.declared.end.End.TheVariants as end
use Rattle.p2p_log.specs.declared.end.Outcome.{Outcome}
use Rattle.p2p_log.specs.declared.entry.Entry.{Entry}
use Rattle.p2p_log.specs.declared.entry.Reply.{Reply}
use Rattle.p2p_log.specs.declared.event.Event.{Event}
use Rattle.p2p_log.specs.declared.event.Act.{Act}
use Rattle.p2p_log.specs.Lines.{name_of, same_name, line}
use Rattle.p2p_log.specs.Copies.{carries, carries_copy, copies_of}
use Rattle.p2p_log_rules.specs.Reading.{is_read}
use Rattle.p2p_log.specs.Sending.{keys_sent, sending_of}
use Rattle.p2p_log_rules.specs.Effect.{entry_of}
use Rattle.p2p_log_laws.proofs.Reaching.{reads, writes}
use Rattle.p2p_log_laws.proofs.Fitting.{fits}
use Rattle.p2p_log_laws.proofs.Shape.{Shape, OfItem, Moved-nothing, Moved-put, Moved-taken, Delivery, accepts-none, count_by-single, first_in, no_delivery, one_move}
use Rattle.p2p_log_laws.proofs.Showing.{Standing, EndShows}
use Rattle.p2p_log_laws.proofs.Spreading.{one}

module _ (configs : List Config) (log : List Entry) (a : Act) (said : Reply) (none : keys_sent (sending_of a said) ≡ [])
    (q : Queue) (x : Envelope) (rest : List Envelope) (first : line log q ≡ x ∷ rest) (read : reads configs log a q ≡ true) where
  -- it goes on to another queue, with its copies
  pub handed_shape : (p : Queue) (i : Item) → is_read said ≡ false → writes configs log a p ≡ true → fits p i ≡ true → copies_of i ≡ copies_of x.item
      → ((copy : ℕ × ℕ) → carries copy x ≡ carries_copy copy i) → OfItem configs log x p i
      → Shape configs log a (record { reply = said; takes = name_of x ∷ []; puts = (p, i) ∷ []; ends = [] })
  handed_shape p i silent near fit same carried from = record {
    moves = one_move log q x rest first (record { reply = said; takes = name_of x ∷ []; puts = (p, i) ∷ []; ends = [] }) refl refl;
    reach = record { taken = (first_in (reads configs log a) log q x rest first read, tt); ended = tt; puts = (near, tt) };
    laws = λ fitting. record {
      fitting = (fit, tt);
      moved = Moved-put configs log a said x [] (p, i) [] (inr from) same (Moved-nothing configs log a said);
      balanced = λ copy.
          let no_more = accepts-none log a said copy none in
          let taken : count_by (carries copy) (x ∷ []) ≡ one (carries_copy copy i) = count_by-single copy x (carries_copy copy i) (carried copy) in
          omega (arith, no_more, taken);
      causes = λ stand ev acts. tt;
      delivers = no_delivery configs log a said (x ∷ []) [] silent;
    };
  }

  -- its copy ends
  pub spent_shape : (copy : ℕ × ℕ) (o : Outcome) → ((other : ℕ × ℕ) → carries other x ≡ same_name other copy)
      → (Standing configs log → (ev : Event) → ev.act ≡ a
      → EndShows configs log (entry_of ev (record { reply = said; takes = name_of x ∷ []; puts = []; ends = end.Copy copy.0 copy.1 o ∷ [] })) (end.Copy copy.0 copy.1 o))
      → (is_read said ≡ true → Delivery configs log a said (x ∷ []) (end.Copy copy.0 copy.1 o ∷ []))
      → Shape configs log a (record { reply = said; takes = name_of x ∷ []; puts = []; ends = end.Copy copy.0 copy.1 o ∷ [] })
  spent_shape copy o carried cause delivers = record {
    moves = one_move log q x rest first (record { reply = said; takes = name_of x ∷ []; puts = []; ends = end.Copy copy.0 copy.1 o ∷ [] }) refl refl;
    reach = record { taken = (first_in (reads configs log a) log q x rest first read, tt); ended = tt; puts = tt };
    laws = λ fitting. record {
      fitting = tt;
      moved = Moved-taken configs log a said x;
      balanced = λ other.
          let no_more = accepts-none log a said other none in
          let taken : count_by (carries other) (x ∷ []) ≡ one (same_name other copy) = count_by-single other x (same_name other copy) (carried other) in
          omega (arith, no_more, taken);
      causes = λ stand ev acts. (cause stand ev acts, tt);
      delivers = delivers;
    };
  }
