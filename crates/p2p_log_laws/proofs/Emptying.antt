-- A row that empties queues: nothing is left there, other queues stay, and each copy has one end.
use Rattle.std.proofs.Common.{◌≡◌, ℕ, false, List, [], ◌∷◌, ◌++◌, length, map, ap, sym, subst, ◌∙◌, arith}
use Rattle.std.specs.Prelude.{filter, flat_map, count_by, Option}
use Rattle.std.specs.List.{AllByRecursion as Each}
use Rattle.std.proofs.lemmas.List.{map-append}
use Rattle.p2p_log.specs.declared.queue.Queue.{Queue}
use Rattle.p2p_log.specs.declared.item.Item.{Item}
use Rattle.p2p_log.specs.declared.item.Envelope.{Envelope}
use Rattle.p2p_log.specs.declared.end.End.{End}
use Rattle.p2p_log.specs.declared.end.Cause.{Cause}
use Rattle.p2p_log.specs.declared.entry.Entry.{Entry}
use Rattle.p2p_log.specs.declared.event.Event.{Event}
use Rattle.p2p_log.specs.QueueCode.{same_queue}
use Rattle.p2p_log.specs.Copies.{carries, carries_copy, ends_copy}
use Rattle.p2p_log.specs.Drained.{drained}
use Rattle.p2p_log.specs.Lines.{name_of, ended_item, stays, placed, live, stands_in, line}
use Rattle.p2p_log.specs.Sending.{Sending, keys_sent}
use Rattle.p2p_log_rules.specs.declared.row.Row.{Row}
use Rattle.p2p_log_rules.specs.Effect.{entry_of, goes_to}
use Rattle.p2p_log_rules.specs.Moves.{Moves}
use Rattle.p2p_log.proofs.Each.{Each-weaker}
use Rattle.p2p_log.proofs.Filters.{filter-swap}
use Rattle.p2p_log.proofs.Lines.{filter_stays-append}
use Rattle.p2p_log.proofs.Names.{AreApart-live_from}
use Rattle.p2p_log.proofs.Taken.{drained_taken, Each-drained}
use Rattle.p2p_log_rules.proofs.Left.{line_gone}
use Rattle.p2p_log_rules.proofs.Moves.{all_end-gone, goes_moved, kept, line-after, line-left}
use Rattle.p2p_log_laws.specs.BulkEnds.{Empties, NothingIsLeft, OthersAreLeft, EachStillEndsOnce}
use Rattle.p2p_log_laws.proofs.Balance.{balance_kept}
use Rattle.p2p_log_laws.proofs.Bulk.{all_end-counted}
use Rattle.p2p_log_laws.proofs.Shape.{IsBalanced, accepts, accepts-none}

-- ---- what is left of what was drained

-- a queue in which nothing stands has nothing when more goes
still_none : (gone : List (ℕ × ℕ)) (xs : List Envelope) (q : Queue) → filter (stands_in q) xs ≡ [] → filter (stands_in q) (filter (stays gone) xs) ≡ []
still_none gone xs q e = filter-swap (stands_in q) (stays gone) xs ∙ ap (filter (stays gone)) e

pub drained_none : (xs : List Envelope) (qs : List Queue) → Each (λ q. filter (stands_in q) (filter (stays (map name_of (drained xs qs))) xs) ≡ []) qs
drained_none xs [] = tt
drained_none xs (q ∷ qs) =
    let l = filter (stands_in q) xs in
    let left = filter (stays (map name_of l)) xs in
    let parts : filter (stays (map name_of (l ++ drained left qs))) xs ≡ filter (stays (map name_of (drained left qs))) left =
    ap (λ gone. filter (stays gone) xs) (map-append name_of l (drained left qs)) ∙ filter_stays-append (map name_of l) (map name_of (drained left qs)) xs
    in
    subst (λ (rest : List Envelope). Each (λ p. filter (stands_in p) rest ≡ []) (q ∷ qs)) (sym parts)
    (still_none (map name_of (drained left qs)) left q (line_gone xs q), drained_none left qs)

-- ---- the row

module _ (log : List Entry) (ev : Event) (r : Row) (qs : List Queue) (c : Cause) (h : Empties log ev r qs c) where
  abbrev rest : List Envelope
  rest = drained (live log) qs

  abbrev moves : Moves log r
  moves = record {
    taken = [];
    ended = drained (live log) qs;
    names = h.takes;
    gone = ap (λ (l : List End). flat_map ended_item l) h.ends ∙ all_end-gone c (drained (live log) qs);
    stood = drained_taken (live log) qs (AreApart-live_from 0 log);
  }

  none_put : (p : Queue) → line (log ++ entry_of ev r ∷ []) p ≡ filter (stands_in p) (kept log ev r moves) ++ []
  none_put p =
      line-after log ev r moves p ∙ ap (λ (l : List (Queue × Item)). filter (stands_in p) (kept log ev r moves) ++ filter (stands_in p) (placed (length log) 0 l)) h.puts

  left_empty : (p : Queue) → filter (stands_in p) (filter (stays (map name_of (drained (live log) qs))) (live log)) ≡ [] → line (log ++ entry_of ev r ∷ []) p ≡ []
  left_empty p e =
      none_put p ∙ ap (λ (l : List Envelope). l ++ []) (ap (λ gone. filter (stands_in p) (filter (stays gone) (live log))) (goes_moved log ev r moves) ∙ e)

  pub nothing_left : Each (λ p. line (log ++ entry_of ev r ∷ []) p ≡ []) qs
  nothing_left =
      Each-weaker (λ (p : Queue). filter (stands_in p) (filter (stays (map name_of (drained (live log) qs))) (live log)) ≡ []) (λ p. line (log ++ entry_of ev r ∷ []) p ≡ [])
      left_empty qs (drained_none (live log) qs)

  pub others_left : (p : Queue) → Each (λ q. same_queue p q ≡ false) qs → line (log ++ entry_of ev r ∷ []) p ≡ line log p
  others_left p others =
      line-left log ev r moves p
      (Each-drained (λ (x : Envelope). stands_in p x ≡ false) (live log) qs
      (Each-weaker (λ (q : Queue). same_queue p q ≡ false) (λ q. (x : Envelope) → x.queue ≡ q → stands_in p x ≡ false) (λ q d x e. ap (same_queue p) e ∙ d) qs others))
      (subst (Each (λ (x : Queue × Item). goes_to p x ≡ false)) (sym h.puts) tt)

  balanced : IsBalanced log ev.act r moves
  balanced copy =
      let none : accepts log ev.act r.reply copy ≡ 0 = accepts-none log ev.act r.reply copy (ap (λ (o : Option Sending). keys_sent o) h.sends) in
      let put : count_by (λ (x : Queue × Item). carries_copy copy x.1) r.puts ≡ 0 = ap (λ (l : List (Queue × Item)). count_by (λ x. carries_copy copy x.1) l) h.puts in
      let ended : count_by (ends_copy copy) r.ends ≡ count_by (carries copy) (drained (live log) qs) =
      ap (λ (l : List End). count_by (ends_copy copy) l) h.ends ∙ all_end-counted copy c (drained (live log) qs)
      in
      omega (arith, none, put, ended)

pub nothing_is_left : NothingIsLeft
nothing_is_left log ev r q qs c h = nothing_left log ev r (q ∷ qs) c h

pub others_are_left : OthersAreLeft
others_are_left log ev r qs c p h others = others_left log ev r qs c h p others

pub each_still_ends_once : EachStillEndsOnce
each_still_ends_once log ev r qs c h before = balance_kept log ev r (moves log ev r qs c h) (balanced log ev r qs c h) before
