-- An entry of a given shape keeps the balance of carriers and ends.
use Rattle.p2p_log.proofs.Sending.{sending_at-append, sending_at-past}
use Rattle.p2p_log.specs.Sending.{keys_sent, sending_of, sending_at}
use Rattle.p2p_log.specs.Copies.{accepted}
use Rattle.std.proofs.Common.{◌≡◌, ℕ, ◌+◌, true, cond, List, [], ◌∷◌, ◌++◌, map, length, None, refl, ap, sym, subst, ◌∙◌, arith, append-nil, false, Bool}
use Rattle.std.specs.Prelude.{◌==◌, ◌&&◌, filter, nat_lt, count_by}
use Rattle.std.specs.List.{AllByRecursion as Each}
use Rattle.std.proofs.lemmas.Bool.Decides.{nat_tests}
use Rattle.std.proofs.lemmas.List.Concat.{flat_map-append}
use Rattle.std.proofs.lemmas.List.Sums.{sum_by-append}
use Rattle.p2p_log.specs.declared.item.Envelope.{Envelope}
use Rattle.p2p_log.specs.declared.entry.Entry.{Entry}
use Rattle.p2p_log.specs.declared.event.Event.{Event}
use Rattle.p2p_log.specs.Lines.{name_of, goes, stays, live, live_from, placed}
use Rattle.p2p_log.specs.Copies.{carries, carries_copy, carriers, ends_copy, ends_of, times_ended}
use Rattle.p2p_log_rules.specs.declared.row.Row.{Row}
use Rattle.p2p_log_rules.specs.Effect.{entry_of}
use Rattle.p2p_log.proofs.Lines.{live-append}
use Rattle.p2p_log.proofs.Names.{AreApart-live_from}
use Rattle.p2p_log_laws.specs.OneEnd.{EachEndsOnce}
use Rattle.p2p_log.proofs.Each.{Each-append, Each-filter}
use Rattle.p2p_log_laws.proofs.Fitting.{Fits, StandsFit, count_by-placed, Each-placed}
use Rattle.p2p_log_rules.specs.Moves.{Moves}
use Rattle.p2p_log_rules.proofs.Moves.{goes_moved}
use Rattle.p2p_log_laws.proofs.Shape.{IsBalanced, accepts}
use Rattle.p2p_log_laws.proofs.Spreading.{one}
use Rattle.p2p_log.proofs.Taken.{sum_by-taken}

-- what stands in queues before the first entry
pub live-none : live [] ≡ []
unfolding live_from
live-none = refl

-- ---- the accepted copies with one more entry

pub accepted_more : (log : List Entry) (e : Entry) (copy : ℕ × ℕ)
    → one (nat_lt copy.1 (length (accepted (log ++ e ∷ []) copy.0)))
    ≡ one (nat_lt copy.1 (length (accepted log copy.0))) + accepts log e.event.act e.reply copy
accepted_more log e copy =
    ap (λ o. one (nat_lt copy.1 (length (keys_sent o)))) (sending_at-append log e copy.0)
    ∙ go (nat_lt copy.0 (length log)) refl (copy.0 == length log) refl
  where
    none : (p : ℕ) → one (nat_lt p 0) ≡ 0
    none p = grind (arith, nat_tests)

    early : (n s p l : ℕ) → nat_lt s n ≡ true → one ((n == s) && nat_lt p l) ≡ 0
    early n s p l h = grind (arith, nat_tests)

    here : (n s p l : ℕ) → (s == n) ≡ true → one ((n == s) && nat_lt p l) ≡ one (nat_lt p l)
    here n s p l h = grind (arith, nat_tests)

    late : (n s p l : ℕ) → (s == n) ≡ false → one ((n == s) && nat_lt p l) ≡ 0
    late n s p l h = grind (arith, nat_tests)

    past : nat_lt copy.0 (length log) ≡ false → one (nat_lt copy.1 (length (accepted log copy.0))) ≡ 0
    past h = ap (λ o. one (nat_lt copy.1 (length (keys_sent o)))) (sending_at-past log copy.0 h) ∙ none copy.1

    go : (b : Bool) → nat_lt copy.0 (length log) ≡ b → (last : Bool) → (copy.0 == length log) ≡ last
        → one (nat_lt copy.1 (length (keys_sent (cond b (sending_at log copy.0) (cond last (sending_of e.event.act e.reply) None)))))
        ≡ one (nat_lt copy.1 (length (accepted log copy.0))) + accepts log e.event.act e.reply copy
    go true h last k = let no_more = early (length log) copy.0 copy.1 (length (keys_sent (sending_of e.event.act e.reply))) h in omega (arith, no_more)
    go false h true k =
        let before = past h in
        let same = here (length log) copy.0 copy.1 (length (keys_sent (sending_of e.event.act e.reply))) k in
        omega (arith, before, same)
    go false h false k =
        let before = past h in
        let no_more = late (length log) copy.0 copy.1 (length (keys_sent (sending_of e.event.act e.reply))) k in
        let nothing = none copy.1 in
        omega (arith, before, no_more, nothing)

-- ---- the step

pub times_ended_more : (log : List Entry) (e : Entry) (copy : ℕ × ℕ) → times_ended (log ++ e ∷ []) copy ≡ times_ended log copy + count_by (ends_copy copy) e.ends
times_ended_more log e copy =
    ap (λ ds. count_by (ends_copy copy) ds) (flat_map-append (λ d. d.ends) log (e ∷ []) ∙ ap (λ ds. ends_of log ++ ds) (append-nil e.ends))
    ∙ sum_by-append (λ d. cond (ends_copy copy d) 1 0) (ends_of log) e.ends

module _ (log : List Entry) (ev : Event) (r : Row) (m : Moves log r) where
  -- the copies that what goes carries are those that what is taken and what is ended carries
  pub carried_by_moved : (copy : ℕ × ℕ)
      → count_by (carries copy) (live log) ≡ (count_by (carries copy) m.taken + count_by (carries copy) m.ended) + count_by (carries copy) (filter (stays (goes (entry_of ev r))) (live log))
  carried_by_moved copy =
      let w : Envelope → ℕ = λ x. one (carries copy x) in
      sum_by-taken w (live log) (m.taken ++ m.ended) (AreApart-live_from 0 log) m.stood
      ∙ (ap (λ n. n + count_by (carries copy) (filter (stays (map name_of (m.taken ++ m.ended))) (live log))) (sum_by-append w m.taken m.ended)
      ∙ ap (λ gone. (count_by (carries copy) m.taken + count_by (carries copy) m.ended) + count_by (carries copy) (filter (stays gone) (live log))) (sym (goes_moved log ev r m)))

  pub carriers_more : (copy : ℕ × ℕ)
      → carriers (log ++ entry_of ev r ∷ []) copy ≡ count_by (carries copy) (filter (stays (goes (entry_of ev r))) (live log)) + count_by (λ x. carries_copy copy x.1) r.puts
  carriers_more copy =
      ap (λ xs. count_by (carries copy) xs) (live-append log (entry_of ev r))
      ∙ (sum_by-append (λ x. one (carries copy x)) (filter (stays (goes (entry_of ev r))) (live log)) (placed (length log) 0 r.puts)
      ∙ ap (λ n. count_by (carries copy) (filter (stays (goes (entry_of ev r))) (live log)) + n) (count_by-placed copy (length log) 0 r.puts))

  pub balance_kept : IsBalanced log ev.act r m → EachEndsOnce log → EachEndsOnce (log ++ entry_of ev r ∷ [])
  balance_kept even before copy =
      let old : carriers log copy + times_ended log copy ≡ one (nat_lt copy.1 (length (accepted log copy.0))) = before copy in
      let taken = carried_by_moved copy in
      let more = carriers_more copy in
      let ended = times_ended_more log (entry_of ev r) copy in
      let keys = accepted_more log (entry_of ev r) copy in
      let balanced = even copy in
      omega (arith, old, taken, more, ended, keys, balanced)

  pub fitting_kept : Each Fits r.puts → Each StandsFit (live log) → Each StandsFit (live (log ++ entry_of ev r ∷ []))
  fitting_kept puts before =
      subst (Each StandsFit) (sym (live-append log (entry_of ev r)))
      (Each-append StandsFit (filter (stays (goes (entry_of ev r))) (live log)) (placed (length log) 0 r.puts)
      (Each-filter StandsFit (stays (goes (entry_of ev r))) (live log) before)
      (Each-placed Fits (length log) 0 r.puts puts))
