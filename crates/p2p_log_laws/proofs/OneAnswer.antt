-- Of the words about a handshake one waits at a time, over a lawful log.
use Rattle.std.proofs.Common.{◌≡◌, ℕ, suc, ◌+◌, ◌≤◌, Bool, true, false, List, [], ◌∷◌, ◌++◌, length, ◌⊎◌, inl, inr, refl, ap, sym, subst, ◌∙◌, arith, length-append}
use Rattle.std.specs.Prelude.{◌&&◌, ◌||◌, not, count_by}
use Rattle.p2p_log_rules.proofs.Bools.{and_false, and_true}
use Rattle.p2p_log.specs.declared.config.Config.{Config}
use Rattle.p2p_log.specs.declared.entry.Entry.{Entry}
use Rattle.p2p_log.specs.declared.event.Event.{Event}
use Rattle.p2p_log.specs.Lines.{live_from}
use Rattle.p2p_log_rules.specs.declared.row.Row.{Row}
use Rattle.p2p_log_rules.specs.Effect.{entry_of, row}
use Rattle.p2p_log_rules.specs.Handshakes.{takes_acceptance, is_accepted}
use Rattle.p2p_log_rules.specs.Moves.{Moves}
use Rattle.p2p_log_rules.proofs.HandshakeTook.{has_taken-now}
use Rattle.p2p_log_laws.specs.Grants.{one}
use Rattle.p2p_log_laws.specs.OneAnswer.{Words, is_for, waiting_for, ends_exchange, has_ended, is_open, HasOne}
use Rattle.p2p_log_laws.proofs.Answering.{accepts_now, Begins, Ends, Answers}
use Rattle.p2p_log_laws.proofs.EachAnswers.{each_answers}
use Rattle.p2p_log_laws.proofs.Exchanges.{Over, has_ended-append, ends_once, ends_begun}
use Rattle.p2p_log_laws.proofs.Untold.{Untold}
use Rattle.p2p_log_laws.proofs.Weighing.{weight, weighed}

-- ---- what an entry makes of whether it is open

open_next : (counts now accepted ends ended : Bool) → one ((not counts || (now || accepted)) && not (ends || ended)) ≤ one ((not counts || accepted) && not ended) + one (counts && now)
open_next counts now accepted true ended = subst (λ b. one b ≤ one ((not counts || accepted) && not ended) + one (counts && now)) (sym (and_false (not counts || (now || accepted)))) (omega arith)
open_next counts now accepted false true = subst (λ b. one b ≤ one ((not counts || accepted) && false) + one (counts && now)) (sym (and_false (not counts || (now || accepted)))) (omega arith)
open_next false now accepted false false = omega arith
open_next true true accepted false false = omega arith
open_next true false accepted false false = omega arith

open_begun : (counts now accepted b : Bool) → now ≡ false → accepted ≡ false → one ((not counts || (now || accepted)) && b) ≤ one (not counts)
open_begun false now accepted true never none = omega arith
open_begun false now accepted false never none = omega arith
open_begun true now accepted b never none = subst (λ c. one (c && b) ≤ 0) (sym (ap (λ c. c || accepted) never ∙ none)) (omega arith)

open_ended : (a ends ended : Bool) → ends ≡ true → one (a && not (ends || ended)) ≡ 0
open_ended a ends ended now = ap (λ b. one (a && not (b || ended))) now ∙ ap one (and_false a)

one_of : (b : Bool) → one b + one (not b) ≡ 1
one_of true = refl
one_of false = refl

-- ---- the sums

fewer : (now taken ended old more is_open was x : ℕ) → now + (taken + ended) ≡ old + more → more + x ≤ taken → is_open ≤ was + x → old + was ≤ 1 → now + is_open ≤ 1
fewer now taken ended old more is_open was x moved few opens before = omega (arith, moved, few, opens, before)

begun : (now taken ended old more is_open a b : ℕ) → now + (taken + ended) ≡ old + more → old ≡ 0 → more ≤ a → is_open ≤ b → a + b ≡ 1 → now + is_open ≤ 1
begun now taken ended old more is_open a b moved none few opens sum = omega (arith, moved, none, few, opens, sum)

told : (now taken ended old more is_open was : ℕ) → now + (taken + ended) ≡ old + more → more ≤ was → is_open ≡ 0 → old + was ≤ 1 → now + is_open ≤ 1
told now taken ended old more is_open was moved few closed before = omega (arith, moved, few, closed, before)

none_left : (now taken ended old more x : ℕ) → now + (taken + ended) ≡ old + more → more + x ≤ taken → old ≡ 0 → now ≡ 0
none_left now taken ended old more x moved few none = omega (arith, moved, few, none)

earlier : (x y z : ℕ) → x ≡ y + 1 → x ≤ z → y ≤ z
earlier x y z is le = omega (arith, is, le)

too_early : (x y z : ℕ) → x ≡ y + 1 → x ≤ z → z ≡ y → ⊥
too_early x y z is le same = omega (arith, is, le, same)

too_late : (x y z : ℕ) → x ≡ y + 1 → x ≤ z → suc z ≤ y → ⊥
too_late x y z is le before = omega (arith, is, le, before)

same_length : (x y : ℕ) → x ≡ y → y ≤ x
same_length x y is = omega (arith, is)

module _ (w : Words) (sound : (w.acceptance && w.refusal) ≡ false) (configs : List Config) (n name : ℕ) where
  -- and before it can begin, nothing waits for it
  pub record Holds (log : List Entry) : Type 0 where
    pub one_waits : HasOne n name w log
    pub none_before : length log ≤ name → waiting_for w n name log ≡ 0

  pub holds_first : Holds []
  unfolding live_from
  holds_first = record { one_waits = at_most (is_open n name w []); none_before = λ past. refl }
    where
      at_most : (b : Bool) → 0 + one b ≤ 1
      at_most true = omega arith
      at_most false = omega arith

  module _ (before : List Entry) (ev : Event) (over : Over n name before) (untold : Untold takes_acceptance refl configs n name before) (h : Holds before) where
    abbrev r : Row
    r = row configs before ev.at ev.seed ev.act

    abbrev e : Entry
    e = entry_of ev r

    abbrev now : ℕ
    now = waiting_for w n name (before ++ e ∷ [])

    abbrev old : ℕ
    old = waiting_for w n name before

    abbrev more : ℕ
    more = count_by (is_for w n name) r.puts

    abbrev accepted : Bool
    accepted = is_accepted before n name

    abbrev accepting : Bool
    accepting = accepts_now w n name before ev r

    abbrev ending : Bool
    ending = ends_exchange n name before ev.act r.reply

    abbrev ended : Bool
    ended = has_ended n name before

    open_is : is_open n name w (before ++ e ∷ []) ≡ ((not w.acceptance || (accepting || accepted)) && not (ending || ended))
    open_is =
        ap (λ b. (not w.acceptance || b) && not (has_ended n name (before ++ e ∷ []))) (has_taken-now takes_acceptance before e n name)
        ∙ ap (λ b. (not w.acceptance || (accepting || accepted)) && not b) (has_ended-append n name before e)

    abbrev opens : ℕ
    opens = one (is_open n name w (before ++ e ∷ []))

    longer : length (before ++ e ∷ []) ≡ length before + 1
    longer = length-append before (e ∷ [])

    module _ (m : Moves before r) where
      moved : now + (weight (is_for w n name) m.taken + weight (is_for w n name) m.ended) ≡ old + more
      moved = weighed before ev r m (is_for w n name)

      abbrev taken : ℕ
      taken = weight (is_for w n name) m.taken

      abbrev gone : ℕ
      gone = weight (is_for w n name) m.ended

      by_few : more + one (w.acceptance && accepting) ≤ taken → Holds (before ++ e ∷ [])
      by_few few =
          let next : opens ≤ one (is_open n name w before) + one (w.acceptance && accepting) =
          subst (λ b. one b ≤ one (is_open n name w before) + one (w.acceptance && accepting)) (sym open_is) (open_next w.acceptance accepting accepted ending ended)
          in
          record {
            one_waits = fewer now taken gone old more opens (one (is_open n name w before)) (one (w.acceptance && accepting)) moved few next h.one_waits;
            none_before = λ past. none_left now taken gone old more (one (w.acceptance && accepting)) moved few (h.none_before (earlier (length (before ++ e ∷ [])) (length before) name longer past));
          }

      by_begin : Begins w n name before ev r → Holds (before ++ e ∷ [])
      by_begin begins =
          let late : length before ≤ name = same_length name (length before) begins.named in
          let next : opens ≤ one (not w.acceptance) =
          subst (λ b. one b ≤ one (not w.acceptance)) (sym open_is) (open_begun w.acceptance accepting accepted (not (ending || ended)) begins.none_accepted (untold late))
          in
          record {
            one_waits = begun now taken gone old more opens (one w.acceptance) (one (not w.acceptance)) moved (h.none_before late) begins.one_put next (one_of w.acceptance);
            none_before = λ past. absurd (too_early (length (before ++ e ∷ [])) (length before) name longer past begins.named);
          }

      by_end : Ends w n name before ev r → Holds (before ++ e ∷ [])
      by_end ends =
          let first : ended ≡ false = ends_once n name before over ev.act r.reply ends.ending in
          let was : is_open n name w before ≡ (not w.acceptance || accepted) = ap (λ b. (not w.acceptance || accepted) && not b) first ∙ and_true (not w.acceptance || accepted) in
          record {
            one_waits = told now taken gone old more opens (one (not w.acceptance || accepted)) moved ends.one_put
                (ap one open_is ∙ open_ended (not w.acceptance || (accepting || accepted)) ending ended ends.ending) (subst (λ b. old + one b ≤ 1) was h.one_waits);
            none_before = λ past. absurd (too_late (length (before ++ e ∷ [])) (length before) name longer past (ends_begun n name before ev.act r.reply ends.ending));
          }

    pub holds_next : Holds (before ++ e ∷ [])
    holds_next =
        let each : Answers w n name before ev r = each_answers w sound n name configs before ev.at ev.seed ev.act in
        by each each.few
      where
        by : (each : Answers w n name before ev r) → (more + one (w.acceptance && accepting) ≤ weight (is_for w n name) each.moves.taken) ⊎ (Begins w n name before ev r ⊎ Ends w n name before ev r) → Holds (before ++ e ∷ [])
        by each (inl few) = by_few each.moves few
        by each (inr (inl begins)) = by_begin each.moves begins
        by each (inr (inr ends)) = by_end each.moves ends
