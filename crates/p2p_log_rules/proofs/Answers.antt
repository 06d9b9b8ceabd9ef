-- Whether the answer to a question was taken, after one more entry.
use Rattle.std.proofs.Common.{◌≡◌, ℕ, Bool, true, false, List, [], ◌∷◌, ◌++◌, length, refl, ap, ◌∙◌}
use Rattle.std.specs.Prelude.{◌==◌, ◌&&◌, ◌||◌}
use Rattle.std.specs.List.{list_any}
use Rattle.p2p_log.specs.declared.entry.Entry.{Entry}
use Rattle.p2p_log.specs.declared.entry.Reply.{Reply}
use Rattle.p2p_log.specs.declared.event.Act.{Act}
use Rattle.p2p_log.specs.declared.event.Act.TheVariants as act
use Rattle.p2p_log_rules.specs.Puts.{is_peer_set}
use Rattle.p2p_log_rules.specs.Taking.{taken}
use Rattle.p2p_log_rules.specs.Tellings.{Telling}
use Rattle.p2p_log_rules.specs.Tellings as telling
use Rattle.p2p_log_rules.specs.Told.{when, tells, told}
use Rattle.p2p_log_rules.specs.TrackerRows.{gives_answer, was_answered}
use Rattle.p2p_log_rules.proofs.Acted.{tells_as, found-append}
use Rattle.p2p_log_rules.proofs.Bools.{or_false}
use Rattle.p2p_log_rules.proofs.TellingKinds as kind
use Rattle.p2p_log_rules.proofs.Families.{telling_kind, has, untold_act}

-- whether an act with this reply takes the answer to a question
abbrev pub takes_answer : ℕ → Act → Reply → Bool
takes_answer e (act.Answer question) r = (question == e) && is_peer_set r
takes_answer e _ r = false

module _ (log : List Entry) (e : Entry) (d : ℕ) where
  answers_kind : (t : Telling) → has (kind.question_answered ∷ []) (telling_kind t) ≡ false → gives_answer d t ≡ false
  answers_kind (telling.question_answered question) h = cc
  answers_kind _ h = refl

  -- what an entry tells of the answer to a question
  answers_told : list_any (gives_answer d) (tells (told log) log e) ≡ takes_answer d e.event.act e.reply
  answers_told = by e.event.act refl
    where
      taken_now : (question : ℕ) (b : Bool) → list_any (gives_answer d) (when b (telling.question_answered question ∷ [])) ≡ ((question == d) && b)
      taken_now question true = or_false (question == d) ∙ same (question == d)
        where
          same : (b : Bool) → b ≡ (b && true)
          same true = refl
          same false = refl
      taken_now question false = none (question == d)
        where
          none : (b : Bool) → false ≡ (b && false)
          none true = refl
          none false = refl

      by : (a : Act) → e.event.act ≡ a → list_any (gives_answer d) (tells (told log) log e) ≡ takes_answer d a e.reply
      by (act.Answer question) is = ap (list_any (gives_answer d)) (tells_as (told log) log e (act.Answer question) is) ∙ taken_now question (is_peer_set e.reply)
      by a is = ap (list_any (gives_answer d)) (tells_as (told log) log e a is) ∙ untold_act (gives_answer d) (kind.question_answered ∷ []) answers_kind (told log) log (length log) e.event.at e.event.seed e.reply (taken log e) e.puts a refl

  pub was_answered-append : was_answered (log ++ e ∷ []) d ≡ (was_answered log d || takes_answer d e.event.act e.reply)
  unfolding was_answered
  was_answered-append = found-append log e (gives_answer d) ∙ ap (λ b. list_any (gives_answer d) (told log) || b) answers_told
