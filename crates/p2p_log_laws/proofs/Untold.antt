-- A handshake that has not begun took nothing.
use Rattle.std.proofs.Common.{◌≡◌, ℕ, ◌+◌, ◌≤◌, Bool, false, cond, List, [], ◌∷◌, ◌++◌, length, refl, ap, ◌∙◌, arith, length-append, ◌⊎◌, inl, inr}
use Rattle.p2p_log.specs.declared.config.Config.{Config}
use Rattle.p2p_log.specs.declared.queue.Queue.TheVariants as queue
use Rattle.p2p_log.specs.declared.item.Item.{Item}
use Rattle.p2p_log.specs.declared.item.Envelope.{Envelope}
use Rattle.p2p_log.specs.declared.entry.Entry.{Entry}
use Rattle.p2p_log.specs.declared.entry.Reply.TheVariants as reply
use Rattle.p2p_log.specs.declared.event.Act.TheVariants as act
use Rattle.p2p_log.specs.declared.event.Event.{Event}
use Rattle.p2p_log.specs.Lines.{line}
use Rattle.p2p_log_rules.specs.declared.row.Row.{Row}
use Rattle.p2p_log_rules.specs.Dropping.{handshake_drops, handshake_step_row}
use Rattle.p2p_log_rules.specs.Effect.{effect, entry_of, row}
use Rattle.p2p_log_rules.specs.Facts.{taken}
use Rattle.p2p_log_rules.specs.Handshakes.{handshake_at, came_over, is_handshaking, is_finished, has_taken}
use Rattle.p2p_log_rules.specs.Handshaking.{handshake_deadline, is_due, handshake_turn}
use Rattle.p2p_log_rules.specs.Lawful.{IsLawful}
use Rattle.p2p_log_rules.specs.Rows.{only, is_spawner_full}
use Rattle.p2p_log_rules.proofs.Handshakes.{none_later}
use Rattle.p2p_log_rules.proofs.HandshakeTook.{IsOther, step_or_other, has_taken-other, has_taken-unsuch, has_taken-none}
use Rattle.p2p_log_laws.proofs.Prefixes.{at_end}
use Rattle.p2p_log_laws.proofs.Shape.{no_moves}
use Rattle.p2p_log_laws.proofs.Weighing.{taken_items}

module _ (test : List Item → Bool) (none : test [] ≡ false) (configs : List Config) (n name : ℕ) where
  abbrev pub Untold : List Entry → Type 0
  Untold log = length log ≤ name → has_taken test log n name ≡ false

  pub untold_first : Untold []
  untold_first past = has_taken-none test n name

  gone_row : (log : List Entry) (at : ℕ) → is_handshaking log n name ≡ false → handshake_step_row configs log name n at ≡ only reply.Gone
  gone_row log at ended =
      let waiting : List Envelope = line log (queue.Handshake n name) in
      let due : Bool = is_due (handshake_deadline configs log name n) at (is_finished log n name) in
      ap (λ b. handshake_drops log (came_over log name) waiting (cond b (handshake_turn n (is_spawner_full configs log n) due name (handshake_at log name) waiting) (only reply.Gone))) ended

  took_none : (log : List Entry) (ev : Event) (r : Row) → r ≡ only reply.Gone → test (taken log (entry_of ev r)) ≡ false
  took_none log ev r is =
      ap (λ s. test (taken log (entry_of ev s))) is ∙ (ap test (taken_items log ev (only reply.Gone) (no_moves log (only reply.Gone) refl refl)) ∙ none)

  now_none : (log : List Entry) (ev : Event) → ev.act ≡ act.Handshake name n → length log ≤ name → test (taken log (entry_of ev (row configs log ev.at ev.seed ev.act))) ≡ false
  unfolding row
  now_none log ev acts late = took_none log ev (row configs log ev.at ev.seed ev.act) (ap (row configs log ev.at ev.seed) acts ∙ gone_row log ev.at (none_later log n name late))

  pub untold_more : (log : List Entry) (ev : Event) → Untold log → Untold (log ++ effect configs log ev ∷ [])
  unfolding effect
  untold_more log ev untold past =
      let e : Entry = entry_of ev (row configs log ev.at ev.seed ev.act) in
      let longer : length (log ++ e ∷ []) ≡ length log + 1 = length-append log (e ∷ []) in
      by (omega (arith, past, longer)) (step_or_other n name ev.act)
    where
      by : length log ≤ name → (ev.act ≡ act.Handshake name n) ⊎ IsOther n name ev.act → has_taken test (log ++ entry_of ev (row configs log ev.at ev.seed ev.act) ∷ []) n name ≡ false
      by late (inl acts) = has_taken-unsuch test log (entry_of ev (row configs log ev.at ev.seed ev.act)) n name (now_none log ev acts late) ∙ untold late
      by late (inr other) = has_taken-other test log (entry_of ev (row configs log ev.at ev.seed ev.act)) n name other ∙ untold late

  pub untold : (script : List Event) (log : List Entry) → IsLawful configs script log → Untold log
  untold script log lawful = at_end configs Untold untold_first untold_more script log lawful
