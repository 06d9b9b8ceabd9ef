-- The dial of an attempt is answered.
use Rattle.std.proofs.Common.{◌≡◌, ℕ, Bool, true, false, cond, List, [], ◌∷◌, ◌++◌, length, refl, ap, sym, subst, ◌∙◌, Option, Some, None}
use Rattle.std.specs.Prelude.{◌==◌, is_some}
use Rattle.p2p_base.specs.declared.key.Key.{Key}
use Rattle.p2p_address.specs.declared.ip.SocketAddr.{SocketAddr}
use Rattle.p2p_tracker_directory.specs.declared.metadata.Metadata.{Metadata}
use Rattle.p2p_tracker_directory.specs.declared.metadata.Metadata.TheVariants as metadata
use Rattle.p2p_log.specs.declared.config.Config.{Config}
use Rattle.p2p_log.specs.declared.queue.Queue.{Queue}
use Rattle.p2p_log.specs.declared.queue.Queue.TheVariants as queue
use Rattle.p2p_log.specs.declared.entry.Entry.{Entry}
use Rattle.p2p_log.specs.declared.entry.Reply.{Reply}
use Rattle.p2p_log.specs.declared.entry.Reply.TheVariants as reply
use Rattle.p2p_log.specs.declared.event.Act.{Act}
use Rattle.p2p_log.specs.declared.event.Act.TheVariants as act
use Rattle.p2p_log.specs.Lines.{line}
use Rattle.p2p_log_rules.specs.declared.row.Row.{Row}
use Rattle.p2p_log_rules.specs.Attempting.{Attempt, dial_rules_at, attempts_of, attempt_told_row, link_item, dial_answered_row}
use Rattle.p2p_log_rules.proofs.Attempts.{of_attempt, attempt_told}
use Rattle.p2p_log_rules.proofs.AttemptTellings.{answered_told}
use Rattle.p2p_log_rules.proofs.Dialing.{dials_by}
use Rattle.p2p_log_rules.proofs.Told.{NoneTold}
use Rattle.p2p_log_rules.specs.Effect.{only, row, effect}
use Rattle.p2p_log_rules.specs.Facts.{turns}
use Rattle.p2p_log_rules.proofs.Touches.{reads, writes}
use Rattle.p2p_net_queues.specs.Tables as table
use Rattle.p2p_net_queues.specs.Tables.{AreBut}
use Rattle.p2p_net_gates.specs.Attempts.{link_told, answered, with_told, AnswersDial}
use Rattle.p2p_net_gates.specs.DialerStands.{gates_at, told_item, attempt_of, AttemptStands, DialerStands}
use Rattle.p2p_net_gates.specs.declared.attempt.RunningAttempt.{RunningAttempt}
use Rattle.p2p_net_gates.specs.declared.dialing.Dialing.{Dialing}
use Rattle.p2p_net_links.proofs.Drops.{is_stop}
use Rattle.p2p_net_links.specs.Stands.{LinksStand}
use Rattle.p2p_net_links.specs.declared.links.Links.{Links}
use Rattle.p2p_net_node.specs.Staying.{TellsAttempt}
use Rattle.p2p_net_node.specs.Places as place
use Rattle.p2p_net_node.specs.Stands.{NodeStands}
use Rattle.p2p_net_node.specs.declared.node.Node.{Node}
use Rattle.p2p_net_dialing.proofs.Attempting.{act_tellings, other_named, DoesTo, does_itself, other_attempt, told_is, untold_stands, told_stands, unnamed_by, tells_performs}
use Rattle.p2p_net_node.proofs.Performing.{asked, Performs}

-- what the attempt is told, by what is said of it
abbrev pub answer_row : Option Attempt → Bool → ℕ → ℕ → Row
answer_row o links name n = elim o [ None ↦ only reply.Gone | Some b ↦ dial_answered_row b.address (is_some b.answer) links name n ]

link_same : (links : Bool) → link_told links ≡ told_item (link_item links)
link_same true = refl
link_same false = refl

-- the row that the code makes of it
pub answer_row_is : (configs : List Config) (log : List Entry) (name n : ℕ) (links : Bool) (d u : Dialing) (told : Row) → DialerStands configs log n d
    → AnswersDial (table.at d.attempts name) (length log) n name links d.attempts u.attempts told → told ≡ answer_row (attempts_of configs log n name) links name n
answer_row_is configs log name n links d u told s h = by (table.at d.attempts name) (attempts_of configs log n name) (s.attempts name) h
  where
    by : (o : Option RunningAttempt) (b : Option Attempt) → AttemptStands (gates_at configs n) name o b (line log (queue.Attempt n name)) → AnswersDial o (length log) n name links d.attempts u.attempts told → told ≡ answer_row b links name n
    by None None stands h = h.0
    by (Some w) (Some b) stands h = h.0 ∙ ap (λ (z : RunningAttempt). dial_answered_row z.actor.address (is_some z.answer) links name n) stands.2
    by None (Some b) stands h = absurd stands
    by (Some w) None stands h = absurd stands

module _ (configs : List Config) (log : List Entry) (moment seed name n : ℕ) (links : Bool) (a : Act) (due : Row) (due_is : row configs log moment seed a ≡ due) (d u : Dialing) (stood : DialerStands configs log n d)
    (no_turn : turns n a ≡ false) (no_stop : is_stop a ≡ false) (no_dials : dials_by n a ≡ false)
    (others : (j : ℕ) → (j == name) ≡ false → (reads configs log a (queue.Attempt n j) ≡ false) × (writes configs log a (queue.Attempt n j) ≡ false))
    (quiet : (j : ℕ) → (j == name) ≡ false → NoneTold (of_attempt n j) (length log) moment a)
    (silent : (act_tellings log moment seed a due reply.Gone ≡ []) × (act_tellings log moment seed a due reply.Pending ≡ []))
    (kept : u.actor ≡ d.actor) where
  abbrev attempts : ℕ → Option Attempt
  attempts = attempts_of configs log n

  abbrev q : Queue
  q = queue.Attempt n name

  abbrev Stands : Type 0
  Stands = DialerStands configs (log ++ effect configs log (asked moment seed a) ∷ []) n u

  unanswered : (now : Option RunningAttempt) (rep : Reply) (told : Row) → act_tellings log moment seed a due rep ≡ [] → told ≡ only rep → DoesTo q (length log) due told
      → AreBut name now d.attempts u.attempts → now ≡ table.at d.attempts name → Stands
  unanswered now rep told none is does but now_is =
      untold_stands configs log moment seed n name a due due_is d u stood no_turn no_stop no_dials others quiet kept now rep (subst (DoesTo q (length log) due) is does) but
      (ap (λ us. attempt_told (dial_rules_at configs n) n name us (attempts name)) none) now_is

  -- what is answered makes the link, where it does
  abbrev Answers : Row → Type 0
  Answers told = told ≡ attempt_told_row name n (link_item links) → (b : Attempt)
      → attempt_told (dial_rules_at configs n) n name (act_tellings log moment seed a due reply.Ok) (Some b) ≡ Some (record b { answer = Some (length log); link = cond links (Some (length log)) b.link })

  abbrev now_of : Attempt → Metadata Key → RunningAttempt
  now_of b m = attempt_of (gates_at configs n) name m b (line log q)

  told_one : (b : Attempt) (m : Metadata Key)
      → record (with_told (length log) (link_told links) (now_of b m)) { answer = Some (length log); link = cond links (Some (length log)) b.link }
      ≡ attempt_of (gates_at configs n) name m (record b { answer = Some (length log); link = cond links (Some (length log)) b.link }) (line log q ++ record { entry = length log; place = 0; queue = q; item = link_item links } ∷ [])
  told_one b m =
      ap (λ i. record (with_told (length log) i (now_of b m)) { answer = Some (length log); link = cond links (Some (length log)) b.link }) (link_same links)
      ∙ ap (λ (w : RunningAttempt). record w { answer = Some (length log); link = cond links (Some (length log)) b.link }) (told_is (gates_at configs n) name (length log) n m b (line log q) (link_item links))

  by_address : (b : Attempt) (m : Metadata Key) (to : Option SocketAddr) (done : Bool) (told : Row) → m ≡ metadata.Dialer b.key → attempts name ≡ Some b → table.at d.attempts name ≡ Some (now_of b m)
      → told ≡ dial_answered_row to done links name n → DoesTo q (length log) due told → AreBut name (Some (answered to done links (length log) (now_of b m))) d.attempts u.attempts → Answers told → Stands
  by_address b m None done told reserved is there row_is does but answers = unanswered (Some (now_of b m)) reply.Pending told silent.1 row_is does but (sym there)
  by_address b m (Some to) true told reserved is there row_is does but answers = unanswered (Some (now_of b m)) reply.Gone told silent.0 row_is does but (sym there)
  by_address b m (Some to) false told reserved is there row_is does but answers =
      told_stands configs log moment seed n name a due due_is d u stood no_turn no_stop no_dials others quiet kept (Some (answered (Some to) false links (length log) (now_of b m))) (link_item links)
      (subst (DoesTo q (length log) due) row_is does) but
      (subst (λ (o : Option Attempt). AttemptStands (gates_at configs n) name (Some (answered (Some to) false links (length log) (now_of b m))) o
      (line log q ++ record { entry = length log; place = 0; queue = q; item = link_item links } ∷ []))
      (sym (ap (attempt_told (dial_rules_at configs n) n name (act_tellings log moment seed a due reply.Ok)) is ∙ answers row_is b)) (m, reserved, told_one b m))

  by_attempt : (o : Option RunningAttempt) (b : Option Attempt) (told : Row) → table.at d.attempts name ≡ o → attempts name ≡ b → AttemptStands (gates_at configs n) name o b (line log q)
      → AnswersDial o (length log) n name links d.attempts u.attempts told → DoesTo q (length log) due told → Answers told → Stands
  by_attempt None None told there is stands h does answers = unanswered None reply.Gone told silent.0 h.0 does h.1 (sym there)
  by_attempt (Some w) (Some b) told there is stands h does answers =
      let same : w ≡ now_of b stands.0 = stands.2 in
      by_address b stands.0 b.address (is_some b.answer) told stands.1 is (there ∙ ap (λ z. Some z) same)
      (h.0 ∙ ap (λ (z : RunningAttempt). dial_answered_row z.actor.address (is_some z.answer) links name n) same) does
      (subst (λ (z : RunningAttempt). AreBut name (Some (answered z.actor.address (is_some z.answer) links (length log) z)) d.attempts u.attempts) same h.1) answers
  by_attempt None (Some b) told there is stands h does answers = absurd stands
  by_attempt (Some w) None told there is stands h does answers = absurd stands

  -- the act does this to the attempt
  pub dial_answered : (told : Row) → AnswersDial (table.at d.attempts name) (length log) n name links d.attempts u.attempts told → DoesTo q (length log) due told → Answers told → Stands
  dial_answered told h does answers = by_attempt (table.at d.attempts name) (attempts name) told refl refl (stood.attempts name) h does answers

refuse_row_is : (configs : List Config) (log : List Entry) (moment seed name n : ℕ) → row configs log moment seed (act.Refuse name n) ≡ answer_row (attempts_of configs log n name) false name n
unfolding row
refuse_row_is configs log moment seed name n = refl

pub refuse_performs : (configs : List Config) (log : List Entry) (moment seed name n : ℕ) (x y : Node) (l ls : Links) (r : Row) → NodeStands configs log n x → LinksStand configs log l
    → AnswersDial (table.at x.dialing.attempts name) (length log) n name false x.dialing.attempts y.dialing.attempts r → TellsAttempt x y → ls ≡ l
    → Performs configs log (asked moment seed (act.Refuse name n)) n y ls r
refuse_performs configs log moment seed name n x y l ls r s t h tells kept =
    let a = act.Refuse name n in
    let d : DialerStands configs log n x.dialing = s.each place.dialer in
    let is : row configs log moment seed a ≡ r = refuse_row_is configs log moment seed name n ∙ sym (answer_row_is configs log name n false x.dialing y.dialing r d h) in
    tells_performs configs log moment seed n a x y l ls r s t (unnamed_by log n) refl tells kept is
    (dial_answered configs log moment seed name n false a r is x.dialing y.dialing d refl refl refl (λ j other. (refl, other_attempt n name j other))
    (λ j other. other_named n name j other) (refl, refl) tells.0 r h
    (does_itself (queue.Attempt n name) (length log) r) (λ told b. answered_told (dial_rules_at configs n) n name (length log) b))
