-- An exchange of keys that ended does not begin anew.
use Rattle.std.proofs.Common.{◌≡◌, ℕ, suc, ◌+◌, ◌≤◌, Bool, true, false, cond, List, [], ◌∷◌, ◌++◌, length, Option, Some, None, refl, ap, sym, ◌∙◌, arith, eq-eqb, eqb-true, length-append}
use Rattle.std.specs.Prelude.{◌==◌, ◌||◌, nat_lt}
use Rattle.std.proofs.lemmas.Bool.{and_parts, false≢true}
use Rattle.std.proofs.lemmas.Bool.Decides.{nat_tests}
use Rattle.std.proofs.lemmas.Option.{same_Some}
use Rattle.p2p_log.specs.declared.entry.Entry.{Entry}
use Rattle.p2p_log.specs.declared.entry.Reply.{Reply}
use Rattle.p2p_log.specs.declared.entry.Reply.TheVariants as reply
use Rattle.p2p_log.specs.declared.event.Act.{Act}
use Rattle.p2p_log.specs.declared.event.Act.TheVariants as act
use Rattle.p2p_log_rules.specs.declared.row.Opening.{Opening}
use Rattle.p2p_log_rules.specs.declared.row.ListeningEnd.{ListeningEnd}
use Rattle.p2p_log_rules.specs.declared.row.ListeningEnd.TheVariants as listening
use Rattle.p2p_log_rules.specs.Facts.{state_from}
use Rattle.p2p_log_rules.specs.Handshakes.{came_over, is_handshaking}
use Rattle.p2p_log_rules.specs.Links.{openings_of, listening_ends_of}
use Rattle.p2p_log_rules.proofs.Facts.{state_from-append}
use Rattle.p2p_log_rules.proofs.HandshakeEnds.{ends_lead}
use Rattle.p2p_log_rules.proofs.Handshakes.{handshaking_early}
use Rattle.p2p_log_rules.proofs.Links.{openings_of-finished, openings_of-late, openings_of-closed}
use Rattle.p2p_log_rules.proofs.HandshakeBegun.{came_over-longer}
use Rattle.p2p_log_laws.specs.OneAnswer.{is_end_of, leads_to, ends_exchange, ended_by, has_ended}

module _ (n name : ℕ) where
  pub has_ended-append : (log : List Entry) (e : Entry) → has_ended n name (log ++ e ∷ []) ≡ (ends_exchange n name log e.event.act e.reply || has_ended n name log)
  unfolding has_ended
  has_ended-append log e = state_from-append (ended_by n name) [] log e false

  -- its link has ended for good
  pub record IsOver (log : List Entry) : Type 0 where
    pub link : ℕ
    pub came : came_over log name ≡ Some link
    pub linked : suc link ≤ length log
    pub closed : openings_of log link ≡ None

  abbrev pub Over : List Entry → Type 0
  Over log = has_ended n name log ≡ true → IsOver log

  pub over_first : Over []
  unfolding has_ended state_from
  over_first ended = cc

  -- a link that leads to it is open, and the handshake came over it
  pub record Ending (log : List Entry) (link : ℕ) : Type 0 where
    pub runs : is_handshaking log n name ≡ true
    pub over : came_over log name ≡ Some link
    pub early : suc link ≤ length log

  pub ending_link : (log : List Entry) (link : ℕ) (p : Option Opening) → openings_of log link ≡ p → leads_to n name log link p ≡ true → Ending log link
  ending_link log link None is so = cc
  ending_link log link (Some o) is so =
      let both = and_parts (o.to == n) (is_end_of n name (listening_ends_of log o.to link)) so in
      let node : o.to ≡ n = eqb-true o.to n both.0 in
      by_end (listening_ends_of log n link) refl (ap (λ j. is_end_of n name (listening_ends_of log j link)) (sym node) ∙ both.1)
    where
      before_end : suc link ≤ length log
      before_end = by (nat_lt link (length log)) refl
        where
          below : (a b : ℕ) → nat_lt a b ≡ true → suc a ≤ b
          below a b h = grind (arith, nat_tests)

          past : (a b : ℕ) → nat_lt a b ≡ false → b ≤ a
          past a b h = grind (arith, nat_tests)

          by : (b : Bool) → nat_lt link (length log) ≡ b → suc link ≤ length log
          by true is_so = below link (length log) is_so
          by false is_so = let none : Some o ≡ None = sym is ∙ openings_of-late log link (past link (length log) is_so) in cc

      by_end : (end : Option ListeningEnd) → listening_ends_of log n link ≡ end → is_end_of n name end ≡ true → Ending log link
      by_end None at so = cc
      by_end (Some listening.Arriving) at so = cc
      by_end (Some (listening.Handshake h)) at so =
          let led = ends_lead log n link name (at ∙ ap (λ k. Some (listening.Handshake k)) (eqb-true h name so)) in
          record { runs = led.0; over = led.1; early = before_end }

  pub over_more : (log : List Entry) (e : Entry) → Over log → Over (log ++ e ∷ [])
  over_more log e over ended = by (ends_exchange n name log e.event.act e.reply) refl (sym (has_ended-append log e) ∙ ended)
    where
      longer : length (log ++ e ∷ []) ≡ length log + 1
      longer = length-append log (e ∷ [])

      stays : (link : ℕ) → came_over log name ≡ Some link → suc link ≤ length log → openings_of (log ++ e ∷ []) link ≡ None → IsOver (log ++ e ∷ [])
      stays link is linked closed = record { link = link; came = came_over-longer log (e ∷ []) name link is; linked = omega (arith, linked, longer); closed = closed }

      before_it : (a b : ℕ) → suc a ≤ b → (a == b) ≡ false
      before_it a b h = grind (arith, nat_tests)

      ends_now : (a : Act) (r : Reply) → e.event.act ≡ a → e.reply ≡ r → ends_exchange n name log a r ≡ true → IsOver (log ++ e ∷ [])
      ends_now (act.Finish link ok) reply.Ok acts replies so =
          let ending : Ending log link = ending_link log link (openings_of log link) refl so in
          stays link ending.over ending.early
          (openings_of-finished log e link ok acts replies link ∙ ap (λ b. cond b None (openings_of log link)) (eq-eqb link link refl))
      ends_now _ _ acts replies so = cc

      by : (b : Bool) → ends_exchange n name log e.event.act e.reply ≡ b → (b || has_ended n name log) ≡ true → IsOver (log ++ e ∷ [])
      by true now so = ends_now e.event.act e.reply refl refl now
      by false none so =
          let old = over so in
          stays old.link old.came old.linked (openings_of-closed log e old.link (before_it old.link (length log) old.linked) old.closed)

  -- it does not end twice
  pub ends_once : (log : List Entry) → Over log → (a : Act) (r : Reply) → ends_exchange n name log a r ≡ true → has_ended n name log ≡ false
  ends_once log over (act.Finish link ok) reply.Ok so = by (has_ended n name log) refl
    where
      by : (b : Bool) → has_ended n name log ≡ b → has_ended n name log ≡ false
      by false is = is
      by true is =
          let ending : Ending log link = ending_link log link (openings_of log link) refl so in
          let old = over is in
          let none : openings_of log link ≡ None = ap (openings_of log) (same_Some link old.link (sym ending.over ∙ old.came)) ∙ old.closed in
          let never : false ≡ true = sym (ap (leads_to n name log link) none) ∙ so in
          absurd (false≢true never)
  ends_once log over _ _ so = cc

  -- and its handshake began before
  pub ends_begun : (log : List Entry) (a : Act) (r : Reply) → ends_exchange n name log a r ≡ true → suc name ≤ length log
  ends_begun log (act.Finish link ok) reply.Ok so =
      let ending : Ending log link = ending_link log link (openings_of log link) refl so in
      handshaking_early log n name ending.runs
  ends_begun log _ _ so = cc
