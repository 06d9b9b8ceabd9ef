-- The peer of each handshake that runs dialed its node: it is that of the arrival that the listener took.
use Rattle.std.proofs.Common.{◌≡◌, ℕ, Bool, true, false, cond, List, [], ◌∷◌, ◌++◌, length, ◌⊎◌, inl, inr, refl, ap, sym, subst, ◌∙◌, eqb-true, Option, Some, None}
use Rattle.std.specs.Prelude.{◌==◌, ◌||◌, not, flat_map}
use Rattle.std.specs.List.{AllByRecursion as Each, list_any}
use Rattle.std.proofs.lemmas.Bool.{and_parts, false≢true}
use Rattle.std.proofs.lemmas.List.Folds.{list_any-append}
use Rattle.std.proofs.lemmas.Option.{same_Some}
use Rattle.p2p_base.specs.declared.key.Key.{Key}
use Rattle.p2p_address.specs.declared.ip.SocketAddr.{SocketAddr}
use Rattle.p2p_tracker_calls.specs.Gates.{Known}
use Rattle.p2p_tracker_calls.specs.declared.gates.Reply.TheVariants as gates
use Rattle.p2p_log.specs.declared.config.Config.{Config}
use Rattle.p2p_log.specs.declared.queue.Queue.TheVariants as queue
use Rattle.p2p_log.specs.declared.item.Item.{Item}
use Rattle.p2p_log.specs.declared.item.Item.TheVariants as item
use Rattle.p2p_log.specs.declared.item.Envelope.{Envelope}
use Rattle.p2p_log.specs.declared.entry.Entry.{Entry}
use Rattle.p2p_log.specs.declared.entry.Reply.TheVariants as reply
use Rattle.p2p_log.specs.declared.event.Act.TheVariants as act
use Rattle.p2p_log.specs.declared.event.Event.{Event}
use Rattle.p2p_log.specs.Lines.{name_of, ended_item, live, line}
use Rattle.p2p_log_rules.specs.declared.row.Row.{Row}
use Rattle.p2p_log_rules.specs.Dropping.{LinkEnd, arriving_end, dropping, listener_step_row}
use Rattle.p2p_log_rules.specs.Effect.{effect, row}
use Rattle.p2p_log_rules.specs.Facts.{is_up, taken}
use Rattle.p2p_log_rules.specs.Handshakes.{Handshake, handshake_at, handshakes_of, is_handshaking}
use Rattle.p2p_log_rules.specs.Listening.{known_of, gate_rules_at, arrived_row, arrival_turn, listener_turn, has_place, listener_row}
use Rattle.p2p_log_rules.specs.Puts.{turns_away}
use Rattle.p2p_log_rules.specs.Rows.{only}
use Rattle.p2p_log_rules.proofs.Handshakes.{Begins, Ends, Stops, handshakes_now, is_among, among-without, handshaking_early}
use Rattle.p2p_log_rules.proofs.HandshakeBegun.{handshake_at-kept, handshake_at-begun}
use Rattle.p2p_log_laws.proofs.Saying.{ComesFrom, Says, StandSays, first_says, PeersCome, comes_still}
use Rattle.p2p_log_laws.proofs.Shape.{one_move}
use Rattle.p2p_log_laws.proofs.Weighing.{taken_items}

-- ---- a step of a listener that admits takes an arrival

module _ (configs : List Config) (log : List Entry) (n : ℕ) where
  pub record IsAdmitted (r : Row) : Type 0 where
    pub x : Envelope
    pub rest : List Envelope
    pub first : line log (queue.Arrivals n) ≡ x ∷ rest
    pub from : SocketAddr
    pub key : Key
    pub link : ℕ
    pub is : x.item ≡ item.Arrival from key link
    pub takes : r.takes ≡ name_of x ∷ []
    pub ends : flat_map ended_item r.ends ≡ []

  abbrev pub Admits : Row → Type 0
  Admits r = r.reply ≡ reply.Gates gates.Admitted → IsAdmitted r

  module _ (at : ℕ) (known : Known) (place : Bool) where
    arrived : (x : Envelope) (rest : List Envelope) → line log (queue.Arrivals n) ≡ x ∷ rest → (i : Item) → x.item ≡ i
        → Admits (arrived_row (gate_rules_at configs n) known place n (length log) at (name_of x) i)
    arrived x rest first (item.Arrival from key link) is so =
        record { x = x; rest = rest; first = first; from = from; key = key; link = link; is = is; takes = refl; ends = refl }
    arrived x rest first _ is so = absurd (cc)

    arrives : (xs : List Envelope) → line log (queue.Arrivals n) ≡ xs → Admits (arrival_turn (gate_rules_at configs n) known place n (length log) at xs)
    arrives [] first so = absurd (cc)
    arrives (x ∷ rest) first so = arrived x rest first x.item refl so

    turn_admits : (updates : List Envelope) → Admits (listener_turn (gate_rules_at configs n) known place n (length log) at updates (line log (queue.Arrivals n)))
    turn_admits [] so = arrives (line log (queue.Arrivals n)) refl so
    turn_admits (x ∷ rest) so = absurd (cc)

  row_admits : (at : ℕ) → Admits (listener_row configs log n at)
  row_admits at = by (is_up log n)
    where
      by : (b : Bool) → Admits
          (cond b (listener_turn (gate_rules_at configs n) (known_of configs log n) (has_place configs log n) n (length log) at (line log (queue.Addresses n)) (line log (queue.Arrivals n))) (only reply.Gone))
      by true so = turn_admits at (known_of configs log n) (has_place configs log n) (line log (queue.Addresses n)) so
      by false so = absurd (cc)

  -- nobody who is admitted is turned away
  through : (r : Row) (b : Bool) → turns_away r.reply ≡ b → Admits r → Admits (dropping log (cond b (arriving_end log n) None) r)
  through r false is h = h
  through r true is h = λ so. absurd (false≢true (sym (ap turns_away (same_reply (arriving_end log n) so)) ∙ is))
    where
      same_reply : (o : Option LinkEnd) → (dropping log o r).reply ≡ reply.Gates gates.Admitted → r.reply ≡ reply.Gates gates.Admitted
      same_reply None so = so
      same_reply (Some cut) so = so

  pub listener_admits : (at : ℕ) → Admits (listener_step_row configs log n at)
  listener_admits at = let r : Row = listener_row configs log n at in through r (turns_away r.reply) refl (row_admits at)

-- ---- a handshake that runs ran before, or begins so

module _ (n h : ℕ) (log : List Entry) (e : Entry) where
  abbrev pub IsBegun : Type 0
  IsBegun = (h ≡ length log) × (e.event.act ≡ act.Listener n) × (e.reply ≡ reply.Gates gates.Admitted)

  pub begun_or_before : is_handshaking (log ++ e ∷ []) n h ≡ true → (is_handshaking log n h ≡ true) ⊎ IsBegun
  begun_or_before runs = by (handshakes_now log e n)
    where
      names : List ℕ
      names = handshakes_of log n

      last : (b : Bool) → (b || false) ≡ true → b ≡ true
      last true is = refl
      last false is = is

      begun : Begins log e n → (b : Bool) → is_among h names ≡ b → (b || list_any (λ k. h == k) (length log ∷ [])) ≡ true → (is_handshaking log n h ≡ true) ⊎ IsBegun
      begun begins true is so = inl is
      begun begins false is so = inr (eqb-true h (length log) (last (h == length log) so), begins.acts, begins.replied)

      by : (handshakes_of (log ++ e ∷ []) n ≡ names) ⊎ (Begins log e n ⊎ (Ends log e n ⊎ Stops log e n)) → (is_handshaking log n h ≡ true) ⊎ IsBegun
      by (inl same) = inl (sym (ap (is_among h) same) ∙ runs)
      by (inr (inl begins)) =
          begun begins (is_among h names) refl (sym (list_any-append (λ k. h == k) names (length log ∷ [])) ∙ (sym (ap (is_among h) begins.now) ∙ runs))
      by (inr (inr (inr stops))) = absurd (false≢true (sym (ap (is_among h) stops.now) ∙ runs))
      by (inr (inr (inl ends))) = inl (and_parts (not (h == ends.name)) (is_among h names) (sym (among-without ends.name h names) ∙ (sym (ap (is_among h) ends.now) ∙ runs))).1

-- ---- one more entry

module _ (configs : List Config) (log : List Entry) (ev : Event) (say : Each (StandSays configs log) (live log)) (come : PeersCome configs log) where
  abbrev e : Entry
  e = effect configs log ev

  abbrev longer : List Entry
  longer = log ++ e ∷ []

  abbrev Comes : ℕ → Handshake → Type 0
  Comes n p = ComesFrom configs longer n p.key p.link

  admits : (n : ℕ) → ev.act ≡ act.Listener n → Admits configs log n (row configs log ev.at ev.seed ev.act)
  unfolding row
  admits n acts = subst (λ a. Admits configs log n (row configs log ev.at ev.seed a)) (sym acts) (listener_admits configs log n ev.at)

  begun : (n : ℕ) (s : Handshake) → ev.act ≡ act.Listener n → e.reply ≡ reply.Gates gates.Admitted → IsAdmitted configs log n (row configs log ev.at ev.seed ev.act) → handshake_at longer (length log) ≡ Some s → Comes n s
  unfolding effect
  begun n s acts told a is =
      let r : Row = row configs log ev.at ev.seed ev.act in
      let items : taken log e ≡ item.Arrival a.from a.key a.link ∷ [] =
      taken_items log ev r (one_move log (queue.Arrivals n) a.x a.rest a.first r a.takes a.ends) ∙ ap (λ i. i ∷ []) a.is
      in
      let says : Says configs log (queue.Arrivals n) (item.Arrival a.from a.key a.link) = subst (Says configs log (queue.Arrivals n)) a.is (first_says configs log (queue.Arrivals n) a.x a.rest say a.first) in
      let began : Handshake = record { source = a.from.ip; key = a.key; link = a.link; at = ev.at } in
      subst (Comes n) (same_Some began s (sym (handshake_at-begun log e n a.from a.key a.link [] acts told items) ∙ is)) (comes_still configs log ev n a.key a.link says)

  pub peers_come : PeersCome configs longer
  unfolding effect
  peers_come n h s runs is = by (begun_or_before n h log e runs)
    where
      by : (is_handshaking log n h ≡ true) ⊎ ((h ≡ length log) × (ev.act ≡ act.Listener n) × (e.reply ≡ reply.Gates gates.Admitted)) → Comes n s
      by (inl before) =
          let from = come n h s before (sym (handshake_at-kept log e h (handshaking_early log n h before)) ∙ is) in
          comes_still configs log ev n s.key s.link from
      by (inr new) = begun n s new.1 new.2 (admits n new.1 new.2) (ap (handshake_at longer) (sym new.0) ∙ is)
