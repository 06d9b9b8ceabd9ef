-- The shape of a handshake's step: it moves no copy, but those end that are in flight towards the end of a link that it drops.
use Rattle.std.proofs.Common.{◌≡◌, ℕ, Bool, true, false, cond, List, [], ◌∷◌, ◌++◌, map, take, Option, Some, None, inr, inl, refl, ap, sym, subst, ◌∙◌}
use Rattle.std.specs.Prelude.{slice_get, ◌||◌, ◌&&◌, not}
use Rattle.std.specs.List.{AllByRecursion as Each, list_any}
use Rattle.p2p_log_rules.proofs.Bools.{or_true}
use Rattle.p2p_base.specs.declared.key.Key.{Key}
use Rattle.std.proofs.lemmas.Bool.{false≢true}
use Rattle.p2p_log.specs.declared.config.Config.{Config}
use Rattle.p2p_log.specs.declared.queue.Queue.{Queue}
use Rattle.p2p_log.specs.declared.queue.Queue.TheVariants as queue
use Rattle.p2p_log.specs.declared.item.Item.{Item}
use Rattle.p2p_log.specs.declared.item.Item.TheVariants as item
use Rattle.p2p_log.specs.declared.item.Envelope.{Envelope}
use Rattle.p2p_log.specs.declared.entry.Entry.{Entry}
use Rattle.p2p_log.specs.declared.entry.Reply.{Reply}
use Rattle.p2p_log.specs.declared.entry.Reply.TheVariants as reply
use Rattle.p2p_log.specs.declared.event.Event.{Event}
use Rattle.p2p_log.specs.declared.event.Act.{Act}
use Rattle.p2p_log.specs.declared.event.Act.TheVariants as act
use Rattle.p2p_log.specs.Lines.{name_of, line}
use Rattle.p2p_log.specs.Sending.{keys_sent, sending_of}
use Rattle.p2p_log.proofs.Each.{Has, Has-after, Has-first, Has-either}
use Rattle.p2p_log.proofs.Queues.{same_queue-refl}
use Rattle.p2p_log.specs.QueueCode.{same_queue}
use Rattle.p2p_log_rules.specs.declared.row.Row.{Row}
use Rattle.p2p_log_rules.proofs.Dropping.{all_of, drops_of-handshake}
use Rattle.p2p_log_rules.specs.Dropping.{LinkEnd, other_side, dropping, frames_towards, handshake_step_row, listening_end}
use Rattle.p2p_log_rules.specs.Puts.{is_spawn, broke_off}
use Rattle.p2p_log_rules.specs.Effect.{entry_of, goes_to}
use Rattle.p2p_log_rules.specs.Facts.{taken}
use Rattle.p2p_log_rules.specs.Moves.{Moves}
use Rattle.p2p_log_rules.specs.Reading.{is_read}
use Rattle.p2p_log_rules.specs.Rows.{only, is_spawner_full, taken_row}
use Rattle.p2p_log_rules.specs.Attempting.{left_ends, handed_on_row}
use Rattle.p2p_log_rules.specs.Handshakes.{Handshake, handshake_at, came_over, ends_handshake, is_handshaking, is_finished}
use Rattle.p2p_log_rules.specs.Handshaking.{handshake_deadline, ended_row, exchanged_row, handshake_took_row, is_due, handshake_turn, handshake_row}
use Rattle.p2p_log_laws.proofs.Gone.{all_go}
use Rattle.p2p_log_laws.proofs.Reaching.{in_flight, writes, ends_in}
use Rattle.p2p_log_laws.proofs.DropShape.{moves, handshake_aside, dropping_shape}
use Rattle.p2p_log_laws.proofs.LineShape.{Within, still_within, still_took, ended_within, ended_took, ended_whole, asking_within, asking_took}
use Rattle.p2p_log_laws.proofs.Shape.{Shape, IsQuiet}
use Rattle.p2p_log_laws.proofs.Weighing.{taken_items}

module _ (configs : List Config) (log : List Entry) (e n : ℕ) where
  abbrev a : Act
  a = act.Handshake e n

  abbrev q : Queue
  q = queue.Handshake n e

  abbrev over : Option LinkEnd
  over = listening_end (came_over log e)

  written : ends_in configs log a q ≡ true
  written = ap (λ b. b || in_flight over q) (same_queue-refl q)

  asks : writes configs log a (queue.Tracker n) ≡ true
  asks = ap (λ b. b || (same_queue (queue.Spawner n) (queue.Tracker n) || same_queue q (queue.Tracker n))) (same_queue-refl (queue.Tracker n))

  spawns : writes configs log a (queue.Spawner n) ≡ true
  spawns = ap (λ b. same_queue (queue.Tracker n) (queue.Spawner n) || (b || same_queue q (queue.Spawner n))) (same_queue-refl (queue.Spawner n))

  -- a row whose items are all of the handshake's line, of which it takes the first where it takes any
  record Stepped (waiting : List Envelope) (r : Row) : Type 0 where
    within : Within configs log a q r
    first : ends_handshake r.reply (map (λ x. x.item) within.shape.moves.taken) ≡ ends_handshake r.reply (map (λ x. x.item) (take 1 waiting))
    -- where it ends, all of them go
    whole : ends_handshake r.reply (map (λ x. x.item) (take 1 waiting)) ≡ true → within.shape.moves.taken ++ within.shape.moves.ended ≡ waiting

  -- it takes this, puts these, and ends, and with it what is left
  left_step : (x : Envelope) (rest : List Envelope) → line log q ≡ x ∷ rest → (puts : List (Queue × Item)) → Each IsQuiet puts → Each (λ x. writes configs log a x.0 ≡ true) puts
      → Stepped (x ∷ rest) (record { reply = reply.Ok; takes = name_of x ∷ []; puts = puts; ends = left_ends rest })
  left_step x rest first puts quiet near = record {
    within = ended_within configs log a q (same_queue-refl q) refl (λ r. refl) written (x ∷ []) rest first puts quiet near;
    first = ap (λ xs. ends_handshake reply.Ok (map (λ y. y.item) xs)) (ended_took configs log a q (same_queue-refl q) refl (λ r. refl) written (x ∷ []) rest first puts quiet near);
    whole = λ over. ended_whole configs log a q (same_queue-refl q) refl (λ r. refl) written (x ∷ []) rest first puts quiet near;
  }

  none_left : line log q ≡ [] → Stepped [] (ended_row [] [])
  none_left none = record {
    within = ended_within configs log a q (same_queue-refl q) refl (λ r. refl) written [] [] none [] tt tt;
    first = ap (λ xs. ends_handshake reply.Ok (map (λ y. y.item) xs)) (ended_took configs log a q (same_queue-refl q) refl (λ r. refl) written [] [] none [] tt tt);
    whole = λ over. ended_whole configs log a q (same_queue-refl q) refl (λ r. refl) written [] [] none [] tt tt;
  }

  -- it takes this, puts these, and goes on
  asking_step : (x : Envelope) (rest : List Envelope) → line log q ≡ x ∷ rest → ends_handshake reply.Ok (x.item ∷ []) ≡ false → (puts : List (Queue × Item)) → Each IsQuiet puts → Each (λ x. writes configs log a x.0 ≡ true) puts
      → Stepped (x ∷ rest) (record { reply = reply.Ok; takes = name_of x ∷ []; puts = puts; ends = [] })
  asking_step x rest first goes_on puts quiet near = record {
    within = asking_within configs log a q (same_queue-refl q) refl (λ r. refl) x rest first puts quiet near;
    first = ap (λ xs. ends_handshake reply.Ok (map (λ y. y.item) xs)) (asking_took configs log a q (same_queue-refl q) refl (λ r. refl) x rest first puts quiet near);
    whole = λ over. absurd (false≢true (sym goes_on ∙ over));
  }

  taken_step : (x : Envelope) (rest : List Envelope) → line log q ≡ x ∷ rest → ends_handshake reply.Ok (x.item ∷ []) ≡ false → Stepped (x ∷ rest) (taken_row (name_of x))
  taken_step x rest first goes_on = asking_step x rest first goes_on [] tt tt

  -- as where it asks for its peer
  exchanged_step : (x : Envelope) (rest : List Envelope) → line log q ≡ x ∷ rest → ends_handshake reply.Ok (x.item ∷ []) ≡ false → (key : Key) → Stepped (x ∷ rest) (exchanged_row n e key (name_of x))
  exchanged_step x rest first goes_on key = asking_step x rest first goes_on ((queue.Tracker n, item.AskListen e key) ∷ []) ((refl, refl), tt) (asks, tt)

  -- its peer is reserved
  ready_step : (full : Bool) (key : Key) (link : ℕ) (x : Envelope) (rest : List Envelope) → line log q ≡ x ∷ rest → Stepped (x ∷ rest) (handed_on_row n full key link (name_of x) rest)
  ready_step true key link x rest first = left_step x rest first ((queue.Tracker n, item.Release key) ∷ []) ((refl, refl), tt) (asks, tt)
  ready_step false key link x rest first = left_step x rest first ((queue.Spawner n, item.Spawn key link) ∷ []) ((refl, refl), tt) (spawns, tt)

  took_step : (full : Bool) (peer : Handshake) (x : Envelope) (rest : List Envelope) → line log q ≡ x ∷ rest → (i : Item) → x.item ≡ i → Stepped (x ∷ rest) (handshake_took_row n full e peer (name_of x) i rest)
  took_step full peer x rest first (item.Acceptable true) is = taken_step x rest first (ap (λ i. ends_handshake reply.Ok (i ∷ [])) is)
  took_step full peer x rest first (item.Acceptable false) is = left_step x rest first [] tt tt
  took_step full peer x rest first (item.Finished true) is = exchanged_step x rest first (ap (λ i. ends_handshake reply.Ok (i ∷ [])) is) peer.key
  took_step full peer x rest first (item.Finished false) is = left_step x rest first [] tt tt
  took_step full peer x rest first (item.Listen (Some key)) is = ready_step full key peer.link x rest first
  took_step full peer x rest first (item.Listen None) is = left_step x rest first [] tt tt
  took_step full peer x rest first _ is = left_step x rest first [] tt tt

  still_step : (waiting : List Envelope) (said : Reply) → keys_sent (sending_of a said) ≡ [] → is_read said ≡ false
      → ends_handshake said (map (λ x. x.item) (take 1 waiting)) ≡ ends_handshake said [] → ends_handshake said [] ≡ false → Stepped waiting (only said)
  still_step waiting said none silent same goes_on = record {
    within = still_within configs log a q said none silent;
    first = ap (λ xs. ends_handshake said (map (λ x. x.item) xs)) (still_took configs log a q said none silent) ∙ sym same;
    whole = λ over. absurd (false≢true (sym goes_on ∙ (sym same ∙ over)));
  }

  turn_step : (full due : Bool) (o : Option Handshake) (xs : List Envelope) → line log q ≡ xs → Stepped xs (handshake_turn n full due e o xs)
  turn_step full due None xs first = still_step xs reply.Gone refl refl refl refl
  turn_step full true (Some peer) [] none = none_left none
  turn_step full false (Some peer) [] none = still_step [] reply.Idle refl refl refl refl
  turn_step full due (Some peer) (x ∷ rest) first = took_step full peer x rest first x.item refl

  handshake_step : (at : ℕ) → Stepped (line log q) (handshake_row configs log e n at)
  handshake_step at = by_running (is_handshaking log n e)
    where
      by_running : (b : Bool) → Stepped (line log q)
          (cond b (handshake_turn n (is_spawner_full configs log n) (is_due (handshake_deadline configs log e n) at (is_finished log n e)) e (handshake_at log e) (line log q)) (only reply.Gone))
      by_running true = turn_step (is_spawner_full configs log n) (is_due (handshake_deadline configs log e n) at (is_finished log n e)) (handshake_at log e) (line log q) refl
      by_running false = still_step (line log q) reply.Gone refl refl refl refl

  -- what it moves beside the frames in flight towards the end that it drops
  pub handshake_moves : (at : ℕ) → Moves log (handshake_row configs log e n at)
  handshake_moves at = (handshake_step at).within.shape.moves

  -- where it ends, by what it took, nothing is left that waits for it
  pub handshake_gone : (at : ℕ) (ev : Event) → Each (λ x. goes_to q x ≡ false) (handshake_row configs log e n at).puts
      → ends_handshake (handshake_step_row configs log e n at).reply (taken log (entry_of ev (handshake_step_row configs log e n at))) ≡ true
      → line (log ++ entry_of ev (handshake_step_row configs log e n at) ∷ []) q ≡ []
  handshake_gone at ev aside = by (cond (broke_off r.reply (map (λ x. x.item) (take 1 (line log q))) r.puts) over None)
    where
      r : Row
      r = handshake_row configs log e n at

      s : Stepped (line log q) r
      s = handshake_step at

      all : ends_handshake r.reply (map (λ x. x.item) s.within.shape.moves.taken) ≡ true → (y : Envelope) → Has (line log q) y → Has (s.within.shape.moves.taken ++ s.within.shape.moves.ended) y
      all over y has = subst (λ l. Has l y) (sym (s.whole (sym s.first ∙ over))) has

      with_flight : (taken ended flight : List Envelope) (y : Envelope) → Has (taken ++ ended) y → Has (taken ++ (ended ++ flight)) y
      with_flight taken ended flight y has = elim (Has-either taken ended y has) [
        | inl took ↦ Has-first taken (ended ++ flight) y took
        | inr left ↦ Has-after taken (ended ++ flight) y (Has-first ended flight y left)
      ]

      by : (o : Option LinkEnd) → ends_handshake (dropping log o r).reply (taken log (entry_of ev (dropping log o r))) ≡ true → line (log ++ entry_of ev (dropping log o r) ∷ []) q ≡ []
      by None over = all_go log ev r s.within.shape.moves q (all (sym (ap (ends_handshake r.reply) (taken_items log ev r s.within.shape.moves)) ∙ over)) aside
      by (Some c) over =
          let m : Moves log (dropping log (Some c) r) = moves configs log a q r s.within c (handshake_aside c.0 (other_side c.1) n e) in
          all_go log ev (dropping log (Some c) r) m q
          (λ y has. with_flight s.within.shape.moves.taken s.within.shape.moves.ended (frames_towards log c) y (all (sym (ap (ends_handshake r.reply) (taken_items log ev (dropping log (Some c) r) m)) ∙ over) y has)) aside

  -- where it ends without a connection, it drops its end of its link
  pub handshake_shape : (at : ℕ) → Shape configs log a (handshake_step_row configs log e n at)
  handshake_shape at =
      dropping_shape configs log a q r s.within (cond broke over None)
      (λ cut is. handshake_aside cut.0 (other_side cut.1) n e) (λ cut is. towards cut (gave cut broke is))
      (λ cut is ev acts x place stands copy bears. inr (inl (record {
        steps = (n, inr (e, inr acts));
        cut = cut;
        drops = (0, ap (λ l. slice_get l 0) (drops_of-handshake log (entry_of ev (dropping log (Some cut) r)) e n acts ∙ ap all_of (ap (λ b. cond (b && not (list_any is_spawn r.puts)) over None) (ends ev cut) ∙ is)));
        place = place;
        left = x;
        stood = stands;
        carried = bears;
      })))
    where
      r : Row
      r = handshake_row configs log e n at

      s : Stepped (line log q) r
      s = handshake_step at

      broke : Bool
      broke = broke_off r.reply (map (λ x. x.item) (take 1 (line log q))) r.puts

      gave : (cut : LinkEnd) (b : Bool) → cond b over None ≡ Some cut → over ≡ Some cut
      gave cut true is = is
      gave cut false is = absurd (cc)

      towards : (cut : LinkEnd) → over ≡ Some cut → ends_in configs log a (queue.Link cut.0 (other_side cut.1)) ≡ true
      towards cut is =
          let link : Queue = queue.Link cut.0 (other_side cut.1) in
          ap (λ b. same_queue q link || b) (ap (λ p. in_flight p link) is ∙ same_queue-refl link) ∙ or_true (same_queue q link)

      -- by what it took, the first that waited
      ends : (ev : Event) (cut : LinkEnd) → ends_handshake r.reply (taken log (entry_of ev (dropping log (Some cut) r))) ≡ ends_handshake r.reply (map (λ x. x.item) (take 1 (line log q)))
      ends ev cut = ap (ends_handshake r.reply) (taken_items log ev (dropping log (Some cut) r) (moves configs log a q r s.within cut (handshake_aside cut.0 (other_side cut.1) n e))) ∙ s.first
