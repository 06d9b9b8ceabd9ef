-- The shape of an act that drops the reader of a channel: what waits there ends untaken, with its copies.
use Rattle.std.proofs.Common.{◌≡◌, ℕ, true, false, cond, List, [], ◌∷◌, Some, inl, inr, refl, ap, sym, subst, ◌∙◌, arith}
use Rattle.std.specs.Prelude.{slice_get}
use Rattle.std.specs.List.{AllByRecursion as Each}
use Rattle.std.proofs.lemmas.Bool.Decides.{nat_tests}
use Rattle.p2p_base.specs.declared.key.Key.{Key}
use Rattle.p2p_log.specs.declared.config.Config.{Config}
use Rattle.p2p_log.specs.declared.queue.Queue.{Queue}
use Rattle.p2p_log.specs.declared.queue.Queue.TheVariants as queue
use Rattle.p2p_log.specs.declared.item.Item.{Item}
use Rattle.p2p_log.specs.declared.item.Item.TheVariants as item
use Rattle.p2p_log.specs.declared.item.Envelope.{Envelope}
use Rattle.p2p_log.specs.declared.end.Cause.TheVariants as cause
use Rattle.p2p_log.specs.declared.entry.Entry.{Entry}
use Rattle.p2p_log.specs.declared.entry.Reply.TheVariants as reply
use Rattle.p2p_log.specs.declared.event.Act.{Act}
use Rattle.p2p_log.specs.declared.event.Act.TheVariants as act
use Rattle.p2p_log.specs.declared.event.Event.{Event}
use Rattle.p2p_log.specs.Copies.{carries, carries_copy}
use Rattle.p2p_log.specs.Drained.{all_end}
use Rattle.p2p_log.specs.Lines.{same_name, live, line}
use Rattle.p2p_log.proofs.Each.{Has, Has-get, Each-has, Each-weaker}
use Rattle.p2p_log.proofs.Queues.{same_queue-refl}
use Rattle.p2p_log.proofs.Taken.{Has-taken}
use Rattle.p2p_log_rules.specs.declared.row.Row.{Row}
use Rattle.p2p_log_rules.specs.Closing.{has_reader, close_row}
use Rattle.p2p_log_rules.specs.Effect.{only, entry_of}
use Rattle.p2p_log_laws.proofs.Reaching.{ends_in}
use Rattle.p2p_log_laws.specs.Causes.{Shows}
use Rattle.p2p_log_laws.proofs.Bulk.{emptied_shape}
use Rattle.p2p_log_laws.proofs.Fitting.{StandsFit, fits}
use Rattle.p2p_log_laws.proofs.LineShape.{whole_taken, in_line}
use Rattle.p2p_log_laws.proofs.Shape.{Shape, still}
use Rattle.p2p_log_laws.proofs.Showing.{Standing}
use Rattle.p2p_log_laws.proofs.Telling.{IsArrived, StandTells, Tells}

-- an item of a channel that carries a copy is its message
message_of : (n c : ℕ) (copy : ℕ × ℕ) (i : Item) → fits (queue.Channel n c) i ≡ true → carries_copy copy i ≡ true → (bytes : List ℕ) × (from : Key) × (i ≡ item.Message bytes copy from)
message_of n c copy (item.Message bytes other from) fit bears = (bytes, from, ap (λ k. item.Message bytes k from) (same_pair other copy bears))
  where
    same_pair : (a b : ℕ × ℕ) → same_name b a ≡ true → a ≡ b
    same_pair a b same = let first : a.0 ≡ b.0 = grind (arith, nat_tests) in let second : a.1 ≡ b.1 = grind (arith, nat_tests) in ap (λ k. (k, a.1)) first ∙ ap (λ k. (b.0, k)) second
message_of n c copy _ fit bears = absurd (cc)

module _ (configs : List Config) (log : List Entry) (c n : ℕ) where
  abbrev a : Act
  a = act.Close c n

  abbrev q : Queue
  q = queue.Channel n c

  -- what waits there shows why its copy is dropped
  left_shows : (r : Row) → r.reply ≡ reply.Ok → Standing configs log → (ev : Event) → ev.act ≡ a → (x : Envelope) (place : ℕ) → slice_get (line log q) place ≡ Some x
      → (copy : ℕ × ℕ) → carries copy x ≡ true → Shows configs log (entry_of ev r) copy cause.ReceiverClosed
  left_shows r said stand ev acts x place at copy bears =
      let there : Has (line log q) x = Has-get (line log q) place x at in
      let stood : Has (live log) x = Has-taken (live log) (line log q) x (whole_taken log q) there in
      let here : x.queue ≡ q = Each-has (λ y. y.queue ≡ q) (line log q) x (in_line log q) there in
      let fit : fits q x.item ≡ true = subst (λ p. fits p x.item ≡ true) here (Each-has StandsFit (live log) x stand.fitting stood) in
      let found = message_of n c copy x.item fit bears in
      let told : IsArrived configs log found.0 copy found.1 n c =
      subst (λ i. Tells configs log i q) found.2 (subst (Tells configs log x.item) here (Each-has (StandTells configs log) (live log) x stand.tells stood))
      in
      inl (record {
        node = n;
        channel = c;
        closes = acts;
        done = said;
        place = place;
        left = x;
        stood = at;
        bytes = found.0;
        from = found.1;
        is = found.2;
        sender = told.sender;
        sent = told.sent;
      })

  pub close_shape : Shape configs log a (close_row configs log c n)
  close_shape =
      elim (has_reader configs log n c) as (λ b. Shape configs log a (cond b (record { reply = reply.Ok; takes = []; puts = []; ends = all_end cause.ReceiverClosed (line log q) }) (only reply.Gone))) [
        | false ↦ still configs log a reply.Gone refl refl
        | true ↦
            emptied_shape configs log a reply.Ok refl refl [] tt [] refl (λ copy. refl) [] tt tt (q ∷ []) near cause.ReceiverClosed (line log q) (whole_taken log q) within
            (λ stand ev acts. tt) shows
      ]
    where
      is_q : (p : Queue) → Has (q ∷ []) p → q ≡ p
      is_q p (inl is) = is
      is_q p (inr none) = absurd none

      near : (p : Queue) → Has (q ∷ []) p → ends_in configs log a p ≡ true
      near p has = subst (λ p. ends_in configs log a p ≡ true) (is_q p has) (same_queue-refl q)

      within : Each (λ x. Has (q ∷ []) x.queue) (line log q)
      within = Each-weaker (λ x. x.queue ≡ q) (λ x. Has (q ∷ []) x.queue) (λ x is. inl (sym is)) (line log q) (in_line log q)

      shows : Standing configs log → (ev : Event) → ev.act ≡ a → (p : Queue) → Has (q ∷ []) p → (x : Envelope) (place : ℕ) → slice_get (line log p) place ≡ Some x → (copy : ℕ × ℕ) → carries copy x ≡ true
          → Shows configs log (entry_of ev (record { reply = reply.Ok; takes = []; puts = []; ends = all_end cause.ReceiverClosed (line log q) })) copy cause.ReceiverClosed
      shows stand ev acts p has x place at copy bears =
          left_shows (record { reply = reply.Ok; takes = []; puts = []; ends = all_end cause.ReceiverClosed (line log q) }) refl stand ev acts x place
          (subst (λ p. slice_get (line log p) place ≡ Some x) (sym (is_q p has)) at) copy bears
