-- A message that is taken goes to one queue, or to none.
use Rattle.std.proofs.Common.{◌≡◌, ℕ, Bool, true, false, cond, List, [], ◌∷◌, ◌++◌, Option, Some, None, Result, Ok, Err, refl, sym, ap, subst, ◌∙◌, slice_get}
use Rattle.std.proofs.lemmas.Bool.{false≢true}
use Rattle.std.proofs.lemmas.Cmp.{eq_by_cmp_equiv, nat_cmp_total}
use Rattle.std.proofs.lemmas.List.{append-nil}
use Rattle.std.proofs.lemmas.Map.{lookup-set_value}
use Rattle.std.proofs.lemmas.Map.Lookups.{exact_unsigned}
use Rattle.std.specs.Prelude.{is_some}
use Rattle.std.specs.BTreeMap.{is_at}
use Rattle.std.specs.Map.{set_value}
use Rattle.std.specs.Ordering.{nat_cmp, eq_by_cmp, is_eq}
use Rattle.std.specs.declared.cmp.Ordering.{Ordering}
use Rattle.std.specs.declared.cmp.Ordering.TheVariants.{Less, Equal, Greater}
use Rattle.p2p_base.specs.Queue.{Queue, has_room, enqueue_answer, enqueued}
use Rattle.p2p_base.specs.declared.outcome.Sent.{Sent}
use Rattle.p2p_base.specs.declared.outcome.Sent.TheVariants as sent
use Rattle.p2p_base.specs.declared.policy.Keep.TheVariants.{Refuse}
use Rattle.p2p_flow.specs.declared.plain.Polled.{Polled}
use Rattle.p2p_wire.specs.Varint.{u64_at}
use Rattle.p2p_wire.specs.declared.error.CodecError.{CodecError}
use Rattle.p2p_mux.specs.Muxed.{Muxed, route_in, with_messages}
use Rattle.p2p_mux.specs.MuxerTurns.{routed_as, backed_up_as, backs_up, route_turn, parsed_turn, message_turn, received_turn, on_way, open_turn, turn_by, mux_turn, WholeTurn}
use Rattle.p2p_mux.specs.Passing.{messages_of, items_of, payload_of, without_prefix, TakesMessage, IsPassed}
use Rattle.p2p_mux.specs.declared.request.Control.{Control}
use Rattle.p2p_mux.specs.declared.routes.Route.{Route}
use Rattle.p2p_mux.specs.declared.stepped.MuxStepped.{MuxStepped}

-- ---- what a queue that refuses keeps

abbrev IsAppended : {X : Type 0} → Sent X → List X → List X → X → Type 0
IsAppended sent.Ok before after x = after ≡ before ++ x ∷ []
IsAppended sent.Backoff before after x = after ≡ before ++ x ∷ []
IsAppended (sent.Rejected y) before after x = after ≡ before
IsAppended (sent.Closed y) before after x = after ≡ before

module _ {X : Type 0} where
  appended : (closed room : Bool) (items : List X) (x : X)
      → IsAppended (cond closed (sent.Closed x) (cond room sent.Ok (sent.Rejected x))) items
      (cond closed items (cond room (items ++ x ∷ []) items)) x
  appended true room items x = refl
  appended false true items x = refl
  appended false false items x = refl

  enqueued-appends : (q : Queue X) (x : X) → IsAppended (enqueue_answer Refuse q x) q.items (enqueued Refuse q x).items x
  enqueued-appends q x = appended q.closed (has_room q) q.items x

-- ---- what a change of one route leaves of each

equal_of : (o : Ordering) → is_eq o ≡ true → o ≡ Equal
equal_of Less h = absurd (false≢true h)
equal_of Equal h = refl
equal_of Greater h = absurd (false≢true h)

at_is : (t s : ℕ) → is_at (nat_cmp t) s ≡ true → t ≡ s
at_is t s h = exact_unsigned t s (equal_of (nat_cmp t s) h)

same_cond : {X : Type 0} (b : Bool) (xs : List X) → xs ++ cond b [] [] ≡ xs ++ []
same_cond true xs = refl
same_cond false xs = refl

module _ {P : Type 0} where
  messages-set : (routes : List (ℕ × Route P)) (t s : ℕ) (r new : Route P) (extra : List (P × List ℕ))
      → route_in routes t ≡ Some r → new.messages.items ≡ r.messages.items ++ extra
      → messages_of (route_in (set_value (is_at (nat_cmp t)) routes new) s)
      ≡ messages_of (route_in routes s) ++ cond (is_at (nat_cmp t) s) extra []
  messages-set routes t s r new extra e more =
      ap messages_of
      (lookup-set_value {eq = eq_by_cmp nat_cmp} (eq_by_cmp_equiv nat_cmp_total) (is_at (nat_cmp t))
      (λ x y h. (eq_by_cmp_equiv nat_cmp_total).congr t x y h) s new routes (ap is_some e))
      ∙ chosen (is_at (nat_cmp t) s) refl
    where
      chosen : (b : Bool) → is_at (nat_cmp t) s ≡ b
          → messages_of (cond b (Some new) (route_in routes s)) ≡ messages_of (route_in routes s) ++ cond b extra []
      chosen true h =
          more ∙ ap (λ (o : Option (Route P)). messages_of o ++ extra) (sym e ∙ ap (λ (n : ℕ). route_in routes n) (at_is t s h))
      chosen false h = sym (append-nil (messages_of (route_in routes s)))

  -- ---- a message

  module _ (m : P × List ℕ) (q : Muxed P) (s : ℕ) (payload : List ℕ) (plain : without_prefix m ≡ (m.0, payload)) where
    -- with the queue of its route changed so
    abbrev on_route : Route P → Queue (P × List ℕ) → Muxed P
    on_route r after = record {
      control = q.control;
      requests = q.requests;
      routes = set_value (is_at (nat_cmp s)) q.routes (with_messages r after);
      backup = q.backup;
      ended = q.ended;
    }

    one_more : (r : Route P) (after : Queue (P × List ℕ)) → route_in q.routes s ≡ Some r
        → after.items ≡ r.messages.items ++ (m.0, payload) ∷ [] → (t : ℕ)
        → messages_of (route_in (on_route r after).routes t)
        ≡ messages_of (route_in q.routes t) ++ cond (is_at (nat_cmp s) t) (without_prefix m ∷ []) []
    one_more r after e h t =
        messages-set q.routes s t r (with_messages r after) (without_prefix m ∷ []) e
        (h ∙ ap (λ (x : P × List ℕ). r.messages.items ++ x ∷ []) (sym plain))

    no_more : (r : Route P) (after : Queue (P × List ℕ)) → route_in q.routes s ≡ Some r
        → after.items ≡ r.messages.items → (t : ℕ)
        → messages_of (route_in (on_route r after).routes t) ≡ messages_of (route_in q.routes t) ++ []
    no_more r after e h t =
        messages-set q.routes s t r (with_messages r after) [] e (h ∙ sym (append-nil r.messages.items))
        ∙ same_cond (is_at (nat_cmp s) t) (messages_of (route_in q.routes t))

    same_backup : items_of q.backup ≡ items_of q.backup ++ []
    same_backup = sym (append-nil (items_of q.backup))

    by_route : (r : Route P) (a : Sent (P × List ℕ)) (after : Queue (P × List ℕ)) → route_in q.routes s ≡ Some r
        → IsAppended a r.messages.items after.items (m.0, payload)
        → IsPassed (routed_as r.request s a) m q (on_route r after)
    by_route r sent.Ok after e h =
        record { place = tt; routes = one_more r after e h; backup = same_backup }
    by_route r sent.Backoff after e h =
        record { place = tt; routes = one_more r after e h; backup = same_backup }
    by_route r (sent.Rejected y) after e h =
        record { place = tt; routes = no_more r after e h; backup = same_backup }
    by_route r (sent.Closed y) after e h =
        record { place = tt; routes = no_more r after e h; backup = same_backup }

    abbrev with_backup : Queue (ℕ × (P × List ℕ)) → Muxed P
    with_backup after = record {
      control = q.control;
      requests = q.requests;
      routes = q.routes;
      backup = Some after;
      ended = q.ended;
    }

    kept : (t : ℕ) → messages_of (route_in q.routes t) ≡ messages_of (route_in q.routes t) ++ []
    kept t = sym (append-nil (messages_of (route_in q.routes t)))

    backed : (b after : Queue (ℕ × (P × List ℕ))) → q.backup ≡ Some b → after.items ≡ b.items ++ (s, (m.0, payload)) ∷ []
        → after.items ≡ items_of q.backup ++ (s, without_prefix m) ∷ []
    backed b after e h =
        h ∙ ap (λ (x : P × List ℕ). b.items ++ (s, x) ∷ []) (sym plain)
        ∙ ap (λ (o : Option (Queue (ℕ × (P × List ℕ)))). items_of o ++ (s, without_prefix m) ∷ []) (sym e)

    unbacked : (b after : Queue (ℕ × (P × List ℕ))) → q.backup ≡ Some b → after.items ≡ b.items
        → after.items ≡ items_of q.backup ++ []
    unbacked b after e h =
        h ∙ ap (λ (o : Option (Queue (ℕ × (P × List ℕ)))). items_of o) (sym e) ∙ sym (append-nil (items_of q.backup))

    by_backup : (b : Queue (ℕ × (P × List ℕ))) (a : Sent (ℕ × (P × List ℕ))) (after : Queue (ℕ × (P × List ℕ))) → q.backup ≡ Some b
        → IsAppended a b.items after.items (s, (m.0, payload))
        → IsPassed (backed_up_as s a) m q (with_backup after)
    by_backup b sent.Ok after e h = record { place = tt; routes = kept; backup = backed b after e h }
    by_backup b sent.Backoff after e h = record { place = tt; routes = kept; backup = backed b after e h }
    by_backup b (sent.Rejected y) after e h = record { place = tt; routes = kept; backup = unbacked b after e h }
    by_backup b (sent.Closed y) after e h = record { place = tt; routes = kept; backup = unbacked b after e h }

    without_route : (o : Option (Queue (ℕ × (P × List ℕ)))) → q.backup ≡ o
        → IsPassed (backs_up o s (m.0, payload) q).stepped m q (backs_up o s (m.0, payload) q).queues
    without_route None e = record { place = tt; routes = kept; backup = same_backup }
    without_route (Some b) e =
        by_backup b (enqueue_answer Refuse b (s, (m.0, payload))) (enqueued Refuse b (s, (m.0, payload))) e
        (enqueued-appends b (s, (m.0, payload)))

    routed : (o : Option (Route P)) → route_in q.routes s ≡ o
        → IsPassed (route_turn o s (m.0, payload) q).stepped m q (route_turn o s (m.0, payload) q).queues
    routed None e = without_route q.backup refl
    routed (Some r) e =
        by_route r (enqueue_answer Refuse r.messages (m.0, payload)) (enqueued Refuse r.messages (m.0, payload)) e
        (enqueued-appends r.messages (m.0, payload))

  parsed : (m : P × List ℕ) (q : Muxed P) (r : Result (ℕ × List ℕ) CodecError) → u64_at m.1 ≡ r
      → IsPassed (parsed_turn r m.0 q).stepped m q (parsed_turn r m.0 q).queues
  parsed m q (Err e) h = record {
    place = tt;
    routes = λ t. sym (append-nil (messages_of (route_in q.routes t)));
    backup = sym (append-nil (items_of q.backup));
  }
  parsed m q (Ok (s, payload)) h =
      routed m q s payload (ap (λ (r : Result (ℕ × List ℕ) CodecError). (m.0, payload_of r)) h) (route_in q.routes s) refl

  pub message_turn-passes : (m : P × List ℕ) (q : Muxed P) → IsPassed (message_turn m q).stepped m q (message_turn m q).queues
  message_turn-passes m q = parsed m q (u64_at m.1) refl

-- ---- a turn

module _ {P W : Type 0} where
  abbrev Passes : P × List ℕ → Muxed P → WholeTurn P W → Type 0
  Passes m q t = IsPassed t.stepped m q t.queues

module _ {P W E : Type 0} where
  turn-passes : (places : ℕ) (q : Muxed P) (w : W) (received : Result (Polled (P × List ℕ)) E) (after : W) (m : P × List ℕ)
      → TakesMessage q received m → Passes m q (mux_turn places q w received after)
  turn-passes places q w received after m h =
      let opened : turn_by q.ended places q w received after ≡ open_turn (slice_get q.control 0) places q w received after =
      ap (λ (b : Bool). turn_by b places q w received after) h.0 in
      let asked : open_turn (slice_get q.control 0) places q w received after ≡ on_way after (received_turn received q) =
      ap (λ (o : Option Control). open_turn o places q w received after) h.1 in
      let taken : on_way after (received_turn received q) ≡ on_way after (message_turn m q) =
      ap (λ (r : Result (Polled (P × List ℕ)) E). on_way after (received_turn r q)) h.2 in
      subst (Passes m q) (sym (opened ∙ (asked ∙ taken))) (message_turn-passes m q)

  -- what is answered and left by a turn that takes a message
  pub step-passes : (places : ℕ) (q : Muxed P) (w : W) (received : Result (Polled (P × List ℕ)) E) (after : W) (s : MuxStepped) (new : Muxed P)
      → s ≡ (mux_turn places q w received after).stepped → new ≡ (mux_turn places q w received after).queues
      → (m : P × List ℕ) → TakesMessage q received m → IsPassed s m q new
  step-passes places q w received after s new e f m h =
      subst (λ (x : MuxStepped). IsPassed x m q new) (sym e)
      (subst (λ (n : Muxed P). IsPassed (mux_turn places q w received after).stepped m q n) (sym f)
      (turn-passes places q w received after m h))
