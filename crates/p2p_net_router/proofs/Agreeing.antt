-- One put, or one take, of a router's queues.
use Rattle.std.proofs.Common.{◌≡◌, ℕ, true, false, cond, List, [], ◌∷◌, ◌++◌, length, drop, refl, ap, sym, ◌∙◌, append_assoc, append-nil, arith}
use Rattle.std.specs.Prelude.{filter, map}
use Rattle.std.proofs.lemmas.List.{map-append}
use Rattle.std.proofs.lemmas.List.Elements.{filter-append}
use Rattle.p2p_log.specs.declared.queue.Queue.{Queue}
use Rattle.p2p_log.specs.declared.queue.Queue.TheVariants as queue
use Rattle.p2p_log.specs.declared.item.Item.{Item}
use Rattle.p2p_log.specs.declared.item.Envelope.{Envelope}
use Rattle.p2p_log.specs.QueueCode.{same_queue}
use Rattle.p2p_log.specs.Lines.{name_of, stays, placed, stands_in}
use Rattle.p2p_log.proofs.Filters.{filter-same}
use Rattle.p2p_log.proofs.Queues.{same_queue-sym, same_queue-congr}
use Rattle.p2p_log.specs.Apart.{AreApart}
use Rattle.p2p_log.proofs.Names.{filter_stays-first}
use Rattle.p2p_net_queues.proofs.Placing.{placed-append}
use Rattle.p2p_log_rules.proofs.Left.{without as without_line, line_gone, line_kept}
use Rattle.p2p_log_rules.proofs.Touches.{away}
use Rattle.p2p_net_router.specs.Names.{Agrees, is_routers}

pub line_same : (p q : Queue) (items : List Envelope) → same_queue p q ≡ true → filter (stands_in q) items ≡ filter (stands_in p) items
line_same p q items k = filter-same (stands_in q) (stands_in p) (λ z. sym (same_queue-congr p q z.queue k)) items

module _ {T : Type 0} where
  -- what a queue gets of one item
  pub map-filter_one : (part : Envelope → T) (q : Queue) (x : Envelope) → map part (filter (stands_in q) (x ∷ [])) ≡ cond (same_queue x.queue q) (part x ∷ []) []
  map-filter_one part q x =
      elim (same_queue q x.queue) as (λ b. map part (cond b (x ∷ []) []) ≡ cond b (part x ∷ []) []) [
        | true ↦ refl
        | false ↦ refl
      ] ∙ ap (λ b. cond b (part x ∷ []) []) (same_queue-sym q x.queue)

  -- one more item, last
  pub Agrees-push :
      (n : ℕ) (part : Envelope → T) (old new : Queue → List T) (items : List Envelope) (x : Envelope)
      → Agrees n part old items → ((q : Queue) → is_routers n q ≡ true → new q ≡ old q ++ cond (same_queue x.queue q) (part x ∷ []) [])
      → Agrees n part new (items ++ x ∷ [])
  Agrees-push n part old new items x h step =
      λ q own.
      step q own
      ∙ (ap (λ l. l ++ cond (same_queue x.queue q) (part x ∷ []) []) (h q own)
      ∙ (ap (λ l. map part (filter (stands_in q) items) ++ l) (sym (map-filter_one part q x))
      ∙ (sym (map-append part (filter (stands_in q) items) (filter (stands_in q) (x ∷ [])))
      ∙ ap (map part) (sym (filter-append (stands_in q) items (x ∷ []))))))

  -- one more item, of a queue that is not the router's
  pub Agrees-other :
      (n : ℕ) (part : Envelope → T) (h : Queue → List T) (items : List Envelope) (x : Envelope)
      → Agrees n part h items → ((q : Queue) → is_routers n q ≡ true → stands_in q x ≡ false)
      → Agrees n part h (items ++ x ∷ [])
  Agrees-other n part h items x a away =
      λ q own.
      a q own
      ∙ ap (map part)
      (sym
      (filter-append (stands_in q) items (x ∷ [])
      ∙ (ap (λ b. filter (stands_in q) items ++ cond b (x ∷ []) []) (away q own)
      ∙ append-nil (filter (stands_in q) items))))

  -- a queue, once the first item of one was taken
  pub popped_at :
      (part : Envelope → T) (old new : List T) (items : List Envelope) (p q : Queue) (x : Envelope) (rest : List Envelope)
      → AreApart items → filter (stands_in p) items ≡ x ∷ rest → old ≡ map part (filter (stands_in q) items) → new ≡ cond (same_queue p q) (drop 1 old) old
      → new ≡ map part (filter (stands_in q) (filter (stays (name_of x ∷ [])) items))
  popped_at part old new items p q x rest apart first h step =
      step
      ∙ ((elim (same_queue p q) as (λ b. same_queue p q ≡ b → cond b (drop 1 old) old ≡ map part (cond b rest (filter (stands_in q) items))) [
        | true ↦ λ k. ap (drop 1) (h ∙ ap (map part) (line_same p q items k ∙ first))
        | false ↦ λ k. h
      ]) refl
      ∙ ap (map part) (sym (filter_stays-first items p q x rest apart first)))

  pub Agrees-pop :
      (n : ℕ) (part : Envelope → T) (old new : Queue → List T) (items : List Envelope) (p : Queue) (x : Envelope) (rest : List Envelope)
      → AreApart items → filter (stands_in p) items ≡ x ∷ rest → Agrees n part old items
      → ((q : Queue) → is_routers n q ≡ true → new q ≡ cond (same_queue p q) (drop 1 (old q)) (old q))
      → Agrees n part new (filter (stays (name_of x ∷ [])) items)
  Agrees-pop n part old new items p x rest apart first h step = λ q own. popped_at part (old q) (new q) items p q x rest apart first (h q own) (step q own)

  -- a queue, once nothing was taken of one in which nothing stands
  pub idle_at :
      (part : Envelope → T) (old new : List T) (items : List Envelope) (p q : Queue)
      → filter (stands_in p) items ≡ [] → old ≡ map part (filter (stands_in q) items) → new ≡ cond (same_queue p q) (drop 1 old) old
      → new ≡ map part (filter (stands_in q) items)
  idle_at part old new items p q none h step =
      step
      ∙ ((elim (same_queue p q) as (λ b. same_queue p q ≡ b → cond b (drop 1 old) old ≡ old) [
        | true ↦ λ k.
            let empty : old ≡ [] = h ∙ ap (map part) (line_same p q items k ∙ none) in
            ap (drop 1) empty ∙ sym empty
        | false ↦ λ k. refl
      ]) refl
      ∙ h)

  pub Agrees-idle :
      (n : ℕ) (part : Envelope → T) (old new : Queue → List T) (items : List Envelope) (p : Queue)
      → filter (stands_in p) items ≡ [] → Agrees n part old items
      → ((q : Queue) → is_routers n q ≡ true → new q ≡ cond (same_queue p q) (drop 1 (old q)) (old q))
      → Agrees n part new items
  Agrees-idle n part old new items p none h step = λ q own. idle_at part (old q) (new q) items p q none (h q own) (step q own)

  -- all items of a queue, taken
  pub Agrees-emptied :
      (n : ℕ) (part : Envelope → T) (old new : Queue → List T) (items : List Envelope) (p : Queue)
      → AreApart items → Agrees n part old items
      → ((q : Queue) → is_routers n q ≡ true → new q ≡ cond (same_queue p q) [] (old q))
      → Agrees n part new (without_line p items)
  Agrees-emptied n part old new items p apart h step =
      λ q own.
      step q own
      ∙ (elim (same_queue p q) as (λ b. same_queue p q ≡ b → cond b [] (old q) ≡ map part (filter (stands_in q) (without_line p items))) [
        | true ↦ λ k. ap (map part) (sym (line_same p q (without_line p items) k ∙ line_gone items p))
        | false ↦ λ k. h q own ∙ ap (map part) (sym (line_kept p q items apart k))
      ]) refl

-- an answer to a connection stands in no queue of the router
pub answer_away : (n m conn : ℕ) (q : Queue) → is_routers n q ≡ true → same_queue q (queue.RouterAnswer m conn) ≡ false
answer_away n m conn q h = same_queue-sym q (queue.RouterAnswer m conn) ∙ away (is_routers n) (queue.RouterAnswer m conn) q refl h

-- one more put, in its place
pub placed-last :
    (items : List Envelope) (entry : ℕ) (puts : List (Queue × Item)) (x : Queue × Item)
    → items ++ placed entry 0 (puts ++ x ∷ []) ≡ (items ++ placed entry 0 puts) ++ record { entry = entry; place = length puts; queue = x.0; item = x.1 } ∷ []
placed-last items entry puts x =
    ap (λ l. items ++ l)
    (placed-append entry 0 puts x
    ∙ ap (λ k. placed entry 0 puts ++ record { entry = entry; place = k; queue = x.0; item = x.1 } ∷ []) (omega arith))
    ∙ sym (append_assoc items (placed entry 0 puts) (record { entry = entry; place = length puts; queue = x.0; item = x.1 } ∷ []))
