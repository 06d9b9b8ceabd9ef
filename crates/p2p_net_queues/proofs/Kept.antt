-- What a map of lines holds after a change.
use Rattle.std.proofs.Common.{◌≡◌, Bool, true, false, cond, List, [], ◌∷◌, ◌++◌, refl, ap, sym, ◌∙◌, append-nil, Option, Some, None}
use Rattle.std.specs.Prelude.{if◌then◌else◌}
use Rattle.std.specs.Map.{lookup}
use Rattle.std.specs.BTreeMap.{get, BTreeMap}
use Rattle.std.specs.Ordering.{is_eq}
use Rattle.std.specs.declared.collections.VecDeque.{VecDeque}
use Rattle.std.specs.declared.alloc.Global.{Global}
use Rattle.p2p_log.specs.QueueOrder.{queue_cmp}
use Rattle.p2p_log.specs.QueueCode.{same_queue}
use Rattle.p2p_log.specs.declared.queue.Queue.{Queue}
use Rattle.p2p_log.proofs.Queues.{is_eq-queue_cmp, same_queue-congr}
use Rattle.p2p_net_queues.specs.Board.{items_in}

-- tests that agree find the same
pub lookup-same : {K X : Type 0} (p q : K → Bool) → ((k : K) → p k ≡ q k) → (es : List (K × X)) → lookup p es ≡ lookup q es
lookup-same p q agree [] = refl
lookup-same p q agree (e ∷ es) =
    ap (λ b. cond b (Some e.1) (lookup p es)) (agree e.0) ∙ ap (λ r. cond (q e.0) (Some e.1) r) (lookup-same p q agree es)

-- the same queue has the same line
pub get-same_queue : {X : Type 0} (m : BTreeMap Queue X) (p q : Queue) → same_queue p q ≡ true → get queue_cmp m p ≡ get queue_cmp m q
get-same_queue m p q h =
    lookup-same (λ k. is_eq (queue_cmp p k)) (λ k. is_eq (queue_cmp q k))
    (λ k. is_eq-queue_cmp p k ∙ (same_queue-congr p q k h ∙ sym (is_eq-queue_cmp q k))) m.entries

new_line :
    {T : Type 0} (b : Bool) (old new : Option (VecDeque T Global)) (line : VecDeque T Global) (x : T)
    → new ≡ cond b (Some line) old → (b ≡ true → old ≡ None) → line.items ≡ x ∷ []
    → items_in new ≡ items_in old ++ cond b (x ∷ []) []
new_line true old new line x h absent e =
    ap items_in h ∙ (e ∙ sym (ap (λ o. items_in o ++ x ∷ []) (absent refl)))
new_line false old new line x h absent e = ap items_in h ∙ sym (append-nil (items_in old))

-- a line of one item, under a queue that had none
pub held-new_line :
    {T : Type 0} (l m n : BTreeMap Queue (VecDeque T Global)) (p q : Queue) (line : VecDeque T Global) (x : T)
    → l ≡ m → get queue_cmp n q ≡ cond (is_eq (queue_cmp p q)) (Some line) (get queue_cmp l q)
    → get queue_cmp m p ≡ None → line.items ≡ x ∷ []
    → items_in (get queue_cmp n q) ≡ items_in (get queue_cmp m q) ++ cond (same_queue p q) (x ∷ []) []
held-new_line l m n p q line x same h absent e =
    new_line (same_queue p q) (get queue_cmp m q) (get queue_cmp n q) line x
    (h ∙ (ap (λ b. cond b (Some line) (get queue_cmp l q)) (is_eq-queue_cmp p q)
    ∙ ap (λ k. cond (same_queue p q) (Some line) (get queue_cmp k q)) same))
    (λ s. sym (get-same_queue m p q s) ∙ absent) e

-- nothing stands in a queue whose line was taken out
pub none_there : {T : Type 0} {b c : Bool} (old : Option (VecDeque T Global)) → b ≡ c → items_in (cond b None old) ≡ (if c then [] else items_in old)
none_there {T} {b} {c} old same = ap (λ d. items_in (cond d None old)) same ∙ by c
  where
    by : (c : Bool) → items_in (cond c None old) ≡ (if c then [] else items_in old)
    by true = refl
    by false = refl
