-- What stands once the lists of some channels were overwritten.
use Rattle.std.proofs.Common.{◌≡◌, ℕ, Bool, true, false, cond, List, [], ◌∷◌, ◌++◌, drop, refl, ap, sym, ◌∙◌, arith}
use Rattle.std.specs.Prelude.{filter, flat_map, ◌==◌, ◌||◌}
use Rattle.std.specs.List.{list_any}
use Rattle.std.proofs.lemmas.Bool.Decides.{nat_tests}
use Rattle.std.proofs.lemmas.Bool.{false≢true}
use Rattle.p2p_log.specs.declared.queue.Queue.{Queue}
use Rattle.p2p_log.specs.declared.queue.Queue.TheVariants as queue
use Rattle.p2p_log.specs.declared.item.Envelope.{Envelope}
use Rattle.p2p_log.specs.QueueCode.{same_queue}
use Rattle.p2p_log.specs.Lines.{name_of, ended_item, stays, stands_in}
use Rattle.p2p_log_rules.specs.Effect.{overwritten, peers_ends}
use Rattle.p2p_log.proofs.Filters.{filter-same}
use Rattle.p2p_log.proofs.Lines.{filter_stays-append, filter_stays-nil}
use Rattle.p2p_log.proofs.Queues.{same_queue-sym, same_queue-congr}
use Rattle.p2p_log.specs.Apart.{AreApart}
use Rattle.p2p_log.proofs.Names.{AreApart-filter, filter_stays-first}
use Rattle.p2p_net_router.specs.Sound.{AreDistinct}

-- whether a queue has the lists of one of these channels
abbrev pub is_told : ℕ → List ℕ → Queue → Bool
is_told n cs q = list_any (λ c. same_queue (queue.Peers n c) q) cs

same_channel : (n c d : ℕ) → same_queue (queue.Peers n d) (queue.Peers n c) ≡ (c == d)
same_channel n c d = grind (arith, nat_tests)

pub told_channel : (n c : ℕ) (q : Queue) (cs : List ℕ) → same_queue (queue.Peers n c) q ≡ true → is_told n cs q ≡ list_any (λ d. c == d) cs
told_channel n c q [] h = refl
told_channel n c q (d ∷ ds) h =
    let here : same_queue (queue.Peers n d) q ≡ (c == d) =
    same_queue-sym (queue.Peers n d) q ∙ (sym (same_queue-congr (queue.Peers n c) q (queue.Peers n d) h) ∙ (same_queue-sym (queue.Peers n c) (queue.Peers n d) ∙ same_channel n c d))
    in
    ap (λ b. b || is_told n ds q) here ∙ ap (λ b. (c == d) || b) (told_channel n c q ds h)

-- what one more channel makes of a line
one_more :
    (b t : Bool) (whole first rest : List Envelope)
    → (b ≡ true → (whole ≡ first) × (t ≡ false)) → drop 1 first ≡ rest
    → cond t (drop 1 (cond b rest whole)) (cond b rest whole) ≡ cond (b || t) (drop 1 whole) whole
one_more true true whole first rest h e = absurd (false≢true (sym (h refl).1))
one_more true false whole first rest h e = sym (ap (drop 1) (h refl).0 ∙ e)
one_more false true whole first rest h e = refl
one_more false false whole first rest h e = refl

abbrev left : ℕ → ℕ → List ℕ → List Envelope → List Envelope → List Envelope
left n c cs items line = filter (stays (flat_map ended_item (overwritten line ++ peers_ends (filter (stays (flat_map ended_item (overwritten line))) items) n cs))) items

pub ended_lines :
    (n : ℕ) (cs : List ℕ) (items : List Envelope) (q : Queue) → AreApart items → AreDistinct cs
    → filter (stands_in q) (filter (stays (flat_map ended_item (peers_ends items n cs))) items)
    ≡ cond (is_told n cs q) (drop 1 (filter (stands_in q) items)) (filter (stands_in q) items)
ended_lines n [] items q apart distinct = ap (filter (stands_in q)) (filter_stays-nil items)
ended_lines n (c ∷ cs) items q apart distinct =
    let p = queue.Peers n c in
    let whole = filter (stands_in q) items in
    let told = is_told n cs q in
    let same : (k : same_queue p q ≡ true) → (whole ≡ filter (stands_in p) items) × (told ≡ false) =
    λ k. (filter-same (stands_in q) (stands_in p) (λ z. sym (same_queue-congr p q z.queue k)) items, told_channel n c q cs k ∙ distinct.0)
    in
    let ih = λ (kept : List Envelope) (a : AreApart kept). ended_lines n cs kept q a distinct.1 in
    (elim (filter (stands_in p) items) as (λ line. filter (stands_in p) items ≡ line → filter (stands_in q) (left n c cs items line) ≡ cond (same_queue p q || told) (drop 1 whole) whole) [
      | [] ↦ λ e.
          ap (λ l. filter (stands_in q) (filter (stays (flat_map ended_item (peers_ends l n cs))) items)) (filter_stays-nil items)
          ∙ (ih items apart
          ∙ ((elim (same_queue p q) as (λ b. same_queue p q ≡ b → cond told (drop 1 whole) whole ≡ cond (b || told) (drop 1 whole) whole) [
            | true ↦ λ k. ap (λ t. cond t (drop 1 whole) whole) (same k).1 ∙ (let empty : whole ≡ [] = (same k).0 ∙ e in empty ∙ sym (ap (drop 1) empty))
            | false ↦ λ k. refl
          ]) refl))
      | x ∷ rest ↦ λ e.
          let kept = filter (stays (name_of x ∷ [])) items in
          let later = flat_map ended_item (peers_ends kept n cs) in
          ap (filter (stands_in q)) (filter_stays-append (name_of x ∷ []) later items)
          ∙ (ih kept (AreApart-filter (stays (name_of x ∷ [])) items apart)
          ∙ (ap (λ l. cond told (drop 1 l) l) (filter_stays-first items p q x rest apart e)
          ∙ one_more (same_queue p q) told whole (x ∷ rest) rest (λ k. ((same k).0 ∙ e, (same k).1)) refl))
    ]) refl
