-- The names of a router, once a row puts one more item, or ends the list of one more channel.
use Rattle.std.proofs.Common.{◌≡◌, ℕ, ◌+◌, ◌<◌, ◌≤◌, true, cond, List, [], ◌∷◌, ◌++◌, length, get_or, drop, take, refl, ap, sym, subst, ◌∙◌, arith, append_assoc, Option}
use Rattle.std.specs.Prelude.{filter, flat_map, map, ◌==◌}
use Rattle.std.proofs.lemmas.Bool.Decides.{nat_tests}
use Rattle.std.proofs.lemmas.Grind.{flat_map-append}
use Rattle.std.proofs.lemmas.List.{map-append, take_more, take_all}
use Rattle.p2p_log.specs.declared.queue.Queue.{Queue}
use Rattle.p2p_log.specs.declared.queue.Queue.TheVariants as queue
use Rattle.p2p_log.specs.declared.item.Item.{Item}
use Rattle.p2p_log.specs.declared.item.Envelope.{Envelope}
use Rattle.p2p_log_rules.specs.declared.row.Row.{Row}
use Rattle.p2p_log.specs.QueueCode.{same_queue}
use Rattle.p2p_log.specs.Lines.{ended_item, stays, placed, stands_in}
use Rattle.p2p_log_rules.specs.Effect.{overwritten, peers_ends}
use Rattle.p2p_log.proofs.Lines.{filter_stays-append, filter_stays-nil}
use Rattle.p2p_log.specs.Apart.{AreApart}
use Rattle.p2p_log.proofs.Names.{AreApart-filter}
use Rattle.p2p_net_queues.specs.declared.board.Board.{Board}
use Rattle.p2p_net_queues.specs.Board.{held}
use Rattle.p2p_net_router.proofs.Overwritten.{peers_ends-append}
use Rattle.p2p_net_router.specs.Names.{Agrees, label, tag_of, ends_of}
use Rattle.p2p_net_router.specs.Building.{NamesBuild}
use Rattle.p2p_net_router.specs.declared.name.Name.{Name}
use Rattle.p2p_net_router.proofs.Agreeing.{Agrees-push, Agrees-pop, Agrees-idle, placed-last}

pub NamesBuild-put :
    (n : ℕ) (old new : Board Name) (items : List Envelope) (entry : ℕ) (r : Row) (puts : List (Queue × Item)) (place : ℕ) (q : Queue) (i : Item) (tag : Option (ℕ × ℕ))
    → place ≡ length r.puts → tag ≡ tag_of i → puts ≡ r.puts ++ (q, i) ∷ [] → NamesBuild n old items entry r
    → ((k : Queue) → held new k ≡ held old k ++ cond (same_queue q k) (record { entry = entry; place = place; tag = tag } ∷ []) [])
    → NamesBuild n new items entry (record r { puts = puts })
NamesBuild-put n old new items entry r puts place q i tag at is all h step =
    let x : Envelope = record { entry = entry; place = length r.puts; queue = q; item = i } in
    subst (Agrees n label (held new)) (sym (placed-last items entry r.puts (q, i)) ∙ ap (λ l. items ++ placed entry 0 l) (sym all))
    (Agrees-push n label (held old) (held new) (items ++ placed entry 0 r.puts) x h
    (λ k own. step k
    ∙ (ap (λ p. held old k ++ cond (same_queue q k) (record { entry = entry; place = p; tag = tag } ∷ []) []) at
    ∙ ap (λ t. held old k ++ cond (same_queue q k) (record { entry = entry; place = length r.puts; tag = t } ∷ []) []) is)))

-- one more of the puts that a list makes
pub puts_more :
    (f : ℕ → Queue × Item) (all : List ℕ) (i : ℕ) (r s t : Row) → i < length all
    → s ≡ record r { puts = r.puts ++ map f (take i all) } → t ≡ record s { puts = s.puts ++ f (get_or all i 0) ∷ [] } → t ≡ record r { puts = r.puts ++ map f (take (i + 1) all) }
puts_more f all i r s t within e g =
    let one = f (get_or all i 0) ∷ [] in
    g
    ∙ (ap (λ (y : Row). record y { puts = y.puts ++ one }) e
    ∙ ap (λ l. record r { puts = l })
    (append_assoc r.puts (map f (take i all)) one
    ∙ ap (λ l. r.puts ++ l) (sym (map-append f (take i all) (get_or all i 0 ∷ [])) ∙ ap (map f) (sym (take_more all i 0 within)))))

-- all of them
pub puts_all :
    (f : ℕ → Queue × Item) (all : List ℕ) (i : ℕ) (r s : Row) → length all ≤ i → s ≡ record r { puts = r.puts ++ map f (take i all) } → s ≡ record r { puts = r.puts ++ map f all }
puts_all f all i r s end e = e ∙ ap (λ l. record r { puts = r.puts ++ map f l }) (take_all i all end)

ends_of-label : (xs : List Envelope) → ends_of (map label xs) ≡ overwritten xs
ends_of-label [] = refl
ends_of-label (x ∷ xs) = refl

pub own_peers : (n : ℕ) → (n == n) ≡ true
own_peers n = grind (arith, nat_tests)

-- the names of a channel's lists, once those of some channels ended
names_left :
    (n c : ℕ) (cs : List ℕ) (old : Queue → List Name) (items : List Envelope)
    → Agrees n label old (filter (stays (flat_map ended_item (peers_ends items n cs))) items)
    → old (queue.Peers n c) ≡ map label (filter (stands_in (queue.Peers n c)) (filter (stays (flat_map ended_item (peers_ends items n cs))) items))
names_left n c cs old items h = h (queue.Peers n c) (own_peers n)

-- one more channel, whose list ended
pub row_ended :
    (n c : ℕ) (cs : List ℕ) (old : Queue → List Name) (items : List Envelope) (r s t : Row)
    → Agrees n label old (filter (stays (flat_map ended_item (peers_ends items n cs))) items)
    → s ≡ record r { ends = r.ends ++ peers_ends items n cs }
    → t ≡ record s { ends = s.ends ++ ends_of (old (queue.Peers n c)) }
    → t ≡ record r { ends = r.ends ++ peers_ends items n (cs ++ c ∷ []) }
row_ended n c cs old items r s t h so_far more =
    let before = peers_ends items n cs in
    let kept = filter (stays (flat_map ended_item before)) items in
    let last : ends_of (old (queue.Peers n c)) ≡ overwritten (filter (stands_in (queue.Peers n c)) kept) =
    ap ends_of (names_left n c cs old items h) ∙ ends_of-label (filter (stands_in (queue.Peers n c)) kept)
    in
    more
    ∙ (ap (λ (x : Row). record x { ends = x.ends ++ ends_of (old (queue.Peers n c)) }) so_far
    ∙ ap (λ e. record r { ends = e })
    (append_assoc r.ends before (ends_of (old (queue.Peers n c)))
    ∙ ap (λ e. r.ends ++ e) (ap (λ l. before ++ l) last ∙ sym (peers_ends-append items n c cs))))

pub Agrees-ended :
    (n c : ℕ) (cs : List ℕ) (old new : Queue → List Name) (items : List Envelope) → AreApart items
    → Agrees n label old (filter (stays (flat_map ended_item (peers_ends items n cs))) items)
    → ((q : Queue) → new q ≡ cond (same_queue (queue.Peers n c) q) (drop 1 (old q)) (old q))
    → Agrees n label new (filter (stays (flat_map ended_item (peers_ends items n (cs ++ c ∷ [])))) items)
Agrees-ended n c cs old new items apart h step =
    let p = queue.Peers n c in
    let before = peers_ends items n cs in
    let gone = flat_map ended_item before in
    let kept = filter (stays gone) items in
    let whole : filter (stays (flat_map ended_item (peers_ends items n (cs ++ c ∷ [])))) items ≡ filter (stays (flat_map ended_item (overwritten (filter (stands_in p) kept)))) kept =
    ap (λ e. filter (stays (flat_map ended_item e)) items) (peers_ends-append items n c cs)
    ∙ (ap (λ g. filter (stays g) items) (flat_map-append ended_item before (overwritten (filter (stands_in p) kept)))
    ∙ filter_stays-append gone (flat_map ended_item (overwritten (filter (stands_in p) kept))) items)
    in
    subst (Agrees n label new) (sym whole)
    ((elim (filter (stands_in p) kept) as (λ line. filter (stands_in p) kept ≡ line → Agrees n label new (filter (stays (flat_map ended_item (overwritten line))) kept)) [
      | [] ↦ λ e. subst (Agrees n label new) (sym (filter_stays-nil kept)) (Agrees-idle n label old new kept p e h (λ q own. step q))
      | x ∷ rest ↦ λ e. Agrees-pop n label old new kept p x rest (AreApart-filter (stays gone) items apart) e h (λ q own. step q)
    ]) refl)
