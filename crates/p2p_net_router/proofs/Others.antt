-- A router's step takes and ends nothing of queues that are not its own.
use Rattle.std.proofs.Common.{◌≡◌, ℕ, true, false, cond, List, [], ◌∷◌, ◌++◌, drop, ap, sym, ◌∙◌, append-nil, arith}
use Rattle.std.specs.Prelude.{filter, flat_map, ◌==◌}
use Rattle.std.proofs.lemmas.Bool.Decides.{nat_tests}
use Rattle.std.proofs.lemmas.List.Elements.{filter-append}
use Rattle.p2p_base.specs.declared.key.Key.{Key}
use Rattle.p2p_log.specs.declared.queue.Queue.{Queue}
use Rattle.p2p_log.specs.declared.queue.Queue.TheVariants as queue
use Rattle.p2p_log.specs.declared.item.Item.{Item}
use Rattle.p2p_log.specs.declared.item.Envelope.{Envelope}
use Rattle.p2p_log.specs.declared.entry.Reply.TheVariants as reply
use Rattle.p2p_log_rules.specs.declared.row.Row.{Row}
use Rattle.p2p_log.specs.QueueCode.{same_queue}
use Rattle.p2p_log.specs.Lines.{name_of, ended_item, stays, placed, stands_in}
use Rattle.p2p_log_rules.specs.Effect.{only, peers_ends, Spread}
use Rattle.p2p_log.proofs.Lines.{filter_stays-nil}
use Rattle.p2p_log.proofs.Queues.{same_queue-sym}
use Rattle.p2p_log_rules.proofs.Touches.{away}
use Rattle.p2p_log.specs.Apart.{AreApart}
use Rattle.p2p_log_rules.specs.Rows.{taken_row}
use Rattle.p2p_net_router.specs.Relays.{with_spread}
use Rattle.p2p_net_router.specs.Names.{is_routers}
use Rattle.p2p_net_router.specs.Sound.{AreDistinct}
use Rattle.p2p_net_router.specs.Holds.{after, Adds}
use Rattle.p2p_net_router.specs.Oldest.{without, told_row}
use Rattle.p2p_net_router.proofs.Beside.{filter-first_away}
use Rattle.p2p_net_router.proofs.Ended.{ended_lines}
use Rattle.p2p_net_router.proofs.Standing.{told_none}
use Rattle.p2p_net_router.proofs.Noting.{after_row, apart_without}

same_node : (n : ℕ) → (n == n) ≡ true
same_node n = grind (arith, nat_tests)

-- a mailbox that is another's
pub not_mailbox : (n : ℕ) (q : Queue) → is_routers n q ≡ false → same_queue (queue.Router n) q ≡ false
not_mailbox n q h = same_queue-sym (queue.Router n) q ∙ away (is_routers n) q (queue.Router n) h (same_node n)

not_list : (n c : ℕ) (q : Queue) → is_routers n q ≡ false → same_queue (queue.Peers n c) q ≡ false
not_list n c q h = same_queue-sym (queue.Peers n c) q ∙ away (is_routers n) q (queue.Peers n c) h (same_node n)

pub told_adds :
    (n entry : ℕ) (x : Envelope) (rest items : List Envelope) (puts : List (Queue × Item)) (keys : List Key) (cs : List ℕ) (row : Row) (q : Queue)
    → is_routers n q ≡ false → AreDistinct cs → AreApart items → filter (stands_in (queue.Router n)) items ≡ x ∷ rest
    → row ≡ told_row n x items puts keys cs → Adds entry row items q
told_adds n entry x rest items puts keys cs row q other distinct apart first is =
    let ends = peers_ends (without x items) n cs in
    let kept = filter (stays (flat_map ended_item ends)) (without x items) in
    ap (filter (stands_in q)) (after_row x items entry row ends (ap (λ (r : Row). r.takes) is) (ap (λ (r : Row). r.ends) is))
    ∙ (filter-append (stands_in q) kept (placed entry 0 row.puts)
    ∙ ap (λ l. l ++ filter (stands_in q) (placed entry 0 row.puts))
    (ended_lines n cs (without x items) q (apart_without x items apart) distinct
    ∙ (ap (λ b. cond b (drop 1 (filter (stands_in q) (without x items))) (filter (stands_in q) (without x items))) (told_none n cs q (λ c. not_list n c q other))
    ∙ filter-first_away q (queue.Router n) items x rest apart first (not_mailbox n q other))))

pub copied_adds :
    (n entry : ℕ) (x : Envelope) (rest items : List Envelope) (s : Spread) (row : Row) (q : Queue)
    → is_routers n q ≡ false → AreApart items → filter (stands_in (queue.Router n)) items ≡ x ∷ rest
    → row ≡ with_spread (taken_row (name_of x)) s → flat_map ended_item s.ends ≡ [] → Adds entry row items q
copied_adds n entry x rest items s row q other apart first is none =
    let whole : after entry row items ≡ without x items ++ placed entry 0 row.puts =
    ap (λ g. filter (stays g) items ++ placed entry 0 row.puts)
    (ap (λ (r : Row). r.takes ++ flat_map ended_item r.ends) is ∙ ap (λ g. name_of x ∷ g) none)
    in
    ap (filter (stands_in q)) whole
    ∙ (filter-append (stands_in q) (without x items) (placed entry 0 row.puts)
    ∙ ap (λ l. l ++ filter (stands_in q) (placed entry 0 row.puts)) (filter-first_away q (queue.Router n) items x rest apart first (not_mailbox n q other)))

pub idle_adds : (entry : ℕ) (row : Row) (items : List Envelope) (q : Queue) → row ≡ only reply.Idle → Adds entry row items q
idle_adds entry row items q is =
    ap (λ (r : Row). filter (stands_in q) (after entry r items)) is
    ∙ (ap (filter (stands_in q)) (append-nil (filter (stays []) items) ∙ filter_stays-nil items)
    ∙ (sym (append-nil (filter (stands_in q) items)) ∙ ap (λ (r : Row). filter (stands_in q) items ++ filter (stands_in q) (placed entry 0 r.puts)) (sym is)))
