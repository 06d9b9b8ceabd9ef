-- A router's connection to a key is one whose peer has the key.
use Rattle.std.proofs.Common.{◌≡◌, ℕ, Bool, true, false, cond, List, [], ◌∷◌, ◌++◌, map, Some, Ordering, Less, Equal, Greater, refl, ap, sym, subst, ◌∙◌, arith, eqb-true}
use Rattle.std.specs.Prelude.{◌==◌, flat_map, filter}
use Rattle.std.specs.List.{AllByRecursion as Each}
use Rattle.std.specs.BTreeMap.{insert_entry, is_at}
use Rattle.std.specs.Map.{lookup, remove_entry}
use Rattle.std.specs.Ordering.{nat_cmp, match_ordering}
use Rattle.std.proofs.lemmas.Bool.Decides.{nat_tests}
use Rattle.p2p_base.specs.declared.key.Key.{Key}
use Rattle.p2p_log.specs.declared.config.Config.{Config}
use Rattle.p2p_log.specs.declared.queue.Queue.{Queue}
use Rattle.p2p_log.specs.declared.queue.Queue.TheVariants as queue
use Rattle.p2p_log.specs.declared.item.Item.{Item}
use Rattle.p2p_log.specs.declared.item.Item.TheVariants as item
use Rattle.p2p_log.specs.declared.item.Envelope.{Envelope}
use Rattle.p2p_log.specs.declared.entry.Entry.{Entry}
use Rattle.p2p_log.specs.declared.event.Event.{Event}
use Rattle.p2p_log.specs.declared.event.Act.{Act}
use Rattle.p2p_log.specs.declared.event.Act.TheVariants as act
use Rattle.p2p_log_rules.specs.declared.row.Half.{Half}
use Rattle.p2p_log_rules.specs.declared.row.Row.{Row}
use Rattle.p2p_log.specs.Lines.{name_of, stands_in, live, line}
use Rattle.p2p_log_rules.specs.Connections.{half_at}
use Rattle.p2p_log_rules.specs.Facts.{item_named, taken, state_from, with_route, routes_told, routes, route_to}
use Rattle.p2p_log_rules.specs.Effect.{entry_of}
use Rattle.p2p_log_rules.specs.Told.{told}
use Rattle.p2p_log_rules.specs.Routed.{routed_tells}
use Rattle.p2p_log_rules.proofs.Families.{kinds_of, are_apart}
use Rattle.p2p_log_rules.proofs.Routing.{route_kinds, routes_told-append, routes_told-item, router_apart, router_elsewhere, routes-kept, routes-step}
use Rattle.p2p_log.proofs.Queues.{same_queue-refl}
use Rattle.p2p_log_rules.proofs.Recorded.{AreRecorded, AreRecorded-line}
use Rattle.p2p_log.proofs.Each.{Each-has, Each-from_has, Each-map, Each-weaker}
use Rattle.p2p_log_rules.specs.Moves.{Moves}
use Rattle.p2p_log_rules.proofs.Moves.{taken_stood}
use Rattle.p2p_log.proofs.QueueNames.{queue_from_same}
use Rattle.p2p_log_laws.proofs.Reaching.{Reach, reads}
use Rattle.p2p_log_rules.proofs.Connections.{half_at-longer}
use Rattle.p2p_log_laws.proofs.Telling.{Tells, StandTells}
use Rattle.p2p_log.proofs.Taken.{Each-taken}

-- the connection is the node's, with a peer of this key
abbrev pub RouteHolds : List Config → List Entry → ℕ → ℕ × ℕ → Type 0
RouteHolds configs log n r = (half : Half) × (half_at log n r.1 ≡ Some half) × (half.peer.0 ≡ r.0)

abbrev pub RoutesHold : List Config → List Entry → Type 0
RoutesHold configs log = (n : ℕ) → Each (RouteHolds configs log n) (routes log n)

same_number : (x y : ℕ) → nat_cmp x y ≡ Equal → x ≡ y
same_number x y h = grind (arith, nat_tests)

-- ---- a map of routes

module _ (P : ℕ × ℕ → Type 0) where
  insert_by : (k v : ℕ) (e : ℕ × ℕ) (es : List (ℕ × ℕ)) (o : Ordering) → nat_cmp k e.0 ≡ o → P (k, v) → P e → Each P es → Each P (insert_entry nat_cmp es k v)
      → Each P (match_ordering o ((k, v) ∷ e ∷ es) ((e.0, v) ∷ es) (e ∷ insert_entry nat_cmp es k v))
  insert_by k v e es Less c p h t r = (p, (h, t))
  insert_by k v e es Equal c p h t r = (subst (λ j. P (j, v)) (same_number k e.0 c) p, t)
  insert_by k v e es Greater c p h t r = (h, r)

  Each-insert_entry : (k v : ℕ) (es : List (ℕ × ℕ)) → P (k, v) → Each P es → Each P (insert_entry nat_cmp es k v)
  Each-insert_entry k v [] p h = (p, tt)
  Each-insert_entry k v (e ∷ es) p h = insert_by k v e es (nat_cmp k e.0) refl p h.0 h.1 (Each-insert_entry k v es p h.1)

  removed_by : (test : ℕ → Bool) (e : ℕ × ℕ) (es : List (ℕ × ℕ)) (b : Bool) → P e → Each P es → Each P (remove_entry test es)
      → Each P (cond b es (e ∷ remove_entry test es))
  removed_by test e es true p h r = h
  removed_by test e es false p h r = (p, r)

  Each-remove_entry : (test : ℕ → Bool) (es : List (ℕ × ℕ)) → Each P es → Each P (remove_entry test es)
  Each-remove_entry test [] h = tt
  Each-remove_entry test (e ∷ es) h = removed_by test e es (test e.0) h.0 h.1 (Each-remove_entry test es h.1)

  found_by : (test : ℕ → Bool) (e : ℕ × ℕ) (es : List (ℕ × ℕ)) (v : ℕ) (b : Bool) → test e.0 ≡ b → P e
      → (lookup test es ≡ Some v → (k : ℕ) × (test k ≡ true) × P (k, v)) → cond b (Some e.1) (lookup test es) ≡ Some v → (k : ℕ) × (test k ≡ true) × P (k, v)
  found_by test e es v true t p more h = let same : e.1 ≡ v = cc in (e.0, t, subst (λ w. P (e.0, w)) same p)
  found_by test e es v false t p more h = more h

  -- what is looked up has what each entry has
  Each-lookup : (test : ℕ → Bool) (es : List (ℕ × ℕ)) (v : ℕ) → Each P es → lookup test es ≡ Some v → (k : ℕ) × (test k ≡ true) × P (k, v)
  Each-lookup test [] v h e = absurd (cc)
  Each-lookup test (d ∷ es) v h e = found_by test d es v (test d.0) refl h.0 (λ l. Each-lookup test es v h.1 l) e

-- the connection that a router has to a key is one whose peer has it
pub route_peer : (configs : List Config) (log : List Entry) (n : ℕ) (key : Key) (conn : ℕ) → RoutesHold configs log → route_to (routes log n) key ≡ Some conn
    → (half : Half) × (half_at log n conn ≡ Some half) × (half.peer ≡ key)
route_peer configs log n key conn holds h =
    let found = Each-lookup (RouteHolds configs log n) (λ k. key.0 == k) (routes log n) conn (holds n) h in
    let half : Half = found.2.0 in
    let same : key.0 ≡ found.0 = eqb-true key.0 found.0 found.1 in
    let to_key : ℕ → Key = λ k. record { 0 = k } in
    (half, found.2.1, ap to_key (found.2.2 ∙ sym same))

-- ---- one more entry

module _ (configs : List Config) (log : List Entry) (n : ℕ) where
  with_one : (rs : List (ℕ × ℕ)) (i : Item) → Each (RouteHolds configs log n) rs → Tells configs log i (queue.Router n) → Each (RouteHolds configs log n) (with_route rs i)
  with_one rs (item.Ready conn key) h t = Each-insert_entry (RouteHolds configs log n) key.0 conn rs (t.0, t.1, ap (λ k. k.0) t.2) h
  with_one rs (item.Release key) h t = Each-remove_entry (RouteHolds configs log n) (is_at (nat_cmp key.0)) rs h
  with_one rs _ h t = h

  with_all : (rs : List (ℕ × ℕ)) (xs : List Item) → Each (RouteHolds configs log n) rs → Each (λ i. Tells configs log i (queue.Router n)) xs
      → Each (RouteHolds configs log n) (routes_told n rs (flat_map (routed_tells n) xs))
  with_all rs [] h t = h
  with_all rs (x ∷ xs) h t =
      subst (Each (RouteHolds configs log n)) (sym (routes_told-append n rs (routed_tells n x) (flat_map (routed_tells n) xs) ∙ ap (λ r. routes_told n r (flat_map (routed_tells n) xs)) (routes_told-item n rs x)))
      (with_all (with_route rs x) xs (with_one rs x h t.0) t.1)

-- ---- what is taken, by its name

recorded_each : (log : List Entry) (xs : List Envelope) → AreRecorded log xs → Each (λ x. item_named log (name_of x) ≡ x.item ∷ []) xs
recorded_each log [] h = tt
recorded_each log (x ∷ xs) h = (h.0, recorded_each log xs h.1)

-- what each line has, all that stand in queues have
each_line : (P : Envelope → Type 0) (xs : List Envelope) → ((q : Queue) → Each P (filter (stands_in q) xs)) → Each P xs
each_line P [] h = tt
each_line P (x ∷ xs) h =
    (head (stands_in x.queue x) (same_queue-refl x.queue) (h x.queue), each_line P xs (λ q. tail q (stands_in q x) (h q)))
  where
    head : (b : Bool) → b ≡ true → Each P (cond b (x ∷ filter (stands_in x.queue) xs) (filter (stands_in x.queue) xs)) → P x
    head true e k = k.0
    head false e k = absurd (cc)

    tail : (q : Queue) (b : Bool) → Each P (cond b (x ∷ filter (stands_in q) xs) (filter (stands_in q) xs)) → Each P (filter (stands_in q) xs)
    tail q true k = k.1
    tail q false k = k

pub recorded_live : (log : List Entry) → Each (λ x. item_named log (name_of x) ≡ x.item ∷ []) (live log)
unfolding line
recorded_live log =
    each_line (λ x. item_named log (name_of x) ≡ x.item ∷ []) (live log) (λ q. recorded_each log (line log q) (AreRecorded-line log q))

named_items : (log : List Entry) (xs : List Envelope) → Each (λ x. item_named log (name_of x) ≡ x.item ∷ []) xs
    → flat_map (item_named log) (map name_of xs) ≡ map (λ x. x.item) xs
named_items log [] h = refl
named_items log (x ∷ xs) h = ap (λ l. l ++ flat_map (item_named log) (map name_of xs)) h.0 ∙ ap (λ r. x.item ∷ r) (named_items log xs h.1)

module _ (configs : List Config) (log : List Entry) (ev : Event) (r : Row) (m : Moves log r) (reach : Reach configs ev.act log r m) (tell : Each (StandTells configs log) (live log)) where
  taken_items : taken log (entry_of ev r) ≡ map (λ x. x.item) m.taken
  unfolding taken
  taken_items =
      ap (λ ns. flat_map (item_named log) ns) m.names
      ∙ named_items log m.taken (Each-taken (λ x. item_named log (name_of x) ≡ x.item ∷ []) (live log) m.taken (recorded_live log) (taken_stood log ev r m))

  -- what a router took by its step
  taken_tell : (n : ℕ) → ev.act ≡ act.Router n → Each (λ i. Tells configs log i (queue.Router n)) (taken log (entry_of ev r))
  taken_tell n is =
      let all : Each (StandTells configs log) m.taken = Each-taken (StandTells configs log) (live log) m.taken tell (taken_stood log ev r m) in
      let own : Each (λ x. x.queue ≡ queue.Router n) m.taken =
      Each-weaker (λ x. reads configs log ev.act x.queue ≡ true) (λ x. x.queue ≡ queue.Router n)
      (λ x k. queue_from_same (queue.Router n) x.queue (ap (λ a. reads configs log a x.queue) (sym is) ∙ k)) m.taken reach.taken
      in
      subst (Each (λ i. Tells configs log i (queue.Router n))) (sym taken_items)
      (Each-map (λ i. Tells configs log i (queue.Router n)) (λ x. x.item) m.taken
      (Each-from_has (λ x. Tells configs log x.item (queue.Router n)) m.taken (λ x has.
      subst (Tells configs log x.item) (Each-has (λ y. y.queue ≡ queue.Router n) m.taken x own has)
      (Each-has (StandTells configs log) m.taken x all has))))

  pub routes_kept : RoutesHold configs log → RoutesHold configs (log ++ entry_of ev r ∷ [])
  routes_kept holds n =
      Each-weaker (RouteHolds configs log n) (RouteHolds configs (log ++ entry_of ev r ∷ []) n)
      (λ x h. (h.0, half_at-longer log (entry_of ev r ∷ []) n x.1 h.0 h.1, h.2))
      (routes (log ++ entry_of ev r ∷ []) n) (by ev.act refl)
    where
      same : routes (log ++ entry_of ev r ∷ []) n ≡ routes log n → Each (RouteHolds configs log n) (routes (log ++ entry_of ev r ∷ []) n)
      same is = subst (Each (RouteHolds configs log n)) (sym is) (holds n)

      by : (a : Act) → ev.act ≡ a → Each (RouteHolds configs log n) (routes (log ++ entry_of ev r ∷ []) n)
      by (act.Router k) is = by_node (k == n) refl
        where
          by_node : (b : Bool) → (k == n) ≡ b → Each (RouteHolds configs log n) (routes (log ++ entry_of ev r ∷ []) n)
          by_node true here =
              let own : ev.act ≡ act.Router n = is ∙ ap (λ j. act.Router j) (eqb-true k n here) in
              subst (Each (RouteHolds configs log n)) (sym (routes-step log (entry_of ev r) n own))
              (with_all configs log n (routes log n) (taken log (entry_of ev r)) (holds n) (taken_tell n own))
          by_node false there = same (routes-kept log (entry_of ev r) n (router_elsewhere log (entry_of ev r) n k is there))
      by a is = same (routes-kept log (entry_of ev r) n (router_apart log (entry_of ev r) n (ap (λ b. are_apart (kinds_of b) route_kinds) is)))

pub routes_none : (configs : List Config) → RoutesHold configs []
unfolding routes told state_from
routes_none configs n = tt
