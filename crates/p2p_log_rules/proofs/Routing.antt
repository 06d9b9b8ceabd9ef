-- What one more entry makes of what a node's router has: the channels that want lists, the routes, and the lists that it put.
use Rattle.std.proofs.Common.{◌≡◌, ℕ, Bool, true, false, cond, List, [], ◌∷◌, ◌++◌, length, refl, ap, sym, ◌∙◌, arith, append-nil, eq-eqb, Some, None}
use Rattle.std.specs.Prelude.{◌==◌, ◌&&◌, flat_map, unwrap_or}
use Rattle.std.specs.List.{list_any}
use Rattle.std.proofs.lemmas.Bool.Decides.{nat_tests}
use Rattle.std.proofs.lemmas.Grind.{flat_map-append}
use Rattle.p2p_base.specs.declared.key.Key.{Key}
use Rattle.p2p_log.specs.declared.queue.Queue.{Queue}
use Rattle.p2p_log.specs.declared.queue.Queue.TheVariants as queue
use Rattle.p2p_log.specs.declared.queue.Side.TheVariants as side
use Rattle.p2p_log.specs.declared.item.Item.{Item}
use Rattle.p2p_log.specs.declared.item.Item.TheVariants as item
use Rattle.p2p_log.specs.declared.entry.Entry.{Entry}
use Rattle.p2p_log.specs.declared.event.Act.{Act}
use Rattle.p2p_log.specs.declared.event.Act.TheVariants as act
use Rattle.p2p_log.specs.QueueCode.{same_queue}
use Rattle.p2p_log_rules.specs.Facts.{wants_lists, subscribers, with_ready, without_key, with_route, routes_told, routes, peers_told}
use Rattle.p2p_log_rules.specs.Routed.{routed_tells, listed_tells, lists_peers, peers_in}
use Rattle.p2p_log_rules.specs.Taking.{taken, state_from}
use Rattle.p2p_log_rules.specs.Tellings.{Telling, last_or}
use Rattle.p2p_log_rules.specs.Tellings as telling
use Rattle.p2p_log_rules.specs.Told.{act_tells, tells, told}
use Rattle.p2p_log_rules.proofs.Acted.{tells_as, TellsNone, collected-append, collected-kept}
use Rattle.p2p_log_rules.proofs.TellingKinds.{Kind}
use Rattle.p2p_log_rules.proofs.TellingKinds as kind
use Rattle.p2p_log_rules.proofs.Families.{telling_kind, kinds_of, has, are_apart, untold_of}
use Rattle.p2p_log_rules.proofs.Ignoring.{flat_map-none}
use Rattle.p2p_log_rules.proofs.Routed.{router_quiet}
use Rattle.p2p_log_rules.proofs.Tellings.{or_left, or_right, append_quiet, told-append, last_or-append}

-- ---- what is told by a step of a router, and by another act

-- an act that is no step of a router tells nothing of these kinds
untold_kinds : (js : List Kind) (ts : List Telling) (log : List Entry) (e : Entry) → are_apart (kinds_of e.event.act) js ≡ true → list_any (λ t. has js (telling_kind t)) (tells ts log e) ≡ false
untold_kinds js ts log e h = untold_of (λ t. has js (telling_kind t)) js (λ t k. k) ts log e h

abbrev acts_tell : List Telling → List Entry → Entry → Act → List Telling
acts_tell ts log e a = act_tells ts log (length log) e.event.at e.event.seed e.reply (taken log e) e.puts a

-- ---- what a router has, after tellings

-- what tells of a router
abbrev pub route_kinds : List Kind
route_kinds = kind.lists_wanted ∷ kind.ready_routed ∷ kind.release_routed ∷ []

-- whether it is told of a node's router
abbrev pub of_router : ℕ → Telling → Bool
of_router n (telling.lists_wanted m c) = m == n
of_router n (telling.ready_routed m conn key) = m == n
of_router n (telling.release_routed m key) = m == n
of_router n _ = false

module _ (n : ℕ) where
  pub routes_told-append : (r : List (ℕ × ℕ)) (ts us : List Telling) → routes_told n r (ts ++ us) ≡ routes_told n (routes_told n r ts) us
  routes_told-append r [] us = refl
  routes_told-append r (telling.ready_routed m conn key ∷ ts) us = routes_told-append (cond (m == n) (with_ready r conn key) r) ts us
  routes_told-append r (telling.release_routed m key ∷ ts) us = routes_told-append (cond (m == n) (without_key r key) r) ts us
  routes_told-append r (t ∷ ts) us = routes_told-append r ts us

  unwanted : (t : Telling) → of_router n t ≡ false → wants_lists n t ≡ []
  unwanted (telling.lists_wanted m c) h = ap (λ b. cond b (c ∷ []) []) h
  unwanted _ h = refl

  unrouted : (r : List (ℕ × ℕ)) (ts : List Telling) → list_any (of_router n) ts ≡ false → routes_told n r ts ≡ r
  unrouted r [] h = refl
  unrouted r (telling.ready_routed m conn key ∷ ts) h =
      ap (λ b. routes_told n (cond b (with_ready r conn key) r) ts) (or_left (m == n) (list_any (of_router n) ts) h) ∙ unrouted r ts (or_right (m == n) (list_any (of_router n) ts) h)
  unrouted r (telling.release_routed m key ∷ ts) h =
      ap (λ b. routes_told n (cond b (without_key r key) r) ts) (or_left (m == n) (list_any (of_router n) ts) h) ∙ unrouted r ts (or_right (m == n) (list_any (of_router n) ts) h)
  unrouted r (telling.lists_wanted m c ∷ ts) h = unrouted r ts (or_right (m == n) (list_any (of_router n) ts) h)
  unrouted r (t ∷ ts) h = unrouted r ts h

  of_kinds : (t : Telling) → has route_kinds (telling_kind t) ≡ false → of_router n t ≡ false
  of_kinds (telling.lists_wanted m c) h = cc
  of_kinds (telling.ready_routed m conn key) h = cc
  of_kinds (telling.release_routed m key) h = cc
  of_kinds _ h = refl

  -- the lists that it puts tell nothing of these
  put_quiet : (x : Queue × Item) → list_any (of_router n) (listed_tells x) ≡ false
  put_quiet (queue.Peers m c, item.Peers keys) = refl
  put_quiet _ = refl

  puts_quiet : (puts : List (Queue × Item)) → list_any (of_router n) (flat_map listed_tells puts) ≡ false
  puts_quiet [] = refl
  puts_quiet (x ∷ puts) = append_quiet (of_router n) (listed_tells x) (flat_map listed_tells puts) (put_quiet x) (puts_quiet puts)

  -- what it takes
  pub routes_told-item : (r : List (ℕ × ℕ)) (i : Item) → routes_told n r (routed_tells n i) ≡ with_route r i
  routes_told-item r (item.Ready conn key) = ap (λ b. cond b (with_ready r conn key) r) (eq-eqb n n refl)
  routes_told-item r (item.Release key) = ap (λ b. cond b (without_key r key) r) (eq-eqb n n refl)
  routes_told-item r (item.Subscribe c) = refl
  routes_told-item r _ = refl

  pub wants_lists-item : (c : ℕ) → flat_map (wants_lists n) (routed_tells n (item.Subscribe c)) ≡ c ∷ []
  wants_lists-item c = ap (λ b. cond b (c ∷ []) [] ++ []) (eq-eqb n n refl)

-- ---- after one more entry

module _ (log : List Entry) (e : Entry) (n : ℕ) where
  -- which tells nothing of the router
  abbrev pub TellsNoRouter : Type 0
  TellsNoRouter = list_any (of_router n) (tells (told log) log e) ≡ false

  pub router_apart : TellsNone log e route_kinds → TellsNoRouter
  router_apart apart = untold_of (of_router n) route_kinds (of_kinds n) (told log) log e apart

  pub router_elsewhere : (m : ℕ) → e.event.act ≡ act.Router m → (m == n) ≡ false → TellsNoRouter
  router_elsewhere m is away =
      ap (list_any (of_router n)) (tells_as (told log) log e (act.Router m) is)
      ∙ router_quiet (of_router n) m (record { wants = λ c. away; ready = λ conn key. away; release = λ key. away; list = λ k c keys. refl }) (taken log e) e.puts

  pub router_untaken : taken log e ≡ [] → TellsNoRouter
  router_untaken none = by e.event.act refl
    where
      by : (a : Act) → e.event.act ≡ a → TellsNoRouter
      by (act.Router m) is =
          ap (list_any (of_router n)) (tells_as (told log) log e (act.Router m) is)
          ∙ (ap (λ items. list_any (of_router n) (flat_map (routed_tells m) items ++ flat_map listed_tells e.puts)) none ∙ puts_quiet n e.puts)
      by a is = router_apart (ap (λ b. are_apart (kinds_of b) route_kinds) is)

  pub subscribers-kept : TellsNoRouter → subscribers (log ++ e ∷ []) n ≡ subscribers log n
  unfolding subscribers
  subscribers-kept none = collected-kept log e (wants_lists n) (flat_map-none (of_router n) (wants_lists n) (unwanted n) (tells (told log) log e) none)

  pub routes-kept : TellsNoRouter → routes (log ++ e ∷ []) n ≡ routes log n
  unfolding routes
  routes-kept none =
      ap (routes_told n []) (told-append log e) ∙ (routes_told-append n [] (told log) (tells (told log) log e) ∙ unrouted n (routes_told n [] (told log)) (tells (told log) log e) none)

  -- a step of the router
  module _ (is : e.event.act ≡ act.Router n) where
    pub routes-step : routes (log ++ e ∷ []) n ≡ routes_told n (routes log n) (flat_map (routed_tells n) (taken log e))
    unfolding routes
    routes-step =
        let items = flat_map (routed_tells n) (taken log e) in
        ap (routes_told n []) (told-append log e ∙ ap (λ ts. told log ++ ts) (tells_as (told log) log e (act.Router n) is))
        ∙ (routes_told-append n [] (told log) (items ++ flat_map listed_tells e.puts)
        ∙ (routes_told-append n (routes_told n [] (told log)) items (flat_map listed_tells e.puts)
        ∙ unrouted n (routes_told n (routes_told n [] (told log)) items) (flat_map listed_tells e.puts) (puts_quiet n e.puts)))

    -- that takes this
    module _ (i : Item) (took : taken log e ≡ i ∷ []) where
      pub subscribers-routed : subscribers (log ++ e ∷ []) n ≡ subscribers log n ++ flat_map (wants_lists n) (routed_tells n i)
      unfolding subscribers
      subscribers-routed =
          let f = wants_lists n in
          let listed = flat_map listed_tells e.puts in
          collected-append log e f
          ∙ ap (λ l. flat_map f (told log) ++ l)
          (ap (flat_map f) (tells_as (told log) log e (act.Router n) is ∙ ap (λ items. flat_map (routed_tells n) items ++ listed) took)
          ∙ (flat_map-append f (routed_tells n i ++ []) listed
          ∙ (ap (λ l. flat_map f (routed_tells n i ++ []) ++ l) (flat_map-none (of_router n) f (unwanted n) listed (puts_quiet n e.puts))
          ∙ (append-nil (flat_map f (routed_tells n i ++ [])) ∙ ap (flat_map f) (append-nil (routed_tells n i))))))

      pub routes-routed : routes (log ++ e ∷ []) n ≡ with_route (routes log n) i
      routes-routed =
          routes-step
          ∙ (ap (λ items. routes_told n (routes log n) (flat_map (routed_tells n) items)) took
          ∙ (ap (routes_told n (routes log n)) (append-nil (routed_tells n i)) ∙ routes_told-item n (routes log n) i))

pub router-none : (n : ℕ) → (subscribers [] n ≡ []) × (routes [] n ≡ [])
unfolding subscribers routes told state_from
router-none n = (refl, refl)

-- ---- the newest list of peers

abbrev pub list_put : ℕ → ℕ → Queue × Item → List (List Key)
list_put n c (q, item.Peers keys) = cond (same_queue (queue.Peers n c) q) (keys ∷ []) []
list_put n c _ = []

-- the lists of peers that an entry puts for a channel, in order
abbrev pub lists_put : ℕ → ℕ → Entry → List (List Key)
lists_put n c e = flat_map (list_put n c) e.puts

-- the last of these, or else this
abbrev pub newest : List Key → List (List Key) → List Key
newest old [] = old
newest old (keys ∷ lists) = newest keys lists

newest-append : (old : List Key) (xs ys : List (List Key)) → newest old (xs ++ ys) ≡ newest (newest old xs) ys
newest-append old [] ys = refl
newest-append old (x ∷ xs) ys = newest-append x xs ys

module _ (n c : ℕ) where
  same_peers : (m d : ℕ) → ((m == n) && (d == c)) ≡ same_queue (queue.Peers n c) (queue.Peers m d)
  same_peers m d = grind (arith, nat_tests)

  elsewhere : (old keys : List Key) (q : Queue) → same_queue (queue.Peers n c) q ≡ false → old ≡ newest old (list_put n c (q, item.Peers keys))
  elsewhere old keys q h = ap (λ b. newest old (cond b (keys ∷ []) [])) (sym h)

  put_listed : (old : List Key) (x : Queue × Item) → last_or old (lists_peers n c) (listed_tells x) ≡ newest old (list_put n c x)
  put_listed old (queue.Peers m d, item.Peers keys) = ap (λ b. unwrap_or (cond b (Some keys) None) old) (same_peers m d) ∙ by (same_queue (queue.Peers n c) (queue.Peers m d))
    where
      by : (b : Bool) → unwrap_or (cond b (Some keys) None) old ≡ newest old (cond b (keys ∷ []) [])
      by true = refl
      by false = refl
  put_listed old (queue.Link e side.Out, item.Peers keys) = refl
  put_listed old (queue.Link e side.In, item.Peers keys) = refl
  put_listed old (q, item.Peers keys) = refl
  put_listed old (q, i) = refl

  puts_listed : (old : List Key) (puts : List (Queue × Item)) → last_or old (lists_peers n c) (flat_map listed_tells puts) ≡ newest old (flat_map (list_put n c) puts)
  puts_listed old [] = refl
  puts_listed old (x ∷ puts) =
      last_or-append old (lists_peers n c) (listed_tells x) (flat_map listed_tells puts)
      ∙ (ap (λ o. last_or o (lists_peers n c) (flat_map listed_tells puts)) (put_listed old x)
      ∙ (puts_listed (newest old (list_put n c x)) puts ∙ sym (newest-append old (list_put n c x) (flat_map (list_put n c) puts))))

  none_listed : (old : List Key) (ts : List Telling) → list_any (λ t. has (kind.peers_listed ∷ []) (telling_kind t)) ts ≡ false → last_or old (lists_peers n c) ts ≡ old
  none_listed old [] h = refl
  none_listed old (telling.peers_listed m d keys ∷ ts) h = cc
  none_listed old (t ∷ ts) h = none_listed old ts h

  item_unlisted : (m : ℕ) (i : Item) (old : List Key) → last_or old (lists_peers n c) (routed_tells m i) ≡ old
  item_unlisted m (item.Subscribe d) old = refl
  item_unlisted m (item.Ready conn key) old = refl
  item_unlisted m (item.Release key) old = refl
  item_unlisted m _ old = refl

  items_unlisted : (m : ℕ) (items : List Item) (old : List Key) → last_or old (lists_peers n c) (flat_map (routed_tells m) items) ≡ old
  items_unlisted m [] old = refl
  items_unlisted m (i ∷ items) old =
      last_or-append old (lists_peers n c) (routed_tells m i) (flat_map (routed_tells m) items)
      ∙ (ap (λ o. last_or o (lists_peers n c) (flat_map (routed_tells m) items)) (item_unlisted m i old) ∙ items_unlisted m items old)

  peers_more : (log : List Entry) (e : Entry) → peers_in (told (log ++ e ∷ [])) n c ≡ last_or (peers_in (told log) n c) (lists_peers n c) (tells (told log) log e)
  peers_more log e = ap (λ ts. peers_in ts n c) (told-append log e) ∙ last_or-append [] (lists_peers n c) (told log) (tells (told log) log e)

  listed_by : (ts : List Telling) (log : List Entry) (e : Entry) (m : ℕ) (old : List Key) → e.event.act ≡ act.Router m → last_or old (lists_peers n c) (tells ts log e) ≡ newest old (lists_put n c e)
  unfolding tells
  listed_by ts log e m old is =
      ap (λ a. last_or old (lists_peers n c) (acts_tell ts log e a)) is
      ∙ (last_or-append old (lists_peers n c) (flat_map (routed_tells m) (taken log e)) (flat_map listed_tells e.puts)
      ∙ (ap (λ o. last_or o (lists_peers n c) (flat_map listed_tells e.puts)) (items_unlisted m (taken log e) old) ∙ puts_listed old e.puts))

  unlisted_by : (ts : List Telling) (log : List Entry) (e : Entry) (old : List Key) → lists_put n c e ≡ [] → last_or old (lists_peers n c) (tells ts log e) ≡ old
  unlisted_by ts log e old none = by e.event.act refl
    where
      by : (a : Act) → e.event.act ≡ a → last_or old (lists_peers n c) (tells ts log e) ≡ old
      by (act.Router m) is = listed_by ts log e m old is ∙ ap (newest old) none
      by a is = none_listed old (tells ts log e) (untold_kinds (kind.peers_listed ∷ []) ts log e (ap (λ b. are_apart (kinds_of b) (kind.peers_listed ∷ [])) is))

-- a step of a router, by the lists that it puts
pub peers_told-routed : (log : List Entry) (e : Entry) (n c m : ℕ) → e.event.act ≡ act.Router m → peers_told (log ++ e ∷ []) n c ≡ newest (peers_told log n c) (lists_put n c e)
unfolding peers_told
peers_told-routed log e n c m is = peers_more n c log e ∙ listed_by n c (told log) log e m (peers_in (told log) n c) is

-- an entry that puts none there
pub peers_told-kept : (log : List Entry) (e : Entry) (n c : ℕ) → lists_put n c e ≡ [] → peers_told (log ++ e ∷ []) n c ≡ peers_told log n c
unfolding peers_told
peers_told-kept log e n c none = peers_more n c log e ∙ unlisted_by n c (told log) log e (peers_in (told log) n c) none

pub peers_told-none : (n c : ℕ) → peers_told [] n c ≡ []
unfolding peers_told told state_from
peers_told-none n c = refl
