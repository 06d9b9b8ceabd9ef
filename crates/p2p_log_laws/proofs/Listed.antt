-- The newest list of peers that a channel was told of is current.
use Rattle.std.proofs.Common.{◌≡◌, ℕ, Bool, true, false, cond, List, [], ◌∷◌, ◌++◌, map, refl, ap, sym, subst, ◌∙◌, arith, append_assoc, append-nil, eqb-true, Option, Some, None}
use Rattle.std.specs.Prelude.{◌==◌, ◌||◌, flat_map, filter}
use Rattle.std.specs.List.{AllByRecursion as Each, list_any}
use Rattle.std.proofs.lemmas.Bool.Decides.{nat_tests}
use Rattle.p2p_base.specs.declared.key.Key.{Key}
use Rattle.p2p_log.specs.declared.config.Config.{Config}
use Rattle.p2p_log.specs.declared.queue.Queue.{Queue}
use Rattle.p2p_log.specs.declared.queue.Queue.TheVariants as queue
use Rattle.p2p_log.specs.declared.item.Item.{Item}
use Rattle.p2p_log.specs.declared.item.Item.TheVariants as item
use Rattle.p2p_log.specs.declared.item.Envelope.{Envelope}
use Rattle.p2p_log.specs.declared.entry.Entry.{Entry}
use Rattle.p2p_log.specs.declared.entry.Reply.TheVariants as reply
use Rattle.p2p_log.specs.declared.event.Act.{Act}
use Rattle.p2p_log.specs.declared.event.Act.TheVariants as act
use Rattle.p2p_log.specs.declared.event.Event.{Event}
use Rattle.p2p_log.specs.Lines.{name_of, stays, live, line}
use Rattle.p2p_log.specs.QueueCode.{same_queue}
use Rattle.p2p_log_rules.specs.declared.row.Opening.{Opening}
use Rattle.p2p_log_rules.specs.declared.row.Row.{Row}
use Rattle.p2p_log_rules.specs.Connections.{is_ended}
use Rattle.p2p_log_rules.specs.Effect.{effect, entry_of, row, router_row, route_oldest, answer_puts, route_row, only, peers_put, spread, mailbox_size_at}
use Rattle.p2p_log_rules.specs.Facts.{is_up, item_named, taken, state_from, subscribers, with_route, routes, keys_in, peers_told, wants_lists}
use Rattle.p2p_log_rules.specs.Lawful.{IsLawful}
use Rattle.p2p_log_rules.specs.Links.{openings_of}
use Rattle.p2p_log_rules.specs.Told.{told}
use Rattle.p2p_log_rules.proofs.Facts.{list_any-last}
use Rattle.p2p_log_rules.proofs.Recorded.{item_named-first}
use Rattle.p2p_log_rules.specs.Routed.{routed_tells}
use Rattle.p2p_log_rules.proofs.Families.{kinds_of, are_apart}
use Rattle.p2p_log_rules.proofs.Routing.{route_kinds, TellsNoRouter, router_apart, router_elsewhere, router_untaken, subscribers-kept, routes-kept, subscribers-routed, routes-routed, wants_lists-item, list_put, lists_put, newest, peers_told-routed, peers_told-kept, peers_told-none}
use Rattle.p2p_log_rules.proofs.Touches.{in_ends, away}
use Rattle.p2p_log_laws.proofs.Reaching.{writes}
use Rattle.p2p_log_laws.specs.Listed.{ListsAreCurrent}
use Rattle.p2p_log_laws.proofs.Prefixes.{at_end}
use Rattle.p2p_log_laws.proofs.Shapes.{row_shape}
use Rattle.p2p_log_laws.proofs.Spreading.{spread_each}

row-router : (configs : List Config) (log : List Entry) (at seed n : ℕ) → row configs log at seed (act.Router n) ≡ router_row configs log n
unfolding row
row-router configs log at seed n = refl

module _ (n c : ℕ) where
  abbrev hears : List ℕ → Bool
  hears cs = list_any (λ d. d == c) cs

  -- what one channel is told, by what its router has
  abbrev IsCurrent : List Entry → Type 0
  IsCurrent log = peers_told log n c ≡ cond (hears (subscribers log n)) (keys_in (routes log n)) []

  -- ---- entries in which no list is put there

  lists_none : (p : Queue → Bool) (puts : List (Queue × Item)) → p (queue.Peers n c) ≡ false → Each (λ x. p x.0 ≡ true) puts → flat_map (list_put n c) puts ≡ []
  lists_none p [] none near = refl
  lists_none p (x ∷ puts) none near = ap (λ l. l ++ flat_map (list_put n c) puts) (by x.1) ∙ lists_none p puts none near.1
    where
      elsewhere : same_queue (queue.Peers n c) x.0 ≡ false
      elsewhere = away p (queue.Peers n c) x.0 none near.0

      by : (i : Item) → list_put n c (x.0, i) ≡ []
      by (item.Peers keys) = ap (λ b. cond b (keys ∷ []) []) elsewhere
      by _ = refl

  -- an act other than a step of a router
  writes_none : (configs : List Config) (log : List Entry) (a : Act) → are_apart (kinds_of a) route_kinds ≡ true → writes configs log a (queue.Peers n c) ≡ false
  writes_none configs log (act.Router m) h = cc
  writes_none configs log (act.Finish link ok) h = by (openings_of log link)
    where
      by : (o : Option Opening) → in_ends o (queue.Peers n c) ≡ false
      by None = refl
      by (Some o) = refl
  writes_none configs log _ h = refl

  -- what the router has, where nothing is told of it
  kept : (log : List Entry) (e : Entry) → lists_put n c e ≡ [] → TellsNoRouter log e n → IsCurrent log → IsCurrent (log ++ e ∷ [])
  kept log e none quiet h =
      peers_told-kept log e n c none
      ∙ (h
      ∙ (ap (λ cs. cond (hears cs) (keys_in (routes log n)) []) (sym (subscribers-kept log e n quiet))
      ∙ ap (λ rs. cond (hears (subscribers (log ++ e ∷ []) n)) (keys_in rs) []) (sym (routes-kept log e n quiet))))

  -- ---- a router's step that takes an item

  -- the newest list, once the same was put for each of these
  newest-puts : (keys : List Key) (cs : List ℕ) (old : List Key) → newest old (flat_map (list_put n c) (map (peers_put n keys) cs)) ≡ cond (hears cs) keys old
  newest-puts keys [] old = refl
  newest-puts keys (d ∷ cs) old = by (λ l. newest-puts keys cs l) (d == c) (same_queue (queue.Peers n c) (queue.Peers n d)) (same d)
    where
      same : (d : ℕ) → same_queue (queue.Peers n c) (queue.Peers n d) ≡ (d == c)
      same d = grind (arith, nat_tests)

      either : (b : Bool) → cond b keys keys ≡ keys
      either true = refl
      either false = refl

      by : ((l : List Key) → newest l (flat_map (list_put n c) (map (peers_put n keys) cs)) ≡ cond (hears cs) keys l)
          → (b t : Bool) → t ≡ b → newest old (cond t (keys ∷ []) [] ++ flat_map (list_put n c) (map (peers_put n keys) cs)) ≡ cond (b || hears cs) keys old
      by more true t is = ap (λ u. newest old (cond u (keys ∷ []) [] ++ flat_map (list_put n c) (map (peers_put n keys) cs))) is ∙ (more keys ∙ either (hears cs))
      by more false t is = ap (λ u. newest old (cond u (keys ∷ []) [] ++ flat_map (list_put n c) (map (peers_put n keys) cs))) is ∙ more old

  module _ (configs : List Config) (log : List Entry) (ev : Event) (is : ev.act ≡ act.Router n) (x : Envelope) (rest : List Envelope) (first : line log (queue.Router n) ≡ x ∷ rest) (current : IsCurrent log) where
    abbrev left : List Envelope
    left = filter (stays (name_of x ∷ [])) (live log)

    abbrev after : Item → Entry
    after i = entry_of ev (route_row configs log n (name_of x) i left)

    -- what it took
    took : (r : Row) → r.takes ≡ name_of x ∷ [] → taken log (entry_of ev r) ≡ x.item ∷ []
    unfolding taken
    took r takes = ap (flat_map (item_named log)) takes ∙ ap (λ l. l ++ []) (item_named-first log (queue.Router n) x rest first)

    -- the router's channels and routes then
    abbrev wanted : Item → List ℕ
    wanted i = flat_map (wants_lists n) (routed_tells n i)

    subscribers_then : (i : Item) → x.item ≡ i → (r : Row) → r.takes ≡ name_of x ∷ [] → subscribers (log ++ entry_of ev r ∷ []) n ≡ subscribers log n ++ wanted i
    subscribers_then i item_is r takes = subscribers-routed log (entry_of ev r) n is x.item (took r takes) ∙ ap (λ j. subscribers log n ++ wanted j) item_is

    routes_then : (i : Item) → x.item ≡ i → (r : Row) → r.takes ≡ name_of x ∷ [] → routes (log ++ entry_of ev r ∷ []) n ≡ with_route (routes log n) i
    routes_then i item_is r takes = routes-routed log (entry_of ev r) n is x.item (took r takes) ∙ ap (with_route (routes log n)) item_is

    -- neither changes, and no list is put
    unchanged : (i : Item) → x.item ≡ i → (r : Row) → r.takes ≡ name_of x ∷ [] → flat_map (list_put n c) r.puts ≡ [] → wanted i ≡ [] → with_route (routes log n) i ≡ routes log n → IsCurrent (log ++ entry_of ev r ∷ [])
    unchanged i item_is r takes none no_channel no_route =
        peers_told-kept log (entry_of ev r) n c none
        ∙ (current
        ∙ (ap (λ cs. cond (hears cs) (keys_in (routes log n)) []) (sym (subscribers_then i item_is r takes ∙ (ap (λ l. subscribers log n ++ l) no_channel ∙ append-nil (subscribers log n))))
        ∙ ap (λ rs. cond (hears (subscribers (log ++ entry_of ev r ∷ []) n)) (keys_in rs) []) (sym (routes_then i item_is r takes ∙ no_route))))

    subscribed : (d : ℕ) → x.item ≡ item.Subscribe d → IsCurrent (log ++ after (item.Subscribe d) ∷ [])
    subscribed d item_is =
        let keys = keys_in (routes log n) in
        peers_told-routed log (after (item.Subscribe d)) n c n is
        ∙ (newest-puts keys (d ∷ []) (peers_told log n c)
        ∙ (ap (λ l. cond (hears (d ∷ [])) keys l) current
        ∙ (by (hears (subscribers log n)) (d == c) keys
        ∙ (ap (λ b. cond b keys []) (sym (list_any-last (λ k. k == c) (subscribers log n) d))
        ∙ (ap (λ cs. cond (hears cs) keys []) (sym (subscribers_then (item.Subscribe d) item_is (route_row configs log n (name_of x) (item.Subscribe d) left) refl ∙ ap (λ l. subscribers log n ++ l) (wants_lists-item n d)))
        ∙ ap (λ rs. cond (hears (subscribers (log ++ after (item.Subscribe d) ∷ []) n)) (keys_in rs) []) (sym (routes_then (item.Subscribe d) item_is (route_row configs log n (name_of x) (item.Subscribe d) left) refl)))))))
      where
        by : (heard one : Bool) (keys : List Key) → cond (one || false) keys (cond heard keys []) ≡ cond (heard || one) keys []
        by true true keys = refl
        by true false keys = refl
        by false true keys = refl
        by false false keys = refl

    -- the routes change, and each subscriber is told of them
    rerouted : (i : Item) → x.item ≡ i → (after i).takes ≡ name_of x ∷ [] → wanted i ≡ []
        → flat_map (list_put n c) (after i).puts ≡ flat_map (list_put n c) (map (peers_put n (keys_in (with_route (routes log n) i))) (subscribers log n))
        → IsCurrent (log ++ after i ∷ [])
    rerouted i item_is takes no_channel told =
        let keys = keys_in (with_route (routes log n) i) in
        let cs = subscribers log n in
        let r = route_row configs log n (name_of x) i left in
        peers_told-routed log (after i) n c n is
        ∙ (ap (newest (peers_told log n c)) told
        ∙ (newest-puts keys cs (peers_told log n c)
        ∙ (by (hears cs) keys (keys_in (routes log n)) (peers_told log n c) current
        ∙ (ap (λ l. cond (hears l) keys []) (sym (subscribers_then i item_is r takes ∙ (ap (λ l. cs ++ l) no_channel ∙ append-nil cs)))
        ∙ ap (λ rs. cond (hears (subscribers (log ++ after i ∷ []) n)) (keys_in rs) []) (sym (routes_then i item_is r takes))))))
      where
        by : (heard : Bool) (keys old told : List Key) → told ≡ cond heard old [] → cond heard keys told ≡ cond heard keys []
        by true keys old told h = refl
        by false keys old told h = h

    contents : (d : ℕ) (frame : List ℕ) (priority : Bool) (send : ℕ) (to : List Key) → flat_map (list_put n c) (spread (mailbox_size_at configs n) left n priority (is_ended log n) (routes log n) send 0 frame to (record { puts = []; ends = [] })).puts ≡ []
    contents d frame priority send to =
        none (spread (mailbox_size_at configs n) left n priority (is_ended log n) (routes log n) send 0 frame to (record { puts = []; ends = [] })).puts
        (spread_each (λ d. Unit {0}) (λ y. list_put n c y ≡ []) (mailbox_size_at configs n) left n priority (is_ended log n) (routes log n) send frame to (λ p o. tt) (λ p k conn here route. refl)).1
      where
        none : (puts : List (Queue × Item)) → Each (λ y. list_put n c y ≡ []) puts → flat_map (list_put n c) puts ≡ []
        none [] h = refl
        none (y ∷ ys) h = ap (λ l. l ++ flat_map (list_put n c) ys) h.0 ∙ none ys h.1

    stepped : (i : Item) → x.item ≡ i → IsCurrent (log ++ after i ∷ [])
    stepped (item.Subscribe d) item_is = subscribed d item_is
    stepped (item.Ready conn key) item_is = rerouted (item.Ready conn key) item_is refl refl (unlisted (is_ended log n conn) (map (peers_put n (keys_in (with_route (routes log n) (item.Ready conn key)))) (subscribers log n)))
      where
        unlisted : (b : Bool) (puts : List (Queue × Item)) → flat_map (list_put n c) (answer_puts b n conn ++ puts) ≡ flat_map (list_put n c) puts
        unlisted true puts = refl
        unlisted false puts = refl
    stepped (item.Release key) item_is = rerouted (item.Release key) item_is refl refl refl
    stepped (item.Content d frame priority send to) item_is =
        unchanged (item.Content d frame priority send to) item_is (route_row configs log n (name_of x) (item.Content d frame priority send to) left) refl (contents d frame priority send to) refl refl
    stepped i item_is = unchanged i item_is (route_row configs log n (name_of x) i left) refl refl refl refl

  -- ---- each entry

  module _ (configs : List Config) (log : List Entry) (ev : Event) (current : IsCurrent log) where
    oldest : ev.act ≡ act.Router n → (xs : List Envelope) → line log (queue.Router n) ≡ xs → IsCurrent (log ++ entry_of ev (route_oldest configs log n xs) ∷ [])
    unfolding taken
    oldest is [] none = kept log (entry_of ev (only reply.Idle)) refl (router_untaken log (entry_of ev (only reply.Idle)) n refl) current
    oldest is (x ∷ rest) first = stepped configs log ev is x rest first current x.item refl

    router_steps : ev.act ≡ act.Router n → (b : Bool) → is_up log n ≡ b → IsCurrent (log ++ entry_of ev (cond b (route_oldest configs log n (line log (queue.Router n))) (only reply.Gone)) ∷ [])
    unfolding taken
    router_steps is true up = oldest is (line log (queue.Router n)) refl
    router_steps is false up = kept log (entry_of ev (only reply.Gone)) refl (router_untaken log (entry_of ev (only reply.Gone)) n refl) current

    -- an entry that writes no list there, and tells nothing of the router
    aside : writes configs log ev.act (queue.Peers n c) ≡ false → TellsNoRouter log (effect configs log ev) n → IsCurrent (log ++ effect configs log ev ∷ [])
    unfolding effect
    aside none quiet =
        let shape = row_shape configs log ev.at ev.seed ev.act in
        kept log (effect configs log ev) (lists_none (writes configs log ev.act) (row configs log ev.at ev.seed ev.act).puts none shape.reach.puts) quiet current

    by_act : IsCurrent (log ++ effect configs log ev ∷ [])
    unfolding effect
    by_act = by ev.act refl
      where
        of_row : ev.act ≡ act.Router n → IsCurrent (log ++ entry_of ev (row configs log ev.at ev.seed (act.Router n)) ∷ [])
        of_row is = subst (λ (r : Row). IsCurrent (log ++ entry_of ev r ∷ [])) (sym (row-router configs log ev.at ev.seed n)) (router_steps is (is_up log n) refl)

        of_router : ev.act ≡ act.Router n → IsCurrent (log ++ entry_of ev (row configs log ev.at ev.seed ev.act) ∷ [])
        of_router is = subst (λ (a : Act). IsCurrent (log ++ entry_of ev (row configs log ev.at ev.seed a) ∷ [])) (sym is) (of_row is)

        by_node : (m : ℕ) → ev.act ≡ act.Router m → (b : Bool) → (m == n) ≡ b → IsCurrent (log ++ effect configs log ev ∷ [])
        by_node m is true here = of_router (is ∙ ap act.Router (eqb-true m n here))
        by_node m is false there =
            aside (ap (λ a. writes configs log a (queue.Peers n c)) is ∙ grind (arith, nat_tests)) (router_elsewhere log (effect configs log ev) n m is there)

        by : (a : Act) → ev.act ≡ a → IsCurrent (log ++ effect configs log ev ∷ [])
        by (act.Router m) is = by_node m is (m == n) refl
        by a is =
            aside (ap (λ b. writes configs log b (queue.Peers n c)) is ∙ writes_none configs log a refl)
            (router_apart log (effect configs log ev) n (ap (λ b. are_apart (kinds_of b) route_kinds) is))

current_first : (n c : ℕ) → IsCurrent n c []
unfolding subscribers told state_from
current_first n c = peers_told-none n c

pub lists_are_current : (configs : List Config) (script : List Event) (log : List Entry) → IsLawful configs script log → ListsAreCurrent log
lists_are_current configs script log lawful n c =
    at_end configs (IsCurrent n c) (current_first n c) (λ before ev current. by_act n c configs before ev current) script log lawful
