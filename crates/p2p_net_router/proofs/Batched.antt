-- A router of which a batch of frames was taken stands for the log with the entry that took it.
use Rattle.std.proofs.Common.{◌≡◌, ℕ, true, List, [], ◌∷◌, ◌++◌, ap, sym, subst, ◌∙◌}
use Rattle.std.specs.Prelude.{filter, flat_map, map}
use Rattle.std.proofs.lemmas.Simd.{map-map}
use Rattle.p2p_log.specs.declared.config.Config.{Config}
use Rattle.p2p_log.specs.declared.entry.Entry.{Entry}
use Rattle.p2p_log.specs.declared.queue.Queue.{Queue}
use Rattle.p2p_log.specs.declared.item.Item.{Item}
use Rattle.p2p_log.specs.declared.item.Envelope.{Envelope}
use Rattle.p2p_log.specs.Lines.{name_of, ended_item, goes, stays, live, stands_in, named}
use Rattle.p2p_log_rules.specs.Connections.{is_ended}
use Rattle.p2p_log_rules.specs.Effect.{mailbox_size_at, router_capacity}
use Rattle.p2p_log.specs.Apart.{AreApart}
use Rattle.p2p_log.proofs.Names.{AreApart-live_from}
use Rattle.p2p_router.specs.Messenger.{is_bound}
use Rattle.p2p_net_router.specs.Names.{is_routers}
use Rattle.p2p_net_router.specs.Batches.{batch_of, AreKept}
use Rattle.p2p_net_router.specs.Holds.{Holds}
use Rattle.p2p_net_router.specs.Items.{channel_of}
use Rattle.p2p_net_router.specs.Stands.{StandsOver, StandsFor, HasPlaces, IsBeside, AreAway}
use Rattle.p2p_net_router.specs.declared.router.Router.{Router}
use Rattle.p2p_net_router.proofs.Beside.{moved_to, holds_same, stands_moved}
use Rattle.p2p_net_router.proofs.Aside.{line_after, takes_alone}
use Rattle.p2p_net_router.proofs.Indexing.{same_index}

-- a kept router is the old one with other parts
moved_to-kept : (old new : Router) → AreKept old new → moved_to old new.messenger new.actor new.peers new.names ≡ new
moved_to-kept old new kept =
    sym
    (ap (λ k. record new { number = k }) kept.number
    ∙ (ap (λ c. record new { number = old.number; channels = c }) kept.channels
    ∙ ap (λ s. record new { number = old.number; channels = old.channels; subscriptions = s }) kept.numbers))

names_taken : (batch : List Envelope) (taken : List ((ℕ × ℕ) × Item)) → taken ≡ map named batch → map (λ (t : (ℕ × ℕ) × Item). t.0) taken ≡ map name_of batch
names_taken batch taken is = ap (map (λ (t : (ℕ × ℕ) × Item). t.0)) is ∙ map-map (λ (t : (ℕ × ℕ) × Item). t.0) named batch

-- the router stands over other items, once relays and names changed
pub over_kept :
    (configs : List Config) (log : List Entry) (old new : Router) (items more : List Envelope)
    → StandsOver configs log old items → AreKept old new → Holds (mailbox_size_at configs old.number) new more → StandsOver configs log new more
over_kept configs log old new items more s kept h =
    let same = moved_to-kept old new kept in
    let n = old.number in
    subst (λ r. StandsOver configs log r more) same
    (record {
      holds = subst (λ r. Holds (mailbox_size_at configs n) r more) (sym same) h;
      routes_are = kept.routes ∙ s.routes_are;
      told = ap (map (channel_of old.channels.items)) kept.subscriptions ∙ s.told;
      registered = s.registered;
      bound = ap (λ m. is_bound m.binding) kept.messenger ∙ s.bound;
      places = subst (λ m. HasPlaces (router_capacity configs log n) m.binding) (sym kept.messenger) s.places;
      ended = kept.ended (is_ended log n) s.ended;
      works = kept.works ∙ s.works;
      indexed = same_index old.actor new.actor kept.routes kept.owners s.indexed;
    })

batched :
    (configs : List Config) (log : List Entry) (e : Entry) (old new : Router) (batch : List Envelope) (taken : List ((ℕ × ℕ) × Item))
    → StandsFor configs log old → IsBeside configs log e old.number → AreKept old new → taken ≡ map named batch
    → Holds (mailbox_size_at configs old.number) new (filter (stays (map name_of batch)) (live log))
    → e.takes ≡ map (λ (t : (ℕ × ℕ) × Item). t.0) taken → e.ends ≡ [] → ((q : Queue) → is_routers old.number q ≡ true → AreAway q e.puts)
    → StandsFor configs (log ++ e ∷ []) new
batched configs log e old new batch taken s b kept is holds takes ends away =
    let n = old.number in
    let size = mailbox_size_at configs n in
    let moved = moved_to old new.messenger new.actor new.peers new.names in
    let same = moved_to-kept old new kept in
    let h : Holds size moved (filter (stays (map name_of batch)) (live log)) = subst (λ r. Holds size r (filter (stays (map name_of batch)) (live log))) (sym same) holds in
    let gone : goes e ≡ map name_of batch = takes_alone e (map name_of batch) (takes ∙ names_taken batch taken is) (ap (flat_map ended_item) ends) in
    let lines : (q : Queue) → is_routers n q ≡ true → filter (stands_in q) (live (log ++ e ∷ [])) ≡ filter (stands_in q) (filter (stays (map name_of batch)) (live log)) =
    λ q own. line_after log e (map name_of batch) q gone (away q own)
    in
    subst (StandsFor configs (log ++ e ∷ [])) same
    (stands_moved configs log e old new.messenger new.actor new.peers new.names (live log) s b kept.routes kept.subscriptions kept.works kept.owners
    (ap (λ m. is_bound m.binding) kept.messenger) (λ k places. subst (λ m. HasPlaces k m.binding) (sym kept.messenger) places)
    (kept.ended (is_ended log n) s.ended)
    (holds_same size moved (filter (stays (map name_of batch)) (live log)) (live (log ++ e ∷ [])) h lines))

-- the clauses of a batch say that the router stands for the log
pub stands_batched :
    (configs : List Config) (log : List Entry) (e : Entry) (old new : Router) (conn size : ℕ) (taken : List ((ℕ × ℕ) × Item))
    → AreKept old new
    → ((places : ℕ) (items : List Envelope) → Holds places old items → AreApart items → taken ≡ map named (batch_of old.number conn size items))
    → ((places : ℕ) (items : List Envelope) → Holds places old items → AreApart items → Holds places new (filter (stays (map name_of (batch_of old.number conn size items))) items))
    → StandsFor configs log old → IsBeside configs log e old.number
    → e.takes ≡ map (λ (t : (ℕ × ℕ) × Item). t.0) taken → e.ends ≡ [] → ((q : Queue) → is_routers old.number q ≡ true → AreAway q e.puts)
    → StandsFor configs (log ++ e ∷ []) new
stands_batched configs log e old new conn size taken kept is holds s b takes ends away =
    let places = mailbox_size_at configs old.number in
    let apart = AreApart-live_from 0 log in
    batched configs log e old new (batch_of old.number conn size (live log)) taken s b kept
    (is places (live log) s.holds apart) (holds places (live log) s.holds apart) takes ends away
