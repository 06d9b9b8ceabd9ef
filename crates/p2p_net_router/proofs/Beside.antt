-- A router stands for the log with one more entry that is none of its node's steps and registrations, and neither starts nor stops it.
use Rattle.std.proofs.Common.{◌≡◌, ℕ, suc, ◌+◌, true, false, cond, List, [], ◌∷◌, ◌++◌, length, refl, ap, sym, subst, ◌∙◌, arith, append-nil}
use Rattle.std.specs.Prelude.{filter, flat_map, map}
use Rattle.std.specs.BTreeMap.{BTreeMap}
use Rattle.std.proofs.lemmas.List.Elements.{filter-append}
use Rattle.p2p_base.specs.declared.key.Key.{Key}
use Rattle.p2p_router.specs.Routes.{Routes}
use Rattle.p2p_router.specs.Messenger.{Desk, is_bound}
use Rattle.p2p_log.specs.declared.config.Config.{Config}
use Rattle.p2p_log.specs.declared.entry.Entry.{Entry}
use Rattle.p2p_log.specs.declared.item.Item.{Item}
use Rattle.p2p_log.specs.declared.item.Envelope.{Envelope}
use Rattle.p2p_log.specs.declared.item.Item.TheVariants as item
use Rattle.p2p_log.specs.declared.queue.Queue.{Queue}
use Rattle.p2p_log.specs.declared.queue.Queue.TheVariants as queue
use Rattle.p2p_log.specs.QueueCode.{same_queue}
use Rattle.p2p_log.specs.Lines.{name_of, ended_item, stays, placed, live, stands_in}
use Rattle.p2p_log_rules.specs.Connections.{is_ended}
use Rattle.p2p_log_rules.specs.Facts.{turns, registers_at, channels, sum_capacities}
use Rattle.p2p_log_rules.specs.Effect.{mailbox_size_at, router_capacity}
use Rattle.p2p_log_rules.proofs.Channels.{channels-kept, is_up-kept}
use Rattle.p2p_log.proofs.Lines.{live-append, filter_stays-nil}
use Rattle.p2p_log.specs.Apart.{AreApart}
use Rattle.p2p_log.proofs.Names.{filter_stays-first}
use Rattle.p2p_net_queues.specs.declared.board.Board.{Board}
use Rattle.p2p_net_router.specs.Names.{is_routers, label, bare_item}
use Rattle.p2p_net_router.specs.Items.{channel_of}
use Rattle.p2p_net_router.specs.Ends.{AreEnded}
use Rattle.p2p_net_router.specs.Holds.{Holds, routes_in}
use Rattle.p2p_net_router.specs.Stands.{RoutesNothing, StandsOver, StandsFor, HasPlaces, IsBeside, AreAway, IsReadied}
use Rattle.p2p_net_router.specs.declared.router.Router.{Router}
use Rattle.p2p_net_router.specs.declared.name.Name.{Name}
use Rattle.p2p_net_router.proofs.Endings.{ended_beside}
use Rattle.p2p_net_router.proofs.Indexing.{same_index}

-- the router with another mailbox, other relays, peers and names
abbrev pub moved_to : Router → Desk Key → Routes Key → BTreeMap ℕ Key → Board Name → Router
moved_to r desk actor peers names = record r { messenger = desk; actor = actor; peers = peers; names = names }

-- the router holds other items that are the same in its queues
pub holds_same :
    (size : ℕ) (r : Router) (items more : List Envelope) → Holds size r items
    → ((q : Queue) → is_routers r.number q ≡ true → filter (stands_in q) more ≡ filter (stands_in q) items) → Holds size r more
holds_same size r items more h same = record {
  sound = h.sound;
  names = λ q own. h.names q own ∙ ap (map label) (sym (same q own));
  each = λ q own. h.each q own ∙ ap (map bare_item) (sym (same q own));
}

-- the router moved what the entry says, which is none of its steps and registrations and neither starts nor stops it, and has these items
pub moved_over :
    (configs : List Config) (log : List Entry) (e : Entry) (r : Router) (desk : Desk Key) (actor : Routes Key) (peers : BTreeMap ℕ Key) (names : Board Name) (items more : List Envelope)
    → StandsOver configs log r items → RoutesNothing log e r.number → registers_at configs r.number e.event.act ≡ [] → turns r.number e.event.act ≡ false
    → routes_in actor.links ≡ routes_in r.actor.links → actor.subscriptions ≡ r.actor.subscriptions → actor.failed ≡ r.actor.failed → actor.peers ≡ r.actor.peers
    → is_bound desk.binding ≡ is_bound r.messenger.binding → ((k : ℕ) → HasPlaces k r.messenger.binding → HasPlaces k desk.binding)
    → AreEnded (is_ended (log ++ e ∷ []) r.number) peers actor.links
    → Holds (mailbox_size_at configs r.number) (moved_to r desk actor peers names) more
    → StandsOver configs (log ++ e ∷ []) (moved_to r desk actor peers names) more
moved_over configs log e r desk actor peers names items more s no_step no_channel no_turn links subs works owners bound places ended h =
    let n = r.number in
    let same = channels-kept configs log e n no_channel in
    let up = is_up-kept log e n no_turn in
    record {
      holds = h;
      routes_are = links ∙ (s.routes_are ∙ sym no_step.routes_stay);
      told = ap (map (channel_of r.channels.items)) subs
          ∙ (s.told ∙ sym no_step.subscribers_stay);
      registered = s.registered ∙ ap (map (λ (c : ℕ × ℕ). c.0)) (sym same);
      bound = bound ∙ (s.bound ∙ sym up);
      places = subst (λ k. HasPlaces k desk.binding) (ap (λ l. mailbox_size_at configs n + sum_capacities l) (sym same))
          (places (router_capacity configs log n) s.places);
      ended = ended;
      works = works ∙ s.works;
      indexed = same_index r.actor actor links owners s.indexed;
    }

pub stands_moved :
    (configs : List Config) (log : List Entry) (e : Entry) (r : Router) (desk : Desk Key) (actor : Routes Key) (peers : BTreeMap ℕ Key) (names : Board Name) (items : List Envelope)
    → StandsOver configs log r items → IsBeside configs log e r.number
    → routes_in actor.links ≡ routes_in r.actor.links → actor.subscriptions ≡ r.actor.subscriptions → actor.failed ≡ r.actor.failed → actor.peers ≡ r.actor.peers
    → is_bound desk.binding ≡ is_bound r.messenger.binding → ((k : ℕ) → HasPlaces k r.messenger.binding → HasPlaces k desk.binding)
    → AreEnded (is_ended log r.number) peers actor.links
    → Holds (mailbox_size_at configs r.number) (moved_to r desk actor peers names) (live (log ++ e ∷ []))
    → StandsFor configs (log ++ e ∷ []) (moved_to r desk actor peers names)
stands_moved configs log e r desk actor peers names items s b links subs works owners bound places ended h =
    moved_over configs log e r desk actor peers names items (live (log ++ e ∷ [])) s b.no_step b.no_channel b.no_turn links subs works owners bound places
    (ended_beside log e r.number peers actor.links b.no_end ended) h

-- what stands in the router's queues is what stood there
abbrev pub LinesStay : List Entry → Entry → ℕ → Type 0
LinesStay log e n = (q : Queue) → is_routers n q ≡ true → filter (stands_in q) (live (log ++ e ∷ [])) ≡ filter (stands_in q) (live log)

-- the router did nothing
pub stands_beside :
    (configs : List Config) (log : List Entry) (e : Entry) (r : Router)
    → StandsFor configs log r → IsBeside configs log e r.number → LinesStay log e r.number → StandsFor configs (log ++ e ∷ []) r
stands_beside configs log e r s b lines =
    stands_moved configs log e r r.messenger r.actor r.peers r.names (live log) s b refl refl refl refl refl (λ k h. h) s.ended
    (holds_same (mailbox_size_at configs r.number) r (live log) (live (log ++ e ∷ [])) s.holds lines)

-- ---- lines that an entry leaves alone

pub filter-placed_away : (q : Queue) (n p : ℕ) (puts : List (Queue × Item)) → AreAway q puts → filter (stands_in q) (placed n p puts) ≡ []
filter-placed_away q n p [] h = refl
filter-placed_away q n p (x ∷ xs) h =
    ap (λ b. cond b (record { entry = n; place = p; queue = x.0; item = x.1 } ∷ filter (stands_in q) (placed n (p + 1) xs)) (filter (stands_in q) (placed n (p + 1) xs))) h.0
    ∙ filter-placed_away q n (p + 1) xs h.1

pub filter-away : (q : Queue) (items : List Envelope) (n p : ℕ) (puts : List (Queue × Item)) → AreAway q puts → filter (stands_in q) (items ++ placed n p puts) ≡ filter (stands_in q) items
filter-away q items n p puts h =
    filter-append (stands_in q) items (placed n p puts) ∙ (ap (λ l. filter (stands_in q) items ++ l) (filter-placed_away q n p puts h) ∙ append-nil (filter (stands_in q) items))

-- the first of another queue goes
pub filter-first_away :
    (q p : Queue) (items : List Envelope) (x : Envelope) (rest : List Envelope) → AreApart items → filter (stands_in p) items ≡ x ∷ rest → same_queue p q ≡ false
    → filter (stands_in q) (filter (stays (name_of x ∷ [])) items) ≡ filter (stands_in q) items
filter-first_away q p items x rest apart first away =
    filter_stays-first items p q x rest apart first ∙ ap (λ b. cond b rest (filter (stands_in q) items)) away

-- ---- a connection that is ready

placed-both : (n p : ℕ) (xs ys : List (Queue × Item)) → placed n p (xs ++ ys) ≡ placed n p xs ++ placed n (p + length xs) ys
placed-both n p [] ys = ap (λ k. placed n k ys) (let e : p ≡ p + 0 = omega arith in e)
placed-both n p (x ∷ xs) ys =
    ap (λ l. record { entry = n; place = p; queue = x.0; item = x.1 } ∷ l)
    (placed-both n (p + 1) xs ys ∙ ap (λ k. placed n (p + 1) xs ++ placed n k ys) (let e : (p + 1) + length xs ≡ p + suc (length xs) = omega arith in e))

-- of a router's queues, one put among others that are not for them enters one
pub line_readied :
    (q : Queue) (items : List Envelope) (n : ℕ) (before after : List (Queue × Item)) (x : Queue × Item) (place : ℕ) → length before ≡ place → AreAway q before → AreAway q after
    → filter (stands_in q) (items ++ placed n 0 (before ++ x ∷ after)) ≡ filter (stands_in q) (items ++ record { entry = n; place = place; queue = x.0; item = x.1 } ∷ [])
line_readied q items n before after x place at b a =
    let first = placed n 0 before in
    let own : Envelope = record { entry = n; place = 0 + length before; queue = x.0; item = x.1 } in
    let rest = placed n ((0 + length before) + 1) after in
    ap (λ l. filter (stands_in q) (items ++ l)) (placed-both n 0 before (x ∷ after))
    ∙ (filter-append (stands_in q) items (first ++ own ∷ rest)
    ∙ (ap (λ l. filter (stands_in q) items ++ l)
    (filter-append (stands_in q) first (own ∷ rest)
    ∙ (ap (λ l. l ++ filter (stands_in q) (own ∷ rest)) (filter-placed_away q n 0 before b)
    ∙ (filter-append (stands_in q) (own ∷ []) rest
    ∙ (ap (λ l. filter (stands_in q) (own ∷ []) ++ l) (filter-placed_away q n ((0 + length before) + 1) after a)
    ∙ append-nil (filter (stands_in q) (own ∷ []))))))
    ∙ (sym (filter-append (stands_in q) items (own ∷ []))
    ∙ ap (λ k. filter (stands_in q) (items ++ record { entry = n; place = k; queue = x.0; item = x.1 } ∷ [])) (let e : 0 + length before ≡ place = omega (arith, at) in e))))

pub readied_stands :
    (configs : List Config) (log : List Entry) (e : Entry) (r : Router) (desk : Desk Key) (peers : BTreeMap ℕ Key) (names : Board Name) (place conn : ℕ) (key : Key)
    → StandsFor configs log r → IsBeside configs log e r.number → IsReadied e r.number place conn key
    → is_bound desk.binding ≡ is_bound r.messenger.binding → ((k : ℕ) → HasPlaces k r.messenger.binding → HasPlaces k desk.binding)
    → AreEnded (is_ended log r.number) peers r.actor.links
    → Holds (mailbox_size_at configs r.number) (moved_to r desk r.actor peers names)
    (live log ++ record { entry = length log; place = place; queue = queue.Router r.number; item = item.Ready conn key } ∷ [])
    → StandsFor configs (log ++ e ∷ []) (moved_to r desk r.actor peers names)
readied_stands configs log e r desk peers names place conn key s b g bound places ended h =
    let x : Envelope = record { entry = length log; place = place; queue = queue.Router r.number; item = item.Ready conn key } in
    let whole : live (log ++ e ∷ []) ≡ live log ++ placed (length log) 0 (g.before ++ (queue.Router r.number, item.Ready conn key) ∷ g.after) =
    live-append log e
    ∙ (ap (λ t. filter (stays (t ++ flat_map ended_item e.ends)) (live log) ++ placed (length log) 0 e.puts) g.takes
    ∙ (ap (λ y. filter (stays (flat_map ended_item y)) (live log) ++ placed (length log) 0 e.puts) g.ends
    ∙ (ap (λ l. l ++ placed (length log) 0 e.puts) (filter_stays-nil (live log)) ∙ ap (λ p. live log ++ placed (length log) 0 p) g.puts)))
    in
    let lines : (q : Queue) → is_routers r.number q ≡ true → filter (stands_in q) (live (log ++ e ∷ [])) ≡ filter (stands_in q) (live log ++ x ∷ []) =
    λ q own.
    ap (filter (stands_in q)) whole
    ∙ line_readied q (live log) (length log) g.before g.after (queue.Router r.number, item.Ready conn key) place g.long (g.away q own).0 (g.away q own).1
    in
    stands_moved configs log e r desk r.actor peers names (live log) s b refl refl refl refl bound places ended
    (holds_same (mailbox_size_at configs r.number) (moved_to r desk r.actor peers names) (live log ++ x ∷ []) (live (log ++ e ∷ [])) h lines)
