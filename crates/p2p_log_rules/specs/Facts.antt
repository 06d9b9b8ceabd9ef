-- What stands of nodes, channels and routers, by the log.
use Rattle.std.specs.Prelude.{ℕ, ◌+◌, max, Bool, false, ◌==◌, ◌&&◌, not, cond, List, [], ◌∷◌, map, flat_map, Option, Some, None, slice_get}
use Rattle.std.specs.List.{list_any}
use Rattle.std.specs.BTreeMap.{insert_entry, is_at}
use Rattle.std.specs.Map.{lookup, remove_entry}
use Rattle.std.specs.Ordering.{nat_cmp}
use Rattle.p2p_base.specs.declared.key.Key.{Key}
use Rattle.p2p_log.specs.declared.config.Config.{Config}
use Rattle.p2p_log.specs.declared.item.Item.{Item}
use Rattle.p2p_log.specs.declared.item.Item.TheVariants as item
use Rattle.p2p_log.specs.declared.entry.Entry.{Entry}
use Rattle.p2p_log.specs.declared.event.Event.{Event}
use Rattle.p2p_log.specs.declared.event.Rate.{Rate}
pub use Rattle.p2p_log_rules.specs.Asked.{events_of, starts, stops, turns, capacity_for, with_capacity, registers_at, rates_by}
unfoldable pub use Rattle.p2p_log_rules.specs.Asked.{has_started, registered}
pub use Rattle.p2p_log_rules.specs.Taking.{item_put, item_in, item_named, with_named, with_begun, history}
unfoldable pub use Rattle.p2p_log_rules.specs.Taking.{taken, history_from, state_from}
pub use Rattle.p2p_log_rules.specs.Quotas.{rate_told, rate_in}
use Rattle.p2p_log_rules.specs.Quotas.{rates_in}
use Rattle.p2p_log_rules.specs.Routed.{peers_in}
use Rattle.p2p_log_rules.specs.Tellings.{Telling, last_or}
use Rattle.p2p_log_rules.specs.Tellings as telling
pub use Rattle.p2p_log_rules.specs.Told.{stops_node}
use Rattle.p2p_log_rules.specs.Told.{told}

-- ---- nodes

abbrev pub starts_node : ℕ → Telling → Bool
starts_node n (telling.node_started m at) = m == n
starts_node n _ = false

-- whether the node has started
unfoldable pub is_started : List Entry → ℕ → Bool
is_started log n = list_any (starts_node n) (told log)

-- whether it has stopped
unfoldable pub is_stopped : List Entry → ℕ → Bool
is_stopped log n = list_any (stops_node n) (told log)

-- whether it is up: it has started, and has not stopped since
unfoldable pub is_up : List Entry → ℕ → Bool
is_up log n = is_started log n && not (is_stopped log n)

-- the latest of the moments of these
abbrev pub latest_moment : List Event → ℕ
latest_moment [] = 0
latest_moment (v ∷ vs) = max v.at (latest_moment vs)

-- ---- channels

-- the channels that were registered at a node, in order, each with its rate
unfoldable pub rates : List Entry → ℕ → List (ℕ × Rate)
rates log n = rates_in (told log) n

-- and each with its capacity
unfoldable pub channels : List Config → List Entry → ℕ → List (ℕ × ℕ)
channels configs log n = map (with_capacity configs n) (rates log n)

-- the capacity of a channel, where it is registered
abbrev pub capacity_in : List (ℕ × ℕ) → ℕ → Option ℕ
capacity_in channels c = lookup (λ k. c == k) channels

abbrev pub sum_capacities : List (ℕ × ℕ) → ℕ
sum_capacities [] = 0
sum_capacities (c ∷ cs) = c.1 + sum_capacities cs

-- ---- the router

abbrev pub wants_lists : ℕ → Telling → List ℕ
wants_lists n (telling.lists_wanted m c) = cond (m == n) (c ∷ []) []
wants_lists n _ = []

-- the channels that want lists of peers, in the order in which the node's router took it
unfoldable pub subscribers : List Entry → ℕ → List ℕ
subscribers log n = flat_map (wants_lists n) (told log)

-- the connection of each key that has one, once a connection is ready, or a key has none
abbrev pub with_ready : List (ℕ × ℕ) → ℕ → Key → List (ℕ × ℕ)
with_ready routes conn key = insert_entry nat_cmp routes key.0 conn

abbrev pub without_key : List (ℕ × ℕ) → Key → List (ℕ × ℕ)
without_key routes key = remove_entry (is_at (nat_cmp key.0)) routes

-- with one more routed item
abbrev pub with_route : List (ℕ × ℕ) → Item → List (ℕ × ℕ)
with_route routes (item.Ready conn key) = with_ready routes conn key
with_route routes (item.Release key) = without_key routes key
with_route routes _ = routes

-- after this was told
abbrev pub routes_told : ℕ → List (ℕ × ℕ) → List Telling → List (ℕ × ℕ)
routes_told n routes [] = routes
routes_told n routes (telling.ready_routed m conn key ∷ ts) = routes_told n (cond (m == n) (with_ready routes conn key) routes) ts
routes_told n routes (telling.release_routed m key ∷ ts) = routes_told n (cond (m == n) (without_key routes key) routes) ts
routes_told n routes (_ ∷ ts) = routes_told n routes ts

-- the connection of each key's last routed `ready`, while it was not released, in key order
unfoldable pub routes : List Entry → ℕ → List (ℕ × ℕ)
routes log n = routes_told n [] (told log)

-- what is told of the connection to a key
abbrev pub routes_key : ℕ → Key → Telling → Option (Option ℕ)
routes_key n k (telling.ready_routed m conn key) = cond ((m == n) && (key.0 == k.0)) (Some (Some conn)) None
routes_key n k (telling.release_routed m key) = cond ((m == n) && (key.0 == k.0)) (Some None) None
routes_key n k _ = None

-- the connection of the last routed `ready` of a key, while no release of the key was routed since
unfoldable pub routed : List Entry → ℕ → Key → Option ℕ
routed log n k = last_or None (routes_key n k) (told log)

abbrev pub keys_in : List (ℕ × ℕ) → List Key
keys_in routes = map (λ r. record { 0 = r.0 }) routes

-- the connection to a key that the router has
abbrev pub route_to : List (ℕ × ℕ) → Key → Option ℕ
route_to routes key = lookup (λ k. key.0 == k) routes

-- ---- lists of peers

-- the newest list of peers that was put for a channel of a node: empty where there is none
unfoldable pub peers_told : List Entry → ℕ → ℕ → List Key
peers_told log n c = peers_in (told log) n c

-- ---- keys

abbrev pub key_at : List Config → ℕ → Key
key_at configs n = elim (slice_get configs n) [ None ↦ record { 0 = 0 } | Some c ↦ c.public_key ]
