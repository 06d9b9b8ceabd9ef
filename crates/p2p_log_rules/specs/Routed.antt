-- What a step of a node's router tells, by what it took and put.
use Rattle.std.specs.Prelude.{ℕ, ◌==◌, ◌&&◌, cond, List, [], ◌∷◌, ◌++◌, flat_map, Option, Some, None}
use Rattle.p2p_base.specs.declared.key.Key.{Key}
use Rattle.p2p_log.specs.declared.queue.Queue.{Queue}
use Rattle.p2p_log.specs.declared.queue.Queue.TheVariants as queue
use Rattle.p2p_log.specs.declared.item.Item.{Item}
use Rattle.p2p_log.specs.declared.item.Item.TheVariants as item
use Rattle.p2p_log_rules.specs.Tellings.{Telling, last_or}
use Rattle.p2p_log_rules.specs.Tellings as telling

-- that it took an item
abbrev pub routed_tells : ℕ → Item → List Telling
routed_tells n (item.Subscribe c) = telling.lists_wanted n c ∷ []
routed_tells n (item.Ready conn key) = telling.ready_routed n conn key ∷ []
routed_tells n (item.Release key) = telling.release_routed n key ∷ []
routed_tells n _ = []

-- that it put a list of peers
abbrev pub listed_tells : Queue × Item → List Telling
listed_tells (queue.Peers n c, item.Peers keys) = telling.peers_listed n c keys ∷ []
listed_tells _ = []

abbrev pub router_tells : ℕ → List Item → List (Queue × Item) → List Telling
router_tells n items puts = flat_map (routed_tells n) items ++ flat_map listed_tells puts

-- ---- lists of peers, by what was told

abbrev pub lists_peers : ℕ → ℕ → Telling → Option (List Key)
lists_peers n c (telling.peers_listed m d keys) = cond ((m == n) && (d == c)) (Some keys) None
lists_peers n c _ = None

-- the newest list that was put for a channel of a node: empty where there is none
abbrev pub peers_in : List Telling → ℕ → ℕ → List Key
peers_in ts n c = last_or [] (lists_peers n c) ts
