-- What a step of a node's router may tell: where a test holds of none of that, it holds of nothing that the step tells.
use Rattle.std.proofs.Common.{◌≡◌, ℕ, Bool, false, List, [], ◌∷◌, refl, ap}
use Rattle.std.specs.Prelude.{◌||◌, flat_map}
use Rattle.std.specs.List.{list_any}
use Rattle.p2p_base.specs.declared.key.Key.{Key}
use Rattle.p2p_log.specs.declared.queue.Queue.{Queue}
use Rattle.p2p_log.specs.declared.queue.Queue.TheVariants as queue
use Rattle.p2p_log.specs.declared.item.Item.{Item}
use Rattle.p2p_log.specs.declared.item.Item.TheVariants as item
use Rattle.p2p_log_rules.specs.Routed.{routed_tells, listed_tells, router_tells}
use Rattle.p2p_log_rules.specs.Tellings.{Telling}
use Rattle.p2p_log_rules.specs.Tellings as telling
use Rattle.p2p_log_rules.proofs.Tellings.{append_quiet}

pub record NoneRouted (test : Telling → Bool) (m : ℕ) : Type 0 where
  pub wants : (c : ℕ) → test (telling.lists_wanted m c) ≡ false
  pub ready : (conn : ℕ) (key : Key) → test (telling.ready_routed m conn key) ≡ false
  pub release : (key : Key) → test (telling.release_routed m key) ≡ false
  pub list : (n c : ℕ) (keys : List Key) → test (telling.peers_listed n c keys) ≡ false

module _ (test : Telling → Bool) (m : ℕ) (none : NoneRouted test m) where
  one : (t : Telling) → test t ≡ false → list_any test (t ∷ []) ≡ false
  one t h = ap (λ b. b || false) h

  item_quiet : (i : Item) → list_any test (routed_tells m i) ≡ false
  item_quiet (item.Subscribe c) = one (telling.lists_wanted m c) (none.wants c)
  item_quiet (item.Ready conn key) = one (telling.ready_routed m conn key) (none.ready conn key)
  item_quiet (item.Release key) = one (telling.release_routed m key) (none.release key)
  item_quiet _ = refl

  items_quiet : (items : List Item) → list_any test (flat_map (routed_tells m) items) ≡ false
  items_quiet [] = refl
  items_quiet (i ∷ items) = append_quiet test (routed_tells m i) (flat_map (routed_tells m) items) (item_quiet i) (items_quiet items)

  put_quiet : (x : Queue × Item) → list_any test (listed_tells x) ≡ false
  put_quiet (queue.Peers n c, item.Peers keys) = one (telling.peers_listed n c keys) (none.list n c keys)
  put_quiet _ = refl

  puts_quiet : (puts : List (Queue × Item)) → list_any test (flat_map listed_tells puts) ≡ false
  puts_quiet [] = refl
  puts_quiet (x ∷ puts) = append_quiet test (listed_tells x) (flat_map listed_tells puts) (put_quiet x) (puts_quiet puts)

  pub router_quiet : (items : List Item) (puts : List (Queue × Item)) → list_any test (router_tells m items puts) ≡ false
  router_quiet items puts = append_quiet test (flat_map (routed_tells m) items) (flat_map listed_tells puts) (items_quiet items) (puts_quiet puts)
