-- What came since the grant of a key whose connection is killed.
use Rattle.std.specs.Prelude.{◌≡◌, ℕ, Bool, true, false, cond, not, ◌&&◌, ◌||◌, List, [], ◌∷◌, ◌++◌, take, Some, slice_get, is_some}
use Rattle.std.specs.BTreeMap.{is_at}
use Rattle.p2p_base.specs.declared.key.Key.{Key}
use Rattle.p2p_tracker_calls.specs.declared.call.Call.{Call}
use Rattle.p2p_tracker_calls.specs.declared.call.Call.TheVariants as call
use Rattle.p2p_tracker_calls.specs.Grants.{grant_by, is_held}
use Rattle.p2p_tracker_calls.specs.Lives.{is_change, given_by, address_of}
use Rattle.p2p_tracker_calls.specs.Rules.{Rules}
use Rattle.p2p_tracker_calls.specs.Sets.{is_above, accepted_sets, is_tracked}
use Rattle.p2p_log.specs.declared.config.Config.{Config}
use Rattle.p2p_log.specs.declared.queue.Queue.TheVariants as queue
use Rattle.p2p_log.specs.declared.item.Item.TheVariants as item
use Rattle.p2p_log.specs.declared.entry.Entry.{Entry}
use Rattle.p2p_log_rules.specs.Spawning.{Spawned, connections_of}
use Rattle.p2p_log_rules.specs.Tracking.{key_cmp, rules_at, calls_of}

module _ (rules : Rules Key) where
  -- the call, after those before it, is a block of the key; or gives it another address than it had; or is a peer set that is
  -- accepted, and gives the key another address than it had, or leaves it in no set that is kept where it was in one
  abbrev pub is_cause : Call Key → List (Call Key) → Key → Bool
  is_cause (call.Block p at) calls q = is_at (key_cmp p) q
  is_cause (call.Overwrite p address) calls q = is_at (key_cmp p) q && is_change (Some address) (address_of key_cmp rules calls q)
  is_cause (call.Track index primary secondary) calls q =
      is_above index (accepted_sets key_cmp calls)
      && (is_change (given_by key_cmp (call.Track index primary secondary) calls q) (address_of key_cmp rules calls q)
      || (is_tracked key_cmp rules calls q && not (is_tracked key_cmp rules (call.Track index primary secondary ∷ calls) q)))
  is_cause _ calls q = false

  -- such a call came since the last grant of the key
  unfoldable pub has_cause : List (Call Key) → Key → Bool
  has_cause [] q = false
  has_cause (c ∷ calls) q = cond (is_some (grant_by key_cmp c q)) false (is_cause c calls q || has_cause calls q)

-- the connection is one that the node's spawner made; its key is held, and since the grant by which it is held the node's tracker
-- took a cause to end it, at the latest in this entry
pub record IsKilledSince (configs : List Config) (before : List Entry) (e : Entry) (n conn : ℕ) : Type 0 where
  pub connection : Spawned
  pub made : connections_of before n conn ≡ Some connection
  pub held : is_held key_cmp (calls_of configs (before ++ e ∷ []) n) connection.key ≡ true
  pub came : has_cause (rules_at configs n) (calls_of configs (before ++ e ∷ []) n) connection.key ≡ true

-- each kill of a connection stands only where its cause came since the grant of the connection's key
abbrev pub EachKillHasItsCause : List Config → List Entry → Type 0
EachKillHasItsCause configs log =
    (k i n conn : ℕ) (e : Entry)
    → slice_get log k ≡ Some e → slice_get e.puts i ≡ Some (queue.Control n conn, item.Kill)
    → IsKilledSince configs (take k log) e n conn
