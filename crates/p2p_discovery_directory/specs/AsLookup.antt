-- A directory of discovery has the sets, the holds and the blocks of a directory of lookup that was asked the same, and whose peers have
-- one address each, which never changes.
use Rattle.std.specs.Prelude.{Bool, false, not, ◌&&◌, ◌||◌, List, [], ◌∷◌, ◌++◌, map, replicate, None}
use Rattle.std.specs.BTreeMap.{is_at}
use Rattle.std.specs.declared.cmp.Ordering.{Ordering}
use Rattle.p2p_address.specs.declared.ip.IpAddr.TheVariants.{V4}
use Rattle.p2p_address.specs.declared.peer.Address.{Address}
use Rattle.p2p_address.specs.declared.peer.Address.TheVariants.{Symmetric}
use Rattle.p2p_tracker_calls.specs.declared.call.Call.{Call as LookupCall}
use Rattle.p2p_tracker_calls.specs.declared.call.Call.TheVariants as lookup
use Rattle.p2p_tracker_calls.specs.Grants.{is_held}
use Rattle.p2p_discovery_directory.specs.declared.call.Call.{Call}
use Rattle.p2p_discovery_directory.specs.declared.call.Call.TheVariants as call

-- an address, of which nothing is asked
abbrev pub nowhere : Address
nowhere = Symmetric (record { ip = V4 (replicate 4 0); port = 0 })

module _ {P : Type 0} where
  abbrev pub placed : List P → List (P × Address)
  placed keys = map (λ k. (k, nowhere)) keys

  -- the call of a directory of lookup, if it has one. Nothing is asked of the name of a connection
  abbrev pub as_lookup : Call P → List (LookupCall P)
  as_lookup (call.Track index primary secondary) = lookup.Track index (placed primary) (placed secondary) ∷ []
  as_lookup (call.Block p at) = lookup.Block p at ∷ []
  as_lookup (call.UnblockExpired at) = lookup.UnblockExpired at ∷ []
  as_lookup (call.Dial p at jitter granted) = lookup.Dial p at jitter granted ∷ []
  as_lookup (call.Listen p at jitter granted) = lookup.Listen p at jitter granted ∷ []
  as_lookup (call.Connect p) = lookup.Connect p None 0 ∷ []
  as_lookup (call.Release p) = lookup.Release p ∷ []
  as_lookup (call.UpdatePeers infos) = []

  -- the calls newest first
  unfoldable pub lookup_calls : List (Call P) → List (LookupCall P)
  lookup_calls [] = []
  lookup_calls (c ∷ calls) = as_lookup c ++ lookup_calls calls

module _ {P : Type 0} (cmp : P → P → Ordering) where
  -- the call grants the key
  abbrev pub grants : Call P → P → Bool
  grants (call.Dial p at jitter granted) q = granted && is_at (cmp p) q
  grants (call.Listen p at jitter granted) q = granted && is_at (cmp p) q
  grants _ q = false

  abbrev pub connects : Call P → P → Bool
  connects (call.Connect p) q = is_at (cmp p) q
  connects _ q = false

  -- a connection of the key began since its last grant
  unfoldable pub is_connected : List (Call P) → P → Bool
  is_connected [] q = false
  is_connected (c ∷ calls) q = not (grants c q) && (connects c q || is_connected calls q)

  -- the key is held, and its connection hasn't begun
  abbrev pub is_reserved : List (Call P) → P → Bool
  is_reserved calls q = is_held cmp (lookup_calls calls) q && not (is_connected calls q)
