-- What is put for a message, by the calls so far and by what the directory lists before and after it.
use Rattle.std.specs.Prelude.{◌≡◌, ℕ, Bool, cond, List, [], ◌∷◌, ◌++◌, Option, Some, None, slice_index_or}
use Rattle.std.specs.Option.{option_map}
use Rattle.std.specs.Map.{lookup}
use Rattle.std.specs.BTreeMap.{is_at}
use Rattle.std.specs.declared.cmp.Ordering.{Ordering}
use Rattle.p2p_address.specs.Addresses.{ingress_of}
use Rattle.p2p_address.specs.declared.ip.IpAddr.{IpAddr}
use Rattle.p2p_address.specs.declared.peer.Address.{Address}
use Rattle.p2p_address.specs.declared.peer.Ingress.{Ingress}
use Rattle.p2p_tracker_calls.specs.declared.call.Call.{Call}
use Rattle.p2p_tracker_calls.specs.declared.call.Call.TheVariants as call
use Rattle.p2p_tracker_calls.specs.Allows.{is_acceptable, allows_dial, allows_listen}
use Rattle.p2p_tracker_calls.specs.Blocks.{is_blockable}
use Rattle.p2p_tracker_calls.specs.Keeping.{kept_of}
use Rattle.p2p_tracker_calls.specs.Kills.{killed_keys}
use Rattle.p2p_tracker_calls.specs.Lives.{address_of, accepts, is_overwritten}
use Rattle.p2p_tracker_calls.specs.Named.{EqualKeysAreOne}
use Rattle.p2p_tracker_calls.specs.Overwrites.{overwritten_keys}
use Rattle.p2p_tracker_calls.specs.Rules.{Rules}
use Rattle.p2p_tracker_calls.specs.Sets.{is_above, accepted_sets}
use Rattle.p2p_tracker_directory.specs.Told.{blocked_in, dial_list_in, addresses_in, peer_set_in, update_in}
use Rattle.p2p_tracker_directory.specs.declared.metadata.Metadata.{Metadata}
use Rattle.p2p_tracker_directory.specs.declared.metadata.Metadata.TheVariants as side
use Rattle.p2p_tracker_mailbox.specs.declared.message.Message.{Message}
use Rattle.p2p_tracker_mailbox.specs.declared.message.Message.TheVariants as message
use Rattle.p2p_tracker.specs.Following.{Follows}
use Rattle.p2p_tracker.specs.Telling.{kill_put, told_of_sets, sets_put, has_any}
use Rattle.p2p_tracker.specs.Tracking.{Tracking}
use Rattle.p2p_tracker.specs.declared.stepped.Put.{Put}
use Rattle.p2p_tracker.specs.declared.stepped.Put.TheVariants as puts
use Rattle.p2p_tracker.specs.declared.stepped.Stepped.{Stepped}
use Rattle.p2p_tracker.specs.declared.stepped.Stepped.TheVariants as stepped

module _ {P : Type 0} (cmp : P → P → Ordering) (rules : Rules P) (calls : List (Call P)) where
  -- the kills of these keys, as far as a connection of them is kept
  abbrev pub kills_of : List P → List (Put P)
  kills_of [] = []
  kills_of (k ∷ ks) = kill_put k (kept_of cmp rules calls k) ++ kills_of ks

module _ {P : Type 0} (cmp : P → P → Ordering) (rules : Rules P) where
  -- the kills of those keys whose address changes, by the calls before each of them
  abbrev pub overwrite_kills : List (P × Address) → List (Call P) → List (Put P)
  overwrite_kills [] calls = []
  overwrite_kills (e ∷ es) calls = cond (is_overwritten cmp rules calls e.0 e.1) (kill_put e.0 (kept_of cmp rules calls e.0)) [] ++ overwrite_kills es (call.Overwrite e.0 e.1 ∷ calls)

module _ {P : Type 0} (cmp : P → P → Ordering) (rules : Rules P) (calls : List (Call P)) (now : ℕ) where
  -- the grant of a dial: a reservation, and where to dial
  abbrev pub dial_grant : P → Option (Metadata P × Ingress)
  dial_grant k = cond (allows_dial cmp rules calls k now) (option_map (λ a. (side.Dialer k, ingress_of a)) (address_of cmp rules calls k)) None

  -- the grant of a listen
  abbrev pub listen_grant : P → IpAddr → Option (Metadata P)
  listen_grant k source = cond (allows_listen cmp rules calls k source now) (Some (side.Listener k)) None

module _ {P : Type 0} (cmp : P → P → Ordering) (before after : Tracking P) (waiting : List (Option (List P))) (before_heard : Option (List IpAddr)) (runs : ℕ → Bool) (now : ℕ) where
  -- it holds for each list of calls that the tracker follows
  abbrev pub ForCalls : (List (Call P) → Type 0) → Type 0
  ForCalls Q = (calls : List (Call P)) → Follows cmp before.directory before.controls calls → Q calls

  -- what is put for a message
  abbrev pub IsPut : Message P → List (Put P) → Type 0
  IsPut (message.Register index peers) p = ForCalls (λ calls. EqualKeysAreOne cmp → p ≡ cond (is_above index (accepted_sets cmp calls))
      ((kills_of cmp before.directory.rules calls (killed_keys cmp before.directory.rules index peers.primary peers.secondary calls)
      ++ puts.Listenable (addresses_in cmp after.directory now) before_heard ∷ []) ++ told_of_sets before.updates (update_in cmp after.directory)) [])
  IsPut (message.Overwrite peers) p = ForCalls (λ calls. p ≡ overwrite_kills cmp before.directory.rules peers calls
      ++ cond (has_any (overwritten_keys cmp before.directory.rules peers calls)) (puts.Listenable (addresses_in cmp after.directory now) before_heard ∷ []) [])
  IsPut (message.PeerSet index ticket) p = p ≡ puts.PeerSet ticket (peer_set_in cmp before.directory index) ∷ []
  IsPut (message.Subscribe ticket) p = p ≡ told_of_sets (ticket ∷ []) (update_in cmp before.directory)
  IsPut (message.Block k) p = ForCalls (λ calls. p ≡ cond (is_blockable cmp before.directory.rules calls k now)
      (sets_put waiting before.sets (blocked_in cmp after.directory now) ++ puts.Listenable (addresses_in cmp after.directory now) before_heard ∷ []) []
      ++ kill_put k (lookup (is_at (cmp k)) before.controls))
  IsPut (message.SubscribeBlocked ticket) p = p ≡ puts.Blocked ticket (blocked_in cmp before.directory now) (slice_index_or waiting ticket None) ∷ []
  IsPut (message.Connect k conn) p = ForCalls (λ calls. p ≡ cond (accepts cmp before.directory.rules calls k (Some now)) [] (puts.Kill k conn ∷ []))
  IsPut message.Dialable p = p ≡ puts.Dialable (dial_list_in cmp before.directory now) ∷ []
  IsPut (message.Dial k) p = ForCalls (λ calls. p ≡ puts.Dial (dial_grant cmp before.directory.rules calls now k) ∷ [])
  IsPut (message.Acceptable k source handshake) p = ForCalls (λ calls. p ≡ cond (runs handshake) (puts.Acceptable handshake (is_acceptable cmp before.directory.rules calls k source now) ∷ []) [])
  IsPut (message.Listen k source handshake) p = ForCalls (λ calls. p ≡ cond (runs handshake) (puts.Listen handshake (listen_grant cmp before.directory.rules calls now k source) ∷ []) [])
  IsPut (message.Release m) p = p ≡ []

module _ {P : Type 0} (cmp : P → P → Ordering) (before after : Tracking P) (waiting : List (Option (List P))) (before_heard : Option (List IpAddr)) (runs : ℕ → Bool) (now : ℕ) where
  -- what a step puts, with the message that waited
  abbrev pub IsPutBy : Stepped P → Option (Message P) → Type 0
  IsPutBy stepped.Idle m = m ≡ None
  IsPutBy (stepped.EndedBlocks p) m = p ≡ puts.Listenable (addresses_in cmp after.directory now) before_heard ∷ sets_put waiting before.sets (blocked_in cmp after.directory now)
  IsPutBy (stepped.Message p) None = Unit {0}
  IsPutBy (stepped.Message p) (Some m) = IsPut cmp before after waiting before_heard runs now m p
