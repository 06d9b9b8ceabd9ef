-- What a step of the tracker answers, and which subscriptions it keeps then, by the calls so far.
use Rattle.std.specs.Prelude.{ℕ, Bool, cond, List, [], ◌∷◌, ◌++◌, Option, Some, None, slice_index_or}
use Rattle.std.specs.declared.cmp.Ordering.{Ordering}
use Rattle.p2p_address.specs.declared.ip.IpAddr.{IpAddr}
use Rattle.p2p_tracker_calls.specs.declared.call.Call.{Call}
use Rattle.p2p_tracker_calls.specs.declared.call.Call.TheVariants as call
use Rattle.p2p_tracker_calls.specs.Allows.{is_acceptable}
use Rattle.p2p_tracker_calls.specs.BlockedKeys.{blocked_keys, due_keys}
use Rattle.p2p_tracker_calls.specs.Blocks.{is_blockable}
use Rattle.p2p_tracker_calls.specs.DialList.{dialable_keys, query_again_at}
use Rattle.p2p_tracker_calls.specs.Heard.{heard_addresses}
use Rattle.p2p_tracker_calls.specs.Keeping.{kept_of}
use Rattle.p2p_tracker_calls.specs.Kills.{killed_keys}
use Rattle.p2p_tracker_calls.specs.Lives.{accepts}
use Rattle.p2p_tracker_calls.specs.Overwrites.{overwritten, overwritten_keys}
use Rattle.p2p_tracker_calls.specs.Peers.{peer_set_of, latest_update}
use Rattle.p2p_tracker_calls.specs.Rules.{Rules}
use Rattle.p2p_tracker_calls.specs.Sets.{is_above, accepted_sets}
use Rattle.p2p_tracker_mailbox.specs.declared.message.Message.{Message}
use Rattle.p2p_tracker_mailbox.specs.declared.message.Message.TheVariants as message
use Rattle.p2p_tracker.specs.Putting.{kills_of, overwrite_kills, dial_grant, listen_grant}
use Rattle.p2p_tracker.specs.Telling.{kill_put, told_of_sets, sets_put, has_any}
use Rattle.p2p_tracker.specs.declared.stepped.Put.{Put}
use Rattle.p2p_tracker.specs.declared.stepped.Put.TheVariants as puts
use Rattle.p2p_tracker.specs.declared.stepped.Stepped.{Stepped}
use Rattle.p2p_tracker.specs.declared.stepped.Stepped.TheVariants as stepped

module _ {P : Type 0} (cmp : P → P → Ordering) (rules : Rules P) (before_heard : Option (List IpAddr)) (now : ℕ) where
  -- the listener is told from where peers may come after these calls
  abbrev pub heard_put : List (Call P) → List (Put P)
  heard_put calls = puts.Listenable (heard_addresses cmp rules calls now) before_heard ∷ []

module _ {P : Type 0} (cmp : P → P → Ordering) (rules : Rules P) (updates sets : List ℕ) (waiting : List (Option (List P))) (before_heard : Option (List IpAddr)) (calls : List (Call P)) (now : ℕ) where
  -- an accepted set puts its kills, tells the listener, and then the subscriptions to peer sets
  abbrev pub registered : Call P → List P → List (Put P)
  registered c killed = (kills_of cmp rules calls killed ++ heard_put cmp rules before_heard now (c ∷ calls)) ++ told_of_sets updates (latest_update cmp rules (c ∷ calls))

  -- a block that takes effect tells the subscriptions to the blocked keys and then the listener; each block kills
  abbrev pub blocked : Call P → P → List (Put P)
  blocked c k = cond (is_blockable cmp rules calls k now) (sets_put waiting sets (blocked_keys cmp rules (c ∷ calls) now) ++ heard_put cmp rules before_heard now (c ∷ calls)) []
      ++ kill_put k (kept_of cmp rules calls k)

  -- the end of blocks tells the listener and then the subscriptions to the blocked keys
  abbrev pub unblocked : Call P → List (Put P)
  unblocked c = puts.Listenable (heard_addresses cmp rules (c ∷ calls) now) before_heard ∷ sets_put waiting sets (blocked_keys cmp rules (c ∷ calls) now)

module _ {P : Type 0} (cmp : P → P → Ordering) (rules : Rules P) (updates sets : List ℕ) (waiting : List (Option (List P))) (before_heard : Option (List IpAddr)) (runs : ℕ → Bool) (calls : List (Call P)) (now : ℕ) where
  -- what is put for a message: what a handshake is answered only where it runs
  abbrev pub puts_for : Message P → List (Put P)
  puts_for (message.Register index peers) = cond (is_above index (accepted_sets cmp calls))
      (registered cmp rules updates sets waiting before_heard calls now (call.Track index peers.primary peers.secondary) (killed_keys cmp rules index peers.primary peers.secondary calls)) []
  puts_for (message.Overwrite peers) =
      overwrite_kills cmp rules peers calls ++ cond (has_any (overwritten_keys cmp rules peers calls)) (heard_put cmp rules before_heard now (overwritten peers calls)) []
  puts_for (message.PeerSet index ticket) = puts.PeerSet ticket (peer_set_of cmp rules calls index) ∷ []
  puts_for (message.Subscribe ticket) = told_of_sets (ticket ∷ []) (latest_update cmp rules calls)
  puts_for (message.Block k) = blocked cmp rules updates sets waiting before_heard calls now (call.Block k now) k
  puts_for (message.SubscribeBlocked ticket) = puts.Blocked ticket (blocked_keys cmp rules calls now) (slice_index_or waiting ticket None) ∷ []
  puts_for (message.Connect k conn) = cond (accepts cmp rules calls k (Some now)) [] (puts.Kill k conn ∷ [])
  puts_for message.Dialable = puts.Dialable (record { peers = dialable_keys cmp rules calls now; next_query_at = query_again_at cmp rules calls now }) ∷ []
  puts_for (message.Dial k) = puts.Dial (dial_grant cmp rules calls now k) ∷ []
  puts_for (message.Acceptable k source handshake) = cond (runs handshake) (puts.Acceptable handshake (is_acceptable cmp rules calls k source now) ∷ []) []
  puts_for (message.Listen k source handshake) = cond (runs handshake) (puts.Listen handshake (listen_grant cmp rules calls now k source) ∷ []) []
  puts_for (message.Release m) = []

module _ {P : Type 0} (cmp : P → P → Ordering) (rules : Rules P) (updates sets : List ℕ) (waiting : List (Option (List P))) (before_heard : Option (List IpAddr)) (runs : ℕ → Bool) (calls : List (Call P)) (now : ℕ) where
  -- where no block is due, the message that waits is taken
  abbrev pub taken_or_idle : Option (Message P) → Stepped P
  taken_or_idle None = stepped.Idle
  taken_or_idle (Some m) = stepped.Message (puts_for cmp rules updates sets waiting before_heard runs calls now m)

  -- what a step answers, with the message that waits
  abbrev pub stepped_of : Option (Message P) → Stepped P
  stepped_of m = cond (has_any (due_keys cmp rules calls now)) (stepped.EndedBlocks (unblocked cmp rules updates sets waiting before_heard calls now (call.UnblockExpired now))) (taken_or_idle m)

module _ {P : Type 0} where
  -- the subscriptions to peer sets that are kept after a message
  abbrev pub updates_for : Message P → List ℕ → List ℕ
  updates_for (message.Subscribe ticket) tickets = tickets ++ ticket ∷ []
  updates_for _ tickets = tickets

  -- and those to the blocked keys
  abbrev pub sets_for : Message P → List ℕ → List ℕ
  sets_for (message.SubscribeBlocked ticket) tickets = tickets ++ ticket ∷ []
  sets_for _ tickets = tickets

  -- what stays as it was where a step took no message
  abbrev pub by_step : Stepped P → Option (Message P) → (Message P → List ℕ → List ℕ) → List ℕ → List ℕ
  by_step (stepped.Message put) (Some m) f tickets = f m tickets
  by_step s m f tickets = tickets
