-- What an entry shows that kills a connection.
use Rattle.std.specs.Prelude.{◌≡◌, ◌⊎◌, ℕ, true, false, List, [], ◌∷◌, take, Option, Some, slice_get}
use Rattle.p2p_base.specs.declared.key.Key.{Key}
use Rattle.p2p_address.specs.declared.peer.Address.{Address}
use Rattle.p2p_tracker_calls.specs.declared.call.Call.{Call}
use Rattle.p2p_tracker_calls.specs.declared.call.Call.TheVariants as call
use Rattle.p2p_tracker_calls.specs.Keeping.{kept_of}
use Rattle.p2p_tracker_calls.specs.Kills.{killed_keys}
use Rattle.p2p_tracker_calls.specs.Lives.{accepts, is_overwritten}
use Rattle.p2p_tracker_calls.specs.Rules.{Rules}
use Rattle.p2p_tracker_calls.specs.Sets.{is_above, accepted_sets}
use Rattle.p2p_log.specs.declared.config.Config.{Config}
use Rattle.p2p_log.specs.declared.queue.Queue.TheVariants as queue
use Rattle.p2p_log.specs.declared.item.Item.{Item}
use Rattle.p2p_log.specs.declared.item.Item.TheVariants as item
use Rattle.p2p_log.specs.declared.item.Envelope.{Envelope}
use Rattle.p2p_log.specs.declared.asked.Asked.TheVariants as ask
use Rattle.p2p_log.specs.declared.entry.Entry.{Entry}
use Rattle.p2p_log.specs.declared.event.Act.{Act}
use Rattle.p2p_log.specs.declared.event.Act.TheVariants as act
use Rattle.p2p_log.specs.Lines.{name_of, line}
use Rattle.p2p_log_rules.specs.Tracking.{key_cmp, rules_at, asked_by, calls_of}

module _ (rules : Rules Key) (conn : ℕ) where
  -- one of these changes the address of the key for which the connection is kept, each by the calls before it
  abbrev pub IsOverwritten : List (Key × Address) → List (Call Key) → Type 0
  IsOverwritten [] calls = ⊥
  IsOverwritten (e ∷ es) calls =
      ((is_overwritten key_cmp rules calls e.0 e.1 ≡ true) × (kept_of key_cmp rules calls e.0 ≡ Some conn))
      ⊎ IsOverwritten es (call.Overwrite e.0 e.1 ∷ calls)

  -- what was asked ends it: an accepted set that evicts its key or changes that key's address, a new address, or a block
  abbrev pub IsEndedBy : List (Call Key) → Option Act → Type 0
  IsEndedBy calls (Some (act.Ask (ask.Track index peers) n)) =
      (is_above index (accepted_sets key_cmp calls) ≡ true)
      × (i : ℕ) × (key : Key) × (slice_get (killed_keys key_cmp rules index peers.primary peers.secondary calls) i ≡ Some key)
      × (kept_of key_cmp rules calls key ≡ Some conn)
  IsEndedBy calls (Some (act.Ask (ask.Overwrite peers) n)) = IsOverwritten peers calls
  IsEndedBy calls (Some (act.Ask (ask.Block key) n)) = kept_of key_cmp rules calls key ≡ Some conn
  IsEndedBy calls _ = ⊥

  -- and what a tracker is told, at a moment: that, or that it begins, with a key for which none is accepted then
  abbrev pub IsEndedFor : List Entry → List (Call Key) → ℕ → Item → Type 0
  IsEndedFor log calls at (item.Call e) = IsEndedBy calls (asked_by log e)
  IsEndedFor log calls at (item.Connect begun key) = (begun ≡ conn) × (accepts key_cmp rules calls key (Some at) ≡ false)
  IsEndedFor log calls at _ = ⊥

-- the entry is of a step of the node's tracker, which took what ends the connection
pub record ShowsKill (configs : List Config) (before : List Entry) (e : Entry) (n conn : ℕ) : Type 0 where
  pub acts : e.event.act ≡ act.Tracker n
  pub oldest : Envelope
  pub later : List Envelope
  pub stood : line before (queue.Tracker n) ≡ oldest ∷ later
  pub takes : e.takes ≡ name_of oldest ∷ []
  pub why : IsEndedFor (rules_at configs n) conn before (calls_of configs before n) e.event.at oldest.item

-- each entry that kills a connection shows why
abbrev pub EachKillShowsItsCause : List Config → List Entry → Type 0
EachKillShowsItsCause configs log =
    (k i n conn : ℕ) (e : Entry)
    → slice_get log k ≡ Some e → slice_get e.puts i ≡ Some (queue.Control n conn, item.Kill)
    → ShowsKill configs (take k log) e n conn
