-- What a start puts: the subscriptions that waited for it; and that channels are registered before it alone.
use Rattle.std.specs.Prelude.{◌≡◌, ℕ, ◌≤◌, ◌==◌, true, cond, List, [], ◌∷◌, map, flat_map, take, count_by, Some, None, slice_get}
use Rattle.p2p_log.specs.declared.config.Config.{Config}
use Rattle.p2p_log.specs.declared.queue.Queue.{Queue}
use Rattle.p2p_log.specs.declared.queue.Queue.TheVariants as queue
use Rattle.p2p_log.specs.declared.item.Item.{Item}
use Rattle.p2p_log.specs.declared.item.Item.TheVariants as item
use Rattle.p2p_log.specs.declared.entry.Entry.{Entry}
use Rattle.p2p_log.specs.declared.entry.Reply.TheVariants as reply
use Rattle.p2p_log.specs.declared.event.Act.{Act}
use Rattle.p2p_log.specs.declared.event.Act.TheVariants as act
use Rattle.p2p_log_rules.specs.Facts.{events_of, has_started}
use Rattle.p2p_log_rules.specs.Valid.{event_fault}

module _ (n : ℕ) where
  -- the channel that an act registers at the node
  abbrev pub registered_by : Act → List ℕ
  registered_by (act.Register c m rate) = cond (m == n) (c ∷ []) []
  registered_by _ = []

  -- the channels that were registered there, in the order of their registrations
  abbrev pub registrations : List Entry → List ℕ
  registrations log = flat_map (λ e. registered_by e.event.act) log

  -- what tells the node's router that a channel wants to hear of peers
  abbrev pub subscription : ℕ → Queue × Item
  subscription c = (queue.Router n, item.Subscribe c)

-- a start that is accepted puts the subscription of each channel that was registered at its node before it, once for each
-- registration and in the order of these, and puts nothing else
abbrev pub EachStartSubscribes : List Entry → Type 0
EachStartSubscribes log =
    (k n : ℕ) (e : Entry) → slice_get log k ≡ Some e → e.event.act ≡ act.Start n → e.reply ≡ reply.Ok
    → e.puts ≡ map (subscription n) (registrations n (take k log))

-- where what was asked is valid, no channel is registered twice at a node, so that a start puts each subscription exactly once
abbrev pub EachRegistersOnce : List Config → List Entry → Type 0
EachRegistersOnce configs log =
    event_fault configs (events_of log) ≡ None → (k n c : ℕ) → count_by (λ d. c == d) (registrations n (take k log)) ≤ 1

-- and none is registered at a node that has started: its channels, and so those of each of its connections, are the same from then on
abbrev pub EachStartSettles : List Config → List Entry → Type 0
EachStartSettles configs log =
    event_fault configs (events_of log) ≡ None → (k n : ℕ) → has_started (events_of (take k log)) n ≡ true → registrations n log ≡ registrations n (take k log)
