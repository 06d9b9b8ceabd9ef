-- What a step of a node's tracker tells, by what it took and put.
use Rattle.std.specs.Prelude.{ℕ, Bool, true, false, List, [], ◌∷◌, ◌++◌, flat_map, Option, Some, None, slice_get}
use Rattle.std.specs.List.{list_any}
use Rattle.p2p_log.specs.declared.queue.Queue.{Queue}
use Rattle.p2p_log.specs.declared.item.Item.{Item}
use Rattle.p2p_log.specs.declared.item.Item.TheVariants as item
use Rattle.p2p_log.specs.declared.entry.Entry.{Entry}
use Rattle.p2p_log.specs.declared.entry.Reply.{Reply}
use Rattle.p2p_log.specs.declared.entry.Reply.TheVariants as reply
use Rattle.p2p_log.specs.declared.asked.Asked.{Asked}
use Rattle.p2p_log.specs.declared.asked.Asked.TheVariants as ask
use Rattle.p2p_log.specs.declared.event.Act.{Act}
use Rattle.p2p_log.specs.declared.event.Act.TheVariants as act
use Rattle.p2p_log_rules.specs.Tellings.{Telling}
use Rattle.p2p_log_rules.specs.Tellings as telling

-- what the event of this number asked
abbrev pub asked_by : List Entry → ℕ → Option Act
asked_by log e = elim (slice_get log e) [ None ↦ None | Some d ↦ Some d.event.act ]

-- the question that an act asks of a tracker
abbrev pub question_of : Option Act → Option Asked
question_of (Some (act.Ask what n)) = Some what
question_of _ = None

-- whether what is put grants a peer, to a dial or to a handshake
abbrev pub grants_peer : Queue × Item → Bool
grants_peer x = elim x.1 [
  | item.Dial grant ↦ elim grant [ None ↦ false | Some g ↦ true ]
  | item.Listen grant ↦ elim grant [ None ↦ false | Some key ↦ true ]
  | _ ↦ false
]

-- ---- what becomes a call of its directory

-- that it took a question at a moment
abbrev pub asked_tells : ℕ → ℕ → Option Asked → List Telling
asked_tells n at None = []
asked_tells n at (Some (ask.Track index peers)) = telling.set_asked n index peers.primary peers.secondary ∷ []
asked_tells n at (Some (ask.Overwrite peers)) = telling.addresses_asked n peers ∷ []
asked_tells n at (Some (ask.Block key)) = telling.block_asked n at key ∷ []
asked_tells n at (Some (ask.PeerSet index)) = []
asked_tells n at (Some ask.Subscribe) = []
asked_tells n at (Some ask.Blocked) = []

-- that it took an item at a moment and with a seed, and granted a peer or not
abbrev pub served_tells : List Entry → ℕ → ℕ → ℕ → Bool → Item → List Telling
served_tells before n at seed granted (item.Call e) = asked_tells n at (question_of (asked_by before e))
served_tells before n at seed granted (item.Connect conn key) = telling.connection_heard n at conn key ∷ []
served_tells before n at seed granted (item.AskDial key) = telling.dial_weighed n at seed key granted ∷ []
served_tells before n at seed granted (item.AskListen name key) = telling.listen_weighed n at seed key granted ∷ []
served_tells before n at seed granted (item.Release key) = telling.release_heard n key ∷ []
served_tells before n at seed granted _ = []

-- that it did what it did: where it took nothing, blocks had ended
abbrev pub called_tells : List Entry → ℕ → ℕ → ℕ → Bool → Reply → List Item → List Telling
called_tells before n at seed granted reply.Ok [] = telling.blocks_ended n at ∷ []
called_tells before n at seed granted reply.Ok (i ∷ items) = served_tells before n at seed granted i
called_tells before n at seed granted _ items = []

-- ---- who subscribes

abbrev pub wanted_tells : ℕ → ℕ → Option Asked → List Telling
wanted_tells n e (Some ask.Subscribe) = telling.sets_wanted n e ∷ []
wanted_tells n e (Some ask.Blocked) = telling.blocks_wanted n e ∷ []
wanted_tells n e _ = []

abbrev pub subscriber_tells : List Entry → ℕ → Item → List Telling
subscriber_tells before n (item.Call e) = wanted_tells n e (question_of (asked_by before e))
subscriber_tells before n _ = []

-- ---- both

abbrev pub tracker_tells : List Entry → ℕ → ℕ → ℕ → Reply → List Item → List (Queue × Item) → List Telling
tracker_tells before n at seed r items puts = called_tells before n at seed (list_any grants_peer puts) r items ++ flat_map (subscriber_tells before n) items
