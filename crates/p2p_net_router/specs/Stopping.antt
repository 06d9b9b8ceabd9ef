-- How what waits in a router ends as its node stops.
use Rattle.std.specs.Prelude.{ℕ, List, [], ◌∷◌, map, flat_map, Option, Some, None}
use Rattle.p2p_base.specs.declared.key.Key.{Key}
use Rattle.p2p_log.specs.declared.end.Cause.TheVariants as cause
use Rattle.p2p_log.specs.declared.end.End.{End}
use Rattle.p2p_log.specs.declared.end.End.TheVariants as end
use Rattle.p2p_net_queues.specs.Rows.{dropped, sent_dropped}
use Rattle.p2p_net_router.specs.Items.{named_keys}
use Rattle.p2p_net_router.specs.Oldest.{send_of}
use Rattle.p2p_net_router.specs.declared.name.Name.{Name}
use Rattle.p2p_router.specs.declared.message.Message.{Message}
use Rattle.p2p_router.specs.declared.message.Message.TheVariants as message

-- the copy of a frame, where it carries one
abbrev pub copies_tagged : Option (ℕ × ℕ) → List (ℕ × ℕ)
copies_tagged None = []
copies_tagged (Some copy) = copy ∷ []

-- a frame of this name ends, and after it its copy
abbrev pub frame_ends : Name → List End
frame_ends x = end.Item x.entry x.place ∷ map (dropped cause.NodeStopped) (copies_tagged x.tag)

-- the same for each of these, one after another
abbrev pub frames_end : List Name → List End
frames_end xs = flat_map frame_ends xs

-- the keys for whom a message has content
abbrev pub keys_told : Message Key → List Key
keys_told (message.Ready peer relay conn) = []
keys_told (message.Release peer) = []
keys_told (message.Content whom encoded priority) = named_keys whom
keys_told (message.SubscribePeers s) = []

-- a message of this name ends, and after it its copies
abbrev pub message_ends : Name → Message Key → List End
message_ends x m = end.Item x.entry x.place ∷ sent_dropped cause.NodeStopped (send_of x.tag) 0 (keys_told m)
