-- What the queues of a router hold, without names.
use Rattle.std.specs.Prelude.{ℕ, Bool, true, false, ◌==◌, cond, List, [], ◌∷◌, map, Option, Some, None, slice_index_or}
use Rattle.std.specs.BTreeMap.{BTreeMap, get}
use Rattle.std.specs.Ordering.{nat_cmp}
use Rattle.p2p_base.specs.Queue.{Queue as Waiting}
use Rattle.p2p_base.specs.declared.key.Key.{Key}
use Rattle.p2p_flow.specs.Lanes.{lane}
use Rattle.p2p_flow.specs.declared.plain.Recipients.{Recipients}
use Rattle.p2p_flow.specs.declared.plain.Recipients.TheVariants as to
use Rattle.p2p_wire.specs.declared.encoded.EncodedData.{EncodedData}
use Rattle.p2p_router.specs.Routing.{link_of}
use Rattle.p2p_router.specs.declared.link.Link.{Link}
use Rattle.p2p_router.specs.declared.message.Message.{Message}
use Rattle.p2p_router.specs.declared.message.Message.TheVariants as message
use Rattle.p2p_router.specs.declared.messenger.Binding.{Binding}
use Rattle.p2p_router.specs.declared.messenger.Binding.TheVariants.{Unbound, Bound, Closed}
use Rattle.p2p_log.specs.declared.queue.Queue.{Queue}
use Rattle.p2p_log.specs.declared.queue.Queue.TheVariants as queue
use Rattle.p2p_log.specs.declared.item.Item.{Item}
use Rattle.p2p_log.specs.declared.item.Item.TheVariants as item
pub use Rattle.p2p_log.specs.Keys.{key_cmp}
use Rattle.p2p_net_router.specs.declared.router.Router.{Router}

-- the keys that are named
abbrev pub named_keys : Recipients Key → List Key
named_keys to.All = []
named_keys (to.Some keys) = keys
named_keys (to.One key) = key ∷ []

-- the channel of a subscription
abbrev pub channel_of : List ℕ → ℕ → ℕ
channel_of channels s = slice_index_or channels s 0

-- the item that a message is, without its name
abbrev pub message_item : List ℕ → Message Key → Item
message_item channels (message.Ready peer relay conn) = item.Ready conn peer
message_item channels (message.Release peer) = item.Release peer
message_item channels (message.Content whom encoded priority) = item.Content encoded.channel encoded.payload priority 0 (named_keys whom)
message_item channels (message.SubscribePeers s) = item.Subscribe (channel_of channels s)

-- the messages of the mailbox, where there is one
abbrev pub messages_in : Binding Key → List (Message Key)
messages_in Unbound = []
messages_in (Bound q) = q.items
messages_in Closed = []

-- the lists that wait for a channel: those of its subscription
abbrev pub lists_in : List ℕ → List (Waiting (List Key)) → ℕ → List (List Key)
lists_in [] lists c = []
lists_in (k ∷ ks) [] c = []
lists_in (k ∷ ks) (l ∷ ls) c = cond (k == c) l.items (lists_in ks ls c)

-- the link, if it is the connection's
abbrev pub link_with : ℕ → Option Link → Option Link
link_with conn None = None
link_with conn (Some l) = cond (l.conn == conn) (Some l) None

abbrev pub link_to : List (Key × Link) → ℕ → Option Key → Option Link
link_to links conn None = None
link_to links conn (Some key) = link_with conn (link_of key_cmp links key)

-- the frames that wait in a lane of a link
abbrev pub frames_in : Bool → Option Link → List EncodedData
frames_in priority None = []
frames_in priority (Some l) = (lane l.relay priority).items

abbrev pub frame_item : EncodedData → Item
frame_item encoded = item.Frame None encoded.payload

-- the frames that wait for a connection
abbrev pub frames_of : BTreeMap ℕ Key → List (Key × Link) → Bool → ℕ → List EncodedData
frames_of peers links priority conn = frames_in priority (link_to links conn (get nat_cmp peers conn))

-- what each queue of the router holds
abbrev pub items_of : Router → Queue → List Item
items_of r (queue.Router n) = map (message_item r.channels.items) (messages_in r.messenger.binding)
items_of r (queue.Peers n c) = map item.Peers (lists_in r.channels.items r.messenger.lists c)
items_of r (queue.High n conn) = map frame_item (frames_of r.peers r.actor.links true conn)
items_of r (queue.Low n conn) = map frame_item (frames_of r.peers r.actor.links false conn)
items_of r _ = []
