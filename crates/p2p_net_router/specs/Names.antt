-- An item, as a name and what is left without it.
use Rattle.std.specs.Prelude.{◌≡◌, ℕ, Bool, true, false, ◌==◌, List, [], ◌∷◌, map, filter, Option, Some, None}
use Rattle.p2p_log.specs.declared.queue.Queue.{Queue}
use Rattle.p2p_log.specs.declared.queue.Queue.TheVariants as queue
use Rattle.p2p_log.specs.declared.item.Item.{Item}
use Rattle.p2p_log.specs.declared.item.Item.TheVariants as item
use Rattle.p2p_log.specs.declared.item.Envelope.{Envelope}
use Rattle.p2p_log.specs.declared.end.End.{End}
use Rattle.p2p_log.specs.declared.end.End.TheVariants as end
use Rattle.p2p_log.specs.Lines.{stands_in}
use Rattle.p2p_net_router.specs.declared.name.Name.{Name}

-- the copy of a frame, and the send of content
abbrev pub tag_of : Item → Option (ℕ × ℕ)
tag_of (item.Content c frame priority send to) = Some (send, 0)
tag_of (item.Frame copy frame) = copy
tag_of _ = None

-- the item without it
abbrev pub bare : Item → Item
bare (item.Content c frame priority send to) = item.Content c frame priority 0 to
bare (item.Frame copy frame) = item.Frame None frame
bare i = i

abbrev pub label : Envelope → Name
label x = record { entry = x.entry; place = x.place; tag = tag_of x.item }

abbrev pub bare_item : Envelope → Item
bare_item x = bare x.item

-- whether a queue is one of a node's router
abbrev pub is_routers : ℕ → Queue → Bool
is_routers n (queue.Router m) = n == m
is_routers n (queue.Peers m c) = n == m
is_routers n (queue.High m conn) = n == m
is_routers n (queue.Low m conn) = n == m
is_routers n _ = false

-- of each queue of the node's router these are the items' parts, in order
abbrev pub Agrees : {T : Type 0} → ℕ → (Envelope → T) → (Queue → List T) → List Envelope → Type 0
Agrees n part h items = (q : Queue) → is_routers n q ≡ true → h q ≡ map part (filter (stands_in q) items)

-- the name of an item that was taken, where one was
abbrev pub takes_of : Option Name → List (ℕ × ℕ)
takes_of None = []
takes_of (Some x) = (x.entry, x.place) ∷ []

-- the end of the first of these, which the next one overwrites
abbrev pub ends_of : List Name → List End
ends_of [] = []
ends_of (x ∷ _) = end.Item x.entry x.place ∷ []
