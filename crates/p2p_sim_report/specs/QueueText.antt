-- The text of a queue's name: its kind and its numbers, with colons between, in quotes. A queue of a question leaves out
-- the node, since the event that asked names it.
use Rattle.std.specs.Prelude.{ℕ, List, ◌++◌, codes}
use Rattle.p2p_log.specs.declared.queue.Side.{Side}
use Rattle.p2p_log.specs.declared.queue.Side.TheVariants as side
use Rattle.p2p_log.specs.declared.queue.Queue.{Queue}
use Rattle.p2p_log.specs.declared.queue.Queue.TheVariants as queue
use Rattle.p2p_sim_report.specs.Text.{number_onto}

-- the only number of a queue, and the quote after it
abbrev pub number_end_onto : List ℕ → ℕ → List ℕ
number_end_onto out a = number_onto out a ++ codes "\""

-- the two numbers of a queue, and the quote after them
abbrev pub numbers_onto : List ℕ → ℕ → ℕ → List ℕ
numbers_onto out a b = number_onto (number_onto out a ++ codes ":") b ++ codes "\""

abbrev pub side_onto : List ℕ → Side → List ℕ
side_onto out side.Out = out ++ codes "out"
side_onto out side.In = out ++ codes "in"

abbrev pub link_onto : List ℕ → ℕ → Side → List ℕ
link_onto out e s = side_onto (number_onto (out ++ codes "\"link:") e ++ codes ":") s ++ codes "\""

abbrev pub queue_onto : List ℕ → Queue → List ℕ
queue_onto out (queue.Router n) = number_end_onto (out ++ codes "\"router:") n
queue_onto out (queue.Peers n c) = numbers_onto (out ++ codes "\"peers:") n c
queue_onto out (queue.RouterAnswer n e) = numbers_onto (out ++ codes "\"ready:") n e
queue_onto out (queue.High n e) = numbers_onto (out ++ codes "\"high:") n e
queue_onto out (queue.Low n e) = numbers_onto (out ++ codes "\"low:") n e
queue_onto out (queue.Link e s) = link_onto out e s
queue_onto out (queue.Held n e) = numbers_onto (out ++ codes "\"held:") n e
queue_onto out (queue.Channel n c) = numbers_onto (out ++ codes "\"channel:") n c
queue_onto out (queue.Tracker n) = number_end_onto (out ++ codes "\"tracker:") n
queue_onto out (queue.Addresses n) = number_end_onto (out ++ codes "\"update:") n
queue_onto out (queue.Dialer n) = number_end_onto (out ++ codes "\"dialer:") n
queue_onto out (queue.Control n e) = numbers_onto (out ++ codes "\"control:") n e
queue_onto out (queue.PeerSet n e) = number_end_onto (out ++ codes "\"answer:") e
queue_onto out (queue.PeerSetUpdates n e) = number_end_onto (out ++ codes "\"updates:") e
queue_onto out (queue.Blocked n e) = number_end_onto (out ++ codes "\"blocked:") e
queue_onto out (queue.Attempt n e) = numbers_onto (out ++ codes "\"attempt:") n e
queue_onto out (queue.Arrivals n) = number_end_onto (out ++ codes "\"arrivals:") n
queue_onto out (queue.Handshake n e) = numbers_onto (out ++ codes "\"handshake:") n e
queue_onto out (queue.Spawner n) = number_end_onto (out ++ codes "\"spawner:") n
