-- What a node's dialer and its listener took of what they were told, and what they asked, as values.
use Rattle.std.specs.Prelude.{ℕ, Bool, true, List, [], ◌∷◌, Option, Some, None}
use Rattle.p2p_log.specs.declared.queue.Queue.{Queue}
use Rattle.p2p_log.specs.declared.queue.Queue.TheVariants as queue
use Rattle.p2p_log.specs.declared.item.Item.{Item}
use Rattle.p2p_log.specs.declared.item.Envelope.{Envelope}
use Rattle.p2p_log.specs.declared.entry.Reply.TheVariants as reply
use Rattle.p2p_log.specs.Lines.{name_of}
use Rattle.p2p_log_rules.specs.declared.row.Row.{Row}

-- the name of the oldest of these, where one was taken
abbrev pub taken_names : Bool → List Envelope → List (ℕ × ℕ)
taken_names true (x ∷ xs) = name_of x ∷ []
taken_names _ xs = []

abbrev pub asked_puts : ℕ → Option Item → List (Queue × Item)
asked_puts n None = []
asked_puts n (Some i) = (queue.Tracker n, i) ∷ []

abbrev pub names_asked : ℕ → Option Item → List (ℕ × ℕ)
names_asked k None = []
names_asked k (Some i) = (k, 0) ∷ []

-- the row of a dialer's step, of these answers
abbrev pub dialed_row : List Envelope → ℕ → Bool → Option Item → Row
dialed_row answers n took asked = record { reply = reply.Ok; takes = taken_names took answers; puts = asked_puts n asked; ends = [] }

-- the row of a listener's step that took the update that it was told
abbrev pub updated_row : List Envelope → Row
updated_row updates = record { reply = reply.Ok; takes = taken_names true updates; puts = []; ends = [] }
