-- The step of a handshake, by the log: until when its keys may be exchanged, and its row.
use Rattle.std.specs.Prelude.{ℕ, ◌+◌, Bool, true, false, not, ◌&&◌, cond, nat_le, Option, Some, None, List, [], ◌∷◌}
use Rattle.std.specs.Option.{option_map}
use Rattle.p2p_base.specs.declared.key.Key.{Key}
use Rattle.p2p_log.specs.declared.config.Config.{Config}
use Rattle.p2p_log.specs.declared.queue.Queue.TheVariants as queue
use Rattle.p2p_log.specs.declared.item.Item.{Item}
use Rattle.p2p_log.specs.declared.item.Item.TheVariants as item
use Rattle.p2p_log.specs.declared.item.Envelope.{Envelope}
use Rattle.p2p_log.specs.declared.entry.Entry.{Entry}
use Rattle.p2p_log.specs.declared.entry.Reply.TheVariants as reply
use Rattle.p2p_log.specs.Lines.{name_of, line}
use Rattle.p2p_log_rules.specs.declared.row.Row.{Row}
use Rattle.p2p_log_rules.specs.Attempting.{dial_rules_at, left_ends, handed_on_row}
use Rattle.p2p_log_rules.specs.Handshakes.{Handshake, handshake_at, is_handshaking, is_finished}
use Rattle.p2p_log_rules.specs.Rows.{only, is_spawner_full, taken_row}

-- the moment at which a handshake ends, where its keys were not exchanged
abbrev pub handshake_deadline : List Config → List Entry → ℕ → ℕ → Option ℕ
handshake_deadline configs log name n = option_map (λ (h : Handshake). h.at + (dial_rules_at configs n).handshake_timeout) (handshake_at log name)

-- it ends, once it took this: what waits for it ends
abbrev pub ended_row : List (ℕ × ℕ) → List Envelope → Row
ended_row names left = record { reply = reply.Ok; takes = names; puts = []; ends = left_ends left }

-- keys were exchanged, as it took: it asks for its peer
abbrev pub exchanged_row : ℕ → ℕ → Key → ℕ × ℕ → Row
exchanged_row n handshake key name =
    record { reply = reply.Ok; takes = name ∷ []; puts = (queue.Tracker n, item.AskListen handshake key) ∷ []; ends = [] }

-- by what it took, and by whether its node's spawner is full: where its peer may connect, it goes on; where keys were exchanged, it asks for
-- its peer; and where that is reserved, a connection is to be made
abbrev pub handshake_took_row : ℕ → Bool → ℕ → Handshake → ℕ × ℕ → Item → List Envelope → Row
handshake_took_row n full handshake h name (item.Acceptable true) left = taken_row name
handshake_took_row n full handshake h name (item.Finished true) left = exchanged_row n handshake h.key name
handshake_took_row n full handshake h name (item.Listen (Some key)) left = handed_on_row n full key h.link name left
handshake_took_row n full handshake h name _ left = ended_row (name ∷ []) left

-- whether its deadline has come, which stands still once keys were exchanged
abbrev pub is_due : Option ℕ → ℕ → Bool → Bool
is_due None at finished = false
is_due (Some deadline) at finished = not finished && nat_le deadline at

-- the oldest item, or else its deadline
abbrev pub handshake_turn : ℕ → Bool → Bool → ℕ → Option Handshake → List Envelope → Row
handshake_turn n full due handshake None xs = only reply.Gone
handshake_turn n full due handshake (Some h) [] = cond due (ended_row [] []) (only reply.Idle)
handshake_turn n full due handshake (Some h) (x ∷ xs) = handshake_took_row n full handshake h (name_of x) x.item xs

abbrev pub handshake_row : List Config → List Entry → ℕ → ℕ → ℕ → Row
handshake_row configs log name n at =
    cond (is_handshaking log n name)
    (handshake_turn n (is_spawner_full configs log n) (is_due (handshake_deadline configs log name n) at (is_finished log n name)) name (handshake_at log name)
    (line log (queue.Handshake n name)))
    (only reply.Gone)
