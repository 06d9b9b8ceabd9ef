-- A node's dialer, by the log: whom it dials next and when, and the row of its step.
use Rattle.std.specs.Prelude.{ℕ, zero, suc, count_by, ◌+◌, ◌-◌, Bool, true, false, ◌==◌, ◌&&◌, not, cond, nat_le, min, max, take, List, [], ◌∷◌, length, Option, Some, None, unwrap_or, slice_get}
use Rattle.p2p_base.specs.declared.key.Key.{Key}
use Rattle.p2p_runtime.specs.Draws.{seeded, shuffled}
use Rattle.p2p_log.specs.declared.config.Config.{Config}
use Rattle.p2p_log.specs.declared.queue.Queue.{Queue}
use Rattle.p2p_log.specs.declared.queue.Queue.TheVariants as queue
use Rattle.p2p_log.specs.declared.item.Item.{Item}
use Rattle.p2p_log.specs.declared.item.Item.TheVariants as item
use Rattle.p2p_log.specs.declared.item.Envelope.{Envelope}
use Rattle.p2p_log.specs.declared.entry.Entry.{Entry}
use Rattle.p2p_log.specs.declared.entry.Reply.TheVariants as reply
use Rattle.p2p_log.specs.Lines.{name_of, line}
use Rattle.p2p_log_rules.specs.declared.row.Row.{Row}
use Rattle.p2p_log_rules.specs.Facts.{is_up}
use Rattle.p2p_log_rules.specs.Rows.{only, taken_row}
use Rattle.p2p_log_rules.specs.Tellings.{Telling, Last, last_told, last_or}
use Rattle.p2p_log_rules.specs.Tellings as telling
use Rattle.p2p_log_rules.specs.Told.{told, asks_list}

-- how long a dialer waits after a dial, and at most before it asks again whom to dial
pub record Pace : Type 0 where
  pub frequency : ℕ
  pub cooldown : ℕ

abbrev pub pace_at : List Config → ℕ → Pace
pace_at configs n = elim (slice_get configs n) [
  | None ↦ record { frequency = 0; cooldown = 0 }
  | Some c ↦ record { frequency = c.dial_frequency; cooldown = c.peer_connection_cooldown }
]

module _ (pace : Pace) where
  abbrev pub after_dial : ℕ → ℕ
  after_dial at = at + pace.frequency

  -- the deadline with nobody to dial, which it had asked at the moment `asked`: when there may be more, or else the latest one, and within both bounds
  abbrev pub asks_again_at : ℕ → Option ℕ → ℕ
  asks_again_at asked next = min (max (unwrap_or next (asked + pace.cooldown)) (after_dial asked)) (max (asked + pace.cooldown) (after_dial asked))

  abbrev pub next_deadline : ℕ → List Key → Option ℕ → ℕ
  next_deadline asked [] next = asks_again_at asked next
  next_deadline asked (k ∷ ks) next = after_dial asked

-- what stands of a dialer: the keys that it dials, the last one first; the moment from which it dials or asks again; the moment at which it
-- asked last whom to dial; and whether it waits for an answer
pub record Dials : Type 0 where
  pub peers : List Key
  pub deadline : ℕ
  pub asked_at : ℕ
  pub is_asking : Bool

-- keys in an order that is drawn
abbrev pub in_drawn_order : ℕ → List Key → List Key
in_drawn_order seed keys = (shuffled keys (seeded seed)).0

-- at the start of its node
abbrev pub new_dials : ℕ → Dials
new_dials at = record { peers = []; deadline = at; asked_at = at; is_asking = false }

-- the last of its keys is dialed first
abbrev pub last_key : List Key → Option Key
last_key ks = slice_get ks (length ks - 1)

abbrev pub without_last : List Key → List Key
without_last ks = take (length ks - 1) ks

-- ---- what is told of it

-- the keys that a dialer took, in the order that was drawn: none at the start of its node
abbrev pub lists : ℕ → Telling → Option (List Key)
lists n (telling.node_started m at) = cond (m == n) (Some []) None
lists n (telling.list_taken m asked seed next peers) = cond (m == n) (Some (in_drawn_order seed peers)) None
lists n _ = None

abbrev pub dials : ℕ → Telling → Bool
dials n (telling.dial_asked m) = m == n
dials n _ = false

-- less one from the end for each of so many
abbrev pub less : ℕ → List Key → List Key
less zero keys = keys
less (suc c) keys = without_last (less c keys)

abbrev pub left_of : ℕ → Option (Last (List Key)) → List Key
left_of n None = []
left_of n (Some l) = less (count_by (dials n) l.since) l.told

-- the keys of the last list that it took, in the order that was drawn, less one from the end for each that it asked for since
abbrev pub dial_list : List Telling → ℕ → List Key
dial_list ts n = left_of n (last_told (lists n) ts)

-- whether it waits for an answer
abbrev pub asks : ℕ → Telling → Option Bool
asks n (telling.node_started m at) = cond (m == n) (Some false) None
asks n (telling.answer_taken m) = cond (m == n) (Some false) None
asks n (telling.list_asked m at) = cond (m == n) (Some true) None
asks n (telling.dial_asked m) = cond (m == n) (Some true) None
asks n _ = None

-- it asked a question whose answer it has not taken
abbrev pub is_asking : List Telling → ℕ → Bool
is_asking ts n = last_or false (asks n) ts

-- the moment from which it dials or asks again
abbrev pub sets_deadline : Pace → ℕ → Telling → Option ℕ
sets_deadline pace n (telling.node_started m at) = cond (m == n) (Some at) None
sets_deadline pace n (telling.list_taken m asked seed next peers) = cond (m == n) (Some (next_deadline pace asked peers next)) None
sets_deadline pace n (telling.dial_due m at) = cond (m == n) (Some (after_dial pace at)) None
sets_deadline pace n _ = None

-- the start of its node, and then as the last list that it took or the last deadline with a list says
abbrev pub dial_deadline : Pace → List Telling → ℕ → ℕ
dial_deadline pace ts n = last_or 0 (sets_deadline pace n) ts

abbrev pub dials_in : Pace → List Telling → ℕ → Dials
dials_in pace ts n = record {
  peers = dial_list ts n;
  deadline = dial_deadline pace ts n;
  asked_at = last_or 0 (asks_list n) ts;
  is_asking = is_asking ts n;
}

unfoldable pub dials_of : List Config → List Entry → ℕ → Dials
dials_of configs log n = dials_in (pace_at configs n) (told log) n

-- ---- its step

-- the dial of this key, where there is one
abbrev pub dial_puts : ℕ → Option Key → List (Queue × Item)
dial_puts n None = []
dial_puts n (Some k) = (queue.Tracker n, item.AskDial k) ∷ []

-- it asks for the last of these keys, once it took this
abbrev pub dials_row : ℕ → List (ℕ × ℕ) → List Key → Row
dials_row n names peers = record { reply = reply.Ok; takes = names; puts = dial_puts n (last_key peers); ends = [] }

-- an answer is taken: a grant begins an attempt, and after any other it asks for the next key
abbrev pub answer_taken_row : ℕ → ℕ → Dials → ℕ × ℕ → Item → Row
answer_taken_row n seed d name (item.Dialable next peers) = dials_row n (name ∷ []) (in_drawn_order seed peers)
answer_taken_row n seed d name (item.Dial None) = dials_row n (name ∷ []) d.peers
answer_taken_row n seed d name (item.Dial (Some grant)) = taken_row name
answer_taken_row n seed d name _ = only reply.Idle

-- its deadline has come: it dials the next key, and without one asks whom to dial
abbrev pub due_row : ℕ → List Key → Row
due_row n [] = record { reply = reply.Ok; takes = []; puts = (queue.Tracker n, item.AskDialable) ∷ []; ends = [] }
due_row n (k ∷ ks) = dials_row n [] (k ∷ ks)

-- the oldest answer, or else the deadline where it waits for no answer
abbrev pub dialer_turn : ℕ → ℕ → ℕ → Dials → List Envelope → Row
dialer_turn n at seed d [] = cond (not d.is_asking && nat_le d.deadline at) (due_row n d.peers) (only reply.Idle)
dialer_turn n at seed d (x ∷ xs) = answer_taken_row n seed d (name_of x) x.item

abbrev pub dialer_row : List Config → List Entry → ℕ → ℕ → ℕ → Row
dialer_row configs log n at seed = cond (is_up log n) (dialer_turn n at seed (dials_of configs log n) (line log (queue.Dialer n))) (only reply.Gone)
