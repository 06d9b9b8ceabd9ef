-- The copies of accepted sends: whom they are for, what carries them, and what ends them.
use Rattle.std.specs.Prelude.{◌≡◌, ℕ, ◌+◌, Bool, false, ◌==◌, ◌&&◌, nat_lt, List, [], ◌∷◌, length, flat_map, count_by, Some}
use Rattle.p2p_base.specs.declared.key.Key.{Key}
use Rattle.p2p_log.specs.declared.item.Item.{Item}
use Rattle.p2p_log.specs.declared.item.Item.TheVariants as item
use Rattle.p2p_log.specs.declared.item.Envelope.{Envelope}
use Rattle.p2p_log.specs.declared.end.End.{End}
use Rattle.p2p_log.specs.declared.end.End.TheVariants as end
use Rattle.p2p_log.specs.declared.entry.Entry.{Entry}
use Rattle.p2p_log.specs.declared.entry.Reply.{Reply}
use Rattle.p2p_log.specs.declared.event.Act.{Act}
use Rattle.p2p_log.specs.declared.event.Recipients.{Recipients}
use Rattle.p2p_log.specs.declared.event.Recipients.TheVariants as recipients
use Rattle.p2p_log.specs.Lines.{same_name, live}
use Rattle.p2p_log.specs.Sending.{sending_of, sending_at, keys_sent}

-- whom a message is for, in order, where these are all
abbrev pub keys_of_recipients : List Key → Recipients → List Key
keys_of_recipients all recipients.All = all
keys_of_recipients all (recipients.One k) = k ∷ []
keys_of_recipients all (recipients.Some ks) = ks

-- the keys for whom an act with this reply sends
abbrev pub accepted_by : Act → Reply → List Key
accepted_by a r = keys_sent (sending_of a r)

-- the keys for whom a send was accepted, in order
abbrev pub accepted : List Entry → ℕ → List Key
accepted log send = keys_sent (sending_at log send)

-- the copies of a send, from this place on
abbrev pub copies_from : ℕ → ℕ → List Key → List (ℕ × ℕ)
copies_from send p [] = []
copies_from send p (k ∷ ks) = (send, p) ∷ copies_from send (p + 1) ks

-- the copies that an item carries, in order
abbrev pub copies_of : Item → List (ℕ × ℕ)
copies_of (item.Content c frame priority send to) = copies_from send 0 to
copies_of (item.Frame (Some copy) frame) = copy ∷ []
copies_of (item.Held channel bytes copy) = copy ∷ []
copies_of (item.Message bytes copy from) = copy ∷ []
copies_of _ = []

-- whether an item carries the copy of this name
abbrev pub carries_copy : ℕ × ℕ → Item → Bool
carries_copy copy (item.Content c frame priority send to) = (send == copy.0) && nat_lt copy.1 (length to)
carries_copy copy (item.Frame (Some other) frame) = same_name copy other
carries_copy copy (item.Held channel bytes other) = same_name copy other
carries_copy copy (item.Message bytes other from) = same_name copy other
carries_copy copy _ = false

abbrev pub carries : ℕ × ℕ → Envelope → Bool
carries copy x = carries_copy copy x.item

-- whether an end is the copy's
abbrev pub ends_copy : ℕ × ℕ → End → Bool
ends_copy copy (end.Item n p) = false
ends_copy copy (end.Copy send place o) = same_name copy (send, place)

-- all ends, in order
abbrev pub ends_of : List Entry → List End
ends_of log = flat_map (λ e. e.ends) log

-- how many items that stand in queues carry the copy
abbrev pub carriers : List Entry → ℕ × ℕ → ℕ
carriers log copy = count_by (carries copy) (live log)

-- how often the copy ended
abbrev pub times_ended : List Entry → ℕ × ℕ → ℕ
times_ended log copy = count_by (ends_copy copy) (ends_of log)

-- either one carrier of the copy stands in a queue and no entry ends it, or none does and one entry ends it, once
abbrev pub HasOneEnd : List Entry → ℕ × ℕ → Type 0
HasOneEnd log copy = carriers log copy + times_ended log copy ≡ 1
