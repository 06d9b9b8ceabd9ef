-- The handshakes of a node that have not ended, and what they took, by what was told.
use Rattle.std.specs.Prelude.{ℕ, ◌==◌, ◌&&◌, Bool, false, List, Option}
use Rattle.std.specs.List.{list_any}
use Rattle.std.specs.Option.{option_map}
use Rattle.p2p_address.specs.declared.ip.IpAddr.{IpAddr}
use Rattle.p2p_log.specs.declared.item.Item.{Item}
use Rattle.p2p_log.specs.declared.entry.Entry.{Entry}
pub use Rattle.p2p_log_rules.specs.HandshakeSteps.{ends_handshake, takes_acceptance, takes_exchange}
use Rattle.p2p_log_rules.specs.Tellings.{Telling, any_or}
use Rattle.p2p_log_rules.specs.Tellings as telling
pub use Rattle.p2p_log_rules.specs.Told.{Handshake, begins_handshake, ends_named}
use Rattle.p2p_log_rules.specs.Told.{told, handshake_in, link_over, handshakes_in}

-- ---- what began them

-- what began the handshake of this name, where one began
abbrev pub handshake_at : List Entry → ℕ → Option Handshake
handshake_at log name = handshake_in (told log) name

-- the address from which its peer came
abbrev pub source_at : List Entry → ℕ → Option IpAddr
source_at log name = option_map (λ (h : Handshake). h.source) (handshake_at log name)

-- and the link over which it came
abbrev pub came_over : List Entry → ℕ → Option ℕ
came_over log name = link_over (handshake_at log name)

-- ---- those that have not ended

-- the handshakes of a node that began and have not ended since, by the events that began them, the oldest first
unfoldable pub handshakes_of : List Entry → ℕ → List ℕ
handshakes_of log n = handshakes_in (told log) n

-- whether a handshake has begun and has not ended
abbrev pub is_handshaking : List Entry → ℕ → ℕ → Bool
is_handshaking log n name = list_any (λ k. name == k) (handshakes_of log n)

-- ---- what they took

abbrev pub takes_such : (List Item → Bool) → ℕ → ℕ → Telling → Bool
takes_such test n name (telling.handshake_took m h items) = ((m == n) && (h == name)) && test items
takes_such test n name _ = false

-- whether a handshake took such items
unfoldable pub has_taken : (List Item → Bool) → List Entry → ℕ → ℕ → Bool
has_taken test log n name = any_or false (takes_such test n name) (told log)

-- whether a handshake took that its peer may connect
abbrev pub is_accepted : List Entry → ℕ → ℕ → Bool
is_accepted log n name = has_taken takes_acceptance log n name

-- whether it was told that keys were exchanged
abbrev pub is_finished : List Entry → ℕ → ℕ → Bool
is_finished log n name = has_taken takes_exchange log n name
