-- What a step of a handshake comes to, by what it took.
use Rattle.std.specs.Prelude.{Bool, true, false, List, ◌∷◌}
use Rattle.p2p_log.specs.declared.item.Item.{Item}
use Rattle.p2p_log.specs.declared.item.Item.TheVariants as item
use Rattle.p2p_log.specs.declared.entry.Reply.{Reply}
use Rattle.p2p_log.specs.declared.entry.Reply.TheVariants as reply

-- a handshake ends at a step of this reply that took these: by all but word that its peer may connect, and that keys were exchanged
abbrev pub ends_handshake : Reply → List Item → Bool
ends_handshake reply.Ok (item.Acceptable true ∷ items) = false
ends_handshake reply.Ok (item.Finished true ∷ items) = false
ends_handshake reply.Ok _ = true
ends_handshake _ items = false

-- whether word that its peer may connect is what was taken
abbrev pub takes_acceptance : List Item → Bool
takes_acceptance (item.Acceptable true ∷ items) = true
takes_acceptance _ = false

-- whether word that keys were exchanged is what was taken
abbrev pub takes_exchange : List Item → Bool
takes_exchange (item.Finished true ∷ items) = true
takes_exchange _ = false
