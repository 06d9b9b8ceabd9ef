-- What a connection tells its router, and the router once its relay is closed.
use Rattle.std.specs.Prelude.{ℕ, Option, Some, None}
use Rattle.std.specs.declared.cmp.Ordering.{Ordering}
use Rattle.p2p_flow.specs.Lanes.{Lanes, closed_lanes}
use Rattle.p2p_wire.specs.declared.encoded.EncodedData.{EncodedData}
use Rattle.p2p_router.specs.Connections.{relay_at, with_relay_at}
use Rattle.p2p_router.specs.Mailbox.{appended}
use Rattle.p2p_router.specs.Messenger.{Desk, in_mailbox}
use Rattle.p2p_router.specs.Routes.{Routes}
use Rattle.p2p_router.specs.declared.message.Message.{Message}

module _ {P : Type 0} where
  -- with one more message for the router
  abbrev pub put_to_router : Desk P → Message P → Desk P
  put_to_router d m =
      record { binding = in_mailbox (λ q. appended q m) d.binding; waiting = d.waiting; lists = d.lists }

  module _ (cmp : P → P → Ordering) where
    abbrev pub relay_closed : Routes P → ℕ → Option (Lanes EncodedData) → Routes P
    relay_closed r conn None = r
    relay_closed r conn (Some lanes) = with_relay_at cmp r conn (closed_lanes lanes)

    -- the router once the relay of a connection is closed
    abbrev pub with_closed : Routes P → ℕ → Routes P
    with_closed r conn = relay_closed r conn (relay_at cmp r conn)
