-- What a connection ends as, where it lends its control.
use Rattle.std.specs.Borrow.{Lends, Fml, RattleType, MutBor}
use Rattle.p2p_base.specs.Queue.{Queue}
use Rattle.p2p_lookup.specs.Connection.{Connection}
use Rattle.p2p_lookup.specs.declared.peer.mailbox.Message.{Message}
use Rattle.p2p_lookup.specs.contracts.peer.actor.Actor as actor
use Rattle.p2p_lookup.specs.contracts.peer.mailbox.Mailbox as mailbox

module _ (P : RattleType) where
  -- once the borrow ends, the connection has the control that was left behind it
  abbrev pub lends_control : MutBor (Connection P.Denot) → MutBor (Queue Message) → Fml
  lends_control a r = Lends (actor.the_row P) mailbox.the_row a r (λ w. record a.now { control = w })
