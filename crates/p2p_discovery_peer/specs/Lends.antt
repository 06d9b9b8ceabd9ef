-- What a connection ends as, where it lends its control.
use Rattle.std.specs.Borrow.{Lends, Fml, RattleType, MutBor}
use Rattle.p2p_base.specs.Queue.{Queue}
use Rattle.p2p_discovery_directory.specs.contracts.peer.mailbox.Mailbox as mailbox
use Rattle.p2p_discovery_directory.specs.declared.peer.message.Message.{Message}
use Rattle.p2p_discovery_peer.specs.Connection.{Connection}
use Rattle.p2p_discovery_peer.specs.contracts.peer.actor.Actor as actor

module _ (P : RattleType) where
  -- once the borrow ends, the connection has the control that was left behind it
  abbrev pub lends_control : MutBor (Connection P.Denot) → MutBor (Queue (Message P.Denot)) → Fml
  lends_control a r = Lends (actor.the_row P) (mailbox.the_row P) a r (λ w. record a.now { control = w })
